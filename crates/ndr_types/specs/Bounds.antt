-- What a writer asks of a value.
use Rattle.std.specs.Prelude.{ℕ, ◌<◌, ◌≤◌, ◌^◌, List, length}
use Rattle.acct_calls.specs.declared.lists.RidName.{RidName}
use Rattle.acct_calls.specs.declared.lists.ReferencedDomain.{ReferencedDomain}
use Rattle.acct_calls.specs.declared.lists.TranslatedName.{TranslatedName}
use Rattle.acct_calls.specs.declared.lists.DisplayRow.{DisplayRow}

-- A text's length in bytes has 16 bits and is even.
abbrev pub IsShort : List ℕ → Type 0
IsShort units = length units ≤ 32767

-- A list's count has 32 bits.
abbrev pub IsCounted : {A : Type 0} → List A → Type 0
IsCounted xs = length xs < 2 ^ 32

abbrev pub AnyValue : {A : Type 0} → A → Type 0
AnyValue x = Unit {0}

abbrev pub HasShortName : RidName → Type 0
HasShortName account = IsShort account.name

abbrev pub IsShortPlace : ReferencedDomain → Type 0
IsShortPlace place = IsShort place.name

abbrev pub HasShortText : TranslatedName → Type 0
HasShortText entry = IsShort entry.name

abbrev pub HasShortTexts : DisplayRow → Type 0
HasShortTexts row = IsShort row.name × IsShort row.comment × IsShort row.full_name
