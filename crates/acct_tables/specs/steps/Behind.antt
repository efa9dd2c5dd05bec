-- The rows of a domain and of an account by their first fields, with the texts that are read after those
use Rattle.std.specs.Prelude.{ℕ, ◌+◌, ◌*◌, ◌==◌, ◌&&◌, List, length, Option}
use Rattle.acct_codes.specs.declared.kind.Kind.{Kind}
use Rattle.dtyp_sid.specs.Sids.{SidValue}
use Rattle.acct_base.specs.Reading.{◌>>=◌, is_end}
use Rattle.acct_tables.specs.Stored.{only_if, text_at}
use Rattle.acct_tables.specs.declared.row.Row.{Row}
use Rattle.acct_tables.specs.declared.row.Row.TheVariants as rows

unfoldable pub named_domain : ℕ → ℕ → ℕ → SidValue → List ℕ → Option Row
named_domain number next_rid size sid texts = do
  name ← text_at texts
  oem ← text_at name.1
  only_if ((size == 8 + 4 * length sid.subs) && is_end oem.1) (rows.Domain (record {
    number = number;
    sid = sid;
    name = name.0;
    oem = oem.0;
    next_rid = next_rid;
  }))

unfoldable pub named_account : ℕ → ℕ → Kind → ℕ → ℕ → List ℕ → Option Row
named_account domain rid kind bits primary texts = do
  name ← text_at texts
  full_name ← text_at name.1
  comment ← text_at full_name.1
  only_if (is_end comment.1) (rows.Account (record {
    domain = domain;
    rid = rid;
    kind = kind;
    name = name.0;
    full_name = full_name.0;
    comment = comment.0;
    bits = bits;
    primary = primary;
  }))
