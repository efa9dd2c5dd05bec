-- What `parted` splits at the first separator are the parts before and after it, or none where there is none.
use Rattle.std.proofs.Common.{◌≡◌, ℕ, ◌<◌, List, Option, Some, None, Bor, option_map, arith}
use Rattle.std.proofs.lemmas.Bool.Decides.{nat_tests}
use Rattle.std.proofs.lemmas.Str.Pattern.{IsSplitOnceResult, split_once_first}
use Rattle.acct_base.specs.Words.{parted}
use Rattle.acct_config.proofs.words.parted.Goals as goal

parted_is : (separator : ℕ) (text : List ℕ) (r : Option (Bor (List ℕ) × Bor (List ℕ))) →
    IsSplitOnceResult separator text r → separator < 128
    → option_map (λ parts. (parts.0.now, parts.1.now)) r ≡ parted separator text
parted_is separator text None split low =
    let none = split_once_first separator text None split low in
    grind (arith, nat_tests)
parted_is separator text (Some parts) split low =
    let some = split_once_first separator text (Some parts) split low in
    grind (arith, nat_tests)

pub returns : goal.returns
returns c = parted_is c.args.separator c.args.text.now c.split_once.result c.split_once.ensures.cases c.requires
