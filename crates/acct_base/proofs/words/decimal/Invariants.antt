-- What the loop of `decimal` keeps: the digits that it passed give the number so far.
use Rattle.std.proofs.Common.{◌≡◌, ◌<◌, ◌^◌, ◌≤◌, length, drop}
use Rattle.acct_base.specs.Words.{decimal_from}
use Rattle.acct_base.proofs.words.decimal.Given as goal

abbrev pub invariant-loop-digit : goal.invariant-loop-digit
invariant-loop-digit l = record {
  value : decimal_from l.number (drop l.digit-index l.digits) ≡ decimal_from 0 l.digits;
  small : l.number < 10 ^ l.digit-index;
  short : length l.digits ≤ 10;
}
