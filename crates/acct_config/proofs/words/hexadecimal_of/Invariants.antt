-- The number so far, taken on by the digits left, is that of all the digits; the count passed bounds it.
use Rattle.std.proofs.Common.{◌≡◌, ◌<◌, ◌^◌, ◌≤◌, length, drop}
use Rattle.acct_config.specs.Values.{hexadecimal_from}
use Rattle.acct_config.proofs.words.hexadecimal_of.Given as goal

abbrev pub invariant-loop-byte : goal.invariant-loop-byte
invariant-loop-byte l = record {
  value : hexadecimal_from l.number (drop l.byte-index l.text) ≡ hexadecimal_from 0 l.text;
  small : l.number < 16 ^ l.byte-index;
  short : length l.text ≤ 8;
}
