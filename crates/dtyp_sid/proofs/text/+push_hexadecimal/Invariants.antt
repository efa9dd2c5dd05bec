-- The count of digits to add is less in the inner call.
use Rattle.dtyp_sid.proofs.text.+push_hexadecimal.Given as goal

abbrev pub decreases-push_hexadecimal : goal.decreases-push_hexadecimal
decreases-push_hexadecimal l = l.count
