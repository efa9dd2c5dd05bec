-- By their bits, the masks deny an opening, or grant what is asked for, or with MAXIMUM_ALLOWED all that is granted.
use Rattle.std.proofs.Common.{◌≡◌, sym, true, false}
use Rattle.std.proofs.lemmas.Nat.{or_lt}
use Rattle.acct_codes.specs.Rights.{maximum_allowed}
use Rattle.dtyp_access.proofs.Masks.{shares_some, shares_no}
use Rattle.dtyp_access.specs.Granted.{shares}
use Rattle.dtyp_access.proofs.Opened.{are_masks, opened_none, opened_asked, opened_all}
use Rattle.dtyp_access.proofs.check.opening.Goals as goal

pub returns-then-asked-granted-ne0 : goal.returns-then-asked-granted-ne0
returns-then-asked-granted-ne0 c =
    let are = are_masks c.args.kind c.args.d.now c.args.token.now c.sids.result.now c.args.desired
    c.asked_rights-asked.result c.valid_bits.result c.granted_rights.result
    c.asked_rights-asked.type_inv c.granted_rights.type_inv c.asked_rights-asked.ensures c.valid_bits.ensures
    c.sids.ensures c.granted_rights.ensures in
    sym (opened_none _ _ _ _ _ _ are c.if-asked-granted-ne0.true)

pub returns-then-desired-ne0 : goal.returns-then-desired-ne0
returns-then-desired-ne0 c =
    let are = are_masks c.args.kind c.args.d.now c.args.token.now c.sids.result.now c.args.desired
    c.asked_rights-asked.result c.valid_bits.result c.granted_rights.result
    c.asked_rights-asked.type_inv c.granted_rights.type_inv c.asked_rights-asked.ensures c.valid_bits.ensures
    c.sids.ensures c.granted_rights.ensures in
    let maximum : shares c.args.desired maximum_allowed ≡ true =
    shares_some c.args.desired maximum_allowed c.if-desired-ne0.true in
    sym (opened_all _ _ _ _ _ _ are c.if-asked-granted-ne0.false (or_lt 32 _ _ are.asked_fits are.may_fits) maximum)

pub returns-else-desired-ne0 : goal.returns-else-desired-ne0
returns-else-desired-ne0 c =
    let are = are_masks c.args.kind c.args.d.now c.args.token.now c.sids.result.now c.args.desired
    c.asked_rights-asked.result c.valid_bits.result c.granted_rights.result
    c.asked_rights-asked.type_inv c.granted_rights.type_inv c.asked_rights-asked.ensures c.valid_bits.ensures
    c.sids.ensures c.granted_rights.ensures in
    let plain : shares c.args.desired maximum_allowed ≡ false =
    shares_no c.args.desired maximum_allowed c.if-desired-ne0.false in
    sym (opened_asked _ _ _ _ _ _ are c.if-asked-granted-ne0.false plain)
