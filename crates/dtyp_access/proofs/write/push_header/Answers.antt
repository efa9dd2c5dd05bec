-- The six fields pushed one after the other are the bytes of the header.
use Rattle.std.proofs.Common.{◌≡◌, ℕ, List, ◌++◌, ◌+◌, ◌∷◌, [], length, ap, ◌∙◌, refl}
use Rattle.std.specs.Prelude.{is_some}
use Rattle.std.specs.Int.{w16, w32, to_le_bytes}
use Rattle.dtyp_access.specs.declared.parts.Parts.{Parts}
use Rattle.dtyp_access.specs.Parts.{header_bytes, sid_bytes, control_of, offset_if}
use Rattle.dtyp_access.proofs.Writing.{six_pushed}
use Rattle.dtyp_access.proofs.write.push_header.Goals as goal

-- the fields of a header
fields_are : (p : Parts) (control owner group acl : ℕ) → control ≡ control_of p.acl
    → owner ≡ offset_if (is_some p.owner) 20
    → group ≡ offset_if (is_some p.group) (20 + length (sid_bytes p.owner))
    → acl ≡ offset_if (is_some p.acl) (20 + length (sid_bytes p.owner) + length (sid_bytes p.group))
    → (1 ∷ 0 ∷ []) ++ to_le_bytes w16 control ++ to_le_bytes w32 owner ++ to_le_bytes w32 group ++ to_le_bytes w32 0
    ++ to_le_bytes w32 acl ≡ header_bytes p
unfolding header_bytes
fields_are p control owner group acl is_control is_owner is_group is_acl =
    rw (is_control, is_owner, is_group, is_acl) refl

pub returns : goal.returns
returns c =
    let old = c.args.out.now.items in
    let p : Parts = record { owner = c.args.owner.now; group = c.args.group.now; acl = c.args.acl.now } in
    let behind_owner = 20 + length (sid_bytes p.owner) in
    let owner : c.offset_if.result ≡ offset_if (is_some p.owner) 20 = cc in
    let group : c.offset_if-2.result ≡ offset_if (is_some p.group) behind_owner = cc in
    let acl : c.offset_if-3.result ≡ offset_if (is_some p.acl) (behind_owner + length (sid_bytes p.group)) = cc in
    six_pushed old (1 ∷ 0 ∷ []) (to_le_bytes w16 c.control_of.result) (to_le_bytes w32 c.offset_if.result)
    (to_le_bytes w32 c.offset_if-2.result) (to_le_bytes w32 0) (to_le_bytes w32 c.offset_if-3.result)
    _ _ _ _ _ _ c.in_ok-push.ensures c.in_ok-push_u16.ensures c.in_ok-push_u32.ensures c.in_ok-push_u32-2.ensures
    c.in_ok-push_u32-3.ensures c.in_ok-push_u32-4.ensures
    ∙ ap (λ (bytes : List ℕ). old ++ bytes) (fields_are p c.control_of.result c.offset_if.result c.offset_if-2.result
    c.offset_if-3.result c.control_of.ensures owner group acl)
