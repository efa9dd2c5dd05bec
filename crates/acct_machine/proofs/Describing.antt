-- The descriptor of an object keeps the limits of its parts: that of a row, and the one that is configured.
use Rattle.std.proofs.Common.{◌≡◌, ℕ, List, Option, Some, None, option_map, refl, sym, subst, IfSome}
use Rattle.std.specs.List.{All, slice_get}
use Rattle.std.specs.Option.{option_or}
use Rattle.std.proofs.lemmas.Option.{slice_get_within, get_or_from_slice_get}
use Rattle.dtyp_access.specs.declared.descriptor.Descriptor.{Descriptor}
use Rattle.dtyp_access.specs.Parts.{IsDescriptor}
use Rattle.acct_config.specs.declared.config.Config.{Config}
use Rattle.acct_config.specs.Kinds.{kind_place}
use Rattle.acct_config.specs.Spelled.{IsRightConfig}
use Rattle.acct_tables.specs.declared.object.Object.{Object}
use Rattle.acct_tables.specs.declared.row.DescRow.{DescRow}
use Rattle.acct_tables.specs.Keys.{kind_of}
use Rattle.acct_rows.specs.Rows.{Lists, desc_at, descriptor_of}
use Rattle.acct_rows.specs.Sound.{IsSoundRows}
use Rattle.acct_machine.specs.Access.{configured, described_in}

row-limits : (r : Lists) (object : Object) (row : Option DescRow) → IsSoundRows r → desc_at r object ≡ row
    → IfSome (option_map (λ (d : DescRow). d.descriptor) row) IsDescriptor
row-limits r object None sound is = tt
row-limits r object (Some d) sound is = sound.desc_rules object d is

place-limits : (descriptors : List Descriptor) (place : ℕ) (found : Option Descriptor) → All IsDescriptor descriptors
    → slice_get descriptors place ≡ found → IfSome found IsDescriptor
place-limits descriptors place None all is = tt
place-limits descriptors place (Some d) all is =
    subst IsDescriptor (get_or_from_slice_get descriptors place d d is)
    (all place d (slice_get_within descriptors place d is))

either-limits : (row others : Option Descriptor) → IfSome row IsDescriptor → IfSome others IsDescriptor
    → IfSome (option_or row others) IsDescriptor
either-limits None others first second = second
either-limits (Some d) others first second = first

pub described-limits : (config : Config) (r : Lists) (object : Object) → IsRightConfig config → IsSoundRows r
    → IfSome (described_in config r object) IsDescriptor
described-limits config r object right sound =
    either-limits (descriptor_of r object) (configured config (kind_of object))
    (row-limits r object (desc_at r object) sound refl)
    (place-limits config.descriptors (kind_place (kind_of object)) (configured config (kind_of object)) right.parts
    refl)

-- so does a descriptor that was found to be the object's
pub limits-of : (config : Config) (r : Lists) (object : Object) (d : Descriptor) → IsRightConfig config → IsSoundRows r
    → Some d ≡ described_in config r object → IsDescriptor d
limits-of config r object d right sound is =
    subst (λ (o : Option Descriptor). IfSome o IsDescriptor) (sym is) (described-limits config r object right sound)
