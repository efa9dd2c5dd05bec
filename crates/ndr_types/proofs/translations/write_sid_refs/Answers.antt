-- What is written is the list, at every limit.
use Rattle.ndr_types.proofs.translations.write_sid_refs.Goals as goal

pub returns : goal.returns
returns c = rw (← c.as_slice.ensures) c.write_flagged_list.ensures
