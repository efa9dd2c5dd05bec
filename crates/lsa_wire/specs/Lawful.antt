-- What the interface owes for its codecs.
use Rattle.ndr_types.proofs.Onward.{goes_onward}
use Rattle.ndr_types.proofs.Spelled.{writable}
use Rattle.acct_stubs.specs.Lawful.{IsLawful}
use Rattle.lsa_wire.specs.Interface.{lsa}
use Rattle.lsa_wire.specs.Complete.{fields_complete}
use Rattle.lsa_wire.specs.FieldValues.{fields_kind, fields_fit}
use Rattle.lsa_wire.specs.Onward.{fields_onward, replies_onward}
use Rattle.lsa_wire.specs.ReplyValues.{reply_fits, reply_kind, reply_writable}

pub lsa_lawful : IsLawful lsa
lsa_lawful = record {
  writable = λ f. writable (fields_complete f);
  kind = fields_kind;
  fits = fields_fit;
  onward = λ f. goes_onward (fields_onward f);
  writable_reply = reply_writable;
  reply_kind = reply_kind;
  reply_fits = reply_fits;
  reply_onward = λ o. goes_onward (replies_onward o);
}
