use Rattle.rights_types.specs.Messages.MessageValue.{AnEntry}
use Rattle.inbound.proofs.InboundLaws.{from_origin, all_from_origin}
use Rattle.inbound.proofs.inbound.Inbound.take_in.Goals as goal

pub take_entry-requires : goal.take_entry-requires
take_entry-requires g c = from_origin c.args.self.now (AnEntry c.in-Push.entry) (rw c.in-Push.is at c.requires)

pub take_entries-requires-clause-origin : goal.take_entries-requires-clause-origin
take_entries-requires-clause-origin g c =
    rw c.into_entries.ensures.value (all_from_origin c.args.self.now c.in-Answer.answer c.into_entries.ensures.valid
    (rw c.in-Answer.is at c.requires))
