use Rattle.entry_codec.proofs.Streams.{through_found, through_missed}
use Rattle.entry_codec.proofs.cutter.count_through.Goals as goal

pub returns-in-Some-clause-count : goal.returns-in-Some-clause-count
returns-in-Some-clause-count c = through_found c.args.bytes.now c.in-Some.index c.in-Some.ensures

pub returns-in-None-clause-count : goal.returns-in-None-clause-count
returns-in-None-clause-count c = through_missed c.args.bytes.now c.in-None.ensures
