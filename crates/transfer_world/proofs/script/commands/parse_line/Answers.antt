use Rattle.line_streams.specs.Words.{words_of, words_left}
use Rattle.transfer_world.proofs.CommandLaws.{take_memory}
use Rattle.transfer_world.proofs.script.commands.parse_line.Goals as goal

pub returns-in-Some-clause-memory : goal.returns-in-Some-clause-memory
returns-in-Some-clause-memory g c =
    take_memory c.in-Some.word (words_left c.in-Some.values) (words_of c.args.text.now) c.read_values.result
    c.in-Some.ensures c.read_values.ensures.memory
