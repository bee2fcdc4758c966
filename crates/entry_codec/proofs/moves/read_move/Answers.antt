use Rattle.entry_codec.proofs.MoveFields.{move_found, move_only}
use Rattle.entry_codec.proofs.moves.read_move.Goals as goal

pub returns-clause-found : goal.returns-clause-found
returns-clause-found c = move_found c.args.field.now c.move_of_field.result c.move_of_field.ensures

pub returns-clause-only : goal.returns-clause-only
returns-clause-only c = move_only c.args.field.now c.move_of_field.result c.move_of_field.ensures
