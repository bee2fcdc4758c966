use Rattle.entry_codec.proofs.Lines.{first_piece}
use Rattle.entry_codec.proofs.Room.{line_room}
use Rattle.entry_codec.proofs.laws.reads_on.Goals as goal

pub returns-clause-piece : goal.returns-clause-piece
returns-clause-piece c = first_piece

pub returns-clause-fits : goal.returns-clause-fits
returns-clause-fits c = line_room
