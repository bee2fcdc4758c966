use Rattle.peer_links.proofs.WriteLaws.{line_whole, line_front}
use Rattle.peer_links.proofs.link.writing.write_line.Goals as goal

pub returns-then-write_front-line : goal.returns-then-write_front-line
returns-then-write_front-line g c
    = line_front _ _ c.args.line.now c.write_front.result c.if-write_front-line.true c.write_front.ensures.bytes

pub returns : goal.returns
returns g c = line_whole _ _ c.args.line.now c.write_front.result c.if-write_front-line.false
    c.write_front.ensures.bytes
