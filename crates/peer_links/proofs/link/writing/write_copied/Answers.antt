use Rattle.peer_links.proofs.WriteLaws.{sent_all, sent_front}
use Rattle.peer_links.proofs.link.writing.write_copied.Goals as goal

pub returns-then-written-text : goal.returns-then-written-text
returns-then-written-text g c =
    let lines = c.requires in
    let wrote = c.write_front-written in
    sent_front g.S.LineSource.takes _ _ _ _ lines.0 c.args.text.now lines.2 wrote.result c.begun.result c.begun.ensures
    (c.take_front.ensures lines.0 lines.1) wrote.ensures.bytes c.if-written-text.true

pub returns : goal.returns
returns g c =
    let lines = c.requires in
    let wrote = c.write_front-written in
    sent_all g.S.LineSource.takes _ _ _ _ lines.0 c.args.text.now lines.2 wrote.result c.begun.result c.begun.ensures
    (c.take_front.ensures lines.0 lines.1) wrote.ensures.bytes wrote.ensures.within c.if-written-text.false
