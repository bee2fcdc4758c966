use Rattle.line_streams.proofs.ReplyLaws.{finished}
use Rattle.line_streams.proofs.replies.Replies.finish.Goals as goal

pub returns-clause-ok : goal.returns-clause-ok
returns-clause-ok g c = finished c.args.self.now _ c.self.inside.bytes.items c.self.inside.whole c.self.inside.end _
    c.self.invariant.0 c.self.view_is c.in_ok-put.ensures.kept c.in_ok-put.ensures.ok
