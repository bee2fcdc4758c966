use Rattle.journal_device.proofs.ChangeLaws.{changes_push}
use Rattle.journal_device.proofs.change.keep.Goals as goal

pub returns-clause-kept : goal.returns-clause-kept
returns-clause-kept g c = λ written len file. rw c.in_ok-push.ensures.items (changes_push c.args.changes.now.items c.args.change written len file)
