use Rattle.std.proofs.Common.{arith}
use Rattle.journal_check.specs.Texts.{site_text}
use Rattle.journal_check.proofs.CheckLaws.{describes_site}
use Rattle.journal_check.proofs.check.put_journal.Goals as goal

pub returns-in_ok-put_site-in-Of-clause-says : goal.returns-in_ok-put_site-in-Of-clause-says
returns-in_ok-put_site-in-Of-clause-says g c honest =
    let restored = c.in_ok-restored-in-Of.ensures.restores honest in
    let later = c.read_first.ensures.later in (
      site_text c.args.json c.in-Of.owner c.in_ok-restored-in-Of.restored,
      describes_site _ _ (λ failed. omega (arith, failed, later)) _ _ c.args.json _ _ _ _
          (c.in_ok-owner.ensures.first restored.0) c.in-Of.is c.read_first.ensures.seen restored.1,
      c.in_ok-put_site-in-Of.ensures.ok,
    )
