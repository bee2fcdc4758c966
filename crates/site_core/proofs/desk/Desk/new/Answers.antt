use Rattle.site_core.proofs.DeskLaws.{new_is_desk}
use Rattle.site_core.proofs.desk.Desk.new.Goals as goal

pub invariant_of-result : goal.invariant_of-result
invariant_of-result g c = rw (c.in_ok-new.ensures.made, c.in_ok-new-2.ensures, c.new-3.ensures.made)
    (new_is_desk c.args.me c.args.sites)
