use Rattle.std.proofs.Common.{sym, subst}
use Rattle.thread_parts.specs.Items.{Continues}
use Rattle.thread_parts.proofs.Items.{begins_chain}
use Rattle.shared_desk_tests.proofs.tests.drops.put_some.Goals as goal

pub loop-number-init : goal.loop-number-init
loop-number-init g c =
    λ f of at valid. subst (λ l. Continues l f) (sym c.requires) (begins_chain f (record { prev = at; valid = valid }))
