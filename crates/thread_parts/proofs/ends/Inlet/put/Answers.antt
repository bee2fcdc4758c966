use Rattle.std.proofs.Common.{subst, sym, rules}
use Rattle.thread_parts.specs.Items.{IsOpen, Continues}
use Rattle.thread_parts.proofs.Items.{continued, continues_on, open_push}
use Rattle.thread_parts.proofs.ends.Inlet.put.Goals as goal

pub send-requires : goal.send-requires
send-requires g c _ = continued _ _ c.requires

pub returns-in-Ok-clause-open : goal.returns-in-Ok-clause-open
returns-in-Ok-clause-open g c = subst IsOpen (sym c.in-Ok.ensures.ok.0) (open_push _ _ (c.requires.1, c.requires.2))

pub returns-in-Ok-clause-next : goal.returns-in-Ok-clause-next
returns-in-Ok-clause-next g c f follows
    = subst (λ l. Continues l f) (sym c.in-Ok.ensures.ok.0) (continues_on _ _ f c.requires follows)

pub returns-in-Ok-clause-lane : goal.returns-in-Ok-clause-lane
returns-in-Ok-clause-lane g c = search rules

pub returns-in-Ok-clause-ok : goal.returns-in-Ok-clause-ok
returns-in-Ok-clause-ok g c = search rules

pub returns-in-Ok-clause-dead : goal.returns-in-Ok-clause-dead
returns-in-Ok-clause-dead g c = search rules

pub returns-in-Err-Entry-clause-err : goal.returns-in-Err-Entry-clause-err
returns-in-Err-Entry-clause-err g c = search rules

pub returns-in-Err-Entry-clause-dead : goal.returns-in-Err-Entry-clause-dead
returns-in-Err-Entry-clause-dead g c = search rules
