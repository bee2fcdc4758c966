-- The results of a desk's calls, as events at that desk.
use Rattle.std.proofs.Common.{◌≡◌, ℕ, Option, None, Result, Ok, Err, refl, sym, ap, subst, ◌∙◌}
use Rattle.std.specs.Result.{IsErrAnd}
use Rattle.std.proofs.lemmas.Result.{err_from_is_err_and}
use Rattle.site_core.specs.declared.fault.DeskError.{DeskError}
use Rattle.site_core.specs.declared.fault.DeskError.TheVariants.{Closed, BadCount, BadMove, BadAmount, NoSuchSite}
use Rattle.site_core.specs.declared.fault.DeskError.TheVariants.{SameSite, PeerClosed, LogFull, Short, OutOfMemory}
use Rattle.site_core.specs.declared.fault.DeskError.TheVariants.{QueueFull, QueueBusy, HeldTooMuch, TimeWentBack}
use Rattle.site_core.specs.Desks.{DeskValue}
use Rattle.site_core.specs.Faults.{DeskRefuses}
use Rattle.world_core.specs.Values.{WorldValue}
use Rattle.world_core.specs.Worlds.{desk}
use Rattle.world_core.specs.Causes.{cause_of}
use Rattle.world_core.specs.DeskEvents.{AtDesk}
use Rattle.world_core.specs.declared.reply.Reply.{Reply}
use Rattle.world_core.specs.declared.fault.WorldError.{WorldError}
use Rattle.world_core.proofs.EventPlaces.{Lent, with_at, unchanged}

-- a desk's refusal, as the world's
refused_by : {A : Type 0} (w new : WorldValue) (s : ℕ) (fault : Option DeskError) (Wants : Type 0)
    (Leaves : Reply A → DeskValue → Type 0) (cause : DeskError)
    → DeskRefuses {X = ℕ} fault (Err cause) → (cause ≡ OutOfMemory → Wants) → new ≡ w
    → AtDesk w s fault Wants Leaves (Err (cause_of cause)) new
refused_by w new s fault Wants Leaves OutOfMemory refuses wants same = (refuses, wants refl, same)
refused_by w new s fault Wants Leaves Closed refuses wants same = (refuses, same)
refused_by w new s fault Wants Leaves BadCount refuses wants same = (refuses, same)
refused_by w new s fault Wants Leaves BadMove refuses wants same = (refuses, same)
refused_by w new s fault Wants Leaves BadAmount refuses wants same = (refuses, same)
refused_by w new s fault Wants Leaves NoSuchSite refuses wants same = (refuses, same)
refused_by w new s fault Wants Leaves SameSite refuses wants same = (refuses, same)
refused_by w new s fault Wants Leaves PeerClosed refuses wants same = (refuses, same)
refused_by w new s fault Wants Leaves LogFull refuses wants same = (refuses, same)
refused_by w new s fault Wants Leaves Short refuses wants same = (refuses, same)
refused_by w new s fault Wants Leaves QueueFull refuses wants same = (refuses, same)
refused_by w new s fault Wants Leaves QueueBusy refuses wants same = (refuses, same)
refused_by w new s fault Wants Leaves HeldTooMuch refuses wants same = (refuses, same)
refused_by w new s fault Wants Leaves TimeWentBack refuses wants same = (refuses, same)

-- a call that the desk of s refuses, by the desk as it was lent
pub refused : {A : Type 0} (fault : DeskValue → Option DeskError) (Wants : DeskValue → Type 0)
    (Leaves : DeskValue → Reply A → DeskValue → Type 0)
    (there w : WorldValue) (i s : ℕ) (was d : DeskValue) (cause : DeskError) (outcome : Result (Reply A) WorldError)
    → Lent there w i s was → DeskRefuses {X = ℕ} (fault was) (Err cause) → (cause ≡ OutOfMemory → Wants was)
    → d ≡ was → IsErrAnd outcome (λ e. e ≡ cause_of cause)
    → AtDesk w s (fault (desk w s)) (Wants (desk w s)) (Leaves (desk w s)) outcome (with_at there i d)
refused fault Wants Leaves there w i s was d cause outcome at refuses wants same told =
    let err = err_from_is_err_and outcome told in
    let here : DeskRefuses {X = ℕ} (fault (desk w s)) (Err cause) =
    subst (λ x. DeskRefuses {X = ℕ} (fault x) (Err cause)) at.is refuses in
    let left : with_at there i d ≡ w = unchanged there w i s was d at same in
    subst (λ o. AtDesk w s (fault (desk w s)) (Wants (desk w s)) (Leaves (desk w s)) o (with_at there i d))
    (sym (err.1 ∙ ap (λ e. Err e) err.2))
    (refused_by w (with_at there i d) s (fault (desk w s)) (Wants (desk w s)) (Leaves (desk w s)) cause here
    (λ e. subst Wants at.is (wants e)) left)

-- a call that the desk of s does not refuse
pub done : {A : Type 0} (fault : DeskValue → Option DeskError) (Wants : DeskValue → Type 0)
    (Leaves : DeskValue → Reply A → DeskValue → Type 0)
    (there w : WorldValue) (i s : ℕ) (was d : DeskValue) (reply : Reply A)
    → Lent there w i s was → fault was ≡ None → Leaves was reply d
    → AtDesk w s (fault (desk w s)) (Wants (desk w s)) (Leaves (desk w s)) (Ok reply) (with_at there i d)
done fault Wants Leaves there w i s was d reply at none leaves =
    (subst (λ x. fault x ≡ None) at.is none, (d, subst (λ x. Leaves x reply d) at.is leaves, at.changed d))
