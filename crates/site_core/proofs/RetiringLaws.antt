-- Closing, and what is reclaimed from a site that closed.
use Rattle.std.proofs.Common.{◌≡◌, ℕ, Bool, true, false, cond, eqb, List, [], ◌∷◌, ◌++◌, Option, Some, None, refl, ap}
use Rattle.std.proofs.Common.{sym, ◌∙◌, arith, append-nil}
use Rattle.rights_types.specs.Entries.{EntryValue}
use Rattle.rights_types.specs.Chains.{is_closed, moves_of}
use Rattle.rights_types.specs.Messages.{AskValue}
use Rattle.rights_types.specs.declared.moves.Move.{Move}
use Rattle.rights_types.specs.declared.moves.Move.TheVariants.{Give, CloseAt, TakeBack}
use Rattle.origin_log.specs.Logs.{LogValue}
use Rattle.rights_book.specs.Books.{BookValue, sites, held_by}
use Rattle.transfer_manager.specs.Managers.{ManagerValue, SameSystem}
use Rattle.transfer_manager.specs.AskAnswers.{IsAnswered}
use Rattle.site_core.specs.Ledgers.{LedgerValue, frontier_of, closing_by, WritesClosing, with_takings, TakesBackIf}
use Rattle.site_core.specs.Ledgers.{AppliesEntry, owed_by}
use Rattle.site_core.specs.Desks.{DeskValue, grant_count, IsDesk}
use Rattle.site_core.specs.Faults.{has_closed}
use Rattle.site_core.proofs.DeskLaws.{grant_count-cons, closed_with, moves_with, kept}

-- ---- closing

heritage_grants : (j a heir n : ℕ) (none : Bool) (ms : List Move)
    → grant_count j a (cond none [] (Give heir n ∷ []) ++ ms) ≡ grant_count j a ms
heritage_grants j a heir n true ms = refl
heritage_grants j a heir n false ms = omega (arith, grant_count-cons j a (Give heir n) ms)

closing_grants : (j a : ℕ) (b : BookValue) (heir : Option ℕ) → grant_count j a (closing_by b heir) ≡ 0
closing_grants j a b None = omega (arith, grant_count-cons j a (CloseAt (frontier_of b)) [])
closing_grants j a b (Some heir) =
    omega (
      arith,
      heritage_grants j a heir (held_by b) (eqb (held_by b) 0) (CloseAt (frontier_of b) ∷ []),
      grant_count-cons j a (CloseAt (frontier_of b)) [],
    )

-- no spend waits in a desk that closes
pub closed : (d : DeskValue) (heir : Option ℕ) (new : LedgerValue) → IsDesk d → WritesClosing d.ledger heir new
    → d.queue.waiting ≡ [] → IsDesk (record d { ledger = new })
closed d heir new is w none =
    let ms : List Move = closing_by d.ledger.book heir in
    kept d (record d { ledger = new }) ms is (ap (λ (l : LogValue). l.site) w.log)
    (ap (λ (l : LogValue). moves_of l.entries) w.log ∙ moves_with d.ledger.log ms)
    (λ j a. closing_grants j a d.ledger.book heir) w.book.same_sites (record { same_me = refl; same_sites = refl })
    (λ past h. h) (λ h. none)

-- ---- an entry of another site

-- what may have been reclaimed from o: n rights, or nothing
abbrev taking : Bool → ℕ → ℕ → List Move
taking none o n = cond none [] (TakeBack o n ∷ [])

abbrev takings : Bool → ℕ → ℕ → List (List Move)
takings none o n = cond none [] ((TakeBack o n ∷ []) ∷ [])

taking_grants : (none : Bool) (o n j a : ℕ) → grant_count j a (taking none o n) ≡ 0
taking_grants true o n j a = refl
taking_grants false o n j a = omega (arith, grant_count-cons j a (TakeBack o n) [])

moves_taken : (none : Bool) (log : LogValue) (o n : ℕ)
    → moves_of (with_takings log (takings none o n)).entries ≡ moves_of log.entries ++ taking none o n
moves_taken true log o n = ap moves_of (append-nil log.entries) ∙ sym (append-nil (moves_of log.entries))
moves_taken false log o n = moves_with log (TakeBack o n ∷ [])

open_taken : (none : Bool) (log : LogValue) (o n : ℕ) → is_closed log.entries ≡ false
    → is_closed (with_takings log (takings none o n)).entries ≡ false
open_taken true log o n opened = ap is_closed (append-nil log.entries) ∙ opened
open_taken false log o n opened = closed_with log (TakeBack o n ∷ [])

pub sites_taken : (none : Bool) (old : BookValue) (o n : ℕ) (new : BookValue) → TakesBackIf none old o n new
    → sites new ≡ sites old
sites_taken true old o n new t = ap (λ (b : BookValue). sites b) t
sites_taken false old o n new t = t.same_sites

-- after an entry was applied, once the asks that it grants have ended
pub applied : (d : DeskValue) (o : ℕ) (e : EntryValue) (new : LedgerValue) (m : ManagerValue) → IsDesk d
    → has_closed d ≡ false → AppliesEntry d.ledger o e new
    → SameSystem d.manager m → ((past : AskValue) → IsAnswered d.manager past → IsAnswered m past)
    → IsDesk (record d { ledger = new; manager = m })
applied d o e new m is opened a same answered =
    let n : ℕ = owed_by d.ledger o e in
    let none : Bool = eqb n 0 in
    let still : is_closed new.log.entries ≡ false = ap (λ (l : LogValue). is_closed l.entries) a.log
    ∙ open_taken none d.ledger.log o n opened in
    kept d (record d { ledger = new; manager = m }) (taking none o n) is (ap (λ (l : LogValue). l.site) a.log)
    (ap (λ (l : LogValue). moves_of l.entries) a.log ∙ moves_taken none d.ledger.log o n) (taking_grants none o n)
    (a.book.same_sites ∙ sites_taken none d.ledger.book o n a.between a.taken) same answered (λ closed. absurd cc)
