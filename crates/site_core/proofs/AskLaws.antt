-- Asks and the answers to them.
use Rattle.std.proofs.Common.{◌≡◌, ℕ, ◌+◌, ◌-◌, ◌≤◌, ◌≢◌, Bool, true, false, cond, eqb, List, [], ◌∷◌, ◌++◌, None, inl}
use Rattle.std.proofs.Common.{inr, refl, sym, ap, subst, ◌∙◌, arith}
use Rattle.std.specs.Prelude.{◌||◌, ◌&&◌}
use Rattle.std.proofs.lemmas.Bool.{cases_lt, eqb-true, ne_eqb, le-ltb}
use Rattle.rights_types.specs.Chains.{moves_of, is_closed}
use Rattle.rights_types.specs.Entries.{EntryValue}
use Rattle.rights_types.specs.Messages.{AskValue}
use Rattle.rights_types.specs.declared.moves.Move.{Move}
use Rattle.rights_types.specs.declared.moves.Move.TheVariants.{Grant}
use Rattle.rights_types.proofs.Sums.{covers_both}
use Rattle.origin_log.specs.Logs.{LogValue}
use Rattle.rights_book.specs.Books.{BookValue, sites, account, held_by}
use Rattle.rights_book.specs.Checks.{check_fault}
use Rattle.rights_book.specs.StandsFor.{StandsFor}
use Rattle.rights_book.proofs.CallLaws.{unrefused}
use Rattle.request_queue.specs.Queues.{total_of}
use Rattle.transfer_manager.specs.declared.answer.AskAnswer.TheVariants.{Grant as Granted}
use Rattle.transfer_manager.specs.Managers.{ManagerValue, SameSystem, sites as asked_sites}
use Rattle.transfer_manager.specs.Plans.{Plans, of_book, of_logs, beside}
use Rattle.transfer_manager.specs.AskAnswers.{answer_to, IsAnswered, IsLate}
use Rattle.site_core.specs.Ledgers.{WritesEntry, IsLedger}
use Rattle.site_core.specs.Desks.{DeskValue, grant_count, IsDesk}
use Rattle.site_core.specs.Faults.{has_closed, is_full}
use Rattle.site_core.specs.Calls.{DeskPlansBeside, available, answer_of}
use Rattle.site_core.proofs.DeskLaws.{one_if, grant_count-cons, grant_count-append, closed_with, moves_with}

-- ---- the asks alone change

pub asks_changed : (d : DeskValue) (m : ManagerValue) → IsDesk d → SameSystem d.manager m
    → ((past : AskValue) → IsAnswered d.manager past → IsAnswered m past) → IsDesk (record d { manager = m })
asks_changed d m is same answered = record {
  same_site = same.same_me ∙ is.same_site;
  same_sites = same.same_sites ∙ is.same_sites;
  idle = is.idle;
  once = is.once;
  answered = λ past h. answered past (is.answered past h);
}

-- a plan by the book, which is that of the ledger, is a plan by the logs
pub planned : (silent : ℕ → Bool) (d : DeskValue) (b : BookValue) (count : ℕ) (new : ManagerValue) → IsDesk d → IsLedger d.ledger
    → b ≡ d.ledger.book
    → Plans d.manager (beside silent (of_book b)) (total_of d.queue.waiting) count new
    → ((log : List EntryValue) (applied : ℕ → List EntryValue) → StandsFor log applied b
    → sites b ≡ asked_sites d.manager
    → Plans d.manager (beside silent (of_logs (asked_sites d.manager) b.me log applied)) (total_of d.queue.waiting)
    count new)
    → DeskPlansBeside silent d count (record d { manager = new })
planned silent d b count new is ledger same by_book by_logs =
    let queued : ℕ = total_of d.queue.waiting in record {
      by_book = subst (λ (x : BookValue). Plans d.manager (beside silent (of_book x)) queued count new) same by_book;
      by_logs = λ applied has.
          let log : List EntryValue = d.ledger.log.entries in
          let stands : StandsFor log applied b
          = subst (λ (x : BookValue). StandsFor log applied x) (sym same)
          (record { of_own = ledger.own; of_applied = has.in_book }) in
          let me : b.me ≡ d.ledger.log.site = ap (λ (x : BookValue). x.me) same ∙ ledger.same_site in
          let as_many : sites b ≡ asked_sites d.manager = ap (λ (x : BookValue). sites x) same ∙ sym is.same_sites in
          subst (λ n. Plans d.manager (beside silent (of_logs n d.ledger.log.site log applied)) queued count new) is.same_sites
          (subst (λ i. Plans d.manager (beside silent (of_logs (asked_sites d.manager) i log applied)) queued count new) me
          (by_logs log applied stands as_many));
      rest = refl;
    }

-- ---- what can be granted

-- n rights can be granted to site j: they are held, neither has closed, and the log has a number for the entry
pub record CanGrant (d : DeskValue) (j n : ℕ) : Type 0 where
  pub unclosed : has_closed d ≡ false
  pub open_peer : (account d.ledger.book j).closed ≡ false
  pub room : is_full d 1 ≡ false
  pub held : n ≤ held_by d.ledger.book

some_available : (closed gone full : Bool) (n most : ℕ) → 1 ≤ n → n ≤ cond (closed || gone || full) 0 most
    → (closed ≡ false) × (gone ≡ false) × (full ≡ false) × (n ≤ most)
some_available true gone full n most some le = absurd (omega arith)
some_available false true full n most some le = absurd (omega arith)
some_available false false true n most some le = absurd (omega arith)
some_available false false false n most some le = (refl, refl, refl, le)

-- if something is available
pub can_grant : (d : DeskValue) (j n : ℕ) → 1 ≤ n → n ≤ available d j → CanGrant d j n
can_grant d j n some le =
    let p = some_available (has_closed d) (account d.ledger.book j).closed (is_full d 1) n
    (held_by d.ledger.book - total_of d.queue.waiting) some le in
    record { unclosed = p.0; open_peer = p.1; room = p.2; held = omega (arith, p.3) }

pub grant_unrefused : (b : BookValue) (j n a : ℕ) → j ≤ sites b → j ≢ b.me → (account b j).closed ≡ false
    → n ≤ held_by b → check_fault b (Grant j n a ∷ []) ≡ None
grant_unrefused b j n a high other unclosed within =
    unrefused b (Grant j n a ∷ []) (rw (le-ltb (sites b) j high) refl) (rw (ne_eqb j b.me other) refl)
    (rw unclosed refl)
    (covers_both (held_by b) (Grant j n a) [] (omega (arith, within)) refl)

-- ---- a grant

-- an ask that is granted now was not granted before
not_yet : (d : DeskValue) (ask : AskValue) (n most : ℕ) → IsDesk d → answer_to d.manager ask most ≡ Granted n
    → grant_count ask.asker ask.ask (moves_of d.ledger.log.entries) ≡ 0
not_yet d ask n most is now =
    elim (cases_lt 0 (grant_count ask.asker ask.ask (moves_of d.ledger.log.entries))) [
      | inl some ↦ absurd (subst IsLate now
          (is.answered ask (omega (arith, some)) ask most refl (omega arith)))
      | inr none ↦ omega (arith, none)
    ]

both : (a b : Bool) → 1 ≤ one_if (a && b) → (a ≡ true) × (b ≡ true)
both true true h = (refl, refl)
both true false h = absurd (omega arith)
both false b h = absurd (omega arith)

at_most : (b : Bool) → one_if b ≤ 1
at_most true = omega arith
at_most false = omega arith

-- after an entry that grants, once the answer was noted
-- .. whatever was available then
pub wrote_grant_at : (old new : DeskValue) (ask : AskValue) (n k most : ℕ) → IsDesk old
    → answer_to old.manager ask most ≡ Granted k
    → WritesEntry old.ledger (Grant ask.asker n ask.ask ∷ []) new.ledger → SameSystem old.manager new.manager
    → ((past : AskValue) → IsAnswered old.manager past → IsAnswered new.manager past)
    → IsAnswered new.manager ask → IsDesk new
wrote_grant_at old new ask n k most is now w same answered now_answered =
    let ms : List Move = Grant ask.asker n ask.ask ∷ [] in
    let before : List Move = moves_of old.ledger.log.entries in
    let more : moves_of new.ledger.log.entries ≡ before ++ ms = ap (λ (l : LogValue). moves_of l.entries) w.log
    ∙ moves_with old.ledger.log ms in
    let is_it : ℕ → ℕ → Bool = λ j a. eqb ask.asker j && eqb ask.ask a in
    let counts : (j a : ℕ) → grant_count j a (moves_of new.ledger.log.entries)
    ≡ grant_count j a before + one_if (is_it j a) =
    λ j a. omega (
      arith,
      ap (grant_count j a) more,
      grant_count-append j a before ms,
      grant_count-cons j a (Grant ask.asker n ask.ask) [],
    ) in
    let opened : is_closed new.ledger.log.entries ≡ false = ap (λ (l : LogValue). is_closed l.entries) w.log
    ∙ closed_with old.ledger.log ms in
    let none = not_yet old ask k most is now in
    record {
      same_site = same.same_me ∙ is.same_site ∙ ap (λ (l : LogValue). l.site) (sym w.log);
      same_sites = same.same_sites ∙ is.same_sites ∙ sym w.book.same_sites;
      idle = λ closed. absurd cc;
      once = λ j a. elim (cases_lt 0 (one_if (is_it j a))) [
        | inl some ↦
            let it = both (eqb ask.asker j) (eqb ask.ask a) (omega (arith, some)) in
            let none_of_it : grant_count j a before ≡ 0
            = rw (← eqb-true ask.asker j it.0, ← eqb-true ask.ask a it.1) none in
            omega (arith, counts j a, none_of_it, at_most (is_it j a))
        | inr other ↦ omega (arith, counts j a, other, is.once j a)
      ];
      answered = λ past h. elim (cases_lt 0 (grant_count past.asker past.ask before)) [
        | inl some ↦ answered past (is.answered past (omega (arith, some)))
        | inr other ↦
            let it = both (eqb ask.asker past.asker) (eqb ask.ask past.ask)
            (omega (arith, other, counts past.asker past.ask, h)) in
            let number : ask.ask ≡ past.ask = eqb-true ask.ask past.ask it.1 in
            λ again most of_asker below. now_answered again most (of_asker
            ∙ sym (eqb-true ask.asker past.asker it.0)) (omega (arith, number, below))
      ];
    }

pub wrote_grant : (old new : DeskValue) (ask : AskValue) (n : ℕ) → IsDesk old → answer_of old ask ≡ Granted n
    → WritesEntry old.ledger (Grant ask.asker n ask.ask ∷ []) new.ledger → SameSystem old.manager new.manager
    → ((past : AskValue) → IsAnswered old.manager past → IsAnswered new.manager past)
    → IsAnswered new.manager ask → IsDesk new
wrote_grant old new ask n is now w same answered now_answered
    = wrote_grant_at old new ask n n (available old ask.asker) is now w same answered now_answered
