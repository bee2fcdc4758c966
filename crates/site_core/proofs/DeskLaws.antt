-- What each call of a desk preserves.
use Rattle.std.proofs.Common.{◌≡◌, ℕ, ◌+◌, ◌≤◌, Bool, true, false, not, cond, List, [], ◌∷◌, ◌++◌, length, None, refl}
use Rattle.std.proofs.Common.{ap, sym, subst, ◌∙◌, arith}
use Rattle.std.specs.List.{list_any}
use Rattle.std.proofs.lemmas.Bool.{or_parts}
use Rattle.std.proofs.lemmas.List.{length-replicate}
use Rattle.std.proofs.lemmas.List.Sums.{sum_by-append, sum_by-cons}
use Rattle.rights_types.specs.Chains.{is_closed, moves_of}
use Rattle.rights_types.specs.Messages.{AskValue}
use Rattle.rights_types.specs.Moves.{is_close}
use Rattle.rights_types.specs.declared.moves.Move.{Move}
use Rattle.rights_types.specs.declared.moves.Move.TheVariants.{Issue, Spend, Grant, Give, Close, CloseAt, TakeBack}
use Rattle.rights_types.proofs.Chains.{closed-push}
use Rattle.rights_types.proofs.Sums.{moves_of-nil, moves_of-push, covers_both}
use Rattle.origin_log.specs.Logs.{LogValue, next_entry, with_entry, is_special}
use Rattle.rights_book.specs.Books.{BookValue, sites, held_by}
use Rattle.rights_book.specs.Checks.{check_fault}
use Rattle.rights_book.specs.Peers.{no_peer}
use Rattle.rights_book.proofs.CallLaws.{unrefused}
use Rattle.transfer_manager.specs.Managers.{ManagerValue, SameSystem, no_asks}
use Rattle.transfer_manager.specs.AskAnswers.{IsAnswered}
use Rattle.site_core.specs.Ledgers.{LedgerValue, WritesEntry}
use Rattle.site_core.specs.Desks.{DeskValue, new_desk, grants, grant_count, IsDesk}
use Rattle.site_core.specs.Faults.{is_postable}

-- ---- grants among moves

abbrev pub one_if : Bool → ℕ
one_if b = cond b 1 0

pub grant_count-cons : (j a : ℕ) (m : Move) (ms : List Move)
    → grant_count j a (m ∷ ms) ≡ one_if (grants j a m) + grant_count j a ms
grant_count-cons j a m ms = sum_by-cons (λ x. one_if (grants j a x)) m ms

pub grant_count-append : (j a : ℕ) (xs ys : List Move)
    → grant_count j a (xs ++ ys) ≡ grant_count j a xs + grant_count j a ys
grant_count-append j a xs ys = sum_by-append (λ x. one_if (grants j a x)) xs ys

-- moves that may be posted grant nothing, and neither close nor reclaim

abbrev pub any_unpostable : List Move → Bool
any_unpostable ms = list_any (λ m. not (is_postable m)) ms

no_grant : (j a : ℕ) (m : Move) → not (is_postable m) ≡ false → one_if (grants j a m) ≡ 0
no_grant j a (Issue n) h = refl
no_grant j a (Spend n) h = refl
no_grant j a (Grant k n b) h = absurd cc
no_grant j a (Give k n) h = refl
no_grant j a Close h = refl
no_grant j a (CloseAt f) h = refl
no_grant j a (TakeBack k n) h = refl

no_special : (m : Move) → not (is_postable m) ≡ false → is_special m ≡ false
no_special (Issue n) h = refl
no_special (Spend n) h = refl
no_special (Grant k n b) h = refl
no_special (Give k n) h = refl
no_special Close h = h
no_special (CloseAt f) h = h
no_special (TakeBack k n) h = h

no_close : (m : Move) → is_special m ≡ false → is_close m ≡ false
no_close (Issue n) h = refl
no_close (Spend n) h = refl
no_close (Grant k n b) h = refl
no_close (Give k n) h = refl
no_close Close h = h
no_close (CloseAt f) h = h
no_close (TakeBack k n) h = refl

pub no_grants : (j a : ℕ) (ms : List Move) → any_unpostable ms ≡ false → grant_count j a ms ≡ 0
no_grants j a [] h = refl
no_grants j a (m ∷ ms) h =
    let p = or_parts (not (is_postable m)) (any_unpostable ms) h in
    omega (arith, grant_count-cons j a m ms, no_grant j a m p.0, no_grants j a ms p.1)

pub ordinary : (ms : List Move) → any_unpostable ms ≡ false → list_any is_special ms ≡ false
ordinary [] h = refl
ordinary (m ∷ ms) h =
    let p = or_parts (not (is_postable m)) (any_unpostable ms) h in
    rw (no_special m p.0, ordinary ms p.1) refl

pub unclosing : (ms : List Move) → list_any is_special ms ≡ false → list_any is_close ms ≡ false
unclosing [] h = refl
unclosing (m ∷ ms) h =
    let p = or_parts (is_special m) (list_any is_special ms) h in
    rw (no_close m p.0, unclosing ms p.1) refl

-- ---- the log after an entry

pub closed_with : (log : LogValue) (ms : List Move) → is_closed (with_entry log ms).entries ≡ list_any is_close ms
closed_with log ms = closed-push false log.entries (next_entry log ms)

pub moves_with : (log : LogValue) (ms : List Move) → moves_of (with_entry log ms).entries ≡ moves_of log.entries ++ ms
moves_with log ms = moves_of-push log.entries (next_entry log ms)

-- ---- what a desk keeps

pub new_is_desk : (me n : ℕ) → IsDesk (new_desk me n)
new_is_desk me n = record {
  same_site = refl;
  same_sites = omega (arith, length-replicate n no_asks, length-replicate n no_peer);
  idle = λ h. refl;
  once = λ j a. rw moves_of-nil (omega arith);
  answered = λ past h. absurd (omega (arith, rw moves_of-nil at h));
}

-- a desk that wrote these moves, none of which grants
pub kept : (old new : DeskValue) (ms : List Move) → IsDesk old → new.ledger.log.site ≡ old.ledger.log.site
    → moves_of new.ledger.log.entries ≡ moves_of old.ledger.log.entries ++ ms → ((j a : ℕ) → grant_count j a ms ≡ 0)
    → sites new.ledger.book ≡ sites old.ledger.book → SameSystem old.manager new.manager
    → ((past : AskValue) → IsAnswered old.manager past → IsAnswered new.manager past)
    → (is_closed new.ledger.log.entries ≡ true → new.queue.waiting ≡ []) → IsDesk new
kept old new ms is site more none booked same answered idle =
    let counts : (j a : ℕ) → grant_count j a (moves_of new.ledger.log.entries)
    ≡ grant_count j a (moves_of old.ledger.log.entries) =
    λ j a. omega (
      arith,
      ap (grant_count j a) more,
      grant_count-append j a (moves_of old.ledger.log.entries) ms,
      none j a,
    ) in
    record {
      same_site = same.same_me ∙ is.same_site ∙ sym site;
      same_sites = same.same_sites ∙ is.same_sites ∙ sym booked;
      idle = idle;
      once = λ j a. omega (arith, counts j a, is.once j a);
      answered = λ past h. answered past (is.answered past (omega (arith, counts past.asker past.ask, h)));
    }

-- .. after an entry of moves that may be posted, and whatever became of the requests
pub wrote : (old new : DeskValue) (ms : List Move) → IsDesk old → WritesEntry old.ledger ms new.ledger
    → any_unpostable ms ≡ false
    → new.manager ≡ old.manager → IsDesk new
wrote old new ms is w h same =
    let opened : is_closed new.ledger.log.entries ≡ false =
    ap (λ (l : LogValue). is_closed l.entries) w.log ∙ closed_with old.ledger.log ms ∙ unclosing ms (ordinary ms h) in
    kept old new ms is (ap (λ (l : LogValue). l.site) w.log) (ap (λ (l : LogValue). moves_of l.entries) w.log
    ∙ moves_with old.ledger.log ms)
    (λ j a. no_grants j a ms h) w.book.same_sites
    (record {
      same_me = ap (λ (m : ManagerValue). m.me) same;
      same_sites = ap (λ (m : ManagerValue). length m.peers) same;
    })
    (λ past s. subst (λ (m : ManagerValue). IsAnswered m past) (sym same) s) (λ closed. absurd cc)

-- .. whatever counts as published
pub advanced : (d : DeskValue) (l : LedgerValue) (cursors : List ℕ) → IsDesk d
    → l ≡ record d.ledger { log = record d.ledger.log { cursors = cursors } }
    → IsDesk (record d { ledger = l })
advanced d l cursors is same =
    subst (λ (x : LedgerValue). IsDesk (record d { ledger = x })) (sym same)
    (record {
      same_site = is.same_site;
      same_sites = is.same_sites;
      idle = is.idle;
      once = is.once;
      answered = is.answered;
    })

-- ---- what a book lets a site write

pub spend_unrefused : (b : BookValue) (n : ℕ) → n ≤ held_by b → check_fault b (Spend n ∷ []) ≡ None
spend_unrefused b n within
    = unrefused b (Spend n ∷ []) refl refl refl (covers_both (held_by b) (Spend n) [] (omega (arith, within)) refl)
