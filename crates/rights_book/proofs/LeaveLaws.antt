-- The effect of booking an entry.
use Rattle.std.proofs.Common.{◌≡◌, ◌≢◌, ℕ, ◌+◌, false, List, inl, inr, refl, sym, ap, ◌∙◌, arith}
use Rattle.std.proofs.lemmas.Bool.{eq-eqb, cases_eq}
use Rattle.rights_types.specs.Entries.{EntryValue}
use Rattle.rights_types.specs.Rights.{to}
use Rattle.rights_types.specs.declared.moves.Move.{Move}
use Rattle.rights_types.proofs.Sums.{rights_after_is}
use Rattle.rights_book.specs.Books.{BookValue, peer, account, received_by, held_by, Writes, Applies, IsBook}
use Rattle.rights_book.specs.Leaves.{OwnLeaves, ApplyLeaves}
use Rattle.rights_book.specs.declared.account.Account.{Account}
use Rattle.rights_book.specs.declared.peer.Peer.{Peer}
use Rattle.rights_book.proofs.CallLaws.{other_account}
use Rattle.rights_book.proofs.CheckLaws.{IsChecked}
use Rattle.rights_book.proofs.BookLaws.{IsApplied, received_kept, received_risen}

pub own_leaves : (old new : BookValue) (ms : List Move) → IsBook old → IsChecked old ms → old.own.closed ≡ false
    → Writes old ms new → OwnLeaves old ms new
own_leaves old new ms is checked unclosed w =
    let received = received_kept old new ms w in
    record {
      same_me = w.same_me;
      same_sites = w.same_sites;
      number = ap (λ (a : Account). a.end) w.writes;
      closed = rw unclosed at (ap (λ (a : Account). a.closed) w.writes);
      issues = ap (λ (a : Account). a.issued) w.writes;
      spends = ap (λ (a : Account). a.spent) w.writes;
      gives = ap (λ (a : Account). a.given) w.writes;
      takes_back = ap (λ (a : Account). a.back) w.writes;
      gives_to = λ j. ap (λ (p : Peer). p.given) (w.each j);
      takes_back_from = λ j. ap (λ (p : Peer). p.back) (w.each j);
      holds = omega (
        arith,
        rights_after_is (held_by old) ms checked.covered,
        is.not_negative,
        received,
        ap (λ (a : Account). a.given) w.writes,
        ap (λ (a : Account). a.spent) w.writes,
        ap (λ (a : Account). a.issued) w.writes,
        ap (λ (a : Account). a.back) w.writes,
      );
      same_received = received;
      same_applied = λ o. ap (λ (p : Peer). p.log) (w.each o);
      same_received_from = λ o. ap (λ (p : Peer). p.received) (w.each o);
    }

account_me : (b : BookValue) (k : ℕ) → k ≡ b.me → account b k ≡ b.own
account_me b k e = rw (eq-eqb k b.me e) refl

pub apply_leaves : (old new : BookValue) (o : ℕ) (e : EntryValue) → IsBook old → o ≢ old.me
    → (peer old o).log.closed ≡ false → e.prev ≡ (peer old o).log.end
    → Applies old o e.moves new → IsApplied old o e.moves new → ApplyLeaves old o e new
apply_leaves old new o e is other unclosed next a f =
    let received : received_by new ≡ received_by old + to old.me e.moves
    = received_risen old new o e.moves is other a f in
    record {
      same_me = a.same_me;
      same_sites = a.same_sites;
      same_own = a.same_own;
      same_given_to = f.given_same;
      same_back = f.back_same;
      applied = omega (arith, ap (λ (l : Account). l.end) f.log_here, next);
      closed = ap (λ (l : Account). l.closed) (other_account new o (λ q. other (q ∙ a.same_me)) ∙ f.log_here)
          ∙ (rw unclosed refl);
      received_from = f.received_here;
      receives = received;
      holds = omega (
        arith,
        is.not_negative,
        received,
        ap (λ (l : Account). l.given) a.same_own,
        ap (λ (l : Account). l.spent) a.same_own,
        ap (λ (l : Account). l.issued) a.same_own,
        ap (λ (l : Account). l.back) a.same_own,
      );
      same_applied = f.log_other;
      same_account = λ k ne. elim (cases_eq k old.me) [
        | inl here ↦ account_me new k (here ∙ sym a.same_me) ∙ a.same_own ∙ sym (account_me old k here)
        | inr there ↦ other_account new k (λ q. there (q ∙ a.same_me)) ∙ f.log_other k ne
            ∙ sym (other_account old k there)
      ];
      same_received_from = f.received_other;
    }
