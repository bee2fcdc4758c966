-- How a caller meets the preconditions of a book, from what its readers return.
use Rattle.std.proofs.Common.{◌≡◌, ◌≢◌, ℕ, zero, suc, ◌-◌, ◌≤◌, true, false, None, List, [], ◌∷◌, inl, inr, refl, arith}
use Rattle.std.specs.List.{All, list_any}
use Rattle.std.proofs.lemmas.Bool.{eq-eqb, ne_eqb, cases_lt, le-ltb}
use Rattle.std.proofs.lemmas.List.Elements.{All-head, All-tail}
use Rattle.rights_types.specs.Ranges.{IsSite}
use Rattle.rights_types.specs.Moves.{IsMove, names, take_back_from}
use Rattle.rights_types.specs.Rights.{back, covers}
use Rattle.rights_types.specs.declared.moves.Move.{Move}
use Rattle.rights_types.specs.declared.moves.Move.TheVariants.{Issue, Spend, Grant, Give, Close, CloseAt, TakeBack}
use Rattle.rights_book.specs.Books.{BookValue, sites, account, peer, held_by}
use Rattle.rights_book.specs.Checks.{names_above, gives_to_closed, check_fault}
use Rattle.rights_types.proofs.Sums.{back-cons, back-nil}

none_from : (j : ℕ) (m : Move) → IsMove m → (IsSite j → ⊥) → take_back_from j m ≡ 0
none_from j (Issue a) is out = refl
none_from j (Spend a) is out = refl
none_from j (Grant k a n) is out = refl
none_from j (Give k a) is out = refl
none_from j Close is out = refl
none_from j (CloseAt f) is out = refl
none_from j (TakeBack k a) is out = rw (ne_eqb k j (λ e. out (omega (arith, e, is.0.0), omega (arith, e, is.0.1)))) refl

-- nothing is reclaimed from a number that no site has
pub nothing_back : (j : ℕ) (ms : List Move) → All IsMove ms → (IsSite j → ⊥) → back j ms ≡ 0
nothing_back j [] is out = back-nil j
nothing_back j (m ∷ ms) is out =
    omega (
      arith,
      back-cons j m ms,
      none_from j m (All-head IsMove m ms is) out,
      nothing_back j ms (All-tail IsMove m ms is) out,
    )

-- what was checked at each site holds for each number
pub back_left : (b : BookValue) (ms : List Move) → All IsMove ms
    → ((j : ℕ) → 1 ≤ j → j ≤ 16 → back j ms ≤ (peer b j).given - (peer b j).back)
    → (j : ℕ) → back j ms ≤ (peer b j).given - (peer b j).back
back_left b ms is tested zero = omega (arith, nothing_back 0 ms is (λ s. omega (arith, s.0)))
back_left b ms is tested (suc i) =
    elim (cases_lt 16 (suc i)) [
      | inl past ↦ omega (arith, nothing_back (suc i) ms is (λ s. omega (arith, s.1, past)))
      | inr within ↦ tested (suc i) (omega arith) within
    ]

-- its own account is the one of its own site, and no other
pub own_account : (b : BookValue) → account b b.me ≡ b.own
own_account b = rw (eq-eqb b.me b.me refl) refl

pub other_account : (b : BookValue) (o : ℕ) → o ≢ b.me → account b o ≡ (peer b o).log
other_account b o ne = rw (ne_eqb o b.me ne) refl

-- moves with no cause to refuse them
pub unrefused : (b : BookValue) (ms : List Move) → list_any (names_above (sites b)) ms ≡ false
    → list_any (names b.me) ms ≡ false → list_any (gives_to_closed b) ms ≡ false
    → covers (held_by b) ms ≡ true → check_fault b ms ≡ None
unfolding check_fault
unrefused b ms within others unclosed covered = rw (within, others, unclosed, covered) refl

-- a site may reclaim from another one, whatever it holds
pub take_back_unrefused : (b : BookValue) (j n : ℕ) → j ≤ sites b → j ≢ b.me → check_fault b (TakeBack j n ∷ []) ≡ None
take_back_unrefused b j n high ne =
    unrefused b (TakeBack j n ∷ []) (rw (le-ltb (sites b) j high) refl) (rw (ne_eqb j b.me ne) refl) refl
    (rw (le-ltb (held_by b) 0 (omega arith)) refl)
