-- What a book knows of one site, and the moves that are added to it.
use Rattle.std.proofs.Common.{◌≡◌, ◌≢◌, ℕ, ◌+◌, ◌≤◌, Bool, true, false, cond, eqb, List, [], ◌∷◌, length, inl, inr}
use Rattle.std.proofs.Common.{refl, sym, ap, ◌∙◌, subst, arith}
use Rattle.std.proofs.lemmas.Bool.{eq-eqb, ne_eqb}
use Rattle.rights_types.specs.Moves.{IsMove, gift_to, take_back_from}
use Rattle.rights_types.specs.Places.{at_site, set_site}
use Rattle.rights_types.specs.Rights.{to, back}
use Rattle.rights_types.specs.declared.moves.Move.{Move}
use Rattle.rights_types.proofs.Places.{at_set_site}
use Rattle.rights_types.proofs.Sums.{gift_to-bound, to-cons, back-cons, to-nil, back-nil}
use Rattle.rights_book.specs.Peers.{with_own_move, with_own, with_move_gift, with_gifts, with_applied, no_peer}
use Rattle.rights_book.specs.Accounts.{with_moves}
use Rattle.rights_book.specs.declared.peer.Peer.{Peer}

abbrev owned : Peer → ℕ → ℕ → Peer
owned p g b = record p { given = g; back = b }

abbrev gifted : Peer → ℕ → Peer
gifted p n = record p { gifts = n }

pub with_own-cons : (p : Peer) (j : ℕ) (m : Move) (ms : List Move)
    → with_own (with_own_move p j m) j ms ≡ with_own p j (m ∷ ms)
with_own-cons p j m ms =
    let g : (p.given + gift_to j m) + to j ms ≡ p.given + to j (m ∷ ms) = omega (arith, to-cons j m ms) in
    let b : (p.back + take_back_from j m) + back j ms ≡ p.back + back j (m ∷ ms) = omega (arith, back-cons j m ms) in
    ap (λ n. owned p n ((p.back + take_back_from j m) + back j ms)) g ∙ ap (owned p (p.given + to j (m ∷ ms))) b

pub with_own-nil : (p : Peer) (j : ℕ) → with_own p j [] ≡ p
with_own-nil p j =
    let g : p.given + to j [] ≡ p.given = omega (arith, to-nil j) in
    let b : p.back + back j [] ≡ p.back = omega (arith, back-nil j) in
    ap (λ n. owned p n (p.back + back j [])) g ∙ ap (owned p p.given) b

same_gift : (b : Bool) (p : Peer) (x y z : ℕ) → x + y ≡ z
    → (let q : Peer = cond b p (gifted p (p.gifts + x)) in cond b q (gifted q (q.gifts + y)))
    ≡ cond b p (gifted p (p.gifts + z))
same_gift true p x y z h = refl
same_gift false p x y z h = let e : (p.gifts + x) + y ≡ p.gifts + z = omega (arith, h) in ap (gifted p) e

no_gift : (b : Bool) (p : Peer) (n : ℕ) → n ≡ 0 → cond b p (gifted p (p.gifts + n)) ≡ p
no_gift true p n h = refl
no_gift false p n h = let e : p.gifts + n ≡ p.gifts = omega (arith, h) in ap (gifted p) e

pub with_gifts-cons : (p : Peer) (o j : ℕ) (m : Move) (ms : List Move)
    → with_gifts (with_move_gift p o j m) o j ms ≡ with_gifts p o j (m ∷ ms)
with_gifts-cons p o j m ms = same_gift (eqb j o) p (gift_to j m) (to j ms) (to j (m ∷ ms)) (sym (to-cons j m ms))

pub with_gifts-nil : (p : Peer) (o j : ℕ) → with_gifts p o j [] ≡ p
with_gifts-nil p o j = no_gift (eqb j o) p (to j []) (to-nil j)

few_more : (b : Bool) (p : Peer) (n most : ℕ) → n ≤ most
    → (let q : Peer = cond b p (gifted p (p.gifts + n)) in q.gifts ≤ p.gifts + most)
few_more true p n most h = omega arith
few_more false p n most h = omega (arith, h)

-- a move gives at most 10^9
pub gifts-bound : (p : Peer) (o j : ℕ) (m : Move) → IsMove m
    → (let q : Peer = with_move_gift p o j m in q.gifts ≤ p.gifts + 1000000000)
gifts-bound p o j m h = few_more (eqb j o) p (gift_to j m) 1000000000 (gift_to-bound j m h)

-- a gift to the origin itself is not booked
pub no_gift_here : (p : Peer) (o : ℕ) (ms : List Move) → with_gifts p o o ms ≡ p
no_gift_here p o ms = rw (eq-eqb o o refl) refl

abbrev pub applied_peer : ℕ → Peer → List Move → Peer
applied_peer me p ms = record p { log = with_moves p.log ms; received = p.received + to me ms }

applied_here : (me o : ℕ) (p : Peer) (ms : List Move) → applied_peer me p ms ≡ with_applied me p o o ms
applied_here me o p ms = rw (eq-eqb o o refl) refl

gifts_there : (me o j : ℕ) (p : Peer) (ms : List Move) → j ≢ o → with_gifts p o j ms ≡ with_applied me p o j ms
gifts_there me o j p ms ne = rw (ne_eqb j o ne) refl

-- gifts to each site, and then the origin's own entry
pub applied_at : (ps gs : List Peer) (me o : ℕ) (ms : List Move) (p : Peer) → length gs ≡ length ps → 1 ≤ o
    → o ≤ length ps
    → ((j : ℕ) → 1 ≤ j → j ≤ length ps → at_site gs j no_peer ≡ with_gifts (at_site ps j no_peer) o j ms)
    → p ≡ applied_peer me (at_site ps o no_peer) ms
    → (j : ℕ) → 1 ≤ j → j ≤ length ps
    → at_site (set_site gs o p) j no_peer ≡ with_applied me (at_site ps j no_peer) o j ms
applied_at ps gs me o ms p same low high gifts here j l h =
    elim (at_set_site gs o j p no_peer low (omega (arith, same, high))) [
      | inl q ↦ q.1 ∙ subst (λ k. p ≡ with_applied me (at_site ps k no_peer) o k ms) (sym q.0) (here
          ∙ applied_here me o (at_site ps o no_peer) ms)
      | inr q ↦ q.1 ∙ gifts j l h ∙ gifts_there me o j (at_site ps j no_peer) ms q.0
    ]
