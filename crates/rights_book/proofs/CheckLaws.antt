-- What is known of moves that a book does not refuse.
use Rattle.std.proofs.Common.{◌≡◌, ℕ, Bool, true, false, cond, not, List, [], ◌∷◌, Option, Some, None, refl}
use Rattle.std.specs.List.{All, list_any}
use Rattle.std.proofs.lemmas.Bool.{ltb-false, not-false, or_parts}
use Rattle.std.proofs.lemmas.List.Elements.{All-nil, All-cons, All-head, All-tail}
use Rattle.rights_types.specs.Moves.{IsMove, NamesWithin, names}
use Rattle.rights_types.specs.Rights.{covers}
use Rattle.rights_types.specs.declared.moves.Move.{Move}
use Rattle.rights_types.specs.declared.moves.Move.TheVariants.{Issue, Spend, Grant, Give, Close, CloseAt, TakeBack}
use Rattle.rights_book.specs.Books.{BookValue, sites, held_by}
use Rattle.rights_book.specs.Checks.{names_above, gives_to_closed, check_fault}

-- no cause was found: neither this one nor one of the others
pub no_cause : {E : Type 0} (b : Bool) (x : E) (others : Option E) → cond b (Some x) others ≡ None
    → (b ≡ false) × (others ≡ None)
no_cause true x others h = absurd cc
no_cause false x others h = (refl, h)

-- moves that are not refused
pub record IsChecked (b : BookValue) (ms : List Move) : Type 0 where
  pub within : list_any (names_above (sites b)) ms ≡ false
  pub others : list_any (names b.me) ms ≡ false
  pub covered : covers (held_by b) ms ≡ true

pub checked : (b : BookValue) (ms : List Move) → check_fault b ms ≡ None → IsChecked b ms
unfolding check_fault
checked b ms h =
    let above = no_cause (list_any (names_above (sites b)) ms) _ _ h in
    let same = no_cause (list_any (names b.me) ms) _ _ above.1 in
    let closed = no_cause (list_any (gives_to_closed b) ms) _ _ same.1 in
    let short = no_cause (not (covers (held_by b) ms)) _ _ closed.1 in
    record { within = above.0; others = same.0; covered = not-false (covers (held_by b) ms) short.0 }

one_named : (n : ℕ) (m : Move) → IsMove m → names_above n m ≡ false → NamesWithin n m
one_named n (Issue a) is h = tt
one_named n (Spend a) is h = tt
one_named n (Grant j a k) is h = (is.0.0, ltb-false n j h)
one_named n (Give j a) is h = (is.0.0, ltb-false n j h)
one_named n Close is h = tt
one_named n (CloseAt f) is h = tt
one_named n (TakeBack j a) is h = (is.0.0, ltb-false n j h)

-- moves that name no site above n name the sites 1 to n
pub named_within : (n : ℕ) (ms : List Move) → All IsMove ms → list_any (names_above n) ms ≡ false
    → All (NamesWithin n) ms
named_within n [] is h = All-nil (NamesWithin n)
named_within n (m ∷ ms) is h =
    let p = or_parts (names_above n m) (list_any (names_above n) ms) h in
    All-cons (NamesWithin n) m ms (one_named n m (All-head IsMove m ms is) p.0)
    (named_within n ms (All-tail IsMove m ms is) p.1)
