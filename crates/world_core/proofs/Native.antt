-- Moves that are written fit this system.
use Rattle.std.proofs.Common.{◌≡◌, ℕ, Bool, true, false, cond, eqb, List, [], ◌∷◌, ◌++◌, length, Option, Some, None}
use Rattle.std.proofs.Common.{refl, sym, subst}
use Rattle.std.specs.List.{All}
use Rattle.std.proofs.lemmas.Bool.{le-ltb, eq-eqb, not_from_true}
use Rattle.std.proofs.lemmas.List.Elements.{All-nil, All-cons, All-head, All-tail, All-append}
use Rattle.std.proofs.lemmas.List.FromFn.{length-map-range_with_len}
use Rattle.rights_types.specs.Entries.{EntryValue}
use Rattle.rights_types.specs.Chains.{end, moves_of}
use Rattle.rights_types.specs.Moves.{NamesWithin}
use Rattle.rights_types.specs.declared.moves.Move.{Move}
use Rattle.rights_types.specs.declared.moves.Move.TheVariants.{Issue, Spend, Grant, Give, Close, CloseAt, TakeBack}
use Rattle.rights_types.proofs.Sums.{moves_of-push}
use Rattle.rights_protocol.specs.Lists.{IsSiteOf}
use Rattle.rights_protocol.specs.Retiring.{own_frontier}
use Rattle.rights_protocol.specs.Writing.{is_plain, MayAppend, MayClose, closing_moves}
use Rattle.inbound.specs.Inbounds.{is_foreign}

-- a move of a system of n sites
abbrev pub NativeMove : ℕ → Move → Type 0
NativeMove n m = is_foreign n m ≡ false

-- a log of such moves only
abbrev pub NativeLog : ℕ → List EntryValue → Type 0
NativeLog n es = All (NativeMove n) (moves_of es)

-- ---- an ordinary entry

-- a plain move that names a site of the system fits the system
native_plain : (n : ℕ) (m : Move) → is_plain m ≡ true → NamesWithin n m → NativeMove n m
native_plain n (Issue a) plain within = refl
native_plain n (Spend a) plain within = refl
native_plain n (Grant j a k) plain within = rw (le-ltb n j within.1) refl
native_plain n (Give j a) plain within = rw (le-ltb n j within.1) refl
native_plain n Close plain within = absurd cc
native_plain n (CloseAt f) plain within = absurd cc
native_plain n (TakeBack j a) plain within = absurd cc

-- .. and so are all moves of an entry
native_plains : (n : ℕ) (ms : List Move) → All (λ m. is_plain m ≡ true) ms → All (NamesWithin n) ms
    → All (NativeMove n) ms
native_plains n [] plain within = All-nil (NativeMove n)
native_plains n (m ∷ ms) plain within =
    All-cons (NativeMove n) m ms
    (native_plain n m (All-head (λ x. is_plain x ≡ true) m ms plain) (All-head (NamesWithin n) m ms within))
    (native_plains n ms (All-tail (λ x. is_plain x ≡ true) m ms plain) (All-tail (NamesWithin n) m ms within))

-- what a site may append fits the system
pub native_append : (n s : ℕ) (log : List EntryValue) (applied : ℕ → List EntryValue) (ms : List Move)
    → MayAppend n s log applied ms → All (NativeMove n) ms
native_append n s log applied ms may = native_plains n ms may.plain may.within

-- ---- an entry that reclaims

-- a reclaim from a site of the system fits it
pub native_taking : (n o amount : ℕ) → IsSiteOf n o → All (NativeMove n) (TakeBack o amount ∷ [])
native_taking n o amount from =
    All-cons (NativeMove n) (TakeBack o amount) [] (rw (le-ltb n o from.1) refl) (All-nil (NativeMove n))

-- ---- a closing entry

-- a frontier has a number for each site
native_frontier : (n : ℕ) (applied : ℕ → List EntryValue) → NativeMove n (CloseAt (own_frontier n applied))
native_frontier n applied =
    not_from_true (eqb (length (own_frontier n applied)) n)
    (eq-eqb (length (own_frontier n applied)) n (length-map-range_with_len (λ o. end (applied o)) 1 n))

-- and so does what goes to the heir
native_heritage : (n heir amount : ℕ) (none : Bool) → IsSiteOf n heir
    → All (NativeMove n) (cond none [] (Give heir amount ∷ []))
native_heritage n heir amount true site = All-nil (NativeMove n)
native_heritage n heir amount false site =
    All-cons (NativeMove n) (Give heir amount) [] (rw (le-ltb n heir site.1) refl) (All-nil (NativeMove n))

-- the moves of a closing entry fit
pub native_closing : (n s : ℕ) (log : List EntryValue) (applied : ℕ → List EntryValue) (heir : Option ℕ)
    → MayClose n s log applied heir → All (NativeMove n) (closing_moves n s log applied heir)
native_closing n s log applied None may =
    All-cons (NativeMove n) (CloseAt (own_frontier n applied)) [] (native_frontier n applied) (All-nil (NativeMove n))
native_closing n s log applied (Some heir) may =
    All-append (NativeMove n) _ (CloseAt (own_frontier n applied) ∷ []) (native_heritage n heir _ _ may.inherits.site)
    (All-cons (NativeMove n) (CloseAt (own_frontier n applied)) [] (native_frontier n applied) (All-nil (NativeMove n)))

-- ---- a log with one more entry

-- entries that fit make a log that fits
pub native_push : (n : ℕ) (es : List EntryValue) (e : EntryValue) → NativeLog n es → All (NativeMove n) e.moves
    → NativeLog n (es ++ e ∷ [])
native_push n es e before more =
    subst (All (NativeMove n)) (sym (moves_of-push es e)) (All-append (NativeMove n) (moves_of es) e.moves before more)
