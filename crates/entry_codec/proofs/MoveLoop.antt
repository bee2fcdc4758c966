-- Reading moves one after the other, as a loop does.
use Rattle.std.proofs.Common.{◌≡◌, ℕ, ◌+◌, Bool, true, false, not, List, [], ◌∷◌, ◌++◌, length, take, set, Option, Some}
use Rattle.std.proofs.Common.{None, Result, Ok, Err, refl, sym, ap, ◌∙◌, append_assoc, arith, inl, inr, min}
use Rattle.std.specs.Prelude.{◌==◌, is_some, is_none}
use Rattle.std.specs.Borrow.{Bor}
use Rattle.std.proofs.lemmas.Bool.{cases_lt}
use Rattle.std.proofs.lemmas.List.{append-nil, take_all, take-append-le, take_more_set, take-set-le, take-take}
use Rattle.std.proofs.lemmas.List.{length-take-le, length_push}
use Rattle.rights_types.specs.declared.moves.Move.{Move}
use Rattle.entry_codec.specs.declared.fault.LineError.{LineError}
use Rattle.entry_codec.specs.declared.fault.LineError.TheVariants.{BadMove}
use Rattle.entry_codec.specs.Kept.{AreKept, ReadsMoves}
use Rattle.entry_codec.specs.Moves.{move_of}
use Rattle.entry_codec.specs.Reading.{◌>>=◌, allowed, place, moves_from}

-- one more move is kept, if there is a slot for it
pub keeps_more : (moves kept : List Move) (m : Move) → length kept ≡ 17 → AreKept moves kept
    → AreKept (moves ++ m ∷ []) (set kept (min (length moves) 16) m)
keeps_more moves kept m room h =
    elim (cases_lt (length moves) 16) [
      | inl few ↦
          let slot : min (length moves) 16 ≡ length moves = omega (arith, few) in
          let all : take 16 (moves ++ m ∷ []) ≡ moves ++ m ∷ []
          = take_all 16 (moves ++ m ∷ []) (omega (arith, few, length_push moves m)) in
          let before : moves ≡ take (length moves) kept = sym (take_all 16 moves (omega (arith, few))) ∙ h
          ∙ take-take (length moves) 16 kept (omega (arith, few)) in
          let put : take (length moves + 1) (set kept (length moves) m) ≡ take (length moves) kept ++ m ∷ []
          = take_more_set kept (length moves) m (omega (arith, few, room)) in
          let long : length (moves ++ m ∷ []) ≡ length moves + 1 = length_push moves m in
          rw (slot, long, take-take (length moves + 1) 16 (set kept (length moves) m) (omega (arith, few)), put) (all
          ∙ ap (λ (xs : List Move). xs ++ m ∷ []) before)
      | inr many ↦
          let slot : min (length moves) 16 ≡ 16 = omega (arith, many) in
          let front : take 16 (moves ++ m ∷ []) ≡ take 16 moves = take-append-le 16 moves (m ∷ []) many in
          let sixteen = length-take-le 16 kept (omega (arith, room)) in
          let whole : take (length moves) (take 16 kept) ≡ take 16 kept
          = take_all (length moves) (take 16 kept) (omega (arith, many, sixteen)) in
          let again : take (length (moves ++ m ∷ [])) (take 16 kept) ≡ take 16 kept
          = take_all (length (moves ++ m ∷ [])) (take 16 kept)
          (omega (arith, many, sixteen, length_push moves m)) in
          rw (slot, take-set-le 16 kept 16 m (omega arith)) (front ∙ h ∙ whole ∙ sym again)
    ]

-- what was read before, and what is still read
abbrev pub with_front : List Move → Result (List Move) LineError → Result (List Move) LineError
with_front front read = read >>= λ ms. Ok (front ++ ms)

regroup : (front : List Move) (m : Move) (read : Result (List Move) LineError)
    → with_front front (read >>= λ ms. Ok (m ∷ ms)) ≡ with_front (front ++ m ∷ []) read
regroup front m (Ok ms) = ap (λ (x : List Move). Ok x) (sym (append_assoc front (m ∷ []) ms))
regroup front m (Err e) = refl

-- this many moves are read and kept, and reading the rest gives the same result as the whole
pub record AreReadUpTo (kept : List Move) (count : ℕ) (rest whole : Result (List Move) LineError) : Type 0 where
  pub moves : List Move
  pub count-is : length moves ≡ count
  pub are_kept : AreKept moves kept
  pub so_far : with_front moves rest ≡ whole

pub begins : (kept : List Move) (whole : Result (List Move) LineError) → AreReadUpTo kept 0 whole whole
begins kept whole = record { moves = []; count-is = refl; are_kept = refl; so_far = same whole } where
  same : (read : Result (List Move) LineError) → with_front [] read ≡ read
  same (Ok ms) = refl
  same (Err e) = refl

pub reads_more : (kept : List Move) (count origin part field : ℕ) (text : List ℕ) (more rest : List (List ℕ)) (m : Move)
    (whole : Result (List Move) LineError)
    → length kept ≡ 17 → rest ≡ text ∷ more
    → allowed (BadMove (place part field)) origin (length more == 0) (move_of text) ≡ Ok m
    → AreReadUpTo kept count (moves_from origin part field rest) whole
    → AreReadUpTo (set kept (min count 16) m) (count + 1) (moves_from origin part (field + 1) more) whole
unfolding moves_from
reads_more kept count origin part field text more rest m whole room e is h =
    let one : with_front h.moves (moves_from origin part field (text ∷ more))
    ≡ with_front (h.moves ++ m ∷ []) (moves_from origin part (field + 1) more) =
    rw is (regroup h.moves m (moves_from origin part (field + 1) more)) in
    record {
      moves = h.moves ++ m ∷ [];
      count-is = length_push h.moves m ∙ ap (λ (k : ℕ). k + 1) h.count-is;
      are_kept = rw (← h.count-is) (keeps_more h.moves kept m room h.are_kept);
      so_far = sym one ∙ rw e at h.so_far;
    }

pub stops : (kept : List Move) (count origin part field : ℕ) (text : List ℕ) (more rest : List (List ℕ)) (e : LineError)
    (whole : Result (List Move) LineError)
    → rest ≡ text ∷ more → allowed (BadMove (place part field)) origin (length more == 0) (move_of text) ≡ Err e
    → AreReadUpTo kept count (moves_from origin part field rest) whole → whole ≡ Err e
unfolding moves_from
stops kept count origin part field text more rest e whole eq is h =
    let one : with_front h.moves (moves_from origin part field (text ∷ more)) ≡ Err e = rw is refl in
    sym (rw eq at h.so_far) ∙ one

pub all_read : (kept : List Move) (count origin part field : ℕ) (rest : List (List ℕ))
    (whole : Result (List Move) LineError)
    → rest ≡ [] → AreReadUpTo kept count (moves_from origin part field rest) whole → ReadsMoves kept (Ok count) whole
unfolding moves_from
all_read kept count origin part field rest whole e h =
    (h.moves, sym h.so_far ∙ rw e (ap (λ (x : List Move). Ok x) (append-nil h.moves)), h.count-is, h.are_kept)

-- the code's test for the last field agrees with the definition
pub same_last : (r : Bool) (o : Option (Bor (List ℕ))) (b : Bool) → is_some o ≡ not r → is_none o ≡ b → r ≡ b
same_last true None b h k = k
same_last true (Some x) b h k = absurd cc
same_last false None b h k = absurd cc
same_last false (Some x) b h k = k
