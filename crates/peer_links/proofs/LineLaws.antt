-- The pieces of a stream, returned as they end.
use Rattle.std.proofs.Common.{◌≡◌, ℕ, ◌+◌, ◌-◌, ◌<◌, Bool, true, false, cond, List, [], ◌∷◌, ◌++◌, length, take, get_or}
use Rattle.std.proofs.Common.{Option, Some, None, Result, Ok, Err, OnErr, IfSome, IfNone, IsTrue, ◌↔◌, refl, sym, ap}
use Rattle.std.proofs.Common.{subst, ◌∙◌, arith, append-nil, length-append, length-take, get_or-take}
use Rattle.std.specs.Io.BufRead.{take_through}
use Rattle.std.proofs.lemmas.Bool.{eqb-true, eq-eqb}
use Rattle.std.proofs.lemmas.List.{take_all, take_more}
use Rattle.memchr.specs.Find.{IsFirstByte, is_byte}
use Rattle.entry_codec.specs.Pieces.{pieces, unfinished}
use Rattle.entry_codec.specs.Cutter.{CutterView, Holds, IsFed, view_of}
use Rattle.entry_codec.specs.Cuts.{IsGiven, IsCut}
use Rattle.entry_codec.specs.declared.cutter.Cut.{Cut}
use Rattle.entry_codec.proofs.Pieces.{HasNoEnd, pieces_append, rest_append, no_piece, one_piece}
use Rattle.entry_codec.proofs.Cuts.{first_is_position}
use Rattle.entry_codec.proofs.Streams.{through_found, through_missed}
use Rattle.peer_links.specs.Links.{IsFedAll}

-- ---- a stream of which all pieces were returned

all_given : (b : Bool) (ps : List (List ℕ)) (piece : List ℕ) → ps ≡ ps ++ cond b (piece ∷ []) [] → b ≡ false
all_given true ps piece e = absurd (omega (arith, ap length e, length-append ps (piece ∷ [])))
all_given false ps piece e = refl

pub not_finished : (c : CutterView) (stream : List ℕ) → IsFedAll c stream → c.is_finished ≡ false
not_finished c stream h = all_given c.is_finished (pieces stream) h.0 h.2

pub holds_rest : (c : CutterView) (stream : List ℕ) → IsFedAll c stream → Holds c (unfinished stream)
holds_rest c stream h =
    let rest : unfinished stream ≡ h.0 = h.3 ∙ rw (not_finished c stream h) refl in
    subst (Holds c) (sym rest) h.1

-- no piece ends in these bytes
pub fed_none : (c : CutterView) (stream bytes : List ℕ) → HasNoEnd bytes → IsFed c (stream ++ bytes) (pieces stream)
    → IsFedAll c (stream ++ bytes) × (pieces (stream ++ bytes) ≡ pieces stream)
fed_none c stream bytes none h =
    let p = no_piece (unfinished stream) bytes none in
    let same : pieces (stream ++ bytes) ≡ pieces stream =
    pieces_append [] stream bytes ∙ ap (λ (l : List (List ℕ)). pieces stream ++ l) p.0 ∙ append-nil (pieces stream) in
    (subst (IsFed c (stream ++ bytes)) (sym same) h, same)

-- one piece ends with these bytes
pub one_more : (stream front : List ℕ) → HasNoEnd front
    → (pieces (stream ++ (front ++ 10 ∷ [])) ≡ pieces stream ++ ((unfinished stream ++ front) ++ 10 ∷ []) ∷ [])
    × (unfinished (stream ++ (front ++ 10 ∷ [])) ≡ [])
one_more stream front none =
    let p = one_piece (unfinished stream) front none in (
      pieces_append [] stream (front ++ 10 ∷ []) ∙ ap (λ (l : List (List ℕ)). pieces stream ++ l) p.0,
      rest_append [] stream (front ++ 10 ∷ []) ∙ p.1,
    )

-- a borrowed line: the cutter was empty, and is empty
pub fed_lent : (c : CutterView) (stream front text : List ℕ) → HasNoEnd front → text ≡ front ++ 10 ∷ []
    → unfinished stream ≡ [] → IsFedAll c stream
    → IsFedAll c (stream ++ text) × (pieces (stream ++ text) ≡ pieces stream ++ text ∷ [])
fed_lent c stream front text none is nothing h =
    let p = one_more stream front none in
    let unended = not_finished c stream h in
    let piece : pieces (stream ++ (front ++ 10 ∷ [])) ≡ pieces stream ++ (front ++ 10 ∷ []) ∷ [] =
    p.0 ∙ ap (λ (l : List ℕ). pieces stream ++ ((l ++ front) ++ 10 ∷ []) ∷ []) nothing in
    let empty : Holds c [] = subst (Holds c) nothing (holds_rest c stream h) in
    let all : IsFedAll c (stream ++ (front ++ 10 ∷ [])) = (
      [],
      empty,
      rw unended (sym (append-nil (pieces (stream ++ (front ++ 10 ∷ []))))),
      p.1 ∙ rw unended refl,
    ) in
    rw is (all, piece)

-- after a line feed a piece waits
pub one_waits : (c : CutterView) (stream front text : List ℕ) → HasNoEnd front → text ≡ front ++ 10 ∷ []
    → IsFed c (stream ++ text) (pieces stream) → c.is_finished ≡ false → ⊥
one_waits c stream front text none is h unended =
    let p = one_more stream front none in
    let line : List ℕ = (unfinished stream ++ front) ++ 10 ∷ [] in
    let last : pieces (stream ++ text) ≡ pieces stream = h.2 ∙ rw unended (append-nil (pieces stream)) in
    let more : pieces stream ++ line ∷ [] ≡ pieces stream = sym p.0
    ∙ ap (λ (l : List ℕ). pieces (stream ++ l)) (sym is) ∙ last in
    omega (arith, ap length more, length-append (pieces stream) (line ∷ []))

-- the piece that waited was returned
pub fed_kept : (c : CutterView) (stream text piece : List ℕ) → c ≡ view_of []
    → IsFed c (stream ++ text) (pieces stream ++ piece ∷ [])
    → IsFedAll c (stream ++ text) × (pieces (stream ++ text) ≡ pieces stream ++ piece ∷ [])
fed_kept c stream text piece empty h =
    let unended : c.is_finished ≡ false = ap (λ (v : CutterView). v.is_finished) empty in
    let same : pieces (stream ++ text) ≡ pieces stream ++ piece ∷ [] = h.2
    ∙ rw unended (append-nil (pieces stream ++ piece ∷ [])) in
    (subst (IsFed c (stream ++ text)) (sym same) h, same)

-- ---- the next piece

pub is_none : {X P : Type 0} (o : Option X) → ((x : X) → o ≡ Some x → ⊥) → IfNone o P → P
is_none (Some x) other h = absurd (other x refl)
is_none None other h = h

pub none_is : {X P : Type 0} (o : Option X) → o ≡ None → IfNone o P → P
none_is (Some x) e h = absurd cc
none_is None e h = h

pub on_err : {X E P : Type 0} (r : Result X E) → P → OnErr r P
on_err (Ok x) p = tt
on_err (Err e) p = p

-- the bytes up to the line feed that was found
pub found_end : (s : List ℕ) (n : ℕ) → IsFirstByte (is_byte 10) s (Some n) → (n < length s) × HasNoEnd (take n s)
    × (take (n + 1) s ≡ take n s ++ 10 ∷ [])
found_end s n here =
    let last : get_or s n 0 ≡ 10 = eqb-true (get_or s n 0) 10 here.1 in (
      here.0.high,
      λ k h e.
          let short : k < n = omega (arith, simp length-take at h) in
          here.0.before k (omega arith) short (eq-eqb (get_or s k 0) 10 (sym (get_or-take n s k 0 short) ∙ e)),
      take_more s n 0 here.0.high ∙ ap (λ (b : ℕ). take n s ++ b ∷ []) last,
    )

-- no bytes follow the last line feed
pub no_rest : (b : Bool) (xs : List ℕ) → (IsTrue b ↔ (0 < length xs)) → b ≡ false → xs ≡ []
no_rest true xs h e = absurd cc
no_rest false [] h e = refl
no_rest false (x ∷ xs) h e = let t : IsTrue false = h.1 (omega arith) in absurd cc

-- the list is not empty
pub some_rest : (b : Bool) (xs : List ℕ) → (IsTrue b ↔ (0 < length xs)) → b ≡ true → 0 < length xs
some_rest true xs h e = h.0 refl
some_rest false xs h e = absurd cc

module _ (c mid : CutterView) (stream bytes : List ℕ) (taken : ℕ) (h : IsFedAll c stream)
    (count : taken ≡ cond c.is_finished 0 (length (take_through 10 bytes)))
    (fed : IsFed mid (stream ++ take taken bytes) (pieces stream)) where
  through : taken ≡ length (take_through 10 bytes)
  through = count ∙ rw (not_finished c stream h) refl

  -- the bytes end no piece, and all were taken
  pub push_none : (r : Option ℕ) → ((n : ℕ) → r ≡ Some n → ⊥) → IsFirstByte (is_byte 10) bytes r
      → IsFedAll mid (stream ++ take (length bytes) bytes)
      × (pieces (stream ++ take (length bytes) bytes) ≡ pieces stream)
  push_none (Some n) other found = absurd (other n refl)
  push_none None other found =
      let all : taken ≡ length bytes = through ∙ sym (through_missed bytes (first_is_position 10 bytes None found)) in
      let whole : take (length bytes) bytes ≡ bytes = take_all (length bytes) bytes (omega arith) in
      let none : HasNoEnd bytes = λ k low e. found k (omega arith) low (eq-eqb (get_or bytes k 0) 10 e) in
      let fed' : IsFed mid (stream ++ bytes) (pieces stream)
      = subst (λ (l : List ℕ). IsFed mid (stream ++ l) (pieces stream)) (ap (λ (n : ℕ). take n bytes) all
      ∙ whole) fed in
      rw whole (fed_none mid stream bytes none fed')

  -- they were taken to their first line feed
  pub push_some : (n : ℕ) → IsFirstByte (is_byte 10) bytes (Some n)
      → IsFed mid (stream ++ take (n + 1) bytes) (pieces stream)
  push_some n found =
      let all : taken ≡ n + 1 = through ∙ sym (through_found bytes n (first_is_position 10 bytes (Some n) found)) in
      subst (λ (k : ℕ). IsFed mid (stream ++ take k bytes) (pieces stream)) all fed

  -- then a piece waits
  pub waits : (n : ℕ) → IsFirstByte (is_byte 10) bytes (Some n) → mid.is_finished ≡ false → ⊥
  waits n found unended =
      let end = found_end bytes n found in
      one_waits mid stream (take n bytes) (take (n + 1) bytes) end.1 end.2 (push_some n found) unended

  -- and it is returned
  pub kept : {A : Type 0} (n : ℕ) → IsFirstByte (is_byte 10) bytes (Some n)
      → (new : CutterView) (o : Option (Cut A)) (cut : Cut A) → o ≡ Some cut
      → IfSome o (λ cut. IsTrue mid.is_finished × (new ≡ view_of [])
      × ((piece : List ℕ) → Holds mid piece → IsCut piece cut))
      → IfSome o (λ cut. (stream : List ℕ) (given : List (List ℕ)) → IsFed mid stream given
      → IsGiven cut new stream given)
      → (piece : List ℕ) × IsCut piece cut × IsFedAll new (stream ++ take (n + 1) bytes)
      × (pieces (stream ++ take (n + 1) bytes) ≡ pieces stream ++ piece ∷ [])
  kept {A} n found new o cut is one given =
      let one' : IsTrue mid.is_finished × (new ≡ view_of []) × ((piece : List ℕ) → Holds mid piece → IsCut piece cut) =
      subst (λ (x : Option (Cut A)). IfSome x (λ cut. IsTrue mid.is_finished × (new ≡ view_of [])
      × ((piece : List ℕ) → Holds mid piece → IsCut piece cut))) is one in
      let given' : (stream : List ℕ) (given : List (List ℕ)) → IsFed mid stream given → IsGiven cut new stream given =
      subst (λ (x : Option (Cut A)). IfSome x (λ cut. (stream : List ℕ) (given : List (List ℕ)) → IsFed mid stream given
      → IsGiven cut new stream given)) is given in
      let next = given' (stream ++ take (n + 1) bytes) (pieces stream) (push_some n found) in
      let all = fed_kept new stream (take (n + 1) bytes) next.0 one'.1 next.2 in
      (next.0, next.1, all.0, all.1)

-- a borrowed line
pub lent : (c : CutterView) (stream bytes : List ℕ) (n : ℕ) → IsFirstByte (is_byte 10) bytes (Some n)
    → unfinished stream ≡ [] → IsFedAll c stream
    → IsFedAll c (stream ++ take (n + 1) bytes)
    × (pieces (stream ++ take (n + 1) bytes) ≡ pieces stream ++ take (n + 1) bytes ∷ [])
    × (length (take (n + 1) bytes) ≡ n + 1)
lent c stream bytes n found nothing h =
    let end = found_end bytes n found in
    let fed = fed_lent c stream (take n bytes) (take (n + 1) bytes) end.1 end.2 nothing h in
    let high = end.0 in
    (fed.0, fed.1, simp length-take (omega arith))
