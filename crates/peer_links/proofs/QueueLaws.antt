-- The lines of an outbox, which are stored in a ring.
use Rattle.std.proofs.Common.{◌≡◌, ℕ, zero, suc, Bool, true, false, cond, ◌+◌, ◌-◌, ◌<◌, ◌≤◌, List, [], ◌∷◌, ◌++◌}
use Rattle.std.proofs.Common.{length, take, drop, map, Vec, Some, None, Result, Ok, Err, OnOk, IfErr, IsOk, ◌↔◌, rules}
use Rattle.std.proofs.Common.{refl, sym, ap, subst, ◌∙◌, arith, inl, inr, drop-cons, append-nil, append_assoc}
use Rattle.std.proofs.Common.{length-append}
use Rattle.std.specs.Prelude.{option_map}
use Rattle.std.specs.List.{All, slice_get}
use Rattle.std.proofs.lemmas.Bool.{cases_lt, le-leb}
use Rattle.std.proofs.lemmas.List.{map-append, length-map, drop_all, drop-drop}
use Rattle.std.proofs.lemmas.Option.{none-some, slice_get-map, slice_get_within, get_or_from_slice_get}
use Rattle.circular_buffer.proofs.Places.{slice_get-some}
use Rattle.std.proofs.lemmas.List.Elements.{All-nil, All-push, All-append, All-head, All-tail}
use Rattle.circular_buffer.specs.Buffer.{Buffer, buffer}
use Rattle.entry_codec.specs.Pieces.{IsLine}
use Rattle.entry_codec.proofs.Views.{leb_no}
use Rattle.peer_links.specs.Outboxes.{Waiting, front_in, Batches}
use Rattle.peer_links.specs.Sources.{joined, GivesBatch}
use Rattle.peer_links.specs.declared.source.Batch.{Batch}
use Rattle.peer_links.specs.declared.source.Batch.TheVariants.{Over, Copied, Large}
use Rattle.peer_links.specs.Turns.{InTurn}
use Rattle.peer_links.specs.declared.outbox.TheConstants.{OUTBOX_LINES}

module _ {X : Type 0} where
  abbrev pub texts : List (Vec ℕ X) → List (List ℕ)
  texts lines = map (λ (line : Vec ℕ X). line.items) lines

  abbrev pub IsQueue : Buffer (Vec ℕ X) → Type 0
  IsQueue b = (b.capacity ≡ OUTBOX_LINES) × (length b.items ≤ OUTBOX_LINES) × All IsLine (texts b.items)

  all_but_first : (lines : List (Vec ℕ X)) → length lines ≤ OUTBOX_LINES → All IsLine (texts lines)
      → (length (drop 1 lines) ≤ OUTBOX_LINES) × All IsLine (texts (drop 1 lines))
  all_but_first [] few all = (few, all)
  all_but_first (line ∷ lines) few all = (omega arith, All-tail IsLine line.items (texts lines) all)

  pub queue_take : (old new : Buffer (Vec ℕ X)) → IsQueue old → new ≡ buffer (drop 1 old.items) old.capacity
      → IsQueue new
  queue_take old new q e =
      let rest = all_but_first old.items q.1 q.2 in
      subst IsQueue (sym e) (q.0, rest.0, rest.1)

  pub queue_put : (old new : Buffer (Vec ℕ X)) (line : Vec ℕ X) (r : Result (Unit {0}) (Vec ℕ X)) → IsQueue old
      → IsLine line.items
      → (OnOk r (length old.items < old.capacity))
      → OnOk r (new ≡ buffer (old.items ++ line ∷ []) old.capacity) → IfErr r (λ x. (x ≡ line) × (new ≡ old))
      → IsQueue new
  queue_put old new line (Ok u) q h room ok err =
      let all : All IsLine (texts (old.items ++ line ∷ [])) =
      subst (All IsLine) (sym (map-append (λ (l : Vec ℕ X). l.items) old.items (line ∷ [])))
      (All-push IsLine (texts old.items) line.items q.2 h) in
      subst IsQueue (sym ok) (q.0, omega (arith, room, q.0, length-append old.items (line ∷ [])), all)
  queue_put old new line (Err e) q h room ok err = subst IsQueue (sym err.1) q

pub room_for : {X Y P : Type 0} (r : Result X Y) → (IsOk r ↔ P) → OnOk r P
room_for (Ok x) h = h.0 (search rules)
room_for (Err y) h = tt

-- ---- copying

module _ {X : Type 0} (lines : List (Vec ℕ X)) (i : ℕ) where
  -- the next line
  pub next_line : (line : Vec ℕ X) → Some line ≡ slice_get lines i
      → (i < length (texts lines)) × (drop i (texts lines) ≡ line.items ∷ drop (i + 1) (texts lines))
  next_line line found =
      let low : i < length lines = slice_get_within lines i line (sym found) in
      let long : length (texts lines) ≡ length lines = length-map lines (λ (l : Vec ℕ X). l.items) in
      let low' : i < length (texts lines) = omega (arith, low, long) in
      let here : slice_get (texts lines) i ≡ Some line.items =
      slice_get-map (λ (l : Vec ℕ X). l.items) lines i ∙ ap (option_map (λ (l : Vec ℕ X). l.items)) (sym found) in
      let next : suc i ≡ i + 1 = omega arith in (
        low',
        drop-cons (texts lines) i [] low'
            ∙ rw (get_or_from_slice_get (texts lines) i line.items [] here)
            (ap (λ (n : ℕ). line.items ∷ drop n (texts lines)) next),
      )

  -- no line is left
  pub no_line : None ≡ slice_get lines i → drop i (texts lines) ≡ []
  no_line none = elim (cases_lt i (length lines)) [
    | inl low ↦ let some = slice_get-some lines i low in absurd (none-some some.0 (none ∙ some.1))
    | inr past ↦ drop_all i (texts lines) (omega (arith, past, length-map lines (λ (l : Vec ℕ X). l.items)))
  ]

module _ (room filled i : ℕ) (lines : List (List ℕ)) (front : List ℕ) (h : joined (front_in room lines)
    ≡ front ++ joined (front_in (room - filled) (drop i lines))) where
  -- one more line was copied
  pub copied_more : (line : List ℕ) → drop i lines ≡ line ∷ drop (i + 1) lines → length line ≤ room - filled
      → joined (front_in room lines)
      ≡ (front ++ line) ++ joined (front_in (room - (filled + length line)) (drop (i + 1) lines))
  copied_more line cut fits =
      let rest : List (List ℕ) = drop (i + 1) lines in
      let left : room - filled - length line ≡ room - (filled + length line) = omega arith in
      let one : joined (front_in (room - filled) (line ∷ rest))
      ≡ line ++ joined (front_in (room - (filled + length line)) rest) =
      rw (le-leb (length line) (room - filled) fits) (ap (λ (n : ℕ). line ++ joined (front_in n rest)) left) in
      h ∙ ap (λ (l : List (List ℕ)). front ++ joined (front_in (room - filled) l)) cut
      ∙ ap (λ (l : List ℕ). front ++ l) one
      ∙ sym (append_assoc front line (joined (front_in (room - (filled + length line)) rest)))

  -- the next line does not fit
  pub copied_all : (line : List ℕ) → drop i lines ≡ line ∷ drop (i + 1) lines → room - filled < length line
      → front ≡ joined (front_in room lines)
  copied_all line cut large =
      let none : joined (front_in (room - filled) (line ∷ drop (i + 1) lines)) ≡ []
      = rw (leb_no (length line) (room - filled) large) refl in
      sym (h ∙ ap (λ (l : List (List ℕ)). front ++ joined (front_in (room - filled) l)) cut
      ∙ ap (λ (l : List ℕ). front ++ l) none ∙ append-nil front)

  pub copied_last : drop i lines ≡ [] → front ≡ joined (front_in room lines)
  copied_last cut = sym (h ∙ ap (λ (l : List (List ℕ)). front ++ joined (front_in (room - filled) l)) cut
      ∙ append-nil front)

  -- the same, in the form that a loop needs
  pub copied_on : (room' filled' : ℕ) (front' line : List ℕ) → drop i lines ≡ line ∷ drop (i + 1) lines
      → length line ≤ room - filled
      → room' ≡ room → filled' ≡ filled + length line → front' ≡ front ++ line
      → joined (front_in room' lines) ≡ front' ++ joined (front_in (room' - filled') (drop (i + 1) lines))
  copied_on room' filled' front' line cut fits e f g = rw (e, f, g) (copied_more line cut fits)

-- ---- dropping

abbrev waiting : List (List ℕ) → Bool → Waiting
waiting lines ended = record { lines = lines; ended = ended }

-- one more line was dropped
pub dropped_more : (old mid new : Waiting) (n : ℕ) → mid ≡ record old { lines = drop n old.lines }
    → new ≡ record mid { lines = drop 1 mid.lines }
    → new ≡ record old { lines = drop (n + 1) old.lines }
dropped_more old mid new n e f =
    f ∙ ap (λ (w : Waiting). waiting (drop 1 w.lines) w.ended) e
    ∙ ap (λ (l : List (List ℕ)). waiting l old.ended) (drop-drop 1 n old.lines)

-- ---- the oldest lines

fits_front : (b : Bool) (line : List ℕ) (rest : List (List ℕ)) → IsLine line → All IsLine rest
    → All IsLine (cond b (line ∷ rest) [])
fits_front true line rest h all = All-append IsLine (line ∷ []) rest (All-push IsLine [] line (All-nil IsLine) h) all
fits_front false line rest h all = All-nil IsLine

pub all_front : (room : ℕ) (lines : List (List ℕ)) → All IsLine lines → All IsLine (front_in room lines)
all_front room [] all = All-nil IsLine
all_front room (line ∷ lines) all =
    fits_front _ line (front_in (room - length line) lines) (All-head IsLine line lines all)
    (all_front (room - length line) lines (All-tail IsLine line lines all))

-- whole lines are taken one after another, if nothing else is said of them
pub all_in_turn : {S : Type 0} (s : S) (count : ℕ) (lines : List (List ℕ)) → All IsLine lines
    → InTurn {S = S} (λ _ line _. IsLine line) s (take count lines) s
all_in_turn s zero lines all = refl
all_in_turn s (suc n) [] all = refl
all_in_turn s (suc n) (line ∷ lines) all
    = (s, All-head IsLine line lines all, all_in_turn s n lines (All-tail IsLine line lines all))

-- ---- the next batch

-- of an outbox, whose contract says only that its lines are whole
pub outbox_batch : {S M : Type 0} (s : S) (old new : Waiting) (batch : Batch M) (room : List ℕ)
    → Batches old batch room new
    → GivesBatch {S = S} (λ _ lines. All IsLine lines) (λ _ line _. IsLine line) (λ _. Unit {0}) s batch room s
outbox_batch s old new Over room h = (tt, refl)
outbox_batch s old new (Copied count) room h = (h.0, h.1, refl, front_in (length room) old.lines, h.2.0, h.2)
outbox_batch s old new (Large line) room h = (h.0, h.1, h.0)

-- the oldest line is larger than the buffer, if nothing was copied
large_line : (room : ℕ) (line : List ℕ) (rest : List (List ℕ)) → IsLine line → joined (front_in room (line ∷ rest)) ≡ []
    → room < length line
large_line room line rest h none = elim (cases_lt room (length line)) [
  | inl low ↦ low
  | inr fits ↦
      let one : joined (front_in room (line ∷ rest)) ≡ line ++ joined (front_in (room - length line) rest)
      = rw (le-leb (length line) room fits) refl in
      absurd (omega (
        arith,
        ap length (sym one ∙ none),
        length-append line (joined (front_in (room - length line) rest)),
        ap length h.1,
        length-append h.0 (10 ∷ []),
      ))
]

pub batch_large : (old new : Waiting) (text : List ℕ) (room n : ℕ) (line : List ℕ) → IsLine line
    → old ≡ record new { lines = line ∷ new.lines }
    → length text ≡ room → take n text ≡ joined (front_in room old.lines) → n ≤ 0 → length text < length line
batch_large old new text room n line is took same copied nothing =
    let zero_is : n ≡ 0 = omega (arith, nothing) in
    let lines : old.lines ≡ line ∷ new.lines = ap (λ (w : Waiting). w.lines) took in
    let none : joined (front_in room (line ∷ new.lines)) ≡ [] =
    ap (λ (l : List (List ℕ)). joined (front_in room l)) (sym lines) ∙ sym copied
    ∙ ap (λ (k : ℕ). take k text) zero_is in
    omega (arith, same, large_line room line new.lines is none)
