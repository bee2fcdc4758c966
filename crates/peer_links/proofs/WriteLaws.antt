-- Lines that are written: whole ones, and a prefix of the next.
use Rattle.std.proofs.Common.{◌≡◌, ◌≢◌, ℕ, zero, suc, ◌+◌, ◌-◌, ◌<◌, ◌≤◌, Bool, true, false, cond, ltb, List, [], ◌∷◌}
use Rattle.std.proofs.Common.{◌++◌, length, take, drop, get_or, Option, Result, Ok, Err, refl, sym, ap, subst, ◌∙◌}
use Rattle.std.proofs.Common.{arith, inl, inr, append-nil, append_assoc, length-append, length-take, get_or-take}
use Rattle.std.specs.List.{All}
use Rattle.std.specs.Io.KnownBytes.{Appends}
use Rattle.std.proofs.KnownBytes.{Appends-nil, Appends-trans}
use Rattle.std.proofs.lemmas.Bool.{cases_lt, lt-ltb}
use Rattle.std.proofs.lemmas.List.{take_all, take_at, drop_at, take-append-le, take-append-drop}
use Rattle.std.proofs.lemmas.List.Elements.{All-nil, All-append, All-push, All-head, All-tail}
use Rattle.std.proofs.lemmas.List.Concat.{flat_map-append}
use Rattle.entry_codec.specs.Pieces.{pieces, IsLine}
use Rattle.entry_codec.proofs.Views.{leb_no}
use Rattle.entry_codec.proofs.Pieces.{HasNoEnd, no_piece, one_piece}
use Rattle.line_streams.proofs.CountLaws.{lines_both}
use Rattle.line_streams.proofs.WriteLaws.{take_both}
use Rattle.peer_links.specs.Turns.{InTurn}
use Rattle.peer_links.specs.Sources.{joined, AreLines, WritesLines, SendsLines}
use Rattle.peer_links.specs.declared.link.LinkFault.{LinkFault}
use Rattle.peer_links.specs.declared.link.LinkFault.TheVariants.{WriteFailed}
use Rattle.peer_links.proofs.TurnLaws.{turn_one, turns_both}

-- ---- how many lines end in a text

no_end : (text : List ℕ) → All (λ b. b ≢ 10) text → (k : ℕ) → k < length text → get_or text k 0 ≢ 10
no_end [] all k low = absurd (omega (arith, low))
no_end (x ∷ xs) all zero low = All-head (λ b. b ≢ 10) x xs all
no_end (x ∷ xs) all (suc k) low = no_end xs (All-tail (λ b. b ≢ 10) x xs all) k (omega (arith, low))

line_piece : (line : List ℕ) → IsLine line → length (pieces line) ≡ 1
line_piece line h = subst (λ (l : List ℕ). length (pieces l) ≡ 1) (sym h.1)
    (ap length (one_piece [] h.0 (no_end h.0 h.2)).0)

-- no line ends in a proper prefix of a line
front_piece : (line : List ℕ) (n : ℕ) → IsLine line → n < length line → length (pieces (take n line)) ≡ 0
front_piece line n h low =
    let short : n ≤ length h.0 = omega (arith, low, ap length h.1, length-append h.0 (10 ∷ [])) in
    let front : take n line ≡ take n h.0 = ap (take n) h.1 ∙ take-append-le n h.0 (10 ∷ []) short in
    let none : HasNoEnd (take n h.0) = λ k within e.
    let k_low : k < n = omega (arith, simp length-take at within) in
    no_end h.0 h.2 k (omega (arith, k_low, short)) (sym (get_or-take n h.0 k 0 k_low) ∙ e) in
    ap (λ (l : List ℕ). length (pieces l)) front ∙ ap length (no_piece [] (take n h.0) none).0

lines_pieces : (lines : List (List ℕ)) → All IsLine lines → length (pieces (joined lines)) ≡ length lines
lines_pieces [] all = refl
lines_pieces (line ∷ rest) all =
    let one = line_piece line (All-head IsLine line rest all) in
    let more = lines_pieces rest (All-tail IsLine line rest all) in
    omega (arith, lines_both line (joined rest), one, more)

-- ---- this number of bytes of these lines

-- they are whole lines, and a prefix of the next
record CutAt (lines : List (List ℕ)) (n : ℕ) : Type 0 where
  pub whole : List (List ℕ)
  pub next : List ℕ
  pub rest : List (List ℕ)
  pub m : ℕ
  pub is : lines ≡ whole ++ next ∷ rest
  pub count : length (pieces (take n (joined lines))) ≡ length whole
  pub low : m < length next
  pub text : take n (joined lines) ≡ joined whole ++ take m next

-- a line, and what comes after it
cut_behind : (line rest : List ℕ) (n k : ℕ) → n ≡ length line + k → take n (line ++ rest) ≡ line ++ take k rest
cut_behind line rest n k sum =
    ap (λ (i : ℕ). take i (line ++ rest)) sum ∙ take_both (length line) k (line ++ rest)
    ∙ rw (take_at line rest (length line) refl, drop_at line rest (length line) refl) refl

cut_at : (lines : List (List ℕ)) (n : ℕ) → All IsLine lines → n < length (joined lines) → CutAt lines n
cut_at [] n all low = absurd (omega (arith, low))
cut_at (line ∷ rest) n all low = elim (cases_lt n (length line)) [
  | inl short ↦
      let front : take n (line ++ joined rest) ≡ take n line
      = take-append-le n line (joined rest) (omega (arith, short)) in
      record {
        whole = [];
        next = line;
        rest = rest;
        m = n;
        is = refl;
        count = ap (λ (l : List ℕ). length (pieces l)) front ∙ front_piece line n (All-head IsLine line rest all) short;
        low = short;
        text = front;
      }
  | inr long ↦
      let k : ℕ = n - length line in
      let sum : n ≡ length line + k = omega (arith, long) in
      let c = cut_at rest k (All-tail IsLine line rest all)
      (omega (arith, low, long, length-append line (joined rest))) in
      let parts = cut_behind line (joined rest) n k sum in
      record {
        whole = line ∷ c.whole;
        next = c.next;
        rest = c.rest;
        m = c.m;
        is = ap (λ (l : List (List ℕ)). line ∷ l) c.is;
        count = omega (
          arith,
          ap (λ (l : List ℕ). length (pieces l)) parts,
          lines_both line (take k (joined rest)),
          line_piece line (All-head IsLine line rest all),
          c.count,
        );
        low = c.low;
        text = parts ∙ ap (λ (l : List ℕ). line ++ l) c.text
            ∙ sym (append_assoc line (joined c.whole) (take c.m c.next));
      }
]

-- ---- lines that were copied, of which this number of bytes was written

module _ {S : Type 0}
    (takes : S → List ℕ → S → Type 0) (source after : S) (old new : Option (List ℕ)) (lines : List (List ℕ))
    (text : List ℕ)
    (are : AreLines lines text)
    (n count : ℕ) (begun : count ≡ length (pieces (take n text)) + cond (ltb n (length text)) 1 0)
    (took : count ≤ length lines
    → InTurn takes source (take count lines) after) (wrote : Appends old new (take n text)) where
  pub sent_all : n ≤ length text → length text ≤ n → SendsLines takes source after old new (Ok tt)
  sent_all within all =
      let whole : take n text ≡ text = take_all n text all in
      let no : ltb n (length text) ≡ false = leb_no (suc n) (length text) (omega (arith, all)) in
      let number : count ≡ length lines =
      begun ∙ rw no (omega (arith, ap (λ (l : List ℕ). length (pieces l)) (whole ∙ are.1), lines_pieces lines are.0)) in
      let these : take count lines ≡ lines = take_all count lines (omega (arith, number)) in (
        lines,
        subst (λ (l : List (List ℕ)). InTurn takes source l after) these (took (omega (arith, number))),
        are.0,
        subst (Appends old new) (whole ∙ are.1) wrote,
      )

  pub sent_front : n < length text → SendsLines takes source after old new (Err WriteFailed)
  sent_front low =
      let c = cut_at lines n are.0 (omega (arith, low, ap length are.1)) in
      let yes : ltb n (length text) ≡ true = lt-ltb n (length text) low in
      let number : count ≡ length c.whole + 1 =
      begun ∙ rw yes (omega (arith, c.count, ap (λ (l : List ℕ). length (pieces (take n l))) are.1)) in
      let split : lines ≡ (c.whole ++ c.next ∷ []) ++ c.rest = c.is ∙ sym (append_assoc c.whole (c.next ∷ []) c.rest) in
      let size : length (c.whole ++ c.next ∷ []) ≡ count = omega (arith, number, length-append c.whole (c.next ∷ [])) in
      let these : take count lines ≡ c.whole ++ c.next ∷ [] = ap (take count) split
      ∙ take_at (c.whole ++ c.next ∷ []) c.rest count size in
      let fits : count ≤ length lines
      = omega (arith, size, ap length split, length-append (c.whole ++ c.next ∷ []) c.rest) in
      let kept : All IsLine (c.whole ++ c.next ∷ [])
      = all_front (c.whole ++ c.next ∷ []) c.rest (subst (All IsLine) split are.0) in (
        c.whole ++ c.next ∷ [],
        subst (λ (l : List (List ℕ)). InTurn takes source l after) these (took fits),
        kept,
        (refl, c.whole, c.next, c.m, refl, c.low, subst (Appends old new) (ap (take n) are.1 ∙ c.text) wrote),
      )
    where
      all_front : (a b : List (List ℕ)) → All IsLine (a ++ b) → All IsLine a
      all_front [] b all = All-nil IsLine
      all_front (line ∷ a) b all =
          All-append IsLine (line ∷ []) a (All-push IsLine [] line (All-nil IsLine) (All-head IsLine line (a ++ b) all))
          (all_front a b (All-tail IsLine line (a ++ b) all))

-- ---- one line

pub line_whole : (old new : Option (List ℕ)) (line : List ℕ) (n : ℕ) → length line ≤ n → Appends old new (take n line)
    → WritesLines old new (line ∷ []) (Ok tt)
line_whole old new line n all wrote = subst (Appends old new) (take_all n line all ∙ sym (append-nil line)) wrote

pub line_front : (old new : Option (List ℕ)) (line : List ℕ) (n : ℕ) → n < length line → Appends old new (take n line)
    → WritesLines old new (line ∷ []) (Err WriteFailed)
line_front old new line n low wrote = (refl, [], line, n, refl, low, wrote)

-- ---- one after another

writes_more : (a b c : Option (List ℕ)) (front lines : List (List ℕ)) (result : Result (Unit {0}) LinkFault)
    → Appends a b (joined front) → WritesLines b c lines result → WritesLines a c (front ++ lines) result
writes_more a b c front lines (Ok u) h k =
    subst (Appends a c) (sym (flat_map-append (λ (l : List ℕ). l) front lines))
    (Appends-trans a b c (joined front) (joined lines) h k)
writes_more a b c front lines (Err fault) h k =
    let text : joined front ++ (joined k.1 ++ take k.3 k.2) ≡ joined (front ++ k.1) ++ take k.3 k.2 =
    sym (append_assoc (joined front) (joined k.1) (take k.3 k.2))
    ∙ ap (λ (l : List ℕ). l ++ take k.3 k.2) (sym (flat_map-append (λ (l : List ℕ). l) front k.1)) in (
      k.0,
      front ++ k.1,
      k.2,
      k.3,
      ap (λ (l : List (List ℕ)). front ++ l) k.4 ∙ sym (append_assoc front k.1 (k.2 ∷ [])),
      k.5,
      subst (Appends a c) text (Appends-trans a b c _ _ h k.6),
    )

module _ {S : Type 0} (takes : S → List ℕ → S → Type 0) where
  pub sends_none : (s : S) (w : Option (List ℕ)) → SendsLines takes s s w w (Ok tt)
  sends_none s w = ([], refl, All-nil IsLine, Appends-nil w)

  pub sends_more : (s t u : S) (a b c : Option (List ℕ)) (result : Result (Unit {0}) LinkFault)
      → SendsLines takes s t a b (Ok tt) → SendsLines takes t u b c result → SendsLines takes s u a c result
  sends_more s t u a b c result h k = (
    h.0 ++ k.0,
    turns_both takes s t u h.0 k.0 h.1 k.1,
    All-append IsLine h.0 k.0 h.2 k.2,
    writes_more a b c h.0 k.0 result h.3 k.3,
  )

  -- lines of an unchanged source
  pub sends_copied : (s t t' u : S) (a b c : Option (List ℕ)) (result : Result (Unit {0}) LinkFault)
      → SendsLines takes s t a b (Ok tt) → t' ≡ t → SendsLines takes t' u b c result → SendsLines takes s u a c result
  sends_copied s t t' u a b c result h same k
      = sends_more s t u a b c result h (subst (λ (x : S). SendsLines takes x u b c result) same k)

  -- one line
  pub sends_large : (s t u : S) (a b c : Option (List ℕ)) (line text : List ℕ) (result : Result (Unit {0}) LinkFault)
      → SendsLines takes s t a b (Ok tt) → IsLine line → takes t line u → text ≡ line
      → WritesLines b c (text ∷ []) result → SendsLines takes s u a c result
  sends_large s t u a b c line text result h is took same wrote =
      sends_more s t u a b c result h (
        line ∷ [],
        turn_one takes t line u took,
        All-push IsLine [] line (All-nil IsLine) is,
        subst (λ (l : List ℕ). WritesLines b c (l ∷ []) result) same wrote,
      )
