-- What a cutter has of the piece at work, after it took more.
use Rattle.std.proofs.Common.{◌≡◌, ℕ, ◌+◌, ◌-◌, ◌<◌, ◌≤◌, Bool, true, false, eqb, leb, not, List, [], ◌∷◌, ◌++◌, length}
use Rattle.std.proofs.Common.{get_or, refl, ap, ◌∙◌, sym, inl, inr, arith, length-append}
use Rattle.std.proofs.lemmas.Bool.{le-leb}
use Rattle.std.proofs.lemmas.Bool.Decides.{leb_tells}
use Rattle.std.proofs.lemmas.List.{get_or-append_right}
use Rattle.std.specs.Io.BufRead.{ends_with_byte}
use Rattle.rights_types.specs.declared.limits.TheConstants.{MAX_LINE}
use Rattle.entry_codec.specs.Cutter.{CutterView, Holds, view_of}

pub leb_no : (a b : ℕ) → b < a → leb a b ≡ false
leb_no a b h = elim (leb_tells a b) [ inl p ↦ absurd (omega (arith, p.1)) | inr p ↦ p.0 ]

ends_at : (xs : List ℕ) → 0 < length xs → ends_with_byte 10 xs ≡ eqb (get_or xs (length xs - 1) 0) 10
ends_at [] h = absurd (omega arith)
ends_at (x ∷ xs) h = rw (le-leb 1 (length (x ∷ xs)) h)

pub ends_taken : (piece taken : List ℕ) (n : ℕ) → length taken ≡ n → 0 < n
    → ends_with_byte 10 (piece ++ taken) ≡ eqb (get_or taken (n - 1) 0) 10
ends_taken piece taken n e h =
    let long : 0 < length (piece ++ taken) = simp length-append (omega arith) in
    let at : length (piece ++ taken) - 1 ≡ length piece + (n - 1) = simp length-append (omega arith) in
    let less : (length piece + (n - 1)) - length piece ≡ n - 1 = omega arith in
    ends_at (piece ++ taken) long ∙ ap (λ (k : ℕ). eqb (get_or (piece ++ taken) k 0) 10) at
    ∙ ap (λ (b : ℕ). eqb b 10) (get_or-append_right piece taken (length piece) (length piece + (n - 1)) 0 refl
    (omega arith))
    ∙ ap (λ (k : ℕ). eqb (get_or taken k 0) 10) less

-- the view of a piece that fits, and of one that doesn't
short : (piece : List ℕ) (b : Bool) → length piece ≤ MAX_LINE → ends_with_byte 10 piece ≡ b
    → record { kept = piece; is_long = false; is_finished = b } ≡ view_of piece
short piece b h e = rw (le-leb (length piece) MAX_LINE h, e)

long : (piece : List ℕ) (b : Bool) → MAX_LINE < length piece → ends_with_byte 10 piece ≡ b
    → record { kept = []; is_long = true; is_finished = b } ≡ view_of piece
long piece b h e = rw (leb_no (length piece) MAX_LINE h, e)

pub short_of : (v : CutterView) (piece : List ℕ) → Holds v piece → v.is_long ≡ false
    → (length piece ≤ MAX_LINE) × (v.kept ≡ piece)
short_of v piece h e =
    elim (leb_tells (length piece) MAX_LINE) [
      | inl p ↦ (p.1, ap (λ (w : CutterView). w.kept) h ∙ rw (p.0))
      | inr p ↦ absurd (let f : true ≡ false = rw (sym (ap not p.0)) (sym (ap (λ (w : CutterView). w.is_long) h) ∙ e) in
          cc)
    ]

pub long_of : (v : CutterView) (piece : List ℕ) → Holds v piece → v.is_long ≡ true
    → (MAX_LINE < length piece) × (v.kept ≡ [])
long_of v piece h e =
    elim (leb_tells (length piece) MAX_LINE) [
      | inl p ↦ absurd (let f : false ≡ true = rw (sym (ap not p.0)) (sym (ap (λ (w : CutterView). w.is_long) h) ∙ e) in
          cc)
      | inr p ↦ (p.1, ap (λ (w : CutterView). w.kept) h ∙ rw (p.0))
    ]

module _ (v : CutterView) (piece taken : List ℕ) (n : ℕ) (h : Holds v piece) (e : length taken ≡ n) (some : 0 < n)
    (kept : List ℕ) (is_long : Bool) where
  pub taken_short : v.is_long ≡ false → length v.kept + n ≤ MAX_LINE → kept ≡ v.kept ++ taken → is_long ≡ false
      → record { kept = kept; is_long = is_long; is_finished = eqb (get_or taken (n - 1) 0) 10 }
      ≡ view_of (piece ++ taken)
  taken_short f l a b =
      let p = short_of v piece h f in
      let few : length (piece ++ taken) ≤ MAX_LINE = simp length-append (omega (arith, ap length p.1)) in
      rw (a, b, p.1) (short (piece ++ taken) _ few (ends_taken piece taken n e some))

  pub taken_over : v.is_long ≡ false → MAX_LINE < length v.kept + n → kept ≡ [] → is_long ≡ true
      → record { kept = kept; is_long = is_long; is_finished = eqb (get_or taken (n - 1) 0) 10 }
      ≡ view_of (piece ++ taken)
  taken_over f l a b =
      let p = short_of v piece h f in
      let many : MAX_LINE < length (piece ++ taken) = simp length-append (omega (arith, ap length p.1)) in
      rw (a, b) (long (piece ++ taken) _ many (ends_taken piece taken n e some))

  pub taken_long : v.is_long ≡ true → kept ≡ v.kept → is_long ≡ true
      → record { kept = kept; is_long = is_long; is_finished = eqb (get_or taken (n - 1) 0) 10 }
      ≡ view_of (piece ++ taken)
  taken_long f a b =
      let p = long_of v piece h f in
      let many : MAX_LINE < length (piece ++ taken) = simp length-append (omega arith) in
      rw (a, b, p.1) (long (piece ++ taken) _ many (ends_taken piece taken n e some))
