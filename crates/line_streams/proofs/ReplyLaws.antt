-- A reply that is completed.
use Rattle.std.proofs.Common.{◌≡◌, ◌≤◌, ℕ, List, ◌++◌, [], ◌∷◌, take, drop, refl, sym, ap, ◌∙◌, arith, take-append-drop}
use Rattle.std.proofs.lemmas.List.{drop_all, take-take, length-take}
use Rattle.line_streams.specs.Waiting.{Waiting, AddsReply}

abbrev pub waiting : List ℕ → List ℕ → ℕ → Waiting
waiting whole part room = record { whole = whole; part = part; room = room }

pub finished : (old now : Waiting) (items : List ℕ) (w n room : ℕ) → w ≤ n
    → waiting (take w items) (drop w (take n items)) room ≡ now → now.whole ≡ old.whole → now.part ≡ old.part ++ 10 ∷ []
    → AddsReply old (waiting (take n items) (drop n (take n items)) room) old.part
finished old now items w n room before view kept more =
    let whole : take w items ≡ now.whole = ap (λ (v : Waiting). v.whole) view in
    let part : drop w (take n items) ≡ now.part = ap (λ (v : Waiting). v.part) view in
    record {
      whole = sym (take-append-drop w (take n items)) ∙ rw (take-take w n items before, whole, part, kept, more) refl;
      part = drop_all n (take n items) (omega (arith, length-take n items));
    }
