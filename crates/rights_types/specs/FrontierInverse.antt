-- A frontier's numbers and its sixteen slots determine each other. This proof is here because the type itself cites
-- it.
use Rattle.std.specs.Prelude.{◌≡◌, ℕ, ◌-◌, List, ◌++◌, length, take, replicate}
use Rattle.std.proofs.Common.{arith, ap, ◌∙◌, sym, take-append-drop}
use Rattle.std.proofs.lemmas.List.{length-take-le}
use Rattle.rights_types.specs.Frontiers.{IsPadded, padded}
use Rattle.rights_types.specs.declared.frontier.Frontier.TheInside.{Inside}

count_again : (count : ℕ) (places : List ℕ) → IsPadded count places → length (take count places) ≡ count
count_again count places h = length-take-le count places (omega (arith, h.within, h.sixteen))

places_again : (count : ℕ) (places : List ℕ) → IsPadded count places → padded (take count places) ≡ places
places_again count places h =
    ap (λ n. take count places ++ replicate (16 - n) 0) (count_again count places h)
    ∙ ap (λ zeros. take count places ++ zeros) (sym h.zeros)
    ∙ take-append-drop count places

made : List ℕ → ℕ → Inside
made numbers count = record { numbers = numbers; count = count }

pub padded_again : (a : Inside) → IsPadded a.count a.numbers
    → (let kept = take a.count a.numbers in let b : Inside = record { numbers = padded kept; count = length kept } in b)
    ≡ a
unfolding made
padded_again a h =
    ap (λ numbers. made numbers (length (take a.count a.numbers))) (places_again a.count a.numbers h)
    ∙ ap (λ count. made a.numbers count) (count_again a.count a.numbers h)
