-- A key's bytes and its 64 places determine each other. This proof is here because the type itself cites it.
use Rattle.std.specs.Prelude.{◌≡◌, ℕ, ◌-◌, List, ◌++◌, length, take, replicate}
use Rattle.std.proofs.Common.{arith, ap, ◌∙◌, sym, take-append-drop}
use Rattle.std.proofs.lemmas.List.{length-take-le}
use Rattle.command_keys.specs.Places.{IsPadded, padded}
use Rattle.command_keys.specs.declared.key.TheConstants.{MAX_KEY}
use Rattle.command_keys.specs.declared.key.Key.TheInside.{Inside}

count_again : (count : ℕ) (places : List ℕ) → IsPadded count places → length (take count places) ≡ count
count_again count places h = length-take-le count places (omega (arith, h.within, h.whole))

places_again : (count : ℕ) (places : List ℕ) → IsPadded count places → padded (take count places) ≡ places
places_again count places h =
    ap (λ n. take count places ++ replicate (MAX_KEY - n) 0) (count_again count places h)
    ∙ ap (λ zeros. take count places ++ zeros) (sym h.zeros)
    ∙ take-append-drop count places

made : List ℕ → ℕ → Inside
made places count = record { places = places; count = count }

pub padded_again : (a : Inside) → IsPadded a.count a.places
    → (let kept = take a.count a.places in let b : Inside = record { places = padded kept; count = length kept } in b)
    ≡ a
unfolding made
padded_again a h =
    ap (λ places. made places (length (take a.count a.places))) (places_again a.count a.places h)
    ∙ ap (λ count. made a.places count) (count_again a.count a.places h)
