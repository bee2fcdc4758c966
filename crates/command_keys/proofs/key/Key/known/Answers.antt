use Rattle.std.proofs.Common.{◌≡◌, ℕ, ◌+◌, ◌<◌, List, ◌∷◌, [], ◌++◌, ◌-◌, length, take, drop, sym, ap, ◌∙◌, subst}
use Rattle.std.proofs.Common.{arith}
use Rattle.std.specs.Prelude.{slice_index_or, replicate}
use Rattle.std.proofs.lemmas.List.{take_more, take_more_set, drop-set-lt, length-set, take_all}
use Rattle.command_keys.specs.Key.{IsKey}
use Rattle.command_keys.proofs.Zeros.{zeros_behind}
use Rattle.command_keys.proofs.key.Key.known.Goals as goal

pub loop-i-preserved : goal.loop-i-preserved
loop-i-preserved c =
    let i = c.loop-i.i in
    let places = c.loop-i.places in
    let text = c.args.text.now in
    let byte : ℕ = slice_index_or text i 0 in
    let so_far = c.loop-i.invariant in
    let more : i < length text = c.loop-i-test.true in
    let small : i < 64 = omega (arith, c.requires.few) in
    let room : i < length places = omega (arith, so_far.whole) in
    record {
      whole = length-set places i byte ∙ so_far.whole;
      copied = take_more_set places i byte room ∙ ap (λ (xs : List ℕ). xs ++ byte ∷ []) so_far.copied
          ∙ sym (take_more text i 0 more);
      zeros = drop-set-lt (i + 1) places i byte (omega arith)
          ∙ zeros_behind places i so_far.whole small so_far.zeros;
    }

pub invariant_of-result : goal.invariant_of-result
invariant_of-result c =
    let text = c.args.text.now in
    let n = length text in
    let so_far = c.loop-i.invariant in
    let end : c.loop-i.i ≡ n = omega arith in
    let same : take n c.loop-i.places ≡ text
    = ap (λ (m : ℕ). take m c.loop-i.places) (sym end) ∙ so_far.copied ∙ ap (λ (m : ℕ). take m text) end
    ∙ take_all n text (omega arith) in (
      subst IsKey (sym same) c.requires,
      record {
        whole = so_far.whole;
        within = c.requires.few;
        zeros = subst (λ (m : ℕ). drop m c.loop-i.places ≡ replicate (64 - m) 0) end so_far.zeros;
      },
    )
