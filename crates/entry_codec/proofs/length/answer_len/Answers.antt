use Rattle.std.proofs.Common.{◌+◌, ◌∙◌, ◌∷◌, length, take, get_or, arith, ap, sym, length-append}
use Rattle.std.specs.Prelude.{decimal}
use Rattle.std.proofs.lemmas.List.{take_all}
use Rattle.rights_types.specs.Entries.{EntryValue}
use Rattle.entry_codec.specs.Texts.{behind, answer_head, entry_text}
use Rattle.entry_codec.proofs.Behind.{behind_more}
use Rattle.entry_codec.proofs.length.answer_len.Goals as goal

pub loop-entry-init : goal.loop-entry-init
loop-entry-init g c =
    let a = c.args.answer.now in
    let origin = c.digit_count.ensures.value
    ∙ ap (λ n. length (decimal n)) (c.number.ensures.value ∙ c.origin.ensures.value) in
    let asker = c.digit_count-2.ensures.value
    ∙ ap (λ n. length (decimal n)) (c.number-2.ensures.value ∙ c.asker.ensures.value) in (
      omega (arith, origin, asker, length-append (decimal a.origin) (32 ∷ decimal a.asker)),
      omega (arith, c.digit_count.ensures.small, c.digit_count-2.ensures.small),
    )

pub loop-entry-preserved : goal.loop-entry-preserved
loop-entry-preserved g c =
    let items = c.entries-entry-items.result.now in
    let i = c.loop-entry.entry-index in
    let more = ap length (behind_more 59 entry_text items i c.entry-item.result c.loop-entry-test.true) in
    let both = length-append (behind 59 entry_text (take i items))
    (59 ∷ entry_text (get_or items i c.entry-item.result)) in
    let item = ap (λ (e : EntryValue). length (entry_text e)) c.entry-item.is in
    let so_far = c.loop-entry.invariant in (
      omega (arith, more, both, item, so_far.0, c.entry_len.ensures.value),
      omega (arith, so_far.1, c.entry_len.ensures.small),
    )

pub returns-clause-value : goal.returns-clause-value
returns-clause-value g c =
    let a = c.args.answer.now in
    let items = c.entries-entry-items.result.now in
    let all = take_all c.loop-entry.entry-index items c.loop-entry-test.false ∙ c.entries-entry-items.ensures.value in
    c.loop-entry.invariant.0 ∙ ap (λ es. length (answer_head a) + length (behind 59 entry_text es)) all
    ∙ sym (length-append (answer_head a) (behind 59 entry_text a.entries))

pub returns-clause-small : goal.returns-clause-small
returns-clause-small g c =
    let few = c.entries-entry-items.ensures.valid.few in
    let items = ap length c.entries-entry-items.ensures.value in
    omega (arith, c.loop-entry.invariant.1, c.loop-entry.auto.entry-index-end, few, items)
