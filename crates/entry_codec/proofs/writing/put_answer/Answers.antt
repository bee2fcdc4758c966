use Rattle.std.proofs.Common.{◌+◌, ◌++◌, ◌∙◌, ◌∷◌, [], length, take, arith, ap, sym, length-append}
use Rattle.std.proofs.lemmas.List.{take_all}
use Rattle.entry_codec.specs.Texts.{behind, answer_head, entry_text}
use Rattle.entry_codec.proofs.Behind.{loop_room, one_more, then_put}
use Rattle.entry_codec.proofs.writing.put_answer.Goals as goal

pub put_byte-at-requires-in-loop-entry : goal.put_byte-at-requires-in-loop-entry
put_byte-at-requires-in-loop-entry g c =
    let a = c.args.answer.now in
    let room = loop_room 59 entry_text (answer_head a) a.entries c.entries-entry-items.result.now
    c.loop-entry.entry-index c.entry-item.result c.args.start c.loop-entry.at (length c.args.buffer.now)
    c.entries-entry-items.ensures.value c.loop-entry-test.true c.entry-item.is c.loop-entry.invariant.end c.requires in
    omega (arith, room, c.loop-entry.auto.buffer)

pub put_entry-at-requires : goal.put_entry-at-requires
put_entry-at-requires g c =
    let a = c.args.answer.now in
    let room = loop_room 59 entry_text (answer_head a) a.entries c.entries-entry-items.result.now
    c.loop-entry.entry-index c.entry-item.result c.args.start c.loop-entry.at (length c.args.buffer.now)
    c.entries-entry-items.ensures.value c.loop-entry-test.true c.entry-item.is c.loop-entry.invariant.end c.requires in
    omega (
      arith,
      room,
      c.loop-entry.auto.buffer,
      c.put_byte-at-in-loop-entry.ensures.end,
      c.put_byte-at-in-loop-entry.auto.buffer,
    )

pub loop-entry-preserved : goal.loop-entry-preserved
loop-entry-preserved g c =
    let items = c.entries-entry-items.result.now in
    let i = c.loop-entry.entry-index in
    let head = answer_head c.args.answer.now in
    let before = take c.args.start c.args.buffer.now in
    let next = entry_text c.entry-item.result in
    let so_far = head ++ behind 59 entry_text (take i items) in
    let more = one_more 59 entry_text head items i c.entry-item.result c.loop-entry-test.true c.entry-item.is in
    let byte = c.put_byte-at-in-loop-entry.ensures in
    let put = byte.text ∙ ap (λ t. t ++ 59 ∷ []) c.loop-entry.invariant.text in
    record {
      end = omega (
        arith,
        ap length more,
        length-append so_far (59 ∷ next),
        c.loop-entry.invariant.end,
        byte.end,
        c.put_entry-at.ensures.end,
      );
      text = c.put_entry-at.ensures.text ∙ ap (λ t. t ++ next) put ∙ then_put before so_far next 59
          ∙ ap (λ t. before ++ t) (sym more);
    }

pub returns-clause-end : goal.returns-clause-end
returns-clause-end g c =
    let items = c.entries-entry-items.result.now in
    let all = take_all c.loop-entry.entry-index items c.loop-entry-test.false ∙ c.entries-entry-items.ensures.value in
    c.loop-entry.invariant.end
    ∙ ap (λ es. c.args.start + length (answer_head c.args.answer.now ++ behind 59 entry_text es)) all

pub returns-clause-text : goal.returns-clause-text
returns-clause-text g c =
    let items = c.entries-entry-items.result.now in
    let all = take_all c.loop-entry.entry-index items c.loop-entry-test.false ∙ c.entries-entry-items.ensures.value in
    let before = take c.args.start c.args.buffer.now in
    c.loop-entry.invariant.text ∙ ap (λ es. before ++ (answer_head c.args.answer.now ++ behind 59 entry_text es)) all
