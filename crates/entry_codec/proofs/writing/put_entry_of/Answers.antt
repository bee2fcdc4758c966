use Rattle.std.proofs.Common.{length, arith, refl}
use Rattle.rights_types.specs.Entries.{EntryValue}
use Rattle.entry_codec.specs.Spelling.{move_text}
use Rattle.entry_codec.specs.Texts.{entry_head}
use Rattle.entry_codec.proofs.Behind.{loop_room}
use Rattle.entry_codec.proofs.writing.put_entry_of.Goals as goal

pub put_byte-at-requires-in-loop-m : goal.put_byte-at-requires-in-loop-m
put_byte-at-requires-in-loop-m c =
    let e : EntryValue = record { origin = c.args.origin; prev = c.args.prev; moves = c.args.moves.now } in
    let room = loop_room 32 move_text (entry_head e) e.moves e.moves c.loop-m.m-index c.m-item.result c.args.start
    c.loop-m.at (length c.args.buffer.now) refl
    c.loop-m-test.true c.m-item.is c.loop-m.invariant.end c.requires.room in
    omega (arith, room, c.loop-m.auto.buffer)

pub put_move-at-requires : goal.put_move-at-requires
put_move-at-requires c =
    let e : EntryValue = record { origin = c.args.origin; prev = c.args.prev; moves = c.args.moves.now } in
    let room = loop_room 32 move_text (entry_head e) e.moves e.moves c.loop-m.m-index c.m-item.result c.args.start
    c.loop-m.at (length c.args.buffer.now) refl
    c.loop-m-test.true c.m-item.is c.loop-m.invariant.end c.requires.room in
    omega (arith, room, c.loop-m.auto.buffer, c.put_byte-at-in-loop-m.ensures.end, c.put_byte-at-in-loop-m.auto.buffer)
