use Rattle.std.proofs.Common.{◌<◌, ◌∷◌, [], get_or, length, arith, refl}
use Rattle.std.specs.Prelude.{decimal}
use Rattle.std.proofs.lemmas.List.{get_or_default}
use Rattle.entry_codec.proofs.Behind.{loop_room}
use Rattle.entry_codec.proofs.writing.put_frontier.Goals as goal

pub put_value-at-requires : goal.put_value-at-requires
put_value-at-requires c =
    let f = c.args.frontier.now in
    let i = c.loop-index.index in
    let lt : i < length f = omega (arith, c.loop-index-test.true, c.count-index-end.ensures.value) in
    let room = loop_room 58 decimal (75 ∷ []) f f i (get_or f i 0) c.args.start c.loop-index.at
    (length c.args.buffer.now) refl lt (get_or_default f i 0 (get_or f i 0) lt) c.loop-index.invariant.end
    c.requires in
    rw c.place_of.ensures (omega (arith, room, c.loop-index.auto.buffer))
