use Rattle.std.proofs.Common.{◌≡◌, ◌+◌, length, map, refl, ap, ◌∙◌, arith}
use Rattle.std.proofs.lemmas.Result.{err_from_is_err_and}
use Rattle.entry_codec.specs.Parts.{split_at, left, parts_left}
use Rattle.entry_codec.specs.Reading.{entries_of}
use Rattle.entry_codec.proofs.AnswerMessages.{begins, reads_more, stops, all_read, parts_room, short_rest}
use Rattle.entry_codec.proofs.answer.entry_count.Goals as goal

pub loop-rest-init : goal.loop-rest-init
loop-rest-init c = record {
  read = begins (entries_of 1 c.args.origin (parts_left c.args.parts));
  room = omega (arith, parts_room c.args.parts c.requires.short);
  short = c.requires.short;
  slots = refl;
}

pub returns-in_err-listed_entry_in : goal.returns-in_err-listed_entry_in
returns-in_err-listed_entry_in c =
    let p = err_from_is_err_and c.from_residual.result c.from_residual.ensures.1 in
    let parts = ap parts_left c.in-Some.is ∙ ap (map (split_at 32)) c.split_far.ensures.parts in
    rw (p.1, p.2) (stops c.loop-rest.count (1 + c.loop-rest.count) c.args.origin (split_at 32 c.split_far.result.0.now)
    (parts_left c.split_far.result.1) (parts_left c.loop-rest.rest) c.in_err-listed_entry_in.field-0.0
    (entries_of 1 c.args.origin (parts_left c.args.parts)) parts c.in_err-listed_entry_in.ensures.entry
    c.loop-rest.invariant.read)

pub loop-rest-preserved : goal.loop-rest-preserved
loop-rest-preserved c =
    let inv = c.loop-rest.invariant in
    let parts = ap parts_left c.in-Some.is ∙ ap (map (split_at 32)) c.split_far.ensures.parts in
    let next : (1 + c.loop-rest.count) + 1 ≡ 1 + (c.loop-rest.count + 1) = omega arith in
    record {
      read = rw (← next) (reads_more c.loop-rest.count (1 + c.loop-rest.count) c.args.origin
          (split_at 32 c.split_far.result.0.now) (parts_left c.split_far.result.1) (parts_left c.loop-rest.rest) _
          (entries_of 1 c.args.origin (parts_left c.args.parts)) parts c.in_ok-listed_entry_in.ensures.entry inv.read);
      room = omega (arith, inv.room, ap length (ap (left 59) c.in-Some.is ∙ c.split_far.ensures.parts));
      short = short_rest c.loop-rest.rest c.split_far.result.1 c.in-Some.text c.in-Some.is inv.short
          c.split_far.ensures.shorter;
      slots = omega (arith, c.listed_entry_in.auto.kept, inv.slots);
    }

pub returns : goal.returns
returns c =
    let read = c.loop-rest.invariant.read in (
      read.entries,
      all_read c.loop-rest.count (1 + c.loop-rest.count) c.args.origin (parts_left c.loop-rest.rest)
          (entries_of 1 c.args.origin (parts_left c.args.parts)) read (ap parts_left c.in_default.is),
      read.count-is,
    )
