use Rattle.std.proofs.Common.{◌≡◌, ◌+◌, length, map, refl, ap, ◌∙◌, arith, Vec}
use Rattle.rights_types.specs.Entries.{EntryValue}
use Rattle.std.proofs.lemmas.Result.{err_from_is_err_and}
use Rattle.entry_codec.specs.Parts.{split_at, left, parts_left}
use Rattle.entry_codec.specs.Reading.{entries_of}
use Rattle.entry_codec.proofs.Entries.{listed_is}
use Rattle.entry_codec.proofs.AnswerMessages.{keeps_none, keeps_more, few_items, stops, all_kept, too_many, entry_fails}
use Rattle.entry_codec.proofs.AnswerMessages.{tells_fault, parts_room, short_rest}
use Rattle.entry_codec.proofs.answer.built_entries.Goals as goal

pub loop-rest-init : goal.loop-rest-init
loop-rest-init g c = record {
  read = keeps_none c.in_ok-entries.entries.items (entries_of 1 c.args.origin (parts_left c.args.parts))
      c.in_ok-entries.ensures;
  room = omega (arith, parts_room c.args.parts c.requires.short);
  short = c.requires.short;
  slots = refl;
}

pub returns-in_err-prev : goal.returns-in_err-prev
returns-in_err-prev g c =
    let p = err_from_is_err_and c.from_residual-in_err-prev.result c.from_residual-in_err-prev.ensures.1 in
    let parts = ap parts_left c.in-Some.is ∙ ap (map (split_at 32)) c.split_far.ensures.parts in
    rw (p.1, p.2) (tells_fault (λ (v : Vec EntryValue g.row.A.Denot). v.items) c.in_err-prev.field-0.0 _
    (entry_fails c.args.origin (parts_left c.args.parts) c.in_err-prev.field-0.0
    (stops c.loop-rest.count (1 + c.loop-rest.count) c.args.origin (split_at 32 c.split_far.result.0.now)
    (parts_left c.split_far.result.1) (parts_left c.loop-rest.rest) c.in_err-prev.field-0.0
    (entries_of 1 c.args.origin (parts_left c.args.parts)) parts c.in_err-prev.ensures.entry
    c.loop-rest.invariant.read.read)))

pub add_entry-requires : goal.add_entry-requires
add_entry-requires g c = (listed_is (1 + c.loop-rest.count) c.args.origin (split_at 32 c.split_far.result.0.now) _
    c.requires.site c.in_ok-prev.ensures.entry).1

pub loop-rest-preserved : goal.loop-rest-preserved
loop-rest-preserved g c =
    let inv = c.loop-rest.invariant in
    let parts = ap parts_left c.in-Some.is ∙ ap (map (split_at 32)) c.split_far.ensures.parts in
    let next : (1 + c.loop-rest.count) + 1 ≡ 1 + (c.loop-rest.count + 1) = omega arith in
    let whole = entries_of 1 c.args.origin (parts_left c.args.parts) in
    let few = few_items c.loop-rest.entries.items c.loop-rest.count
    (entries_of (1 + c.loop-rest.count) c.args.origin (parts_left c.loop-rest.rest)) whole inv.read in
    record {
      read = rw (← next) (keeps_more c.loop-rest.entries.items c.add_entry.new.entries.items c.loop-rest.count
          (1 + c.loop-rest.count) c.args.origin (split_at 32 c.split_far.result.0.now)
          (parts_left c.split_far.result.1) (parts_left c.loop-rest.rest) _ whole parts c.in_ok-prev.ensures.entry
          (c.in_ok-add_entry.ensures few) inv.read);
      room = omega (arith, inv.room, ap length (ap (left 59) c.in-Some.is ∙ c.split_far.ensures.parts));
      short = short_rest c.loop-rest.rest c.split_far.result.1 c.in-Some.text c.in-Some.is inv.short
          c.split_far.ensures.shorter;
      slots = omega (arith, c.listed_entry_in.auto.kept, inv.slots);
    }

pub returns-then-count-gt-MAX_ANSWER : goal.returns-then-count-gt-MAX_ANSWER
returns-then-count-gt-MAX_ANSWER g c =
    too_many c.loop-rest.entries.items c.loop-rest.count (1 + c.loop-rest.count) c.args.origin
    (parts_left c.loop-rest.rest) (parts_left c.args.parts)
    (ap parts_left c.in_default.is) c.if-count-gt-MAX_ANSWER.true
    c.loop-rest.invariant.read

pub returns : goal.returns
returns g c =
    all_kept c.loop-rest.entries.items c.loop-rest.count (1 + c.loop-rest.count) c.args.origin
    (parts_left c.loop-rest.rest) (parts_left c.args.parts)
    (ap parts_left c.in_default.is) c.if-count-gt-MAX_ANSWER.false
    c.loop-rest.invariant.read
