use Rattle.std.proofs.Common.{◌≡◌, Some, length, take, sym, ◌∙◌, arith}
use Rattle.std.proofs.lemmas.List.{length-take-le}
use Rattle.entry_codec.specs.Parts.{left}
use Rattle.entry_codec.specs.Moves.{all_numbers}
use Rattle.entry_codec.proofs.FrontierLoop.{reads_first, stops_first, too_many, all_read, made, refused, some_values}
use Rattle.entry_codec.proofs.FrontierLoop.{no_values}
use Rattle.entry_codec.proofs.moves.frontier_in.Goals as goal
use Rattle.entry_codec.proofs.moves.frontier_in.Goals.{After-new}

pub returns-then-count-ge16 : goal.returns-then-count-ge16
returns-then-count-ge16 c =
    let some = some_values c.loop-rest.rest c.is_some.result c.is_some.ensures c.loop-rest-test.true in
    too_many c.loop-rest.numbers c.loop-rest.count (left 58 c.loop-rest.rest)
    (left 58 c.args.values) some c.if-count-ge16.true c.loop-rest.invariant

pub returns-in_err-number : goal.returns-in_err-number
returns-in_err-number c =
    let some = some_values c.loop-rest.rest c.is_some.result c.is_some.ensures c.loop-rest-test.true in
    rw c.from_residual.ensures (stops_first c.loop-rest.numbers c.loop-rest.count (left 58 c.loop-rest.rest)
    (left 58 c.args.values) some c.in_err-number.ensures.value c.loop-rest.invariant)

pub loop-rest-preserved : goal.loop-rest-preserved
loop-rest-preserved c =
    reads_first c.loop-rest.numbers c.loop-rest.count c.in_ok-number.number (left 58 c.in_ok-number.more)
    (left 58 c.loop-rest.rest) (left 58 c.args.values) c.in_ok-number.ensures.value c.if-count-ge16.false
    c.loop-rest.invariant

-- all values were read
whole : (c : goal.After-new)
    → (all_numbers (left 58 c.args.values) ≡ Some (take c.loop-rest.count c.loop-rest.numbers))
    × (length (left 58 c.args.values) ≡ length (take c.loop-rest.count c.loop-rest.numbers))
whole c =
    let none = no_values c.loop-rest.rest c.is_some.result c.is_some.ensures c.loop-rest-test.false in
    let read = all_read c.loop-rest.numbers c.loop-rest.count _ _ none c.loop-rest.invariant in (
      read.0,
      read.1 ∙ sym (length-take-le c.loop-rest.count c.loop-rest.numbers
          (omega (arith, c.loop-rest.invariant.most, c.loop-rest.invariant.sixteen))),
    )

pub returns-in-Ok : goal.returns-in-Ok
returns-in-Ok c =
    let read = whole (goal.at.returns-in-Ok c).After-new in
    made _ c.in-Ok.frontier _ read.0 read.1 c.in-Ok.ensures

pub returns-in-Err : goal.returns-in-Err
returns-in-Err c =
    let read = whole (goal.at.returns-in-Err c).After-new in
    refused _ c.in-Err.field-0 _ read.0 read.1 c.in-Err.ensures
