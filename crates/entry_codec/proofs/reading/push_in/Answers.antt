use Rattle.std.proofs.Common.{Ok, map, ap, sym, ◌∙◌}
use Rattle.std.proofs.lemmas.Result.{err_from_is_err_and}
use Rattle.rights_types.specs.Messages.MessageValue.{AnEntry}
use Rattle.rights_types.specs.Values.{value_of}
use Rattle.entry_codec.specs.Parts.{split_at, left}
use Rattle.entry_codec.proofs.Entries.{entry_is}
use Rattle.entry_codec.proofs.Lines.{push_again, push_trails, push_fails, push_no_want, gives_fault, no_others}
use Rattle.entry_codec.proofs.Lines.{some_others}
use Rattle.entry_codec.proofs.reading.push_in.Goals as goal

pub returns-in_err-origin : goal.returns-in_err-origin
returns-in_err-origin g c =
    let p = err_from_is_err_and c.from_residual.result c.from_residual.ensures.1 in
    let fields = left 32 c.args.fields in
    let others = map (split_at 32) (left 59 c.args.others) in
    rw (p.1, p.2) (gives_fault (value_of {A = g.row.A.Denot}) c.in_err-origin.field-0.0 _
    (push_fails fields others c.in_err-origin.field-0.0 c.in_err-origin.ensures.entry) (push_no_want fields others))

pub returns-then-is_some : goal.returns-then-is_some
returns-then-is_some g c =
    push_trails (left 32 c.args.fields) _ _ c.in_ok-origin.ensures.entry
    (some_others c.args.others c.is_some.result c.is_some.ensures c.if-is_some.true)

pub entry_with-requires : goal.entry_with-requires
entry_with-requires g c = (entry_is 0 (left 32 c.args.fields) _ c.in_ok-origin.ensures.entry).1

pub returns-in_err-entry_with : goal.returns-in_err-entry_with
returns-in_err-entry_with g c =
    let p = err_from_is_err_and c.from_residual-in_err-entry_with.result c.from_residual-in_err-entry_with.ensures.1 in
    let read = push_again (left 32 c.args.fields) _ _ c.in_ok-origin.ensures.entry
    (no_others c.args.others c.is_some.result c.is_some.ensures c.if-is_some.false) in
    rw (p.1, p.2) (_, read)

pub returns : goal.returns
returns g c =
    push_again (left 32 c.args.fields) _ _ c.in_ok-origin.ensures.entry
    (no_others c.args.others c.is_some.result c.is_some.ensures c.if-is_some.false)
    ∙ ap (λ e. Ok (AnEntry e)) (sym c.in_ok-entry_with.ensures)
