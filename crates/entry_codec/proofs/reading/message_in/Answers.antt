use Rattle.std.proofs.Common.{refl}
use Rattle.std.proofs.lemmas.Result.{err_from_is_err_and}
use Rattle.entry_codec.specs.Parts.{split_at}
use Rattle.entry_codec.proofs.Entries.{entry_is}
use Rattle.entry_codec.proofs.Lines.{one_entry}
use Rattle.entry_codec.proofs.reading.message_in.Goals as goal

pub entry_of_one-requires : goal.entry_of_one-requires
entry_of_one-requires g c = (entry_is 0 (split_at 32 c.in-Some.fields.now) _ c.in-Some-one_move_in.ensures.entry).1

pub returns-in_err-entry_of_one-clause-value : goal.returns-in_err-entry_of_one-clause-value
returns-in_err-entry_of_one-clause-value g c =
    let found = one_entry c.args.text.now c.in-Some.fields.now _ c.in-Some.ensures c.in-Some-one_move_in.ensures.entry in
    let p = err_from_is_err_and c.from_residual.result c.from_residual.ensures.1 in
    rw (p.1, p.2) (_, found)

pub returns-in_err-entry_of_one-clause-memory : goal.returns-in_err-entry_of_one-clause-memory
returns-in_err-entry_of_one-clause-memory g c =
    let found = one_entry c.args.text.now c.in-Some.fields.now _ c.in-Some.ensures c.in-Some-one_move_in.ensures.entry in
    let p = err_from_is_err_and c.from_residual.result c.from_residual.ensures.1 in
    rw (p.1, p.2) (_, found, refl)

pub returns-in-Some-one_move_in-clause-value : goal.returns-in-Some-one_move_in-clause-value
returns-in-Some-one_move_in-clause-value g c =
    rw c.in_ok-entry_of_one.ensures (
    one_entry c.args.text.now c.in-Some.fields.now _ c.in-Some.ensures c.in-Some-one_move_in.ensures.entry)
