use Rattle.std.proofs.Common.{refl}
use Rattle.entry_codec.proofs.Lines.{one_entry}
use Rattle.entry_codec.proofs.reading.other_message_in.Goals as goal

pub returns-in-Ok-clause-value : goal.returns-in-Ok-clause-value
returns-in-Ok-clause-value g c
    = one_entry c.args.text.now c.in-Some.fields.now c.in-Ok.entry c.in-Some.ensures c.in-Ok.ensures

pub returns-in-Err-OutOfMemory-clause-value : goal.returns-in-Err-OutOfMemory-clause-value
returns-in-Err-OutOfMemory-clause-value g c =
    let found = rw c.in-Err-OutOfMemory.field-0-is at c.in-Err-OutOfMemory.ensures in
    (_, one_entry c.args.text.now c.in-Some.fields.now found.0 c.in-Some.ensures found.1)

pub returns-in-Err-OutOfMemory-clause-memory : goal.returns-in-Err-OutOfMemory-clause-memory
returns-in-Err-OutOfMemory-clause-memory g c =
    let found = rw c.in-Err-OutOfMemory.field-0-is at c.in-Err-OutOfMemory.ensures in
    (_, one_entry c.args.text.now c.in-Some.fields.now found.0 c.in-Some.ensures found.1, refl)
