use Rattle.std.proofs.Common.{◌≤◌, length, take, eqb, w8, arith}
use Rattle.std.proofs.lemmas.Simd.{bitmask_splat, length-chunk}
use Rattle.memchr.specs.Find.{is_byte}
use Rattle.line_streams.proofs.NearBytes.{first_near}
use Rattle.line_streams.proofs.lines.line_length.Goals as goal

pub returns-then-ends-ne0 : goal.returns-then-ends-ne0
returns-then-ends-ne0 c =
    let room : 32 ≤ length c.args.text.now = omega (arith, c.if-text-ge-NEAR.true) in
    let long = length-chunk 0 32 c.args.text.now room in
    let mask = bitmask_splat w8 eqb (take 32 c.args.text.now) 32 10 long (omega arith) in
    first_near (is_byte 10) c.args.text.now room _ mask (omega (arith, c.if-ends-ne0.true))
