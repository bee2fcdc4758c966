use Rattle.std.proofs.Common.{◌≡◌, ◌-◌, ◌++◌, ℕ, length, take, ap, ◌∙◌, sym, arith}
use Rattle.rights_types.specs.declared.limits.TheConstants.{MAX_LINE}
use Rattle.line_streams.proofs.CarryLaws.{take_over, take_under}
use Rattle.line_streams.proofs.lines.keep.Goals as goal

pub returns-in_ok-extend_from_slice : goal.returns-in_ok-extend_from_slice
returns-in_ok-extend_from_slice g c =
    let all : c.len-room.result ≡ length c.args.carry.now.items
    = omega (arith, c.args.carry.now.ok.0, c.len-room.ensures) in
    c.in_ok-extend_from_slice.ensures.items
    ∙ ap (λ (n : ℕ). c.args.carry.now.items ++ take (MAX_LINE - n) c.args.bytes.now) all
    ∙ sym (take_over MAX_LINE c.args.carry.now.items c.args.bytes.now c.requires)

pub returns-in_ok-extend_from_slice-2 : goal.returns-in_ok-extend_from_slice-2
returns-in_ok-extend_from_slice-2 g c =
    c.in_ok-extend_from_slice-2.ensures.items
    ∙ sym (take_under MAX_LINE c.args.carry.now.items c.args.bytes.now c.requires
    (omega (arith, c.args.carry.now.ok.0, c.len-room.ensures, c.if-bytes-room.false)))
