use Rattle.std.proofs.Common.{◌≡◌, ◌∷◌, [], ◌++◌, false, length, refl, ap, arith, ◌∙◌}
use Rattle.world_core.specs.Values.BodyValue.{Text}
use Rattle.world_core.specs.Packets.{PacketsValue}
use Rattle.world_core.proofs.PacketsLaws.{line_added}
use Rattle.world_core.proofs.packets.Packets.add_line.Goals as goal

pub returns-clause-added : goal.returns-clause-added
returns-clause-added g c =
    let last : c.len-place.result ≡ length c.self.inside.lines.items = omega (arith, c.len-place.ensures) in
    (line_added c.self.inside.lines.items c.push_reserved.new.self.items c.args.line c.self.inside.rows.items
    c.push_reserved-2.new.self.items
    (record { place = c.len-place.result; from = c.args.from; to = c.args.to; is_entry = false }) c.self.invariant refl
    last c.push_reserved.ensures.items c.push_reserved-2.ensures.items).0
    ∙ ap (λ (p : PacketsValue). p.items ++ record { from = c.args.from; to = c.args.to; body = Text c.args.line } ∷ [])
    c.self.view_is
