use Rattle.std.proofs.Common.{◌≡◌, ◌-◌, ◌≤◌, ◌∙◌, Some, length, get_or, arith, ap, subst}
use Rattle.world_core.specs.Values.{WorldValue}
use Rattle.world_core.specs.Worlds.{packet_text}
use Rattle.world_core.specs.declared.world.World.TheInside.{Inside}
use Rattle.world_core.proofs.ReaderLaws.{packet_read}
use Rattle.world_core.proofs.world.World.packet.Goals as goal

pub returns : goal.returns
returns g c =
    let number = c.args.number in
    let packet = c.at-packet.result in
    let kept = ap (λ (x : Inside g.row.A.Denot g.row.K.Denot). x.system) c.self-inside.view_is ∙ c.self.view_is in
    let count = ap (λ (w : WorldValue). length w.packets) kept in
    let few : number ≤ length c.args.self.now.packets = omega (arith, count, c.if-number-len.false, c.len.ensures) in
    let read = subst (λ (w : WorldValue). packet ≡ get_or w.packets (number - 1) packet) kept c.at-packet.ensures in
    rw (packet_read c.args.self.now number packet c.if-number-eq0.false few read)
    (ap (λ text. Some text) (c.line_of.ensures ∙ ap (λ w. packet_text w packet) c.self.view_is))
