use Rattle.std.proofs.Common.{◌≡◌, ◌-◌, get_or, Option, sym, subst, ◌∙◌}
use Rattle.rights_types.specs.Values.{value_of}
use Rattle.rights_protocol.specs.Lists.{IsSiteOf}
use Rattle.world_core.specs.Values.{PacketValue, WorldValue}
use Rattle.world_core.specs.Worlds.{count, packet}
use Rattle.world_core.specs.LinkEvents.{MessageComes, PacketComes}
use Rattle.world_core.specs.Sound.{MayCome}
use Rattle.world_core.proofs.ArrivalLaws.{arriving, lacks_memory}
use Rattle.world_core.proofs.system.System.arrive.Goals as goal

pub read-requires : goal.read-requires
read-requires g c =
    let read = subst (λ (w : WorldValue). c.at-packet.result ≡ get_or w.packets (c.args.number - 1) c.at-packet.result)
    c.self.view_is c.at-packet.ensures in
    let a = arriving c.args.self.now c.args.site c.args.number c.at-packet.result c.requires.kept c.requires.place
    read in
    record { kept = c.requires.kept; sent = a.sent }

pub message_comes-requires : goal.message_comes-requires
message_comes-requires g c =
    let w = c.args.self.now in
    let read = subst (λ (w : WorldValue). c.at-packet.result ≡ get_or w.packets (c.args.number - 1) c.at-packet.result)
    c.self.view_is c.at-packet.ensures in
    let a = arriving w c.args.site c.args.number c.at-packet.result c.requires.kept c.requires.place read in
    let from = c.from-from.ensures in
    record {
      kept = c.requires.kept;
      site = subst (IsSiteOf (count w)) a.to a.sent.to;
      from = subst (IsSiteOf (count w)) (sym from) a.sent.from;
      differ = λ same. a.sent.differ (a.to ∙ same ∙ from);
      may = subst (λ s. MayCome w c.from-from.result s (value_of c.in_ok-message.message)) a.to
          (subst (λ f. MayCome w f c.at-packet.result.to (value_of c.in_ok-message.message)) (sym from)
          c.in_ok-message.ensures.may);
    }

pub returns-in_err-message : goal.returns-in_err-message
returns-in_err-message g c =
    let w = c.args.self.now in
    let read = subst (λ (w : WorldValue). c.at-packet.result ≡ get_or w.packets (c.args.number - 1) c.at-packet.result)
    c.self.view_is c.at-packet.ensures in
    let a = arriving w c.args.site c.args.number c.at-packet.result c.requires.kept c.requires.place read in
    let m = c.in_err-message.ensures.memory in
    lacks_memory g.row.A.Denot w c.args.site c.at-packet.result m.0 (packet w c.args.number) c.from_residual.result
    c.from_residual.ensures.1 a.there m.1 m.2

pub returns : goal.returns
returns g c =
    let w = c.args.self.now in
    let read = subst (λ (w : WorldValue). c.at-packet.result ≡ get_or w.packets (c.args.number - 1) c.at-packet.result)
    c.self.view_is c.at-packet.ensures in
    let a = arriving w c.args.site c.args.number c.at-packet.result c.requires.kept c.requires.place read in
    let come =
    subst (λ f. MessageComes {A = g.row.A.Denot} w c.args.site f (value_of c.in_ok-message.message)
    c.message_comes.result c.message_comes.new.self) c.from-from.ensures c.message_comes.ensures in
    subst (λ (p : Option PacketValue). PacketComes {A = g.row.A.Denot} w c.args.site p c.message_comes.result
    c.message_comes.new.self) (sym a.there) (value_of c.in_ok-message.message, c.in_ok-message.ensures.spelled, come)
