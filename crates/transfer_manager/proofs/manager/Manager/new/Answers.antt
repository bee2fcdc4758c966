use Rattle.std.proofs.Common.{List, length, refl, sym, ap, ◌∙◌, subst}
use Rattle.std.proofs.lemmas.List.{length-replicate}
use Rattle.transfer_manager.specs.declared.peer_asks.PeerAsks.{PeerAsks}
use Rattle.transfer_manager.specs.Managers.{ManagerValue, no_asks, IsManager}
use Rattle.transfer_manager.proofs.ManagerLaws.{of_sixteen, new_is_manager}
use Rattle.transfer_manager.proofs.manager.Manager.new.Goals as goal

pub invariant_of-result : goal.invariant_of-result
invariant_of-result c =
    let few = c.requires.sites.1 in
    let made : List PeerAsks → ManagerValue = λ ps. record { me = c.args.me; peers = ps } in
    let is = new_is_manager c.args.me c.args.sites c.requires.sites.0 few c.number.ensures.range.0 c.requires.me in
    (subst (λ ps. IsManager (made ps)) (sym (of_sixteen c.args.sites c.new.result few c.new.ensures)) is, few)

pub returns : goal.returns
returns c =
    let made : List PeerAsks → ManagerValue = λ ps. record { me = c.args.me; peers = ps } in
    let same = of_sixteen c.args.sites c.new.result c.requires.sites.1 c.new.ensures in
    record { made = ap made same; system = (refl, ap length same ∙ length-replicate c.args.sites no_asks) }
