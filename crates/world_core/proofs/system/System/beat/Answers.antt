use Rattle.std.proofs.Common.{Some, refl, subst}
use Rattle.std.proofs.lemmas.Result.{err_from_is_err_and}
use Rattle.entry_codec.specs.Spelling.{LineOf}
use Rattle.site_core.specs.Calls.{beat_of}
use Rattle.site_core.specs.Desks.{DeskValue}
use Rattle.world_core.specs.Worlds.{desk}
use Rattle.world_core.proofs.EventPlaces.{link_known, lent}
use Rattle.world_core.proofs.LinkCalls.{sends_line}
use Rattle.world_core.proofs.system.System.beat.Goals as goal

pub returns-in_err-line : goal.returns-in_err-line
returns-in_err-line g c =
    let err = err_from_is_err_and c.from_residual-in_err-line.result c.from_residual-in_err-line.ensures.1 in
    rw (err.1, err.2, c.in_ok-reserve_line.ensures.items) c.self.view_is

pub returns : goal.returns
returns g c =
    let at = lent _ c.args.self.now _ _ _ c.self.view_is c.index.ensures.value
    (link_known c.args.self.now _ _ c.requires).0 c.index-2.ensures in
    let line = c.in_ok-line.line in
    let spelled =
    subst (λ (d : DeskValue). LineOf (λ l. l.items) (Some (beat_of d.ledger.log)) (Some line)) at.is
    c.in_ok-line.ensures in
    sends_line g.row.A.Denot (λ l. l.items) _ c.args.self.now _ _ _
    (Some (beat_of (desk c.args.self.now c.args.site).ledger.log)) line _ _ _ _ c.self.view_is spelled
    c.new.ensures refl c.in_ok-reserve_line.ensures.items c.add_line-number.ensures.number
    c.add_line-number.ensures.added
