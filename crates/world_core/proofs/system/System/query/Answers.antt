use Rattle.std.proofs.Common.{inr, refl, subst}
use Rattle.std.specs.Option.{option_map}
use Rattle.std.proofs.lemmas.Result.{err_from_is_err_and}
use Rattle.rights_types.specs.Messages.MessageValue.{AQuery}
use Rattle.entry_codec.specs.Spelling.{LineOf}
use Rattle.world_core.specs.Bodies.{world_of}
use Rattle.world_core.proofs.EventPlaces.{link_known, LentRow, lent_row}
use Rattle.world_core.proofs.LinkCalls.{asked, sends_line, sends_none}
use Rattle.world_core.proofs.system.System.query.Given as given
use Rattle.world_core.proofs.system.System.query.Goals as goal
use Rattle.world_core.proofs.system.System.query.Goals.{After-index_mut}

-- the links that are borrowed are those of the site
lent_links : (g : given.Over) (c : goal.After-index_mut g)
    → LentRow (world_of c.self.inside) c.args.self.now c.index.result c.args.site c.index_mut.result.now
lent_links g c =
    lent_row _ c.args.self.now _ _ _ c.self.view_is c.index.ensures.value
    (link_known c.args.self.now c.args.site c.args.origin c.requires.place).0 c.requires.kept.rows
    c.index_mut.ensures.value

pub query_line-requires : goal.query_line-requires
query_line-requires g c =
    let at = lent_links g (goal.at.query_line-requires g c).After-index_mut in
    let known = link_known c.args.self.now c.args.site c.args.origin c.requires.place in
    let other = (c.requires.kept.sites c.args.site known.0).others c.args.origin known.1 known.2 in
    record { there = rw (at.is, other.1) refl }

pub returns-in_err-query_line : goal.returns-in_err-query_line
returns-in_err-query_line g c =
    let at = lent_links g (goal.at.returns-in_err-query_line g c).After-index_mut in
    let t = c.in_err-query_line.ensures in
    let asks = asked _ _ _ _ _ c.args.again _ c.query_line.new.self t.0 t.1 t.2 at t.3 t.4 t.5 t.6 in
    let err =
    err_from_is_err_and c.from_residual-in_err-query_line.result c.from_residual-in_err-query_line.ensures.1 in
    rw (err.1, err.2, c.in_ok-reserve_line.ensures.items) (inr (t.2, asks))

pub returns-in-None : goal.returns-in-None
returns-in-None g c =
    let at = lent_links g (goal.at.returns-in-None g c).After-index_mut in
    let t = c.in_ok-query_line.ensures in
    let asks = asked _ _ _ _ _ c.args.again _ c.query_line.new.self t.0 t.1 t.2 at t.3 t.4 t.5 t.6 in
    let none = subst (λ line. LineOf (λ l. l.items) (option_map (λ x. AQuery x) t.2) line) c.in-None.is t.7 in
    let nothing = sends_none g.row.A.Denot (λ l. l.items) _ c.args.site c.args.origin _ none in
    rw c.in_ok-reserve_line.ensures.items (t.2, _, asks, nothing)

pub returns-in-Some : goal.returns-in-Some
returns-in-Some g c =
    let at = lent_links g (goal.at.returns-in-Some g c).After-index_mut in
    let t = c.in_ok-query_line.ensures in
    let asks = asked _ _ _ _ _ c.args.again _ c.query_line.new.self t.0 t.1 t.2 at t.3 t.4 t.5 t.6 in
    let line = c.in-Some.line in
    let spelled = subst (λ line. LineOf (λ l. l.items) (option_map (λ x. AQuery x) t.2) line) c.in-Some.is t.7 in
    let sent =
    sends_line g.row.A.Denot (λ l. l.items) _ _ _ _ _ _ line _ _ _ _ refl spelled c.new.ensures refl
    c.in_ok-reserve_line.ensures.items c.add_line-number.ensures.number c.add_line-number.ensures.added in
    (t.2, _, asks, sent)
