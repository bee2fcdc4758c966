use Rattle.std.proofs.Common.{Ok, Err, [], refl, ap, ◌∙◌}
use Rattle.std.specs.Prelude.{is_some}
use Rattle.std.proofs.lemmas.Result.{err_from_is_err_and}
use Rattle.entry_codec.specs.Reading.{reading}
use Rattle.peer_links.specs.Takes.{message_in, asks_again}
use Rattle.peer_links.proofs.PairLaws.{pairs_both, line_pair, gap_pair, is_accepted}
use Rattle.peer_links.proofs.TakeLaws.{hands_lacks, hands_on}
use Rattle.peer_links.proofs.link.reading.take_line.Goals as goal

pub returns-in_err-hand_over-clause-takes : goal.returns-in_err-hand_over-clause-takes
returns-in_err-hand_over-clause-takes g c =
    let p = err_from_is_err_and c.from_residual.result c.from_residual.ensures.1 in
    let line = c.in-Ok.ensures in
    let over = hands_lacks g.P.Port.hears _ c.on_line.new.self (message_in c.in-Ok.arrived)
    (asks_again c.in-Ok.arrived) _ _ c.in_err-hand_over.ensures in
    rw (p.1, p.2) (
      over.0,
      record {
        came = Ok c.in-Ok.arrived;
        mid = c.on_line.new.self;
        refused = line.refused;
        leaves = line.leaves;
        dead = line.dead;
        memory = line.memory;
        follows = over.1;
      },
      over.2,
    )

pub returns-in_err-ask_for_gap-clause-takes : goal.returns-in_err-ask_for_gap-clause-takes
returns-in_err-ask_for_gap-clause-takes g c =
    let p = err_from_is_err_and c.from_residual-in_err-ask_for_gap.result
    c.from_residual-in_err-ask_for_gap.ensures.1 in
    let line = c.in-Ok.ensures in
    let over = hands_on g.P.Port.hears _ c.on_line.new.self _ (message_in c.in-Ok.arrived)
    (asks_again c.in-Ok.arrived) _ _ _ _ _ c.in_ok-hand_over.ensures
    (c.is_some.ensures ∙ ap is_some c.beat_in-beat.ensures)
    c.in_err-ask_for_gap.ensures in
    rw (p.1, p.2) (
      over.0,
      record {
        came = Ok c.in-Ok.arrived;
        mid = c.on_line.new.self;
        refused = line.refused;
        leaves = line.leaves;
        dead = line.dead;
        memory = line.memory;
        follows = over.1;
      },
      over.2,
    )

pub returns-clause-takes : goal.returns-clause-takes
returns-clause-takes g c =
    let line = c.in-Ok.ensures in
    let over = hands_on g.P.Port.hears _ c.on_line.new.self _ (message_in c.in-Ok.arrived)
    (asks_again c.in-Ok.arrived) _ _ _ _ _ c.in_ok-hand_over.ensures
    (c.is_some.ensures ∙ ap is_some c.beat_in-beat.ensures)
    c.in_ok-ask_for_gap.ensures in (
      over.0,
      record {
        came = Ok c.in-Ok.arrived;
        mid = c.on_line.new.self;
        refused = line.refused;
        leaves = line.leaves;
        dead = line.dead;
        memory = line.memory;
        follows = over.1;
      },
      over.2,
    )

pub hand_over-requires : goal.hand_over-requires
hand_over-requires g c =
    let line = c.in-Ok.ensures in
    is_accepted g.P.Port.accepts c.args.intake.now c.on_line.new.self _ c.in-Ok.arrived line.refused line.leaves
    c.requires.accepts

pub returns-in_err-hand_over-clause-pair : goal.returns-in_err-hand_over-clause-pair
returns-in_err-hand_over-clause-pair g c
    = line_pair c.args.intake.now c.on_line.new.self _ (Ok c.in-Ok.arrived) c.in-Ok.ensures.leaves

pub returns-in_err-ask_for_gap-clause-pair : goal.returns-in_err-ask_for_gap-clause-pair
returns-in_err-ask_for_gap-clause-pair g c =
    let line = line_pair c.args.intake.now c.on_line.new.self _ (Ok c.in-Ok.arrived) c.in-Ok.ensures.leaves in
    pairs_both _ _ _ line (gap_pair c.on_line.new.self c.ask_for_gap.new.intake _ _ _ c.in_err-ask_for_gap.ensures.1)

pub returns-clause-pair : goal.returns-clause-pair
returns-clause-pair g c =
    let line = line_pair c.args.intake.now c.on_line.new.self _ (Ok c.in-Ok.arrived) c.in-Ok.ensures.leaves in
    pairs_both _ _ _ line (gap_pair c.on_line.new.self c.ask_for_gap.new.intake _ _ _ c.in_ok-ask_for_gap.ensures.1)

pub returns-in-Err-clause-pair : goal.returns-in-Err-clause-pair
returns-in-Err-clause-pair g c =
    line_pair c.args.intake.now c.on_line.new.self (reading c.args.line.now)
    (Err c.in-Err.fault) c.in-Err.ensures.leaves

pub returns-in-Err-clause-takes : goal.returns-in-Err-clause-takes
returns-in-Err-clause-takes g c =
    let line = c.in-Err.ensures in (
      [],
      record {
        came = Err c.in-Err.fault;
        mid = c.on_line.new.self;
        refused = line.refused;
        leaves = line.leaves;
        dead = line.dead;
        memory = line.memory;
        follows = (c.refused.ensures.result, refl, refl);
      },
      refl,
    )
