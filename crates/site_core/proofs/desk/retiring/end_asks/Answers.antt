use Rattle.std.proofs.Common.{◌+◌, drop, ap, sym, ◌∙◌}
use Rattle.rights_types.proofs.Sums.{next_move}
use Rattle.site_core.specs.Desks.{after_grants}
use Rattle.site_core.proofs.desk.retiring.end_asks.Goals as goal

pub loop-m-preserved : goal.loop-m-preserved
loop-m-preserved c =
    let next = next_move c.args.moves.now c.loop-m.m-index c.m-item.result c.loop-m-test.true c.m-item.is in
    let rest = drop (c.loop-m.m-index + 1) c.args.moves.now in
    record {
      ended = ap (after_grants c.args.me c.args.origin rest) c.end_ask.ensures.ended
          ∙ ap (λ xs. after_grants c.args.me c.args.origin xs c.loop-m.manager) (sym next) ∙ c.loop-m.invariant.ended;
      same = record {
        same_me = c.end_ask.ensures.same.same_me ∙ c.loop-m.invariant.same.same_me;
        same_sites = c.end_ask.ensures.same.same_sites ∙ c.loop-m.invariant.same.same_sites;
      };
      answered = λ past h. c.end_ask.ensures.answered past (c.loop-m.invariant.answered past h);
    }
