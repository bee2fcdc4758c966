use Rattle.std.proofs.Common.{◌∷◌, ◌++◌, [], sym, subst, ◌∙◌, rules}
use Rattle.std.specs.Vec.Iter.{into_iter_items}
use Rattle.inbound.specs.Inbounds.{ready_in}
use Rattle.link_intake.specs.Intakes.{CanPut, PutsAll, PutsFront}
use Rattle.link_intake.proofs.IntakeLaws.{ready-append, one_more, split_ready, can_first, others_can, both_put}
use Rattle.link_intake.proofs.IntakeLaws.{front_put}
use Rattle.link_intake.proofs.intake.put_ready.Goals as goal

pub put_if_ready-requires-clause-entries : goal.put_if_ready-requires-clause-entries
put_if_ready-requires-clause-entries g c =
    let one = c.in-Some.verdict ∷ [] in
    let y = c.loop-verdict.yielded in
    let rest = into_iter_items c.next.new.self in
    let items = one_more y c.in-Some.verdict _ rest c.args.verdicts.items c.in-Some.ensures.steps.0
    (c.loop-verdict.invariant.items ∙ search rules) in
    let can = subst (CanPut c.args.ended.now c.args.inlet.now.put) (split_ready y c.in-Some.verdict rest _ items)
    c.requires.entries in
    others_can _ _ (ready_in y) (ready_in one) _ c.loop-verdict.inlet (can_first _ _ (ready_in y ++ ready_in one)
    (ready_in rest) can) c.loop-verdict.invariant.put

pub loop-verdict-preserved : goal.loop-verdict-preserved
loop-verdict-preserved g c =
    let one = c.in-Some.verdict ∷ [] in
    let y = c.loop-verdict.yielded in
    let rest = into_iter_items c.next.new.self in
    let items = one_more y c.in-Some.verdict _ rest _ c.in-Some.ensures.steps.0 c.loop-verdict.invariant.items in
    let split = split_ready y c.in-Some.verdict rest c.args.verdicts.items (items ∙ search rules) in
    let can = subst (CanPut c.args.ended.now c.args.inlet.now.put) split c.requires.entries in
    let both = both_put _ _ (ready_in y) (ready_in one) _ _ c.loop-verdict.inlet c.put_if_ready.new.inlet
    (can_first _ _ (ready_in y ++ ready_in one) (ready_in rest) can) c.loop-verdict.invariant.put (search rules) in
    record {
      items = items;
      count = search rules;
      lane = search rules;
      put = subst (λ l. PutsAll c.args.inlet.now.put c.args.ended.now l c.put_if_ready.new.ended
          c.put_if_ready.new.inlet) (sym (ready-append y one)) both;
    }

pub returns-in-Err-clause-err : goal.returns-in-Err-clause-err
returns-in-Err-clause-err g c =
    let y = c.loop-verdict.yielded in
    let rest = into_iter_items c.next.new.self in
    let items = one_more y c.in-Some.verdict _ rest c.args.verdicts.items c.in-Some.ensures.steps.0
    (c.loop-verdict.invariant.items ∙ search rules) in
    let split = split_ready y c.in-Some.verdict rest _ items in
    let can = subst (CanPut c.args.ended.now c.args.inlet.now.put) split c.requires.entries in
    let front = front_put _ _ (ready_in y) (ready_in (c.in-Some.verdict ∷ []))
    (ready_in rest) _ _ c.loop-verdict.inlet c.put_if_ready.new.inlet can
    c.loop-verdict.invariant.put c.in-Err.ensures.err.1 in (
      c.in-Err.ensures.err.0,
      subst (λ l. PutsFront c.args.inlet.now.put l c.put_if_ready.new.ended c.put_if_ready.new.inlet) (sym split) front,
    )
