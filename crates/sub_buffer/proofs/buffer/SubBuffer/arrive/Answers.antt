use Rattle.std.proofs.Common.{length, ap, arith, ◌∙◌, ◌++◌, ◌∷◌, [], append_assoc, length-append}
use Rattle.sub_buffer.specs.Arrivals.{all_ready}
use Rattle.sub_buffer.specs.declared.verdict.Verdict.{Verdict}
use Rattle.sub_buffer.specs.declared.verdict.Verdict.TheVariants.{Ready}
use Rattle.sub_buffer.proofs.Offers.{offer_count, stays_settled}
use Rattle.sub_buffer.proofs.Arriving.{arrives, frees_none, may_free_none}
use Rattle.sub_buffer.proofs.buffer.SubBuffer.arrive.Goals as goal

pub free_held-requires : goal.free_held-requires
free_held-requires g c =
    let v : Verdict g.row.A.Denot = Ready c.in-Ready.next in
    record {
      room = omega (
        arith,
        c.requires.room,
        offer_count _ _ _ v c.in-Ready.ensures.table,
        ap (λ vs. length vs) c.push_reserved.ensures.items,
        length-append c.args.verdicts.now.items (v ∷ []),
        c.push_reserved.ensures.capacity,
      );
    }

pub returns-in-Ready-clause-arrives : goal.returns-in-Ready-clause-arrives
returns-in-Ready-clause-arrives g c =
    let v = Ready c.in-Ready.next in
    let h = c.free_held.ensures.freed in (
      v,
      h.0,
      h.1 ∙ ap (λ vs. vs ++ all_ready h.0) c.push_reserved.ensures.items
          ∙ append_assoc c.args.verdicts.now.items (v ∷ []) (all_ready h.0),
      arrives _ _ _ c.args.entry v h.0 c.judge.ensures.valid c.judge.ensures.entry c.requires.of_origin
          c.requires.settled c.in-Ready.ensures.table tt h.2,
    )

pub returns-in_default : goal.returns-in_default
returns-in_default g c =
    let v = c.judge.result in
    let table = c.judge.ensures.table in record {
      arrives = (
        v,
        [],
        c.push_reserved-in_default.ensures.items,
        arrives _ _ _ c.args.entry v [] c.judge.ensures.valid c.judge.ensures.entry c.requires.of_origin
            c.requires.settled table (may_free_none v)
            (frees_none c.judge.new.self
            (stays_settled _ _ c.args.entry v table c.in_default.not-Ready c.requires.settled)),
      );
      capacity = c.push_reserved-in_default.ensures.capacity;
    }
