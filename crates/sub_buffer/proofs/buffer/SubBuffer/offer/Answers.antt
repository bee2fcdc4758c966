use Rattle.std.proofs.Common.{◌≡◌, sym, ◌∙◌, ap, eqb}
use Rattle.std.proofs.lemmas.Bool.{not-true, eqb-false, eqb-true, not-false}
use Rattle.sub_buffer.specs.Buffers.{BufferValue}
use Rattle.sub_buffer.proofs.Offers.{offer_chain, offer_follows, offer_told, offer_settled, offer_count, of_this_origin}
use Rattle.sub_buffer.proofs.buffer.SubBuffer.offer.Goals as goal

pub returns-then-ne-clause-follows : goal.returns-then-ne-clause-follows
returns-then-ne-clause-follows g c = λ es set put of f.
    let differ = not-true (eqb c.origin.result c.self.inside.origin) (sym c.ne.ensures ∙ c.if-ne.true) in
    let other : c.args.entry.origin ≡ c.args.self.now.origin → ⊥ = λ same.
    eqb-false c.origin.result c.self.inside.origin differ (c.origin.ensures ∙ same
    ∙ sym (ap (λ (v : BufferValue). v.origin) c.self.view_is)) in
    absurd (other (of_this_origin es set put c.args.self.now c.args.entry f of))

pub returns-then-ne-clause-settled : goal.returns-then-ne-clause-settled
returns-then-ne-clause-settled g c = λ es set put of f long.
    let differ = not-true (eqb c.origin.result c.self.inside.origin) (sym c.ne.ensures ∙ c.if-ne.true) in
    let other : c.args.entry.origin ≡ c.args.self.now.origin → ⊥ = λ same.
    eqb-false c.origin.result c.self.inside.origin differ (c.origin.ensures ∙ same
    ∙ sym (ap (λ (v : BufferValue). v.origin) c.self.view_is)) in
    absurd (other (of_this_origin es set put c.args.self.now c.args.entry f of))

pub returns-clause-chain : goal.returns-clause-chain
returns-clause-chain g c =
    let same = not-false (eqb c.origin.result c.self.inside.origin) (sym c.ne.ensures ∙ c.if-ne.false) in
    let of : c.args.entry.origin ≡ c.args.self.now.origin =
    sym c.origin.ensures ∙ eqb-true c.origin.result c.self.inside.origin same
    ∙ ap (λ (v : BufferValue). v.origin) c.self.view_is in
    offer_chain c.args.self.now c.judge.new.self c.args.entry c.judge.result c.judge.ensures.entry of
    c.judge.ensures.table

pub returns-clause-follows : goal.returns-clause-follows
returns-clause-follows g c = λ es set put of f. (
  offer_follows es set put c.args.self.now c.judge.new.self c.args.entry c.judge.result c.judge.ensures.valid of f
      c.judge.ensures.table,
  offer_told es set put c.args.self.now c.judge.new.self c.args.entry c.judge.result of f c.judge.ensures.table,
)

pub returns-clause-settled : goal.returns-clause-settled
returns-clause-settled g c
    = λ es set put of f long. offer_settled es set put c.args.self.now c.judge.new.self c.args.entry c.judge.result of f
    long c.judge.ensures.table

pub returns-clause-count : goal.returns-clause-count
returns-clause-count g c = offer_count c.args.self.now c.judge.new.self c.args.entry c.judge.result
    c.judge.ensures.table
