use Rattle.std.proofs.Common.{◌≡◌, Some, add-one, ap, arith, rules, length, subst, sym, ◌∙◌}
use Rattle.std.proofs.lemmas.Result.{err_from_is_err_and}
use Rattle.rights_types.specs.Messages.{MessageValue}
use Rattle.entry_codec.specs.Spelling.{Spells}
use Rattle.apply_lanes.specs.Kepts.{KeptValue}
use Rattle.site_node.specs.Sending.{OffersLine, StopsAtEntry, next_entry}
use Rattle.site_node.proofs.Lines.{line_sent, spells}
use Rattle.site_node.proofs.Publishing.{one_more}
use Rattle.site_node.proofs.sending.send_entries.Goals as goal

pub offer-requires : goal.offer-requires
offer-requires g c = line_sent (λ l. l.items) _ _ c.in-Some.line c.in-Some.is c.in_ok-line.ensures.line

pub returns-in_err-line-clause-err : goal.returns-in_err-line-clause-err
returns-in_err-line-clause-err g c =
    let p = err_from_is_err_and c.from_residual.result c.from_residual.ensures.1 in
    let same : c.publish.new.self ≡ c.entries.kept = c.in_err-line.ensures.err in
    let sent : StopsAtEntry g.S.Sink.takes c.args.kept.now c.args.peer c.args.sink.now c.entries.kept c.entries.sink =
    record {
      sent = c.entries.sent;
      many = c.entries.invariant.many;
      left = λ none. search (rules, c.in_err-line.ensures.memory none);
    } in
    rw p.1 (subst (λ (k : KeptValue). StopsAtEntry g.S.Sink.takes c.args.kept.now c.args.peer c.args.sink.now k
    c.entries.sink) (sym same) sent)

pub entries-preserved : goal.entries-preserved
entries-preserved g c =
    let found : (message : MessageValue) × (next_entry c.entries.kept c.args.peer ≡ Some message)
    × Spells message c.in-Some.line.items =
    spells (λ l. l.items) _ _ c.in-Some.line c.in-Some.is c.in_ok-line.ensures.line in
    let one : c.offer.result ≡ 1 = omega (arith, c.offer.ensures.range, c.if-offer-eq0.false) in
    let offered : OffersLine g.S.Sink.takes c.in-Some.line.items c.entries.sink 1 c.offer.new.sink =
    subst (λ n. OffersLine g.S.Sink.takes c.in-Some.line.items c.entries.sink n c.offer.new.sink) one
    c.offer.ensures.offered in
    let more = one_more _ c.args.peer c.entries.sent c.entries.kept c.publish.new.self found.0 c.number.ensures.range.0
    c.number.ensures.range.1
    c.entries.invariant.published found.1 c.in_ok-line.ensures.ok in
    record {
      many = rw add-one (
        c.entries.kept,
        c.entries.sink,
        c.entries.invariant.many,
        record {
          message = found.0;
          next = found.1;
          offers = record { line = c.in-Some.line.items; spells = found.2; offered = offered };
          desk = c.in_ok-line.ensures.ok;
        },
      );
      published = more.0;
    }

pub entries-smaller : goal.entries-smaller
entries-smaller g c =
    let found : (message : MessageValue) × (next_entry c.entries.kept c.args.peer ≡ Some message)
    × Spells message c.in-Some.line.items =
    spells (λ l. l.items) _ _ c.in-Some.line c.in-Some.is c.in_ok-line.ensures.line in
    let more = one_more _ c.args.peer c.entries.sent c.entries.kept c.publish.new.self found.0 c.number.ensures.range.0
    c.number.ensures.range.1
    c.entries.invariant.published found.1 c.in_ok-line.ensures.ok in
    let shorter : length c.publish.new.self.desk.ledger.log.entries ≡ length c.entries.kept.desk.ledger.log.entries
    = ap length (more.0.same ∙ sym c.entries.invariant.published.same) in
    omega (arith, more.1, more.2, shorter)
