use Rattle.std.proofs.Common.{◌≡◌, ◌+◌, eqb, sym, ap, ◌∙◌, arith}
use Rattle.std.proofs.lemmas.Bool.{eqb-true, not-false}
use Rattle.transfer_manager.specs.declared.peer_asks.PeerAsks.{PeerAsks}
use Rattle.transfer_manager.specs.Managers.{asks}
use Rattle.transfer_manager.proofs.manager.Manager.is_next.Goals as goal

pub returns-clause-next : goal.returns-clause-next
returns-clause-next c = λ h.
    (let number : c.value.result ≡ c.asks.result.last_ask + 1
    = eqb-true c.value.result (c.asks.result.last_ask + 1) h in
    let last : c.asks.result.last_ask ≡ (asks c.args.self.now c.args.ask.now.asked).last_ask =
    ap (λ (p : PeerAsks). p.last_ask) c.asks.ensures
    ∙ ap (λ j. (asks c.args.self.now j).last_ask) c.asked-peer.ensures.value in
    record {
      mine = rw (← c.self.view_is) (sym c.asker.ensures.value
          ∙ eqb-true c.asker.result c.self.inside.me (not-false (eqb c.asker.result c.self.inside.me)
          (sym c.if-ne.ensures)));
      site = rw (← c.self.view_is) (omega (arith, c.if-index-self.false, c.index.ensures.value, c.asked-peer.ensures.value));
      next = sym c.ask.ensures.value ∙ sym c.value.ensures.value ∙ number ∙ ap (λ n. n + 1) last;
    })
