use Rattle.std.proofs.Common.{◌≡◌, ◌+◌, subst, arith}
use Rattle.site_core.specs.Calls.{ExpiresLate}
use Rattle.site_core.proofs.ExpiryLaws.{expired_none, expired_one}
use Rattle.site_core.proofs.desk.requests.expire_late.Goals as goal

pub loop-ticket-preserved : goal.loop-ticket-preserved
loop-ticket-preserved g c = record {
  goes_on = λ count new h.
      (let one : count + 1 + c.loop-ticket.count ≡ count + (c.loop-ticket.count + 1) = omega arith in
      subst (λ n. ExpiresLate c.args.queue.now c.args.time n new) one
      (c.loop-ticket.invariant.goes_on (count + 1) new
      (expired_one c.loop-ticket.queue c.args.time c.in-Some._ticket c.expire_one.new.self count new
      c.in-Some.ensures.expires h)));
  few = omega (arith, c.loop-ticket.invariant.few, c.in-Some.ensures.fewer);
}

pub returns : goal.returns
returns g c =
    let all : 0 + c.loop-ticket.count ≡ c.loop-ticket.count = omega arith in
    subst (λ n. ExpiresLate c.args.queue.now c.args.time n c.expire_one.new.self) all
    (c.loop-ticket.invariant.goes_on 0 c.expire_one.new.self
    (expired_none c.loop-ticket.queue c.args.time c.expire_one.new.self c.in_default.ensures.expires))
