-- A tick beside no silent site is a tick.
use Rattle.std.proofs.Common.{◌≡◌, ℕ, Bool, false, List, Result, Ok, Err, refl, subst}
use Rattle.request_queue.specs.declared.request.Request.{Request}
use Rattle.request_queue.specs.Queues.{total_of}
use Rattle.rights_types.proofs.Places.{at_site-replicate}
use Rattle.rights_book.specs.Books.{sites}
use Rattle.transfer_manager.specs.SiteSets.{no_sites, has_site}
use Rattle.transfer_manager.specs.Managers.{sites as asked_sites}
use Rattle.transfer_manager.specs.Plans.{Knowledge, of_book, of_logs, beside}
use Rattle.transfer_manager.proofs.PlanLaws.{plans_same, beside_nobody}
use Rattle.site_core.specs.Desks.{DeskValue}
use Rattle.site_core.specs.Calls.{DeskPlans, DeskPlansBeside}
use Rattle.site_core.specs.declared.fault.DeskError.{DeskError}
use Rattle.apply_lanes.specs.Kepts.{KeptValue, SeatValue}
use Rattle.apply_lanes.specs.Recording.{with_planned}
use Rattle.site_node.specs.declared.tick.Ticked.{Ticked}
use Rattle.site_node.specs.Ticking.{Ticks, TicksBeside}

nobody_silent : (j : ℕ) → has_site no_sites j ≡ false
nobody_silent j = at_site-replicate (λ (b : Bool). b ≡ false) 16 j false false (λ l h. refl) refl

plans_alone : (d : DeskValue) (count : ℕ) (new : DeskValue) → DeskPlansBeside (has_site no_sites) d count new
    → DeskPlans d count new
plans_alone d count new p =
    let n = asked_sites d.manager in
    let queued = total_of d.queue.waiting in
    record {
      by_book = plans_same d.manager new.manager (beside (has_site no_sites) (of_book d.ledger.book))
          (of_book d.ledger.book) queued count (beside_nobody n (of_book d.ledger.book) (λ j. refl)) p.by_book;
      by_logs = λ applied has.
          (let k : Knowledge = of_logs (sites d.ledger.book) d.ledger.log.site d.ledger.log.entries applied in
          plans_same d.manager new.manager (beside (has_site no_sites) k) k queued count
          (beside_nobody n k (λ j. refl)) (p.by_logs applied has));
      rest = p.rest;
    }

alone : (old : KeptValue) (was : SeatValue) (time : ℕ) (served : List Request) (ticked : Result Ticked DeskError)
    (new : KeptValue) (now : SeatValue)
    → TicksBeside (has_site no_sites) old was time served ticked new now → Ticks old was time served ticked new now
alone old was time served (Ok ticked) new now h = record {
  in_time = h.in_time;
  left = h.left;
  expires = h.expires;
  serves = h.serves;
  counted = h.counted;
  plans = record {
    desk = plans_alone h.left.desk ticked.asks new.desk h.plans.desk;
    rest = subst (λ (silent : ℕ → Bool). new ≡ record h.left {
      desk = new.desk;
      records = with_planned silent h.left.records h.left.desk;
    }) (λ i j. nobody_silent j i) h.plans.rest;
  };
}
alone old was time served (Err fault) new now h = h

pub ticks_alone : (silent : List Bool) (old : KeptValue) (was : SeatValue) (time : ℕ) (served : List Request)
    (ticked : Result Ticked DeskError) (new : KeptValue) (now : SeatValue)
    → silent ≡ no_sites
    → TicksBeside (has_site silent) old was time served ticked new now → Ticks old was time served ticked new now
ticks_alone silent old was time served ticked new now same h =
    alone old was time served ticked new now
    (subst (λ (s : List Bool). TicksBeside (has_site s) old was time served ticked new now) same h)
