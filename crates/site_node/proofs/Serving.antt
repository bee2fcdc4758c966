-- Requests that are served, one after another.
use Rattle.std.proofs.Common.{◌≡◌, ◌∙◌, ℕ, List, [], ◌∷◌, ◌++◌, Option, Some, None, ap, refl, sym, subst, append_assoc}
use Rattle.std.specs.Prelude.{false}
use Rattle.std.proofs.lemmas.List.{append-nil}
use Rattle.request_queue.specs.declared.request.Request.{Request}
use Rattle.site_core.specs.declared.fault.DeskError.{DeskError}
use Rattle.request_queue.specs.Queues.{QueueValue, front_of}
use Rattle.site_core.specs.Desks.{DeskValue}
use Rattle.site_core.specs.Calls.{ServesFront, ServeKeeps}
use Rattle.command_keys.specs.Books.{KeyBookValue, ServesKey}
use Rattle.apply_lanes.specs.Kepts.{KeptValue, SeatValue, IsFront, raised, told_served}
use Rattle.apply_lanes.specs.Recording.{with_written}
use Rattle.site_node.specs.Ticking.{ServesNext, ServesEach, HasServedAll, ServesNextIf, ServesAll, ServingFails}

-- what is served from here on was served from the start on, after the requests so far
pub record FromStart (start : KeptValue) (was : SeatValue) (so_far : List Request) (k : KeptValue)
    (half : SeatValue) : Type 0 where
  pub follows : (others : List Request) (new : KeptValue) (now : SeatValue) → ServesEach k half others new now
      → ServesEach start was (so_far ++ others) new now

pub at_start : (start : KeptValue) (was : SeatValue) → FromStart start was [] start was
at_start start was = record { follows = λ others new now h. h }

-- .. with one more request
pub one_more : (start : KeptValue) (was : SeatValue) (so_far : List Request) (k : KeptValue) (half : SeatValue)
    (request : Request) (mid : KeptValue) (more : SeatValue)
    → FromStart start was so_far k half → ServesNext k half request mid more
    → FromStart start was (so_far ++ request ∷ []) mid more
one_more start was so_far k half request mid more from next = record {
  follows = λ others new now h.
      subst (λ (rs : List Request). ServesEach start was rs new now) (sym (append_assoc so_far (request ∷ []) others))
      (from.follows (request ∷ others) new now (mid, more, next, h));
}

-- .. and no other
ends : (start : KeptValue) (was : SeatValue) (so_far : List Request) (k : KeptValue) (half : SeatValue)
    (new : KeptValue) (now : SeatValue)
    → FromStart start was so_far k half → ServesEach k half [] new now → ServesEach start was so_far new now
ends start was so_far k half new now from none =
    subst (λ (rs : List Request). ServesEach start was rs new now) (append-nil so_far) (from.follows [] new now none)

pub serves_all : (start : KeptValue) (was : SeatValue) (so_far : List Request) (k : KeptValue) (half : SeatValue)
    (new : KeptValue) (now : SeatValue)
    → FromStart start was so_far k half → ServesNextIf false k half new now → ServesAll start was so_far new now
serves_all start was so_far k half new now from h = record {
  each = ends start was so_far k half new now from (h.1, h.2);
  all = subst (λ (x : KeptValue). HasServedAll x) (sym h.1) h.0;
}

pub fails : (start : KeptValue) (was : SeatValue) (so_far : List Request) (k : KeptValue) (half : SeatValue)
    (fault : DeskError) (new : KeptValue) (now : SeatValue)
    → FromStart start was so_far k half → ServingFails k half [] fault new now
    → ServingFails start was so_far fault new now
fails start was so_far k half fault new now from h = record {
  each = ends start was so_far k half new now from h.each;
  refuses = h.refuses;
}

-- ---- one request

in_front : Option (ℕ × ℕ × ℕ) → ℕ × ℕ × ℕ
in_front (Some front) = front
in_front None = (0, 0, 0)

-- the request at the front was served, and then its key
pub serves_next : (old mid new : KeptValue) (was now : SeatValue) (ticket number amount : ℕ)
    → ServesFront old.desk ticket number mid.desk → ServeKeeps old.desk (Some (ticket, number)) mid.desk
    → IsFront old.desk.queue.waiting (ticket, number, amount)
    → mid ≡ record old {
      desk = mid.desk;
      spent = raised old.spent amount;
      records = with_written old.records mid.desk;
    } → now ≡ told_served was amount
    → ServesKey mid.keys ticket number amount new.keys → new ≡ record mid { keys = new.keys }
    → (request : Request) × ServesNext old was request new now
unfolding in_front
serves_next old mid new was now ticket number amount serves keeps front counter counted key rest =
    let (r, others, waiting, settles) = serves.queue in
    let same : (r.ticket, r.amount, r.deadline) ≡ (ticket, amount, front.0)
    = ap in_front (sym (ap front_of waiting) ∙ front.1) in
    let t : ticket ≡ r.ticket = ap (λ (f : ℕ × ℕ × ℕ). f.0) (sym same) in
    let a : amount ≡ r.amount = ap (λ (f : ℕ × ℕ × ℕ). f.1) (sym same) in
    let left : mid.desk.queue.waiting ≡ others = ap (λ (q : QueueValue). q.waiting) settles in
    let keys : mid.keys ≡ old.keys = ap (λ (k : KeptValue). k.keys) counter in (
      r,
      subst (λ (k : KeptValue). ServesNext old was r k now) (sym rest) (record {
        first = waiting ∙ ap (λ (rs : List Request). r ∷ rs) (sym left);
        number = number;
        desk = subst (λ (n : ℕ). ServesFront old.desk n number mid.desk) t serves;
        keeps = subst (λ (n : ℕ). ServeKeeps old.desk (Some (n, number)) mid.desk) t keeps;
        key = subst (λ (f : ℕ × ℕ). ServesKey old.keys f.0 number f.1 new.keys) (λ i. (t i, a i))
            (subst (λ (b : KeyBookValue). ServesKey b ticket number amount new.keys) keys key);
        counter = ap (λ (k : KeptValue). record k { keys = new.keys }) counter
            ∙ ap (λ (n : ℕ). record old {
              desk = mid.desk;
              spent = raised old.spent n;
              records = with_written old.records mid.desk;
              keys = new.keys;
            }) a;
        counted = counted ∙ ap (told_served was) a;
      }),
    )
