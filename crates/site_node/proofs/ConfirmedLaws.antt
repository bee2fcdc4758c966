-- What a client was told equals what its seat counts.
use Rattle.std.proofs.Common.{◌≡◌, ℕ, ◌+◌, inl, inr, List, [], ◌∷◌, Result, Ok, Err, ap, arith}
use Rattle.std.proofs.lemmas.List.Sums.{sum_by-cons}
use Rattle.request_queue.specs.declared.request.Request.{Request}
use Rattle.request_queue.specs.Queues.{total_of}
use Rattle.site_core.specs.declared.desk.requests.Spending.TheVariants.{Spent, Queued}
use Rattle.site_core.specs.declared.fault.DeskError.{DeskError}
use Rattle.apply_lanes.specs.Kepts.{KeptValue, SeatValue}
use Rattle.site_words.specs.declared.commands.DeskCommand.{DeskCommand}
use Rattle.site_words.specs.declared.commands.DeskCommand.TheVariants.{Issue, Give, Spend, Take}
use Rattle.site_words.specs.declared.commands.DeskCommand.TheVariants.{Outcome, Cancel, Close}
use Rattle.site_node.specs.declared.reply.Reply.{Reply}
use Rattle.site_node.specs.declared.reply.Reply.TheVariants.{Number, Spending, Outcome as Tells, Refused, BadDeadline}
use Rattle.site_node.specs.declared.reply.Reply.TheVariants.{KeyRefused, KeyReused}
use Rattle.site_node.specs.declared.tick.Ticked.{Ticked}
use Rattle.site_node.specs.Acting.{Acts}
use Rattle.site_node.specs.Ticking.{ServesEach, Ticks}
use Rattle.site_node.specs.Confirmed.{Turn, ACommand, ATick, HasTurn, HasTurns, CountsConfirmed, confirmed_as_issued}
use Rattle.site_node.specs.Confirmed.{confirmed_as_spent, issued_in, spent_in}

-- the seat counts this many more rights as issued, and this many as spent
record Counts (was : SeatValue) (issued spent : ℕ) (now : SeatValue) : Type 0 where
  issued_is : now.issued ≡ was.issued + issued
  spent_is : now.spent + now.served ≡ was.spent + was.served + spent

-- no more
same : (was now : SeatValue) → now ≡ was → Counts was 0 0 now
same was now e =
    let issued : now.issued ≡ was.issued = ap (λ (s : SeatValue). s.issued) e in
    let spent : now.spent ≡ was.spent = ap (λ (s : SeatValue). s.spent) e in
    let served : now.served ≡ was.served = ap (λ (s : SeatValue). s.served) e in
    record { issued_is = omega arith; spent_is = omega arith }

-- ---- commands

acts : (old : KeptValue) (was : SeatValue) (command : DeskCommand) (reply : Reply) (new : KeptValue) (now : SeatValue)
    → Acts old was command reply new now
    → Counts was (confirmed_as_issued command reply) (confirmed_as_spent command reply) now
acts old was (Issue amount) (Number n) new now h =
    let e = h.1.counted in
    let issued : now.issued ≡ was.issued + amount = ap (λ (s : SeatValue). s.issued) e in
    let spent : now.spent ≡ was.spent = ap (λ (s : SeatValue). s.spent) e in
    let served : now.served ≡ was.served = ap (λ (s : SeatValue). s.served) e in
    record { issued_is = issued; spent_is = omega arith }
acts old was (Issue amount) (Spending spending) new now h = absurd h
acts old was (Issue amount) (Tells status) new now h = absurd h
acts old was (Issue amount) (Refused cause) new now h = same was now h.same_seat
acts old was (Issue amount) BadDeadline new now h = absurd h
acts old was (Issue amount) KeyRefused new now h = absurd h
acts old was (Issue amount) KeyReused new now h = absurd h
acts old was (Give peer amount) (Number n) new now h = same was now h.1.same_seat
acts old was (Give peer amount) (Spending spending) new now h = absurd h
acts old was (Give peer amount) (Tells status) new now h = absurd h
acts old was (Give peer amount) (Refused cause) new now h = same was now h.same_seat
acts old was (Give peer amount) BadDeadline new now h = absurd h
acts old was (Give peer amount) KeyRefused new now h = absurd h
acts old was (Give peer amount) KeyReused new now h = absurd h
acts old was (Spend amount deadline latest) (Number n) new now h = absurd h
acts old was (Spend amount deadline latest) (Spending (Spent n)) new now h =
    let e = h.2.counted in
    let issued : now.issued ≡ was.issued = ap (λ (s : SeatValue). s.issued) e in
    let spent : now.spent ≡ was.spent + amount = ap (λ (s : SeatValue). s.spent) e in
    let served : now.served ≡ was.served = ap (λ (s : SeatValue). s.served) e in
    record { issued_is = omega arith; spent_is = omega arith }
acts old was (Spend amount deadline latest) (Spending (Queued ticket)) new now h =
    let e = h.2.counted in
    let issued : now.issued ≡ was.issued = ap (λ (s : SeatValue). s.issued) e in
    let spent : now.spent ≡ was.spent + 0 = ap (λ (s : SeatValue). s.spent) e in
    let served : now.served ≡ was.served = ap (λ (s : SeatValue). s.served) e in
    record { issued_is = omega arith; spent_is = omega arith }
acts old was (Spend amount deadline latest) (Tells status) new now h = absurd h
acts old was (Spend amount deadline latest) (Refused cause) new now h = same was now h.same_seat
acts old was (Spend amount deadline latest) BadDeadline new now h = same was now h.same_seat
acts old was (Spend amount deadline latest) KeyRefused new now h = absurd h
acts old was (Spend amount deadline latest) KeyReused new now h = absurd h
acts old was (Take amount) (Number n) new now h = absurd h
acts old was (Take amount) (Spending (Spent n)) new now h =
    let e = h.1.counted in
    let issued : now.issued ≡ was.issued = ap (λ (s : SeatValue). s.issued) e in
    let spent : now.spent ≡ was.spent + amount = ap (λ (s : SeatValue). s.spent) e in
    let served : now.served ≡ was.served = ap (λ (s : SeatValue). s.served) e in
    record { issued_is = omega arith; spent_is = omega arith }
acts old was (Take amount) (Spending (Queued ticket)) new now h = absurd h
acts old was (Take amount) (Tells status) new now h = absurd h
acts old was (Take amount) (Refused cause) new now h = same was now h.same_seat
acts old was (Take amount) BadDeadline new now h = absurd h
acts old was (Take amount) KeyRefused new now h = absurd h
acts old was (Take amount) KeyReused new now h = absurd h
acts old was (Cancel ticket) (Number n) new now h = absurd h
acts old was (Cancel ticket) (Spending spending) new now h = absurd h
acts old was (Cancel ticket) (Tells status) new now h = same was now h.same_seat
acts old was (Cancel ticket) (Refused cause) new now h = absurd h
acts old was (Cancel ticket) BadDeadline new now h = absurd h
acts old was (Cancel ticket) KeyRefused new now h = absurd h
acts old was (Cancel ticket) KeyReused new now h = absurd h
acts old was (Outcome ticket) (Number n) new now h = absurd h
acts old was (Outcome ticket) (Spending spending) new now h = absurd h
acts old was (Outcome ticket) (Tells status) new now h = same was now h.same_seat
acts old was (Outcome ticket) (Refused cause) new now h = absurd h
acts old was (Outcome ticket) BadDeadline new now h = absurd h
acts old was (Outcome ticket) KeyRefused new now h = absurd h
acts old was (Outcome ticket) KeyReused new now h = absurd h
acts old was (Close heir) (Number n) new now h = same was now h.1.same_seat
acts old was (Close heir) (Spending spending) new now h = absurd h
acts old was (Close heir) (Tells status) new now h = absurd h
acts old was (Close heir) (Refused cause) new now h = same was now h.same_seat
acts old was (Close heir) BadDeadline new now h = absurd h
acts old was (Close heir) KeyRefused new now h = absurd h
acts old was (Close heir) KeyReused new now h = absurd h

-- ---- ticks

serves : (old : KeptValue) (was : SeatValue) (served : List Request) (new : KeptValue) (now : SeatValue)
    → ServesEach old was served new now → Counts was 0 (total_of served) now
serves old was [] new now h = same was now h.1
serves old was (r ∷ others) new now h =
    let half : SeatValue = h.1 in
    let e = h.2.counted in
    let issued : half.issued ≡ was.issued = ap (λ (s : SeatValue). s.issued) e in
    let spent : half.spent ≡ was.spent = ap (λ (s : SeatValue). s.spent) e in
    let one : half.served ≡ was.served + r.amount = ap (λ (s : SeatValue). s.served) e in
    let more : Counts half 0 (total_of others) now = serves h.0 half others new now h.3 in
    let all : total_of (r ∷ others) ≡ r.amount + total_of others = sum_by-cons (λ (x : Request). x.amount) r others in
    record { issued_is = omega (arith, more.issued_is); spent_is = omega (arith, more.spent_is) }

ticks : (old : KeptValue) (was : SeatValue) (time : ℕ) (served : List Request) (answer : Result Ticked DeskError)
    (new : KeptValue) (now : SeatValue)
    → Ticks old was time served answer new now → Counts was 0 (total_of served) now
ticks old was time served (Ok ticked) new now h = serves _ was served _ now h.serves.each
ticks old was time served (Err fault) new now (inl h) =
    let none : total_of served ≡ 0 = ap total_of h.none in
    let c : Counts was 0 0 now = same was now h.same_seat in
    record { issued_is = c.issued_is; spent_is = omega (arith, c.spent_is) }
ticks old was time served (Err fault) new now (inr h) = serves _ was served _ now h.fails.each

-- ---- turns

turn_counts : (was : SeatValue) (turn : Turn) (now : SeatValue) → HasTurn was turn now
    → Counts was (issued_in turn) (spent_in turn) now
turn_counts was (ACommand command reply) now h = acts h.0 was command reply h.1 now h.2
turn_counts was (ATick time served answer) now h = ticks h.0 was time served answer h.1 now h.2

pub turns_count : (was : SeatValue) (turns : List Turn) (now : SeatValue) → HasTurns was turns now
    → CountsConfirmed was turns now
turns_count was [] now h = let c : Counts was 0 0 now
    = same was now h in record { issued = c.issued_is; spent = c.spent_is }
turns_count was (turn ∷ turns) now h =
    let first : Counts was (issued_in turn) (spent_in turn) h.0 = turn_counts was turn h.0 h.1 in
    let rest : CountsConfirmed h.0 turns now = turns_count h.0 turns now h.2 in
    record {
      issued = omega (arith, first.issued_is, rest.issued, sum_by-cons issued_in turn turns);
      spent = omega (arith, first.spent_is, rest.spent, sum_by-cons spent_in turn turns);
    }
