-- The outcome of a spend that waits.
use Rattle.std.proofs.Common.{◌≡◌, ◌∙◌, ℕ, suc, zero, true, false, inl, inr, refl, ap}
use Rattle.apply_lanes.specs.Names.{DeskId}
use Rattle.apply_lanes.specs.Kepts.{KeptValue, SeatValue}
use Rattle.site_words.specs.declared.commands.DeskCommand.TheVariants.{Outcome as AsksOutcome, Cancel as Cancels}
use Rattle.site_node.specs.Acting.{ActsOutcome, ActsCancel}
use Rattle.site_node.specs.declared.reply.Reply.{Reply}
use Rattle.site_node.specs.declared.reply.Reply.TheVariants.{Number, Spending, Outcome, Refused, BadDeadline}
use Rattle.site_node.specs.declared.reply.Reply.TheVariants.{KeyRefused, KeyReused}
use Rattle.desk_turns.specs.Seated.{SeatedValue, ActsAtDesk}
use Rattle.site_core.specs.declared.desk.requests.Spending.TheVariants.{Queued}
use Rattle.site_server.specs.Settling.{HasWaited, WaitsFor, Settles, still_waits}

same_seat : (old : KeptValue) (was : SeatValue) (ticket : ℕ) (reply : Reply) (new : KeptValue) (now : SeatValue)
    → ActsOutcome old was ticket reply new now → now ≡ was
same_seat old was ticket (Number n) new now h = absurd h
same_seat old was ticket (Spending spending) new now h = absurd h
same_seat old was ticket (Outcome status) new now h = h.same_seat
same_seat old was ticket (Refused cause) new now h = absurd h
same_seat old was ticket BadDeadline new now h = absurd h
same_seat old was ticket KeyRefused new now h = absurd h
same_seat old was ticket KeyReused new now h = absurd h

-- asking for an outcome leaves what the seat counts unchanged
pub keeps_told : (id : DeskId) (was : SeatedValue) (ticket : ℕ) (reply : Reply) (now : SeatedValue)
    → ActsAtDesk id was (AsksOutcome ticket) reply now → now.told ≡ was.told
keeps_told id was ticket reply now h = same_seat h.old was.told ticket reply h.new now.told h.acts

same_after : (old : KeptValue) (was : SeatValue) (ticket : ℕ) (reply : Reply) (new : KeptValue) (now : SeatValue)
    → ActsCancel old was ticket reply new now → now ≡ was
same_after old was ticket (Number n) new now h = absurd h
same_after old was ticket (Spending spending) new now h = absurd h
same_after old was ticket (Outcome status) new now h = h.same_seat
same_after old was ticket (Refused cause) new now h = absurd h
same_after old was ticket BadDeadline new now h = absurd h
same_after old was ticket KeyRefused new now h = absurd h
same_after old was ticket KeyReused new now h = absurd h

-- .. and so does cancelling
pub cancel_keeps_told : (id : DeskId) (was : SeatedValue) (ticket : ℕ) (reply : Reply) (now : SeatedValue)
    → ActsAtDesk id was (Cancels ticket) reply now → now.told ≡ was.told
cancel_keeps_told id was ticket reply now h = same_after h.old was.told ticket reply h.new now.told h.acts

waits_told : (id : DeskId) (n : ℕ) (was : SeatedValue) (ticket : ℕ) (now : SeatedValue)
    → WaitsFor id n was ticket now → now.told ≡ was.told
waits_told id zero was ticket now h = ap (λ (s : SeatedValue). s.told) h
waits_told id (suc n) was ticket now h =
    keeps_told id h.0 ticket h.2.reply now h.2.at_desk ∙ waits_told id n was ticket h.0 h.1

pub waited_told : (id : DeskId) (was : SeatedValue) (ticket : ℕ) (now : SeatedValue)
    → HasWaited id was ticket now → now.told ≡ was.told
waited_told id was ticket now h = waits_told id h.times was ticket now h.waits

-- no turn yet, one more, and the last
pub none_waited : (id : DeskId) (was : SeatedValue) (ticket : ℕ) → HasWaited id was ticket was
none_waited id was ticket = record { times = zero; waits = refl }

pub waits_again : (id : DeskId) (was mid : SeatedValue) (ticket : ℕ) (reply : Reply) (now : SeatedValue)
    → HasWaited id was ticket mid → ActsAtDesk id mid (AsksOutcome ticket) reply now → still_waits reply ≡ true
    → HasWaited id was ticket now
waits_again id was mid ticket reply now h k waits =
    record { times = suc h.times; waits = (mid, h.waits, record { reply = reply; at_desk = k; waits = waits }) }

module _ (HasEnded HasLeft : Type 0) (id : DeskId) (was : SeatedValue) (ticket : ℕ) where
  pub tells_outcome : (mid : SeatedValue) (reply : Reply) (now : SeatedValue)
      → HasWaited id was ticket mid → ActsAtDesk id mid (AsksOutcome ticket) reply now → still_waits reply ≡ false
      → Settles HasEnded HasLeft id was (Spending (Queued ticket)) reply now
  tells_outcome mid reply now h k decided =
      inl (record { mid = mid; waited = h; at_desk = k; decided = decided })

  -- the end of the site, and a client that has left
  pub still_queued : (now : SeatedValue) → HasWaited id was ticket now → HasEnded
      → Settles HasEnded HasLeft id was (Spending (Queued ticket)) (Spending (Queued ticket)) now
  still_queued now h ended = inr (inl (record { waited = h; ended = ended; queued = refl }))

  pub ends_wait : (mid : SeatedValue) (reply : Reply) (now : SeatedValue)
      → HasWaited id was ticket mid → HasLeft → ActsAtDesk id mid (Cancels ticket) reply now
      → Settles HasEnded HasLeft id was (Spending (Queued ticket)) reply now
  ends_wait mid reply now h left k = inr (inr (record { mid = mid; waited = h; left = left; at_desk = k }))
