-- What a site asks of each peer.
use Rattle.std.specs.Prelude.{◌≡◌, ℕ, ◌-◌, ◌≤◌, min, Bool, false, not, is_none, nat_lt, ◌==◌, ◌&&◌, ◌||◌, None, List, ℤ, pos}
use Rattle.std.specs.Prelude.{negsuc, if◌then◌else◌}
use Rattle.rights_types.specs.declared.limits.TheConstants.{MAX_AMOUNT, MAX_ASK}
use Rattle.rights_types.specs.Entries.{EntryValue}
use Rattle.rights_types.specs.Chains.{is_closed}
use Rattle.rights_types.specs.Rights.{held, sum_sites}
use Rattle.rights_book.specs.Books.{BookValue, account, held_by, known_by}
use Rattle.rights_book.specs.Known.{logs_at, known}
use Rattle.transfer_manager.specs.declared.peer_asks.PeerAsks.{PeerAsks}
use Rattle.transfer_manager.specs.Managers.{ManagerValue, sites, asks, amount_of, with_asked, SameSystem}

-- what a plan is based on: the rights that each site is known to have, which sites are known to have closed, which are
-- silent, and what the planning site holds
pub record Knowledge : Type 0 where
  pub known : ℕ → ℤ
  pub closed : ℕ → Bool
  pub silent : ℕ → Bool
  pub held : ℕ

-- .. according to a book, with no site silent
abbrev pub of_book : BookValue → Knowledge
of_book b = record {
  known = known_by b;
  closed = λ j. (account b j).closed;
  silent = λ j. false;
  held = held_by b;
}

-- .. according to the logs that site me of n sites has: its own, and of each other one what it applied
abbrev pub of_logs : ℕ → ℕ → List EntryValue → (ℕ → List EntryValue) → Knowledge
of_logs n me log applied =
    let logs = logs_at me log applied in
    record {
      known = λ j. known n j logs;
      closed = λ j. is_closed (logs j);
      silent = λ j. false;
      held = held n me log applied;
    }

-- the same, with these sites silent
abbrev pub beside : (ℕ → Bool) → Knowledge → Knowledge
beside silent k = record k { silent = silent }

-- without the outstanding ask, if site j is known to have closed
abbrev pub without_closed : Knowledge → ℕ → PeerAsks → PeerAsks
without_closed k j p = if k.closed j then record p { outstanding = None } else p

-- the asks to and from site j, once those to sites that are known to have closed have ended
abbrev pub open_asks : ManagerValue → Knowledge → ℕ → PeerAsks
open_asks m k j = without_closed k j (asks m j)

-- the rights of the outstanding ask to site j; of a silent site none are expected
abbrev pub expected : Knowledge → ℕ → PeerAsks → ℕ
expected k j p = if k.silent j then 0 else amount_of p.outstanding

-- what is queued, less what is held, less what is expected; 0 if that is negative
abbrev pub need : ManagerValue → Knowledge → ℕ → ℕ
need m k queued = (queued - k.held) - sum_sites (sites m) (λ j. expected k j (open_asks m k j))

abbrev pub above_zero : ℤ → ℕ
above_zero (pos n) = n
above_zero (negsuc n) = 0

-- site j, with these asks, is eligible: it is not me, has no ask outstanding, is not known to have closed, is not
-- silent, has an ask number left, and is known to have rights
abbrev pub is_eligible : ℕ → Knowledge → ℕ → PeerAsks → Bool
is_eligible me k j p =
    not (j == me) && is_none p.outstanding && not (k.closed j) && not (k.silent j) && nat_lt p.last_ask MAX_ASK
    && nat_lt 0 (above_zero (k.known j))

-- the rights that an eligible site is known to have; 0 for any other site
abbrev pub eligible_rights : ℕ → Knowledge → ℕ → PeerAsks → ℕ
eligible_rights me k j p = if is_eligible me k j p then above_zero (k.known j) else 0

-- .. at the moment of a plan
abbrev pub rights_of : ManagerValue → Knowledge → ℕ → ℕ
rights_of m k j = eligible_rights m.me k j (open_asks m k j)

-- in the order of these rights, site i comes before site j: it has more, or the same and the smaller number
abbrev pub is_before : (ℕ → ℕ) → ℕ → ℕ → Bool
is_before rights i j = nat_lt (rights j) (rights i) || (rights i == rights j && nat_lt i j)

-- the sum of the rights of those of n sites that come before site j
abbrev pub rights_before : ℕ → (ℕ → ℕ) → ℕ → ℕ
rights_before n rights j = sum_sites n (λ i. if is_before rights i j then rights i else 0)

-- the amount that site j is asked for: what is still needed after those before it, at most what it is known to have,
-- and at most what one ask may be for; 0 if it is not asked
abbrev pub amount_asked : ℕ → (ℕ → ℕ) → ℕ → ℕ → ℕ
amount_asked n rights need j = min (min (rights j) (need - rights_before n rights j)) MAX_AMOUNT

-- how many of n sites are asked for any rights
abbrev pub count_asked : ℕ → (ℕ → ℕ) → ℕ
count_asked n amounts = sum_sites n (λ j. if amounts j == 0 then 0 else 1)

-- the amounts that a plan asks for, given how many rights are queued
abbrev pub planned : ManagerValue → Knowledge → ℕ → ℕ → ℕ
planned m k queued = amount_asked (sites m) (rights_of m k) (need m k queued)

-- the plan: each site is asked for its amount under its next number, if that is not 0
pub record Plans (old : ManagerValue) (k : Knowledge) (queued count : ℕ) (new : ManagerValue) : Type 0 where
  pub same : SameSystem old new
  pub each : (j : ℕ) → 1 ≤ j → j ≤ sites old → asks new j ≡ with_asked (open_asks old k j) (planned old k queued j)
  pub counted : count ≡ count_asked (sites old) (planned old k queued)
