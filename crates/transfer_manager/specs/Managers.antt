-- The asks between one site and each other, as plain data.
use Rattle.std.specs.Prelude.{◌≡◌, ℕ, ◌+◌, ◌≤◌, false, ◌==◌, List, length, replicate, Option, Some, None, IfSome}
use Rattle.std.specs.Prelude.{option_map, if◌then◌else◌}
use Rattle.rights_types.specs.declared.limits.TheConstants.{MIN_SITES, MAX_SITES, MAX_ASK}
use Rattle.rights_types.specs.Ranges.{IsAmount}
use Rattle.rights_types.specs.Messages.{AskValue}
use Rattle.rights_types.specs.Places.{at_site, set_site}
use Rattle.transfer_manager.specs.declared.peer_asks.PeerAsks.{PeerAsks}

-- whose asks they are, and the asks to and from each site, from site 1 on
pub record ManagerValue : Type 0 where
  pub me : ℕ
  pub peers : List PeerAsks

abbrev pub sites : ManagerValue → ℕ
sites m = length m.peers

-- no ask yet
abbrev pub no_asks : PeerAsks
no_asks = record { last_ask = 0; outstanding = None; last_answered = 0; granted = false }

-- the asks to and from a site; none for a site that the system does not have
abbrev pub asks : ManagerValue → ℕ → PeerAsks
asks m j = at_site m.peers j no_asks

-- the manager with other asks to and from site j
abbrev pub with_asks : ManagerValue → ℕ → PeerAsks → ManagerValue
with_asks m j p = record { me = m.me; peers = set_site m.peers j p }

-- the same site of the same system
pub record SameSystem (old new : ManagerValue) : Type 0 where
  pub same_me : new.me ≡ old.me
  pub same_sites : sites new ≡ sites old

-- the manager of site me among n, at the start
abbrev pub new_manager : ℕ → ℕ → ManagerValue
new_manager me n = record { me = me; peers = replicate n no_asks }

-- the rights of an ask, 0 if there is none
abbrev pub amount_of : Option ℕ → ℕ
amount_of None = 0
amount_of (Some n) = n

-- the outstanding ask to site j, which is the last one to it
abbrev pub outstanding_ask : ManagerValue → ℕ → Option AskValue
outstanding_ask m j =
    let p = asks m j in option_map (λ n. record { asker = m.me; asked = j; ask = p.last_ask; amount = n }) p.outstanding

-- one more ask, under the next number
abbrev pub with_ask : PeerAsks → ℕ → PeerAsks
with_ask p n = record p { last_ask = p.last_ask + 1; outstanding = Some n }

-- one more ask, unless it is for nothing
abbrev pub with_asked : PeerAsks → ℕ → PeerAsks
with_asked p n = if n == 0 then p else with_ask p n

-- without the outstanding ask, if it has this number
abbrev pub with_ended : PeerAsks → ℕ → PeerAsks
with_ended p ask = if p.last_ask == ask then record p { outstanding = None } else p

-- the ask of this number to site j has ended, if it was outstanding
abbrev pub ended : ManagerValue → ℕ → ℕ → ManagerValue
ended m j ask = with_asks m j (with_ended (asks m j) ask)

-- this ask of the manager's own site, which is the next one to its peer, is outstanding
abbrev pub asked_again : ManagerValue → AskValue → ManagerValue
asked_again m ask = with_asks m ask.asked (with_ask (asks m ask.asked) ask.amount)

-- it is of this site, to another one of the system, under the next number
pub record IsNextAsk (m : ManagerValue) (ask : AskValue) : Type 0 where
  pub mine : ask.asker ≡ m.me
  pub site : ask.asked ≤ sites m
  pub next : ask.ask ≡ (asks m ask.asked).last_ask + 1

-- an outstanding ask has an amount and a number within their ranges
pub record IsPeerAsks (p : PeerAsks) : Type 0 where
  pub numbers : p.last_ask ≤ MAX_ASK
  pub asked : IfSome p.outstanding (λ n. IsAmount n × (1 ≤ p.last_ask))

-- what is true of every manager: a site never asks itself
pub record IsManager (m : ManagerValue) : Type 0 where
  pub some : MIN_SITES ≤ sites m
  pub few : sites m ≤ MAX_SITES
  pub member : (1 ≤ m.me) × (m.me ≤ sites m)
  pub each : (j : ℕ) → IsPeerAsks (asks m j)
  pub none_own : (asks m m.me).outstanding ≡ None
