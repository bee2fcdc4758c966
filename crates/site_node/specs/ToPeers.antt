-- What a tick sends to all peers.
use Rattle.std.specs.Prelude.{◌≡◌, ℕ, ◌+◌, ◌<◌, suc, zero}

-- For peers with this relation: `sends before index sent after` says that the peer at this index was offered what is
-- due to it, `sent` lines found space, and the peers changed from `before` to `after`.
module _ {P : Type 0} (sends : P → ℕ → ℕ → P → Type 0) where
  -- the first peers were sent what is due, one after another; this many lines found space in all
  abbrev pub SendsToFirst : ℕ → P → ℕ → P → Type 0
  SendsToFirst zero before sent after = (sent ≡ 0) × (after ≡ before)
  SendsToFirst (suc n) before sent after =
      (mid : P) × (first : ℕ) × (last : ℕ) × SendsToFirst n before first mid × sends mid n last after
      × (sent ≡ first + last)

  -- the first peers were sent what is due, one after another; at the next one memory ran out
  pub record StopsAtPeer (stops : P → ℕ → P → Type 0) (size : ℕ) (before after : P) : Type 0 where
    pub index : ℕ
    pub among : index < size
    pub mid : P
    pub sent : ℕ
    pub first : SendsToFirst index before sent mid
    pub stopped : stops mid index after
