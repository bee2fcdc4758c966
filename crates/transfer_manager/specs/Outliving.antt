-- The asks of a manager that was made again from a journal, compared with those of the one that wrote it.
use Rattle.std.specs.Prelude.{◌≡◌, ℕ, ◌<◌, ◌≤◌, true, false, Some, None, IfSome}
use Rattle.transfer_manager.specs.declared.peer_asks.PeerAsks.{PeerAsks}
use Rattle.transfer_manager.specs.Managers.{ManagerValue, asks, with_ask, with_ended}

-- The asks to and from one site: p of the one that wrote the journal, q of the one that was made again. What is not in
-- the journal is lost: the denials that the site got, and those that it gave.
pub record Outlives (p q : PeerAsks) : Type 0 where
  -- the same number comes next, so none is used twice
  pub same_last : q.last_ask ≡ p.last_ask
  -- an ask that is outstanding is so again; and so may be one that a denial ended
  pub or_more : IfSome p.outstanding (λ n. q.outstanding ≡ Some n)
  -- no ask counts as answered that was not; one that was denied may count as new
  pub no_more : q.last_answered ≤ p.last_answered
  -- one that was granted last is so again
  pub granted : p.granted ≡ true → (q.granted ≡ true) × (q.last_answered ≡ p.last_answered)

-- the asks to and from each site
abbrev pub AllOutlive : ManagerValue → ManagerValue → Type 0
AllOutlive m q = (j : ℕ) → Outlives (asks m j) (asks q j)

-- what may change without a record: an ask to that site ends, and an ask of that site counts as answered and not granted
pub record ChangesUnrecorded (p new : PeerAsks) : Type 0 where
  pub same_last : new.last_ask ≡ p.last_ask
  pub or_ended : IfSome new.outstanding (λ n. p.outstanding ≡ Some n)
  pub or_later : p.last_answered ≤ new.last_answered
  pub or_denied : new.granted ≡ true → (p.granted ≡ true) × (p.last_answered ≡ new.last_answered)

-- a denial comes; an ask ends since its peer has closed; an ask is denied
pub record Unrecorded (p : PeerAsks) : Type 0 where
  pub denied : (ask : ℕ) → ChangesUnrecorded p (with_ended p ask)
  pub closed : ChangesUnrecorded p (record p { outstanding = None })
  pub denies : (ask : ℕ) → p.last_answered < ask
      → ChangesUnrecorded p (record p { last_answered = ask; granted = false })

-- what the writer does of which there is a record, and the record's replay; and what the writer does alone
pub record StepsOutlive (p q : PeerAsks) : Type 0 where
  -- an ask is made, and made again
  pub asked : (n : ℕ) → Outlives (with_ask p n) (with_ask q n)
  -- an entry that grants an ask is applied, and applied again
  pub ended : (ask : ℕ) → Outlives (with_ended p ask) (with_ended q ask)
  -- an ask is granted, and granted again: a new one was new then, and is so now
  pub fresh : (ask : ℕ) → p.last_answered < ask → q.last_answered < ask
  pub granted : (ask : ℕ)
      → Outlives (record p { last_answered = ask; granted = true }) (record q { last_answered = ask; granted = true })
  -- what has no record
  pub alone : (new : PeerAsks) → ChangesUnrecorded p new → Outlives new q

abbrev pub AsksOutlive : Type 0
AsksOutlive = (p q : PeerAsks) → Outlives p q → StepsOutlive p q

abbrev pub AsksUnrecorded : Type 0
AsksUnrecorded = (p : PeerAsks) → Unrecorded p
