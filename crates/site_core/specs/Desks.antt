-- The desk of one site, as plain data.
use Rattle.std.specs.Prelude.{◌≡◌, ℕ, ◌≤◌, Bool, true, false, ◌==◌, ◌&&◌, List, [], ◌∷◌, count_by, if◌then◌else◌}
use Rattle.rights_types.specs.Chains.{moves_of, is_closed}
use Rattle.rights_types.specs.Messages.{AskValue}
use Rattle.rights_types.specs.declared.moves.Move.{Move}
use Rattle.rights_types.specs.declared.moves.Move.TheVariants.{Grant}
use Rattle.rights_book.specs.Books.{sites, IsBook}
use Rattle.request_queue.specs.Queues.{QueueValue, no_requests}
use Rattle.transfer_manager.specs.Managers.{ManagerValue, new_manager, sites as asked_sites, ended}
use Rattle.transfer_manager.specs.AskAnswers.{IsAnswered}
use Rattle.site_core.specs.Ledgers.{LedgerValue, new_ledger, IsLedger}

-- the site's log and book, the spends that wait, its asks, and the time of the last expiry
pub record DeskValue : Type 0 where
  pub ledger : LedgerValue
  pub queue : QueueValue
  pub manager : ManagerValue
  pub time : ℕ

abbrev pub new_desk : ℕ → ℕ → DeskValue
new_desk me n = record { ledger = new_ledger me n; queue = no_requests; manager = new_manager me n; time = 0 }

-- the move grants the ask of this number to site j
abbrev pub grants : ℕ → ℕ → Move → Bool
grants j a (Grant k n b) = (k == j) && (b == a)
grants j a m = false

-- how many of these moves grant it
abbrev pub grant_count : ℕ → ℕ → List Move → ℕ
grant_count j a ms = count_by (grants j a) ms

-- of every desk: its parts belong to one site of one system; at a closed site no spend waits; no ask was granted
-- twice, and one that was granted will not be granted again
pub record IsDesk (d : DeskValue) : Type 0 where
  pub same_site : d.manager.me ≡ d.ledger.log.site
  pub same_sites : asked_sites d.manager ≡ sites d.ledger.book
  pub idle : is_closed d.ledger.log.entries ≡ true → d.queue.waiting ≡ []
  pub once : (j a : ℕ) → grant_count j a (moves_of d.ledger.log.entries) ≤ 1
  pub answered : (past : AskValue) → 1 ≤ grant_count past.asker past.ask (moves_of d.ledger.log.entries)
      → IsAnswered d.manager past

-- of a desk, whatever it wrote and applied: its log and book form a ledger, and at a closed site no spend waits
pub record DeskSound (d : DeskValue) : Type 0 where
  pub ledger : IsLedger d.ledger
  pub book : IsBook d.ledger.book
  pub idle : is_closed d.ledger.log.entries ≡ true → d.queue.waiting ≡ []

-- the asks after this move of site o was applied at site me
abbrev pub after_grant : ℕ → ℕ → Move → ManagerValue → ManagerValue
after_grant me o (Grant k n a) m = if k == me then ended m o a else m
after_grant me o x m = m

abbrev pub after_grants : ℕ → ℕ → List Move → ManagerValue → ManagerValue
after_grants me o [] m = m
after_grants me o (x ∷ xs) m = after_grants me o xs (after_grant me o x m)
