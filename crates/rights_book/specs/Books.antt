-- A book of rights, as plain data.
use Rattle.std.specs.Prelude.{◌≡◌, ℕ, ◌+◌, ◌*◌, ◌-◌, ◌≤◌, ◌==◌, List, length, replicate, ℤ, pos, ◌-ℤ◌, if◌then◌else◌}
use Rattle.rights_types.specs.declared.limits.TheConstants.{MIN_SITES, MAX_SITES, MAX_AMOUNT}
use Rattle.rights_types.specs.Places.{at_site}
use Rattle.rights_types.specs.Rights.{sum_sites}
use Rattle.rights_types.specs.declared.moves.Move.{Move}
use Rattle.rights_book.specs.declared.account.Account.{Account}
use Rattle.rights_book.specs.declared.peer.Peer.{Peer}
use Rattle.rights_book.specs.Accounts.{no_account, with_moves, IsAccount}
use Rattle.rights_book.specs.Peers.{no_peer, with_own, with_applied}

-- whose book it is, the sums of its log, and what it knows of each site, from site 1 on
pub record BookValue : Type 0 where
  pub me : ℕ
  pub own : Account
  pub peers : List Peer

abbrev pub sites : BookValue → ℕ
sites b = length b.peers

-- what is known of a site; nothing of a site that the system does not have
abbrev pub peer : BookValue → ℕ → Peer
peer b j = at_site b.peers j no_peer

-- the account of site j: of its own log, or of what was applied of another log
abbrev pub account : BookValue → ℕ → Account
account b j = if j == b.me then b.own else (peer b j).log

-- what all other sites gave to this one
abbrev pub received_by : BookValue → ℕ
received_by b = (peer b b.me).gifts

-- the rights that it holds
abbrev pub held_by : BookValue → ℕ
held_by b = (b.own.issued + received_by b + b.own.back) - (b.own.given + b.own.spent)

-- the rights that it knows of site j
abbrev pub known_by : BookValue → ℕ → ℤ
known_by b j = let a = account b j in let p = peer b j in
    pos (a.issued + p.gifts + p.given + a.back) -ℤ pos (a.given + a.spent)

-- the book of site me among n, at the start
abbrev pub new_book : ℕ → ℕ → BookValue
new_book me n = record { me = me; own = no_account; peers = replicate n no_peer }

-- the book's site wrote these moves
pub record Writes (old : BookValue) (ms : List Move) (new : BookValue) : Type 0 where
  pub same_me : new.me ≡ old.me
  pub same_sites : sites new ≡ sites old
  pub writes : new.own ≡ with_moves old.own ms
  pub each : (j : ℕ) → peer new j ≡ with_own (peer old j) j ms

-- the book's site applied these moves of site o
pub record Applies (old : BookValue) (o : ℕ) (ms : List Move) (new : BookValue) : Type 0 where
  pub same_me : new.me ≡ old.me
  pub same_sites : sites new ≡ sites old
  pub same_own : new.own ≡ old.own
  pub each : (j : ℕ) → 1 ≤ j → j ≤ sites old → peer new j ≡ with_applied old.me (peer old j) o j ms

-- the sum of the numbers that were applied of all logs
abbrev pub applied_by : BookValue → ℕ
applied_by b = sum_sites (sites b) (λ o. (peer b o).log.end)

-- what is true of every book, whatever the logs are
pub record IsBook (b : BookValue) : Type 0 where
  pub some : MIN_SITES ≤ sites b
  pub few : sites b ≤ MAX_SITES
  pub member : (1 ≤ b.me) × (b.me ≤ sites b)
  pub own_account : IsAccount b.own
  pub accounts : (o : ℕ) → IsAccount (peer b o).log
  pub nothing_applied : (peer b b.me).log.end ≡ 0
  pub nothing_given : (peer b b.me).given ≡ 0
  pub received_within : (o : ℕ) → (peer b o).received ≤ (peer b o).log.end * MAX_AMOUNT
  pub received_is : received_by b ≡ sum_sites (sites b) (λ o. (peer b o).received)
  pub gifts_within : (j : ℕ) → (peer b j).gifts ≤ applied_by b * MAX_AMOUNT
  pub given_is : b.own.given ≡ sum_sites (sites b) (λ j. (peer b j).given)
  pub back_is : b.own.back ≡ sum_sites (sites b) (λ j. (peer b j).back)
  pub back_within : (j : ℕ) → (peer b j).back ≤ (peer b j).given
  pub not_negative : b.own.given + b.own.spent ≤ b.own.issued + received_by b + b.own.back
