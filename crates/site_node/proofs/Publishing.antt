-- Entries that are published to a peer, one after another.
use Rattle.std.proofs.Common.{◌≡◌, ℕ, ◌+◌, ◌<◌, ◌≤◌, List, length, Option, Some, None, refl, sym, ◌∙◌, ap, inl}
use Rattle.std.proofs.Common.{inr, arith}
use Rattle.std.specs.Option.{option_map}
use Rattle.std.specs.List.{slice_get}
use Rattle.std.proofs.lemmas.Option.{slice_get_cases}
use Rattle.rights_types.specs.Places.{at_site, set_site}
use Rattle.rights_types.specs.Entries.{EntryValue}
use Rattle.rights_types.specs.Messages.{MessageValue}
use Rattle.rights_types.specs.Messages.MessageValue.{AnEntry}
use Rattle.rights_types.specs.declared.limits.TheConstants.{MAX_SITES}
use Rattle.rights_types.proofs.Places.{at_set_site, length-set_site}
use Rattle.origin_log.specs.Logs.{LogValue, published}
use Rattle.site_core.specs.Calls.{published_if, after_publish}
use Rattle.apply_lanes.specs.Kepts.{KeptValue}
use Rattle.site_node.specs.Sending.{next_entry}

-- how many entries count as published to the peer
abbrev pub cursor : KeptValue → ℕ → ℕ
cursor k peer = at_site k.desk.ledger.log.cursors peer 0

-- an entry that is left is in the log
within : (entries : List EntryValue) (i : ℕ) (message : MessageValue)
    → option_map (λ e. AnEntry e) (slice_get entries i) ≡ Some message → i < length entries
within entries i message h =
    elim (slice_get_cases entries i).1 [
      | inl found ↦ found.1
      | inr past ↦ let none : None ≡ Some message
          = sym (ap (λ (o : Option EntryValue). option_map (λ e. AnEntry e) o) past.1) ∙ h in absurd cc
    ]

-- this many entries were published since the start
pub record Published (entries : List EntryValue) (peer sent : ℕ) (k : KeptValue) : Type 0 where
  pub sixteen : length k.desk.ledger.log.cursors ≡ MAX_SITES
  pub same : k.desk.ledger.log.entries ≡ entries
  pub counted : sent ≤ cursor k peer
  pub inside : cursor k peer ≤ length entries

-- what was written is read back
read_back : (xs : List ℕ) (s x : ℕ) → 1 ≤ s → s ≤ length xs → at_site (set_site xs s x) s 0 ≡ x
read_back xs s x low high =
    elim (at_set_site xs s s x 0 low high) [
      | inl p ↦ p.1
      | inr p ↦ absurd (p.0 refl)
    ]

-- one more
pub one_more : (entries : List EntryValue) (peer sent : ℕ) (k new : KeptValue) (message : MessageValue) → 1 ≤ peer
    → peer ≤ MAX_SITES
    → Published entries peer sent k → next_entry k peer ≡ Some message
    → new ≡ record k { desk = after_publish k.desk peer }
    → Published entries peer (sent + 1) new × (cursor new peer ≡ cursor k peer + 1)
    × (cursor k peer < length k.desk.ledger.log.entries)
one_more entries peer sent k new message low high so_far next is =
    let log : LogValue = k.desk.ledger.log in
    let log_is : new.desk.ledger.log ≡ published log peer =
    ap (λ (x : KeptValue). x.desk.ledger.log) is ∙ ap (λ (o : Option MessageValue). published_if log peer o) next in
    let cursors_are : new.desk.ledger.log.cursors ≡ set_site log.cursors peer (at_site log.cursors peer 0 + 1)
    = ap (λ (l : LogValue). l.cursors) log_is in
    let moved : cursor new peer ≡ cursor k peer + 1 =
    ap (λ (xs : List ℕ). at_site xs peer 0) cursors_are
    ∙ read_back log.cursors peer (at_site log.cursors peer 0 + 1) low (omega (arith, so_far.sixteen, high)) in
    let left : cursor k peer < length log.entries = within log.entries (cursor k peer) message next in (
      record {
        sixteen = ap length cursors_are
            ∙ (length-set_site log.cursors peer (at_site log.cursors peer 0 + 1) ∙ so_far.sixteen);
        same = ap (λ (l : LogValue). l.entries) log_is ∙ so_far.same;
        counted = omega (arith, moved, so_far.counted);
        inside = omega (arith, moved, left, ap length so_far.same);
      },
      moved,
      left,
    )
