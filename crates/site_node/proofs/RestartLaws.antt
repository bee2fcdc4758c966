-- What a site remembers that starts again from its journal.
use Rattle.std.proofs.Common.{◌≡◌, ◌∙◌, ℕ, zero, suc, Bool, true, false, List, [], ◌∷◌, map, Option, Some, refl, sym, ap, subst, arith}
use Rattle.std.specs.Prelude.{nat_lt}
use Rattle.std.specs.List.{All, Contains}
use Rattle.std.proofs.lemmas.Bool.{ltb-false}
use Rattle.std.proofs.lemmas.List.Elements.{All-head, All-tail}
use Rattle.rights_types.specs.Entries.{EntryValue, own}
use Rattle.rights_types.specs.Chains.{IsChain}
use Rattle.rights_protocol.specs.Crashes.{lists_of}
use Rattle.command_keys.specs.Last.{last_of}
use Rattle.command_keys.specs.Keys.{KeysValue, IsOnce}
use Rattle.command_keys.specs.declared.outcome.Effect.{Effect}
use Rattle.command_keys.specs.declared.outcome.Written.{Written}
use Rattle.command_keys.proofs.Distinct.{map-last_of}
use Rattle.site_records.specs.KeyRecords.{effect_in, effect_of as effect_of_moves, numbered, IsEntryOf}
use Rattle.site_records.proofs.EffectLaws.{effect_of_own}
use Rattle.site_records.proofs.KeyLaws.{records_make_keys, keys_once}
use Rattle.apply_lanes.specs.Names.{DeskId}
use Rattle.apply_lanes.specs.Kepts.{KeptValue, IsKept}
use Rattle.apply_lanes.proofs.StepLaws.{protocol_of}
use Rattle.site_node.specs.Remembering.{deed, seen, recorded, Remembers, StartsKeys, StartsFrom, StartsRemember}

-- a number, and what the entry of this log did that has it
abbrev looked_up : List EntryValue → ℕ → ℕ × Option Effect
looked_up log n = (n, effect_in log n)

abbrev looked : List EntryValue → List ℕ × ℕ → List ℕ × (ℕ × Option Effect)
looked log e = (e.0, looked_up log e.1)

-- what is remembered is what the entries of the log did
seen_are : (log : List EntryValue) (es : List (List ℕ × Written)) → All (IsEntryOf log) es
    → map seen es ≡ map (looked log) (map numbered es)
seen_are log [] h = refl
seen_are log (e ∷ es) h =
    let one : effect_in log e.1.number ≡ Some e.1.effect = All-head (IsEntryOf log) e es h in
    λ i. (e.0, (e.1.number, sym one i)) ∷ seen_are log es (All-tail (IsEntryOf log) e es h) i

-- .. and so is what was written
deeds_are : (o : ℕ) (log : List EntryValue) (ws : List (List ℕ × EntryValue)) → IsChain o log
    → All (λ w. Contains log w.1) ws → map (looked log) (map recorded ws) ≡ map deed ws
deeds_are o log [] c h = refl
deeds_are o log (w ∷ ws) c h =
    let one : effect_in log (own w.1) ≡ effect_of_moves w.1.moves
    = effect_of_own o log w.1 c (All-head (λ (v : List ℕ × EntryValue). Contains log v.1) w ws h) in
    λ i. (w.0, (own w.1, one i))
    ∷ deeds_are o log ws c (All-tail (λ (v : List ℕ × EntryValue). Contains log v.1) w ws h) i

-- the log is that of the records
same_log : (id : DeskId) (was new : KeptValue) → IsKept id was → IsKept id new → new.records ≡ was.records
    → was.desk.ledger.log.entries ≡ new.desk.ledger.log.entries
same_log id was new before after same =
    before.protocol.log ∙ ap (λ rs. (lists_of id.site rs).log) (sym same) ∙ sym after.protocol.log

none_put : {V : Type 0} (cap : ℕ) (es : List (List ℕ × V)) → cap ≡ 0 → [] ≡ last_of cap es
none_put zero es none = refl
none_put (suc n) es none = absurd (omega (arith, none))

module _ (id : DeskId) (writes : List (List ℕ × EntryValue)) (was new : KeptValue) (is : Remembers writes was)
    (h : StartsFrom id writes was new) where
  own_again : All (λ w. Contains new.desk.ledger.log.entries w.1) writes
  own_again = subst (λ es. All (λ w. Contains es w.1) writes) (same_log id was new h.before h.after h.records) is.own_entries

  by_keys : (takes : Bool) → nat_lt 0 new.keys.keys.cap ≡ takes
      → StartsKeys takes new.desk.ledger.log.entries h.lines new.keys.keys → Remembers writes new
  by_keys false none keys = record {
    last = ap (λ (k : KeysValue). map seen k.written) keys
        ∙ none_put new.keys.keys.cap (map deed writes) (omega (arith, ltb-false 0 new.keys.keys.cap none));
    once = subst IsOnce (sym keys) (λ key. omega arith);
    own_entries = own_again;
  }
  by_keys true some keys =
      let log : List EntryValue = new.desk.ledger.log.entries in
      let cap : ℕ = new.keys.keys.cap in
      let made = records_make_keys log cap h.lines new.keys.keys keys in
      record {
        last = seen_are log new.keys.keys.written made.entries
            ∙ ap (map (looked log)) (made.last ∙ ap (last_of cap) h.said)
            ∙ map-last_of (looked_up log) cap (map recorded writes)
            ∙ ap (last_of cap)
            (deeds_are id.site log writes (protocol_of id new h.after).chain own_again);
        once = keys_once log cap h.lines new.keys.keys keys;
        own_entries = own_again;
      }

pub starts_remember : StartsRemember
starts_remember id writes was new is h = by_keys id writes was new is h (nat_lt 0 new.keys.keys.cap) refl h.keys
