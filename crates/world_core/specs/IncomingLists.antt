-- How a link stores its lists, and their capacity.
use Rattle.std.specs.Prelude.{◌≡◌, Bool, true, false, ℕ, ◌+◌, ◌*◌, ◌≤◌, max, List, [], ◌∷◌, ◌++◌, length, take, Option}
use Rattle.std.specs.Prelude.{Some, None, IfSome, vec_capacity}
use Rattle.std.specs.Option.{option_map}
use Rattle.rights_types.specs.Entries.{EntryValue, own}
use Rattle.rights_types.specs.declared.limits.TheConstants.{MAX_HELD}
use Rattle.sub_buffer.specs.Arrivals.{Arrives}
use Rattle.sub_buffer.specs.Follows.{put_after, reached_after}
use Rattle.sub_buffer.specs.declared.verdict.Verdict.{Verdict as BufferVerdict}
use Rattle.world_core.specs.Values.{LinkValue}
use Rattle.world_core.specs.LinkEvents.{reported_all}
use Rattle.world_core.specs.declared.link.incoming.Incoming.{Incoming}
use Rattle.world_core.specs.declared.link.incoming.Scratch.{Scratch}
use Rattle.world_core.specs.declared.reply.EntryVerdict.{EntryVerdict}

-- what reached a site: the separate list, or what was delivered, if nothing arrived out of order
abbrev pub reached_by : {V : Type 0} → (V → List EntryValue) → Option V → List EntryValue → List EntryValue
reached_by items None put = put
reached_by items (Some apart) put = items apart

-- if entries are kept for readers, what reached a site is in its lists; else it is only ghost state
abbrev pub reached_in : {A K : Type 0} → Bool → Incoming A K → List EntryValue
reached_in true i = reached_by (λ v. v.items) i.apart i.put.items
reached_in false i = i.seen.items

-- the delivered entries that were dropped; none if entries are kept for readers
abbrev pub gone_in : {A K : Type 0} → Bool → Incoming A K → List EntryValue
gone_in true i = []
gone_in false i = i.gone.items

abbrev pub put_in : {A K : Type 0} → Bool → Incoming A K → List EntryValue
put_in keeps i = gone_in keeps i ++ i.put.items

-- a link of these parts, given how many of the delivered entries that are still stored were applied
abbrev pub link_of : {A K : Type 0} → Bool → Incoming A K → ℕ → LinkValue
link_of keeps i applied = record {
  inbound = i.inbound;
  reached = reached_in keeps i;
  put = put_in keeps i;
  applied = gone_in keeps i ++ take applied i.put.items;
}

-- of every link: the applied entries are among the delivered ones that are stored, and at most 64 entries are held
pub record IsIncoming {A K : Type 0} (i : Incoming A K) (applied : ℕ) : Type 0 where
  pub within : applied ≤ length i.put.items
  pub few : length i.inbound.buffer.held ≤ MAX_HELD

-- no entry begins after both the number n and the ends of the entries before it
abbrev pub NoneAhead : ℕ → List EntryValue → Type 0
NoneAhead n [] = Unit {0}
NoneAhead n (e ∷ es) = (e.prev ≤ n) × NoneAhead (max n (own e)) es

-- memory for n more entries, and for the verdicts on them: each that arrives can be held and later freed, except the
-- last
pub record HasRoom {A K : Type 0} (n : ℕ) (i : Incoming A K) (s : Scratch A) : Type 0 where
  pub put : length i.put.items + length i.inbound.buffer.held + n ≤ vec_capacity i.put
  pub apart : IfSome i.apart (λ v. length v.items + n ≤ vec_capacity v)
  pub verdicts : length i.inbound.buffer.held + n ≤ vec_capacity s.verdicts
  pub reported : length s.reported.items + length i.inbound.buffer.held + 2 * n ≤ vec_capacity s.reported + 1

-- only the capacity changed, and whether what reached the site is a separate list
pub record SameLists {A K : Type 0} (old new : Incoming A K) : Type 0 where
  pub inbound : new.inbound ≡ old.inbound
  pub gone : new.gone.items ≡ old.gone.items
  pub put : new.put.items ≡ old.put.items
  pub reached : (keeps : Bool) → reached_in keeps new ≡ reached_in keeps old

-- an entry arrived: the verdict v on it, and Ready for the held entries that it freed, are appended to the verdicts
-- before
pub record IncomingTakes {A K : Type 0} (old : Incoming A K) (before : List EntryVerdict) (e : EntryValue)
    (v : BufferVerdict A) (freed : List EntryValue) (new : Incoming A K) (after : List EntryVerdict) : Type 0 where
  pub arrives : Arrives old.inbound.buffer e v freed new.inbound.buffer
  pub inbound : new.inbound ≡ record old.inbound { buffer = new.inbound.buffer }
  pub gone : new.gone.items ≡ old.gone.items
  pub put : new.put.items ≡ put_after old.put.items v ++ freed
  pub seen : new.seen.items ≡ reached_after old.seen.items e v
  pub apart : option_map (λ l. l.items) new.apart ≡ option_map (λ l. reached_after l.items e v) old.apart
  pub reported : after ≡ before ++ reported_all v freed
