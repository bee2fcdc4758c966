-- The effect of an arriving message on the world, by what the call that took it did to a desk or to a row of links.
use Rattle.std.proofs.Common.{◌≡◌, ℕ, false, List, Option, Some, None, Result, Ok, Err, refl, sym, ap, subst, ◌∙◌}
use Rattle.std.specs.Prelude.{◌≢◌, IsSome}
use Rattle.std.specs.Result.{IsErrAnd}
use Rattle.std.specs.List.{All, Contains}
use Rattle.rights_types.specs.Entries.{EntryValue}
use Rattle.rights_types.specs.Messages.{QueryValue, AskValue, DenyValue}
use Rattle.rights_types.specs.Messages.MessageValue.{AnAnswer}
use Rattle.rights_types.specs.Places.{at_site, set_site}
use Rattle.rights_types.proofs.Chains.{is_entry}
use Rattle.rights_protocol.specs.Lists.{IsSiteOf}
use Rattle.origin_log.specs.Answering.{answer_to_query}
use Rattle.origin_log.specs.Faults.{query_fault}
use Rattle.sub_buffer.specs.Follows.{Follows}
use Rattle.transfer_manager.specs.Managers.{ended}
use Rattle.transfer_manager.specs.declared.answer.AskAnswer.{AskAnswer}
use Rattle.transfer_manager.specs.declared.answer.AskAnswer.TheVariants.{Grant, Deny, RepeatedDeny, Repeated, OldAsk}
use Rattle.site_core.specs.Desks.{DeskValue}
use Rattle.site_core.specs.Calls.{answer_of, denial_of, DeskAnswers}
use Rattle.world_core.specs.Values.{LinkValue, PacketValue, WorldValue}
use Rattle.world_core.specs.Worlds.{count, desk, with_desk, log, link}
use Rattle.world_core.specs.LinkEvents.{SendsIf, LinkTakesAll, EntriesArrive, EntriesCome, heard, BeatComes}
use Rattle.world_core.specs.LinkEvents.{DenialComes, QueryComes, AskComesBy, AskComes}
use Rattle.world_core.specs.Sound.{LinkSound, IsWorld}
use Rattle.world_core.specs.declared.reply.EntryVerdict.{EntryVerdict}
use Rattle.world_core.specs.declared.reply.Reply.{Reply}
use Rattle.world_core.specs.declared.fault.WorldError.{WorldError}
use Rattle.world_core.specs.declared.fault.WorldError.TheVariants.{OutOfMemory}
use Rattle.world_core.specs.declared.reply.Reply.TheVariants.{Packet, HeardBeat, Granted, Denied, Noted}
use Rattle.world_core.proofs.EventPlaces.{Lent, with_at, unchanged, LentRow, with_row_at, relinked}

-- ---- entries

-- the link that the entries of o arrive at exists, and they are of its origin
pub entries_fit : (there w : WorldValue) (i s o : ℕ) (was : List (Option LinkValue)) (es : List EntryValue) → IsWorld w
    → IsSiteOf (count w) s → IsSiteOf (count w) o → s ≢ o → LentRow there w i s was → All (Contains (log w o)) es
    → (l : LinkValue) × (at_site was o None ≡ Some l) × All (λ (e : EntryValue). e.origin ≡ l.inbound.buffer.origin) es
entries_fit there w i s o was es is a b differ at all =
    let l = (is.sites s a).others o b differ in
    let sound : LinkSound w s o l.0 = is.links s o l.0 l.1 in (
      l.0,
      ap (λ r. at_site r o None) at.is ∙ l.1,
      λ k d lt. (is_entry o false 0 (log w o) _ (is.kept.sites o).chain (all k d lt)).1 ∙ sym sound.origin,
    )

pub link_there : (there w : WorldValue) (i s o : ℕ) (was : List (Option LinkValue)) → IsWorld w → IsSiteOf (count w) s
    → IsSiteOf (count w) o → s ≢ o → LentRow there w i s was → IsSome (at_site was o None)
link_there there w i s o was is a b differ at =
    let l = (is.sites s a).others o b differ in
    subst (λ x. IsSome x) (sym (ap (λ r. at_site r o None) at.is ∙ l.1)) refl

pub entries_arrive : (A : Type 0) (there w : WorldValue) (i s o : ℕ) (was now : List (Option LinkValue))
    (before after : LinkValue) (es : List EntryValue) (verdicts : List EntryVerdict) → IsWorld w
    → LentRow there w i s was → at_site was o None ≡ Some before → now ≡ set_site was o (Some after)
    → (Follows (log w o) before.reached before.put before.inbound.buffer
    → LinkTakesAll A (log w o) before es verdicts after)
    → EntriesArrive A w s o es verdicts (with_row_at there i now)
entries_arrive A there w i s o was now before after es verdicts is at found left takes =
    let is_there : link w s o ≡ Some before = sym (ap (λ r. at_site r o None) at.is) ∙ found in
    record {
      before = before;
      there = is_there;
      after = after;
      takes = takes (is.links s o before is_there).follows;
      left = relinked there w i s o was now after at left;
    }

-- only memory was lacking
pub entries_want : (A : Type 0) (old : WorldValue) (s o : ℕ) (es : List EntryValue)
    (outcome : Result (Reply A) WorldError)
    (new : WorldValue) → IsErrAnd outcome (λ e. e ≡ OutOfMemory) → new ≡ old
    → EntriesCome {A = A} old s o es outcome new
entries_want A old s o es (Ok reply) new is h = absurd is
entries_want A old s o es (Err e) new is h = subst (λ x. EntriesCome {A = A} old s o es (Err x) new) (sym is) h

-- ---- beats

pub beat_comes : (A : Type 0) (there w : WorldValue) (i s o number told : ℕ) (was now : List (Option LinkValue))
    (before : LinkValue) → LentRow there w i s was → told ≡ number → at_site was o None ≡ Some before
    → now ≡ set_site was o (Some (heard before told))
    → BeatComes {A = A} w s o number (Ok HeardBeat) (with_row_at there i now)
beat_comes A there w i s o number told was now before at same found left = (
  before,
  sym (ap (λ r. at_site r o None) at.is) ∙ found,
  relinked there w i s o was now (heard before number) at
      (left ∙ ap (λ n. set_site was o (Some (heard before n))) same),
)

-- ---- denials

pub denial_comes : (A : Type 0) (there w : WorldValue) (i s peer ask : ℕ) (was now : DeskValue) (d : DenyValue)
    → Lent there w i s was → peer ≡ d.denier → ask ≡ d.ask
    → now ≡ record was { manager = ended was.manager peer ask }
    → DenialComes {A = A} w s d (Ok Noted) (with_at there i now)
denial_comes A there w i s peer ask was now d at by of left =
    let noted : now ≡ record (desk w s) { manager = ended (desk w s).manager d.denier d.ask } =
    left ∙ ap (λ k. record was { manager = ended was.manager k ask }) by
    ∙ ap (λ k. record was { manager = ended was.manager d.denier k }) of
    ∙ ap (λ (x : DeskValue). record x { manager = ended x.manager d.denier d.ask }) at.is in
    at.changed now ∙ ap (with_desk w s) noted

-- ---- asks

-- the world as the code leaves it, with another desk at an index, and other packets
abbrev pub with_desk_at : WorldValue → ℕ → DeskValue → List PacketValue → WorldValue
with_desk_at w i d ps = record (with_at w i d) { packets = ps }

-- a desk that did not change, and no packet
pub desk_same : (there w : WorldValue) (i s : ℕ) (was d : DeskValue) (ps : List PacketValue) → Lent there w i s was
    → d ≡ was → ps ≡ there.packets → with_desk_at there i d ps ≡ w
desk_same there w i s was d ps at kept same =
    ap (λ qs. with_desk_at there i d qs) same ∙ unchanged there w i s was d at kept

-- the desk of s answers as the desk that was lent
pub answered : (A : Type 0) (there w : WorldValue) (i s : ℕ) (was : DeskValue) (ask : AskValue) (answer : AskAnswer)
    (outcome : Result (Reply A) WorldError) (new : WorldValue) → Lent there w i s was → answer ≡ answer_of was ask
    → AskComesBy {A = A} answer w s ask outcome new → AskComes {A = A} w s ask outcome new
answered A there w i s was ask answer outcome new at is h =
    subst (λ x. AskComesBy {A = A} x w s ask outcome new) (is ∙ ap (λ x. answer_of x ask) at.is) h

pub grants : (A : Type 0) (there w : WorldValue) (i s : ℕ) (was d : DeskValue) (ask : AskValue) (n number : ℕ)
    (ps : List PacketValue) → Lent there w i s was → DeskAnswers was ask (Grant n) (Some number) d → ps ≡ there.packets
    → AskComesBy {A = A} (Grant n) w s ask (Ok (Granted number)) (with_desk_at there i d ps)
grants A there w i s was d ask n number ps at h same = (
  d,
  subst (λ x. DeskAnswers x ask (Grant n) (Some number) d) at.is h,
  ap (λ qs. with_desk_at there i d qs) same ∙ at.changed d,
)

-- a packet with the denial was added
pub denies : (A : Type 0) (there w : WorldValue) (i s : ℕ) (was d : DeskValue) (ask : AskValue) (answer : AskAnswer)
    (told : Option ℕ) (number : ℕ) (new : WorldValue) → Lent there w i s was → DeskAnswers was ask answer told d
    → SendsIf {A = A} (with_desk w s d) s ask.asker (denial_of ask answer) (Ok (Packet number)) new
    → AskComesBy {A = A} answer w s ask (Ok (Denied number)) new
denies A there w i s was d ask (Grant n) told number new at h sent = absurd sent
denies A there w i s was d ask Repeated told number new at h sent = absurd sent
denies A there w i s was d ask OldAsk told number new at h sent = absurd sent
denies A there w i s was d ask Deny told number new at h sent =
    (d, subst (λ x. DeskAnswers x ask Deny None d) at.is (refl, h.1), sent)
denies A there w i s was d ask RepeatedDeny told number new at h sent =
    (d, subst (λ x. DeskAnswers x ask RepeatedDeny None d) at.is (refl, h.1), sent)

-- only memory was lacking
wants_by : (A : Type 0) (old : WorldValue) (s : ℕ) (ask : AskValue) (answer : AskAnswer) (new : WorldValue) → new ≡ old
    → AskComesBy {A = A} answer old s ask (Err OutOfMemory) new
wants_by A old s ask (Grant n) new h = h
wants_by A old s ask Deny new h = h
wants_by A old s ask RepeatedDeny new h = h
wants_by A old s ask Repeated new h = h
wants_by A old s ask OldAsk new h = h

pub wants_memory : (A : Type 0) (old : WorldValue) (s : ℕ) (ask : AskValue) (outcome : Result (Reply A) WorldError)
    (new : WorldValue) → IsErrAnd outcome (λ e. e ≡ OutOfMemory) → new ≡ old
    → AskComes {A = A} old s ask outcome new
wants_memory A old s ask (Ok reply) new is h = absurd is
wants_memory A old s ask (Err e) new is h =
    subst (λ x. AskComes {A = A} old s ask (Err x) new) (sym is)
    (wants_by A old s ask (answer_of (desk old s) ask) new h)

-- ---- queries

-- the desk of s answers the query as the desk that was lent, and a packet with the answer was added
pub answers : (A : Type 0) (there w : WorldValue) (i s : ℕ) (was : DeskValue) (q : QueryValue) (number : ℕ)
    (new : WorldValue) → Lent there w i s was → query_fault was.ledger.log q ≡ None
    → SendsIf {A = A} w s q.asker (Some (AnAnswer (answer_to_query q was.ledger.log))) (Ok (Packet number)) new
    → QueryComes {A = A} w s q (Ok (Packet number)) new
answers A there w i s was q number new at none sent =
    let sends : DeskValue → Type 0 =
    λ d. SendsIf {A = A} w s q.asker (Some (AnAnswer (answer_to_query q d.ledger.log))) (Ok (Packet number)) new in
    let clear : query_fault (desk w s).ledger.log q ≡ None =
    subst (λ (d : DeskValue). query_fault d.ledger.log q ≡ None) at.is none in
    rw clear (subst sends at.is sent)
