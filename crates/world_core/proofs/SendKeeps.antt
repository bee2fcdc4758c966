-- Lines that are sent preserve the invariant of the world.
use Rattle.std.proofs.Common.{◌≡◌, ◌≢◌, ℕ, ◌<◌, inl, inr, Bool, true, false, List, [], ◌∷◌, ◌++◌, length, arith, refl}
use Rattle.std.proofs.Common.{sym, ap, ◌∙◌, subst, Option, Some, None, Result, Ok, Err}
use Rattle.std.specs.Prelude.{IfSome}
use Rattle.std.specs.List.{All, slice_get}
use Rattle.std.specs.Option.{option_map}
use Rattle.std.proofs.lemmas.List.Elements.{All-push}
use Rattle.std.proofs.lemmas.Option.{slice_get_within}
use Rattle.rights_types.specs.Entries.{EntryValue}
use Rattle.rights_types.specs.Places.{at_site}
use Rattle.rights_types.specs.Messages.{AskValue, MessageValue, QueryValue}
use Rattle.rights_types.specs.Messages.MessageValue.{AQuery, AnAsk}
use Rattle.rights_protocol.specs.Lists.{IsSiteOf}
use Rattle.origin_log.specs.Logs.{LogValue}
use Rattle.sub_buffer.specs.Buffers.{BufferValue}
use Rattle.sub_buffer.specs.Gaps.{GapOf}
use Rattle.site_core.specs.Desks.{DeskValue}
use Rattle.site_core.specs.Calls.{next_push, published_if, after_publish, beat_of}
use Rattle.inbound.specs.Inbounds.{Asks}
use Rattle.world_core.specs.Values.{PacketValue, WorldValue}
use Rattle.world_core.specs.Values.BodyValue.{EntryAt, Text}
use Rattle.world_core.specs.Worlds.{count, desk, with_desk, log, lists_of, with_packet, ended}
use Rattle.world_core.specs.Faults.{link_fault}
use Rattle.world_core.specs.LinkEvents.{Sends, SendsIf, AskHappens, BeatHappens, Publishes, PublishHappens, Asked}
use Rattle.world_core.specs.LinkEvents.{QueryHappens}
use Rattle.world_core.specs.Sound.{SiteSound, LinkSound, IsSaid, IsSent, IsWorld}
use Rattle.world_core.specs.declared.reply.Reply.{Reply}
use Rattle.world_core.specs.declared.reply.Reply.TheVariants.{Packet, Nothing}
use Rattle.world_core.specs.declared.fault.WorldError.{WorldError}
use Rattle.world_core.specs.declared.fault.WorldError.TheVariants.{OutOfMemory}
use Rattle.world_core.proofs.WorldGoesOn.{stay, WorldGoesOn, unchanged, goes_then}
use Rattle.world_core.proofs.EventPlaces.{link_known}
use Rattle.world_core.proofs.DeskKeeps.{LogsGoOn, link_goes_on, all_sent_go_on, desk_there, same_count, published}
use Rattle.world_core.proofs.LinkKeeps.{logs_stay, asked_keeps}

-- ---- places

-- both ends of a link
pub record Ends (w : WorldValue) (s o : ℕ) : Type 0 where
  pub site : IsSiteOf (count w) s
  pub from : IsSiteOf (count w) o
  pub differ : o ≢ s

pub ends_known : (w : WorldValue) (s o : ℕ) → link_fault w s o ≡ None → Ends w s o
ends_known w s o h =
    let known = link_known w s o h in
    record { site = known.0; from = known.1; differ = λ e. known.2 (sym e) }

-- ---- packets

-- the same desks and links, with packets that were sent
parts_keep : (w : WorldValue) (packets : List PacketValue) (over : Bool) → IsWorld w → All (IsSent w) packets
    → WorldGoesOn w (record w { packets = packets; ended = over })
parts_keep w packets over is sent =
    let new : WorldValue = record w { packets = packets; ended = over } in
    let logs : LogsGoOn w new = logs_stay w new is refl (λ o. refl) in
    record {
      is = record {
        kept = is.kept;
        rows = is.rows;
        sites = λ s site.
            let x : SiteSound w s = is.sites s site in
            record {
              me = x.me;
              manager = x.manager;
              system = x.system;
              sound = x.sound;
              applied = x.applied;
              width = x.width;
              itself = x.itself;
              others = x.others;
            };
        links = λ s o l at. link_goes_on w new s o l logs (is.links s o l at);
        native = is.native;
        sent = all_sent_go_on w new packets logs sent;
      };
      refines = ([], stay (lists_of w));
    }

pub ended_world : (w : WorldValue) → IsWorld w → WorldGoesOn w (ended w)
ended_world w is = parts_keep w w.packets true is is.sent

pub sent_keeps : (w : WorldValue) (p : PacketValue) → IsWorld w → IsSent w p → WorldGoesOn w (with_packet w p)
sent_keeps w p is h = parts_keep w (w.packets ++ p ∷ []) w.ended is (All-push (IsSent w) w.packets p is.sent h)

-- the message that was sent
pub sends_keep : (w new : WorldValue) (s p : ℕ) (m : MessageValue) (number : ℕ) → IsWorld w → Ends w s p
    → IsSaid w s p m → Sends w s p m number new → WorldGoesOn w new
sends_keep w new s p m number is ends said h =
    let packet : PacketValue = record { from = s; to = p; body = Text h.text } in
    let sent : IsSent w packet =
    record { from = ends.site; to = ends.from; differ = ends.differ; said = (m, h.spelled, said) } in
    subst (WorldGoesOn w) (sym h.left) (sent_keeps w packet is sent)

pub sends_if_keeps : {A : Type 0} (w new : WorldValue) (s p : ℕ) (m : Option MessageValue)
    (outcome : Result (Reply A) WorldError) → IsWorld w → Ends w s p
    → IfSome m (λ x. IsSaid w s p x) → SendsIf w s p m outcome new → WorldGoesOn w new
sends_if_keeps w new s p None (Ok Nothing) is ends said h = subst (WorldGoesOn w) (sym h) (unchanged w is)
sends_if_keeps w new s p (Some m) (Ok (Packet number)) is ends said h = sends_keep w new s p m number is ends said h
sends_if_keeps w new s p m (Err OutOfMemory) is ends said h = subst (WorldGoesOn w) (sym h) (unchanged w is)
sends_if_keeps w new s p m outcome is ends said h = absurd h

-- ---- asks and beats

abbrev ask_of : ℕ → ℕ → ℕ → ℕ → AskValue
ask_of me p number n = record { asker = me; asked = p; ask = number; amount = n }

asks_said : (w : WorldValue) (s p me number : ℕ) (amount : Option ℕ) → me ≡ s
    → IfSome (option_map (λ ask. AnAsk ask) (option_map (ask_of me p number) amount)) (λ x. IsSaid w s p x)
asks_said w s p me number None same = tt
asks_said w s p me number (Some n) same = (same, refl)

pub ask_keeps : {A : Type 0} (w new : WorldValue) (s p : ℕ) (outcome : Result (Reply A) WorldError) → IsWorld w
    → Ends w s p → AskHappens w s p outcome new → WorldGoesOn w new
ask_keeps w new s p outcome is ends h =
    sends_if_keeps w new s p _ outcome is ends
    (asks_said w s p (desk w s).manager.me _ _ (is.sites s ends.site).manager) h

pub beat_event_keeps : {A : Type 0} (w new : WorldValue) (s p : ℕ) (outcome : Result (Reply A) WorldError) → IsWorld w
    → Ends w s p → BeatHappens w s p outcome new → WorldGoesOn w new
beat_event_keeps w new s p outcome is ends h =
    sends_if_keeps w new s p (Some (beat_of (desk w s).ledger.log)) outcome is ends
    ((is.sites s ends.site).me, omega arith) h

-- ---- queries

-- the query asks for the gap
asked_gap : (again : Bool) (gap asked q : Option QueryValue) → Asks again gap asked q → IfSome q (λ x. gap ≡ Some x)
asked_gap true gap asked None h = tt
asked_gap true gap asked (Some q) h = sym h
asked_gap false gap asked None h = tt
asked_gap false gap asked (Some q) h = h.0

-- and it names both sites
query_said : (w : WorldValue) (s o : ℕ) (b : BufferValue) (gap q : Option QueryValue) → b.me ≡ s → b.origin ≡ o
    → GapOf b gap → IfSome q (λ x. gap ≡ Some x)
    → IfSome (option_map (λ x. AQuery x) q) (λ x. IsSaid w s o x)
query_said w s o b gap None me origin is h = tt
query_said w s o b gap (Some q) me origin is h =
    let asks = (subst (GapOf b) h is).3 in (asks.asker ∙ me, asks.origin ∙ origin)

asked_said : (w : WorldValue) (s o : ℕ) (again : Bool) (q : Option QueryValue) (new : WorldValue) → IsWorld w
    → (h : Asked w s o again q new) → IfSome (option_map (λ x. AQuery x) q) (λ x. IsSaid new s o x)
asked_said w s o again q new is h =
    let sound : LinkSound w s o h.before = is.links s o h.before h.there in
    query_said new s o h.before.inbound.buffer h.asks.gap q sound.me sound.origin h.asks.by_table
    (asked_gap again h.asks.gap h.before.inbound.buffer.asked q h.asks.asks)

query_sent : {A : Type 0} (w new : WorldValue) (s o : ℕ) (again : Bool) (outcome : Result (Reply A) WorldError)
    (q : Option QueryValue) (asked : WorldValue) → IsWorld w → Ends w s o
    → Asked w s o again q asked → SendsIf asked s o (option_map (λ x. AQuery x) q) outcome new → WorldGoesOn w new
query_sent w new s o again outcome q asked is ends h sends =
    let same : count asked ≡ count w = ap count h.left in
    let there : Ends asked s o = record {
      site = subst (λ n. IsSiteOf n s) (sym same) ends.site;
      from = subst (λ n. IsSiteOf n o) (sym same) ends.from;
      differ = ends.differ;
    } in
    let by : WorldGoesOn w asked = asked_keeps w asked s o again q is ends.site ends.from h in
    goes_then w asked new by
    (sends_if_keeps asked new s o _ outcome by.is there (asked_said w s o again q asked is h) sends)

pub query_keeps : {A : Type 0} (w new : WorldValue) (s o : ℕ) (again : Bool) (outcome : Result (Reply A) WorldError)
    → IsWorld w → Ends w s o → QueryHappens w s o again outcome new → WorldGoesOn w new
query_keeps w new s o again (Err OutOfMemory) is ends h = elim h [
  | inl same ↦ subst (WorldGoesOn w) (sym same) (unchanged w is)
  | inr p ↦ asked_keeps w new s o again p.0 is ends.site ends.from p.1
]
query_keeps w new s o again outcome is ends h = query_sent w new s o again outcome h.0 h.1 is ends h.2 h.3

-- ---- entries that are published

-- what is published preserves the log's entries
published_entries : (l : LogValue) (p : ℕ) (m : Option MessageValue) → (published_if l p m).entries ≡ l.entries
published_entries l p None = refl
published_entries l p (Some m) = refl

-- the next entry for a peer is in the log
next_within : (es : List EntryValue) (cursor place : ℕ) (next : Option EntryValue) → slice_get es cursor ≡ next
    → option_map (λ (e : EntryValue). cursor) next ≡ Some place → place < length es
next_within es cursor place None at h = absurd cc
next_within es cursor place (Some e) at h =
    let same : cursor ≡ place = cc in omega (arith, slice_get_within es cursor e at, same)

publishes_keep : (w new : WorldValue) (s p place number : ℕ) → IsWorld w → Ends w s p
    → Publishes w s p place number new → WorldGoesOn w new
publishes_keep w new s p place number is ends h =
    let d : DeskValue = after_publish (desk w s) p in
    let mid : WorldValue = with_desk w s d in
    let sites : count mid ≡ count w = same_count w s d in
    let l : LogValue = (desk w s).ledger.log in
    let entries : log mid s ≡ log w s =
    ap (λ (x : DeskValue). x.ledger.log.entries) (desk_there w s d ends.site) ∙ published_entries l p (next_push l p) in
    let within : place < length (log w s) = next_within l.entries (at_site l.cursors p 0) place _ refl h.next in
    let longer : length (log mid s) ≡ length (log w s) = ap length entries in
    let packet : PacketValue = record { from = s; to = p; body = EntryAt place } in
    let by : WorldGoesOn w mid = published w s p is ends.site in
    subst (WorldGoesOn w) (sym h.left) (goes_then w mid (with_packet mid packet) by
    (sent_keeps mid packet by.is (record {
      from = subst (λ n. IsSiteOf n s) (sym sites) ends.site;
      to = subst (λ n. IsSiteOf n p) (sym sites) ends.from;
      differ = ends.differ;
      said = omega (arith, within, longer);
    })))

pub publish_keeps : {A : Type 0} (w new : WorldValue) (s p : ℕ) (outcome : Result (Reply A) WorldError) → IsWorld w
    → Ends w s p → PublishHappens w s p outcome new → WorldGoesOn w new
publish_keeps w new s p (Ok Nothing) is ends h = subst (WorldGoesOn w) (sym h.1) (unchanged w is)
publish_keeps w new s p (Ok (Packet number)) is ends h = publishes_keep w new s p h.0 number is ends h.1
publish_keeps w new s p (Err OutOfMemory) is ends h = subst (WorldGoesOn w) (sym h) (unchanged w is)
publish_keeps w new s p outcome is ends h = absurd h
