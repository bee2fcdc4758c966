-- Packets that arrive preserve the invariant of the world.
use Rattle.std.proofs.Common.{◌≡◌, ℕ, ◌-◌, ◌<◌, Bool, true, false, cond, eqb, List, [], ◌∷◌, length, refl, sym, ◌∙◌}
use Rattle.std.proofs.Common.{subst, Option, Some, None, Result, Ok, Err}
use Rattle.std.specs.Prelude.{MatchOption}
use Rattle.std.specs.List.{All, Contains, filter, slice_get}
use Rattle.std.proofs.lemmas.Bool.{eqb-true}
use Rattle.std.proofs.lemmas.List.Elements.{All-nil, All-cons, All-contains, All-contains_itself, All-filter, All-take}
use Rattle.std.proofs.lemmas.Option.{get_or_from_slice_get, slice_get_within, slice_get-get_or}
use Rattle.rights_types.specs.Entries.{EntryValue}
use Rattle.rights_types.specs.Messages.{MessageValue, QueryValue, AskValue, DenyValue}
use Rattle.rights_types.specs.Messages.MessageValue.{AnEntry, AQuery, AnAnswer, ABeat, AnAsk, ADenial, AHello}
use Rattle.rights_types.specs.declared.limits.TheConstants.{MAX_ANSWER}
use Rattle.rights_types.proofs.Chains.{is_entry}
use Rattle.rights_protocol.specs.Lists.{IsSiteOf}
use Rattle.entry_codec.specs.Spelling.{Spells}
use Rattle.entry_codec.proofs.Lines.{is_once}
use Rattle.origin_log.specs.Answering.{holds_any, entries_asked, answer_to_query}
use Rattle.origin_log.specs.Faults.{query_fault}
use Rattle.origin_log.specs.declared.fault.ReadError.{ReadError}
use Rattle.transfer_manager.specs.declared.answer.AskAnswer.{AskAnswer}
use Rattle.transfer_manager.specs.declared.answer.AskAnswer.TheVariants.{Grant, Deny, RepeatedDeny, Repeated, OldAsk}
use Rattle.site_core.specs.Calls.{answer_of, denial}
use Rattle.world_core.specs.Values.{BodyValue, PacketValue, WorldValue}
use Rattle.world_core.specs.Values.BodyValue.{EntryAt, Text}
use Rattle.world_core.specs.Worlds.{count, desk, with_desk, log, line_of, packet, body_text}
use Rattle.world_core.specs.Faults.{is_site, delivery_fault, arrive_fault}
use Rattle.world_core.specs.LinkEvents.{SendsIf, EntriesCome, BeatComes, Denies, AskComesBy, DenialComes, MessageComes}
use Rattle.world_core.specs.LinkEvents.{PacketComes}
use Rattle.world_core.specs.Sound.{IsSaid, MayCome, IsBody, IsSent, IsWorld}
use Rattle.world_core.specs.declared.reply.Reply.{Reply}
use Rattle.world_core.specs.declared.reply.Reply.TheVariants.{Verdicts, HeardBeat, Granted, Denied, GrantedBefore, Old}
use Rattle.world_core.specs.declared.reply.Reply.TheVariants.{Noted, Nothing}
use Rattle.world_core.specs.declared.fault.WorldError.{WorldError}
use Rattle.world_core.specs.declared.fault.WorldError.TheVariants.{NotForSite, NoSuchSite, OutOfMemory}
use Rattle.world_core.proofs.WorldGoesOn.{WorldGoesOn, unchanged, goes_then}
use Rattle.world_core.proofs.DeskKeeps.{same_count, answered, ask_denied}
use Rattle.world_core.proofs.LinkKeeps.{beat_keeps, entries_keep}
use Rattle.world_core.proofs.EventPlaces.{site_is, no_other}
use Rattle.world_core.proofs.SendKeeps.{Ends, sends_keep, sends_if_keeps}

-- ---- what a message brings

entries_come : {A : Type 0} (w new : WorldValue) (s o : ℕ) (entries : List EntryValue)
    (outcome : Result (Reply A) WorldError) → IsWorld w → Ends w s o → All (Contains (log w o)) entries
    → EntriesCome w s o entries outcome new → WorldGoesOn w new
entries_come {A} w new s o entries (Ok (Verdicts verdicts)) is ends has h =
    entries_keep A w new s o entries verdicts is ends.site ends.from has h
entries_come w new s o entries (Err OutOfMemory) is ends has h = subst (WorldGoesOn w) (sym h) (unchanged w is)
entries_come w new s o entries outcome is ends has h = absurd h

beat_comes : {A : Type 0} (w new : WorldValue) (s o number : ℕ) (outcome : Result (Reply A) WorldError) → IsWorld w
    → Ends w s o → BeatComes w s o number outcome new → WorldGoesOn w new
beat_comes w new s o number (Ok HeardBeat) is ends h =
    subst (WorldGoesOn w) (sym h.2) (beat_keeps w s o number h.0 is ends.site ends.from h.1)
beat_comes w new s o number outcome is ends h = absurd h

-- an answer has only entries of the log
asked_within : (es : List EntryValue) (first last : ℕ) → All (Contains es) (entries_asked es first last)
unfolding entries_asked
asked_within es first last =
    All-take (Contains es) MAX_ANSWER (filter (holds_any first last) es)
    (All-filter (holds_any first last) (Contains es) es (All-contains_itself es))

answer_or : {A : Type 0} (w new : WorldValue) (s : ℕ) (q : QueryValue) (outcome : Result (Reply A) WorldError)
    (fault : Option ReadError) → IsWorld w → Ends w s q.asker
    → MatchOption fault (SendsIf w s q.asker (Some (AnAnswer (answer_to_query q (desk w s).ledger.log))) outcome new)
    (λ f. (outcome ≡ Ok Nothing) × (new ≡ w)) → WorldGoesOn w new
answer_or w new s q outcome None is ends h =
    sends_if_keeps w new s q.asker (Some (AnAnswer (answer_to_query q (desk w s).ledger.log))) outcome is ends
    ((is.sites s ends.site).me, refl, asked_within (log w s) q.first q.last) h
answer_or w new s q outcome (Some fault) is ends h = subst (WorldGoesOn w) (sym h.1) (unchanged w is)

-- ---- asks and denials

denies_keep : (w new : WorldValue) (s o : ℕ) (ask : AskValue) (answer : AskAnswer) (number : ℕ) → IsWorld w
    → Ends w s o → ask.asker ≡ o → ask.asked ≡ s → answer_of (desk w s) ask ≡ answer → Denies w s ask answer number new
    → WorldGoesOn w new
denies_keep w new s o ask answer number is ends asker asked answers h =
    let sites : count (with_desk w s h.0) ≡ count w = same_count w s h.0 in
    let there : Ends (with_desk w s h.0) s ask.asker = record {
      site = subst (λ n. IsSiteOf n s) (sym sites) ends.site;
      from = subst (λ n. IsSiteOf n ask.asker) (sym sites) (subst (IsSiteOf (count w)) (sym asker) ends.from);
      differ = λ e. ends.differ (sym asker ∙ e);
    } in
    let by : WorldGoesOn w (with_desk w s h.0) =
    answered w s ask answer None h.0 is ends.site (subst (IsSiteOf (count w)) (sym asker) ends.from)
    (λ e. ends.differ (sym asker ∙ e)) answers h.1 in
    goes_then w (with_desk w s h.0) new by
    (sends_keep (with_desk w s h.0) new s ask.asker (ADenial (denial ask)) number by.is there (asked, refl) h.2)

ask_comes : {A : Type 0} (answer : AskAnswer) (w new : WorldValue) (s o : ℕ) (ask : AskValue)
    (outcome : Result (Reply A) WorldError) → IsWorld w → Ends w s o → ask.asker ≡ o → ask.asked ≡ s
    → answer_of (desk w s) ask ≡ answer → AskComesBy answer w s ask outcome new → WorldGoesOn w new
ask_comes (Grant n) w new s o ask (Ok (Granted number)) is ends asker asked answers h =
    subst (WorldGoesOn w) (sym h.2)
    (answered w s ask (Grant n) (Some number) h.0 is ends.site (subst (IsSiteOf (count w)) (sym asker) ends.from)
    (λ e. ends.differ (sym asker ∙ e)) answers h.1)
ask_comes Deny w new s o ask (Ok (Denied number)) is ends asker asked answers h =
    denies_keep w new s o ask Deny number is ends asker asked answers h
ask_comes RepeatedDeny w new s o ask (Ok (Denied number)) is ends asker asked answers h =
    denies_keep w new s o ask RepeatedDeny number is ends asker asked answers h
ask_comes Repeated w new s o ask (Ok GrantedBefore) is ends asker asked answers h =
    subst (WorldGoesOn w) (sym h) (unchanged w is)
ask_comes OldAsk w new s o ask (Ok Old) is ends asker asked answers h = subst (WorldGoesOn w) (sym h) (unchanged w is)
ask_comes answer w new s o ask (Err OutOfMemory) is ends asker asked answers h =
    subst (WorldGoesOn w) (sym h) (unchanged w is)
ask_comes answer w new s o ask outcome is ends asker asked answers h = absurd h

denial_comes : {A : Type 0} (w new : WorldValue) (s : ℕ) (d : DenyValue) (outcome : Result (Reply A) WorldError)
    → IsWorld w → IsSiteOf (count w) s → DenialComes w s d outcome new → WorldGoesOn w new
denial_comes w new s d (Ok Noted) is site h = subst (WorldGoesOn w) (sym h) (ask_denied w s d.denier d.ask is site)
denial_comes w new s d outcome is site h = absurd h

-- ---- any message

message_keeps : {A : Type 0} (w new : WorldValue) (s o : ℕ) (m : MessageValue) (outcome : Result (Reply A) WorldError)
    → IsWorld w → Ends w s o → MayCome w o s m → MessageComes w s o m outcome new
    → WorldGoesOn w new
message_keeps w new s o (AnEntry e) outcome is ends may h =
    entries_come w new s o (e ∷ []) outcome is ends
    (All-cons (Contains (log w o)) e [] may (All-nil (Contains (log w o)))) h
message_keeps w new s o (AnAnswer a) outcome is ends may h = entries_come w new s o a.entries outcome is ends may.2 h
message_keeps w new s o (ABeat b) outcome is ends may h = beat_comes w new s o b.number outcome is ends h
message_keeps w new s o (AQuery q) outcome is ends may h =
    answer_or w new s q outcome (query_fault (desk w s).ledger.log q) is (subst (Ends w s) (sym may.0) ends) h
message_keeps w new s o (AnAsk a) outcome is ends may h =
    ask_comes (answer_of (desk w s) a) w new s o a outcome is ends may.0 may.1 refl h
message_keeps w new s o (ADenial d) outcome is ends may h = denial_comes w new s d outcome is ends.site h
message_keeps w new s o (AHello site) outcome is ends may h = absurd h

-- ---- packets

-- what was sent may arrive
said_comes : (w : WorldValue) (s p : ℕ) (m : MessageValue) → IsSaid w s p m → MayCome w s p m
said_comes w s p (AnEntry e) h = absurd h
said_comes w s p m h = h

-- what is found at an index of a list is in it
found_there : {X : Type 0} (xs : List X) (place : ℕ) (x : X) → slice_get xs place ≡ Some x → Contains xs x
found_there xs place x at = (place, slice_get_within xs place x at, get_or_from_slice_get xs place x x at)

none_within : (es : List EntryValue) (place : ℕ) (found : Option EntryValue) → slice_get es place ≡ found
    → place < length es → found ≡ None → ⊥
none_within es place found at lt none =
    let some = slice_get-get_or es place (record { origin = 0; prev = 0; moves = [] }) lt in cc

entry_comes : (w : WorldValue) (s p place : ℕ) (m : MessageValue) (found : Option EntryValue) → IsWorld w
    → place < length (log w s) → slice_get (log w s) place ≡ found → Spells m (line_of found)
    → MayCome w s p m
entry_comes w s p place m None is lt at spells = absurd (none_within (log w s) place None at lt refl)
entry_comes w s p place m (Some e) is lt at spells =
    let has : Contains (log w s) e = found_there (log w s) place e at in
    let entry = is_entry s false 0 (log w s) e (is.kept.sites s).chain has in
    subst (MayCome w s p) (sym (is_once m (AnEntry e) (line_of (Some e)) spells (entry.0, refl))) has

-- what a packet spells may arrive
body_comes : (w : WorldValue) (s p : ℕ) (body : BodyValue) (m : MessageValue) → IsWorld w → IsBody w s p body
    → Spells m (body_text (log w s) body) → MayCome w s p m
body_comes w s p (EntryAt place) m is lt spells =
    entry_comes w s p place m (slice_get (log w s) place) is lt refl spells
body_comes w s p (Text text) m is (n, spelled, said) spells =
    subst (MayCome w s p) (is_once n m text spelled spells) (said_comes w s p n said)

some_other : {X : Type 0} (b : Bool) (o : Option X) (x : X) → cond b None o ≡ Some x → o ≡ Some x
some_other true o x h = absurd cc
some_other false o x h = h

-- a packet with a number was sent
packet_sent : (w : WorldValue) (number : ℕ) (p : PacketValue) → IsWorld w → packet w number ≡ Some p → IsSent w p
packet_sent w number p is at =
    let there : slice_get w.packets (number - 1) ≡ Some p =
    some_other (eqb number 0) (slice_get w.packets (number - 1)) p at in
    All-contains (IsSent w) w.packets p is.sent (found_there w.packets (number - 1) p there)

delivered : {A : Type 0} (w new : WorldValue) (s : ℕ) (found : Option PacketValue)
    (outcome : Result (Reply A) WorldError) → IsWorld w → IsSiteOf (count w) s
    → ((p : PacketValue) → found ≡ Some p → IsSent w p) → delivery_fault s found ≡ None
    → PacketComes w s found outcome new → WorldGoesOn w new
delivered w new s None outcome is site sent known h = absurd h
delivered w new s (Some p) outcome is site sent known (m, spells, comes) =
    let was : IsSent w p = sent p refl in
    let here : p.to ≡ s = eqb-true p.to s (no_other (eqb p.to s) NotForSite None known).0 in
    let ends : Ends w s p.from = record { site = site; from = was.from; differ = λ e. was.differ (here ∙ sym e) } in
    message_keeps w new s p.from m outcome is ends
    (subst (λ i. MayCome w p.from i m) here (body_comes w p.from p.to p.body m is was.said spells)) comes

pub packet_keeps : {A : Type 0} (w new : WorldValue) (s number : ℕ) (outcome : Result (Reply A) WorldError) → IsWorld w
    → arrive_fault w s number ≡ None
    → PacketComes w s (packet w number) outcome new → WorldGoesOn w new
packet_keeps w new s number outcome is known h =
    let p = no_other (is_site w s) NoSuchSite (delivery_fault s (packet w number)) known in
    delivered w new s (packet w number) outcome is (site_is w s p.0) (λ q at. packet_sent w number q is at) p.1 h
