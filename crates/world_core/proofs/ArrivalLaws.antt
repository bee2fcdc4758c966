-- The content of packets: the message that a packet's line spells, which no link refuses.
use Rattle.std.proofs.Common.{◌≡◌, ℕ, zero, suc, ◌-◌, ◌<◌, eqb, get_or, Bool, true, false, List, [], ◌∷◌, length}
use Rattle.std.proofs.Common.{Option, Some, None, Result, Ok, Err, refl, sym, ap, subst, ◌∙◌, arith, inl, inr}
use Rattle.std.specs.Prelude.{◌≢◌, if◌then◌else◌}
use Rattle.std.specs.Result.{IsErrAnd}
use Rattle.std.specs.List.{All, Contains, slice_get}
use Rattle.std.proofs.lemmas.Bool.{eq-eqb, eqb-true, ne_eqb}
use Rattle.std.proofs.lemmas.List.{take_at, drop_at}
use Rattle.std.proofs.lemmas.List.Elements.{All-nil, All-cons, All-take, All-drop}
use Rattle.std.proofs.lemmas.List.Folds.{list_any_none}
use Rattle.std.proofs.lemmas.Option.{slice_get_cases, slice_get_within, get_or_from_slice_get}
use Rattle.rights_types.specs.Entries.{EntryValue, IsEntry}
use Rattle.rights_types.specs.Chains.{IsChain, moves_of}
use Rattle.rights_types.specs.Messages.{MessageValue}
use Rattle.rights_types.specs.Messages.MessageValue.{AnEntry, AQuery, AnAnswer, ABeat, AnAsk, ADenial, AHello}
use Rattle.rights_types.specs.declared.moves.Move.{Move}
use Rattle.rights_types.proofs.Chains.{not_in_nil, contains_cases, is_entry}
use Rattle.entry_codec.specs.declared.fault.LineError.{LineError}
use Rattle.entry_codec.specs.Reading.{reading, has_entries}
use Rattle.entry_codec.specs.Spelling.{Spells}
use Rattle.entry_codec.proofs.Lines.{reading_again}
use Rattle.inbound.specs.Inbounds.{InboundValue, sender, is_for, entries_of, is_foreign, has_foreign, message_fault}
use Rattle.inbound.specs.Inbounds.{line_fault, InboundRefuses}
use Rattle.inbound.specs.declared.fault.InboundError.{InboundError}
use Rattle.inbound.specs.declared.fault.InboundError.TheVariants.{Line, WrongOrigin, BadSite, OutOfMemory}
use Rattle.world_core.specs.Values.{LinkValue, BodyValue, PacketValue, WorldValue}
use Rattle.world_core.specs.Values.BodyValue.{EntryAt, Text}
use Rattle.world_core.specs.Worlds.{count, log, link, packet, line_of, body_text, packet_text}
use Rattle.world_core.specs.Faults.{is_site, delivery_fault, arrive_fault}
use Rattle.world_core.specs.LinkEvents.{MessageComes, PacketComes}
use Rattle.world_core.specs.declared.reply.Reply.{Reply}
use Rattle.world_core.specs.declared.fault.WorldError.{WorldError}
use Rattle.world_core.specs.declared.fault.WorldError.TheVariants.{NoSuchSite, NotForSite, OutOfMemory as NoMemory}
use Rattle.world_core.specs.Sound.{LinkSound, IsSaid, MayCome, IsBody, IsSent, IsNative, IsWorld}

-- ---- the message of a packet

-- an entry of a log, by its index
entry_at : (o : ℕ) (es : List EntryValue) (place : ℕ) → IsChain o es → place < length es
    → (e : EntryValue) × (slice_get es place ≡ Some e) × Contains es e × IsEntry e
entry_at o es place chain lt =
    elim (slice_get_cases es place).1 [
      | inl f ↦ (f.0, f.2, (place, f.1, f.3), (is_entry o false 0 es f.0 chain (place, f.1, f.3)).0)
      | inr p ↦ absurd (omega (arith, p.0))
    ]

may_come : (w : WorldValue) (s p : ℕ) (m : MessageValue) → IsSaid w s p m → MayCome w s p m
may_come w s p (AnEntry e) h = absurd h
may_come w s p (AQuery q) h = h
may_come w s p (AnAnswer a) h = h
may_come w s p (ABeat b) h = h
may_come w s p (AnAsk a) h = h
may_come w s p (ADenial d) h = h
may_come w s p (AHello site) h = h

body_brings : (w : WorldValue) (s p : ℕ) (b : BodyValue) → IsChain s (log w s) → IsBody w s p b
    → (m : MessageValue) × Spells m (body_text (log w s) b) × MayCome w s p m
body_brings w s p (EntryAt place) chain lt =
    let e = entry_at s (log w s) place chain lt in
    (AnEntry e.0, (e.3, ap line_of e.1), e.2)
body_brings w s p (Text text) chain h = (h.0, h.1, may_come w s p h.0 h.2)

-- ---- nothing refuses it

-- what holds of all moves of a log holds of those of each entry
of_entry : (P : Move → Type 0) (es : List EntryValue) (e : EntryValue) → All P (moves_of es) → Contains es e
    → All P e.moves
unfolding moves_of
of_entry P [] e all there = absurd (not_in_nil e there)
of_entry P (x ∷ es) e all there =
    elim (contains_cases x es e there) [
      | inl same ↦ subst (λ (y : EntryValue). All P y.moves) same
          (subst (All P) (take_at x.moves (moves_of es) (length x.moves) refl) (All-take P (length x.moves) _ all))
      | inr later ↦ of_entry P es e (subst (All P) (drop_at x.moves (moves_of es) (length x.moves) refl)
          (All-drop P (length x.moves) _ all)) later
    ]

-- entries of a log of this system fit this system
none_foreign : (n : ℕ) (es some : List EntryValue) → All (λ (m : Move). is_foreign n m ≡ false) (moves_of es)
    → All (Contains es) some → has_foreign n some ≡ false
none_foreign n es some native all =
    list_any_none _ some (λ k d lt. list_any_none (is_foreign n) _
    (of_entry (λ m. is_foreign n m ≡ false) es _ native (all k d lt)))

passes : (i : InboundValue) (m : MessageValue) → sender m ≡ i.buffer.origin → is_for i.buffer.me m ≡ true
    → has_foreign i.sites (entries_of m) ≡ false → message_fault i m ≡ None
passes i m from here ours = rw (eq-eqb (sender m) i.buffer.origin from, here, ours) refl

-- what may arrive is the origin's, is for this site, and fits this system
not_faulty : (w : WorldValue) (s p : ℕ) (l : LinkValue) (m : MessageValue) → IsNative w s → IsChain s (log w s)
    → LinkSound w p s l → MayCome w s p m → message_fault l.inbound m ≡ None
not_faulty w s p l (AnEntry e) native chain sound h =
    let is = is_entry s false 0 (log w s) e chain h in
    let ours =
    none_foreign (count w) (log w s) (e ∷ []) native
    (All-cons (Contains (log w s)) e [] h (All-nil (Contains (log w s)))) in
    passes l.inbound (AnEntry e) (is.1 ∙ sym sound.origin) refl (rw sound.system ours)
not_faulty w s p l (AQuery q) native chain sound h =
    passes l.inbound (AQuery q) (h.0 ∙ sym sound.origin) (eq-eqb q.origin l.inbound.buffer.me (h.1 ∙ sym sound.me)) refl
not_faulty w s p l (AnAnswer a) native chain sound h =
    passes l.inbound (AnAnswer a) (h.0 ∙ sym sound.origin) (eq-eqb a.asker l.inbound.buffer.me (h.1 ∙ sym sound.me))
    (rw sound.system (none_foreign (count w) (log w s) a.entries native h.2))
not_faulty w s p l (ABeat b) native chain sound h = passes l.inbound (ABeat b) (h.0 ∙ sym sound.origin) refl refl
not_faulty w s p l (AnAsk a) native chain sound h =
    passes l.inbound (AnAsk a) (h.0 ∙ sym sound.origin) (eq-eqb a.asked l.inbound.buffer.me (h.1 ∙ sym sound.me)) refl
not_faulty w s p l (ADenial d) native chain sound h =
    passes l.inbound (ADenial d) (h.0 ∙ sym sound.origin) (eq-eqb d.asker l.inbound.buffer.me (h.1 ∙ sym sound.me)) refl
not_faulty w s p l (AHello site) native chain sound h = absurd h

-- the message of a packet's line
pub record Said (w : WorldValue) (p : PacketValue) (m : MessageValue) : Type 0 where
  pub spelled : Spells m (packet_text w p)
  pub may : MayCome w p.from p.to m
  pub read : reading (packet_text w p) ≡ Ok m

said : (w : WorldValue) (p : PacketValue) → IsWorld w → IsSent w p → (m : MessageValue) × Said w p m
said w p is sent =
    let b = body_brings w p.from p.to p.body (is.kept.sites p.from).chain sent.said in
    (b.0, record { spelled = b.1; may = b.2; read = ap reading b.1.1 ∙ reading_again b.0 b.1.0 })

-- reading it gives that message
pub is_said : (w : WorldValue) (p : PacketValue) (m : MessageValue) → IsWorld w → IsSent w p
    → reading (packet_text w p) ≡ Ok m → Said w p m
is_said w p m is sent read =
    let all = said w p is sent in
    let says : reading (packet_text w p) ≡ Ok all.0 = all.1.read in
    let same : all.0 ≡ m = cc in
    subst (Said w p) same all.1

-- and the link that it arrives at does not refuse it
pub no_fault : (w : WorldValue) (p : PacketValue) (l : LinkValue) → IsWorld w → IsSent w p → link w p.to p.from ≡ Some l
    → line_fault l.inbound (reading (packet_text w p)) ≡ None
no_fault w p l is sent there =
    let all = said w p is sent in
    ap (line_fault l.inbound) all.1.read ∙ not_faulty w p.from p.to l all.0 (is.native p.from)
    (is.kept.sites p.from).chain (is.links p.to p.from l there) all.1.may

-- so only memory can be lacking
pub not_refused : (X : Type 0) (i : InboundValue) (read : Result MessageValue LineError) (fault : InboundError)
    → line_fault i read ≡ None → InboundRefuses {X = X} i read (Err fault) → fault ≢ OutOfMemory → ⊥
not_refused X i read OutOfMemory none refused other = other refl
not_refused X i read WrongOrigin none refused other = absurd cc
not_refused X i read BadSite none refused other = absurd cc
not_refused X i read (Line e) none refused other = absurd cc

-- ---- if a packet is to arrive

delivered : (w : WorldValue) (s number : ℕ) → arrive_fault w s number ≡ None
    → (p : PacketValue) × (packet w number ≡ Some p) × (p.to ≡ s)
delivered w s number h = at_site_of (is_site w s) (packet w number) h
  where
    for_site : (found : Option PacketValue) → delivery_fault s found ≡ None
        → (p : PacketValue) × (found ≡ Some p) × (p.to ≡ s)
    for_site None h = absurd cc
    for_site (Some p) h = (p, refl, to_site (eqb p.to s) refl h)
      where
        to_site : (b : Bool) → eqb p.to s ≡ b → (if b then None else Some NotForSite) ≡ None → p.to ≡ s
        to_site true e h = eqb-true p.to s e
        to_site false e h = absurd cc

    at_site_of : (b : Bool) (found : Option PacketValue)
        → (if b then delivery_fault s found else Some NoSuchSite) ≡ None
        → (p : PacketValue) × (found ≡ Some p) × (p.to ≡ s)
    at_site_of true found h = for_site found h
    at_site_of false found h = absurd cc

-- a packet that was sent, by its number from 1
at_number : (w : WorldValue) (number : ℕ) (p : PacketValue) → packet w number ≡ Some p
    → slice_get w.packets (number - 1) ≡ Some p
at_number w zero p h = absurd cc
at_number w (suc k) p h =
    past_first (eqb (suc k) 0) (slice_get w.packets (suc k - 1)) (ne_eqb (suc k) 0 (λ z. omega (arith, z))) h
  where
    past_first : (b : Bool) (found : Option PacketValue) → b ≡ false → (if b then None else found) ≡ Some p
        → found ≡ Some p
    past_first true found e h = absurd cc
    past_first false found e h = h

-- ---- memory

-- only entries may lack it
entries_may : (A : Type 0) (w : WorldValue) (s o : ℕ) (m : MessageValue) → has_entries m ≡ true
    → MessageComes {A = A} w s o m (Err NoMemory) w
entries_may A w s o (AnEntry e) has = refl
entries_may A w s o (AnAnswer a) has = refl
entries_may A w s o (AQuery q) has = absurd cc
entries_may A w s o (ABeat b) has = absurd cc
entries_may A w s o (AnAsk a) has = absurd cc
entries_may A w s o (ADenial d) has = absurd cc
entries_may A w s o (AHello site) has = absurd cc

pub lacks_memory : (A : Type 0) (w : WorldValue) (s : ℕ) (p : PacketValue) (m : MessageValue)
    (found : Option PacketValue) (outcome : Result (Reply A) WorldError) → IsErrAnd outcome (λ e. e ≡ NoMemory)
    → found ≡ Some p → Spells m (packet_text w p) → has_entries m ≡ true → PacketComes {A = A} w s found outcome w
lacks_memory A w s p m found (Ok reply) is there spelled has = absurd is
lacks_memory A w s p m found (Err e) is there spelled has =
    subst (λ x. PacketComes {A = A} w s x (Err e) w) (sym there)
    (m, spelled, subst (λ x. MessageComes {A = A} w s p.from m (Err x) w) (sym is) (entries_may A w s p.from m has))

-- ---- the packet

-- a packet that is to arrive
pub record Arriving (w : WorldValue) (s number : ℕ) (p : PacketValue) : Type 0 where
  pub there : packet w number ≡ Some p
  pub sent : IsSent w p
  pub to : p.to ≡ s

pub arriving : (w : WorldValue) (s number : ℕ) (p : PacketValue) → IsWorld w → arrive_fault w s number ≡ None
    → p ≡ get_or w.packets (number - 1) p → Arriving w s number p
arriving w s number p is h read =
    let d = delivered w s number h in
    let at = at_number w number d.0 d.1 in
    let same : d.0 ≡ p = sym (read ∙ get_or_from_slice_get w.packets (number - 1) d.0 p at) in
    let sent : IsSent w p =
    subst (IsSent w) (sym read) (is.sent (number - 1) p (slice_get_within w.packets (number - 1) d.0 at)) in
    record { there = d.1 ∙ ap (λ x. Some x) same; sent = sent; to = ap (λ (x : PacketValue). x.to) (sym same) ∙ d.2 }
