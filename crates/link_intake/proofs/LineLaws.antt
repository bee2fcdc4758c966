-- What of its origin's log reached an intake, by the lines that came.
use Rattle.std.proofs.Common.{◌≡◌, Bool, true, false, List, [], ◌∷◌, ◌++◌, Option, Result, Ok, refl, sym, ap, ◌∙◌}
use Rattle.std.proofs.Common.{subst, append-nil, append_assoc}
use Rattle.std.specs.List.{All, Contains}
use Rattle.std.proofs.lemmas.List.Elements.{All-nil, All-cons, All-head, All-tail, All-append, All-contains_itself}
use Rattle.std.proofs.lemmas.List.Elements.{Contains-append_right}
use Rattle.rights_types.specs.Entries.{EntryValue}
use Rattle.rights_types.specs.Chains.{IsLongest}
use Rattle.rights_types.specs.Messages.{MessageValue, QueryValue}
use Rattle.rights_types.specs.Messages.MessageValue.{AnEntry, AQuery, AnAnswer, ABeat, AnAsk, ADenial, AHello}
use Rattle.sub_buffer.specs.Buffers.{BufferValue}
use Rattle.sub_buffer.specs.Follows.{Follows, put_after, reached_after}
use Rattle.sub_buffer.specs.Arrivals.{all_ready, ArriveAll}
use Rattle.sub_buffer.specs.declared.verdict.Verdict.{Verdict}
use Rattle.sub_buffer.specs.declared.verdict.Verdict.TheVariants.{Ready, Held, Repeat, AfterClose, Full}
use Rattle.sub_buffer.proofs.Offers.{follows_new, follows_beat}
use Rattle.sub_buffer.proofs.Missing.{follows_asked}
use Rattle.entry_codec.specs.declared.fault.LineError.{LineError}
use Rattle.inbound.specs.Inbounds.{InboundValue, entries_of, ready_in, BringsEntries, Arrives, QueryOf}
use Rattle.inbound.specs.declared.inbound.Arrival.{Arrival}
use Rattle.inbound.specs.declared.inbound.Arrival.TheVariants.{Entries, Beat, Query, Ask, Deny, Hello}
use Rattle.link_intake.specs.declared.intake.Arrived.{Arrived}
use Rattle.link_intake.specs.declared.intake.IntakeError.{IntakeError}
use Rattle.link_intake.specs.Intakes.{IntakeValue, Receives, ReceivesMore, entries_read, ready_of}
use Rattle.link_intake.proofs.IntakeLaws.{ready-append, none_sent, sends_none, sends_arrival, IsTakenIn}

-- ---- entries that came

others : (e : EntryValue) (es xs : List EntryValue) → All (Contains es) xs → All (Contains (e ∷ es)) xs
others e es [] h = All-nil (Contains (e ∷ es))
others e es (x ∷ xs) h =
    All-cons (Contains (e ∷ es)) x xs (Contains-append_right (e ∷ []) es x (All-head (Contains es) x xs h))
    (others e es xs (All-tail (Contains es) x xs h))

first_of : (e : EntryValue) (es : List EntryValue) → All (Contains (e ∷ es)) (e ∷ [])
first_of e es =
    All-cons (Contains (e ∷ es)) e [] (All-head (Contains (e ∷ es)) e es (All-contains_itself (e ∷ es)))
    (All-nil (Contains (e ∷ es)))

-- the entry reached the buffer by its verdict, or did not
one_more : {A : Type 0} (reached : List EntryValue) (e : EntryValue) (es : List EntryValue) (v : Verdict A)
    → (more : List EntryValue) × All (Contains (e ∷ es)) more × (reached_after reached e v ≡ reached ++ more)
one_more reached e es (Ready x) = (e ∷ [], first_of e es, refl)
one_more reached e es Held = (e ∷ [], first_of e es, refl)
one_more reached e es Repeat = ([], All-nil (Contains (e ∷ es)), sym (append-nil reached))
one_more reached e es AfterClose = ([], All-nil (Contains (e ∷ es)), sym (append-nil reached))
one_more reached e es Full = ([], All-nil (Contains (e ∷ es)), sym (append-nil reached))

freed_ready : (A : Type 0) (freed : List EntryValue) → ready_in (all_ready {A = A} freed) ≡ freed
freed_ready A [] = refl
freed_ready A (e ∷ es) = ap (λ (xs : List EntryValue). e ∷ xs) (freed_ready A es)

-- what one arrival put
put_one : {A : Type 0} (put : List EntryValue) (v : Verdict A) (freed : List EntryValue)
    → put_after put v ++ freed ≡ put ++ ready_in (v ∷ all_ready freed)
put_one {A} put (Ready e) freed = append_assoc put (e ∷ []) freed
    ∙ ap (λ (xs : List EntryValue). put ++ e ∷ xs) (sym (freed_ready A freed))
put_one {A} put Held freed = ap (λ (xs : List EntryValue). put ++ xs) (sym (freed_ready A freed))
put_one {A} put Repeat freed = ap (λ (xs : List EntryValue). put ++ xs) (sym (freed_ready A freed))
put_one {A} put AfterClose freed = ap (λ (xs : List EntryValue). put ++ xs) (sym (freed_ready A freed))
put_one {A} put Full freed = ap (λ (xs : List EntryValue). put ++ xs) (sym (freed_ready A freed))

-- the buffer follows the log, and has delivered the longest prefix of what reached it
record Goes (log reached put : List EntryValue) (b : BufferValue) : Type 0 where
  follows : Follows log reached put b
  longest : IsLongest reached log put

-- entries of the log came one after another
all_go : {A : Type 0} (log es : List EntryValue) (old new : BufferValue) (before after : List (Verdict A))
    → ArriveAll old before es new after
    → All (Contains log) es → (reached put : List EntryValue) → Goes log reached (put ++ ready_in before) old
    → (more : List EntryValue) × All (Contains es) more × Goes log (reached ++ more) (put ++ ready_in after) new
all_go log [] old new before after h of_log reached put g = (
  [],
  All-nil (Contains []),
  subst (λ (x : List EntryValue × BufferValue). Goes log x.0 (put ++ ready_in after) x.1)
      (λ i. (sym (append-nil reached) i, sym h.0 i))
      (subst (λ vs. Goes log reached (put ++ ready_in vs) old) (sym h.1) g),
)
all_go {A} log (e ∷ es) old new before after (mid, between, v, freed, is, arrived, rest) of_log reached put g =
    let start : List EntryValue = put ++ ready_in before in
    let one = one_more reached e es v in
    let came = arrived.log log reached start (All-head (Contains log) e es of_log) g.follows in
    let now : put_after start v ++ freed ≡ put ++ ready_in between =
    put_one start v freed ∙ append_assoc put (ready_in before) (ready_in (v ∷ all_ready {A = A} freed))
    ∙ ap (λ xs. put ++ xs) (sym (ready-append before (v ∷ all_ready freed))) ∙ ap (λ vs. put ++ ready_in vs) (sym is) in
    let goes : Goes log (reached ++ one.0) (put ++ ready_in between) mid =
    subst (λ (x : List EntryValue × List EntryValue). Goes log x.0 x.1 mid) (λ i. (one.2 i, now i))
    (record { follows = came.1; longest = came.2 }) in
    let later = all_go log es mid new between after rest (All-tail (Contains log) e es of_log)
    (reached ++ one.0) put goes in (
      one.0 ++ later.0,
      All-append (Contains (e ∷ es)) one.0 later.0 one.1 (others e es later.0 later.1),
      subst (λ xs. Goes log xs (put ++ ready_in after) new) (append_assoc reached one.0 later.0) later.2,
    )

-- ---- a message that came

-- what it left of the buffer
abbrev GoesMore : {A : Type 0} → List EntryValue → List EntryValue → List EntryValue → List EntryValue → Arrival A
    → BufferValue → Type 0
GoesMore log reached put came a new = (more : List EntryValue) × All (Contains came) more
    × Goes log (reached ++ more) (put ++ ready_of a) new

module _ {A : Type 0} where
  brought : (log : List EntryValue) (old : InboundValue) (es : List EntryValue) (a : Arrival A) (new : InboundValue)
      → BringsEntries old es a new
      → All (Contains log) es → (reached put : List EntryValue) → Goes log reached put old.buffer
      → GoesMore log reached put es a new.buffer
  brought log old es (Entries vs) new x of_log reached put g =
      all_go log es old.buffer new.buffer [] vs x.arrive of_log reached put
      (subst (λ xs. Goes log reached xs old.buffer) (sym (append-nil put)) g)
  brought log old es (Beat b) new x of_log reached put g = absurd x
  brought log old es (Query q) new x of_log reached put g = absurd x
  brought log old es (Ask k) new x of_log reached put g = absurd x
  brought log old es (Deny d) new x of_log reached put g = absurd x
  brought log old es Hello new x of_log reached put g = absurd x

  nothing_more : (log reached put : List EntryValue) (a b : Arrival A) (new : BufferValue) → a ≡ b → ready_of b ≡ []
      → Goes log reached put new
      → GoesMore log reached put [] a new
  nothing_more log reached put a b new is none g = (
    [],
    All-nil (Contains []),
    subst (λ (x : List EntryValue × List EntryValue). Goes log x.0 x.1 new)
        (λ i. (
          sym (append-nil reached) i,
          sym (ap (λ x. put ++ ready_of x) is ∙ ap (λ l. put ++ l) none
              ∙ append-nil put) i,
        )) g,
  )

  goes_on : (log : List EntryValue) (old : InboundValue) (m : MessageValue) (a : Arrival A) (new : InboundValue)
      → Arrives old m a new
      → All (Contains log) (entries_of m) → (reached put : List EntryValue) → Goes log reached put old.buffer
      → GoesMore log reached put (entries_of m) a new.buffer
  goes_on log old (AnEntry e) a new x of_log reached put g = brought log old (e ∷ []) a new x of_log reached put g
  goes_on log old (AnAnswer y) a new x of_log reached put g = brought log old y.entries a new x of_log reached put g
  goes_on log old (ABeat b) a new x of_log reached put g =
      nothing_more log reached put a (Beat b) new.buffer x.0 refl
      (subst (λ (i : InboundValue). Goes log reached put i.buffer) (sym x.1)
      (record { follows = follows_beat old.buffer b.number log reached put g.follows; longest = g.longest }))
  goes_on log old (AQuery q) a new x of_log reached put g =
      nothing_more log reached put a (Query q) new.buffer x.0 refl
      (subst (λ (i : InboundValue). Goes log reached put i.buffer) (sym x.1) g)
  goes_on log old (AnAsk k) a new x of_log reached put g =
      nothing_more log reached put a (Ask k) new.buffer x.0 refl
      (subst (λ (i : InboundValue). Goes log reached put i.buffer) (sym x.1) g)
  goes_on log old (ADenial d) a new x of_log reached put g =
      nothing_more log reached put a (Deny d) new.buffer x.0 refl
      (subst (λ (i : InboundValue). Goes log reached put i.buffer) (sym x.1) g)
  goes_on log old (AHello s) a new x of_log reached put g =
      nothing_more log reached put a Hello new.buffer x.0 refl
      (subst (λ (i : InboundValue). Goes log reached put i.buffer) (sym x.1) g)

  -- ---- the intake

  -- nothing came yet
  pub receives_new : (log : List EntryValue) (i : IntakeValue A) → Follows log [] [] i.inbound.buffer → i.inlet.put ≡ []
      → i.ended ≡ false
      → Receives log [] i
  receives_new log i f empty free = record {
    delivered = [];
    follows = f;
    longest = (follows_new 0 i.inbound.buffer.origin log f.log).1;
    sends = none_sent i empty free;
  }

  -- what came by a line that reads so
  by_read : (log reached : List EntryValue) (j : IntakeValue A) (read : Result MessageValue LineError)
      (m : MessageValue) → read ≡ Ok m
      → All (Contains log) (entries_read read)
      → (All (Contains log) (entries_of m) → ReceivesMore log reached (entries_of m) j)
      → ReceivesMore log reached (entries_read read) j
  by_read log reached j read m is of_log more =
      let same : entries_read read ≡ entries_of m = ap entries_read is in
      subst (λ es. ReceivesMore log reached es j) (sym same) (more (subst (All (Contains log)) same of_log))

  pub receives_arrival : (log reached : List EntryValue) (i j : IntakeValue A) (read : Result MessageValue LineError)
      (m : MessageValue) (a : Arrival A)
      (r : Result Arrived IntakeError) → Receives log reached i → All (Contains log) (entries_read read) → read ≡ Ok m
      → i.inlet.dead ≡ false
      → i.finished ≡ false → Arrives i.inbound m a j.inbound → IsTakenIn i a r j
      → ReceivesMore log reached (entries_read read) j
  receives_arrival log reached i j read m a r h all is live going x taken =
      let d : List EntryValue = h.delivered in
      by_read log reached j read m is all
      (λ of_log.
      (let goes = goes_on log i.inbound m a j.inbound x of_log reached d
      (record { follows = h.follows; longest = h.longest }) in (
        goes.0,
        goes.1,
        record {
          delivered = d ++ ready_of a;
          follows = goes.2.follows;
          longest = goes.2.longest;
          sends = sends_arrival j.inbound.buffer.origin d i j a r h.sends live going goes.2.follows.has_put.chain taken;
        },
      )))

  -- .. where the lane was closed before
  pub receives_dead : (log reached : List EntryValue) (i : IntakeValue A) (read : Result MessageValue LineError)
      (m : MessageValue) (a : Arrival A)
      (new : InboundValue) → Receives log reached i → All (Contains log) (entries_read read) → read ≡ Ok m
      → Arrives i.inbound m a new
      → i.inlet.dead ≡ true → ReceivesMore log reached (entries_read read) (record i { inbound = new })
  receives_dead log reached i read m a new h all is x dead =
      let d : List EntryValue = h.delivered in
      by_read log reached (record i { inbound = new }) read m is all
      (λ of_log.
      (let goes = goes_on log i.inbound m a new x of_log reached d
      (record { follows = h.follows; longest = h.longest }) in (
        goes.0,
        goes.1,
        record {
          delivered = d ++ ready_of a;
          follows = goes.2.follows;
          longest = goes.2.longest;
          sends = sends_none d (ready_of a) i new h.sends dead;
        },
      )))

  -- a query was made
  pub receives_asked : (log reached : List EntryValue) (i : IntakeValue A) (again : Bool) (q : Option QueryValue)
      (new : InboundValue)
      → QueryOf i.inbound again q new → Receives log reached i → Receives log reached (record i { inbound = new })
  receives_asked log reached i again q new query h =
      let s = h.sends in
      record {
        delivered = h.delivered;
        follows =
            subst (λ (x : InboundValue). Follows log reached h.delivered x.buffer) (sym query.left)
            (follows_asked i.inbound.buffer q log reached h.delivered h.follows);
        longest = h.longest;
        sends = record {
          gone = s.gone;
          unsent = s.unsent;
          whole = s.whole;
          put = s.put;
          all_gone = s.all_gone;
          ended = s.ended;
        };
      }
