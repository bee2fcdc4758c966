-- What an applier reports, from item to item.
use Rattle.std.proofs.Common.{◌≡◌, ◌≢◌, ℕ, ◌+◌, ◌≤◌, Bool, true, false, true≢false, ◌==◌, List, [], ◌∷◌, ◌++◌, Option}
use Rattle.std.proofs.Common.{Some, None, Result, Ok, Err, IfOk, IsSome, cond, nat_lt, refl, sym, ap, ◌∙◌, subst, arith}
use Rattle.std.proofs.Common.{append-nil, append_assoc}
use Rattle.std.proofs.lemmas.Bool.{eq-eqb, ltb-false, or_parts}
use Rattle.rights_types.specs.Entries.{EntryValue, own}
use Rattle.rights_types.specs.Chains.{moves_of, IsChain}
use Rattle.rights_types.specs.Rights.{to}
use Rattle.rights_types.specs.declared.moves.Move.TheVariants.{TakeBack}
use Rattle.rights_types.proofs.Chains.{chain_right, end-push}
use Rattle.rights_types.proofs.Sums.{moves_of-nil, moves_of-push, to-append, to-cons, to-nil}
use Rattle.rights_protocol.specs.Retiring.{numbers_in}
use Rattle.rights_book.specs.Books.{BookValue, peer}
use Rattle.site_core.specs.Ledgers.{owed_by, TakingLeaves, ApplyKeeps}
use Rattle.site_core.specs.Desks.{DeskValue}
use Rattle.site_core.specs.Faults.{has_closed}
use Rattle.site_core.specs.Calls.{DeskApplies}
use Rattle.thread_parts.specs.declared.item.Item.TheVariants.{Entry, End}
use Rattle.thread_parts.specs.Ends.{OutletValue}
use Rattle.thread_parts.specs.Items.{items_of, end_if, IsItemChain}
use Rattle.apply_lanes.specs.Names.{DeskId}
use Rattle.apply_lanes.specs.Kepts.{KeptValue, IsKept, SeatValue, told_nothing}
use Rattle.apply_lanes.specs.Appliers.{ApplierValue, IsCounted, in_hand, MovesOn, HasNext, ComesToDesk, LeavesHand}
use Rattle.apply_lanes.specs.Appliers.{is_late, is_out_of_step, step_fault, StepRefuses, dropped, applied, Steps}
use Rattle.apply_lanes.specs.Appliers.{StepFails}
use Rattle.apply_lanes.specs.declared.applier.StepError.{StepError}
use Rattle.apply_lanes.specs.declared.applier.StepError.TheVariants.{LaneClosed, OutOfStep, OutOfMemory}
use Rattle.apply_lanes.specs.Admissions.{site_fault, GivesSeat, GivesClockSeat}
use Rattle.apply_lanes.specs.declared.seat.SeatsFull.{SeatsFull}
use Rattle.apply_lanes.specs.declared.kept.AdmitCause.TheVariants.{NoSuchSite, SameSite}
use Rattle.thread_parts.proofs.Items.{items_of-push, same_entries, empty_chain}
use Rattle.apply_lanes.proofs.KeptLaws.{tallied_taking}

none_some : (e : EntryValue) → None ≡ Some e → ⊥
none_some e is = cc

pub none_of : (h : Option EntryValue) → ¬ IsSome h → h ≡ None
none_of (Some e) n = absurd (n refl)
none_of None n = refl

pub same_some : (e f : EntryValue) → Some e ≡ Some f → e ≡ f
same_some e f is = cc

module _ {G A : Type 0} where
  not_ended : (a : ApplierValue G A) (e : EntryValue) → (a.ended ≡ true → a.hand ≡ None) → a.hand ≡ Some e → (b : Bool)
      → a.ended ≡ b → b ≡ false
  not_ended a e empty is true ended = absurd (none_some e (sym (empty ended) ∙ is))
  not_ended a e empty is false ended = refl

  -- what was taken by an applier that dropped nothing, with e in hand
  taken_with : (id : DeskId) (a : ApplierValue G A) (e : EntryValue) → (c : IsCounted id a) → a.hand ≡ Some e
      → a.dropping ≡ false
      → a.outlet.taken ≡ items_of (c.applied ++ e ∷ [])
  taken_with id a e c is free =
      c.taken ∙ ap (λ b. items_of (c.applied ++ c.dropped ++ in_hand a.hand) ++ end_if b)
      (not_ended a e c.empty_hand is a.ended refl)
      ∙ append-nil (items_of (c.applied ++ c.dropped ++ in_hand a.hand))
      ∙ ap (λ l. items_of ((c.applied ++ l) ++ in_hand a.hand)) (c.none_dropped free)
      ∙ ap (λ l. items_of (l ++ in_hand a.hand)) (append-nil c.applied)
      ∙ ap (λ h. items_of (c.applied ++ in_hand h)) is

  -- the entry in hand begins where the last one that was applied ended
  pub hand_follows : (id : DeskId) (a : ApplierValue G A) (e : EntryValue) → IsCounted id a → a.hand ≡ Some e
      → a.dropping ≡ false → e.prev ≡ a.number
  hand_follows id a e c is free =
      let chain = c.chain in
      let es = same_entries (c.applied ++ e ∷ []) chain.1 chain.2 (sym (taken_with id a e c is free) ∙ chain.4) in
      let all : IsChain chain.0 (c.applied ++ e ∷ []) = subst (IsChain chain.0) (sym es) chain.3 in
      let last = chain_right chain.0 false 0 c.applied (e ∷ []) all in
      last.2 ∙ sym c.number

  -- in the log of its own origin
  log_follows : (id : DeskId) (a : ApplierValue G A) (e : EntryValue) → (c : IsCounted id a) → a.hand ≡ Some e
      → a.dropping ≡ false → e.origin ≡ a.origin
      → IsChain a.origin (c.applied ++ e ∷ [])
  log_follows id a e c is free same =
      let chain = c.chain in
      let es = same_entries (c.applied ++ e ∷ []) chain.1 chain.2 (sym (taken_with id a e c is free) ∙ chain.4) in
      let all : IsChain chain.0 (c.applied ++ e ∷ []) = subst (IsChain chain.0) (sym es) chain.3 in
      let last = chain_right chain.0 false 0 c.applied (e ∷ []) all in
      subst (λ o. IsChain o (c.applied ++ e ∷ [])) (sym last.1 ∙ same) all

  -- an applier that is not late drops nothing
  pub not_dropping : (a : ApplierValue G A) (d : DeskValue) → is_late a d ≡ false → a.dropping ≡ false
  not_dropping a d late = (or_parts a.dropping (has_closed d) late).0

  abbrev pub moved_on : ApplierValue G A → ℕ → ℕ → ApplierValue G A
  moved_on a n r = record a { hand = None; number = n; received = r }

  -- the entry in hand was applied
  pub applied_is : (id : DeskId) (a : ApplierValue G A) (e f : EntryValue) (n r : ℕ) → IsCounted id a → a.hand ≡ Some e
      → n ≡ own e → r ≡ a.received + to id.site e.moves
      → a.hand ≡ Some f → moved_on a n r ≡ applied id a f
  applied_is id a e f n r counted is number received held =
      let of_entry : moved_on a n r ≡ applied id a e
      = λ i. record a { hand = None; number = number i; received = received i } in
      of_entry ∙ ap (applied id a) (same_some e f (sym is ∙ held))

  pub counted_apply : (id : DeskId) (a : ApplierValue G A) (e : EntryValue) (n r : ℕ) → IsCounted id a → a.hand ≡ Some e
      → a.dropping ≡ false
      → e.origin ≡ a.origin → n ≡ own e → r ≡ a.received + to id.site e.moves
      → IsCounted id (record a { hand = None; number = n; received = r })
  counted_apply id a e n r c is free same last gift = record {
    applied = c.applied ++ e ∷ [];
    dropped = [];
    log = log_follows id a e c is free same;
    taken =
        let now : List EntryValue = c.applied ++ e ∷ [] in
        taken_with id a e c is free ∙ ap items_of (sym (append-nil (now ++ []) ∙ append-nil now))
        ∙ sym (append-nil (items_of ((now ++ []) ++ [])))
        ∙ ap (λ b. items_of ((now ++ []) ++ []) ++ end_if b) (sym (not_ended a e c.empty_hand is a.ended refl));
    chain = c.chain;
    none_dropped = λ _. refl;
    number = last ∙ sym (end-push c.applied e);
    received =
        gift ∙ ap (λ n. n + to id.site e.moves) c.received ∙ sym (to-append id.site (moves_of c.applied) e.moves)
        ∙ ap (to id.site) (sym (moves_of-push c.applied e));
    empty_hand = λ _. refl;
  }

  -- it was dropped
  pub counted_drop : (id : DeskId) (a : ApplierValue G A) (e : EntryValue) → IsCounted id a → a.hand ≡ Some e
      → IsCounted id (record a { hand = None; dropping = true })
  counted_drop id a e c is = record {
    applied = c.applied;
    dropped = c.dropped ++ e ∷ [];
    log = c.log;
    taken =
        c.taken ∙ ap (λ h. items_of (c.applied ++ c.dropped ++ in_hand h) ++ end_if a.ended) is
        ∙ ap (λ l. items_of l ++ end_if a.ended) (append_assoc c.applied c.dropped (e ∷ [])
        ∙ sym (append-nil (c.applied ++ (c.dropped ++ e ∷ []))));
    chain = c.chain;
    none_dropped = λ h. absurd (true≢false h);
    number = c.number;
    received = c.received;
    empty_hand = λ _. refl;
  }

  -- all entries that were taken, if none is in hand
  empty_taken : (id : DeskId) (a : ApplierValue G A) → (c : IsCounted id a) → a.hand ≡ None → a.ended ≡ false
      → a.outlet.taken ≡ items_of (c.applied ++ c.dropped)
  empty_taken id a c none free =
      c.taken ∙ ap (λ b. items_of (c.applied ++ c.dropped ++ in_hand a.hand) ++ end_if b) free
      ∙ append-nil (items_of (c.applied ++ c.dropped ++ in_hand a.hand))
      ∙ ap (λ h. items_of (c.applied ++ c.dropped ++ in_hand h)) none
      ∙ ap items_of (append-nil (c.applied ++ c.dropped))

  -- one more was taken
  pub counted_take : (id : DeskId) (a : ApplierValue G A) (e : EntryValue) (o : OutletValue A) → IsCounted id a
      → a.hand ≡ None → a.ended ≡ false
      → o.taken ≡ a.outlet.taken ++ Entry e ∷ [] → IsItemChain o.taken
      → IsCounted id (record a { outlet = o; hand = Some e })
  counted_take id a e o c none free more chain = record {
    applied = c.applied;
    dropped = c.dropped;
    log = c.log;
    taken =
        more ∙ ap (λ l. l ++ Entry e ∷ []) (empty_taken id a c none free)
        ∙ sym (items_of-push (c.applied ++ c.dropped) e)
        ∙ sym (append-nil (items_of (c.applied ++ c.dropped ++ e ∷ [])))
        ∙ ap (λ b. items_of (c.applied ++ c.dropped ++ e ∷ []) ++ end_if b) (sym free);
    chain = chain;
    none_dropped = c.none_dropped;
    number = c.number;
    received = c.received;
    empty_hand = λ h. absurd (true≢false (sym h ∙ free));
  }

  -- End was taken
  pub counted_end : (id : DeskId) (a : ApplierValue G A) (o : OutletValue A) → IsCounted id a → a.hand ≡ None
      → a.ended ≡ false
      → o.taken ≡ a.outlet.taken ++ End ∷ [] → IsItemChain o.taken
      → IsCounted id (record a { outlet = o; ended = true })
  counted_end id a o c none free more chain = record {
    applied = c.applied;
    dropped = c.dropped;
    log = c.log;
    taken =
        more ∙ ap (λ l. l ++ End ∷ []) (empty_taken id a c none free)
        ∙ ap (λ l. items_of l ++ End ∷ []) (sym (append-nil (c.applied ++ c.dropped)))
        ∙ ap (λ h. items_of (c.applied ++ c.dropped ++ in_hand h) ++ End ∷ []) (sym none);
    chain = chain;
    none_dropped = c.none_dropped;
    number = c.number;
    received = c.received;
    empty_hand = λ _. none;
  }

-- ---- steps

-- no entry finds its lane closed
not_closed : (late apart : Bool) → cond late None (cond apart (Some OutOfStep) None) ≡ Some LaneClosed → ⊥
not_closed true apart h = cc
not_closed false true h = cc
not_closed false false h = cc

module _ {G A : Type 0} where
  next_same : (h : Option EntryValue) (a b : ApplierValue G A) (e : EntryValue) → HasNext h a e b
      → (b.origin ≡ a.origin) × (b.outlet.lane ≡ a.outlet.lane)
  next_same None a b e is =
      (ap (λ (x : ApplierValue G A). x.origin) is, ap (λ (x : ApplierValue G A). x.outlet.lane) is)
  next_same (Some f) a b e is
      = (ap (λ (x : ApplierValue G A). x.origin) is.1, ap (λ (x : ApplierValue G A). x.outlet.lane) is.1)

  -- the next entry is in hand
  pub next_hand : (h : Option EntryValue) (a b : ApplierValue G A) (e : EntryValue) → a.hand ≡ h → HasNext h a e b
      → b.hand ≡ Some e
  next_hand None a b e was is = ap (λ (x : ApplierValue G A). x.hand) is
  next_hand (Some f) a b e was is = ap (λ (x : ApplierValue G A). x.hand) is.1 ∙ was
      ∙ ap (λ (x : EntryValue). Some x) is.0

  -- what happens to the entry in hand keeps origin and lane
  leaves_same : (id : DeskId) (late : Bool) (a b : ApplierValue G A) (e : EntryValue) → LeavesHand id late a e b
      → (b.origin ≡ a.origin) × (b.outlet.lane ≡ a.outlet.lane)
  leaves_same id true a b e is
      = (ap (λ (x : ApplierValue G A). x.origin) is, ap (λ (x : ApplierValue G A). x.outlet.lane) is)
  leaves_same id false a b e is
      = (ap (λ (x : ApplierValue G A). x.origin) is, ap (λ (x : ApplierValue G A). x.outlet.lane) is)

  -- by what the two cases promise
  pub leaves_hand : (id : DeskId) (late : Bool) (a b : ApplierValue G A) (e : EntryValue)
      → (late ≡ true → b ≡ dropped a) → (late ≡ false → b ≡ applied id a e)
      → LeavesHand id late a e b
  leaves_hand id true a b e gone kept = gone refl
  leaves_hand id false a b e gone kept = kept refl

  -- the applier that took its next entry, passed its gate and holds the lock
  pub comes_to_desk : (passes : G → ℕ → G → Type 0) (id : DeskId) (old taken mid : ApplierValue G A) (k : KeptValue)
      → (old.ended ≡ false) × (e : EntryValue) × HasNext old.hand old e taken → passes taken.gate taken.origin mid.gate
      → mid ≡ record taken { gate = mid.gate } → IsKept id k → (e : EntryValue) × ComesToDesk passes id old e k mid
      × (mid.hand ≡ Some e)
  comes_to_desk passes id old taken mid k more passed rest kept = (
    more.1,
    record { unended = more.0; taken = taken; next = more.2; passed = passed; rest = rest; kept = kept },
    ap (λ (x : ApplierValue G A). x.hand) rest ∙ next_hand old.hand old taken more.1 refl more.2,
  )

  -- and what it did with the entry
  pub step_done : (passes : G → ℕ → G → Type 0) (id : DeskId) (old mid new : ApplierValue G A) (k : KeptValue)
      (e : EntryValue)
      → ComesToDesk passes id old e k mid → step_fault mid k.desk e ≡ None
      → (is_late mid k.desk ≡ true → new ≡ dropped mid)
      → (is_late mid k.desk ≡ false → new ≡ applied id mid e) → Steps passes id old true new
  step_done passes id old mid new k e comes none gone kept
      = (e, k, mid, comes, none, leaves_hand id (is_late mid k.desk) mid new e gone kept)

  -- or why it did nothing with it
  pub step_failed : (passes : G → ℕ → G → Type 0) (id : DeskId) (old new : ApplierValue G A) (k : KeptValue)
      (e : EntryValue) (fault : StepError)
      → ComesToDesk passes id old e k new → StepRefuses (step_fault new k.desk e) (Err fault)
      → (fault ≡ OutOfMemory → ¬ (numbers_in e.moves ≡ None)) → StepFails passes id old fault new
  step_failed passes id old new k e LaneClosed comes refused memory
      = absurd (not_closed (is_late new k.desk) (is_out_of_step new k.desk e) refused)
  step_failed passes id old new k e OutOfStep comes refused memory = (e, k, comes, refused)
  step_failed passes id old new k e OutOfMemory comes refused memory = (e, k, comes, refused, memory refl)

  -- a step keeps origin and lane
  pub step_same : (passes : G → ℕ → G → Type 0) (id : DeskId) (a b : ApplierValue G A) → Steps passes id a true b
      → (b.origin ≡ a.origin) × (b.outlet.lane ≡ a.outlet.lane)
  step_same passes id a b s =
      let mid : ApplierValue G A = s.2 in
      let comes : ComesToDesk passes id a s.0 s.1 mid = s.3 in
      let next = next_same a.hand a comes.taken s.0 comes.next in
      let last = leaves_same id (is_late mid s.1.desk) mid b s.0 s.5 in (
        last.0 ∙ ap (λ (x : ApplierValue G A). x.origin) comes.rest ∙ next.0,
        last.1 ∙ ap (λ (x : ApplierValue G A). x.outlet.lane) comes.rest ∙ next.1,
      )

  -- a new applier
  pub counted_new : (id : DeskId) (a : ApplierValue G A) → a.outlet.taken ≡ [] → a.hand ≡ None → a.ended ≡ false
      → a.number ≡ 0 → a.received ≡ 0
      → IsCounted id a
  counted_new id a none empty free n r = record {
    applied = [];
    dropped = [];
    log = tt;
    taken = none ∙ sym (λ i. items_of {A = A} ([] ++ [] ++ in_hand (empty i)) ++ end_if (free i));
    chain = subst IsItemChain (sym none) empty_chain;
    none_dropped = λ _. refl;
    number = n;
    received = r ∙ sym (ap (to id.site) moves_of-nil ∙ to-nil id.site);
    empty_hand = λ _. empty;
  }

-- the calls of a new seat have reported nothing
pub seat_told : (old : KeptValue) (answer : Result SeatValue SeatsFull) (new : KeptValue) → GivesSeat old answer new
    → IfOk answer (λ s. s ≡ told_nothing)
seat_told old (Ok s) new h = h.0
seat_told old (Err full) new h = tt

pub clock_seat_told : (old : KeptValue) (answer : Result SeatValue SeatsFull) (new : KeptValue)
    → GivesClockSeat old answer new → IfOk answer (λ s. s ≡ told_nothing)
clock_seat_told old (Ok s) new h = h.0
clock_seat_told old (Err full) new h = tt

-- the origin of an applier is another site of the system
by_test : (id : DeskId) (o : ℕ) (b c : Bool) → cond b (Some NoSuchSite) (cond c (Some SameSite) None) ≡ None
    → (b ≡ false) × (c ≡ false)
by_test id o true c h = absurd cc
by_test id o false true h = absurd cc
by_test id o false false h = (refl, refl)

pub other_site : (id : DeskId) (o : ℕ) → site_fault id o ≡ None → (o ≤ id.sites) × (o ≢ id.site)
other_site id o h =
    let t = by_test id o (nat_lt id.sites o) (o == id.site) h in
    (ltb-false id.sites o t.0, λ same. true≢false (sym (eq-eqb o id.site same) ∙ t.1))

-- ---- the desk

nothing_given : (j o n : ℕ) → to j (TakeBack o n ∷ []) ≡ 0
nothing_given j o n = omega (arith, to-cons j (TakeBack o n) [], to-nil j)

-- what was given and received is as before the take-back of a closing entry
same_between : (b : Bool) (old mid : BookValue) (o n : ℕ) → TakingLeaves b old o n mid
    → ((j : ℕ) → (peer mid j).given ≡ (peer old j).given) × ((j : ℕ) → (peer mid j).received ≡ (peer old j).received)
same_between true old mid o n same
    = (λ j. ap (λ (x : BookValue). (peer x j).given) same, λ j. ap (λ (x : BookValue). (peer x j).received) same)
same_between false old mid o n taken =
    (λ j. omega (arith, taken.gives_to j, nothing_given j o n), taken.same_received_from)

-- the entry advanced the desk's book
pub moves_on : (id : DeskId) (k : KeptValue) (d : DeskValue) (o : ℕ) (e : EntryValue) → IsKept id k
    → (h : DeskApplies k.desk o e d)
    → ApplyKeeps k.desk.ledger o e h.entry.between d.ledger → e.prev ≡ (peer k.desk.ledger.book o).log.end
    → MovesOn id.site k.desk o e d
moves_on id k d o e is applies keeps next =
    let a = applies.entry in
    let l = keeps.leaves in
    let owed = owed_by k.desk.ledger o e in
    let t = tallied_taking (owed == 0) k.desk.ledger.book a.between o owed k.issued.sum k.spent.sum k.number.sum
    k.received.sum keeps.taken is.matches_book in
    let s = same_between (owed == 0) k.desk.ledger.book a.between o owed keeps.taken in
    record {
      applies = applies;
      keeps = keeps;
      from = sym next;
      up_to = l.applied;
      received = l.received_from ∙ ap (λ n. n + to a.between.me e.moves) (s.1 o)
          ∙ ap (λ m. (peer k.desk.ledger.book o).received + to m e.moves) (t.1 ∙ is.same_me);
      log = a.log;
      same_queue = ap (λ (x : DeskValue). x.queue) applies.rest;
      same_given = λ j. l.same_given_to j ∙ s.0 j;
      others = λ j apart. l.same_applied j apart ∙ t.3 j;
      others_received = λ j apart. l.same_received_from j apart ∙ s.1 j;
    }
