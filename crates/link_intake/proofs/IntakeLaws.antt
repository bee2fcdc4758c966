-- What an intake puts follows what came in order.
use Rattle.std.proofs.Common.{◌≡◌, ℕ, ◌+◌, ◌<◌, ◌≤◌, Bool, true, false, true≢false, cond, List, [], ◌∷◌, ◌++◌, length}
use Rattle.std.proofs.Common.{take, get_or, refl, sym, ap, ◌∙◌, subst, append-nil, append_assoc, arith}
use Rattle.std.specs.Prelude.{count_by}
use Rattle.std.proofs.lemmas.List.{map-append, length-take-le}
use Rattle.std.proofs.lemmas.List.Sums.{sum_by_more, sum_by-cons}
use Rattle.rights_types.specs.Entries.{EntryValue, closes}
use Rattle.rights_types.specs.Chains.{is_closed, closed_from, IsChain}
use Rattle.rights_types.proofs.Chains.{chain_left, chain_right}
use Rattle.sub_buffer.specs.declared.verdict.Verdict.{Verdict}
use Rattle.sub_buffer.specs.declared.verdict.Verdict.TheVariants.{Ready, Held, Repeat, AfterClose, Full}
use Rattle.std.specs.Prelude.{Result, Ok, Err, IfOk, IfErr}
use Rattle.rights_types.specs.Messages.{MessageValue}
use Rattle.rights_types.specs.Messages.MessageValue.{AnEntry, AQuery, AnAnswer, ABeat, AnAsk, ADenial, AHello}
use Rattle.entry_codec.specs.declared.fault.LineError.{LineError}
use Rattle.sub_buffer.specs.Buffers.{BufferValue}
use Rattle.sub_buffer.specs.Table.{after_beat}
use Rattle.sub_buffer.specs.Follows.{HasPut}
use Rattle.sub_buffer.specs.declared.arrivals.TheConstants.{MAX_VERDICTS}
use Rattle.inbound.specs.Inbounds.{InboundValue, ready_in, BringsEntries, Arrives, EntriesCome}
use Rattle.inbound.specs.declared.inbound.Arrival.{Arrival}
use Rattle.inbound.specs.declared.inbound.Arrival.TheVariants.{Entries, Beat, Query, Ask, Deny, Hello}
use Rattle.thread_parts.specs.declared.item.Item.{Item}
use Rattle.thread_parts.specs.declared.item.Item.TheVariants.{Entry, End}
use Rattle.thread_parts.specs.Ends.{InletValue}
use Rattle.thread_parts.specs.Items.{items_of, end_if, IsOpen, Continues}
use Rattle.thread_parts.proofs.Items.{open_push}
use Rattle.link_intake.specs.declared.intake.VerdictCounts.{VerdictCounts}
use Rattle.link_intake.specs.Intakes.{IntakeValue, Sends, IsIntake, Brings, FindsClosed, LineLeaves, verdicts_of}
use Rattle.link_intake.specs.Intakes.{arrived_of, ready_of, sent, CanPut, PutsAll, PutsFront, is_ready, is_held}
use Rattle.link_intake.specs.Intakes.{is_repeat, is_after_close, is_full, counts_of, with_verdict, all_counts}
use Rattle.link_intake.specs.declared.intake.Arrived.{Arrived}
use Rattle.link_intake.specs.declared.intake.IntakeError.{IntakeError}
use Rattle.link_intake.specs.declared.intake.IntakeError.TheVariants.{Inbound, LaneClosed}

pub closed_from-append : (b : Bool) (xs ys : List EntryValue)
    → closed_from b (xs ++ ys) ≡ closed_from (closed_from b xs) ys
closed_from-append b [] ys = refl
closed_from-append b (x ∷ xs) ys = closed_from-append (closes x) xs ys

-- nothing comes after a closing entry
abbrev OpenTo : List EntryValue → List EntryValue → Type 0
OpenTo es [] = Unit {0}
OpenTo es (x ∷ xs) = is_closed es ≡ false

open_to : (o : ℕ) (es xs : List EntryValue) → IsChain o (es ++ xs) → OpenTo es xs
open_to o es [] chain = tt
open_to o es (x ∷ xs) chain = (chain_right o false 0 es (x ∷ xs) chain).0

pub ready-append : {A : Type 0} (xs ys : List (Verdict A)) → ready_in (xs ++ ys) ≡ ready_in xs ++ ready_in ys
ready-append [] ys = refl
ready-append (Ready e ∷ xs) ys = ap (λ l. e ∷ l) (ready-append xs ys)
ready-append (Held ∷ xs) ys = ready-append xs ys
ready-append (Repeat ∷ xs) ys = ready-append xs ys
ready-append (AfterClose ∷ xs) ys = ready-append xs ys
ready-append (Full ∷ xs) ys = ready-append xs ys

none : (n : ℕ) → n ≡ n + 0
none n = omega arith

-- the number of verdicts of each kind after one more
counts_more : {A : Type 0} (vs : List (Verdict A)) (i : ℕ) (v : Verdict A) (c : VerdictCounts) → i < length vs
    → v ≡ get_or vs i v
    → c ≡ counts_of (take i vs) → (r h p a f : ℕ) → r ≡ c.ready + cond (is_ready v) 1 0
    → h ≡ c.held + cond (is_held v) 1 0
    → p ≡ c.repeat + cond (is_repeat v) 1 0 → a ≡ c.after_close + cond (is_after_close v) 1 0
    → f ≡ c.full + cond (is_full v) 1 0
    → record { ready = r; held = h; repeat = p; after_close = a; full = f } ≡ counts_of (take (i + 1) vs)
counts_more {A} vs i v c within is so_far r h p a f er eh ep ea ef =
    let more : (k : Verdict A → Bool) (n m : ℕ) → n ≡ count_by k (take i vs) → m ≡ n + cond (k v) 1 0
    → m ≡ count_by k (take (i + 1) vs) =
    λ k n m was now. now ∙ ap (λ x. x + cond (k v) 1 0) was ∙ ap (λ y. count_by k (take i vs) + cond (k y) 1 0) is
    ∙ sym (sum_by_more (λ y. cond (k y) 1 0) vs i v within) in
    let eqr = more is_ready c.ready r (ap (λ (x : VerdictCounts). x.ready) so_far) er in
    let eqh = more is_held c.held h (ap (λ (x : VerdictCounts). x.held) so_far) eh in
    let eqp = more is_repeat c.repeat p (ap (λ (x : VerdictCounts). x.repeat) so_far) ep in
    let eqa = more is_after_close c.after_close a (ap (λ (x : VerdictCounts). x.after_close) so_far) ea in
    let eqf = more is_full c.full f (ap (λ (x : VerdictCounts). x.full) so_far) ef in
    λ j. record { ready = eqr j; held = eqh j; repeat = eqp j; after_close = eqa j; full = eqf j }

-- a verdict counts for its own kind only
pub counts_step : {A : Type 0} (vs : List (Verdict A)) (i : ℕ) (v : Verdict A) (c d : VerdictCounts) → i < length vs
    → v ≡ get_or vs i v
    → c ≡ counts_of (take i vs) → d ≡ with_verdict c v → d ≡ counts_of (take (i + 1) vs)
counts_step vs i (Ready e) c d within is so_far now =
    now ∙ counts_more vs i _ c within is so_far _ _ _ _ _ refl (none _) (none _) (none _) (none _)
counts_step vs i Held c d within is so_far now =
    now ∙ counts_more vs i _ c within is so_far _ _ _ _ _ (none _) refl (none _) (none _) (none _)
counts_step vs i Repeat c d within is so_far now =
    now ∙ counts_more vs i _ c within is so_far _ _ _ _ _ (none _) (none _) refl (none _) (none _)
counts_step vs i AfterClose c d within is so_far now =
    now ∙ counts_more vs i _ c within is so_far _ _ _ _ _ (none _) (none _) (none _) refl (none _)
counts_step vs i Full c d within is so_far now =
    now ∙ counts_more vs i _ c within is so_far _ _ _ _ _ (none _) (none _) (none _) (none _) refl

one_kind : {A : Type 0} (v : Verdict A)
    → cond (is_ready v) 1 0 + cond (is_held v) 1 0 + cond (is_repeat v) 1 0 + cond (is_after_close v) 1 0
    + cond (is_full v) 1 0 ≡ 1
one_kind (Ready e) = refl
one_kind Held = refl
one_kind Repeat = refl
one_kind AfterClose = refl
one_kind Full = refl

one_counted : {A : Type 0} (k : Verdict A → Bool) (v : Verdict A) (vs : List (Verdict A))
    → count_by k (v ∷ vs) ≡ cond (k v) 1 0 + count_by k vs
one_counted k v vs = sum_by-cons (λ y. cond (k y) 1 0) v vs

-- each verdict is counted once
all_counted : {A : Type 0} (vs : List (Verdict A)) → all_counts (counts_of vs) ≡ length vs
all_counted [] = refl
all_counted (v ∷ vs) =
    omega (
      arith,
      one_counted is_ready v vs,
      one_counted is_held v vs,
      one_counted is_repeat v vs,
      one_counted is_after_close v vs,
      one_counted is_full v vs,
      one_kind v,
      all_counted vs,
    )

-- so the counts are small
pub few_counted : {A : Type 0} (vs : List (Verdict A)) (i : ℕ) (c : VerdictCounts) → i < length vs
    → c ≡ counts_of (take i vs) → all_counts c < length vs
few_counted vs i c within is =
    omega (
      arith,
      ap (λ (x : VerdictCounts). all_counts x) is ∙ all_counted (take i vs)
          ∙ length-take-le i vs (omega arith),
    )

module _ {A : Type 0} where
  -- what is put for a list is what is put for its parts
  sent-append : (es xs : List EntryValue) → OpenTo es xs → sent {A = A} (es ++ xs) ≡ sent es ++ sent xs
  sent-append es [] free = ap sent (append-nil es) ∙ sym (append-nil (sent es))
  sent-append es (x ∷ xs) free =
      let whole : sent {A = A} es ≡ items_of es = ap (λ b. items_of es ++ end_if b) free ∙ append-nil (items_of es) in
      let all : items_of {A = A} (es ++ x ∷ xs) ≡ items_of es ++ items_of (x ∷ xs)
      = map-append (λ e. Entry e) es (x ∷ xs) in
      let last : is_closed (es ++ x ∷ xs) ≡ is_closed (x ∷ xs) = closed_from-append false es (x ∷ xs) in
      ap (λ l. l ++ end_if (is_closed (es ++ x ∷ xs))) all
      ∙ ap (λ b. (items_of es ++ items_of (x ∷ xs)) ++ end_if b) last
      ∙ append_assoc (items_of es) (items_of (x ∷ xs)) (end_if (is_closed (x ∷ xs)))
      ∙ ap (λ l. l ++ sent (x ∷ xs)) (sym whole)

  -- the next entry continues what was put
  pub next_continues : (ended : Bool) (put : List (Item A)) (e : EntryValue) (more : List EntryValue)
      → CanPut ended put (e ∷ more)
      → Continues put e × (ended ≡ false) × IsOpen put
  next_continues ended put e more c =
      let o = c.0 in
      let es = c.1 in
      let free : is_closed es ≡ false = (chain_right o false 0 es (e ∷ more) c.2).0 in
      let is : put ≡ items_of es = c.3 ∙ ap (λ b. items_of es ++ end_if b) free ∙ append-nil (items_of es) in
      let chain : IsChain o (es ++ e ∷ [])
      = chain_left o false 0 (es ++ e ∷ []) more (subst (IsChain o) (sym (append_assoc es (e ∷ []) more)) c.2) in
      ((o, es, is, chain), c.4 ∙ free, (es, is))

  -- the first of them may be put
  pub first_can : (ended : Bool) (put : List (Item A)) (e : EntryValue) (more : List EntryValue)
      → CanPut ended put (e ∷ more) → CanPut ended put (e ∷ [])
  first_can ended put e more c =
      let chain = chain_left c.0 false 0 (c.1 ++ e ∷ []) more
      (subst (IsChain c.0) (sym (append_assoc c.1 (e ∷ []) more)) c.2) in
      (c.0, c.1, chain, c.3, c.4)

  -- once the first of them were put, the others may be put
  pub others_can : (ended : Bool) (put : List (Item A)) (xs ys : List EntryValue) (later : Bool) (new : InletValue A)
      → CanPut ended put (xs ++ ys)
      → PutsAll put ended xs later new → CanPut later new.put ys
  others_can ended put xs ys later new c p =
      let o = c.0 in
      let es = c.1 in
      let chain : IsChain o ((es ++ xs) ++ ys) = subst (IsChain o) (sym (append_assoc es xs ys)) c.2 in
      let free = open_to o es xs (chain_left o false 0 (es ++ xs) ys chain) in (
        o,
        es ++ xs,
        chain,
        p.0 ∙ ap (λ l. l ++ sent xs) c.3 ∙ sym (sent-append es xs free),
        p.1 ∙ ap (λ b. closed_from b xs) c.4 ∙ sym (closed_from-append false es xs),
      )

  -- what is put first is not closed, if more is put
  inner_open : (ended : Bool) (put : List (Item A)) (xs ys : List EntryValue) → CanPut ended put (xs ++ ys)
      → OpenTo xs ys
  inner_open ended put xs [] c = tt
  inner_open ended put [] (y ∷ ys) c = refl
  inner_open ended put (x ∷ xs) (y ∷ ys) c =
      let chain = subst (IsChain c.0) (sym (append_assoc c.1 (x ∷ xs) (y ∷ ys))) c.2 in
      sym (closed_from-append false c.1 (x ∷ xs)) ∙ (chain_right c.0 false 0 (c.1 ++ x ∷ xs) (y ∷ ys) chain).0

  pub can_first : (ended : Bool) (put : List (Item A)) (xs ys : List EntryValue) → CanPut ended put (xs ++ ys)
      → CanPut ended put xs
  can_first ended put xs ys c = (
    c.0,
    c.1,
    chain_left c.0 false 0 (c.1 ++ xs) ys (subst (IsChain c.0) (sym (append_assoc c.1 xs ys)) c.2),
    c.3,
    c.4,
  )

  -- ---- one entry

  -- the lane was closed before it
  pub closed_at_put : (ended : Bool) (put : List (Item A)) (e : EntryValue) (new : InletValue A)
      → CanPut ended put (e ∷ []) → new.put ≡ put → new.dead ≡ true
      → PutsFront put (e ∷ []) ended new
  closed_at_put ended put e new c same dead =
      let n = next_continues ended put e [] c in
      ([], sent (e ∷ []), refl, same ∙ sym (append-nil put), dead, n.1, subst IsOpen (sym same) n.2)

  -- .. or after it
  pub closed_at_end : (ended : Bool) (put : List (Item A)) (e : EntryValue) (mid : List (Item A)) (new : InletValue A)
      → CanPut ended put (e ∷ [])
      → mid ≡ put ++ Entry e ∷ [] → new.put ≡ mid → new.dead ≡ true → PutsFront put (e ∷ []) ended new
  closed_at_end ended put e mid new c more same dead =
      let n = next_continues ended put e [] c in (
        Entry e ∷ [],
        end_if (closes e),
        refl,
        same
            ∙ more,
        dead,
        n.1,
        subst IsOpen (sym (same ∙ more)) (open_push put e n.2),
      )

  -- it was put alone, or with End after it
  pub put_one : (ended later : Bool) (put : List (Item A)) (e : EntryValue) (new : InletValue A) → later ≡ closes e
      → new.put ≡ (put ++ Entry e ∷ []) ++ end_if (closes e) → new.dead ≡ false → PutsAll put ended (e ∷ []) later new
  put_one ended later put e new last is live = (is ∙ append_assoc put (Entry e ∷ []) (end_if (closes e)), last, live)

  pub put_alone : (ended : Bool) (put : List (Item A)) (e : EntryValue) (new : InletValue A) → CanPut ended put (e ∷ [])
      → closes e ≡ false
      → new.put ≡ put ++ Entry e ∷ [] → new.dead ≡ false → PutsAll put ended (e ∷ []) ended new
  put_alone ended put e new c goes_on is live =
      let n = next_continues ended put e [] c in
      put_one ended ended put e new (n.1 ∙ sym goes_on)
      (is ∙ sym (append-nil (put ++ Entry e ∷ [])) ∙ ap (λ b. (put ++ Entry e ∷ []) ++ end_if b) (sym goes_on)) live

  pub put_ended : (ended : Bool) (put : List (Item A)) (e : EntryValue) (new : InletValue A) → closes e ≡ true
      → new.put ≡ (put ++ Entry e ∷ []) ++ End ∷ [] → new.dead ≡ false → PutsAll put ended (e ∷ []) true new
  put_ended ended put e new is all live =
      put_one ended true put e new (sym is) (all ∙ ap (λ b. (put ++ Entry e ∷ []) ++ end_if b) (sym is)) live

  -- ---- many

  -- both parts were put
  pub both_put : (ended : Bool) (put : List (Item A)) (xs ys : List EntryValue) (mid later : Bool) (a b : InletValue A)
      → CanPut ended put (xs ++ ys)
      → PutsAll put ended xs mid a → PutsAll a.put mid ys later b → PutsAll put ended (xs ++ ys) later b
  both_put ended put xs ys mid later a b c p q =
      let free = inner_open ended put xs ys c in (
        q.0 ∙ ap (λ l. l ++ sent ys) p.0 ∙ append_assoc put (sent xs) (sent ys)
            ∙ ap (λ l. put ++ l) (sym (sent-append xs ys free)),
        q.1 ∙ ap (λ x. closed_from x ys) p.1 ∙ sym (closed_from-append ended xs ys),
        q.2,
      )

  -- the first were put, and of the next ones a prefix
  pub front_put : (ended : Bool) (put : List (Item A)) (xs ys more : List EntryValue) (mid later : Bool)
      (a b : InletValue A)
      → CanPut ended put ((xs ++ ys) ++ more) → PutsAll put ended xs mid a → PutsFront a.put ys later b
      → PutsFront put ((xs ++ ys) ++ more) later b
  front_put ended put xs ys more mid later a b c p q =
      let front = q.0 in
      let rest = q.1 in
      let outer = inner_open ended put (xs ++ ys) more c in
      let inner = inner_open ended put xs ys (can_first ended put (xs ++ ys) more c) in
      let all : (sent xs ++ front) ++ rest ++ sent more ≡ sent ((xs ++ ys) ++ more) =
      ap (λ l. l ++ sent more) (append_assoc (sent xs) front rest ∙ ap (λ l. sent xs ++ l) q.2
      ∙ sym (sent-append xs ys inner))
      ∙ sym (sent-append (xs ++ ys) more outer) in (
        sent xs ++ front,
        rest ++ sent more,
        sym (append_assoc (sent xs ++ front) rest (sent more)) ∙ all,
        q.3 ∙ ap (λ l. l ++ front) p.0 ∙ append_assoc put (sent xs) front,
        q.4,
        q.5,
        q.6,
      )

  -- one more of the remaining verdicts
  pub one_more : (y : List (Verdict A)) (v : Verdict A) (left rest all : List (Verdict A)) → left ≡ v ∷ rest
      → y ++ left ≡ all
      → (y ++ v ∷ []) ++ rest ≡ all
  one_more y v left rest all next is = append_assoc y (v ∷ []) rest ∙ ap (λ l. y ++ l) (sym next) ∙ is

  -- a verdict among others
  pub split_ready : (y : List (Verdict A)) (v : Verdict A) (rest all : List (Verdict A)) → (y ++ v ∷ []) ++ rest ≡ all
      → ready_in all ≡ (ready_in y ++ ready_in (v ∷ [])) ++ ready_in rest
  split_ready y v rest all is = ap ready_in (sym is) ∙ ready-append (y ++ v ∷ []) rest
      ∙ ap (λ l. l ++ ready_in rest) (ready-append y (v ∷ []))

-- ---- a line

-- the message contains entries
pub entries_come : {A : Type 0} (old : InboundValue) (m : MessageValue) (vs : List (Verdict A)) (new : InboundValue)
    → Arrives old m (Entries vs) new → (es : List EntryValue) × EntriesCome old es vs new
entries_come old (AnEntry e) vs new a = (e ∷ [], a)
entries_come old (AnAnswer x) vs new a = (x.entries, a)
entries_come old (ABeat b) vs new a = absurd cc
entries_come old (AQuery q) vs new a = absurd cc
entries_come old (AnAsk x) vs new a = absurd cc
entries_come old (ADenial d) vs new a = absurd cc
entries_come old (AHello s) vs new a = absurd cc

-- there are few verdicts on what arrives with a message
pub few_come : {A : Type 0} (old : InboundValue) (m : MessageValue) (a : Arrival A) (new : InboundValue)
    → Arrives old m a new
    → length (verdicts_of a) ≤ MAX_VERDICTS
few_come old m (Entries vs) new x = (entries_come old m vs new x).1.few
few_come old m (Beat b) new x = omega arith
few_come old m (Query q) new x = omega arith
few_come old m (Ask k) new x = omega arith
few_come old m (Deny d) new x = omega arith
few_come old m Hello new x = omega arith

either_put : (put : List EntryValue) (b : Bool) (x y : BufferValue) → HasPut put x → HasPut put y
    → HasPut put (cond b x y)
either_put put true x y h k = h
either_put put false x y h k = k

heard : (put : List EntryValue) (b : BufferValue) (n : ℕ) → HasPut put b → HasPut put (after_beat b n)
heard put b n h = either_put put b.closed b _ h (record { chain = h.chain; last = h.last; closed = h.closed })

module _ {A : Type 0} where
  -- items that begin with these entries, and are entries alone
  opens : (es xs : List EntryValue) (d : Bool) (rest : List (Item A)) → items_of es ≡ (items_of xs ++ end_if d) ++ rest
      → (more : List EntryValue) × (es ≡ xs ++ more) × (rest ≡ items_of more)
  opens es [] false rest h = (es, refl, sym h)
  opens [] [] true rest h = absurd cc
  opens (e ∷ es) [] true rest h = absurd cc
  opens [] (x ∷ xs) true rest h = absurd cc
  opens [] (x ∷ xs) false rest h = absurd cc
  opens (e ∷ es) (x ∷ xs) d rest h =
      let same : e ≡ x = cc in
      let tail : items_of {A = A} es ≡ (items_of xs ++ end_if d) ++ rest = cc in
      let later = opens es xs d rest tail in
      (later.0, ap (λ (y : EntryValue). y ∷ es) same ∙ ap (λ (ys : List EntryValue). x ∷ ys) later.1, later.2)

  -- entries that begin those that are put, with End or without: the others are left
  pub left_of : (es xs : List EntryValue) (c d : Bool) (rest : List (Item A))
      → items_of {A = A} es ++ end_if c ≡ (items_of xs ++ end_if d) ++ rest
      → (more : List EntryValue) × (es ≡ xs ++ more)
  left_of es [] c d rest h = (es, refl)
  left_of [] (x ∷ xs) true d rest h = absurd cc
  left_of [] (x ∷ xs) false d rest h = absurd cc
  left_of (e ∷ es) (x ∷ xs) c d rest h =
      let same : e ≡ x = cc in
      let tail : items_of {A = A} es ++ end_if c ≡ (items_of xs ++ end_if d) ++ rest = cc in
      let later = left_of es xs c d rest tail in
      (later.0, ap (λ (y : EntryValue). y ∷ es) same ∙ ap (λ (ys : List EntryValue). x ∷ ys) later.1)

  brought : (old : InboundValue) (put es : List EntryValue) (a : Arrival A) (new : InboundValue) → HasPut put old.buffer
      → BringsEntries old es a new
      → HasPut (put ++ ready_of a) new.buffer
  brought old put es (Entries vs) new h x = x.chain put h
  brought old put es (Beat b) new h x = absurd x
  brought old put es (Query q) new h x = absurd x
  brought old put es (Ask k) new h x = absurd x
  brought old put es (Deny d) new h x = absurd x
  brought old put es Hello new h x = absurd x

  no_more : (put : List EntryValue) (a b : Arrival A) (c : BufferValue) → a ≡ b → ready_of b ≡ [] → HasPut put c
      → HasPut (put ++ ready_of a) c
  no_more put a b c is none h
      = subst (λ l. HasPut l c) (sym (ap (λ x. put ++ ready_of x) is ∙ ap (λ l. put ++ l) none ∙ append-nil put)) h

  -- whatever arrives, what became ready continues the chain of what was put
  delivers : (old : InboundValue) (put : List EntryValue) (m : MessageValue) (a : Arrival A) (new : InboundValue)
      → HasPut put old.buffer → Arrives old m a new
      → HasPut (put ++ ready_of a) new.buffer
  delivers old put (AnEntry e) a new h x = brought old put (e ∷ []) a new h x
  delivers old put (AnAnswer y) a new h x = brought old put y.entries a new h x
  delivers old put (ABeat b) a new h x =
      no_more put a (Beat b) new.buffer x.0 refl
      (subst (λ (i : InboundValue). HasPut put i.buffer) (sym x.1) (heard put old.buffer b.number h))
  delivers old put (AQuery q) a new h x
      = no_more put a (Query q) new.buffer x.0 refl (subst (λ (i : InboundValue). HasPut put i.buffer) (sym x.1) h)
  delivers old put (AnAsk k) a new h x
      = no_more put a (Ask k) new.buffer x.0 refl (subst (λ (i : InboundValue). HasPut put i.buffer) (sym x.1) h)
  delivers old put (ADenial d) a new h x
      = no_more put a (Deny d) new.buffer x.0 refl (subst (λ (i : InboundValue). HasPut put i.buffer) (sym x.1) h)
  delivers old put (AHello s) a new h x
      = no_more put a Hello new.buffer x.0 refl (subst (λ (i : InboundValue). HasPut put i.buffer) (sym x.1) h)

  -- of an intake that goes on, on a lane that was not found closed: all that was delivered was put
  pub record IsInStep (delivered : List EntryValue) (i : IntakeValue A) : Type 0 where
    put : i.inlet.put ≡ sent delivered
    ended : i.ended ≡ is_closed delivered

  in_step : (d : List EntryValue) (i : IntakeValue A) → Sends d i → i.inlet.dead ≡ false → i.finished ≡ false
      → IsInStep d i
  in_step d i s live going =
      let all : s.gone ≡ d = sym (append-nil s.gone) ∙ ap (λ l. s.gone ++ l) (sym (s.all_gone live)) ∙ sym s.whole in
      let closed = s.ended live going in
      record {
        put = s.put ∙ ap (λ b. items_of s.gone ++ end_if b) closed ∙ ap sent all;
        ended = closed ∙ ap is_closed all;
      }

  -- what became ready can be put
  pub can_take : (i : IntakeValue A) (m : MessageValue) (a : Arrival A) (new : InboundValue) → IsIntake i
      → i.inlet.dead ≡ false → i.finished ≡ false
      → Arrives i.inbound m a new → CanPut i.ended i.inlet.put (ready_of a)
  can_take i m a new is live going x =
      let h = delivers i.inbound is.delivered m a new is.of_buffer x in
      let s = in_step is.delivered i is.sends live going in
      (new.buffer.origin, is.delivered, h.chain, s.put, s.ended)

  sends_all : (d : List EntryValue) (i : IntakeValue A) → IsInStep d i → Sends d i
  sends_all d i s = record {
    gone = d;
    unsent = [];
    whole = sym (append-nil d);
    put = s.put ∙ ap (λ b. items_of d ++ end_if b) (sym s.ended);
    all_gone = λ _. refl;
    ended = λ _ _. s.ended;
  }

  -- before End entries alone were put
  pub open_before_end : (i : IntakeValue A) → IsIntake i → i.ended ≡ false → IsOpen i.inlet.put
  open_before_end i is free =
      let s = is.sends in
      (s.gone, s.put ∙ ap (λ b. items_of s.gone ++ end_if b) free ∙ append-nil (items_of s.gone))

  -- what became ready for a closed lane is still to be sent
  pub sends_none : (d ready : List EntryValue) (i : IntakeValue A) (new : InboundValue) → Sends d i
      → i.inlet.dead ≡ true
      → Sends (d ++ ready) (record i { inbound = new })
  sends_none d ready i new s dead = record {
    gone = s.gone;
    unsent = s.unsent ++ ready;
    whole = ap (λ l. l ++ ready) s.whole ∙ append_assoc s.gone s.unsent ready;
    put = s.put;
    all_gone = λ live. absurd (true≢false (sym dead ∙ live));
    ended = λ live _. absurd (true≢false (sym dead ∙ live));
  }

  -- a front of what became ready was put, and the rest is still to be sent
  sends_front : (d ready : List EntryValue) (i j : IntakeValue A) → IsInStep d i
      → PutsFront i.inlet.put ready j.ended j.inlet → Sends (d ++ ready) j
  sends_front d ready i j s f =
      let front = f.0 in
      let rest = f.1 in
      let entries = opens f.6.0 d (is_closed d) front (sym f.6.1 ∙ f.3
      ∙ ap (λ (l : List (Item A)). l ++ front) s.put) in
      let more = entries.0 in
      let left = left_of ready more (is_closed ready) false rest
      (sym f.2 ∙ ap (λ (l : List (Item A)). l ++ rest) (entries.2 ∙ sym (append-nil (items_of more)))) in
      record {
        gone = d ++ more;
        unsent = left.0;
        whole = ap (λ l. d ++ l) left.1 ∙ sym (append_assoc d more left.0);
        put =
            f.6.1 ∙ ap items_of entries.1 ∙ sym (append-nil (items_of (d ++ more)))
            ∙ ap (λ b. items_of (d ++ more) ++ end_if b) (sym f.5);
        all_gone = λ live. absurd (true≢false (sym f.4 ∙ live));
        ended = λ live _. absurd (true≢false (sym f.4 ∙ live));
      }

  -- all that became ready was put
  in_step_after : (o : ℕ) (d ready : List EntryValue) (i j : IntakeValue A) → IsInStep d i → IsChain o (d ++ ready)
      → PutsAll i.inlet.put i.ended ready j.ended j.inlet → IsInStep (d ++ ready) j
  in_step_after o d ready i j s chain p =
      let free = open_to o d ready chain in
      record {
        put = p.0 ∙ ap (λ l. l ++ sent ready) s.put ∙ sym (sent-append d ready free);
        ended = p.1 ∙ ap (λ b. closed_from b ready) s.ended ∙ sym (closed_from-append false d ready);
      }

  -- an arrival was taken in: all that became ready was put, or a front of it
  abbrev pub IsTakenIn : IntakeValue A → Arrival A → Result Arrived IntakeError → IntakeValue A → Type 0
  IsTakenIn i a r j =
      IfOk r (λ arrived. (arrived ≡ arrived_of a) × PutsAll i.inlet.put i.ended (ready_of a) j.ended j.inlet)
      × IfErr r (λ fault. (fault ≡ LaneClosed) × PutsFront i.inlet.put (ready_of a) j.ended j.inlet)

  pub sends_arrival : (o : ℕ) (d : List EntryValue) (i j : IntakeValue A) (a : Arrival A)
      (r : Result Arrived IntakeError) → Sends d i
      → i.inlet.dead ≡ false → i.finished ≡ false → IsChain o (d ++ ready_of a)
      → IsTakenIn i a r j → Sends (d ++ ready_of a) j
  sends_arrival o d i j a (Ok arrived) s live going chain taken =
      sends_all (d ++ ready_of a) j (in_step_after o d (ready_of a) i j (in_step d i s live going) chain taken.0.1)
  sends_arrival o d i j a (Err fault) s live going chain taken
      = sends_front d (ready_of a) i j (in_step d i s live going) taken.1.1

  -- a dead intake puts nothing
  pub finds_closed : (i : IntakeValue A) (read : Result MessageValue LineError) (m : MessageValue) (arrival : Arrival A)
      (new : InboundValue)
      → read ≡ Ok m → Arrives i.inbound m arrival new → i.inlet.dead ≡ true
      → FindsClosed i read (record i { inbound = new })
  finds_closed i read m arrival new is arrives dead = (
    arrival,
    record { message = m; read_as = is; arrives = arrives; lane = refl },
    [],
    sent (ready_of arrival),
    refl,
    sym (append-nil i.inlet.put),
    dead,
  )

  -- where nothing came yet
  pub none_sent : (i : IntakeValue A) → i.inlet.put ≡ [] → i.ended ≡ false → Sends [] i
  none_sent i empty free = sends_all [] i (record { put = empty; ended = free })

  pub new_intake : (i : IntakeValue A) → HasPut [] i.inbound.buffer → i.inlet.put ≡ [] → i.ended ≡ false → IsIntake i
  new_intake i h empty free = record { delivered = []; of_buffer = h; sends = none_sent i empty free }

  -- what is left of it
  pub still_intake : (i j : IntakeValue A) (m : MessageValue) (a : Arrival A) (r : Result Arrived IntakeError)
      → IsIntake i → i.inlet.dead ≡ false
      → i.finished ≡ false → Arrives i.inbound m a j.inbound
      → IsTakenIn i a r j → IsIntake j
  still_intake i j m a r is live going x taken =
      let h = delivers i.inbound is.delivered m a j.inbound is.of_buffer x in
      record {
        delivered = is.delivered ++ ready_of a;
        of_buffer = h;
        sends = sends_arrival j.inbound.buffer.origin is.delivered i j a r is.sends live going h.chain taken;
      }

  pub dead_intake : (i : IntakeValue A) (m : MessageValue) (a : Arrival A) (new : InboundValue) → IsIntake i
      → Arrives i.inbound m a new
      → i.inlet.dead ≡ true → IsIntake (record i { inbound = new })
  dead_intake i m a new is x dead = record {
    delivered = is.delivered ++ ready_of a;
    of_buffer = delivers i.inbound is.delivered m a new is.of_buffer x;
    sends = sends_none is.delivered (ready_of a) i new is.sends dead;
  }

  -- what that says of the line
  pub line_leaves : (i j : IntakeValue A) (read : Result MessageValue LineError) (a : Arrival A)
      (r : Result Arrived IntakeError) → Brings i read a j
      → IsTakenIn i a r j → LineLeaves i read r j
  line_leaves i j read a (Ok arrived) b taken = let all = taken.0 in (a, b, all.0, all.1.0, all.1.2)
  line_leaves i j read a (Err LaneClosed) b taken = let f = taken.1.1 in (a, b, f.0, f.1, f.2, f.3, f.4)
  line_leaves i j read a (Err (Inbound x)) b taken = absurd (let is = taken.1.0 in cc)
