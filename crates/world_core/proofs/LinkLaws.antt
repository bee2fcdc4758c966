-- The effect of entries of a log on a link.
use Rattle.std.proofs.Common.{zero-add, suc-add, ◌≡◌, ◌+◌, ◌≤◌, ℕ, max, List, [], ◌∷◌, ◌++◌, length, length-append}
use Rattle.std.proofs.Common.{take, drop, ap, arith, refl, sym, subst, ◌∙◌, append-nil, append_assoc}
use Rattle.std.specs.Prelude.{Bool, true, false, Option, Some, None}
use Rattle.std.specs.Option.{option_map}
use Rattle.std.specs.List.{All, Contains, slice_get}
use Rattle.std.proofs.lemmas.Option.{get_or_from_slice_get, slice_get_within}
use Rattle.std.proofs.lemmas.List.{take-append-le, take-append-drop, take_more, length-take-le, nil_from_length}
use Rattle.std.proofs.lemmas.List.Elements.{All-head, All-tail, All-contains_itself, Contains-append_right}
use Rattle.rights_types.specs.Entries.{EntryValue, own}
use Rattle.rights_types.specs.Chains.{end, closed_from, IsChain}
use Rattle.rights_types.proofs.Chains.{own_below, end_from-append, end_from-le, chain_right}
use Rattle.sub_buffer.specs.Arrivals.{MayFree, SettledArrival}
use Rattle.sub_buffer.specs.Buffers.{BufferValue}
use Rattle.sub_buffer.specs.Follows.{Follows, SettledVerdict, put_after, reached_after}
use Rattle.sub_buffer.specs.Table.{OfferLeaves}
use Rattle.sub_buffer.specs.declared.verdict.Verdict.{Verdict as BufferVerdict}
use Rattle.sub_buffer.specs.declared.verdict.Verdict.TheVariants.{Ready, Held, Repeat, AfterClose, Full}
use Rattle.inbound.specs.Inbounds.{InboundValue}
use Rattle.world_core.specs.Values.{LinkValue}
use Rattle.world_core.specs.LinkEvents.{reported_all, LinkTakes, LinkTakesAll, with_applied}
use Rattle.world_core.specs.IncomingLists.{reached_by, reached_in, gone_in, put_in, link_of, NoneAhead, SameLists}
use Rattle.world_core.specs.IncomingLists.{IncomingTakes, IsIncoming}
use Rattle.world_core.specs.declared.link.incoming.Incoming.{Incoming}
use Rattle.world_core.specs.declared.reply.EntryVerdict.{EntryVerdict}
use Rattle.world_core.proofs.IncomingLaws.{some_is}

-- ---- what is put

-- what was delivered stays, and more comes after it
more_put : {A : Type 0} (put : List EntryValue) (v : BufferVerdict A) (freed : List EntryValue)
    → (more : List EntryValue) × (put_after put v ++ freed ≡ put ++ more)
more_put put (Ready e) freed = (e ∷ freed, append_assoc put (e ∷ []) freed)
more_put put Held freed = (freed, refl)
more_put put Repeat freed = (freed, refl)
more_put put AfterClose freed = (freed, refl)
more_put put Full freed = (freed, refl)

still_applied : {A : Type 0} (applied : ℕ) (put new : List EntryValue) (v : BufferVerdict A) (freed : List EntryValue)
    → applied ≤ length put → new ≡ put_after put v ++ freed → take applied new ≡ take applied put
still_applied applied put new v freed within is =
    let h = more_put put v freed in
    ap (λ es. take applied es) (is ∙ h.1) ∙ take-append-le applied put h.0 within

-- if all that reached the site was delivered, and the entry e is not ahead, this remains so
all_put : {A : Type 0} (es put : List EntryValue) (old mid new : BufferValue) (e : EntryValue) (v : BufferVerdict A)
    (freed : List EntryValue)
    → e.prev ≤ old.last → OfferLeaves old e v mid → MayFree v freed → SettledVerdict put put e v
    → Follows es (reached_after put e v) (put_after put v ++ freed) new
    → put_after put v ++ freed ≡ reached_after put e v
all_put es put old mid new e (Ready x) freed next table may verdict f =
    let none : freed ≡ [] =
    nil_from_length freed (omega (
      arith,
      f.count,
      length-append put (e ∷ []),
      length-append (put ++ x ∷ []) freed,
      length-append put (x ∷ []),
    )) in
    ap (λ xs. (put ++ x ∷ []) ++ xs) none ∙ append-nil (put ++ x ∷ []) ∙ ap (λ y. put ++ y ∷ []) verdict.2
all_put es put old mid new e Held freed next table may verdict f = absurd (omega (arith, next, table.0.later))
all_put es put old mid new e Repeat freed next table may verdict f = ap (λ xs. put ++ xs) may ∙ append-nil put
all_put es put old mid new e AfterClose freed next table may verdict f = absurd verdict
all_put es put old mid new e Full freed next table may verdict f = absurd (omega (arith, next, table.0.later))

-- such an entry is among them
is_put : {A : Type 0} (put : List EntryValue) (old mid : BufferValue) (e : EntryValue) (v : BufferVerdict A)
    → e.prev ≤ old.last → OfferLeaves old e v mid → SettledVerdict put put e v → Contains (reached_after put e v) e
is_put put old mid e (Ready x) next table verdict =
    Contains-append_right put (e ∷ []) e (All-head (Contains (e ∷ [])) e [] (All-contains_itself (e ∷ [])))
is_put put old mid e Held next table verdict = absurd (omega (arith, next, table.0.later))
is_put put old mid e Repeat next table verdict = verdict
is_put put old mid e AfterClose next table verdict = absurd verdict
is_put put old mid e Full next table verdict = absurd (omega (arith, next, table.0.later))

-- ---- what reached the site

reached_apart : {A V : Type 0} (items : V → List EntryValue) (old new : Option V) (put later : List EntryValue)
    (e : EntryValue) (v : BufferVerdict A)
    → option_map items new ≡ option_map (λ l. reached_after (items l) e v) old
    → (old ≡ None → later ≡ reached_after put e v)
    → reached_by items new later ≡ reached_after (reached_by items old put) e v
reached_apart items None None put later e v lists h = h refl
reached_apart items None (Some new) put later e v lists h = absurd (grind (arith, lists))
reached_apart items (Some old) None put later e v lists h = absurd (grind (arith, lists))
reached_apart items (Some old) (Some new) put later e v lists h =
    some_is (items new) (reached_after (items old) e v) lists

-- an entry e of the log es arrives, which is not ahead if what reached the site is kept and there is no separate list
pub record Coming {A K : Type 0} (keeps : Bool) (es : List EntryValue) (i : Incoming A K) (e : EntryValue)
    : Type 0 where
  pub of_log : Contains es e
  pub follows : Follows es (reached_in keeps i) (put_in keeps i) i.inbound.buffer
  pub next : keeps ≡ true → i.apart ≡ None → e.prev ≤ i.inbound.buffer.last

-- the arrival if there is no separate list
arrival_in_order : {A K : Type 0} (es : List EntryValue) (old new : Incoming A K) (before after : List EntryVerdict)
    (e : EntryValue) (v : BufferVerdict A) (freed : List EntryValue)
    → Coming true es old e → IncomingTakes old before e v freed new after → old.apart ≡ None
    → SettledArrival es old.put.items old.put.items e v freed old.inbound.buffer.told new.inbound.buffer
arrival_in_order es old new before after e v freed c t none =
    let put_all : reached_in true old ≡ old.put.items = ap (λ o. reached_by (λ l. l.items) o old.put.items) none in
    t.arrives.log es old.put.items old.put.items c.of_log
    (subst (λ set. Follows es set old.put.items old.inbound.buffer) put_all c.follows)

put_in_order : {A K : Type 0} (es : List EntryValue) (old new : Incoming A K) (before after : List EntryVerdict)
    (e : EntryValue) (v : BufferVerdict A) (freed : List EntryValue)
    → Coming true es old e → IncomingTakes old before e v freed new after → old.apart ≡ None
    → new.put.items ≡ reached_after old.put.items e v
put_in_order es old new before after e v freed c t none =
    let s = arrival_in_order es old new before after e v freed c t none in
    let table = t.arrives.table in
    t.put ∙ all_put es old.put.items old.inbound.buffer table.0 new.inbound.buffer e v freed (c.next refl none) table.1
    t.arrives.frees s.0 s.1

pub reached_is : {A K : Type 0} (keeps : Bool) (es : List EntryValue) (old new : Incoming A K)
    (before after : List EntryVerdict) (e : EntryValue) (v : BufferVerdict A) (freed : List EntryValue)
    → Coming keeps es old e → IncomingTakes old before e v freed new after
    → reached_in keeps new ≡ reached_after (reached_in keeps old) e v
reached_is true es old new before after e v freed c t =
    reached_apart (λ l. l.items) old.apart new.apart old.put.items new.put.items e v t.apart
    (put_in_order es old new before after e v freed c t)
reached_is false es old new before after e v freed c t = t.seen

-- ---- what was put and is gone

gone_is : {A K : Type 0} (keeps : Bool) (old new : Incoming A K) → new.gone.items ≡ old.gone.items
    → gone_in keeps new ≡ gone_in keeps old
gone_is true old new same = refl
gone_is false old new same = same

put_behind : {A : Type 0} (gone put : List EntryValue) (v : BufferVerdict A) (freed : List EntryValue)
    → gone ++ (put_after put v ++ freed) ≡ put_after (gone ++ put) v ++ freed
put_behind gone put (Ready e) freed =
    sym (append_assoc gone (put ++ e ∷ []) freed) ∙ ap (λ es. es ++ freed) (sym (append_assoc gone put (e ∷ [])))
put_behind gone put Held freed = sym (append_assoc gone put freed)
put_behind gone put Repeat freed = sym (append_assoc gone put freed)
put_behind gone put AfterClose freed = sym (append_assoc gone put freed)
put_behind gone put Full freed = sym (append_assoc gone put freed)

put_is : {A K : Type 0} (keeps : Bool) (old new : Incoming A K) (before after : List EntryVerdict) (e : EntryValue)
    (v : BufferVerdict A) (freed : List EntryValue)
    → IncomingTakes old before e v freed new after → put_in keeps new ≡ put_after (put_in keeps old) v ++ freed
put_is keeps old new before after e v freed t =
    ap (λ es. es ++ new.put.items) (gone_is keeps old new t.gone) ∙ ap (λ es. gone_in keeps old ++ es) t.put
    ∙ put_behind (gone_in keeps old) old.put.items v freed

-- ---- one entry

still_follows : {A K : Type 0} (keeps : Bool) (es : List EntryValue) (old new : Incoming A K)
    (before after : List EntryVerdict) (e : EntryValue) (v : BufferVerdict A) (freed : List EntryValue)
    → Coming keeps es old e → IncomingTakes old before e v freed new after
    → Follows es (reached_in keeps new) (put_in keeps new) new.inbound.buffer
still_follows keeps es old new before after e v freed c t =
    let s = t.arrives.log es (reached_in keeps old) (put_in keeps old) c.of_log c.follows in
    rw (reached_is keeps es old new before after e v freed c t) (rw (put_is keeps old new before after e v freed t) s.1)

link_takes : {A K : Type 0} (keeps : Bool) (es : List EntryValue) (applied : ℕ) (old new : Incoming A K)
    (before after : List EntryVerdict) (e : EntryValue) (v : BufferVerdict A) (freed : List EntryValue)
    → applied ≤ length old.put.items → Coming keeps es old e → IncomingTakes old before e v freed new after
    → LinkTakes es (link_of keeps old applied) e v freed (link_of keeps new applied)
link_takes keeps es applied old new before after e v freed within c t =
    let s = t.arrives.log es (reached_in keeps old) (put_in keeps old) c.of_log c.follows in
    let r = reached_is keeps es old new before after e v freed c t in
    let p = put_is keeps old new before after e v freed t in
    let same : gone_in keeps new ++ take applied new.put.items ≡ gone_in keeps old ++ take applied old.put.items =
    ap (λ xs. xs ++ take applied new.put.items) (gone_is keeps old new t.gone)
    ∙ ap (λ xs. gone_in keeps old ++ xs) (still_applied applied old.put.items new.put.items v freed within t.put) in
    let with : InboundValue → List EntryValue
    → LinkValue = λ i xs. record {
      inbound = i;
      reached = reached_in keeps new;
      put = put_in keeps new;
      applied = xs;
    } in
    record {
      verdict = s.0;
      reached = r;
      put = p;
      longest = rw r (rw p s.2);
      told = s.3;
      buffer = t.arrives;
      rest = ap (λ i. with i (gone_in keeps new ++ take applied new.put.items)) t.inbound
          ∙ ap (λ xs. with (record old.inbound { buffer = new.inbound.buffer }) xs) same;
    }

-- ---- none ahead

none_ahead_of_more : (m n : ℕ) (es : List EntryValue) → m ≤ n → NoneAhead m es → NoneAhead n es
none_ahead_of_more m n [] le h = tt
none_ahead_of_more m n (e ∷ es) le h =
    (omega (arith, le, h.0), none_ahead_of_more (max m (own e)) (max n (own e)) es (omega (arith, le)) h.1)

-- the last number that was delivered is no less than before, nor than that of the entry
last_after : {A K : Type 0} (es : List EntryValue) (old new : Incoming A K) (before after : List EntryVerdict)
    (e : EntryValue) (v : BufferVerdict A) (freed : List EntryValue)
    → Coming true es old e → IncomingTakes old before e v freed new after → old.apart ≡ None
    → max old.inbound.buffer.last (own e) ≤ new.inbound.buffer.last
last_after es old new before after e v freed c t none =
    let f = still_follows true es old new before after e v freed c t in
    let s = arrival_in_order es old new before after e v freed c t none in
    let more = more_put old.put.items v freed in
    let table = t.arrives.table in
    let longer : new.put.items ≡ old.put.items ++ more.0 = t.put ∙ more.1 in
    let inside = is_put old.put.items old.inbound.buffer table.0 e v (c.next refl none) table.1 s.0 in
    let own_in : Contains new.put.items e =
    subst (λ xs. Contains xs e) (sym (put_in_order es old new before after e v freed c t none)) inside in
    let rest =
    chain_right new.inbound.buffer.origin false 0 old.put.items more.0
    (subst (IsChain new.inbound.buffer.origin) longer f.has_put.chain) in
    omega (
      arith,
      own_below new.inbound.buffer.origin false 0 new.put.items e f.has_put.chain own_in,
      f.has_put.last,
      c.follows.has_put.last,
      ap (λ xs. end xs) longer,
      end_from-append 0 old.put.items more.0,
      end_from-le new.inbound.buffer.origin (closed_from false old.put.items) (end old.put.items) more.0 rest,
    )

-- ---- entries, one after another

-- what becomes of a link from here becomes of it from the start: `rest` is what is still to come of `entries`, these
-- verdicts were returned, and if there is no separate list, none of the rest is ahead
pub record GoesOn {A K : Type 0} (keeps : Bool) (es : List EntryValue) (start : LinkValue) (entries : List EntryValue)
    (i : Incoming A K) (applied : ℕ) (rest : List EntryValue) (list : List EntryVerdict) : Type 0 where
  pub of_log : All (Contains es) rest
  pub follows : Follows es (reached_in keeps i) (put_in keeps i) i.inbound.buffer
  pub in_order : keeps ≡ true → i.apart ≡ None → NoneAhead i.inbound.buffer.last rest
  pub takes : (new : LinkValue) (more : List EntryVerdict) → LinkTakesAll A es (link_of keeps i applied) rest more new
      → LinkTakesAll A es start entries (list ++ more) new

-- nothing has arrived yet
pub goes_on_first : {A K : Type 0} (keeps : Bool) (es entries : List EntryValue) (i : Incoming A K) (applied : ℕ)
    → All (Contains es) entries → Follows es (reached_in keeps i) (put_in keeps i) i.inbound.buffer
    → (keeps ≡ true → i.apart ≡ None → NoneAhead i.inbound.buffer.last entries)
    → GoesOn keeps es (link_of keeps i applied) entries i applied entries []
goes_on_first keeps es entries i applied of_log follows in_order =
    record { of_log = of_log; follows = follows; in_order = in_order; takes = λ new more h. h }

still_none : {A V : Type 0} (items : V → List EntryValue) (old new : Option V) (v : BufferVerdict A) (e : EntryValue)
    → option_map items new ≡ option_map (λ l. reached_after (items l) e v) old → new ≡ None → old ≡ None
still_none items None new v e lists none = refl
still_none items (Some l) new v e lists none = absurd (grind (arith, lists, none))

-- none of those that then arrive is ahead
still_in_order : {A K : Type 0} (keeps : Bool) (es : List EntryValue) (old new : Incoming A K) (rest : List EntryValue)
    (before after : List EntryVerdict) (e : EntryValue) (v : BufferVerdict A) (freed : List EntryValue)
    → Coming keeps es old e → IncomingTakes old before e v freed new after
    → (keeps ≡ true → old.apart ≡ None → NoneAhead old.inbound.buffer.last (e ∷ rest))
    → keeps ≡ true → new.apart ≡ None → NoneAhead new.inbound.buffer.last rest
still_in_order true es old new rest before after e v freed c t h is none =
    let was = still_none (λ l. l.items) old.apart new.apart v e t.apart none in
    none_ahead_of_more (max old.inbound.buffer.last (own e)) new.inbound.buffer.last rest
    (last_after es old new before after e v freed c t was) (h is was).1
still_in_order false es old new rest before after e v freed c t h is none = absurd cc

-- one more arrived
pub goes_on_next : {A K : Type 0} (keeps : Bool) (es : List EntryValue) (start : LinkValue) (entries : List EntryValue)
    (old new : Incoming A K) (applied : ℕ) (rest : List EntryValue) (before after : List EntryVerdict)
    (e : EntryValue) (v : BufferVerdict A) (freed : List EntryValue) → applied ≤ length old.put.items
    → IncomingTakes old before e v freed new after
    → GoesOn keeps es start entries old applied (e ∷ rest) before → GoesOn keeps es start entries new applied rest after
goes_on_next {A} keeps es start entries old new applied rest before after e v freed within t g =
    let c : Coming keeps es old e =
    record {
      of_log = All-head (Contains es) e rest g.of_log;
      follows = g.follows;
      next = λ is none. (g.in_order is none).0;
    } in record {
      of_log = All-tail (Contains es) e rest g.of_log;
      follows = still_follows keeps es old new before after e v freed c t;
      in_order = still_in_order keeps es old new rest before after e v freed c t g.in_order;
      takes = λ last more h.
          let takes = link_takes keeps es applied old new before after e v freed within c t in
          subst (λ vs. LinkTakesAll A es start entries vs last)
          (sym (ap (λ vs. vs ++ more) t.reported ∙ append_assoc before (reported_all v freed) more))
          (g.takes last (reported_all v freed ++ more) (v, freed, link_of keeps new applied, more, takes, h, refl));
    }

-- all arrived
pub goes_on_last : {A K : Type 0} (keeps : Bool) (es : List EntryValue) (start : LinkValue) (entries : List EntryValue)
    (i : Incoming A K) (applied : ℕ) (list : List EntryVerdict)
    → GoesOn keeps es start entries i applied [] list → LinkTakesAll A es start entries list (link_of keeps i applied)
goes_on_last {A} keeps es start entries i applied list g =
    subst (λ vs. LinkTakesAll A es start entries vs (link_of keeps i applied)) (append-nil list)
    (g.takes (link_of keeps i applied) [] (refl, refl))

-- more capacity does not change a link
pub same_link : {A K : Type 0} (keeps : Bool) (old new : Incoming A K) (applied : ℕ) → SameLists old new
    → link_of keeps new applied ≡ link_of keeps old applied
same_link keeps old new applied same =
    let with : InboundValue → List EntryValue → List EntryValue → List EntryValue → LinkValue =
    λ i xs gone ys. record { inbound = i; reached = xs; put = gone ++ ys; applied = gone ++ take applied ys } in
    ap (λ i. with i (reached_in keeps new) (gone_in keeps new) new.put.items) same.inbound
    ∙ ap (λ xs. with old.inbound xs (gone_in keeps new) new.put.items) (same.reached keeps)
    ∙ ap (λ xs. with old.inbound (reached_in keeps old) xs new.put.items) (gone_is keeps old new same.gone)
    ∙ ap (λ ys. with old.inbound (reached_in keeps old) (gone_in keeps old) ys) same.put

-- memory was reserved, and entries are to arrive
pub goes_on_start : {A K : Type 0} (keeps : Bool) (es entries : List EntryValue) (link : LinkValue)
    (old room : Incoming A K) (applied : ℕ) (list : List EntryVerdict)
    → link_of keeps old applied ≡ link → SameLists old room → list ≡ [] → All (Contains es) entries
    → Follows es link.reached link.put link.inbound.buffer
    → (keeps ≡ true → room.apart ≡ None → NoneAhead room.inbound.buffer.last entries)
    → GoesOn keeps es link entries room applied entries list
goes_on_start keeps es entries link old room applied list is same none of_log follows in_order =
    let at : link_of keeps room applied ≡ link = same_link keeps old room applied same ∙ is in
    let f : Follows es (reached_in keeps room) (put_in keeps room) room.inbound.buffer =
    subst (λ (l : LinkValue). Follows es l.reached l.put l.inbound.buffer) (sym at) follows in
    subst (λ l. GoesOn keeps es l entries room applied entries list) at
    (subst (GoesOn keeps es (link_of keeps room applied) entries room applied entries) (sym none)
    (goes_on_first keeps es entries room applied of_log f in_order))

-- a link's parts stay in order
pub still_incoming : {A K : Type 0} (applied : ℕ) (old new : Incoming A K) (before after : List EntryVerdict)
    (e : EntryValue) (v : BufferVerdict A) (freed : List EntryValue)
    → IsIncoming old applied → IncomingTakes old before e v freed new after → IsIncoming new applied
still_incoming applied old new before after e v freed ok t =
    let more = more_put old.put.items v freed in
    let longer : new.put.items ≡ old.put.items ++ more.0 = t.put ∙ more.1 in
    record {
      within = omega (arith, ok.within, ap (λ es. length es) longer, length-append old.put.items more.0);
      few = t.arrives.few;
    }

pub roomy_incoming : {A K : Type 0} (applied : ℕ) (old new : Incoming A K) → IsIncoming old applied → SameLists old new
    → IsIncoming new applied
roomy_incoming applied old new ok same = record {
  within = omega (arith, ok.within, ap (λ es. length es) same.put);
  few = omega (arith, ok.few, ap (λ (i : InboundValue). length i.buffer.held) same.inbound);
}

-- ---- applying

slice_get-behind : (xs ys : List EntryValue) (n : ℕ) → slice_get (xs ++ ys) (length xs + n) ≡ slice_get ys n
slice_get-behind [] ys n = ap (λ k. slice_get ys k) (zero-add n)
slice_get-behind (x ∷ xs) ys n =
    ap (λ k. slice_get (x ∷ (xs ++ ys)) k) (suc-add (length xs) n) ∙ slice_get-behind xs ys n

-- the next one comes after those that were dropped and those that were applied
pub next_is : {A K : Type 0} (keeps : Bool) (i : Incoming A K) (applied : ℕ) → applied ≤ length i.put.items
    → slice_get (put_in keeps i) (length (gone_in keeps i ++ take applied i.put.items)) ≡ slice_get i.put.items applied
next_is keeps i applied within =
    ap (λ n. slice_get (put_in keeps i) n) (length-append (gone_in keeps i) (take applied i.put.items)
    ∙ ap (λ n. length (gone_in keeps i) + n) (length-take-le applied i.put.items within))
    ∙ slice_get-behind (gone_in keeps i) i.put.items applied

pub one_applied : {A K : Type 0} (keeps : Bool) (i : Incoming A K) (applied : ℕ) (l : LinkValue) (e : EntryValue)
    → link_of keeps i applied ≡ l → applied ≤ length i.put.items
    → slice_get l.put (length l.applied) ≡ Some e → link_of keeps i (applied + 1) ≡ with_applied l e
one_applied keeps i applied l e is within next =
    let at : slice_get (put_in keeps i) (length (gone_in keeps i ++ take applied i.put.items)) ≡ Some e =
    subst (λ (x : LinkValue). slice_get x.put (length x.applied) ≡ Some e) (sym is) next in
    let there : slice_get i.put.items applied ≡ Some e = sym (next_is keeps i applied within) ∙ at in
    let more : take (applied + 1) i.put.items ≡ take applied i.put.items ++ e ∷ [] =
    take_more i.put.items applied e (slice_get_within i.put.items applied e there)
    ∙ ap (λ x. take applied i.put.items ++ x ∷ []) (get_or_from_slice_get i.put.items applied e e there) in
    let all = ap (λ xs. gone_in keeps i ++ xs) more
    ∙ sym (append_assoc (gone_in keeps i) (take applied i.put.items) (e ∷ [])) in
    ap (λ (xs : List EntryValue). record (link_of keeps i applied) { applied = xs }) all
    ∙ ap (λ (x : LinkValue). with_applied x e) is

-- the entry e was applied, and is dropped with those before it
pub some_gone : {A K : Type 0} (keeps : Bool) (old new : Incoming A K) (applied : ℕ) (l : LinkValue) (e : EntryValue)
    → keeps ≡ false → link_of keeps old applied ≡ l → applied ≤ length old.put.items
    → slice_get l.put (length l.applied) ≡ Some e → new ≡ record old { gone = new.gone; put = new.put }
    → new.gone.items ≡ old.gone.items ++ take (applied + 1) old.put.items
    → new.put.items ≡ drop (applied + 1) old.put.items → link_of keeps new 0 ≡ with_applied l e
some_gone true old new applied l e is at within next same gone left = absurd cc
some_gone false old new applied l e is at within next same gone left =
    let with : InboundValue → List EntryValue → List EntryValue → List EntryValue
    → LinkValue = λ i seen put xs. record { inbound = i; reached = seen; put = put; applied = xs } in
    let put : new.gone.items ++ new.put.items ≡ old.gone.items ++ old.put.items =
    ap (λ es. new.gone.items ++ es) left ∙ ap (λ es. es ++ drop (applied + 1) old.put.items) gone
    ∙ append_assoc old.gone.items (take (applied + 1) old.put.items) (drop (applied + 1) old.put.items)
    ∙ ap (λ es. old.gone.items ++ es) (take-append-drop (applied + 1) old.put.items) in
    let xs : new.gone.items ++ take 0 new.put.items ≡ old.gone.items ++ take (applied + 1) old.put.items =
    append-nil new.gone.items ∙ gone in
    ap (λ i. with i new.seen.items (new.gone.items ++ new.put.items) (new.gone.items ++ take 0 new.put.items))
    (ap (λ i. i.inbound) same)
    ∙ ap (λ seen. with old.inbound seen (new.gone.items ++ new.put.items) (new.gone.items ++ take 0 new.put.items))
    (ap (λ i. i.seen.items) same)
    ∙ ap (λ es. with old.inbound old.seen.items es (new.gone.items ++ take 0 new.put.items)) put
    ∙ ap (λ es. with old.inbound old.seen.items (old.gone.items ++ old.put.items) es) xs
    ∙ one_applied false old applied l e at within next
