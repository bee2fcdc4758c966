-- What the table says of a buffer that follows a log.
use Rattle.std.proofs.Common.{◌≡◌, ℕ, ◌+◌, ◌<◌, ◌≤◌, Bool, true, false, cond, List, [], ◌∷◌, ◌++◌, ◌⊎◌, inl, inr}
use Rattle.std.proofs.Common.{length, get_or, Option, Some, None, arith, refl, sym, ap, ◌∙◌, subst}
use Rattle.std.specs.Prelude.{max}
use Rattle.std.specs.Option.{option_to_list, IfSome}
use Rattle.std.specs.List.{All, Contains}
use Rattle.std.proofs.lemmas.List.{length-append, append-nil}
use Rattle.std.proofs.lemmas.List.Elements.{All-nil, All-push, All-contains, Contains-append_left, Contains-push}
use Rattle.std.proofs.lemmas.List.Elements.{Contains-push_cases, Contains-get_or}
use Rattle.rights_types.specs.Entries.{EntryValue, own, IsEntry}
use Rattle.rights_types.specs.Chains.{end, IsChain, IsPrefix, IsLongest, IsBeyond}
use Rattle.rights_types.proofs.Chains.{not_in_nil, all_in_more, end-push, closed-push, chain_push, is_entry}
use Rattle.sub_buffer.specs.Buffers.{BufferValue, HasPrev, before, onward, InOrder, IsBuffer, IsSettled, new_buffer}
use Rattle.sub_buffer.specs.Buffers.{told_of, delivered, with_held}
use Rattle.sub_buffer.specs.Table.{OfferLeaves, PopLeaves, IsAhead, after_beat, more_held}
use Rattle.sub_buffer.specs.Follows.{HasPut, Follows, SettledVerdict, reached_after, put_after, StaysLongest}
use Rattle.sub_buffer.specs.Follows.{VerdictAdds, PopFollows}
use Rattle.sub_buffer.specs.declared.verdict.Verdict.{Verdict}
use Rattle.sub_buffer.specs.declared.verdict.Verdict.TheVariants.{Ready, Held, Repeat, AfterClose, Full}
use Rattle.sub_buffer.proofs.Orders.{prev_cases, in_onward, into_onward, onward_all, onward_first, onward_fewer}
use Rattle.sub_buffer.proofs.Orders.{in_held, into_held, held_itself, length_held, length_onward}
use Rattle.sub_buffer.proofs.Chained.{same_entry, in_front, not_in_front, beyond_front, longer, closed_whole}
use Rattle.sub_buffer.proofs.Chained.{longest_stops, is_longest}

-- ---- what was delivered

pub put_told : (put : List EntryValue) (b : BufferValue) (n : ℕ) → HasPut put b → HasPut put (told_of b n)
put_told put b n d = record { chain = d.chain; last = d.last; closed = d.closed }

pub put_push : (put : List EntryValue) (b : BufferValue) (e : EntryValue) → HasPut put b → IsEntry e
    → e.origin ≡ b.origin → e.prev ≡ b.last → b.closed ≡ false
    → HasPut (put ++ e ∷ []) (delivered b e)
put_push put b e d is of at unclosed = record {
  chain = chain_push b.origin false 0 put e d.chain (sym d.closed ∙ unclosed) of (at ∙ d.last) is;
  last = sym (end-push put e);
  closed = sym (closed-push false put e);
}

pub offer_chain : {A : Type 0} (old new : BufferValue) (e : EntryValue) (v : Verdict A) → IsEntry e
    → e.origin ≡ old.origin → OfferLeaves old e v new
    → (put : List EntryValue) → HasPut put old → HasPut (put_after put v) new
offer_chain old new e Repeat is of h put d = subst (HasPut put) (sym h.1) d
offer_chain old new e AfterClose is of h put d = subst (HasPut put) (sym h.2) d
offer_chain old new e (Ready x) is of h put d =
    subst (λ y. HasPut (put ++ y ∷ []) new) (sym h.0)
    (subst (HasPut (put ++ e ∷ [])) (sym h.3)
    (put_push put (told_of old (own e)) e (put_told put old (own e) d) is of h.1 h.2))
offer_chain old new e Full is of h put d = subst (HasPut put) (sym h.2) (put_told put old (own e) d)
offer_chain old new e Held is of h put d
    = subst (HasPut put) (sym h.2) (record { chain = d.chain; last = d.last; closed = d.closed })

pub pop_chain : (old new : BufferValue) (r : Option EntryValue) → IsBuffer old → IfSome r (λ e. IsEntry e)
    → PopLeaves old r new
    → (put : List EntryValue) → HasPut put old → HasPut (put ++ option_to_list r) new
pop_chain old new None ok is h put d
    = subst (λ xs. HasPut xs new) (sym (append-nil put)) (subst (HasPut put) (sym h.1) d)
pop_chain old new (Some e) ok is h put d =
    subst (HasPut (put ++ e ∷ [])) (sym h.3)
    (put_push put old e d is (All-contains (λ x. x.origin ≡ old.origin) old.held e ok.of_origin h.0) h.1 h.2)

pub pop_fewer : (old new : BufferValue) (r : Option EntryValue) → IfSome r (λ e. IsEntry e) → PopLeaves old r new
    → IfSome r (λ _. length new.held < length old.held)
pop_fewer old new None is h = tt
pop_fewer old new (Some e) is h =
    subst (λ (b : BufferValue). length b.held < length old.held) (sym h.3)
    (onward_fewer (own e) old.held e h.0 (omega (arith, is.some)))

pub put_beat : (b : BufferValue) (n : ℕ) (put : List EntryValue) → HasPut put b → HasPut put (after_beat b n)
put_beat b n put d = beat b.closed
  where
    beat : (closed : Bool) → HasPut put (cond closed b (told_of b n))
    beat true = d
    beat false = put_told put b n d

-- ---- a buffer that goes on following

pub follows_new : (me o : ℕ) (es : List EntryValue) → IsChain o es → Follows es [] [] (new_buffer me o)
    × IsLongest [] es []
follows_new me o es c = (
  record {
    log = c;
    of_log = All-nil (Contains es);
    begins = (es, refl);
    came = All-nil (Contains []);
    has_put = record { chain = tt; last = refl; closed = refl };
    held = λ e. (λ i. absurd (not_in_nil e i), λ (i, j). absurd (not_in_nil e i));
    count = refl;
    told = All-nil (λ e. own e ≤ 0);
  },
  is_longest o es [] [] c (es, refl) (All-nil (Contains [])) (λ x i came at. not_in_nil x came),
)

pub follows_told : (es set put : List EntryValue) (b : BufferValue) (n : ℕ) → Follows es set put b
    → Follows es set put (told_of b n)
follows_told es set put b n f = record {
  log = f.log;
  of_log = f.of_log;
  begins = f.begins;
  came = f.came;
  has_put = put_told put b n f.has_put;
  held = f.held;
  count = f.count;
  told = λ k d lt. omega (arith, f.told k d lt);
}

pub follows_beat : (b : BufferValue) (n : ℕ) (es set put : List EntryValue) → Follows es set put b
    → Follows es set put (after_beat b n)
follows_beat b n es set put f = beat b.closed
  where
    beat : (closed : Bool) → Follows es set put (cond closed b (told_of b n))
    beat true = f
    beat false = follows_told es set put b n f

-- an entry that reached the buffer and was not delivered is held
must_hold : (es set put : List EntryValue) (b : BufferValue) (e : EntryValue) → Follows es set put b → Contains set e
    → end put ≤ e.prev → Contains b.held e
must_hold es set put b e f i le = (f.held e).1 (i, not_in_front b.origin es put e f.log f.begins le)

of_log : (es set put : List EntryValue) (b : BufferValue) (e : EntryValue) → Follows es set put b → Contains set e
    → Contains es e
of_log es set put b e f i = All-contains (Contains es) set e f.of_log i

-- entries of the log after a prefix that ends in e
past : (o : ℕ) (es put : List EntryValue) (e g : EntryValue) → IsChain o es → IsPrefix (put ++ e ∷ []) es
    → Contains es g → (Contains (put ++ e ∷ []) g → ⊥) → own e ≤ g.prev
past o es put e g c begins i out =
    let le : end (put ++ e ∷ []) ≤ g.prev = beyond_front o es (put ++ e ∷ []) g c begins i out in
    omega (arith, le, end-push put e)

-- the held entry that is next is delivered
pub goes_on : (es set put : List EntryValue) (b : BufferValue) (e : EntryValue) → InOrder b.held
    → All (λ g. b.last ≤ g.prev) b.held → Follows es set put b
    → Contains b.held e → e.prev ≡ b.last → b.closed ≡ false → Follows es set (put ++ e ∷ []) (delivered b e)
goes_on es set put b e order later f waits at unclosed =
    let was : IsBeyond set put e = (f.held e).0 waits in
    let of : Contains es e = of_log es set put b e f was.0 in
    let is : IsEntry e × (e.origin ≡ b.origin) = is_entry b.origin false 0 es e f.log of in
    let next : e.prev ≡ end put = at ∙ f.has_put.last in
    let begins : IsPrefix (put ++ e ∷ []) es = longer b.origin es put e f.log f.begins of next in
    let rest : (g : EntryValue) → Contains b.held g → e.prev < g.prev → own e ≤ g.prev = λ g i lt.
    let beyond : IsBeyond set put g = (f.held g).0 i in
    past b.origin es put e g f.log begins (of_log es set put b g f beyond.0)
    (λ j. elim (Contains-push_cases put e g j) [
      | inl p ↦ beyond.1 p
      | inr p ↦ let same : e.prev ≡ g.prev = ap (λ (y : EntryValue). y.prev) p in omega arith
    ]) in
    record {
      log = f.log;
      of_log = f.of_log;
      begins = begins;
      came = All-push (Contains set) put e f.came was.0;
      has_put = put_push put b e f.has_put is.0 is.1 at unclosed;
      held = λ g. (
        λ i.
            let kept : Contains b.held g × (own e ≤ g.prev) = in_onward (own e) b.held g i in
            let beyond : IsBeyond set put g = (f.held g).0 kept.0 in (
              beyond.0,
              λ j. elim (Contains-push_cases put e g j) [
                | inl p ↦ beyond.1 p
                | inr p ↦ let same : e.prev ≡ g.prev
                    = ap (λ (y : EntryValue). y.prev) p in omega (arith, kept.1, is.0.some)
              ],
            ),
        λ (i, j).
            into_onward (own e) b.held g
            ((f.held g).1 (i, λ p. j (Contains-append_left put (e ∷ []) g p)))
            (past b.origin es put e g f.log begins (of_log es set put b g f i) j),
      );
      count =
          let least : All (λ g. e.prev ≤ g.prev) b.held = λ k d lt. omega (arith, later k d lt) in
          let one : length b.held ≡ length (onward (own e) b.held) + 1
          = onward_first (own e) b.held e order least waits (omega (arith, is.0.some)) rest in
          omega (arith, f.count, one, length-append put (e ∷ []));
      told = f.told;
    }

-- an entry that is next and had not arrived is delivered
pub goes_on_new : (es set put : List EntryValue) (b : BufferValue) (e : EntryValue) → Follows es set put b
    → Contains es e → (Contains set e → ⊥) → e.prev ≡ b.last → b.closed ≡ false
    → Follows es (set ++ e ∷ []) (put ++ e ∷ []) (delivered (told_of b (own e)) e)
goes_on_new es set put b e f of new at unclosed =
    let is : IsEntry e × (e.origin ≡ b.origin) = is_entry b.origin false 0 es e f.log of in
    let next : e.prev ≡ end put = at ∙ f.has_put.last in
    let begins : IsPrefix (put ++ e ∷ []) es = longer b.origin es put e f.log f.begins of next in
    let out : (g : EntryValue) → IsBeyond set put g → Contains (put ++ e ∷ []) g → ⊥ = λ g beyond j.
    elim (Contains-push_cases put e g j) [
      | inl p ↦ beyond.1 p
      | inr p ↦ new (subst (Contains set) (sym p) beyond.0)
    ] in
    let all : onward (own e) b.held ≡ b.held = onward_all (own e) b.held (λ k d lt.
    let beyond : IsBeyond set put (get_or b.held k d)
    = (f.held (get_or b.held k d)).0 (Contains-get_or b.held k d lt) in
    past b.origin es put e (get_or b.held k d) f.log begins (of_log es set put b (get_or b.held k d) f beyond.0)
    (out (get_or b.held k d) beyond)) in
    record {
      log = f.log;
      of_log = All-push (Contains es) set e f.of_log of;
      begins = begins;
      came = All-push (Contains (set ++ e ∷ [])) put e (all_in_more set put e f.came) (Contains-push set e);
      has_put = put_push put (told_of b (own e)) e (put_told put b (own e) f.has_put) is.0 is.1 at unclosed;
      held = λ g. (
        λ i.
            let beyond : IsBeyond set put g = (f.held g).0 (in_onward (own e) b.held g i).0 in
            (Contains-append_left set (e ∷ []) g beyond.0, out g beyond),
        λ (i, j). elim (Contains-push_cases set e g i) [
          | inl p ↦
              into_onward (own e) b.held g
              ((f.held g).1 (p, λ q. j (Contains-append_left put (e ∷ []) g q)))
              (past b.origin es put e g f.log begins (of_log es set put b g f p) j)
          | inr p ↦ absurd (j (subst (Contains (put ++ e ∷ [])) p (Contains-push put e)))
        ],
      );
      count = omega (
        arith,
        f.count,
        ap (λ (ys : List EntryValue). length ys) all,
        length-append put (e ∷ []),
        length-append set (e ∷ []),
      );
      told = All-push (λ x. own x ≤ max b.told (own e)) set e (λ k d lt. omega (arith, f.told k d lt)) (omega arith);
    }

-- an entry ahead that had not arrived is held
pub holds_too : (es set put : List EntryValue) (b : BufferValue) (e : EntryValue) → Follows es set put b → Contains es e
    → end put ≤ e.prev
    → Follows es (set ++ e ∷ []) put (with_held (told_of b (own e)) e)
holds_too es set put b e f of le = record {
  log = f.log;
  of_log = All-push (Contains es) set e f.of_log of;
  begins = f.begins;
  came = all_in_more set put e f.came;
  has_put = record { chain = f.has_put.chain; last = f.has_put.last; closed = f.has_put.closed };
  held = λ g. (
    λ i. elim (in_held e.prev b.held e g i) [
      | inl p ↦ let beyond : IsBeyond set put g
          = (f.held g).0 p in (Contains-append_left set (e ∷ []) g beyond.0, beyond.1)
      | inr p ↦ subst (IsBeyond (set ++ e ∷ []) put) p
          (Contains-push set e, not_in_front b.origin es put e f.log f.begins le)
    ],
    λ (i, j). elim (Contains-push_cases set e g i) [
      | inl p ↦ into_held e.prev b.held e g ((f.held g).1 (p, j))
      | inr p ↦ subst (Contains (before e.prev b.held ++ e ∷ onward e.prev b.held)) p (held_itself e.prev b.held e)
    ],
  );
  count = omega (arith, f.count, length_held e.prev b.held e, length-append set (e ∷ []));
  told = All-push (λ x. own x ≤ max b.told (own e)) set e (λ k d lt. omega (arith, f.told k d lt)) (omega arith);
}

-- ---- offers

-- an entry that is answered Repeat had arrived before
repeat_came : (es set put : List EntryValue) (b : BufferValue) (e : EntryValue) → Follows es set put b → Contains es e
    → (e.prev < b.last) ⊎ ((b.last < e.prev) × (b.closed ≡ false) × HasPrev e.prev b.held) → Contains set e
repeat_came es set put b e f of h =
    elim h [
      | inl lt ↦ All-contains (Contains set) put e f.came
          (in_front b.origin es put e f.log f.begins of (omega (arith, lt, f.has_put.last)))
      | inr (far, unclosed, (x, i, at)) ↦
          let was : IsBeyond set put x = (f.held x).0 i in
          let same : x ≡ e = same_entry b.origin false 0 es x e f.log (of_log es set put b x f was.0) of at in
          subst (Contains set) same was.0
    ]

-- an entry ahead had not arrived before
ahead_new : (es set put : List EntryValue) (b : BufferValue) (e : EntryValue) → Follows es set put b → IsAhead b e
    → Contains set e → ⊥
ahead_new es set put b e f ahead i
    = ahead.new (e, must_hold es set put b e f i (omega (arith, ahead.later, f.has_put.last)), refl)

never_after_close : (es set put : List EntryValue) (b : BufferValue) (e : EntryValue) → Follows es set put b
    → Contains es e → b.last ≤ e.prev → b.closed ≡ true → ⊥
never_after_close es set put b e f of le closed =
    closed_whole b.origin es put e f.log f.begins (sym f.has_put.closed ∙ closed) of (omega (arith, le, f.has_put.last))

pub offer_follows : {A : Type 0} (es set put : List EntryValue) (old new : BufferValue) (e : EntryValue) (v : Verdict A)
    → IsBuffer old → Contains es e → Follows es set put old → OfferLeaves old e v new
    → (later : List EntryValue) × VerdictAdds set e v later × Follows es later (put_after put v) new
offer_follows es set put old new e Repeat ok of f h
    = (set, (repeat_came es set put old e f of h.0, refl), subst (Follows es set put) (sym h.1) f)
offer_follows es set put old new e AfterClose ok of f h = absurd (never_after_close es set put old e f of h.0 h.1)
offer_follows es set put old new e (Ready x) ok of f h =
    let b : BufferValue = told_of old (own e) in
    let g : Follows es set put b = follows_told es set put old (own e) f in
    elim (prev_cases e.prev old.held) [
      | inl (y, i, q) ↦
          let was : IsBeyond set put y = (f.held y).0 i in
          let same : y ≡ e = same_entry old.origin false 0 es y e f.log (of_log es set put old y f was.0) of q in
          let waits : Contains old.held e = subst (Contains old.held) same i in (
            set,
            (h.0, inl (subst (Contains set) same was.0, refl)),
            subst (λ z. Follows es set (put ++ z ∷ []) new) (sym h.0)
                (subst (Follows es set (put ++ e ∷ [])) (sym h.3)
                (goes_on es set put b e ok.in_order ok.later g waits h.1 h.2)),
          )
      | inr none ↦
          let new_here : Contains set e
          → ⊥ = λ i. none (e, must_hold es set put old e f i (omega (arith, h.1, f.has_put.last)), refl) in (
            set ++ e ∷ [],
            (h.0, inr (new_here, refl)),
            subst (λ z. Follows es (set ++ e ∷ []) (put ++ z ∷ []) new) (sym h.0)
                (subst (Follows es (set ++ e ∷ []) (put ++ e ∷ [])) (sym h.3)
                (goes_on_new es set put old e f of new_here h.1 h.2)),
          )
    ]
offer_follows es set put old new e Full ok of f h
    = (
      set,
      (ahead_new es set put old e f h.0, refl),
      subst (Follows es set put) (sym h.2) (follows_told es set put old (own e) f),
    )
offer_follows es set put old new e Held ok of f h = (
  set ++ e ∷ [],
  (ahead_new es set put old e f h.0, refl),
  subst (Follows es (set ++ e ∷ []) put) (sym h.2)
      (holds_too es set put old e f of (omega (arith, h.0.later, f.has_put.last))),
)

pub offer_told : {A : Type 0} (es set put : List EntryValue) (old new : BufferValue) (e : EntryValue) (v : Verdict A)
    → Contains es e → Follows es set put old → OfferLeaves old e v new
    → new.told ≡ max old.told (own e)
offer_told es set put old new e Repeat of f h =
    let low : own e ≤ old.told
    = All-contains (λ x. own x ≤ old.told) set e f.told (repeat_came es set put old e f of h.0) in
    omega (arith, ap (λ (b : BufferValue). b.told) h.1)
offer_told es set put old new e AfterClose of f h = absurd (never_after_close es set put old e f of h.0 h.1)
offer_told es set put old new e (Ready x) of f h = ap (λ (b : BufferValue). b.told) h.3
offer_told es set put old new e Full of f h = ap (λ (b : BufferValue). b.told) h.2
offer_told es set put old new e Held of f h = ap (λ (b : BufferValue). b.told) h.2

pub offer_settled : {A : Type 0} (es set put : List EntryValue) (old new : BufferValue) (e : EntryValue) (v : Verdict A)
    → Contains es e → Follows es set put old → IsLongest set es put → OfferLeaves old e v new
    → SettledVerdict set put e v × Follows es (reached_after set e v) (put_after put v) new
    × StaysLongest es (reached_after set e v) put v
offer_settled es set put old new e Repeat of f long h
    = (repeat_came es set put old e f of h.0, subst (Follows es set put) (sym h.1) f, long)
offer_settled es set put old new e AfterClose of f long h = absurd (never_after_close es set put old e f of h.0 h.1)
offer_settled es set put old new e (Ready x) of f long h =
    let next : e.prev ≡ end put = h.1 ∙ f.has_put.last in
    let new_here : Contains set e → ⊥ = λ i. longest_stops old.origin es set put e f.log long of i next in (
      (new_here, next, h.0),
      subst (λ z. Follows es (set ++ e ∷ []) (put ++ z ∷ []) new) (sym h.0)
          (subst (Follows es (set ++ e ∷ []) (put ++ e ∷ [])) (sym h.3)
          (goes_on_new es set put old e f of new_here h.1 h.2)),
      tt,
    )
offer_settled es set put old new e Full of f long h =
    let far : end put < e.prev = omega (arith, h.0.later, f.has_put.last) in (
      (ahead_new es set put old e f h.0, omega arith, omega (arith, f.count, h.1)),
      subst (Follows es set put) (sym h.2) (follows_told es set put old (own e) f),
      long,
    )
offer_settled es set put old new e Held of f long h =
    let far : end put < e.prev = omega (arith, h.0.later, f.has_put.last) in
    let new_here : Contains set e → ⊥ = ahead_new es set put old e f h.0 in (
      (new_here, omega arith, λ full. omega (arith, f.count, h.1, full)),
      subst (Follows es (set ++ e ∷ []) put) (sym h.2) (holds_too es set put old e f of (omega arith)),
      is_longest old.origin es (set ++ e ∷ []) put f.log f.begins (all_in_more set put e f.came) (λ x i came at.
          elim (Contains-push_cases set e x came) [
            | inl p ↦ longest_stops old.origin es set put x f.log long i p at
            | inr p ↦ let same : e.prev ≡ x.prev = ap (λ (y : EntryValue). y.prev) p in omega (arith, far, at)
          ]),
    )

-- ---- settled buffers

pub settled_longest : (b : BufferValue) (es set put : List EntryValue) → Follows es set put b → IsSettled b
    → IsLongest set es put
settled_longest b es set put f settled =
    is_longest b.origin es set put f.log f.begins f.came (λ x i came at.
    elim settled [
      | inl closed ↦ closed_whole b.origin es put x f.log f.begins (sym f.has_put.closed ∙ closed) i (omega (arith, at))
      | inr none ↦ none (x, must_hold es set put b x f came (omega (arith, at)), at ∙ sym f.has_put.last)
    ])

pub longest_settled : (b : BufferValue) (es set put : List EntryValue) → Follows es set put b → IsLongest set es put
    → IsSettled b
longest_settled b es set put f long =
    elim (prev_cases b.last b.held) [
      | inl (x, i, at) ↦
          let was : IsBeyond set put x = (f.held x).0 i in
          absurd (longest_stops b.origin es set put x f.log long (of_log es set put b x f was.0) was.0 (at
          ∙ f.has_put.last))
      | inr none ↦ inr none
    ]

-- a verdict that delivers nothing leaves a settled buffer settled
pub stays_settled : {A : Type 0} (old new : BufferValue) (e : EntryValue) (v : Verdict A) → OfferLeaves old e v new
    → ((x : EntryValue) → v ≡ Ready x → ⊥) → IsSettled old → IsSettled new
stays_settled old new e Repeat h other settled = subst IsSettled (sym h.1) settled
stays_settled old new e AfterClose h other settled = subst IsSettled (sym h.2) settled
stays_settled old new e (Ready x) h other settled = absurd (other x refl)
stays_settled old new e Full h other settled = subst IsSettled (sym h.2) settled
stays_settled old new e Held h other settled =
    subst IsSettled (sym h.2) (elim settled [
      | inl closed ↦ inl closed
      | inr none ↦ inr (λ (x, i, at). elim (in_held e.prev old.held e x i) [
        | inl among ↦ none (x, among, at)
        | inr same ↦ let begins : e.prev ≡ x.prev = ap (λ (y : EntryValue). y.prev) same in omega (arith, h.0.later, at)
      ])
    ])

-- ---- pops

pub pop_follows : (old new : BufferValue) (r : Option EntryValue) → IsBuffer old → PopLeaves old r new
    → (es set put : List EntryValue) → Follows es set put old → PopFollows es set put r new
pop_follows old new None ok h es set put f
    = (settled_longest old es set put f h.0, subst (Follows es set put) (sym h.1) f)
pop_follows old new (Some e) ok h es set put f =
    let was : IsBeyond set put e = (f.held e).0 h.0 in
    let of : Contains es e = of_log es set put old e f was.0 in
    let next : e.prev ≡ end put = h.1 ∙ f.has_put.last in (
      λ long. longest_stops old.origin es set put e f.log long of was.0 next,
      was,
      next,
      subst (Follows es set (put ++ e ∷ [])) (sym h.3) (goes_on es set put old e ok.in_order ok.later f h.0 h.1 h.2),
    )

-- an entry of the log is of the buffer's origin
pub of_this_origin : (es set put : List EntryValue) (b : BufferValue) (e : EntryValue) → Follows es set put b
    → Contains es e → e.origin ≡ b.origin
of_this_origin es set put b e f of = (is_entry b.origin false 0 es e f.log of).1

pub offer_count : {A : Type 0} (old new : BufferValue) (e : EntryValue) (v : Verdict A) → OfferLeaves old e v new
    → length new.held ≤ length old.held + more_held v
offer_count old new e Repeat h = omega (arith, ap (λ (b : BufferValue). length b.held) h.1)
offer_count old new e AfterClose h = omega (arith, ap (λ (b : BufferValue). length b.held) h.2)
offer_count old new e (Ready x) h
    = omega (arith, ap (λ (b : BufferValue). length b.held) h.3, length_onward (own e) old.held)
offer_count old new e Full h = omega (arith, ap (λ (b : BufferValue). length b.held) h.2)
offer_count old new e Held h = omega (arith, ap (λ (b : BufferValue). length b.held) h.2, length_held e.prev old.held e)

pub offer_few : {A : Type 0} (old new : BufferValue) (e : EntryValue) (v : Verdict A) → length old.held ≤ 64
    → OfferLeaves old e v new → length new.held ≤ 64
offer_few old new e Repeat few h = omega (arith, few, ap (λ (b : BufferValue). length b.held) h.1)
offer_few old new e AfterClose few h = omega (arith, few, ap (λ (b : BufferValue). length b.held) h.2)
offer_few old new e (Ready x) few h
    = omega (arith, few, ap (λ (b : BufferValue). length b.held) h.3, length_onward (own e) old.held)
offer_few old new e Full few h = omega (arith, few, ap (λ (b : BufferValue). length b.held) h.2)
offer_few old new e Held few h
    = omega (arith, h.1, ap (λ (b : BufferValue). length b.held) h.2, length_held e.prev old.held e)
