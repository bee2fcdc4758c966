-- What holds of every buffer holds after a change, and what the code's tests say of a buffer.
use Rattle.std.proofs.Common.{◌≡◌, ◌≢◌, ℕ, ◌+◌, ◌<◌, ◌≤◌, Bool, true, false, List, inl, inr, length, get_or, drop}
use Rattle.std.proofs.Common.{Option, Some, None, arith, refl, sym, ◌∙◌, subst}
use Rattle.std.specs.Option.{is_some}
use Rattle.std.proofs.lemmas.Bool.{cases_lt}
use Rattle.sub_buffer.specs.declared.buffer.State.TheVariants.{Normal, Buffering}
use Rattle.std.specs.List.{All, Contains}
use Rattle.std.proofs.lemmas.List.{length-drop}
use Rattle.std.proofs.lemmas.List.Elements.{All-drop, All-filter, All-contains}
use Rattle.rights_types.specs.Entries.{EntryValue, own}
use Rattle.rights_types.specs.Messages.{QueryValue, IsQuery}
use Rattle.sub_buffer.specs.Buffers.{BufferValue, IsBuffer, HasPrev, InOrder, onward}
use Rattle.sub_buffer.specs.Places.{IsPlace}
use Rattle.sub_buffer.specs.Table.{IsAhead}
use Rattle.sub_buffer.specs.Gaps.{GapOf, AsksGap, StateOf}
use Rattle.sub_buffer.proofs.Orders.{order_onward, order_drop, length_onward, later_onward, first_least, place_none}

pub keeps_deliver : (b : BufferValue) (e : EntryValue) (last : ℕ) (closed : Bool) (hs : List EntryValue) → IsBuffer b
    → own e ≤ b.told → last ≡ own e → hs ≡ onward last b.held
    → IsBuffer (record b { last = last; closed = closed; held = hs })
keeps_deliver b e last closed hs ok heard at kept =
    subst (λ (ys : List EntryValue). IsBuffer (record b { last = last; closed = closed; held = ys }))
    (sym kept) (record {
      me = ok.me;
      origin = ok.origin;
      differ = ok.differ;
      last = omega arith;
      told = ok.told;
      few = omega (arith, ok.few, length_onward last b.held);
      in_order = order_onward last b.held ok.in_order;
      later = later_onward last b.held;
      heard = All-filter _ (λ x. own x ≤ b.told) b.held ok.heard;
      of_origin = All-filter _ (λ x. x.origin ≡ b.origin) b.held ok.of_origin;
    })

pub keeps_pop : (b : BufferValue) (hs : List EntryValue) → IsBuffer b → hs ≡ drop 1 b.held
    → IsBuffer (record b { held = hs })
keeps_pop b hs ok rest =
    subst (λ (ys : List EntryValue). IsBuffer (record b { held = ys })) (sym rest) (record {
      me = ok.me;
      origin = ok.origin;
      differ = ok.differ;
      last = ok.last;
      told = ok.told;
      few = omega (arith, ok.few, length-drop 1 b.held);
      in_order = order_drop b.held ok.in_order;
      later = All-drop (λ x. b.last ≤ x.prev) 1 b.held ok.later;
      heard = All-drop (λ x. own x ≤ b.told) 1 b.held ok.heard;
      of_origin = All-drop (λ x. x.origin ≡ b.origin) 1 b.held ok.of_origin;
    })

-- if the first held entry is not the next one, none is
pub not_first : (n : ℕ) (es : List EntryValue) (e : EntryValue) → InOrder es → All (λ x. n ≤ x.prev) es
    → e ≡ get_or es 0 e → e.prev ≢ n → HasPrev n es → ⊥
not_first n es e order later is other (x, i, at) =
    let some : 0 < length es = omega (arith, i.1) in
    let low : n ≤ e.prev = subst (λ (y : EntryValue). n ≤ y.prev) (sym is) (later 0 e some) in
    let least : e.prev ≤ x.prev = All-contains (λ y. e.prev ≤ y.prev) es x (first_least es e order is) i in
    omega (arith, other, low, least, at)

-- an entry for which there is a place is ahead
pub is_ahead : (b : BufferValue) (e : EntryValue) (n k : ℕ) → n ≡ e.prev → b.last < n → b.closed ≡ false
    → IsPlace n b.held k → IsAhead b e
is_ahead b e n k prev later unclosed place = record {
  later = omega (arith, prev);
  unclosed = unclosed;
  new = subst (λ m. HasPrev m b.held → ⊥) prev (place_none n b.held k place);
}

-- if there is no first held entry, none is held
pub none_held : (es : List EntryValue) (len : ℕ) → len ≡ length es → (0 < len → false ≡ true) → length es ≡ 0
none_held es len is none = elim (cases_lt 0 (length es)) [
  | inl some ↦ absurd (let wrong : false ≡ true = none (omega (arith, is, some)) in cc)
  | inr le ↦ omega (arith, le)
]

-- ---- gaps

-- the numbers from the last one on to the end of the gap can be asked for
pub can_ask : (b : BufferValue) (n : ℕ) → IsBuffer b → b.last < b.told → n ≤ b.told
    → IsQuery (record { asker = b.me; origin = b.origin; first = b.last + 1; last = n })
can_ask b n ok more within = record {
  asker = ok.me;
  origin = ok.origin;
  first = omega (arith, ok.told);
  last = omega (arith, ok.told);
  differ = ok.differ;
}

-- the first held entry begins at a number that was seen
pub first_told : (b : BufferValue) (e : EntryValue) → IsBuffer b → 0 < length b.held → e ≡ get_or b.held 0 e
    → e.prev ≤ b.told
first_told b e ok some is = let heard : own e ≤ b.told
    = subst (λ (y : EntryValue). own y ≤ b.told) (sym is) (ok.heard 0 e some) in omega arith

pub buffering : (gap : Option QueryValue) → is_some gap ≡ true → StateOf gap Buffering
buffering None some = absurd cc
buffering (Some q) some = refl

pub normal : (gap : Option QueryValue) → is_some gap ≡ false → StateOf gap Normal
normal None none = refl
normal (Some q) none = absurd cc

pub gap_behind : (b : BufferValue) (e : EntryValue) (n : ℕ) (q : QueryValue) → IsBuffer b → b.last < b.told
    → b.closed ≡ false → n ≢ b.last → 0 < length b.held → e ≡ get_or b.held 0 e → n ≡ e.prev
    → q ≡ record { asker = b.me; origin = b.origin; first = b.last + 1; last = n } → GapOf b (Some q)
gap_behind b e n q ok more unclosed other some is at asks = (
  more,
  unclosed,
  not_first b.last b.held e ok.in_order ok.later is (λ same. other (at ∙ same)),
  subst (AsksGap b.me b.origin b.last b.told (Contains b.held)) (sym asks) (record {
    asker = refl;
    origin = refl;
    first = refl;
    last = inr (
      e,
      (0, some, sym is),
      sym at,
      λ f i. omega (arith, at, All-contains (λ y. e.prev ≤ y.prev) b.held f (first_least b.held e ok.in_order is) i),
    );
  }),
)

pub gap_empty : (b : BufferValue) (n : ℕ) (q : QueryValue) → IsBuffer b → b.last < b.told → b.closed ≡ false
    → length b.held ≡ 0 → n ≡ b.told
    → q ≡ record { asker = b.me; origin = b.origin; first = b.last + 1; last = n } → GapOf b (Some q)
gap_empty b n q _ more unclosed none at asks = (
  more,
  unclosed,
  λ (e, i, same). omega (arith, i.1, none),
  subst (AsksGap b.me b.origin b.last b.told (Contains b.held)) (sym asks) (record {
    asker = refl;
    origin = refl;
    first = refl;
    last = inl (λ e i. omega (arith, i.1, none), at);
  }),
)
