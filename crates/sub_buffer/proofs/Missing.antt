-- Gaps of a buffer that follows a log.
use Rattle.std.proofs.Common.{◌≡◌, ℕ, ◌+◌, true, false, List, inl, inr, Option, Some, None, arith, sym, ap, ◌∙◌}
use Rattle.std.specs.List.{Contains}
use Rattle.std.proofs.lemmas.List.Elements.{All-contains}
use Rattle.rights_types.specs.Entries.{EntryValue}
use Rattle.rights_types.specs.Chains.{IsLongest, IsBeyond}
use Rattle.rights_types.specs.Messages.{QueryValue}
use Rattle.sub_buffer.specs.Buffers.{BufferValue}
use Rattle.sub_buffer.specs.Follows.{HasPut, Follows}
use Rattle.sub_buffer.specs.Gaps.{EndsGap, AsksGap, GapOf, GapIs, asked_for}
use Rattle.sub_buffer.proofs.Chained.{longest_stops}

ends_beyond : (es set put : List EntryValue) (b : BufferValue) (n : ℕ) → Follows es set put b
    → EndsGap (Contains b.held) b.told n → EndsGap (IsBeyond set put) b.told n
ends_beyond es set put b n f h =
    elim h [
      | inl (none, is) ↦ inl (λ e w. none e ((f.held e).1 w), is)
      | inr (e, w, at, least) ↦ inr (e, (f.held e).0 w, at, λ g v. least g ((f.held g).1 v))
    ]

pub gap_is : (b : BufferValue) (gap : Option QueryValue) → GapOf b gap → (es set put : List EntryValue)
    → Follows es set put b → IsLongest set es put → GapIs b.me b.origin set put b.told gap
gap_is b None h es set put f long = λ (more, unclosed).
    elim h [
      | inl told ↦ omega (arith, more, told, f.has_put.last)
      | inr others ↦ elim others [
        | inl closed ↦ let wrong : true ≡ false = sym closed ∙ f.has_put.closed ∙ unclosed in cc
        | inr (e, i, at) ↦
            let was : IsBeyond set put e = (f.held e).0 i in
            longest_stops b.origin es set put e f.log long (All-contains (Contains es) set e f.of_log was.0) was.0 (at
            ∙ f.has_put.last)
      ]
    ]
gap_is b (Some q) h es set put f long =
    let asks : AsksGap b.me b.origin b.last b.told (Contains b.held) q = h.3 in (
      (omega (arith, h.0, f.has_put.last), sym f.has_put.closed ∙ h.1),
      record {
        asker = asks.asker;
        origin = asks.origin;
        first = asks.first ∙ ap (λ n. n + 1) f.has_put.last;
        last = ends_beyond es set put b q.last f asks.last;
      },
    )

pub follows_asked : (b : BufferValue) (gap : Option QueryValue) (es set put : List EntryValue) → Follows es set put b
    → Follows es set put (asked_for b gap)
follows_asked b None es set put f = f
follows_asked b (Some q) es set put f = record {
  log = f.log;
  of_log = f.of_log;
  begins = f.begins;
  came = f.came;
  has_put = record { chain = f.has_put.chain; last = f.has_put.last; closed = f.has_put.closed };
  held = f.held;
  count = f.count;
  told = f.told;
}

pub put_asked : (b : BufferValue) (gap : Option QueryValue) (put : List EntryValue) → HasPut put b
    → HasPut put (asked_for b gap)
put_asked b None put d = d
put_asked b (Some q) put d = record { chain = d.chain; last = d.last; closed = d.closed }
