use Rattle.std.proofs.Common.{◌≡◌, ℕ, ◌<◌, false, length, take, refl, arith, length-take, ap, ◌∙◌, sym, vec_len}
use Rattle.entry_codec.specs.Cutter.{CutterView}
use Rattle.entry_codec.proofs.Views.{taken_short, taken_over, taken_long}
use Rattle.entry_codec.proofs.Streams.{through_is, fed_more}
use Rattle.entry_codec.proofs.cutter.LineCutter.push.Goals as goal
use Rattle.entry_codec.proofs.cutter.LineCutter.push.Goals.{then-not-self+then-count-len, then-not-self+else-count-len}
use Rattle.entry_codec.proofs.cutter.LineCutter.push.Goals.{else-not-self}

pub returns-clause-taken : goal.returns-clause-taken
returns-clause-taken g c = λ piece h.
    let n = c.count_through-count.result in
    let taken = take n c.args.bytes.now in
    let e : length taken ≡ n = simp length-take (omega (arith, c.count_through-count.ensures.within)) in
    let some : 0 < n = omega (arith, c.if-count-eq0.false) in
    let inside = c.if-not-self.self-inside in
    let view = sym c.self.view_is in
    let size : length c.args.self.now.kept ≡ vec_len c.self.inside.room = ap (λ (v : CutterView). length v.kept) view
    ∙ sym (c.self.inside.room.ok.0) in
    elim c.if-not-self.branch [
      | then-not-self+then-count-len w ↦
          taken_short c.args.self.now piece taken n h e some inside.room.items inside.is_long
          (ap (λ (v : CutterView). v.is_long) view ∙ w.if-not-self.true)
          (omega (arith, size, c.self.invariant, w.if-count-len.true, w.len.ensures))
          (rw (
            w.self-inside-is,
            ap (λ (v : CutterView). v.kept) view,
            w.extend_from_slice.ensures.items,
            w.unwrap.ensures,
          ) refl)
          (rw w.self-inside-is w.if-not-self.true)
      | then-not-self+else-count-len w ↦
          taken_over c.args.self.now piece taken n h e some inside.room.items inside.is_long
          (ap (λ (v : CutterView). v.is_long) view ∙ w.if-not-self.true)
          (omega (arith, size, c.self.invariant, w.if-count-len.false, w.len.ensures))
          (rw w.self-inside-is w.clear.ensures.items)
          (rw w.self-inside-is refl)
      | else-not-self w ↦
          taken_long c.args.self.now piece taken n h e some inside.room.items inside.is_long
          (ap (λ (v : CutterView). v.is_long) view ∙ w.if-not-self.false)
          (rw (w.self-inside-is, ap (λ (v : CutterView). v.kept) view) refl)
          (rw w.self-inside-is w.if-not-self.false)
    ]

pub returns-clause-fed : goal.returns-clause-fed
returns-clause-fed g c = λ stream given h.
    let bytes = c.args.bytes.now in
    let is = ap (λ (n : ℕ). take n bytes) c.count_through-count.ensures.count ∙ through_is bytes in
    let waits : c.args.self.now.is_finished ≡ false = sym (ap (λ (v : CutterView). v.is_finished) c.self.view_is)
    ∙ c.if-self.false in
    fed_more c.args.self.now _ stream bytes (take c.count_through-count.result bytes) given waits is
    (returns-clause-taken g c) h
