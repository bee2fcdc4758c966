use Rattle.std.proofs.Common.{◌≡◌, ◌<◌, ◌⊎◌, ◌∙◌, false, refl, ap, inr, subst, length, arith}
use Rattle.rights_types.specs.Entries.{EntryValue}
use Rattle.sub_buffer.specs.Buffers.{BufferValue, HasPrev, told_of, with_held}
use Rattle.sub_buffer.specs.Table.{IsAhead}
use Rattle.sub_buffer.proofs.Keeps.{is_ahead}
use Rattle.sub_buffer.proofs.buffer.SubBuffer.judge.Goals as goal

pub returns-in_default-clause-table : goal.returns-in_default-clause-table
returns-in_default-clause-table g c =
    let i = c.self.inside in
    let e : EntryValue = c.args.entry in
    let waits : HasPrev e.prev i.held.items
    = subst (λ n. HasPrev n i.held.items) c.prev-prev.ensures.value c.in_default.ensures in
    let far : i.last < e.prev = omega (arith, c.prev-prev.ensures.value) in
    subst (λ (v : BufferValue). ((e.prev < v.last) ⊎ ((v.last < e.prev) × (v.closed ≡ false) × HasPrev e.prev v.held))
    × (v ≡ v)) c.self.view_is
    (inr (far, c.if-self.false, waits), refl)

pub returns-then-len-eq-MAX_HELD-clause-table : goal.returns-then-len-eq-MAX_HELD-clause-table
returns-then-len-eq-MAX_HELD-clause-table g c =
    let ahead : IsAhead c.args.self.now c.args.entry =
    subst (λ (v : BufferValue). IsAhead v c.args.entry) c.self.view_is
    (is_ahead _ _ _ c.in-Some.place c.prev-prev.ensures.value (omega arith) c.if-self.false c.in-Some.ensures) in
    let same : length c.self-2.inside.held.items ≡ length c.args.self.now.held
    = ap (λ (v : BufferValue). length v.held) (c.self-2.view_is ∙ c.hear-2.ensures) in (
      ahead,
      omega (arith, same, c.self-2.inside.held.ok.0, c.len.ensures, c.if-len-eq-MAX_HELD.true),
      c.hear-2.ensures ∙ ap (told_of c.args.self.now) c.own-own.ensures.value,
    )

pub returns-clause-table : goal.returns-clause-table
returns-clause-table g c =
    let ahead : IsAhead c.args.self.now c.args.entry =
    subst (λ (v : BufferValue). IsAhead v c.args.entry) c.self.view_is
    (is_ahead _ _ _ c.in-Some.place c.prev-prev.ensures.value (omega arith) c.if-self.false c.in-Some.ensures) in
    let same : length c.self-2.inside.held.items ≡ length c.args.self.now.held
    = ap (λ (v : BufferValue). length v.held) (c.self-2.view_is ∙ c.hear-2.ensures) in (
      ahead,
      omega (
        arith,
        same,
        c.self-2.inside.held.ok.0,
        c.len.ensures,
        c.if-len-eq-MAX_HELD.false,
        c.self-2.invariant.0.few,
      ),
      c.hold.ensures ∙ ap (λ (v : BufferValue). with_held v c.args.entry) (c.hear-2.ensures
          ∙ ap (told_of c.args.self.now) c.own-own.ensures.value),
    )
