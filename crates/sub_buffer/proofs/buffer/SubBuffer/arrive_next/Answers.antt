use Rattle.std.proofs.Common.{◌≡◌, ◌∙◌, ℕ, [], inr, refl, sym, ap, subst, length, arith, List}
use Rattle.std.proofs.lemmas.Bool.{eqb-true}
use Rattle.std.proofs.lemmas.List.{nil_from_length}
use Rattle.std.specs.VecDeque.{deque_len}
use Rattle.rights_types.specs.Entries.{EntryValue, own}
use Rattle.sub_buffer.specs.Buffers.{BufferValue, HasPrev, IsBuffer, told_of, delivered, onward}
use Rattle.sub_buffer.specs.declared.verdict.Verdict.TheVariants.{Ready}
use Rattle.sub_buffer.proofs.Arriving.{arrives, frees_none}
use Rattle.sub_buffer.proofs.buffer.SubBuffer.arrive_next.Goals as goal

-- none is held, so none is next
none_next : (n : ℕ) (held : List EntryValue) → held ≡ [] → HasPrev n held → ⊥
none_next n held none next = omega (arith, next.1.1, ap (λ (es : List EntryValue). length es) none)

pub returns-clause-arrives : goal.returns-clause-arrives
returns-clause-arrives g c t =
    let old = c.args.self.now in
    let new = c.deliver.new.self in
    let e : EntryValue = c.args.entry.now in
    let i = c.self.inside in
    let zero : deque_len i.held ≡ 0 = eqb-true (deque_len i.held) 0 (sym c.if-not-is_empty.ensures) in
    let none : old.held ≡ [] =
    sym (ap (λ (b : BufferValue). b.held) c.self.view_is)
    ∙ nil_from_length i.held.items (omega (arith, zero, i.held.ok.0)) in
    let next : e.prev ≡ old.last =
    omega (arith, c.if-prev-self.false, c.prev.ensures.value, ap (λ (b : BufferValue). b.last) c.self.view_is) in
    let unclosed = sym (ap (λ (b : BufferValue). b.closed) c.self.view_is) ∙ c.if-self.false in
    let left : new ≡ delivered (told_of old (own e)) e =
    c.deliver.ensures
    ∙ ap (λ (b : BufferValue). delivered b e) (c.hear.ensures ∙ ap (told_of old) c.own.ensures.value) in
    let after : new.held ≡ [] =
    ap (λ (b : BufferValue). b.held) left ∙ ap (λ (es : List EntryValue). onward (own e) es) none in
    arrives old new new e (Ready e) [] (subst IsBuffer c.self.view_is c.self.invariant.0) c.own.ensures.valid
    c.requires (inr (none_next old.last old.held none)) (refl, next, unclosed, left) tt
    (frees_none new (inr (none_next new.last new.held after)))
