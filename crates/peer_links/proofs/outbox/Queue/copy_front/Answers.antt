use Rattle.std.proofs.Common.{◌≡◌, ℕ, ◌+◌, ◌<◌, ◌++◌, List, [], ◌∷◌, take, drop, length, sym, ap, subst, ◌∙◌, arith}
use Rattle.std.specs.List.{All}
use Rattle.entry_codec.specs.Pieces.{IsLine}
use Rattle.peer_links.specs.Outboxes.{Waiting, front_in}
use Rattle.peer_links.specs.Sources.{joined}
use Rattle.peer_links.proofs.QueueLaws.{texts, next_line, no_line, copied_on, copied_all, copied_last, all_front}
use Rattle.peer_links.proofs.outbox.Queue.copy_front.Goals as goal

pub lines-preserved : goal.lines-preserved
lines-preserved g c =
    let inv = c.lines.invariant in
    let lines = c.args.self.now.lines in
    let line = c.in-Some.line.now.items in
    let same : texts c.self.inside.lines.items ≡ lines = ap (λ (w : Waiting). w.lines) c.self.view_is in
    let next = next_line c.self.inside.lines.items c.lines.count c.in-Some.line.now c.in-Some.ensures in
    let cut = subst (λ (l : List (List ℕ)). drop c.lines.count l ≡ line ∷ drop (c.lines.count + 1) l) same next.1 in
    let low = subst (λ (l : List (List ℕ)). c.lines.count < length l) same next.0 in
    let copy = c.copy_at.ensures in
    let long = ap length c.deref.ensures.value in
    let filled : c.lines.filled + c.len-filled.result ≡ c.lines.filled + length line
    = omega (arith, c.len-filled.ensures, c.deref.ensures.len, long) in
    let front = ap (λ (n : ℕ). take (c.lines.filled + n) c.copy_at.new.room) (c.len-filled.ensures
    ∙ sym c.deref.ensures.len)
    ∙ copy.front ∙ ap (λ (t : List ℕ). take c.lines.filled c.lines.room ++ t) c.deref.ensures.value in (
      copy.same ∙ inv.0,
      omega (arith, copy.same, inv.1, c.if-len-room.false, c.len.ensures, c.len-filled.ensures),
      omega (arith, low),
      copied_on (length c.lines.room) c.lines.filled c.lines.count lines (take c.lines.filled c.lines.room) inv.3
          (length c.copy_at.new.room) (c.lines.filled + c.len-filled.result) _ line cut
          (omega (arith, c.if-len-room.false, c.len.ensures, c.deref.ensures.len, long)) copy.same filled front,
    )

pub returns-then-len-room-clause-copied : goal.returns-then-len-room-clause-copied
returns-then-len-room-clause-copied g c =
    let inv = c.lines.invariant in
    let lines = c.args.self.now.lines in
    let line = c.in-Some.line.now.items in
    let same : texts c.self.inside.lines.items ≡ lines = ap (λ (w : Waiting). w.lines) c.self.view_is in
    let next = next_line c.self.inside.lines.items c.lines.count c.in-Some.line.now c.in-Some.ensures in
    let cut = subst (λ (l : List (List ℕ)). drop c.lines.count l ≡ line ∷ drop (c.lines.count + 1) l) same next.1 in
    let text = subst (λ (n : ℕ). take c.lines.filled c.lines.room ≡ joined (front_in n lines)) inv.0
    (copied_all (length c.lines.room) c.lines.filled c.lines.count lines (take c.lines.filled c.lines.room) inv.3 line
    cut (omega (arith, c.if-len-room.true, c.len.ensures, c.in-Some.line.now.ok.0))) in
    (all_front (length c.args.room.now) lines (subst (All IsLine) same c.self.invariant.2), text)

pub returns-in_default-clause-copied : goal.returns-in_default-clause-copied
returns-in_default-clause-copied g c =
    let inv = c.lines.invariant in
    let lines = c.args.self.now.lines in
    let same : texts c.self.inside.lines.items ≡ lines = ap (λ (w : Waiting). w.lines) c.self.view_is in
    let none = subst (λ (l : List (List ℕ)). drop c.lines.count l ≡ []) same
    (no_line c.self.inside.lines.items c.lines.count c.in_default.ensures) in
    let text = subst (λ (n : ℕ). take c.lines.filled c.lines.room ≡ joined (front_in n lines)) inv.0
    (copied_last (length c.lines.room) c.lines.filled c.lines.count lines
    (take c.lines.filled c.lines.room) inv.3 none) in
    (all_front (length c.args.room.now) lines (subst (All IsLine) same c.self.invariant.2), text)
