use Rattle.std.proofs.Common.{◌∙◌, List}
use Rattle.peer_links.specs.Ports.{Heard}
use Rattle.peer_links.specs.Turns.{InTurn}
use Rattle.peer_links.specs.Takes.{TakesOrSkips}
use Rattle.peer_links.proofs.PairLaws.{same_pair}
use Rattle.peer_links.proofs.TakeLaws.{skipped, as_line, shown, is_borrowed, is_owned}
use Rattle.peer_links.proofs.link.reading.take_piece.Goals.{in-Borrowed, in-Owned, in-Long}
use Rattle.peer_links.proofs.link.reading.take_piece.Goals as goal

pub returns-clause-takes : goal.returns-clause-takes
returns-clause-takes g c = λ text h.
    let hears = g.P.Port.hears in
    let told : (told : List Heard) × TakesOrSkips c.args.intake.now text c.match-piece.taken told c.match-piece.intake
    × InTurn hears c.args.port.now told c.match-piece.port = elim c.match-piece.branch [
      | in-Borrowed w ↦ rw (w.intake-is, w.port-is, w.taken-is)
          (as_line hears _ _ _ _ text _ _ (is_borrowed c.args.piece w.in-Borrowed.line text w.in-Borrowed.is h)
          w.take_line-taken.ensures.takes)
      | in-Owned w ↦ let kept = is_owned c.args.piece w.in-Owned.line text w.in-Owned.is h in
          rw (w.intake-is, w.port-is, w.taken-is) (as_line hears _ _ _ _ text _ _ (
            w.deref.ensures.value
                ∙ kept.0,
            kept.1,
          ) w.take_line-taken-in-Owned.ensures.takes)
      | in-Long w ↦ rw (w.intake-is, w.port-is, w.taken-is) (skipped hears _ _ c.args.piece text w.in-Long.is h)
    ] in
    shown hears _ _ _ text _ _ _ _ _ told c.state.ensures.table c.held_count.ensures c.seen.ensures

pub returns-clause-pair : goal.returns-clause-pair
returns-clause-pair g c = elim c.match-piece.branch [
  | in-Borrowed w ↦ rw w.intake-is w.take_line-taken.ensures.pair
  | in-Owned w ↦ rw w.intake-is w.take_line-taken-in-Owned.ensures.pair
  | in-Long w ↦ rw w.intake-is (same_pair _)
]
