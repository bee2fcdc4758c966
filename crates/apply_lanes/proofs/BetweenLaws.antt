-- What was taken from a lane, and what waits there, by what was put.
use Rattle.std.proofs.Common.{◌≡◌, List, ◌++◌, sym, ap, ◌∙◌}
use Rattle.rights_types.specs.Entries.{EntryValue}
use Rattle.thread_parts.specs.declared.item.Item.{Item}
use Rattle.thread_parts.specs.Items.{items_of, end_if, StartsWith}
use Rattle.link_intake.specs.Intakes.{IntakeValue, Sends}
use Rattle.link_intake.proofs.IntakeLaws.{left_of}
use Rattle.apply_lanes.specs.Names.{DeskId}
use Rattle.apply_lanes.specs.Appliers.{ApplierValue, IsCounted, in_hand}
use Rattle.apply_lanes.specs.Between.{IsBetween}

module _ {G A : Type 0} where
  pub between : (id : DeskId) (delivered : List EntryValue) (i : IntakeValue A) (a : ApplierValue G A)
      → Sends delivered i → IsCounted id a
      → StartsWith i.inlet.put a.outlet.taken → IsBetween id delivered i a
  between id delivered i a s c (rest, whole) =
      let taken : List EntryValue = c.applied ++ c.dropped ++ in_hand a.hand in
      let items : items_of {A = A} s.gone ++ end_if i.ended ≡ (items_of taken ++ end_if a.ended) ++ rest =
      sym s.put ∙ whole ∙ ap (λ (xs : List (Item A)). xs ++ rest) c.taken in
      let more = left_of s.gone taken i.ended a.ended rest items in
      record {
        applied = c.applied;
        dropped = c.dropped;
        waiting = more.0;
        unsent = s.unsent;
        whole = s.whole ∙ ap (λ (xs : List EntryValue). xs ++ s.unsent) more.1;
        all_gone = s.all_gone;
        log = c.log;
        none_dropped = c.none_dropped;
        number = c.number;
        received = c.received;
      }
