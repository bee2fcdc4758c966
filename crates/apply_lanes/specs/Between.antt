-- The entries between the buffer of a peer and the desk's book.
use Rattle.std.specs.Prelude.{◌≡◌, false, List, [], ◌++◌}
use Rattle.rights_types.specs.Entries.{EntryValue}
use Rattle.rights_types.specs.Chains.{end, moves_of, IsChain}
use Rattle.rights_types.specs.Rights.{to}
use Rattle.link_intake.specs.Intakes.{IntakeValue}
use Rattle.apply_lanes.specs.Appliers.{ApplierValue, in_hand}
use Rattle.apply_lanes.specs.Names.{DeskId}

module _ {G A : Type 0} where
  -- what the buffer delivered is what was applied, then what was dropped at a closed desk, then the entry in hand, then
  -- what waits on the lane, then what is still to be sent, which is nothing unless the lane was found closed; number
  -- and received are those of what was applied
  pub record IsBetween (id : DeskId) (delivered : List EntryValue) (i : IntakeValue A)
      (a : ApplierValue G A) : Type 0 where
    pub applied : List EntryValue
    pub dropped : List EntryValue
    pub waiting : List EntryValue
    pub unsent : List EntryValue
    pub whole : delivered ≡ applied ++ dropped ++ in_hand a.hand ++ waiting ++ unsent
    pub all_gone : i.inlet.dead ≡ false → unsent ≡ []
    pub log : IsChain a.origin applied
    pub none_dropped : a.dropping ≡ false → dropped ≡ []
    pub number : a.number ≡ end applied
    pub received : a.received ≡ to id.site (moves_of applied)
