-- Worked examples of two sites, as plain data.
use Rattle.std.specs.Prelude.{◌≡◌, ℕ, ◌-◌, ◌==◌, List, [], ◌∷◌, Some, None, map, if◌then◌else◌}
use Rattle.std.specs.List.{range_with_len}
use Rattle.rights_types.specs.Entries.{EntryValue}
use Rattle.rights_types.specs.declared.moves.Move.{Move}
use Rattle.rights_types.specs.declared.moves.Move.TheVariants.{Issue, Spend, Grant, Give, CloseAt, TakeBack}
use Rattle.rights_protocol.specs.Lists.{Lists, held_at, on_way}
use Rattle.rights_protocol.specs.Retiring.{frontier, owed, taking_back}
use Rattle.rights_protocol.specs.Changes.{Step, Runs}
use Rattle.rights_protocol.specs.Changes.Change.{Append, Offer, Take, CloseSite, Nothing}

-- ---- two sites

-- the lists of one of two sites: its log, and of the other's log what reached it, was delivered and was applied
pub record Side : Type 0 where
  pub log : List EntryValue
  pub reached : List EntryValue
  pub put : List EntryValue
  pub applied : List EntryValue

abbrev pub empty_side : Side
empty_side = record { log = []; reached = []; put = []; applied = [] }

abbrev pub side : Side → Side → ℕ → Side
side a b s = if s == 1 then a else (if s == 2 then b else empty_side)

abbrev pub from_other : ℕ → ℕ → List EntryValue → List EntryValue
from_other s o es = if o == (3 - s) then es else []

abbrev pub two : Side → Side → Lists
two a b = record {
  count = 2;
  log = λ s. (side a b s).log;
  reached = λ s o. from_other s o (side a b s).reached;
  put = λ s o. from_other s o (side a b s).put;
  applied = λ s o. from_other s o (side a b s).applied;
}

abbrev pub entry : ℕ → ℕ → List Move → EntryValue
entry o prev ms = record { origin = o; prev = prev; moves = ms }

-- a site that has delivered all of es that reached it, and applied this prefix of it
abbrev pub in_order : List EntryValue → List EntryValue → List EntryValue → Side
in_order log es applied = record { log = log; reached = es; put = es; applied = applied }

-- sites 1 and 2 hold these amounts, and these are in transit from 1 to 2 and from 2 to 1
pub record Stands (w : Lists) (one two from_1 from_2 : ℕ) : Type 0 where
  pub held_1 : held_at w 1 ≡ one
  pub held_2 : held_at w 2 ≡ two
  pub way_1 : on_way w 1 2 ≡ from_1
  pub way_2 : on_way w 2 1 ≡ from_2

-- ---- an heir: site 1 issues 10, spends 4 and gives 3 to site 2, which inherits the rest

abbrev pub opening : EntryValue
opening = entry 1 0 (Issue 10 ∷ (Spend 4 ∷ (Give 2 3 ∷ [])))

abbrev pub leaving : EntryValue
leaving = entry 1 3 (Give 2 3 ∷ (CloseAt (0 ∷ (0 ∷ [])) ∷ []))

abbrev pub leaver : Side
leaver = in_order (opening ∷ (leaving ∷ [])) [] []

-- the closing entry arrives first and is held until the one before it arrives too
abbrev pub held_back : Side
held_back = record { log = []; reached = leaving ∷ []; put = []; applied = [] }

abbrev pub both_came : List EntryValue → Side
both_came applied = record {
  log = [];
  reached = leaving ∷ (opening ∷ []);
  put = opening ∷ (leaving ∷ []);
  applied = applied;
}

pub record Inherits : Type 0 where
  pub run : Runs (two empty_side empty_side)
      (Append 1 opening.moves ∷ (CloseSite 1 (Some 2)
      ∷ (Offer 2 1 leaving ∷ (Offer 2 1 opening ∷ (Take 2 1 ∷ (Take 2 1 ∷ []))))))
      (two leaver (both_came (opening ∷ (leaving ∷ []))))
  -- the gift is held by its giver, then in transit, then held by its receiver; then the inheritance follows
  pub before : Stands (two (in_order (opening ∷ []) [] []) empty_side) 3 0 3 0
  pub given : Stands (two (in_order (opening ∷ []) [] []) (in_order [] (opening ∷ []) (opening ∷ []))) 3 3 0 0
  pub closed : Stands (two leaver (both_came (opening ∷ []))) 0 3 3 0
  pub after : Stands (two leaver (both_came (opening ∷ (leaving ∷ [])))) 0 6 0 0

-- ---- reclaiming: site 1 issues 10 and gives 4 to site 2, which closes without having applied the gift

abbrev pub issuing : EntryValue
issuing = entry 1 0 (Issue 10 ∷ [])

abbrev pub giving : EntryValue
giving = entry 1 1 (Give 2 4 ∷ [])

abbrev pub closing : EntryValue
closing = entry 2 0 (CloseAt (1 ∷ (0 ∷ [])) ∷ [])

abbrev pub regaining : EntryValue
regaining = entry 1 2 (TakeBack 2 4 ∷ [])

abbrev pub giver : List EntryValue → Side
giver log = in_order log (closing ∷ []) []

abbrev pub closer : Side
closer = in_order (closing ∷ []) (issuing ∷ []) (issuing ∷ [])

abbrev pub regainer : Side
regainer = in_order (issuing ∷ (giving ∷ (regaining ∷ []))) (closing ∷ []) (closing ∷ [])

-- the gift still arrives, and is not applied any more
abbrev pub told_late : Side
told_late = in_order (closing ∷ []) (issuing ∷ (giving ∷ [])) (issuing ∷ [])

pub record GiftComesBack : Type 0 where
  pub run : Runs (two empty_side empty_side)
      (Append 1 issuing.moves ∷ (Append 1 giving.moves
      ∷ (Offer 2 1 issuing ∷ (Take 2 1
      ∷ (CloseSite 2 None ∷ (Offer 1 2 closing ∷ (Take 1 2 ∷ (Offer 2 1 giving ∷ (Nothing ∷ [])))))))))
      (two regainer told_late)
  pub owes : owed 1 2 (issuing ∷ (giving ∷ [])) (frontier (closing ∷ [])) ≡ 4
  pub takes : taking_back 1 2 (issuing ∷ (giving ∷ [])) closing ≡ regaining ∷ []
  pub before : Stands (two (giver (issuing ∷ (giving ∷ []))) closer) 6 0 4 0
  pub after : Stands (two regainer closer) 10 0 0 0
  pub at_last : Stands (two regainer told_late) 10 0 0 0

-- ---- two that close towards each other: what was in transit stays there

abbrev pub closing_too : EntryValue
closing_too = entry 1 2 (CloseAt (0 ∷ (0 ∷ [])) ∷ [])

pub record BothClose : Type 0 where
  pub owes : owed 1 2 (entry 1 0 (Issue 5 ∷ []) ∷ (entry 1 1 (Give 2 5 ∷ []) ∷ [])) (Some (0 ∷ (0 ∷ []))) ≡ 5
  pub stays : Stands (two (in_order (entry 1 0 (Issue 5 ∷ []) ∷ (entry 1 1 (Give 2 5 ∷ []) ∷ (closing_too ∷ [])))
      (entry 2 0 (CloseAt (0 ∷ (0 ∷ [])) ∷ []) ∷ []) [])
      (in_order (entry 2 0 (CloseAt (0 ∷ (0 ∷ [])) ∷ []) ∷ []) [] [])) 0 0 5 0

-- ---- a grant: site 1 grants 6 of 10 to site 2, which spends them

abbrev pub granting : EntryValue
granting = entry 1 1 (Grant 2 6 1 ∷ [])

pub record IsGranted : Type 0 where
  pub before : Stands (two (in_order (issuing ∷ (granting ∷ [])) [] []) (in_order [] (issuing ∷ []) (issuing ∷ []))) 4 0
      6 0
  pub granted : Stands (two (in_order (issuing ∷ (granting ∷ [])) [] [])
      (in_order [] (issuing ∷ (granting ∷ [])) (issuing ∷ (granting ∷ [])))) 4 6 0 0
  pub spent : Stands (two (in_order (issuing ∷ (granting ∷ [])) [] [])
      (in_order (entry 2 0 (Spend 6 ∷ []) ∷ []) (issuing ∷ (granting ∷ [])) (issuing ∷ (granting ∷ [])))) 4 0 0 0

-- ---- a gap: the last of three entries comes first and is held; the others come, and then all once more

abbrev pub second : EntryValue
second = entry 1 1 (Spend 1 ∷ (Spend 1 ∷ (Spend 1 ∷ [])))

abbrev pub third : EntryValue
third = entry 1 4 (Spend 2 ∷ [])

abbrev pub three : List EntryValue
three = issuing ∷ (second ∷ (third ∷ []))

abbrev pub last_held : Side
last_held = record { log = []; reached = third ∷ []; put = []; applied = [] }

abbrev pub one_missing : Side
one_missing = record { log = []; reached = third ∷ (issuing ∷ []); put = issuing ∷ []; applied = [] }

abbrev pub all_came : Side
all_came = record { log = []; reached = third ∷ (issuing ∷ (second ∷ [])); put = three; applied = [] }

pub record GapFills : Type 0 where
  pub run : Runs (two (in_order three [] []) empty_side)
      (Offer 2 1 third ∷ (Offer 2 1 issuing ∷ (Offer 2 1 second ∷ (Offer 2 1 issuing ∷ []))))
      (two (in_order three [] []) all_came)
  pub stays : Stands (two (in_order three [] []) all_came) 5 0 0 0

-- ---- no room: 64 entries are held, and one more is turned away

abbrev pub ones : ℕ → ℕ → List EntryValue
ones first n = map (λ k. entry 1 k (Issue 1 ∷ [])) (range_with_len first n)

abbrev pub holder : Side
holder = record { log = []; reached = ones 1 64; put = []; applied = [] }

abbrev pub IsTurnedAway : Type 0
IsTurnedAway = Step (two (in_order (ones 0 66) [] []) holder) (Offer 2 1 (entry 1 65 (Issue 1 ∷ [])))
    (two (in_order (ones 0 66) [] []) holder)
