-- The worked examples, by computation.
use Rattle.std.proofs.Common.{◌≡◌, ◌+◌, ◌≤◌, eqb, inl, inr, true, false, List, [], ◌∷◌, ◌++◌, length, Some, None, arith}
use Rattle.std.proofs.Common.{refl}
use Rattle.std.specs.List.{Contains, All}
use Rattle.std.proofs.lemmas.Bool.{ne_eqb}
use Rattle.std.proofs.lemmas.List.Elements.{All-nil, All-cons}
use Rattle.rights_types.specs.Entries.{EntryValue}
use Rattle.rights_types.specs.Chains.{end, is_closed, moves_of}
use Rattle.rights_types.specs.Moves.{IsMove, NamesWithin, names}
use Rattle.rights_types.specs.Rights.{held, way, issued, spent, out, to, back, received, covers}
use Rattle.rights_types.specs.declared.moves.Move.{Move}
use Rattle.rights_types.specs.declared.moves.Move.TheVariants.{Issue, Spend, Give}
use Rattle.rights_protocol.specs.Retiring.{entry_at_end}
use Rattle.rights_protocol.specs.Writing.{is_plain}
use Rattle.rights_protocol.specs.Changes.{Step}
use Rattle.rights_protocol.specs.Changes.Change.{Append, Offer, Take, CloseSite}
use Rattle.rights_protocol.specs.Examples.{empty_side, from_other, two, in_order, opening, leaving, leaver, held_back}
use Rattle.rights_protocol.specs.Examples.{both_came, Inherits, issuing, giving, closing, regaining, giver, closer}
use Rattle.rights_protocol.specs.Examples.{regainer, told_late, GiftComesBack, BothClose, IsGranted, second, third}
use Rattle.rights_protocol.specs.Examples.{three, last_held, one_missing, all_came, GapFills, ones, holder}
use Rattle.rights_protocol.specs.Examples.{IsTurnedAway}
use Rattle.rights_protocol.proofs.TwoSites.{same, only_1, only_2, append_1, knows_none, reaches_2, takes_2, absent}

abbrev IsPlain : Move → Type 0
IsPlain m = is_plain m ≡ true

all_1 : {X : Type 0} (P : X → Type 0) (x : X) → P x → All P (x ∷ [])
all_1 P x h = All-cons P x [] h (All-nil P)

all_2 : {X : Type 0} (P : X → Type 0) (x y : X) → P x → P y → All P (x ∷ (y ∷ []))
all_2 P x y h k = All-cons P x (y ∷ []) h (all_1 P y k)

all_3 : {X : Type 0} (P : X → Type 0) (x y z : X) → P x → P y → P z → All P (x ∷ (y ∷ (z ∷ [])))
all_3 P x y z h k l = All-cons P x (y ∷ (z ∷ [])) h (all_2 P y z k l)

-- ---- an heir

open_it : Step (two empty_side empty_side) (Append 1 opening.moves) (two (in_order (opening ∷ []) [] []) empty_side)
unfolding held received issued spent out to back moves_of
open_it =
    append_1 empty_side empty_side opening.moves (record {
      unclosed = refl;
      some = omega arith;
      few = omega arith;
      moves = all_3 IsMove (Issue 10) (Spend 4) (Give 2 3) (omega arith, omega arith) (omega arith, omega arith)
          ((omega arith, omega arith), (omega arith, omega arith));
      plain = all_3 IsPlain (Issue 10) (Spend 4) (Give 2 3) refl refl refl;
      within = all_3 (NamesWithin 2) (Issue 10) (Spend 4) (Give 2 3) tt tt (omega arith, omega arith);
      others = refl;
      open_peers = λ c h. knows_none 1 c opening.moves h;
      fits = omega arith;
      holds = refl;
    })

leave : Step (two (in_order (opening ∷ []) [] []) empty_side) (CloseSite 1 (Some 2)) (two leaver empty_side)
unfolding held received issued spent out to back moves_of
leave =
    let rest : held 2 1 (opening ∷ []) (λ o. from_other 1 o []) ≡ 3 = refl in
    record {
      site = (omega arith, omega arith);
      may = record {
        unclosed = refl;
        inherits = record {
          site = (omega arith, omega arith);
          differ = omega arith;
          unclosed = refl;
          amount = omega (arith, rest);
        };
      };
      log = refl;
      links = λ o. record { reached = refl; put = refl; applied = refl };
      others = only_1 (in_order (opening ∷ []) [] []) leaver empty_side;
    }

hold_back : Step (two leaver empty_side) (Offer 2 1 leaving) (two leaver held_back)
hold_back =
    reaches_2 leaver empty_side leaving [] (1, omega arith, refl) (absent [] leaving refl)
    (inr (λ full. absurd (omega (arith, full))))
    (record {
      rest = opening ∷ (leaving ∷ []);
      whole = refl;
      inside = All-nil (Contains (leaving ∷ []));
      no_longer = absent (leaving ∷ []) opening refl;
    })

both_come : Step (two leaver held_back) (Offer 2 1 opening) (two leaver (both_came []))
both_come =
    reaches_2 leaver held_back opening (opening ∷ (leaving ∷ [])) (0, omega arith, refl)
    (absent (leaving ∷ []) opening refl) (inl refl)
    (record {
      rest = [];
      whole = refl;
      inside = all_2 (Contains (leaving ∷ (opening ∷ []))) opening leaving (1, omega arith, refl)
          (0, omega arith, refl);
      no_longer = tt;
    })

take_gift : Step (two leaver (both_came [])) (Take 2 1) (two leaver (both_came (opening ∷ [])))
take_gift = takes_2 leaver (both_came []) opening [] refl refl refl

take_heritage : Step (two leaver (both_came (opening ∷ []))) (Take 2 1)
    (two leaver (both_came (opening ∷ (leaving ∷ []))))
unfolding to moves_of
take_heritage = takes_2 leaver (both_came (opening ∷ [])) leaving [] refl refl refl

pub inherits : Inherits
unfolding held way received issued spent out to back moves_of
inherits = record {
  run = (
    _,
    open_it,
    (
      _,
      leave,
      (
        _,
        hold_back,
        (
          _,
          both_come,
          (_, take_gift, (_, take_heritage, same leaver (both_came (opening ∷ (leaving ∷ []))))),
        ),
      ),
    ),
  );
  before = record { held_1 = refl; held_2 = refl; way_1 = refl; way_2 = refl };
  given = record { held_1 = refl; held_2 = refl; way_1 = refl; way_2 = refl };
  closed = record { held_1 = refl; held_2 = refl; way_1 = refl; way_2 = refl };
  after = record { held_1 = refl; held_2 = refl; way_1 = refl; way_2 = refl };
}

-- ---- reclaiming

append_one : (log : List EntryValue) (m : Move) → is_closed log ≡ false → IsMove m → is_plain m ≡ true → NamesWithin 2 m
    → names 1 m ≡ false → end log + 1 ≤ 999999900
    → covers (held 2 1 log (λ o. from_other 1 o [])) (m ∷ []) ≡ true
    → Step (two (in_order log [] []) empty_side) (Append 1 (m ∷ []))
    (two (in_order (log ++ entry_at_end 1 log (m ∷ []) ∷ []) [] []) empty_side)
append_one log m unclosed is plain within other fits holds =
    append_1 (in_order log [] []) empty_side (m ∷ []) (record {
      unclosed = unclosed;
      some = omega arith;
      few = omega arith;
      moves = all_1 IsMove m is;
      plain = all_1 IsPlain m plain;
      within = all_1 (NamesWithin 2) m within;
      others = rw other refl;
      open_peers = λ c h. knows_none 1 c (m ∷ []) h;
      fits = omega (arith, fits);
      holds = holds;
    })

issue_it : Step (two empty_side empty_side) (Append 1 issuing.moves) (two (in_order (issuing ∷ []) [] []) empty_side)
unfolding held received issued spent out to back moves_of
issue_it = append_one [] (Issue 10) refl (omega arith, omega arith) refl tt refl (omega arith) refl

give_it : Step (two (in_order (issuing ∷ []) [] []) empty_side) (Append 1 giving.moves)
    (two (in_order (issuing ∷ (giving ∷ [])) [] []) empty_side)
unfolding held received issued spent out to back moves_of
give_it = append_one (issuing ∷ []) (Give 2 4) refl ((omega arith, omega arith), (omega arith, omega arith)) refl
    (omega arith, omega arith) refl (omega arith) refl

first_comes : Step (two (in_order (issuing ∷ (giving ∷ [])) [] []) empty_side) (Offer 2 1 issuing)
    (two (in_order (issuing ∷ (giving ∷ [])) [] []) (in_order [] (issuing ∷ []) []))
first_comes =
    reaches_2 (in_order (issuing ∷ (giving ∷ [])) [] []) empty_side issuing (issuing ∷ []) (0, omega arith, refl)
    (absent [] issuing refl) (inl refl)
    (record {
      rest = giving ∷ [];
      whole = refl;
      inside = all_1 (Contains (issuing ∷ [])) issuing (0, omega arith, refl);
      no_longer = absent (issuing ∷ []) giving refl;
    })

take_first : Step (two (in_order (issuing ∷ (giving ∷ [])) [] []) (in_order [] (issuing ∷ []) [])) (Take 2 1)
    (two (in_order (issuing ∷ (giving ∷ [])) [] []) (in_order [] (issuing ∷ []) (issuing ∷ [])))
take_first = takes_2 (in_order (issuing ∷ (giving ∷ [])) [] []) (in_order [] (issuing ∷ []) []) issuing
    [] refl refl refl

close_it : Step (two (in_order (issuing ∷ (giving ∷ [])) [] []) (in_order [] (issuing ∷ []) (issuing ∷ [])))
    (CloseSite 2 None) (two (in_order (issuing ∷ (giving ∷ [])) [] []) closer)
close_it = record {
  site = (omega arith, omega arith);
  may = record { unclosed = refl; inherits = tt };
  log = refl;
  links = λ o. record { reached = refl; put = refl; applied = refl };
  others = only_2 (in_order (issuing ∷ (giving ∷ [])) [] []) (in_order [] (issuing ∷ []) (issuing ∷ [])) closer;
}

closing_comes : Step (two (in_order (issuing ∷ (giving ∷ [])) [] []) closer) (Offer 1 2 closing)
    (two (giver (issuing ∷ (giving ∷ []))) closer)
closing_comes = record {
  site = (omega arith, omega arith);
  from = (omega arith, omega arith);
  differ = omega arith;
  sent = (0, omega arith, refl);
  comes = inl (record {
    fresh = absent [] closing refl;
    room = inl refl;
    log = refl;
    reached = refl;
    put = record {
      rest = [];
      whole = refl;
      inside = all_1 (Contains (closing ∷ [])) closing (0, omega arith, refl);
      no_longer = tt;
    };
    applied = refl;
    links = λ k ne. let no : eqb k 2 ≡ false
        = ne_eqb k 2 ne in record { reached = rw no refl; put = rw no refl; applied = refl };
    others = only_1 (in_order (issuing ∷ (giving ∷ [])) [] []) (giver (issuing ∷ (giving ∷ []))) closer;
  });
}

regain_it : Step (two (giver (issuing ∷ (giving ∷ []))) closer) (Take 1 2) (two regainer closer)
unfolding to moves_of
regain_it = record {
  site = (omega arith, omega arith);
  from = (omega arith, omega arith);
  differ = omega arith;
  unclosed = refl;
  entry = closing;
  next = refl;
  applied = record { there = refl; elsewhere = λ c ne. let no : eqb c 2 ≡ false = ne_eqb c 2 ne in rw no refl };
  log = refl;
  reached = λ k. refl;
  put = λ k. refl;
  others = only_1 (giver (issuing ∷ (giving ∷ []))) regainer closer;
}

gift_comes : Step (two regainer closer) (Offer 2 1 giving) (two regainer told_late)
gift_comes =
    reaches_2 regainer closer giving (issuing ∷ (giving ∷ [])) (1, omega arith, refl)
    (absent (issuing ∷ []) giving refl) (inl refl)
    (record {
      rest = regaining ∷ [];
      whole = refl;
      inside = all_2 (Contains (issuing ∷ (giving ∷ []))) issuing giving (0, omega arith, refl) (1, omega arith, refl);
      no_longer = absent (issuing ∷ (giving ∷ [])) regaining refl;
    })

pub takes_back : GiftComesBack
unfolding held way received issued spent out to back moves_of
takes_back = record {
  run = (
    _,
    issue_it,
    (
      _,
      give_it,
      (
        _,
        first_comes,
        (
          _,
          take_first,
          (
            _,
            close_it,
            (
              _,
              closing_comes,
              (
                _,
                regain_it,
                (_, gift_comes, (_, same regainer told_late, same regainer told_late)),
              ),
            ),
          ),
        ),
      ),
    ),
  );
  owes = refl;
  takes = refl;
  before = record { held_1 = refl; held_2 = refl; way_1 = refl; way_2 = refl };
  after = record { held_1 = refl; held_2 = refl; way_1 = refl; way_2 = refl };
  at_last = record { held_1 = refl; held_2 = refl; way_1 = refl; way_2 = refl };
}

-- ---- two that close, and a grant

pub both_close : BothClose
unfolding held way received issued spent out to back moves_of
both_close = record { owes = refl; stays = record { held_1 = refl; held_2 = refl; way_1 = refl; way_2 = refl } }

pub is_granted : IsGranted
unfolding held way received issued spent out to back moves_of
is_granted = record {
  before = record { held_1 = refl; held_2 = refl; way_1 = refl; way_2 = refl };
  granted = record { held_1 = refl; held_2 = refl; way_1 = refl; way_2 = refl };
  spent = record { held_1 = refl; held_2 = refl; way_1 = refl; way_2 = refl };
}

-- ---- a gap

hold_last : Step (two (in_order three [] []) empty_side) (Offer 2 1 third) (two (in_order three [] []) last_held)
hold_last =
    reaches_2 (in_order three [] []) empty_side third [] (2, omega arith, refl) (absent [] third refl)
    (inr (λ full. absurd (omega (arith, full))))
    (record {
      rest = three;
      whole = refl;
      inside = All-nil (Contains (third ∷ []));
      no_longer = absent (third ∷ []) issuing refl;
    })

first_of_three : Step (two (in_order three [] []) last_held) (Offer 2 1 issuing)
    (two (in_order three [] []) one_missing)
first_of_three =
    reaches_2 (in_order three [] []) last_held issuing (issuing ∷ []) (0, omega arith, refl)
    (absent (third ∷ []) issuing refl) (inl refl)
    (record {
      rest = second ∷ (third ∷ []);
      whole = refl;
      inside = all_1 (Contains (third ∷ (issuing ∷ []))) issuing (1, omega arith, refl);
      no_longer = absent (third ∷ (issuing ∷ [])) second refl;
    })

fill_gap : Step (two (in_order three [] []) one_missing) (Offer 2 1 second) (two (in_order three [] []) all_came)
fill_gap =
    reaches_2 (in_order three [] []) one_missing second three (1, omega arith, refl)
    (absent (third ∷ (issuing ∷ [])) second refl) (inl refl)
    (record {
      rest = [];
      whole = refl;
      inside = all_3 (Contains (third ∷ (issuing ∷ (second ∷ [])))) issuing second third (1, omega arith, refl)
          (2, omega arith, refl) (0, omega arith, refl);
      no_longer = tt;
    })

come_again : Step (two (in_order three [] []) all_came) (Offer 2 1 issuing) (two (in_order three [] []) all_came)
come_again = record {
  site = (omega arith, omega arith);
  from = (omega arith, omega arith);
  differ = omega arith;
  sent = (0, omega arith, refl);
  comes = inr (record { why = inl (1, omega arith, refl); all = same (in_order three [] []) all_came });
}

pub gap_fills : GapFills
unfolding held way received issued spent out to back moves_of
gap_fills = record {
  run = (_, hold_last, (_, first_of_three, (_, fill_gap, (_, come_again, same (in_order three [] []) all_came))));
  stays = record { held_1 = refl; held_2 = refl; way_1 = refl; way_2 = refl };
}

-- ---- no room

pub turned_away : IsTurnedAway
turned_away =
    let sent : length (ones 0 66) ≡ 66 = refl in
    let held : length (ones 1 64) ≡ 64 = refl in
    record {
      site = (omega arith, omega arith);
      from = (omega arith, omega arith);
      differ = omega arith;
      sent = (65, omega (arith, sent), refl);
      comes = inr (record {
        why = inr (λ e. omega (arith, e), omega (arith, held));
        all = same (in_order (ones 0 66) [] []) holder;
      });
    }
