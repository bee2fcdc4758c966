-- What the moves of one log add up to.
use Rattle.std.specs.Prelude.{◌+◌, ◌*◌, ◌≤◌, false, ◌||◌, List, length}
use Rattle.std.specs.List.{list_any}
use Rattle.rights_types.specs.declared.limits.TheConstants.{MAX_AMOUNT, MAX_TOTAL}
use Rattle.rights_types.specs.Ranges.{IsNumber}
use Rattle.rights_types.specs.Entries.{EntryValue}
use Rattle.rights_types.specs.Moves.{is_close, issue_of, spend_of, gift_of, take_back_of}
use Rattle.rights_types.specs.Chains.{end, is_closed, moves_of}
use Rattle.rights_types.specs.Rights.{issued, spent, out, taken_back}
use Rattle.rights_types.specs.declared.moves.Move.{Move}
use Rattle.rights_book.specs.declared.account.Account.{Account}

-- the account of an empty log
abbrev pub no_account : Account
no_account = record { end = 0; issued = 0; spent = 0; given = 0; back = 0; closed = false }

-- the account of a log
abbrev pub account_of : List EntryValue → Account
account_of es = record {
  end = end es;
  issued = issued (moves_of es);
  spent = spent (moves_of es);
  given = out (moves_of es);
  back = taken_back (moves_of es);
  closed = is_closed es;
}

-- the account with one more move
abbrev pub with_move : Account → Move → Account
with_move a m = record {
  end = a.end + 1;
  issued = a.issued + issue_of m;
  spent = a.spent + spend_of m;
  given = a.given + gift_of m;
  back = a.back + take_back_of m;
  closed = a.closed || is_close m;
}

-- the account with these moves added
abbrev pub with_moves : Account → List Move → Account
with_moves a ms = record {
  end = a.end + length ms;
  issued = a.issued + issued ms;
  spent = a.spent + spent ms;
  given = a.given + out ms;
  back = a.back + taken_back ms;
  closed = a.closed || list_any is_close ms;
}

-- for each of its numbers, a log issues, spends and gives at most the greatest amount, and reclaims at most the
-- greatest total
pub record IsAccount (a : Account) : Type 0 where
  pub in_range : IsNumber a.end
  pub issues : a.issued ≤ a.end * MAX_AMOUNT
  pub spends : a.spent ≤ a.end * MAX_AMOUNT
  pub gives : a.given ≤ a.end * MAX_AMOUNT
  pub takes_back : a.back ≤ a.end * MAX_TOTAL
