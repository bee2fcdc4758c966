-- What a book tells of a site.
use Rattle.std.specs.Prelude.{ℕ, ◌+◌, List}
use Rattle.rights_types.specs.Entries.{EntryValue}
use Rattle.rights_types.specs.Chains.{end, is_closed, moves_of}
use Rattle.rights_types.specs.Rights.{issued, spent, out, taken_back}
use Rattle.rights_book.specs.Books.{BookValue, peer, account}
use Rattle.rights_book.specs.Known.{known_gifts}
use Rattle.rights_book.specs.declared.sums.SiteSums.{SiteSums}

-- the account of site j, and what the others and the book's site gave to it
abbrev pub sums_by : BookValue → ℕ → SiteSums
sums_by b j = record {
  site = j;
  end = (account b j).end;
  issued = (account b j).issued;
  spent = (account b j).spent;
  given = (account b j).given;
  received = (peer b j).gifts + (peer b j).given;
  taken_back = (account b j).back;
  closed = (account b j).closed;
}

-- the sums of site j by these logs of n sites
abbrev pub sums_of : ℕ → ℕ → (ℕ → List EntryValue) → SiteSums
sums_of n j logs = record {
  site = j;
  end = end (logs j);
  issued = issued (moves_of (logs j));
  spent = spent (moves_of (logs j));
  given = out (moves_of (logs j));
  received = known_gifts n j logs;
  taken_back = taken_back (moves_of (logs j));
  closed = is_closed (logs j);
}
