-- What is printed of a journal, without the last line feed.
use Rattle.std.specs.Prelude.{ℕ, zero, suc, ◌==◌, ◌++◌, Bool, true, false, List, [], ◌∷◌, decimal, codes, Option}
use Rattle.std.specs.Prelude.{Some, None}
use Rattle.std.specs.Prelude.{if◌then◌else◌}
use Rattle.rights_types.specs.Chains.{end, moves_of}
use Rattle.rights_types.specs.Rights.{issued, spent, out, taken_back}
use Rattle.rights_book.specs.Books.{held_by, peer, received_by, sites}
use Rattle.reply_texts.specs.Texts.{desk_error_name}
use Rattle.site_core.specs.Desks.{DeskValue}
use Rattle.site_core.specs.Faults.{has_closed}
use Rattle.site_core.specs.declared.fault.ReplayError.{ReplayError}
use Rattle.site_core.specs.declared.fault.ReplayError.TheVariants as replay
use Rattle.site_records.specs.Openings.{OpeningValue}
use Rattle.site_records.specs.declared.fault.RecordFault.{RecordFault}
use Rattle.site_records.specs.declared.fault.RecordFault.TheVariants as record_fault
use Rattle.journal_check.specs.declared.reading.Reading.{Reading}
use Rattle.journal_check.specs.declared.reading.Reading.TheVariants.{Whole, Refused, Damaged, TooLong, Failed}
use Rattle.journal_check.specs.declared.reading.Restored.{Restored}

-- ---- what is wrong

unfoldable pub replay_text : ReplayError → List ℕ
replay_text replay.OutOfOrder = codes "it is not the next one"
replay_text replay.GrantedBefore = codes "it grants what was granted before"
replay_text replay.OtherClosing = codes "it closes the site in another way than the site does"
replay_text (replay.NotPermitted error) = codes "denied: " ++ desk_error_name error
replay_text replay.NoRecord = codes "it is a message that no journal has"

unfoldable pub fault_text : RecordFault → List ℕ
fault_text record_fault.NoOpening = codes "it does not say whose journal this is"
fault_text record_fault.OtherSite = codes "it is the journal of another site"
fault_text record_fault.OtherSize = codes "it is the journal of a system of another size"
fault_text record_fault.OtherSystem = codes "it is the journal of another system"
fault_text (record_fault.Unreadable error) = codes "it spells no record"
fault_text record_fault.NoKeyEntry = codes "the log has no entry of a client's command with this number"
fault_text (record_fault.NotPermitted error) = replay_text error
fault_text record_fault.OutOfMemory = codes "there is no memory for it"

unfoldable pub cause_text : Reading → List ℕ
cause_text (Whole rest) = []
cause_text (Refused number fault) = codes "record " ++ decimal number ++ codes " refused: " ++ fault_text fault
cause_text (Damaged at) = codes "damage at byte " ++ decimal at
cause_text TooLong = codes "it is longer than a journal can be"
cause_text Failed = codes "it cannot be read"

unfoldable pub why_front : List ℕ
why_front = codes "rights-site: journal: "

-- the line on standard error, with its line feed; none if the whole journal was read
abbrev pub why_line : Reading → List ℕ
why_line (Whole rest) = []
why_line reading = why_front ++ cause_text reading ++ 10 ∷ []

-- ---- a table for people

unfoldable pub system_row : Option (List ℕ) → List ℕ
system_row (Some name) = codes "\nsystem " ++ name
system_row None = []

abbrev pub owner_rows : OpeningValue → List ℕ
owner_rows o = codes "site " ++ decimal o.site ++ codes " of " ++ decimal o.sites ++ system_row o.system

unfoldable pub closed_row : Bool → List ℕ
closed_row true = codes "\nclosed yes"
closed_row false = codes "\nclosed no"

-- what the site's own log says, and what follows from the others
abbrev pub own_rows : DeskValue → List ℕ
own_rows d =
    codes "\nnumber " ++ decimal (end d.ledger.log.entries)
    ++ codes "\nissued " ++ decimal (issued (moves_of d.ledger.log.entries))
    ++ codes "\nspent " ++ decimal (spent (moves_of d.ledger.log.entries))
    ++ codes "\ngiven " ++ decimal (out (moves_of d.ledger.log.entries))

abbrev pub held_rows : DeskValue → List ℕ
held_rows d =
    codes "\nreceived " ++ decimal (received_by d.ledger.book)
    ++ codes "\nback " ++ decimal (taken_back (moves_of d.ledger.log.entries))
    ++ codes "\nheld " ++ decimal (held_by d.ledger.book)
    ++ closed_row (has_closed d)

-- the number of the last entry of that site's log that was applied
abbrev pub applied_of : DeskValue → ℕ → ℕ
applied_of d o = (peer d.ledger.book o).log.end

-- how far the log of this site was applied; nothing for the own log
unfoldable pub peer_row : DeskValue → ℕ → List ℕ
peer_row d n = if n == d.ledger.log.site then []
    else codes "\npeer " ++ decimal n ++ codes " applied " ++ decimal (applied_of d n)

-- .. and of the sites up to the n-th
abbrev pub peer_rows : DeskValue → ℕ → List ℕ
peer_rows d zero = []
peer_rows d (suc n) = peer_rows d n ++ peer_row d (suc n)

unfoldable pub told_row : Bool → List ℕ
told_row true = codes "\nbehind the records: the rest of an append that was never told"
told_row false = []

unfoldable pub rest_row : Reading → List ℕ
rest_row (Whole rest) = told_row rest
rest_row reading = []

abbrev pub table : OpeningValue → Restored → List ℕ
table o r =
    owner_rows o ++ codes "\nrecords " ++ decimal r.records ++ own_rows r.desk ++ held_rows r.desk
    ++ peer_rows r.desk (sites r.desk.ledger.book) ++ rest_row r.reading

abbrev pub empty_table : Reading → List ℕ
empty_table reading = codes "records 0" ++ rest_row reading

-- ---- an object of JSON

unfoldable pub closed_member : Bool → List ℕ
closed_member true = codes ",\"closed\":true,"
closed_member false = codes ",\"closed\":false,"

unfoldable pub damaged_member : Reading → List ℕ
damaged_member (Damaged at) = codes "\"damaged\":" ++ decimal at
damaged_member reading = codes "\"damaged\":null"

abbrev pub rights_members : DeskValue → List ℕ
rights_members d =
    codes ",\"given\":" ++ decimal (out (moves_of d.ledger.log.entries))
    ++ codes ",\"held\":" ++ decimal (held_by d.ledger.book)
    ++ codes ",\"issued\":" ++ decimal (issued (moves_of d.ledger.log.entries))
    ++ codes ",\"number\":" ++ decimal (end d.ledger.log.entries)

-- the first of the other sites
abbrev pub first_peer : ℕ → ℕ
first_peer own = if own == 1 then 2 else 1

abbrev pub comma_before : ℕ → ℕ → List ℕ
comma_before own n = if n == first_peer own then [] else codes ","

-- how far the log of this site was applied; nothing for the own log
unfoldable pub peer_item : DeskValue → ℕ → List ℕ
peer_item d n = if n == d.ledger.log.site then []
    else comma_before d.ledger.log.site n
    ++ codes "{\"applied\":" ++ decimal (applied_of d n) ++ codes ",\"site\":" ++ decimal n ++ codes "}"

-- .. and of the sites up to the n-th
abbrev pub peer_items : DeskValue → ℕ → List ℕ
peer_items d zero = []
peer_items d (suc n) = peer_items d n ++ peer_item d (suc n)

unfoldable pub told_member : Bool → List ℕ
told_member true = codes ",\"rest\":true"
told_member false = codes ",\"rest\":false"

unfoldable pub refused_number : ℕ → List ℕ
refused_number n = codes ",\"refused\":" ++ decimal n

unfoldable pub refused_member : Reading → List ℕ
refused_member (Refused number fault) = refused_number number
refused_member reading = codes ",\"refused\":null"

unfoldable pub rest_member : Reading → List ℕ
rest_member (Whole rest) = told_member rest
rest_member reading = told_member false

unfoldable pub system_member : Option (List ℕ) → List ℕ
system_member (Some name) = codes ",\"system\":\"" ++ name ++ codes "\""
system_member None = codes ",\"system\":null"

-- .. and the end of the object
unfoldable pub why_member : Reading → List ℕ
why_member (Whole rest) = codes ",\"why\":null}"
why_member reading = codes ",\"why\":\"" ++ cause_text reading ++ codes "\"}"

abbrev pub peers_member : DeskValue → List ℕ
peers_member d = codes ",\"peers\":[" ++ peer_items d (sites d.ledger.book) ++ codes "]"

unfoldable pub received_member : ℕ → List ℕ
received_member n = codes ",\"received\":" ++ decimal n

unfoldable pub records_member : ℕ → List ℕ
records_member n = codes ",\"records\":" ++ decimal n

abbrev pub records_members : Restored → List ℕ
records_members r =
    received_member (received_by r.desk.ledger.book) ++ records_member r.records ++ refused_member r.reading
    ++ rest_member r.reading

abbrev pub owner_members : OpeningValue → DeskValue → List ℕ
owner_members o d =
    codes ",\"site\":" ++ decimal o.site ++ codes ",\"sites\":" ++ decimal o.sites
    ++ codes ",\"spent\":" ++ decimal (spent (moves_of d.ledger.log.entries)) ++ system_member o.system

abbrev pub object : OpeningValue → Restored → List ℕ
object o r =
    codes "{\"back\":" ++ decimal (taken_back (moves_of r.desk.ledger.log.entries)) ++ closed_member (has_closed r.desk)
    ++ damaged_member r.reading ++ rights_members r.desk ++ peers_member r.desk
    ++ records_members r ++ owner_members o r.desk ++ why_member r.reading

abbrev pub empty_object : Reading → List ℕ
empty_object reading =
    codes "{" ++ damaged_member reading ++ records_member 0 ++ refused_member reading ++ rest_member reading
    ++ why_member reading

-- ---- one of these

unfoldable pub site_text : Bool → OpeningValue → Restored → List ℕ
site_text true o r = object o r
site_text false o r = table o r

unfoldable pub nobody_text : Bool → Reading → List ℕ
nobody_text true reading = empty_object reading
nobody_text false reading = empty_table reading
