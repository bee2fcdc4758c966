-- The report of what is known of each other site.
use Rattle.std.specs.Prelude.{ℕ, zero, suc, ℤ, Bool, true, false, List, [], ◌++◌, ◌==◌, codes, decimal}
use Rattle.std.specs.Prelude.{if◌then◌else◌}
use Rattle.std.specs.Fmt.{signed_decimal}
use Rattle.rights_book.specs.Books.{sites, known_by}
use Rattle.rights_book.specs.Sums.{sums_by}
use Rattle.rights_book.specs.declared.sums.SiteSums.{SiteSums}
use Rattle.site_core.specs.Desks.{DeskValue}

abbrev pub truth : Bool → List ℕ
truth true = codes "true"
truth false = codes "false"

-- how far the log of a site was applied, and whether that closes it
unfoldable pub log_members : SiteSums → List ℕ
log_members s = codes "{\"applied\":" ++ decimal s.end ++ codes ",\"closed\":" ++ truth s.closed

unfoldable pub rights_members : SiteSums → ℤ → List ℕ
rights_members s held =
    codes ",\"given\":" ++ decimal s.given ++ codes ",\"held\":" ++ signed_decimal held
    ++ codes ",\"issued\":" ++ decimal s.issued ++ codes ",\"received\":" ++ decimal s.received

unfoldable pub last_members : SiteSums → List ℕ
last_members s =
    codes ",\"site\":" ++ decimal s.site ++ codes ",\"spent\":" ++ decimal s.spent
    ++ codes ",\"taken_back\":" ++ decimal s.taken_back ++ codes "}"

-- what is known of a site, and of the rights that it holds, as an object of JSON
abbrev pub sums_text : SiteSums → ℤ → List ℕ
sums_text s held = log_members s ++ rights_members s held ++ last_members s

-- the first one of the other sites
abbrev pub first_peer : ℕ → ℕ
first_peer own = if own == 1 then 2 else 1

-- the comma before each other site but the first one
abbrev pub comma_before : ℕ → ℕ → List ℕ
comma_before own n = if n == first_peer own then [] else codes ","

-- what the desk knows of site n; nothing of its own site
unfoldable pub peer_item : DeskValue → ℕ → List ℕ
peer_item d n = if n == d.ledger.log.site then []
    else comma_before d.ledger.log.site n ++ sums_text (sums_by d.ledger.book n) (known_by d.ledger.book n)

-- .. and of the sites up to the n-th
abbrev pub peer_items : DeskValue → ℕ → List ℕ
peer_items d zero = []
peer_items d (suc n) = peer_items d n ++ peer_item d (suc n)

-- what the desk knows of each other site, and which site it is that tells it
abbrev pub peers_text : DeskValue → List ℕ
peers_text d =
    codes "{\"peers\":[" ++ peer_items d (sites d.ledger.book) ++ codes "],\"site\":" ++ decimal d.ledger.log.site
    ++ codes "}"
