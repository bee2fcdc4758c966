-- What passed the tests of a desk.
use Rattle.std.proofs.Common.{◌≡◌, ◌≢◌, ℕ, ◌+◌, ◌≤◌, inl, inr, Bool, true, false, not, cond, eqb, ltb, min, List, []}
use Rattle.std.proofs.Common.{◌∷◌, length, Option, Some, None, refl, ap, sym, subst, ◌∙◌, arith}
use Rattle.std.specs.Prelude.{◌||◌, ◌&&◌, IfSome}
use Rattle.std.proofs.Math.Nat.{min-le_right}
use Rattle.std.proofs.lemmas.Bool.{and_parts, cases_Bool, eqb-false, eqb-true, leb-true, le-leb, ltb-false, not-false}
use Rattle.std.proofs.lemmas.List.{nil_from_length}
use Rattle.std.proofs.lemmas.List.Elements.{All-head}
use Rattle.rights_types.specs.Ranges.{IsSite}
use Rattle.rights_types.specs.Entries.{EntryValue}
use Rattle.rights_types.specs.Chains.{end, is_closed}
use Rattle.rights_types.specs.Moves.{IsMove}
use Rattle.rights_types.specs.Messages.{AskValue}
use Rattle.rights_types.specs.declared.moves.Move.{Move}
use Rattle.rights_types.specs.declared.moves.Move.TheVariants.{Issue, Spend, Grant, Give}
use Rattle.origin_log.specs.Logs.{LogValue}
use Rattle.origin_log.specs.Faults.{append_fault}
use Rattle.origin_log.specs.declared.fault.LogError.TheVariants.{Closed as LogShut, BadCount as NoCount}
use Rattle.origin_log.specs.declared.fault.LogError.TheVariants.{LogFull as NoNumber}
use Rattle.rights_book.specs.Books.{sites, account, held_by}
use Rattle.rights_book.specs.Checks.{check_fault}
use Rattle.rights_book.specs.declared.fault.BookError.{BookError}
use Rattle.rights_book.specs.declared.fault.BookError.TheVariants.{NoSuchSite as NoSite, SameSite as OwnSite}
use Rattle.rights_book.specs.declared.fault.BookError.TheVariants.{PeerClosed as Gone, Short as Lacking}
use Rattle.request_queue.specs.Queues.{front_of}
use Rattle.transfer_manager.specs.declared.answer.AskAnswer.{AskAnswer}
use Rattle.transfer_manager.specs.declared.answer.AskAnswer.TheVariants.{Grant as Granted, Deny, RepeatedDeny, Repeated}
use Rattle.transfer_manager.specs.declared.answer.AskAnswer.TheVariants.{OldAsk}
use Rattle.transfer_manager.specs.Managers.{asks}
use Rattle.transfer_manager.specs.AskAnswers.{grant_of}
use Rattle.site_core.specs.Ledgers.{IsWritable, EntryKeeps, CanInherit, ClosingKeeps, IsNextOf, ApplyKeeps}
use Rattle.site_core.specs.Desks.{DeskValue, DeskSound}
use Rattle.site_core.specs.declared.desk.requests.Spending.{Spending}
use Rattle.site_core.specs.declared.desk.requests.Spending.TheVariants.{Spent, Queued}
use Rattle.site_core.specs.declared.fault.DeskError.TheVariants.{LogFull, QueueFull}
use Rattle.site_core.specs.Faults.{has_closed, is_full, book_cause, write_fault, post_fault, is_no_amount, issue_fault}
use Rattle.site_core.specs.Faults.{give_fault, can_spend, is_queue_full, spend_fault, spare, take_fault}
use Rattle.site_core.specs.Faults.{can_serve, serve_fault}
use Rattle.site_core.specs.Faults.{heir_fault, close_fault}
use Rattle.site_core.specs.Calls.{DeskWrites, DeskSpends, SpendKeeps, DeskServes, ServeKeeps, available, answer_of}
use Rattle.site_core.specs.Calls.{DeskAnswers, AnswerKeeps, DeskApplies, DeskCloses}
use Rattle.site_core.proofs.LedgerLaws.{no_cause}
use Rattle.site_core.proofs.DeskLaws.{any_unpostable, ordinary, spend_unrefused}
use Rattle.site_core.proofs.Keeping.{entry_kept, closing_kept, apply_kept}
use Rattle.site_core.proofs.AskLaws.{CanGrant, can_grant, grant_unrefused}

-- ---- entries that are posted

no_causes : {E : Type 0} (a b c : Bool) (x y z : E) → a ≡ false → b ≡ false → c ≡ false
    → cond a (Some x) (cond b (Some y) (cond c (Some z) None)) ≡ None
no_causes a b c x y z p q r = rw (p, q, r) refl

pub log_takes : (log : LogValue) (ms : List Move) → is_closed log.entries ≡ false
    → (ltb (length ms) 1 || ltb 16 (length ms)) ≡ false
    → ltb 999999900 (end log.entries + length ms) ≡ false → append_fault log ms ≡ None
log_takes log ms unclosed count room =
    no_causes (is_closed log.entries) (ltb (length ms) 1 || ltb 16 (length ms))
    (ltb 999999900 (end log.entries + length ms)) LogShut NoCount NoNumber unclosed count room

-- neither the book nor a full log refuses
pub no_book_cause : (full : Bool) (fault : Option BookError) → book_cause full fault ≡ None
    → (fault ≡ None) × (full ≡ false)
no_book_cause full (Some NoSite) h = absurd cc
no_book_cause full (Some OwnSite) h = absurd cc
no_book_cause full (Some Gone) h = absurd cc
no_book_cause true (Some Lacking) h = absurd cc
no_book_cause false (Some Lacking) h = absurd cc
no_book_cause true None h = absurd cc
no_book_cause false None h = (refl, refl)

writable : (d : DeskValue) (ms : List Move) → has_closed d ≡ false → (ltb (length ms) 1 || ltb 16 (length ms)) ≡ false
    → any_unpostable ms ≡ false
    → write_fault d ms ≡ None → IsWritable d.ledger ms
writable d ms unclosed count postable h =
    let both = no_book_cause (is_full d (length ms)) (check_fault d.ledger.book ms) h in
    record { plain = ordinary ms postable; room = log_takes d.ledger.log ms unclosed count both.1; covered = both.0 }

pub post_writable : (d : DeskValue) (ms : List Move) → post_fault d ms ≡ None → IsWritable d.ledger ms
post_writable d ms h =
    let unclosed = no_cause (has_closed d) _ _ h in
    let count = no_cause (ltb (length ms) 1 || ltb 16 (length ms)) _ _ unclosed.1 in
    let postable = no_cause (any_unpostable ms) _ _ count.1 in
    writable d ms unclosed.0 count.0 postable.0 postable.1

pub issue_writable : (d : DeskValue) (n : ℕ) → issue_fault d n ≡ None → IsWritable d.ledger (Issue n ∷ [])
issue_writable d n h =
    let unclosed = no_cause (has_closed d) _ _ h in
    let amount = no_cause (is_no_amount n) _ _ unclosed.1 in
    writable d (Issue n ∷ []) unclosed.0 refl refl amount.1

pub give_writable : (d : DeskValue) (j n : ℕ) → give_fault d j n ≡ None → IsWritable d.ledger (Give j n ∷ [])
give_writable d j n h =
    let unclosed = no_cause (has_closed d) _ _ h in
    let amount = no_cause (is_no_amount n) _ _ unclosed.1 in
    writable d (Give j n ∷ []) unclosed.0 refl refl amount.1

-- ---- spends

one_spend : (d : DeskValue) (n : ℕ) → has_closed d ≡ false → is_full d 1 ≡ false → n ≤ held_by d.ledger.book
    → IsWritable d.ledger (Spend n ∷ [])
one_spend d n unclosed room within = record {
  plain = refl;
  room = log_takes d.ledger.log (Spend n ∷ []) unclosed refl room;
  covered = spend_unrefused d.ledger.book n within;
}

-- a spend is refused by a closed site, and one that is served at once by a full log
pub spend_unclosed : (d : DeskValue) (n : ℕ) → spend_fault d n ≡ None → has_closed d ≡ false
spend_unclosed d n h = (no_cause (has_closed d) _ _ h).0

room_at_once : (can full busy : Bool) → cond can (cond full (Some LogFull) None) (cond busy (Some QueueFull) None)
    ≡ None → can ≡ true → full ≡ false
room_at_once true true busy h now = absurd cc
room_at_once true false busy h now = refl
room_at_once false full busy h now = absurd cc

pub spend_writable : (d : DeskValue) (n : ℕ) → spend_fault d n ≡ None → can_spend d n ≡ true
    → IsWritable d.ledger (Spend n ∷ [])
spend_writable d n h can =
    let unclosed = no_cause (has_closed d) _ _ h in
    let amount = no_cause (is_no_amount n) _ _ unclosed.1 in
    one_spend d n unclosed.0 (room_at_once (can_spend d n) (is_full d 1) (is_queue_full d) amount.1 can)
    (leb-true n (held_by d.ledger.book) (and_parts _ _ can).1)

pub take_writable : (d : DeskValue) (n : ℕ) → take_fault d n ≡ None → IsWritable d.ledger (Spend n ∷ [])
take_writable d n h =
    let unclosed = no_cause (has_closed d) _ _ h in
    let amount = no_cause (is_no_amount n) _ _ unclosed.1 in
    let room = no_cause (is_full d 1) _ _ amount.1 in
    let enough = no_cause (ltb (spare d) n) _ _ room.1 in
    one_spend d n unclosed.0 room.0 (omega (arith, ltb-false (spare d) n enough.0))

-- a request waits, so the site has not closed
waits_unclosed : (d : DeskValue) (front : ℕ × ℕ × ℕ) → (has_closed d ≡ true → d.queue.waiting ≡ [])
    → front_of d.queue.waiting ≡ Some front → has_closed d ≡ false
waits_unclosed d front idle at = elim (cases_Bool (has_closed d)) [
  | inl closed ↦ let none : front_of [] ≡ Some front = ap front_of (sym (idle closed)) ∙ at in absurd cc
  | inr unclosed ↦ unclosed
]

room_to_serve : (can full : Bool) → cond (can && full) (Some LogFull) None ≡ None → can ≡ true → full ≡ false
room_to_serve true true h now = absurd cc
room_to_serve true false h now = refl
room_to_serve false full h now = absurd cc

pub serve_writable : (d : DeskValue) (ticket amount deadline : ℕ) → (has_closed d ≡ true → d.queue.waiting ≡ [])
    → serve_fault d ≡ None
    → front_of d.queue.waiting ≡ Some (ticket, amount, deadline) → amount ≤ held_by d.ledger.book
    → IsWritable d.ledger (Spend amount ∷ [])
serve_writable d ticket amount deadline idle h at within =
    let can : can_serve d (front_of d.queue.waiting) ≡ true = ap (can_serve d) at
    ∙ le-leb amount (held_by d.ledger.book) within in
    one_spend d amount (waits_unclosed d (ticket, amount, deadline) idle at)
    (room_to_serve (can_serve d (front_of d.queue.waiting)) (is_full d 1) h can) within

-- ---- grants

grants_amount : (none : Bool) (m n : ℕ) → cond none Deny (Granted m) ≡ Granted n → n ≡ m
grants_amount true m n h = absurd cc
grants_amount false m n h = cc

answers_available : (old same granted : Bool) (a b n : ℕ)
    → cond old OldAsk (cond same (cond granted Repeated RepeatedDeny) (grant_of (min a b))) ≡ Granted n → n ≤ b
answers_available true same granted a b n h = absurd cc
answers_available false true true a b n h = absurd cc
answers_available false true false a b n h = absurd cc
answers_available false false granted a b n h
    = omega (arith, grants_amount (eqb (min a b) 0) (min a b) n h, min-le_right a b)

pub grant_writable : (d : DeskValue) (ask : AskValue) (n : ℕ) → answer_of d ask ≡ Granted n → 1 ≤ n
    → ask.asker ≤ sites d.ledger.book → ask.asker ≢ d.ledger.book.me
    → IsWritable d.ledger (Grant ask.asker n ask.ask ∷ [])
grant_writable d ask n h some high other =
    let within : n ≤ available d ask.asker
    = answers_available _ _ (asks d.manager ask.asker).granted ask.amount (available d ask.asker) n h in
    let can : CanGrant d ask.asker n = can_grant d ask.asker n some within in
    record {
      plain = refl;
      room = log_takes d.ledger.log (Grant ask.asker n ask.ask ∷ []) can.unclosed refl can.room;
      covered = grant_unrefused d.ledger.book ask.asker n ask.ask high other can.open_peer can.held;
    }

-- ---- closing

pub record CanClose (d : DeskValue) (heir : Option ℕ) : Type 0 where
  pub unclosed : has_closed d ≡ false
  pub idle : d.queue.waiting ≡ []
  pub inherits : IfSome heir (CanInherit d.ledger.book)

heir_inherits : (d : DeskValue) (heir : Option ℕ) → d.ledger.book.me ≡ d.ledger.log.site → IfSome heir IsSite
    → heir_fault d heir ≡ None → IfSome heir (CanInherit d.ledger.book)
heir_inherits d None same site h = tt
heir_inherits d (Some j) same site h =
    let high = no_cause (ltb (sites d.ledger.book) j) _ _ h in
    let other = no_cause (eqb j d.ledger.log.site) _ _ high.1 in
    let unclosed = no_cause (account d.ledger.book j).closed _ _ other.1 in
    let amount = no_cause (ltb 1000000000 (held_by d.ledger.book)) _ _ unclosed.1 in
    record {
      some = site.0;
      site = ltb-false (sites d.ledger.book) j high.0;
      other = λ e. eqb-false j d.ledger.log.site other.0 (e ∙ same);
      unclosed = unclosed.0;
      amount = ltb-false 1000000000 (held_by d.ledger.book) amount.0;
    }

no_length : (d : DeskValue) → eqb (length d.queue.waiting) 0 ≡ true → d.queue.waiting ≡ []
no_length d h = nil_from_length d.queue.waiting (omega (arith, eqb-true (length d.queue.waiting) 0 h))

pub can_close : (d : DeskValue) (heir : Option ℕ) → d.ledger.book.me ≡ d.ledger.log.site → IfSome heir IsSite
    → close_fault d heir ≡ None → CanClose d heir
can_close d heir same site h =
    let unclosed = no_cause (has_closed d) _ _ h in
    let idle = no_cause (not (eqb (length d.queue.waiting) 0)) _ _ unclosed.1 in
    record {
      unclosed = unclosed.0;
      idle = no_length d (not-false (eqb (length d.queue.waiting) 0) idle.0);
      inherits = heir_inherits d heir same site idle.1;
    }

-- ---- so the protocol allows it

pub post_allowed : (d new : DeskValue) (ms : List Move) → DeskSound d → post_fault d ms ≡ None → DeskWrites d ms new
    → EntryKeeps d.ledger ms new.ledger
post_allowed d new ms is none w
    = (entry_kept d.ledger new.ledger ms is.ledger is.book (post_writable d ms none) w.entry).keeps

pub issue_allowed : (d new : DeskValue) (n : ℕ) → DeskSound d → issue_fault d n ≡ None → DeskWrites d (Issue n ∷ []) new
    → EntryKeeps d.ledger (Issue n ∷ []) new.ledger
issue_allowed d new n is none w
    = (entry_kept d.ledger new.ledger (Issue n ∷ []) is.ledger is.book (issue_writable d n none) w.entry).keeps

pub give_allowed : (d new : DeskValue) (j n : ℕ) → DeskSound d → give_fault d j n ≡ None
    → DeskWrites d (Give j n ∷ []) new
    → EntryKeeps d.ledger (Give j n ∷ []) new.ledger
give_allowed d new j n is none w
    = (entry_kept d.ledger new.ledger (Give j n ∷ []) is.ledger is.book (give_writable d j n none) w.entry).keeps

pub spend_allowed : (d new : DeskValue) (n deadline : ℕ) (spending : Spending) → DeskSound d → spend_fault d n ≡ None
    → DeskSpends d n deadline spending new
    → SpendKeeps d n spending new
spend_allowed d new n deadline (Spent number) is none w =
    (entry_kept d.ledger new.ledger (Spend n ∷ []) is.ledger is.book (spend_writable d n none w.0) w.1.entry).keeps
spend_allowed d new n deadline (Queued ticket) is none w = tt

pub take_allowed : (d new : DeskValue) (n : ℕ) → DeskSound d → take_fault d n ≡ None → DeskWrites d (Spend n ∷ []) new
    → EntryKeeps d.ledger (Spend n ∷ []) new.ledger
take_allowed d new n is none w
    = (entry_kept d.ledger new.ledger (Spend n ∷ []) is.ledger is.book (take_writable d n none) w.entry).keeps

same_amount : (a b : ℕ × ℕ × ℕ) → Some a ≡ Some b → a.1 ≡ b.1
same_amount a b h = let same : a ≡ b = cc in ap (λ (x : ℕ × ℕ × ℕ). x.1) same

pub serve_allowed : (d new : DeskValue) (served : Option (ℕ × ℕ)) → DeskSound d → serve_fault d ≡ None
    → DeskServes d served new → ServeKeeps d served new
serve_allowed d new None is none w = tt
serve_allowed d new (Some (ticket, number)) is none w = λ amount deadline front.
    (let keeps : EntryKeeps d.ledger (Spend w.amount ∷ []) new.ledger =
    (entry_kept d.ledger new.ledger (Spend w.amount ∷ []) is.ledger is.book
    (serve_writable d ticket w.amount w.deadline is.idle none w.front w.covered) w.entry).keeps in
    subst (λ n. EntryKeeps d.ledger (Spend n ∷ []) new.ledger)
    (same_amount (ticket, w.amount, w.deadline) (ticket, amount, deadline) (sym w.front ∙ front)) keeps)

pub grant_allowed : (d new : DeskValue) (ask : AskValue) (answer : AskAnswer) (number : Option ℕ) → DeskSound d
    → ask.asker ≤ sites d.ledger.book
    → ask.asker ≢ d.ledger.book.me → answer_of d ask ≡ answer → DeskAnswers d ask answer number new
    → AnswerKeeps d ask answer new
grant_allowed d new ask (Granted n) number is high other answers w =
    let some : 1 ≤ n = (All-head IsMove (Grant ask.asker n ask.ask) [] w.0.moves).1.0 in
    (entry_kept d.ledger new.ledger (Grant ask.asker n ask.ask ∷ []) is.ledger is.book
    (grant_writable d ask n answers some high other) w.0).keeps
grant_allowed d new ask Deny number is high other answers w = tt
grant_allowed d new ask RepeatedDeny number is high other answers w = tt
grant_allowed d new ask Repeated number is high other answers w = tt
grant_allowed d new ask OldAsk number is high other answers w = tt

pub close_allowed : (d new : DeskValue) (heir : Option ℕ) → DeskSound d → close_fault d heir ≡ None
    → DeskCloses d heir new → ClosingKeeps d.ledger heir new.ledger
close_allowed d new heir is none w =
    let can : CanClose d heir = can_close d heir is.ledger.same_site w.entry.site none in
    (closing_kept d.ledger new.ledger heir is.ledger is.book can.unclosed can.inherits w.entry).keeps

pub apply_allowed : (d new : DeskValue) (o : ℕ) (e : EntryValue) → DeskSound d → has_closed d ≡ false
    → IsNextOf d.ledger.book o e → (w : DeskApplies d o e new)
    → ApplyKeeps d.ledger o e w.entry.between new.ledger
apply_allowed d new o e is unclosed next w
    = (apply_kept d.ledger new.ledger o e is.ledger is.book next unclosed w.entry).keeps
