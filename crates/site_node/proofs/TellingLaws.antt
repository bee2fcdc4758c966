-- What clients are told as spent, turn by turn.
use Rattle.std.proofs.Common.{◌≡◌, ℕ, ◌+◌, ◌≤◌, ◌<◌, Bool, true, false, not, cond, ◌==◌, List, [], ◌∷◌, ◌++◌, map}
use Rattle.std.proofs.Common.{filter, Option, Some, None, Result, Ok, Err, inl, inr, refl, sym, ap, ◌∙◌, subst, arith}
use Rattle.std.proofs.Common.{append_assoc, length, if◌then◌else◌}
use Rattle.std.specs.List.{list_any}
use Rattle.std.specs.Map.{lookup}
use Rattle.std.proofs.lemmas.Bool.{eq-eqb, ne_eqb, cases_eq}
use Rattle.std.proofs.lemmas.List.{append-nil, map-append}
use Rattle.std.proofs.lemmas.List.Sums.{sum_by-cons, sum_by-append}
use Rattle.rights_types.specs.Entries.{EntryValue, own, closes}
use Rattle.rights_types.specs.Chains.{end, ChainFrom, IsChain}
use Rattle.rights_types.specs.declared.moves.Move.{Move}
use Rattle.rights_types.specs.declared.moves.Move.TheVariants.{Issue as Issues, Spend as Spends, Give as Gives, CloseAt}
use Rattle.rights_types.specs.declared.moves.Move.TheVariants.{Grant as Grants, TakeBack}
use Rattle.rights_types.specs.Messages.{AskValue}
use Rattle.rights_protocol.specs.Retiring.{entry_at_end}
use Rattle.rights_types.proofs.Chains.{end-push}
use Rattle.origin_log.specs.Logs.{LogValue, next_entry, with_entry}
use Rattle.rights_book.specs.Books.{BookValue, held_by}
use Rattle.request_queue.specs.Queues.{QueueValue, IsQueue}
use Rattle.request_queue.specs.Calls.{Cancels, TellsOutcome}
use Rattle.request_queue.specs.declared.request.Request.{Request}
use Rattle.request_queue.specs.declared.request.Outcome.{Outcome}
use Rattle.request_queue.specs.declared.request.Outcome.TheVariants.{Spent as WasSpent, Expired}
use Rattle.request_queue.specs.declared.request.Status.{Status}
use Rattle.request_queue.specs.declared.request.Status.TheVariants.{Waiting, Spent as SaysSpent, Expired as SaysExpired}
use Rattle.request_queue.specs.declared.request.Status.TheVariants.{Unknown}
use Rattle.request_queue.proofs.Lists.{others_stay, not_among}
use Rattle.transfer_manager.specs.declared.answer.AskAnswer.{AskAnswer}
use Rattle.transfer_manager.specs.declared.answer.AskAnswer.TheVariants.{Grant as Granted, Deny, RepeatedDeny, Repeated}
use Rattle.transfer_manager.specs.declared.answer.AskAnswer.TheVariants.{OldAsk}
use Rattle.transfer_manager.specs.Managers.{ManagerValue}
use Rattle.transfer_manager.specs.AskAnswers.{noted}
use Rattle.site_core.specs.declared.desk.requests.Spending.TheVariants.{Spent, Queued}
use Rattle.site_core.specs.declared.fault.DeskError.{DeskError}
use Rattle.site_core.specs.Ledgers.{LedgerValue, frontier_of, closing_by, owed_by}
use Rattle.site_core.specs.Desks.{DeskValue}
use Rattle.site_core.specs.Calls.{DeskAnswers, DeskApplies, late}
use Rattle.apply_lanes.specs.Kepts.{KeptValue, SeatValue}
use Rattle.site_words.specs.declared.commands.DeskCommand.{DeskCommand}
use Rattle.site_words.specs.declared.commands.DeskCommand.TheVariants.{Issue, Give, Spend, Take}
use Rattle.site_words.specs.declared.commands.DeskCommand.TheVariants.{Outcome as AsksOutcome, Cancel, Close}
use Rattle.site_node.specs.declared.reply.Reply.{Reply}
use Rattle.site_node.specs.declared.reply.Reply.TheVariants.{Number, Spending, Outcome as Tells, Refused, BadDeadline}
use Rattle.site_node.specs.declared.reply.Reply.TheVariants.{KeyRefused, KeyReused}
use Rattle.site_node.specs.declared.tick.Ticked.{Ticked}
use Rattle.site_node.specs.Acting.{Acts}
use Rattle.site_node.specs.Ticking.{ServesEach, ExpiresAll, TicksBeside}
use Rattle.site_node.specs.Telling.{told_by, is_spend, spends_in, untold_in, times, AreTold, DeskTurn, HasDeskTurn}
use Rattle.site_node.specs.Telling.{HasDeskTurns, told_in_turn, told_in, SpendsNothing, PeersSpendNothing}
use Rattle.site_node.specs.Telling.DeskTurn.{ByClient, ByTick, ByPeer}

-- ---- lists

times-append : (n : ℕ) (xs ys : List ℕ) → times n (xs ++ ys) ≡ times n xs + times n ys
times-append n xs ys = sum_by-append (λ k. cond (k == n) 1 0) xs ys

-- 1 if x is n
abbrev one_if : ℕ → ℕ → ℕ
one_if n x = cond (x == n) 1 0

times-cons : (n x : ℕ) (xs : List ℕ) → times n (x ∷ xs) ≡ one_if n x + times n xs
times-cons n x xs = sum_by-cons (λ k. cond (k == n) 1 0) x xs

joined : (b : Bool) (n : ℕ) (whole first second : List ℕ) → whole ≡ first ++ second
    → (if b then n ∷ whole else whole) ≡ (if b then n ∷ first else first) ++ second
joined true n whole first second is = ap (λ (l : List ℕ). n ∷ l) is
joined false n whole first second is = is

spends_in-append : (es fs : List EntryValue) → spends_in (es ++ fs) ≡ spends_in es ++ spends_in fs
spends_in-append [] fs = refl
spends_in-append (e ∷ es) fs =
    joined (list_any is_spend e.moves) (own e) (spends_in (es ++ fs)) (spends_in es) (spends_in fs)
    (spends_in-append es fs)

abbrev told_of : Outcome → List ℕ
told_of (WasSpent n) = n ∷ []
told_of Expired = []

untold_in-cons : (e : ℕ × Outcome) (es : List (ℕ × Outcome)) → untold_in (e ∷ es) ≡ told_of e.1 ++ untold_in es
untold_in-cons (t, WasSpent n) es = refl
untold_in-cons (t, Expired) es = refl

untold_in-append : (es fs : List (ℕ × Outcome)) → untold_in (es ++ fs) ≡ untold_in es ++ untold_in fs
untold_in-append [] fs = refl
untold_in-append ((t, WasSpent n) ∷ es) fs = ap (λ (l : List ℕ). n ∷ l) (untold_in-append es fs)
untold_in-append ((t, Expired) ∷ es) fs = untold_in-append es fs

none_untold : (rs : List Request) → untold_in (map (λ r. (r.ticket, Expired)) rs) ≡ []
none_untold [] = refl
none_untold (r ∷ rs) = none_untold rs

-- ---- what a step tells, and what it leaves untold

-- what was told, and is untold after it, is what was untold before it and what was spent
abbrev Balances : List ℕ → DeskValue → DeskValue → Type 0
Balances told old new = (n : ℕ) →
    times n told + times n (untold_in new.queue.outcomes) + times n (spends_in old.ledger.log.entries)
    ≡ times n (untold_in old.queue.outcomes) + times n (spends_in new.ledger.log.entries)

nothing : (old new : DeskValue) → SpendsNothing old new → Balances [] old new
nothing old new h = λ n.
    let spends = ap (times n) h.spends in
    let outcomes = ap (λ (os : List (ℕ × Outcome)). times n (untold_in os)) h.outcomes in
    omega (arith, spends, outcomes)

same : (old new : DeskValue) → new ≡ old → Balances [] old new
same old new is = nothing old new (record {
  spends = ap (λ (d : DeskValue). spends_in d.ledger.log.entries) is;
  outcomes = ap (λ (d : DeskValue). d.queue.outcomes) is;
})

after : (told : List ℕ) (old mid new : DeskValue) → Balances [] old mid → Balances told mid new → Balances told old new
after told old mid new first second = λ n. omega (arith, first n, second n)

-- ---- entries

more_spends : (log : LogValue) (ms : List Move) (b : Bool) → list_any is_spend ms ≡ b
    → spends_in (with_entry log ms).entries
    ≡ spends_in log.entries ++ (if b then own (next_entry log ms) ∷ [] else [])
more_spends log ms b is =
    spends_in-append log.entries (next_entry log ms ∷ [])
    ∙ ap (λ (c : Bool). spends_in log.entries ++ (if c then own (next_entry log ms) ∷ [] else [])) is

-- an entry that spends nothing
writes_other : (old new : DeskValue) (ms : List Move) → new.ledger.log ≡ with_entry old.ledger.log ms
    → list_any is_spend ms ≡ false → new.queue ≡ old.queue → Balances [] old new
writes_other old new ms log other queue = nothing old new (record {
  spends = ap (λ (l : LogValue). spends_in l.entries) log
      ∙ more_spends old.ledger.log ms false other
      ∙ append-nil (spends_in old.ledger.log.entries);
  outcomes = ap (λ (q : QueueValue). q.outcomes) queue;
})

-- one that spends has its number in the list
has_number : (old new : LogValue) (amount number : ℕ) → new ≡ with_entry old (Spends amount ∷ [])
    → number ≡ end new.entries → spends_in new.entries ≡ spends_in old.entries ++ number ∷ []
has_number old new amount number log at =
    let e : EntryValue = next_entry old (Spends amount ∷ []) in
    let is : own e ≡ number = sym (at ∙ ap (λ (l : LogValue). end l.entries) log ∙ end-push old.entries e) in
    ap (λ (l : LogValue). spends_in l.entries) log
    ∙ more_spends old (Spends amount ∷ []) true refl
    ∙ ap (λ (n : ℕ). spends_in old.entries ++ n ∷ []) is

writes_spend : (old new : DeskValue) (amount number : ℕ)
    → new.ledger.log ≡ with_entry old.ledger.log (Spends amount ∷ []) → number ≡ end new.ledger.log.entries
    → new.queue ≡ old.queue → Balances (number ∷ []) old new
writes_spend old new amount number log at queue = λ n.
    let one = ap (times n) (has_number old.ledger.log new.ledger.log amount number log at)
    ∙ times-append n (spends_in old.ledger.log.entries) (number ∷ []) in
    let outcomes = ap (λ (q : QueueValue). times n (untold_in q.outcomes)) queue in
    omega (arith, one, outcomes)

no_spend : (b : Bool) (heir amount : ℕ) (frontier : List ℕ)
    → list_any is_spend ((if b then [] else Gives heir amount ∷ []) ++ CloseAt frontier ∷ []) ≡ false
no_spend true heir amount frontier = refl
no_spend false heir amount frontier = refl

closing_spends_nothing : (b : BookValue) (heir : Option ℕ) → list_any is_spend (closing_by b heir) ≡ false
closing_spends_nothing b None = refl
closing_spends_nothing b (Some heir) = no_spend (held_by b == 0) heir (held_by b) (frontier_of b)

-- ---- outcomes

abbrev keys : List (ℕ × Outcome) → List ℕ
keys outcomes = map (λ (e : ℕ × Outcome). e.0) outcomes

-- of the outcomes of these, the one that is found was read, and the others are left
abbrev Reads : ℕ → Outcome → List (ℕ × Outcome) → Type 0
Reads t o es = (n : ℕ) → times n (told_of o) + times n (untold_in (filter (λ e. not (e.0 == t)) es))
    ≡ times n (untold_in es)

reads_first : (t : ℕ) (o : Outcome) (e : ℕ × Outcome) (es : List (ℕ × Outcome)) → (e.0 == t) ≡ true → e.1 ≡ o
    → times t (keys (e ∷ es)) ≤ 1 → Reads t o (e ∷ es)
reads_first t o e es is at once = λ n.
    let one : one_if t e.0 ≡ 1 = ap (λ (b : Bool). cond {A = ℕ} b 1 0) is in
    let sum = times-cons t e.0 (keys es) in
    let none : times t (keys es) ≡ 0 = omega (arith, one, sum, once) in
    let stay = others_stay t es (not_among (λ (x : ℕ × Outcome). x.0) t es none) in
    let rest : filter (λ x. not (x.0 == t)) (e ∷ es) ≡ es =
    ap (λ (b : Bool). cond (not b) (e ∷ filter (λ x. not (x.0 == t)) es) (filter (λ x. not (x.0 == t)) es)) is ∙ stay in
    let left = ap (λ (xs : List (ℕ × Outcome)). times n (untold_in xs)) rest in
    let all = ap (times n) (untold_in-cons e es) ∙ times-append n (told_of e.1) (untold_in es) in
    let told = ap (λ (x : Outcome). times n (told_of x)) at in
    omega (arith, left, all, told)

reads_later : (t : ℕ) (o : Outcome) (e : ℕ × Outcome) (es : List (ℕ × Outcome)) → (e.0 == t) ≡ false → Reads t o es
    → Reads t o (e ∷ es)
reads_later t o e es is later = λ n.
    let kept : List (ℕ × Outcome) = filter (λ x. not (x.0 == t)) es in
    let rest : filter (λ x. not (x.0 == t)) (e ∷ es) ≡ e ∷ kept = ap (λ (b : Bool). cond (not b) (e ∷ kept) kept) is in
    let left = ap (λ (xs : List (ℕ × Outcome)). times n (untold_in xs)) rest
    ∙ ap (times n) (untold_in-cons e kept) ∙ times-append n (told_of e.1) (untold_in kept) in
    let all = ap (times n) (untold_in-cons e es) ∙ times-append n (told_of e.1) (untold_in es) in
    omega (arith, left, all, later n)

reads_at : (b : Bool) (t : ℕ) (o : Outcome) (e : ℕ × Outcome) (es : List (ℕ × Outcome)) → (e.0 == t) ≡ b
    → cond b (Some e.1) (lookup (λ k. k == t) es) ≡ Some o → times t (keys (e ∷ es)) ≤ 1
    → (lookup (λ k. k == t) es ≡ Some o → times t (keys es) ≤ 1 → Reads t o es) → Reads t o (e ∷ es)
reads_at true t o e es is found once later =
    let at : e.1 ≡ o = cc in
    reads_first t o e es is at once
reads_at false t o e es is found once later =
    let sum = times-cons t e.0 (keys es) in
    reads_later t o e es is (later found (omega (arith, sum, once)))

reads : (t : ℕ) (o : Outcome) (es : List (ℕ × Outcome)) → lookup (λ k. k == t) es ≡ Some o → times t (keys es) ≤ 1
    → Reads t o es
reads t o [] found once = cc
reads t o (e ∷ es) found once = reads_at (e.0 == t) t o e es refl found once (reads t o es)

-- what is told of a ticket was untold before
tells : (old : QueueValue) (t : ℕ) (status : Status) (new : QueueValue) → TellsOutcome old t status new
    → times t (keys old.outcomes) ≤ 1 → (n : ℕ)
    → times n (told_by (Tells status)) + times n (untold_in new.outcomes) ≡ times n (untold_in old.outcomes)
tells old t Waiting new h once n =
    let left = ap (λ (q : QueueValue). times n (untold_in q.outcomes)) h.2 in
    omega (arith, left)
tells old t (SaysSpent number) new h once n =
    let left = ap (λ (q : QueueValue). times n (untold_in q.outcomes)) h.1 in
    omega (arith, left, reads t (WasSpent number) old.outcomes h.0 once n)
tells old t SaysExpired new h once n =
    let left = ap (λ (q : QueueValue). times n (untold_in q.outcomes)) h.1 in
    omega (arith, left, reads t Expired old.outcomes h.0 once n)
tells old t Unknown new h once n =
    let left = ap (λ (q : QueueValue). times n (untold_in q.outcomes)) h.2 in
    omega (arith, left)

once_of : (q : QueueValue) (t : ℕ) → IsQueue q
    → times t (map (λ (r : Request). r.ticket) q.waiting) + times t (keys q.outcomes) ≤ 1
once_of q t h =
    let waiting : List ℕ = map (λ (r : Request). r.ticket) q.waiting in
    let sum = times-append t waiting (keys q.outcomes) in
    let once : times t (waiting ++ keys q.outcomes) ≤ 1 = h.once t in
    omega (arith, sum, once)

-- a request that ends expired leaves nothing untold, and its ticket has one outcome
record EndsExpired (old : QueueValue) (t : ℕ) (new : QueueValue) : Type 0 where
  untold : untold_in new.outcomes ≡ untold_in old.outcomes
  once : times t (keys new.outcomes) ≤ 1

cancels : (old : QueueValue) (t : ℕ) (waited : Bool) (new : QueueValue) → IsQueue old → Cancels old t waited new
    → EndsExpired old t new
cancels old t false new valid h = record {
  untold = ap (λ (q : QueueValue). untold_in q.outcomes) h.1;
  once =
      let same = ap (λ (q : QueueValue). times t (keys q.outcomes)) h.1 in
      omega (arith, same, once_of old t valid);
}
cancels old t true new valid h =
    let r = h.request in
    let tickets_of : List Request → List ℕ = λ rs. map (λ (x : Request). x.ticket) rs in
    let outcomes : new.outcomes ≡ old.outcomes ++ (r.ticket, Expired) ∷ []
    = ap (λ (q : QueueValue). q.outcomes) h.ends in
    let is : (r.ticket == t) ≡ true = eq-eqb r.ticket t h.ticket in
    let one : one_if t r.ticket ≡ 1 = ap (λ (b : Bool). cond {A = ℕ} b 1 0) is in
    let waiting = ap (λ (rs : List Request). times t (tickets_of rs)) h.found
    ∙ ap (times t) (map-append (λ (x : Request). x.ticket) h.before (r ∷ h.after))
    ∙ times-append t (tickets_of h.before) (tickets_of (r ∷ h.after)) in
    let here = times-cons t r.ticket (tickets_of h.after) in
    let keys_new = ap (λ (os : List (ℕ × Outcome)). times t (keys os)) outcomes
    ∙ ap (times t) (map-append (λ (e : ℕ × Outcome). e.0) old.outcomes ((r.ticket, Expired) ∷ []))
    ∙ times-append t (keys old.outcomes) (r.ticket ∷ []) in
    let last = times-cons t r.ticket [] in
    record {
      untold = ap untold_in outcomes
          ∙ untold_in-append old.outcomes ((r.ticket, Expired) ∷ [])
          ∙ append-nil (untold_in old.outcomes);
      once = omega (arith, one, waiting, here, keys_new, last, once_of old t valid);
    }

-- a queue that changed alone
in_queue : (old : DeskValue) (told : List ℕ) (new : DeskValue) → new.ledger ≡ old.ledger
    → ((n : ℕ) → times n told + times n (untold_in new.queue.outcomes) ≡ times n (untold_in old.queue.outcomes))
    → Balances told old new
in_queue old told new ledger tells_it = λ n.
    let spends = ap (λ (l : LedgerValue). times n (spends_in l.log.entries)) ledger in
    omega (arith, spends, tells_it n)

-- ---- commands

acts : (old : KeptValue) (was : SeatValue) (command : DeskCommand) (reply : Reply) (new : KeptValue) (now : SeatValue)
    → IsQueue old.desk.queue → Acts old was command reply new now → Balances (told_by reply) old.desk new.desk
acts old was (Issue amount) (Number n) new now valid h =
    let e = h.1.entry in
    writes_other old.desk new.desk (Issues amount ∷ []) e.entry.log refl (ap (λ (d : DeskValue). d.queue) e.rest)
acts old was (Issue amount) (Spending spending) new now valid h = absurd h
acts old was (Issue amount) (Tells status) new now valid h = absurd h
acts old was (Issue amount) (Refused cause) new now valid h =
    same old.desk new.desk (ap (λ (k : KeptValue). k.desk) h.same_desk)
acts old was (Issue amount) BadDeadline new now valid h = absurd h
acts old was (Issue amount) KeyRefused new now valid h = absurd h
acts old was (Issue amount) KeyReused new now valid h = absurd h
acts old was (Give peer amount) (Number n) new now valid h =
    let e = h.1.entry in
    writes_other old.desk new.desk (Gives peer amount ∷ []) e.entry.log refl (ap (λ (d : DeskValue). d.queue) e.rest)
acts old was (Give peer amount) (Spending spending) new now valid h = absurd h
acts old was (Give peer amount) (Tells status) new now valid h = absurd h
acts old was (Give peer amount) (Refused cause) new now valid h =
    same old.desk new.desk (ap (λ (k : KeptValue). k.desk) h.same_desk)
acts old was (Give peer amount) BadDeadline new now valid h = absurd h
acts old was (Give peer amount) KeyRefused new now valid h = absurd h
acts old was (Give peer amount) KeyReused new now valid h = absurd h
acts old was (Spend amount deadline latest) (Number n) new now valid h = absurd h
acts old was (Spend amount deadline latest) (Spending (Spent n)) new now valid h =
    let d = h.2.desk in
    writes_spend old.desk new.desk amount n d.1.entry.log d.2 (ap (λ (d : DeskValue). d.queue) d.1.rest)
acts old was (Spend amount deadline latest) (Spending (Queued ticket)) new now valid h =
    let d = h.2.desk in
    let outcomes = ap (λ (q : QueueValue). q.outcomes) d.1.2 in
    nothing old.desk new.desk (record {
      spends = ap (λ (d : DeskValue). spends_in d.ledger.log.entries) d.2;
      outcomes = outcomes;
    })
acts old was (Spend amount deadline latest) (Tells status) new now valid h = absurd h
acts old was (Spend amount deadline latest) (Refused cause) new now valid h =
    same old.desk new.desk (ap (λ (k : KeptValue). k.desk) h.same_desk)
acts old was (Spend amount deadline latest) BadDeadline new now valid h =
    same old.desk new.desk (ap (λ (k : KeptValue). k.desk) h.same_desk)
acts old was (Spend amount deadline latest) KeyRefused new now valid h = absurd h
acts old was (Spend amount deadline latest) KeyReused new now valid h = absurd h
acts old was (Take amount) (Number n) new now valid h = absurd h
acts old was (Take amount) (Spending (Spent n)) new now valid h =
    let t = h.1 in
    writes_spend old.desk new.desk amount n t.entry.entry.log t.at_end (ap (λ (d : DeskValue). d.queue) t.entry.rest)
acts old was (Take amount) (Spending (Queued ticket)) new now valid h = absurd h
acts old was (Take amount) (Tells status) new now valid h = absurd h
acts old was (Take amount) (Refused cause) new now valid h =
    same old.desk new.desk (ap (λ (k : KeptValue). k.desk) h.same_desk)
acts old was (Take amount) BadDeadline new now valid h = absurd h
acts old was (Take amount) KeyRefused new now valid h = absurd h
acts old was (Take amount) KeyReused new now valid h = absurd h
acts old was (Cancel ticket) (Number n) new now valid h = absurd h
acts old was (Cancel ticket) (Spending spending) new now valid h = absurd h
acts old was (Cancel ticket) (Tells status) new now valid h =
    let c = h.desk in
    let ended = cancels old.desk.queue ticket c.waited c.between valid c.cancels in
    in_queue old.desk (told_by (Tells status)) new.desk (ap (λ (k : KeptValue). k.desk.ledger) h.rest) (λ n.
    let untold = ap (times n) ended.untold in
    omega (arith, untold, tells c.between ticket status new.desk.queue c.tells ended.once n))
acts old was (Cancel ticket) (Refused cause) new now valid h = absurd h
acts old was (Cancel ticket) BadDeadline new now valid h = absurd h
acts old was (Cancel ticket) KeyRefused new now valid h = absurd h
acts old was (Cancel ticket) KeyReused new now valid h = absurd h
acts old was (AsksOutcome ticket) (Number n) new now valid h = absurd h
acts old was (AsksOutcome ticket) (Spending spending) new now valid h = absurd h
acts old was (AsksOutcome ticket) (Tells status) new now valid h =
    let whole = once_of old.desk.queue ticket valid in
    in_queue old.desk (told_by (Tells status)) new.desk (ap (λ (k : KeptValue). k.desk.ledger) h.rest) (λ n.
    tells old.desk.queue ticket status new.desk.queue h.outcome (omega (arith, whole)) n)
acts old was (AsksOutcome ticket) (Refused cause) new now valid h = absurd h
acts old was (AsksOutcome ticket) BadDeadline new now valid h = absurd h
acts old was (AsksOutcome ticket) KeyRefused new now valid h = absurd h
acts old was (AsksOutcome ticket) KeyReused new now valid h = absurd h
acts old was (Close heir) (Number n) new now valid h =
    let e = h.1.entry in
    writes_other old.desk new.desk (closing_by old.desk.ledger.book heir) e.entry.log
    (closing_spends_nothing old.desk.ledger.book heir) (ap (λ (d : DeskValue). d.queue) e.rest)
acts old was (Close heir) (Spending spending) new now valid h = absurd h
acts old was (Close heir) (Tells status) new now valid h = absurd h
acts old was (Close heir) (Refused cause) new now valid h =
    same old.desk new.desk (ap (λ (k : KeptValue). k.desk) h.same_desk)
acts old was (Close heir) BadDeadline new now valid h = absurd h
acts old was (Close heir) KeyRefused new now valid h = absurd h
acts old was (Close heir) KeyReused new now valid h = absurd h

-- ---- ticks

same_but_asks : (old new : DeskValue) → new.ledger ≡ old.ledger → new.queue ≡ old.queue → Balances [] old new
same_but_asks old new ledger queue = nothing old new (record {
  spends = ap (λ (l : LedgerValue). spends_in l.log.entries) ledger;
  outcomes = ap (λ (q : QueueValue). q.outcomes) queue;
})

expires : (old : KeptValue) (time count : ℕ) (new : KeptValue) → ExpiresAll old time count new
    → Balances [] old.desk new.desk
expires old time count new h = in_queue old.desk [] new.desk (ap (λ (d : DeskValue). d.ledger) h.desk.rest) (λ n.
    let ended = map (λ (r : Request). (r.ticket, Expired)) (late time old.desk.queue.waiting) in
    let all = ap (λ (os : List (ℕ × Outcome)). times n (untold_in os)) h.desk.queue.outcomes
    ∙ ap (times n) (untold_in-append old.desk.queue.outcomes ended)
    ∙ ap (λ (l : List ℕ). times n (untold_in old.desk.queue.outcomes ++ l))
    (none_untold (late time old.desk.queue.waiting))
    ∙ ap (times n) (append-nil (untold_in old.desk.queue.outcomes)) in
    omega (arith, all))

serves : (old : KeptValue) (was : SeatValue) (served : List Request) (new : KeptValue) (now : SeatValue)
    → ServesEach old was served new now → Balances [] old.desk new.desk
serves old was [] new now h = same old.desk new.desk (ap (λ (k : KeptValue). k.desk) h.0)
serves old was (r ∷ others) new now h =
    let mid : KeptValue = h.0 in
    let one = h.2 in
    let d = one.desk in
    let (front, rest, waiting, settles) = d.queue in
    let spends = has_number old.desk.ledger.log mid.desk.ledger.log d.amount one.number d.entry.log d.at_end in
    let outcomes = ap (λ (q : QueueValue). untold_in q.outcomes) settles
    ∙ untold_in-append old.desk.queue.outcomes ((front.ticket, WasSpent one.number) ∷ []) in
    after [] old.desk mid.desk new.desk (λ n.
    let more = ap (times n) spends ∙ times-append n (spends_in old.desk.ledger.log.entries) (one.number ∷ []) in
    let left = ap (times n) outcomes
    ∙ times-append n (untold_in old.desk.queue.outcomes) (one.number ∷ []) in
    omega (arith, more, left)) (serves mid h.1 others new now h.3)

ticks : (silent : ℕ → Bool) (old : KeptValue) (was : SeatValue) (time : ℕ) (served : List Request)
    (ticked : Result Ticked DeskError) (new : KeptValue) (now : SeatValue)
    → TicksBeside silent old was time served ticked new now → Balances [] old.desk new.desk
ticks silent old was time served (Ok ticked) new now h =
    let plans = same_but_asks h.left.desk new.desk (ap (λ (d : DeskValue). d.ledger) h.plans.desk.rest)
    (ap (λ (d : DeskValue). d.queue) h.plans.desk.rest) in
    after [] old.desk h.in_time.desk new.desk (expires old time ticked.expired h.in_time h.expires)
    (after [] h.in_time.desk h.left.desk new.desk (serves h.in_time was served h.left now h.serves.each) plans)
ticks silent old was time served (Err fault) new now h = elim h [
  | inl refused ↦ same old.desk new.desk (ap (λ (k : KeptValue). k.desk) refused.same_desk)
  | inr stops ↦ after [] old.desk stops.in_time.desk new.desk (expires old time stops.expired stops.in_time stops.expires)
      (serves stops.in_time was served new now stops.fails.each)
]

-- ---- what peers send

unspent : (old new : DeskValue) (manager : ManagerValue) → new ≡ record old { manager = manager }
    → SpendsNothing old new
unspent old new manager is = record {
  spends = ap (λ (d : DeskValue). spends_in d.ledger.log.entries) is;
  outcomes = ap (λ (d : DeskValue). d.queue.outcomes) is;
}

answered : (old : DeskValue) (ask : AskValue) (answer : AskAnswer) (number : Option ℕ) (new : DeskValue)
    → DeskAnswers old ask answer number new → SpendsNothing old new
answered old ask (Granted n) number new h = record {
  spends = ap (λ (l : LogValue). spends_in l.entries) h.0.log
      ∙ more_spends old.ledger.log (Grants ask.asker n ask.ask ∷ []) false refl
      ∙ append-nil (spends_in old.ledger.log.entries);
  outcomes = ap (λ (d : DeskValue). d.queue.outcomes) h.2;
}
answered old ask Deny number new h = unspent old new (noted old.manager ask Deny) h.1
answered old ask RepeatedDeny number new h = unspent old new (noted old.manager ask RepeatedDeny) h.1
answered old ask Repeated number new h = unspent old new (noted old.manager ask Repeated) h.1
answered old ask OldAsk number new h = unspent old new (noted old.manager ask OldAsk) h.1

not_taken : (log : LogValue) (o n : ℕ) (b : Bool)
    → spends_in (log.entries ++ map (entry_at_end log.site log.entries) (if b then [] else (TakeBack o n ∷ []) ∷ []))
    ≡ spends_in log.entries
not_taken log o n true = ap spends_in (append-nil log.entries)
not_taken log o n false =
    spends_in-append log.entries (entry_at_end log.site log.entries (TakeBack o n ∷ []) ∷ [])
    ∙ append-nil (spends_in log.entries)

applied : (old : DeskValue) (o : ℕ) (e : EntryValue) (new : DeskValue) → DeskApplies old o e new
    → SpendsNothing old new
applied old o e new h =
    let n = owed_by old.ledger o e in
    record {
      spends = ap (λ (l : LogValue). spends_in l.entries) h.entry.log ∙ not_taken old.ledger.log o n (n == 0);
      outcomes = ap (λ (d : DeskValue). d.queue.outcomes) h.rest;
    }

pub peers_spend_nothing : (old new : DeskValue) → PeersSpendNothing old new
peers_spend_nothing old new = record {
  asks = λ ask answer number h. answered old ask answer number new h;
  entries = λ o e h. applied old o e new h;
}

-- ---- all turns

turn_balances : (old : KeptValue) (turn : DeskTurn) (new : KeptValue) → HasDeskTurn old turn new
    → Balances (told_in_turn turn) old.desk new.desk
turn_balances old (ByClient command reply) new h =
    subst (λ (d : DeskValue). Balances (told_by reply) d new.desk) h.at_start
    (subst (λ (d : DeskValue). Balances (told_by reply) h.begun.desk d) (sym h.at_end)
    (acts h.begun h.was command reply h.done h.now h.queue h.acts))
turn_balances old ByTick new h = ticks h.silent old h.was h.time h.served h.ticked new h.now h.ticks
turn_balances old ByPeer new h = nothing old.desk new.desk h

one_turn : (told more : List ℕ) (old new : DeskValue) → AreTold told old → Balances more old new
    → AreTold (told ++ more) new
one_turn told more old new are b = λ n. omega (arith, times-append n told more, are n, b n)

pub told_exactly : (told : List ℕ) (old : KeptValue) (turns : List DeskTurn) (new : KeptValue) → AreTold told old.desk
    → HasDeskTurns old turns new → AreTold (told ++ told_in turns) new.desk
told_exactly told old [] new are h =
    subst (λ (l : List ℕ). AreTold l new.desk) (sym (append-nil told))
    (subst (λ (k : KeptValue). AreTold told k.desk) (sym h) are)
told_exactly told old (turn ∷ turns) new are h =
    let mid : KeptValue = h.0 in
    let more = told_in_turn turn in
    subst (λ (l : List ℕ). AreTold l new.desk) (append_assoc told more (told_in turns))
    (told_exactly (told ++ more) mid turns new
    (one_turn told more old.desk mid.desk are (turn_balances old turn mid h.1)) h.2)

-- ---- once

one_more : (n number : ℕ) (entries : List ℕ) (b : Bool) → (number ≡ n → times n entries ≡ 0) → times n entries ≤ 1
    → times n (if b then number ∷ entries else entries) ≤ 1
one_more n number entries false absent few = few
one_more n number entries true absent few = elim (cases_eq number n) [
  | inl is ↦
      let one : one_if n number ≡ 1 = ap (λ (b : Bool). cond {A = ℕ} b 1 0) (eq-eqb number n is) in
      omega (arith, times-cons n number entries, one, absent is)
  | inr other ↦
      let none : one_if n number ≡ 0 = ap (λ (b : Bool). cond {A = ℕ} b 1 0) (ne_eqb number n other) in
      omega (arith, times-cons n number entries, none, few)
]

none_more : (n number : ℕ) (entries : List ℕ) (b : Bool) → n < number → times n entries ≡ 0
    → times n (if b then number ∷ entries else entries) ≡ 0
none_more n number entries false below none = none
none_more n number entries true below none =
    let other : one_if n number ≡ 0 =
    ap (λ (b : Bool). cond {A = ℕ} b 1 0) (ne_eqb number n (λ is. absurd (omega (arith, is, below)))) in
    omega (arith, times-cons n number entries, other, none)

-- the numbers of a chain are above the one that it continues from
above : (o : ℕ) (closed : Bool) (m n : ℕ) (es : List EntryValue) → ChainFrom o closed m es → n ≤ m
    → times n (spends_in es) ≡ 0
above o closed m n [] chain low = refl
above o closed m n (e ∷ es) chain low =
    let prev : e.prev ≡ m = chain.2 in
    let some : 1 ≤ length e.moves = chain.3.some in
    none_more n (own e) (spends_in es) (list_any is_spend e.moves) (omega (arith, prev, some, low))
    (above o (closes e) (own e) n es chain.4 (omega (arith, prev, some, low)))

each_once : (o : ℕ) (closed : Bool) (m n : ℕ) (es : List EntryValue) → ChainFrom o closed m es
    → times n (spends_in es) ≤ 1
each_once o closed m n [] chain = omega arith
each_once o closed m n (e ∷ es) chain =
    one_more n (own e) (spends_in es) (list_any is_spend e.moves)
    (λ is. above o (closes e) (own e) n es chain.4 (omega (arith, is)))
    (each_once o (closes e) (own e) n es chain.4)

pub told_once : (told : List ℕ) (d : DeskValue) → IsChain d.ledger.log.site d.ledger.log.entries → AreTold told d
    → (n : ℕ) → times n told + times n (untold_in d.queue.outcomes) ≤ 1
told_once told d chain are n =
    let once = each_once d.ledger.log.site false 0 n d.ledger.log.entries chain in
    omega (arith, are n, once)
