-- After a plan, the asks that are outstanding and were not before are those that it made.
use Rattle.std.proofs.Common.{◌≡◌, ℕ, zero, suc, ◌+◌, ◌≤◌, eqb, Bool, true, false, true≢false, not, ◌&&◌, cond, List, [], ◌∷◌, ◌++◌}
use Rattle.std.proofs.Common.{Option, Some, None, refl, sym, ap, ◌∙◌, arith}
use Rattle.std.proofs.lemmas.Bool.{ne_eqb}
use Rattle.std.specs.Prelude.{is_some, is_none, min, ◌-◌}
use Rattle.std.specs.Option.{option_map}
use Rattle.rights_types.specs.Messages.{AskValue}
use Rattle.rights_types.specs.declared.limits.TheConstants.{MAX_AMOUNT}
use Rattle.rights_protocol.specs.Crashes.{Record}
use Rattle.rights_protocol.specs.Crashes.Record.{Asked}
use Rattle.transfer_manager.specs.declared.peer_asks.PeerAsks.{PeerAsks}
use Rattle.transfer_manager.specs.Managers.{ManagerValue, asks, sites as asked_sites, outstanding_ask, with_ask, with_asked}
use Rattle.transfer_manager.specs.Plans.{Knowledge, Plans, planned, need, rights_of, rights_before, above_zero, beside, of_book}
use Rattle.request_queue.specs.Queues.{total_of}
use Rattle.site_core.specs.Desks.{DeskValue}
use Rattle.site_core.specs.Calls.{DeskPlansBeside}
use Rattle.site_core.specs.Recorded.{plan_steps}
use Rattle.site_core.specs.Restored.{recorded}
use Rattle.apply_lanes.specs.Recording.{ask_made, asks_made, new_asks, with_planned}

eqb-suc : (n : ℕ) → eqb (suc n) 0 ≡ false
eqb-suc n = ne_eqb (suc n) 0 (λ e. omega (arith, e))

-- ---- one site, with these asks

abbrev peer : Option ℕ → ℕ → ℕ → Bool → PeerAsks
peer o last answered granted = record { last_ask = last; outstanding = o; last_answered = answered; granted = granted }

abbrev asked : ℕ → ℕ → PeerAsks → Option AskValue
asked me j p = option_map (λ n. record { asker = me; asked = j; ask = p.last_ask; amount = n }) p.outstanding

abbrev opened : Bool → PeerAsks → PeerAsks
opened closed p = cond closed (record p { outstanding = None }) p

abbrev step_of : ℕ → ℕ → ℕ → ℕ → List (Option Record)
step_of me j last n = cond (eqb n 0) []
    (Some (Asked (record { asker = me; asked = j; ask = last + 1; amount = n })) ∷ [])

-- an ask for some rights
some_made : (n me after j last : ℕ) → after ≡ me → (p : PeerAsks) → p.last_ask ≡ last
    → ask_made (asked after j (with_asked p (suc n))) ≡ recorded (step_of me j last (suc n))
some_made n me after j last same p there =
    let some : eqb (suc n) 0 ≡ false = eqb-suc n in
    ap (λ b. ask_made (asked after j (cond b p (with_ask p (suc n))))) some
    ∙ (λ i. Asked (record { asker = same i; asked = j; ask = there i + 1; amount = suc n }) ∷ [])
    ∙ sym (ap (λ b. recorded (cond b [] (Some (Asked (record { asker = me; asked = j; ask = last + 1; amount = suc n })) ∷ []))) some)

made_by : (o : Option ℕ) (last answered : ℕ) (granted closed : Bool) (n me after j : ℕ) → after ≡ me
    → (is_some o ≡ true → n ≡ 0)
    → ask_made (cond (is_some (asked me j (peer o last answered granted))) None
    (asked after j (with_asked (opened closed (peer o last answered granted)) n))) ≡ recorded (step_of me j last n)
made_by (Some a) last answered granted closed n me after j same none =
    sym (ap (λ x. recorded (step_of me j last x)) (none refl))
made_by None last answered granted true zero me after j same none = refl
made_by None last answered granted false zero me after j same none = refl
made_by None last answered granted true (suc n) me after j same none =
    some_made n me after j last same (opened true (peer None last answered granted)) refl
made_by None last answered granted false (suc n) me after j same none =
    some_made n me after j last same (peer None last answered granted) refl

-- ---- who has an ask outstanding is asked for nothing

no_none : (a c s l r : Bool) → (not a && false && c && s && l && r) ≡ false
no_none true c s l r = refl
no_none false c s l r = refl

no_open : (a n s l r : Bool) → (not a && n && false && s && l && r) ≡ false
no_open true n s l r = refl
no_open false true s l r = refl
no_open false false s l r = refl

not_eligible : (a s l r closed : Bool) (o : Option ℕ) (last answered : ℕ) (granted : Bool) → is_some o ≡ true
    → (not a && is_none (opened closed (peer o last answered granted)).outstanding && not closed && s && l && r) ≡ false
not_eligible a s l r true o last answered granted h = no_open a true s l r
not_eligible a s l r false (Some n) last answered granted h = no_none a true s l r
not_eligible a s l r false None last answered granted h = absurd (true≢false (sym h))

asked_nothing : (m : ManagerValue) (k : Knowledge) (queued j : ℕ) → is_some (asks m j).outstanding ≡ true
    → planned m k queued j ≡ 0
asked_nothing m k queued j h =
    let p : PeerAsks = asks m j in
    let none : rights_of m k j ≡ 0 =
    ap (λ b. cond b (above_zero (k.known j)) 0) (not_eligible _ _ _ _ (k.closed j) p.outstanding p.last_ask p.last_answered p.granted h) in
    ap (λ r. min (min r (need m k queued - rights_before (asked_sites m) (rights_of m k) j)) MAX_AMOUNT) none ∙ omega arith

-- ---- all sites

recorded-append : (xs ys : List (Option Record)) → recorded (xs ++ ys) ≡ recorded xs ++ recorded ys
recorded-append [] ys = refl
recorded-append (None ∷ xs) ys = recorded-append xs ys
recorded-append (Some r ∷ xs) ys = ap (λ rs. r ∷ rs) (recorded-append xs ys)

made_to : (old : ManagerValue) (k : Knowledge) (queued count : ℕ) (new : ManagerValue) (before : ℕ → Bool)
    → Plans old k queued count new
    → ((j : ℕ) → 1 ≤ j → j ≤ asked_sites old → before j ≡ is_some (outstanding_ask old j))
    → (i : ℕ) → i ≤ asked_sites old → new_asks before new i ≡ recorded (plan_steps old (planned old k queued) i)
made_to old k queued count new before plans flags zero high = refl
made_to old k queued count new before plans flags (suc i) high =
    let n : ℕ = planned old k queued (suc i) in
    let p : PeerAsks = asks old (suc i) in
    let steps : List (Option Record) = plan_steps old (planned old k queued) i in
    let some : 1 ≤ suc i = omega arith in
    ap (λ rs. rs ++ ask_made (cond (before (suc i)) None (outstanding_ask new (suc i))))
    (made_to old k queued count new before plans flags i (omega (arith, high)))
    ∙ ap (λ b. recorded steps ++ ask_made (cond b None (outstanding_ask new (suc i)))) (flags (suc i) some high)
    ∙ ap (λ q. recorded steps ++ ask_made (cond (is_some (asked old.me (suc i) p)) None (asked new.me (suc i) q)))
    (plans.each (suc i) some high)
    ∙ ap (λ rs. recorded steps ++ rs) (made_by p.outstanding p.last_ask p.last_answered p.granted (k.closed (suc i)) n old.me
    new.me (suc i) plans.same.same_me (λ h. asked_nothing old k queued (suc i) h))
    ∙ sym (recorded-append steps (None ∷ step_of old.me (suc i) p.last_ask n))

-- the asks that a plan made, by what is outstanding before and after it
pub plan_made : (old : ManagerValue) (k : Knowledge) (queued count : ℕ) (new : ManagerValue) (before : ℕ → Bool)
    → Plans old k queued count new
    → ((j : ℕ) → 1 ≤ j → j ≤ asked_sites old → before j ≡ is_some (outstanding_ask old j))
    → new_asks before new (asked_sites new) ≡ recorded (plan_steps old (planned old k queued) (asked_sites old))
plan_made old k queued count new before plans flags =
    ap (λ i. new_asks before new i) plans.same.same_sites
    ∙ made_to old k queued count new before plans flags (asked_sites old) (omega arith)

-- what such a plan adds to the records
pub plan_adds : (d new : DeskValue) (silent : ℕ → Bool) (count : ℕ) (before : ℕ → Bool) (rs all : List Record)
    → DeskPlansBeside silent d count new
    → ((j : ℕ) → 1 ≤ j → j ≤ asked_sites d.manager → before j ≡ is_some (outstanding_ask d.manager j))
    → all ≡ rs ++ asks_made before new → all ≡ with_planned silent rs d
plan_adds d new silent count before rs all plans flags added =
    added ∙ ap (λ more. rs ++ more) (plan_made d.manager (beside silent (of_book d.ledger.book)) (total_of d.queue.waiting)
    count new.manager before plans.by_book flags)
