-- The effect of expiring one late request after another.
use Rattle.std.proofs.Common.{◌≡◌, ℕ, ◌+◌, ◌≤◌, Bool, true, false, not, List, [], ◌∷◌, ◌++◌, length, map, Some, None}
use Rattle.std.proofs.Common.{refl, ap, sym, ◌∙◌, arith, append-nil, append_assoc}
use Rattle.std.specs.List.{All, filter}
use Rattle.std.proofs.lemmas.Bool.{le-ltb, lt-ltb}
use Rattle.std.proofs.lemmas.List.Elements.{All-head, All-tail, filter-append}
use Rattle.request_queue.specs.declared.request.Request.{Request}
use Rattle.request_queue.specs.declared.request.Outcome.TheVariants.{Expired}
use Rattle.request_queue.specs.Queues.{QueueValue, is_late}
use Rattle.request_queue.specs.Calls.{Expires}
use Rattle.site_core.specs.Calls.{late, in_time, ExpiresLate}

none_pass : {X : Type 0} (p : X → Bool) (xs : List X) → All (λ x. p x ≡ false) xs → filter p xs ≡ []
none_pass p [] h = refl
none_pass p (x ∷ xs) h = rw (All-head (λ y. p y ≡ false) x xs h) (none_pass p xs (All-tail (λ y. p y ≡ false) x xs h))

all_pass : {X : Type 0} (p : X → Bool) (xs : List X) → All (λ x. p x ≡ true) xs → filter p xs ≡ xs
all_pass p [] h = refl
all_pass p (x ∷ xs) h = rw (All-head (λ y. p y ≡ true) x xs h)
    (ap (λ ys. x ∷ ys) (all_pass p xs (All-tail (λ y. p y ≡ true) x xs h)))

without_failing : {X : Type 0} (p : X → Bool) (before after : List X) (x : X) → p x ≡ false
    → filter p (before ++ x ∷ after) ≡ filter p (before ++ after)
without_failing p before after x h =
    filter-append p before (x ∷ after) ∙ (rw h (sym (filter-append p before after)))

first_passing : {X : Type 0} (p : X → Bool) (before after : List X) (x : X) → p x ≡ true → filter p before ≡ []
    → filter p (before ++ x ∷ after) ≡ x ∷ filter p (before ++ after)
first_passing p before after x h none =
    filter-append p before (x ∷ after)
    ∙ (rw (h, none) (ap (λ ys. x ∷ ys) (sym (filter-append p before after ∙ ap (λ ys. ys ++ filter p after) none))))

not_late : (time : ℕ) (rs : List Request) → All (λ (r : Request). time ≤ r.deadline) rs
    → All (λ (r : Request). is_late time r ≡ false) rs
not_late time rs h = λ k d lt. le-ltb _ time (h k d lt)

still : (time : ℕ) (rs : List Request) → All (λ (r : Request). time ≤ r.deadline) rs
    → All (λ (r : Request). not (is_late time r) ≡ true) rs
still time rs h = λ k d lt. rw (le-ltb _ time (h k d lt)) refl

pub expired_none : (q : QueueValue) (time : ℕ) (new : QueueValue) → Expires q time None new → ExpiresLate q time 0 new
expired_none q time new h =
    let none : late time q.waiting ≡ [] = none_pass (is_late time) q.waiting (not_late time q.waiting h.0) in
    let all : in_time time q.waiting ≡ q.waiting
    = all_pass (λ r. not (is_late time r)) q.waiting (still time q.waiting h.0) in
    record {
      waiting = ap (λ (x : QueueValue). x.waiting) h.1 ∙ sym all;
      outcomes = ap (λ (x : QueueValue). x.outcomes) h.1 ∙ (rw none (sym (append-nil q.outcomes)));
      same_next = ap (λ (x : QueueValue). x.next) h.1;
      counted = rw none refl;
    }

pub expired_one : (q : QueueValue) (time ticket : ℕ) (mid : QueueValue) (count : ℕ) (new : QueueValue)
    → Expires q time (Some ticket) mid → ExpiresLate mid time count new → ExpiresLate q time (count + 1) new
expired_one q time ticket mid count new h more =
    let before : List Request = h.0 in
    let r : Request = h.1 in
    let after : List Request = h.2 in
    let whole : q.waiting ≡ before ++ r ∷ after = h.3 in
    let is : is_late time r ≡ true = lt-ltb r.deadline time h.5 in
    let none : late time before ≡ [] = none_pass (is_late time) before (not_late time before h.4) in
    let left : mid.waiting ≡ before ++ after = ap (λ (x : QueueValue). x.waiting) h.7 in
    let told : mid.outcomes ≡ q.outcomes ++ (r.ticket, Expired) ∷ [] = ap (λ (x : QueueValue). x.outcomes) h.7 in
    let late_is : late time q.waiting ≡ r ∷ late time mid.waiting =
    ap (late time) whole ∙ first_passing (is_late time) before after r is none
    ∙ ap (λ xs. r ∷ late time xs) (sym left) in
    let rest_is : in_time time q.waiting ≡ in_time time mid.waiting =
    ap (in_time time) whole ∙ without_failing (λ x. not (is_late time x)) before after r (rw is refl)
    ∙ ap (in_time time) (sym left) in
    record {
      waiting = more.waiting ∙ sym rest_is;
      outcomes = more.outcomes ∙ ap
          (λ xs. xs ++ map (λ (x : Request). (x.ticket, Expired)) (late time mid.waiting)) told
          ∙ append_assoc q.outcomes ((r.ticket, Expired) ∷ [])
          (map (λ (x : Request). (x.ticket, Expired)) (late time mid.waiting))
          ∙ ap (λ xs. q.outcomes ++ map (λ (x : Request). (x.ticket, Expired)) xs) (sym late_is);
      same_next = more.same_next ∙ ap (λ (x : QueueValue). x.next) h.7;
      counted = omega (arith, more.counted, ap (λ xs. length xs) late_is);
    }

pub none_waits : (old : QueueValue) (time count : ℕ) (new : QueueValue) → ExpiresLate old time count new
    → old.waiting ≡ [] → new.waiting ≡ []
none_waits old time count new e h = e.waiting ∙ ap (in_time time) h
