-- What a site answers to the asks of others.
use Rattle.std.specs.Prelude.{◌≡◌, ℕ, ◌≤◌, Bool, true, false, min, nat_lt, ◌==◌, if◌then◌else◌}
use Rattle.rights_types.specs.Messages.{AskValue}
use Rattle.transfer_manager.specs.declared.answer.AskAnswer.{AskAnswer}
use Rattle.transfer_manager.specs.declared.answer.AskAnswer.TheVariants.{Grant, Deny, RepeatedDeny, Repeated, OldAsk}
use Rattle.transfer_manager.specs.Managers.{ManagerValue, asks, with_asks}

-- grants this many rights; denies if they are 0
abbrev pub grant_of : ℕ → AskAnswer
grant_of n = if n == 0 then Deny else Grant n

-- the answer to an ask, given how many rights are available
abbrev pub answer_to : ManagerValue → AskValue → ℕ → AskAnswer
answer_to m ask available =
    let p = asks m ask.asker in
    if nat_lt ask.ask p.last_answered then OldAsk
    else (if ask.ask == p.last_answered then (if p.granted then Repeated else RepeatedDeny)
    else grant_of (min ask.amount available))

-- the asks once this ask was answered, by a grant or not
abbrev pub with_answer : ManagerValue → AskValue → Bool → ManagerValue
with_answer m ask granted
    = with_asks m ask.asker (record (asks m ask.asker) { last_answered = ask.ask; granted = granted })

-- the asks after this answer was recorded
abbrev pub noted : ManagerValue → AskValue → AskAnswer → ManagerValue
noted m ask (Grant n) = with_answer m ask true
noted m ask Deny = with_answer m ask false
noted m ask _ = m

-- the fact holds if the answer is a grant or a first denial
abbrev pub IfNew : AskAnswer → Type 0 → Type 0
IfNew (Grant n) P = P
IfNew Deny P = P
IfNew _ P = Unit {0}

-- a grant is within what was asked for and what is available
abbrev pub IsWithin : AskAnswer → AskValue → ℕ → Type 0
IsWithin (Grant n) ask available = (1 ≤ n) × (n ≤ ask.amount) × (n ≤ available)
IsWithin _ ask available = Unit {0}

-- the answer is neither a grant nor a first denial
abbrev pub IsLate : AskAnswer → Type 0
IsLate (Grant n) = ⊥
IsLate Deny = ⊥
IsLate _ = Unit {0}

-- whatever is available, no ask of this asker with this number or a smaller one is ever granted again
abbrev pub IsAnswered : ManagerValue → AskValue → Type 0
IsAnswered m ask = (again : AskValue) (available : ℕ) → again.asker ≡ ask.asker → again.ask ≤ ask.ask
    → IsLate (answer_to m again available)
