-- What a handler does with the lines of a client.
use Rattle.std.specs.Prelude.{◌≡◌, ℕ, ◌<◌, ◌≤◌, List, [], ◌∷◌, ◌++◌, Option, Some, None, length}
use Rattle.std.specs.Borrow.{Bor}
use Rattle.rights_types.specs.declared.limits.TheConstants.{MAX_LINE}
use Rattle.line_streams.specs.Waiting.{Waiting, AddsReply}
use Rattle.line_streams.specs.declared.handler.Goes.{Goes}
use Rattle.line_streams.specs.declared.handler.Goes.TheVariants.{On, Ends}

-- in the first state, this line with its line feed gets this reply and leads to the second state; a line that ends the
-- conversation gets no reply
abbrev pub Answering : Type 0 → Type 1
Answering S = S → List ℕ → Option (List ℕ) → S → Type 0

-- what a handler is given for a line: its text without the line feed, and nothing for a line of more than MAX_LINE
-- bytes
abbrev pub IsGiven : List ℕ → Option (Bor (List ℕ)) → Type 0
IsGiven line (Some text) = (line ≡ text.now ++ 10 ∷ []) × (length line ≤ MAX_LINE)
IsGiven line None = MAX_LINE < length line

-- the result of a line: its reply is among the whole ones, or it ended the conversation
abbrev pub LineGets : {S : Type 0} → Answering S → Goes → S → List ℕ → S → Waiting → Waiting → Type 0
LineGets answers On old line new waits waits' = (reply : List ℕ) × answers old line (Some reply) new
    × AddsReply waits waits' reply
LineGets answers Ends old line new waits waits' = answers old line None new × (waits'.whole ≡ waits.whole)
    × (waits'.part ≡ [])

-- the replies to these lines, one after another, each with its line feed
abbrev pub LinesGet : {S : Type 0} → Answering S → S → List (List ℕ) → List ℕ → S → Type 0
LinesGet answers old [] text new = (text ≡ []) × (new ≡ old)
LinesGet {S} answers old (line ∷ lines) text new =
    (reply : List ℕ) × (mid : S) × (more : List ℕ)
    × answers old line (Some reply) mid × LinesGet answers mid lines more new × (text ≡ (reply ++ 10 ∷ []) ++ more)
