-- Replies that wait to be written.
use Rattle.std.specs.Prelude.{◌≡◌, ℕ, List, [], ◌∷◌, ◌++◌}

-- whole replies, each with its line feed; the beginning of the next one; and for how many more bytes there is memory
pub record Waiting : Type 0 where
  pub whole : List ℕ
  pub part : List ℕ
  pub room : ℕ

-- no reply waits
pub record IsEmpty (replies : Waiting) : Type 0 where
  pub whole : replies.whole ≡ []
  pub part : replies.part ≡ []

-- one more reply is complete, and the next one has not begun
pub record AddsReply (old new : Waiting) (reply : List ℕ) : Type 0 where
  pub whole : new.whole ≡ old.whole ++ (reply ++ 10 ∷ [])
  pub part : new.part ≡ []
