-- What holds of each buffer that follows a log.
use Rattle.std.specs.Prelude.{ℕ, ◌↔◌, List, ◌++◌}
use Rattle.std.specs.List.{All, Contains}
use Rattle.rights_types.specs.Entries.{EntryValue}
use Rattle.rights_types.specs.Chains.{IsChain, IsLongest}
use Rattle.sub_buffer.specs.Buffers.{BufferValue, IsSettled}
use Rattle.sub_buffer.specs.Follows.{Follows}

-- a buffer that follows a log continues to follow it as the log grows
abbrev pub FollowsLonger : Type 0
FollowsLonger = (b : BufferValue) (es more set put : List EntryValue) → IsChain b.origin (es ++ more)
    → Follows es set put b → Follows (es ++ more) set put b

-- what is the longest prefix of the set, which contains only entries of the log, stays the longest as the log grows
abbrev pub LongestStays : Type 0
LongestStays = (o : ℕ) (es more set put : List EntryValue) → IsChain o (es ++ more) → All (Contains es) set
    → IsLongest set es put → IsLongest set (es ++ more) put

-- a buffer that follows a log is settled exactly if put is the longest prefix
abbrev pub SettledIsLongest : Type 0
SettledIsLongest = (b : BufferValue) (es set put : List EntryValue) → Follows es set put b
    → IsSettled b ↔ IsLongest set es put
