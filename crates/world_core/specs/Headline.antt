-- The headline and retirement of a world.
use Rattle.rights_protocol.specs.Retirement.{Promised}
use Rattle.world_core.specs.Values.{WorldValue}
use Rattle.world_core.specs.Worlds.{lists_of}

-- Of the world's lists: each site has applied, of each other site's log, a prefix of the longest prefix that reached
-- it, each entry once, in order, nothing after its closing entry; no site has spent or given rights that it did not
-- hold; and rights held, spent and in transit are the rights issued, so that no more was ever spent than was issued.
-- What is in transit to a site that closes is reclaimed, once, and nothing else is.
abbrev pub Headline : WorldValue → Type 0
Headline w = Promised (lists_of w)
