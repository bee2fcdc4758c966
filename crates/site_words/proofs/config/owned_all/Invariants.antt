use Rattle.std.proofs.Common.{◌≡◌, map, take}
use Rattle.std.specs.String.{string_bytes}
use Rattle.clap.specs.Walk.{texts}
use Rattle.site_words.proofs.config.owned_all.Given as goal

-- the copies so far are the first texts
abbrev pub invariant-loop-name : goal.invariant-loop-name
invariant-loop-name l = map string_bytes l.copies.items ≡ texts (take l.name-index l.names)
