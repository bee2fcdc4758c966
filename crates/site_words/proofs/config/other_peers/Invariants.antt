use Rattle.std.proofs.Common.{◌≡◌, map}
use Rattle.std.specs.List.{All}
use Rattle.clap.specs.Walk.{texts}
use Rattle.site_words.specs.Settings.{IsNamed, others}
use Rattle.site_words.proofs.config.other_peers.Given as goal

-- the peers so far are the others up to here
abbrev pub invariant-loop-index : goal.invariant-loop-index
invariant-loop-index l = (map (λ p. p.site) l.peers.items ≡ others l.id l.index)
    × All (IsNamed (texts l.words)) l.peers.items
