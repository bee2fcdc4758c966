use Rattle.std.proofs.Common.{◌≡◌, ◌≢◌, ◌<◌, ℕ}
use Rattle.std.specs.List.{slice_index_or}
use Rattle.clap.specs.Walk.{texts}
use Rattle.site_words.specs.Settings.{Peer, peer_word}
use Rattle.site_words.proofs.config.address_among.Given as goal

-- no word so far names the site
abbrev pub invariant-loop-word : goal.invariant-loop-word
invariant-loop-word l = (p : Peer) (k : ℕ) → p.site ≡ l.site → k < l.word-index
    → slice_index_or (texts l.words) k (peer_word p) ≢ peer_word p
