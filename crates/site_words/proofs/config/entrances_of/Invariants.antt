use Rattle.std.proofs.Common.{take}
use Rattle.site_words.proofs.Entrances.{AreNamed}
use Rattle.site_words.proofs.config.entrances_of.Given as goal

-- the entrances so far are those of the words up to here
abbrev pub invariant-loop-word : goal.invariant-loop-word
invariant-loop-word l = AreNamed l.id l.sites (take l.word-index l.words) l.entrances.items
