use Rattle.std.specs.Str.Parse.{ParsesUnsigned, ExplainsUnsignedError, HasUnsignedDigitsIfOk}
use Rattle.clap.specs.Matches.{found_of}
use Rattle.site_words.proofs.Found.{number_or_refused}
use Rattle.site_words.proofs.words.number_of.Goals as goal

pub returns : goal.returns
returns c = rw c.ok_or.ensures.value (number_or_refused
    (λ bs r. ParsesUnsigned 64 10 bs r × ExplainsUnsignedError 10 bs r × HasUnsignedDigitsIfOk bs r) (λ u x g. g.0)
    (found_of c.args.matches.now) c.args.option.now c.get_one.result c.get_one.ensures.none c.get_one.ensures.value)
