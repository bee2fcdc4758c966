use Rattle.clap.specs.Matches.{found_of}
use Rattle.site_words.proofs.Found.{flag_or_refused}
use Rattle.site_words.proofs.words.flag_of.Goals as goal

pub returns : goal.returns
returns c = rw c.ok_or.ensures.value (flag_or_refused _
    (found_of c.args.matches.now) c.args.flag.now c.get_one.result c.get_one.ensures.none c.get_one.ensures.value)
