use Rattle.std.proofs.Common.{refl, subst}
use Rattle.std.specs.Str.Parse.{ParsesUnsigned, ExplainsUnsignedError, HasUnsignedDigitsIfOk}
use Rattle.clap.specs.Matches.{found_of}
use Rattle.site_words.proofs.Found.{MayFind, number_or_none}
use Rattle.site_words.proofs.words.optional_number_of.Goals as goal

pub returns-in-Ok : goal.returns-in-Ok
returns-in-Ok c = subst (MayFind (found_of c.args.matches.now) c.args.option.now) c.in-Ok.is (number_or_none
    (λ bs r. ParsesUnsigned 64 10 bs r × ExplainsUnsignedError 10 bs r × HasUnsignedDigitsIfOk bs r) (λ u x g. g.0)
    (found_of c.args.matches.now) c.args.option.now c.try_get_one.result c.try_get_one.ensures.none
    c.try_get_one.ensures.value)

pub returns-in-Err : goal.returns-in-Err
returns-in-Err c = (
  refl,
  subst (MayFind (found_of c.args.matches.now) c.args.option.now) c.in-Err.is (number_or_none
      (λ bs r. ParsesUnsigned 64 10 bs r × ExplainsUnsignedError 10 bs r × HasUnsignedDigitsIfOk bs r) (λ u x g. g.0)
      (found_of c.args.matches.now) c.args.option.now c.try_get_one.result c.try_get_one.ensures.none
      c.try_get_one.ensures.value),
)
