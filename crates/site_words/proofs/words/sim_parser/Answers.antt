use Rattle.std.proofs.Common.{◌∙◌, ap}
use Rattle.clap.specs.Simple.{shape_of_fields}
use Rattle.site_words.proofs.words.sim_parser.Goals as goal

pub returns-clause-shape : goal.returns-clause-shape
returns-clause-shape c = ap shape_of_fields c.about.ensures ∙ ap (λ a. a.top) c.new.ensures.app

pub returns-clause-local : goal.returns-clause-local
returns-clause-local c = ap (λ f. f.has_globals) c.about.ensures ∙ c.new.ensures.local
