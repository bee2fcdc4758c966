use Rattle.std.proofs.lemmas.Bool.Decides.{Decides-eqb}
use Rattle.std.proofs.lemmas.Slice.Eq.{strip_suffix_is}
use Rattle.site_http.specs.declared.request_fault.TheConstants.{BAD_REQUEST}
use Rattle.site_http.proofs.serving.before_own.Goals as goal

pub returns : goal.returns
returns c = strip_suffix_is Decides-eqb c.args.text.now BAD_REQUEST.now c.strip_suffix.result c.strip_suffix.ensures.cases
