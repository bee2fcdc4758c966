use Rattle.site_core.proofs.Tested as lemmas
use Rattle.site_core.proofs.laws.tested_is_allowed.Goals as goal

pub returns-clause-post : goal.returns-clause-post
returns-clause-post c = lemmas.post_allowed

pub returns-clause-issue : goal.returns-clause-issue
returns-clause-issue c = lemmas.issue_allowed

pub returns-clause-give : goal.returns-clause-give
returns-clause-give c = lemmas.give_allowed

pub returns-clause-spend : goal.returns-clause-spend
returns-clause-spend c = lemmas.spend_allowed

pub returns-clause-take : goal.returns-clause-take
returns-clause-take c = lemmas.take_allowed

pub returns-clause-serve : goal.returns-clause-serve
returns-clause-serve c = lemmas.serve_allowed

pub returns-clause-grant : goal.returns-clause-grant
returns-clause-grant c = lemmas.grant_allowed

pub returns-clause-close : goal.returns-clause-close
returns-clause-close c = lemmas.close_allowed

pub returns-clause-apply : goal.returns-clause-apply
returns-clause-apply c = lemmas.apply_allowed
