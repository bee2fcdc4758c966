use Rattle.sub_buffer.proofs.Growth.{follows_longer, longest_stays}
use Rattle.sub_buffer.proofs.laws.log_grows.Goals as goal

pub returns-clause-follows : goal.returns-clause-follows
returns-clause-follows c = follows_longer

pub returns-clause-longest : goal.returns-clause-longest
returns-clause-longest c = longest_stays
