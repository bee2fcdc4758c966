use Rattle.std.proofs.Common.{true≢false, sym}
use Rattle.site_http.proofs.hosts.is_ipv6.Goals as goal

pub returns-in-Err : goal.returns-in-Err
returns-in-Err c = ((λ no. absurd (true≢false (sym no))), (λ is. absurd (c.in-Err.ensures is.address is.spelled)))
