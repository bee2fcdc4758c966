use Rattle.std.proofs.lemmas.Result.{IfOk-weaker}
use Rattle.site_words.proofs.Parsers.{one_more}
use Rattle.site_words.proofs.words.run_parser.Goals as goal

pub returns : goal.returns
returns c =
    let http = one_more _ _ c.in_ok-arg.ensures c.in_ok-addresses_parser.ensures c.optional.ensures.rule
    c.optional.ensures.local in
    let hosts = one_more _ _ c.in_ok-arg-2.ensures http c.host_option.ensures.rule c.host_option.ensures.local in
    let tick = one_more _ _ c.in_ok-arg-3.ensures hosts c.tick_option.ensures.rule c.tick_option.ensures.local in
    let silent = one_more _ _ c.in_ok-arg-4.ensures tick c.silent_option.ensures.rule c.silent_option.ensures.local in
    let keys = one_more _ _ c.in_ok-arg-5.ensures silent c.keys_option.ensures.rule c.keys_option.ensures.local in
    let once = one_more _ _ c.in_ok-arg-6.ensures keys c.optional-2.ensures.rule c.optional-2.ensures.local in
    let journal = one_more _ _ c.in_ok-arg-7.ensures once c.optional-3.ensures.rule c.optional-3.ensures.local in
    let system = one_more _ _ c.in_ok-arg-8.ensures journal c.optional-4.ensures.rule c.optional-4.ensures.local in
    IfOk-weaker c.arg-9.result _ _
    (λ parser adds. one_more _ _ adds system c.log_flag.ensures.rule c.log_flag.ensures.local) c.arg-9.ensures
