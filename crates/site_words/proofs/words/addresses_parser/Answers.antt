use Rattle.std.proofs.lemmas.Result.{IfOk-weaker}
use Rattle.site_words.proofs.Parsers.{one_more}
use Rattle.site_words.proofs.words.addresses_parser.Goals as goal

pub returns : goal.returns
returns c =
    let listen = one_more _ _ c.in_ok-arg.ensures c.in_ok-run_numbers_parser.ensures c.optional.ensures.rule
    c.optional.ensures.local in
    let from = one_more _ _ c.in_ok-arg-2.ensures listen c.from_option.ensures.rule c.from_option.ensures.local in
    IfOk-weaker c.arg-3.result _ _
    (λ parser adds. one_more _ _ adds from c.peers_argument.ensures.rule c.peers_argument.ensures.local)
    c.arg-3.ensures
