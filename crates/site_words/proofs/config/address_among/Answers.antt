use Rattle.std.proofs.Common.{arith, refl}
use Rattle.std.proofs.lemmas.List.{length-map}
use Rattle.site_words.proofs.Peers.{one_more}
use Rattle.site_words.proofs.config.address_among.Goals as goal

pub loop-word-preserved : goal.loop-word-preserved
loop-word-preserved c =
    one_more c.args.words.now c.loop-word.word-index c.args.site _ (omega (arith, c.loop-word-test.true))
    c.loop-word.invariant c.in_default.ensures

pub returns : goal.returns
returns c = λ address named. c.loop-word.invariant (record { site = c.args.site; address = address }) named.0 refl
    (omega (arith, named.1, c.loop-word-test.false, length-map c.args.words.now (λ s. s.now))) named.2
