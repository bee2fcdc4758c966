use Rattle.std.proofs.Common.{◌≡◌, ◌∙◌, sym, ap, arith, true, false}
use Rattle.std.proofs.lemmas.Result.{err_from_is_err_and}
use Rattle.site_words.specs.Settings.{has_entrance}
use Rattle.site_words.proofs.Entrances.{all_named, no_entrance, none_named, one_named, twice}
use Rattle.site_words.proofs.config.entrances_of.Goals as goal

pub loop-word-init : goal.loop-word-init
loop-word-init c = none_named _ _ c.args.words.now _ c.new-entrances.ensures.items

pub returns-in_err-site : goal.returns-in_err-site
returns-in_err-site c =
    let p = err_from_is_err_and c.from_residual.result c.from_residual.ensures.1 in
    rw p.1 (λ refused. no_entrance c.args.id c.args.sites c.args.words.now c.loop-word.word-index _
    (omega (arith, c.loop-word-test.true)) (rw c.in_err-site.ensures.ok_part at c.entrance_of.ensures))

pub returns-then-has_entrance : goal.returns-then-has_entrance
returns-then-has_entrance c =
    let found = rw c.in_ok-site.ensures.ok_part at c.entrance_of.ensures in
    let has : has_entrance c.in_ok-site.site c.loop-word.entrances.items ≡ true =
    ap (has_entrance c.in_ok-site.site) (sym c.as_slice.ensures.value) ∙ sym c.if-has_entrance.ensures in
    λ refused. twice c.args.id c.args.sites c.args.words.now c.loop-word.word-index _ c.loop-word.entrances.items
    (record { site = c.in_ok-site.site; address = c.in_ok-site.address.now }) (omega (arith, c.ranges.sites.fits))
    (omega (arith, c.loop-word-test.true)) c.loop-word.invariant.0 c.loop-word.invariant.1 found.0 found.1 has

pub loop-word-preserved : goal.loop-word-preserved
loop-word-preserved c =
    let found = rw c.in_ok-site.ensures.ok_part at c.entrance_of.ensures in
    let none : has_entrance c.in_ok-site.site c.loop-word.entrances.items ≡ false =
    ap (has_entrance c.in_ok-site.site) (sym c.as_slice.ensures.value) ∙ sym c.if-has_entrance.ensures in
    one_named c.args.id c.args.sites c.args.words.now c.loop-word.word-index _ c.loop-word.entrances.items
    c.push.new.self.items _ c.in_ok-site.site c.in_ok-site.address.now (omega (arith, c.loop-word-test.true))
    c.in_ok-push.ensures.items c.known.ensures c.in_ok-address.ensures.ok c.loop-word.invariant found.0 found.1 none

pub returns : goal.returns
returns c = all_named c.args.id c.args.sites c.args.words.now c.loop-word.word-index _
    (omega (arith, c.loop-word-test.false)) c.loop-word.invariant
