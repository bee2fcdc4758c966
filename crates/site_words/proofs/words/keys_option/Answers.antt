use Rattle.std.proofs.Common.{◌≡◌, ◌∙◌, ap, ap₂, Some}
use Rattle.std.specs.Range.{range_inclusive_end, range_inclusive_start}
use Rattle.clap.specs.Walk.{rule_of}
use Rattle.clap.specs.declared.builder.value_parser.ValueParser.TheVariants.{Unsigned}
use Rattle.site_words.proofs.Parsers.{is_global, narrowed, parsed_by}
use Rattle.site_words.proofs.words.keys_option.Goals as goal

pub returns-clause-rule : goal.returns-clause-rule
returns-clause-rule c =
    let range : c.range-count.result ≡ Unsigned 0 10000000
    = narrowed c.value_parser.result c.range-count.result (range_inclusive_start c.new.result)
    (range_inclusive_end c.new.result) 0 10000000
    c.value_parser.ensures c.new.ensures.start c.new.ensures.end c.range-count.ensures in
    let given = c.value_parser-2.ensures.given in
    ap rule_of c.value_parser-2.ensures.others
    ∙ ap₂ parsed_by c.optional.ensures.rule (given.1 ∙ ap Some (given.2 ∙ range))

pub returns-clause-local : goal.returns-clause-local
returns-clause-local c = ap is_global c.value_parser-2.ensures.others ∙ c.optional.ensures.local
