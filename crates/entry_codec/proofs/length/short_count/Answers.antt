use Rattle.entry_codec.proofs.Digits.{short_length}
use Rattle.entry_codec.proofs.length.short_count.Goals as goal

pub returns-clause-value : goal.returns-clause-value
returns-clause-value c =
    rw (
      c.at_least.ensures,
      c.at_least-2.ensures,
      c.at_least-3.ensures,
      c.at_least-4.ensures,
      c.at_least-5.ensures,
      c.at_least-6.ensures,
      c.at_least-7.ensures,
      c.at_least-8.ensures,
      c.at_least-9.ensures,
    )
    (short_length c.args.number c.requires)
