use Rattle.entry_codec.proofs.Digits.{pair_is, in_parts}
use Rattle.entry_codec.proofs.put.put_two.Goals as goal

pub returns-clause-text : goal.returns-clause-text
returns-clause-text c = in_parts _ _ _ _ _ _ c.put_byte-at.ensures.text c.put_byte.ensures.text
    (pair_is c.args.digits c.requires.small)
