use Rattle.std.proofs.Common.{sym, subst}
use Rattle.rights_types.specs.Messages.MessageValue.{AHello}
use Rattle.entry_codec.specs.Spelling.{Spells}
use Rattle.peer_links.proofs.HelloLaws.{not_read}
use Rattle.peer_links.proofs.link.hello.speaker.Goals as goal

pub returns-in_default : goal.returns-in_default
returns-in_default g c = λ site h.
    let h' = subst (Spells (AHello site)) (sym c.deref.ensures.value) h in
    not_read c.read_line.result c.deref.result.now site c.in_default.not-Ok h'
    (c.read_line.ensures.only (AHello site) h') c.read_line.ensures.memory
