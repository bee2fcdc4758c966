use Rattle.rights_types.specs.Messages.MessageValue.{AQuery}
use Rattle.entry_codec.proofs.Lines.{is_line}
use Rattle.site_server.proofs.site.receiving.SitePortPort.query.Goals as goal

pub line-requires : goal.line-requires
line-requires g c = is_line (AQuery c.args.query) _ c.requires
