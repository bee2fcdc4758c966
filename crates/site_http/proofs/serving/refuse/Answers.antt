use Rattle.std.proofs.Common.{◌∙◌, Option, IfSome, inr, subst}
use Rattle.http_server.specs.Connection.{history}
use Rattle.site_http.specs.declared.request_fault.RequestFault.{RequestFault}
use Rattle.site_http.specs.Refusing.{IsCause}
use Rattle.site_http.proofs.ConverseLaws.{written_part}
use Rattle.site_http.proofs.serving.refuse.Goals as goal

pub returns : goal.returns
returns g c =
    let part = written_part _ _ _ c.write_whole.result c.write_whole.ensures.whole c.write_whole.ensures.front in
    let all = c.in-Some-last_text.ensures in (
      part.0,
      part.1,
      inr (record {
        why = c.in-Some.why;
        cause = subst (λ (w : Option RequestFault). IfSome w (λ why. IsCause why (history c.args.connection))) c.in-Some.is c.requires;
        front = all.0;
        first = all.1;
        rest = part.2;
        text = part.3 ∙ c.as_slice.ensures.value ∙ all.2;
      }),
    )
