use Rattle.std.proofs.Common.{codes, true≢false, sym, ap, map, ◌∙◌}
use Rattle.http.specs.Request.{head_of}
use Rattle.site_http.specs.Keys.{key_by}
use Rattle.site_http.proofs.FieldLaws.{no_field}
use Rattle.site_http.proofs.request_key.key_of.Goals as goal

pub returns-else-has_field : goal.returns-else-has_field
returns-else-has_field c =
    let request = c.args.request.now in
    ap (λ values. key_by (map (λ v. v.bytes) values)) (sym (no_field (head_of request).headers (codes "idempotency-key")
    (λ found. true≢false (sym (c.has_field.ensures.1 found) ∙ c.if-has_field.false))))
