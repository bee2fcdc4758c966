use Rattle.std.proofs.Common.{◌∙◌, inl, inr, sym, true≢false}
use Rattle.site_http.proofs.route.is_foreign.Goals as goal

pub returns-else-names_origin : goal.returns-else-names_origin
returns-else-names_origin c = (
  (λ yes. inr (c.names_other_site.ensures.0 yes)),
  (λ foreign. elim foreign [
    | inl origin ↦ absurd (true≢false (sym (c.names_origin.ensures.1 origin) ∙ c.if-names_origin.false))
    | inr site ↦ c.names_other_site.ensures.1 site
  ]),
)
