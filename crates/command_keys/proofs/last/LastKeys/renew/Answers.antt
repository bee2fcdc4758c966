use Rattle.std.proofs.Common.{◌≡◌, ℕ, List, ◌∷◌, None, sym, ap, ◌∙◌, subst}
use Rattle.std.specs.Map.{lookup}
use Rattle.std.specs.Str.{bytes_eq}
use Rattle.command_keys.specs.Last.{LastValue, newest_of, newest_first, without}
use Rattle.command_keys.proofs.Lookups.{lookup-turned, distinct_once}
use Rattle.command_keys.proofs.Distinct.{without_absent}
use Rattle.command_keys.proofs.Renewed.{split_at, renewed, none_found}
use Rattle.command_keys.proofs.last.LastKeys.renew.Goals as goal

pub put-requires-clause-absent : goal.put-requires-clause-absent
put-requires-clause-absent g c =
    let es = c.self.inside.map.entries in
    let q = c.args.key in
    let none : lookup (bytes_eq q) es ≡ None
    = none_found c.get_index_of.result (lookup (bytes_eq q) es) c.get_index_of.ensures.found c.in_default.is in
    subst (λ (l : LastValue g.row.V.Denot). lookup (bytes_eq q) l.entries ≡ None) c.self.view_is
    (lookup-turned (bytes_eq q) es c.self.inside.oldest (distinct_once q es c.get_index_of.ensures.unique) ∙ none)

pub returns-in_default-clause-entries : goal.returns-in_default-clause-entries
returns-in_default-clause-entries g c =
    let q = c.args.key in
    let es = c.self.inside.map.entries in
    let none : lookup (bytes_eq q) es ≡ None
    = none_found c.get_index_of.result (lookup (bytes_eq q) es) c.get_index_of.ensures.found c.in_default.is in
    let absent : lookup (bytes_eq q) c.args.self.now.entries ≡ None
    = subst (λ (l : LastValue g.row.V.Denot). lookup (bytes_eq q) l.entries ≡ None) c.self.view_is
    (lookup-turned (bytes_eq q) es c.self.inside.oldest (distinct_once q es c.get_index_of.ensures.unique) ∙ none) in
    c.put.ensures.entries
    ∙ ap (λ (xs : List (List ℕ × g.row.V.Denot)). newest_of c.args.self.now.cap ((q, c.args.value) ∷ xs))
    (sym (without_absent q c.args.self.now.entries absent))

pub returns-clause-entries : goal.returns-clause-entries
returns-clause-entries g c =
    let es = c.self.inside.map.entries in
    let q = c.args.key in
    let i = c.in-Some.index in
    let found = sym c.get_index_of.ensures.index ∙ c.in-Some.is in
    let few = distinct_once q es c.get_index_of.ensures.unique in
    let inserted = rw c.unwrap-old.ensures at c.insert.ensures.entries in
    let new = c.make_newest-self-inside.new.map.entries in
    subst (λ (l : LastValue g.row.V.Denot). newest_first new c.make_newest-self-inside.result ≡ newest_of l.cap ((q, c.args.value) ∷ without q l.entries))
    c.self.view_is
    (renewed q es c.insert.new.self.entries new c.args.value i c.self.inside.oldest c.make_newest-self-inside.result
    c.self.inside.cap (split_at q es i (q, c.args.value) found few) inserted c.self.invariant.few
    c.make_newest-self-inside.ensures.many c.make_newest-self-inside.ensures.order)
