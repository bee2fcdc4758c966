use Rattle.std.proofs.Common.{◌≡◌, ℕ, ◌+◌, ◌<◌, List, [], ◌∷◌, ◌++◌, length, get_or, set, None}
use Rattle.std.proofs.Common.{sym, ap, ◌∙◌, subst, arith, inl, inr}
use Rattle.std.specs.Map.{lookup}
use Rattle.std.specs.List.{swap_remove}
use Rattle.std.specs.Str.{bytes_eq}
use Rattle.std.proofs.lemmas.List.{length_push}
use Rattle.std.proofs.lemmas.Option.{slice_get-get_or}
use Rattle.indexmap.proofs.CallerLemmas.{insert_entry-new}
use Rattle.command_keys.specs.Last.{LastValue, newest_of, newest_first}
use Rattle.command_keys.proofs.Lookups.{free_turned}
use Rattle.command_keys.proofs.Rings.{put_new, replaced, put_between, put_last}
use Rattle.command_keys.proofs.last.LastKeys.put.Goals as goal
use Rattle.command_keys.proofs.last.LastKeys.put.Goals.{then-oldest-self, else-oldest-self}

pub returns-else-len-self-clause-entries : goal.returns-else-len-self-clause-entries
returns-else-len-self-clause-entries g c =
    let es = c.self.inside.map.entries in
    let oldest = c.self.inside.oldest in
    let cap = c.self.inside.cap in
    let q = c.args.key in
    let e : List ℕ × g.row.V.Denot = (q, c.args.value) in
    let absent : lookup (bytes_eq q) (newest_first es oldest) ≡ None
    = subst (λ (l : LastValue g.row.V.Denot). lookup (bytes_eq q) l.entries ≡ None) (sym c.self.view_is) c.requires.absent in
    let inserted = rw c.unwrap-new.ensures at c.insert.ensures.entries in
    let pushed : c.insert.new.self.entries ≡ es ++ e ∷ []
    = inserted
    ∙ insert_entry-new bytes_eq c.self.inside.map q c.args.value (free_turned (bytes_eq q) es oldest absent) in
    let room : length es < cap
    = omega (arith, c.if-len-self.false, c.len.ensures.len, ap length pushed, length_push es e) in
    let start : oldest ≡ 0 = c.self.invariant.first room in
    subst (λ (l : LastValue g.row.V.Denot). newest_first c.insert.new.self.entries oldest ≡ newest_of l.cap (e ∷ l.entries))
    c.self.view_is
    (subst (λ (i : ℕ). newest_first c.insert.new.self.entries i ≡ newest_of cap (e ∷ newest_first es i)) (sym start)
    (ap (λ (xs : List (List ℕ × g.row.V.Denot)). newest_first xs 0) pushed ∙ put_new es e cap room))

pub returns-after-oldest-self-clause-entries : goal.returns-after-oldest-self-clause-entries
returns-after-oldest-self-clause-entries g c =
    let es = c.self.inside.map.entries in
    let oldest = c.self.inside.oldest in
    let cap = c.self.inside.cap in
    let q = c.args.key in
    let e : List ℕ × g.row.V.Denot = (q, c.args.value) in
    let absent : lookup (bytes_eq q) (newest_first es oldest) ≡ None
    = subst (λ (l : LastValue g.row.V.Denot). lookup (bytes_eq q) l.entries ≡ None) (sym c.self.view_is) c.requires.absent in
    let inserted = rw c.unwrap-new.ensures at c.insert.ensures.entries in
    let pushed : c.insert.new.self.entries ≡ es ++ e ∷ []
    = inserted
    ∙ insert_entry-new bytes_eq c.self.inside.map q c.args.value (free_turned (bytes_eq q) es oldest absent) in
    let long : length c.insert.new.self.entries ≡ length es + 1 = ap length pushed ∙ length_push es e in
    let full : length es ≡ cap
    = omega (arith, c.self.invariant.few, c.if-len-self.true, c.len.ensures.len, long) in
    let within : oldest < cap
    = elim c.self.invariant.within [ inl start ↦ omega (arith, start, c.if-self-eq0.false) | inr less ↦ less ] in
    let d : List ℕ × g.row.V.Denot = get_or c.insert.new.self.entries oldest e in
    let some = c.swap_remove_index-forgotten.ensures.entry
    ∙ slice_get-get_or c.insert.new.self.entries oldest e (omega (arith, long, full, within)) in
    let removed = rw some at c.swap_remove_index-forgotten.ensures.entries in
    let placed : c.swap_remove_index-forgotten.new.self.entries ≡ set es oldest e
    = removed ∙ ap (λ (xs : List (List ℕ × g.row.V.Denot)). swap_remove xs oldest d) pushed
    ∙ replaced es e d oldest (omega (arith, full, within)) in
    let left = c.swap_remove_index-forgotten.new.self.entries in
    subst (λ (l : LastValue g.row.V.Denot). newest_first left c.if-oldest-self.self ≡ newest_of l.cap (e ∷ l.entries)) c.self.view_is
    (ap (λ (xs : List (List ℕ × g.row.V.Denot)). newest_first xs c.if-oldest-self.self) placed
    ∙ (elim c.if-oldest-self.branch [
      | then-oldest-self w ↦ rw w.self-is (put_between es e cap oldest full within)
      | else-oldest-self w ↦ rw w.self-is (put_last es e cap oldest full
          (omega (arith, within, w.if-oldest-self.false)))
    ]))
