use Rattle.std.proofs.Common.{◌≡◌, true, false, [], ◌∷◌, ◌++◌, refl, ap, ◌∙◌, rules}
use Rattle.rights_types.specs.Entries.{closes}
use Rattle.thread_parts.specs.declared.item.Item.TheVariants.{Entry, End}
use Rattle.link_intake.proofs.IntakeLaws.{next_continues, closed_at_put, closed_at_end, put_alone, put_ended}
use Rattle.link_intake.proofs.intake.put_next.Goals as goal

pub put-requires : goal.put-requires
put-requires g c = (next_continues _ _ _ [] c.requires).0

pub returns-in_default-clause-err : goal.returns-in_default-clause-err
returns-in_default-clause-err g c =
    let same : c.put.new.self.put ≡ c.args.inlet.now.put = search rules in
    let dead : c.put.new.self.dead ≡ true = search rules in
    (refl, closed_at_put _ _ _ c.put.new.self c.requires same dead)

pub returns-in_default-end-clause-err : goal.returns-in_default-end-clause-err
returns-in_default-end-clause-err g c =
    let more : c.put.new.self.put ≡ c.args.inlet.now.put ++ Entry c.args.entry ∷ [] = search rules in
    let same : c.end.new.self.put ≡ c.put.new.self.put = search rules in
    let dead : c.end.new.self.dead ≡ true = search rules in
    (refl, closed_at_end _ _ _ _ c.end.new.self c.requires more same dead)

pub returns-else-closes-clause-ok : goal.returns-else-closes-clause-ok
returns-else-closes-clause-ok g c =
    let more : c.put.new.self.put ≡ c.args.inlet.now.put ++ Entry c.args.entry ∷ [] = search rules in
    let live : c.put.new.self.dead ≡ false = search rules in
    let goes_on : closes c.args.entry ≡ false = search rules in
    put_alone _ _ _ c.put.new.self c.requires goes_on more live

pub returns-in-Ok-end-clause-ok : goal.returns-in-Ok-end-clause-ok
returns-in-Ok-end-clause-ok g c =
    let is : closes c.args.entry ≡ true = search rules in
    let more : c.put.new.self.put ≡ c.args.inlet.now.put ++ Entry c.args.entry ∷ [] = search rules in
    let last : c.end.new.self.put ≡ c.put.new.self.put ++ End ∷ [] = search rules in
    let live : c.end.new.self.dead ≡ false = search rules in
    put_ended c.args.ended.now _ _ c.end.new.self is (last ∙ ap (λ l. l ++ End ∷ []) more) live
