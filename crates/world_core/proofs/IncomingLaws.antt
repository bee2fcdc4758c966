-- The lists of a link, and their capacity, as entries arrive.
use Rattle.std.proofs.Common.{◌≡◌, ◌+◌, ◌≤◌, append_assoc, map, IfSome, vec_capacity, drop, get_or, ℕ, List, [], ◌∷◌}
use Rattle.std.proofs.Common.{◌++◌, length, length-append, ap, arith, refl, sym, ◌∙◌}
use Rattle.std.specs.Prelude.{Option, Some, None, IsSome, MatchOption, unwrap_or}
use Rattle.std.specs.Option.{option_map}
use Rattle.std.proofs.lemmas.List.{length-map}
use Rattle.rights_types.specs.Entries.{EntryValue, own}
use Rattle.sub_buffer.specs.Arrivals.{MayFree, all_ready}
use Rattle.sub_buffer.specs.Follows.{put_after, reached_after}
use Rattle.sub_buffer.specs.Table.{more_held}
use Rattle.sub_buffer.specs.declared.verdict.Verdict.{Verdict as BufferVerdict}
use Rattle.sub_buffer.specs.declared.verdict.Verdict.TheVariants.{Ready, Held, Repeat, AfterClose, Full}
use Rattle.inbound.specs.Inbounds.{ready_in}
use Rattle.world_core.specs.LinkEvents.{reported, reported_all}
use Rattle.world_core.specs.IncomingLists.{HasRoom, IncomingTakes}
use Rattle.world_core.specs.declared.link.incoming.Incoming.{Incoming}
use Rattle.world_core.specs.declared.link.incoming.Scratch.{Scratch}
use Rattle.world_core.specs.declared.reply.EntryVerdict.{EntryVerdict}
use Rattle.world_core.specs.declared.reply.EntryVerdict.TheVariants.{Ready as IsReady}

-- ---- what is listed apart

pub lists_nothing : {A V : Type 0} (items : V → List EntryValue) (apart : Option V) (v : BufferVerdict A)
    (e : EntryValue) → ((set : List EntryValue) → reached_after set e v ≡ set)
    → option_map items apart ≡ option_map (λ l. reached_after (items l) e v) apart
lists_nothing items None v e h = refl
lists_nothing items (Some l) v e h = ap (λ es. Some es) (sym (h (items l)))

pub none_apart : {A V : Type 0} (items : V → List EntryValue) (apart : Option V) (v : BufferVerdict A)
    (e : EntryValue) → apart ≡ None
    → option_map items apart ≡ option_map (λ l. reached_after (items l) e v) apart
none_apart items apart v e none = rw none refl

pub some_is : {X : Type 0} (x y : X) → Some x ≡ Some y → x ≡ y
some_is x y h = ap (λ o. unwrap_or o x) h

-- the copy of the entry e, if there is one
pub lists_copy : {A V : Type 0} (items : V → List EntryValue) (apart : Option V) (l : V) (new : List EntryValue)
    (copy e : EntryValue) (given : Option EntryValue) (v : BufferVerdict A)
    → apart ≡ Some l → given ≡ Some copy → (IsSome apart → given ≡ Some e) → new ≡ items l ++ copy ∷ []
    → reached_after (items l) e v ≡ items l ++ e ∷ []
    → Some new ≡ option_map (λ x. reached_after (items x) e v) apart
lists_copy items apart l new copy e given v there is copied pushed reaches =
    let same : copy ≡ e = some_is copy e (sym is ∙ copied (rw there refl)) in
    rw there (ap (λ es. Some es) (pushed ∙ ap (λ x. items l ++ x ∷ []) same ∙ sym reaches))

-- ---- what is put and reported

ready_in-freed : (A : Type 0) (freed : List EntryValue) → ready_in (all_ready {A = A} freed) ≡ freed
ready_in-freed A [] = refl
ready_in-freed A (e ∷ es) = ap (λ xs. e ∷ xs) (ready_in-freed A es)

-- the entries of these verdicts that are ready are appended to what was delivered
pub puts_one : {A : Type 0} (put : List EntryValue) (v : BufferVerdict A) (freed : List EntryValue)
    → put ++ ready_in (v ∷ all_ready freed) ≡ put_after put v ++ freed
puts_one {A} put (Ready e) freed =
    ap (λ es. put ++ e ∷ es) (ready_in-freed A freed) ∙ sym (append_assoc put (e ∷ []) freed)
puts_one {A} put Held freed = ap (λ es. put ++ es) (ready_in-freed A freed)
puts_one {A} put Repeat freed = ap (λ es. put ++ es) (ready_in-freed A freed)
puts_one {A} put AfterClose freed = ap (λ es. put ++ es) (ready_in-freed A freed)
puts_one {A} put Full freed = ap (λ es. put ++ es) (ready_in-freed A freed)

tells_freed : (A : Type 0) (freed : List EntryValue)
    → map (λ v. reported v) (all_ready {A = A} freed) ≡ map (λ (e : EntryValue). IsReady (own e)) freed
tells_freed A [] = refl
tells_freed A (e ∷ es) = ap (λ ts. IsReady (own e) ∷ ts) (tells_freed A es)

pub tells_one : {A : Type 0} (v : BufferVerdict A) (freed : List EntryValue)
    → map (λ x. reported x) (v ∷ all_ready freed) ≡ reported_all v freed
tells_one {A} v freed = ap (λ ts. reported v ∷ ts) (tells_freed A freed)

-- ---- room

-- at most one more is held
pub one_held : {A : Type 0} (v : BufferVerdict A) → more_held v ≤ 1
one_held (Ready e) = omega arith
one_held Held = omega arith
one_held Repeat = omega arith
one_held AfterClose = omega arith
one_held Full = omega arith

-- what is freed was held
pub freed_was_held : {A : Type 0} (v : BufferVerdict A) (freed : List EntryValue) (held later : ℕ) → MayFree v freed
    → length freed + later ≤ held + more_held v → length freed ≤ held
freed_was_held (Ready e) freed held later may count = omega (arith, count)
freed_was_held Held freed held later may count = omega (arith, ap (λ es. length es) may)
freed_was_held Repeat freed held later may count = omega (arith, count)
freed_was_held AfterClose freed held later may count = omega (arith, count)
freed_was_held Full freed held later may count = omega (arith, count)

-- at most one more is delivered or held
pub put_or_held : {A : Type 0} (put : List EntryValue) (v : BufferVerdict A) (freed : List EntryValue) (held later : ℕ)
    → length freed + later ≤ held + more_held v
    → length (put_after put v ++ freed) + later ≤ length put + held + 1
put_or_held put (Ready e) freed held later count =
    omega (arith, count, length-append (put ++ e ∷ []) freed, length-append put (e ∷ []))
put_or_held put Held freed held later count = omega (arith, count, length-append put freed)
put_or_held put Repeat freed held later count = omega (arith, count, length-append put freed)
put_or_held put AfterClose freed held later count = omega (arith, count, length-append put freed)
put_or_held put Full freed held later count = omega (arith, count, length-append put freed)

pub reported_len : {A : Type 0} (v : BufferVerdict A) (freed : List EntryValue)
    → length (reported_all v freed) ≡ length freed + 1
reported_len v freed =
    let ready : EntryValue → EntryVerdict = λ e. IsReady (own e) in
    omega (arith, length-map freed ready)

-- the separate list grows by at most one
longer_apart : {A : Type 0} (v : BufferVerdict A) (e : EntryValue) (es : List EntryValue)
    → length (reached_after es e v) ≤ length es + 1
longer_apart (Ready x) e es = omega (arith, length-append es (e ∷ []))
longer_apart Held e es = omega (arith, length-append es (e ∷ []))
longer_apart Repeat e es = omega arith
longer_apart AfterClose e es = omega arith
longer_apart Full e es = omega arith

room_apart : {A V : Type 0} (n : ℕ) (old new : Option V) (items : V → List EntryValue) (capacity : V → ℕ)
    (v : BufferVerdict A) (e : EntryValue)
    → option_map items new ≡ option_map (λ l. reached_after (items l) e v) old
    → option_map capacity new ≡ option_map capacity old
    → IfSome old (λ l. length (items l) + (n + 1) ≤ capacity l) → IfSome new (λ l. length (items l) + n ≤ capacity l)
room_apart n old None items capacity v e lists same room = tt
room_apart n None (Some new) items capacity v e lists same room = absurd (grind (arith, lists))
room_apart n (Some old) (Some new) items capacity v e lists same room =
    let listed : items new ≡ reached_after (items old) e v = some_is _ _ lists in
    omega (arith, room, ap (λ es. length es) listed, longer_apart v e (items old), some_is _ _ same)

-- an entry arrived: there is space for one less
pub keeps_room : {A K : Type 0} (n : ℕ) (old new : Incoming A K) (list later : Scratch A) (e : EntryValue)
    (v : BufferVerdict A) (freed : List EntryValue)
    → HasRoom (n + 1) old list → IncomingTakes old list.reported.items e v freed new later.reported.items
    → vec_capacity new.put ≡ vec_capacity old.put
    → option_map (λ l. vec_capacity l) new.apart ≡ option_map (λ l. vec_capacity l) old.apart
    → vec_capacity later.verdicts ≡ vec_capacity list.verdicts
    → vec_capacity later.reported ≡ vec_capacity list.reported → HasRoom n new later
keeps_room n old new list later e v freed room t put apart verdicts reported_room = record {
  put = omega (arith, room.put, put_or_held old.put.items v freed _ _ t.arrives.count, ap (λ es. length es) t.put, put);
  apart = room_apart n old.apart new.apart (λ l. l.items) (λ l. vec_capacity l) v e t.apart apart room.apart;
  verdicts = omega (arith, room.verdicts, t.arrives.count, one_held v, verdicts);
  reported =
      omega (
        arith,
        room.reported,
        t.arrives.count,
        one_held v,
        reported_len v freed,
        ap (λ ts. length ts) t.reported,
        length-append list.reported.items (reported_all v freed),
        reported_room,
      );
}

-- ---- copies

-- the next copy is that of the next entry
pub next_copy : (copy : Option EntryValue) (copies more rest : List EntryValue) (len fewer : ℕ) (e : EntryValue)
    → MatchOption copy ((len ≡ 0) × (fewer ≡ 0)) (λ x. (copies ≡ x ∷ more) × (fewer + 1 ≡ len)) → len ≡ length copies
    → copies ≡ e ∷ rest → (copy ≡ Some e) × (more ≡ rest)
next_copy None copies more rest len fewer e h is first = absurd (omega (arith, h.0, is, ap (λ es. length es) first))
next_copy (Some x) copies more rest len fewer e h is first =
    let same : x ∷ more ≡ e ∷ rest = sym h.0 ∙ first in
    (ap (λ es. Some (get_or es 0 e)) same, ap (λ es. drop 1 es) same)

pub still_some : {A V : Type 0} (items : V → List EntryValue) (old new : Option V) (v : BufferVerdict A)
    (e : EntryValue)
    → option_map items new ≡ option_map (λ l. reached_after (items l) e v) old → IsSome new → IsSome old
still_some items None None v e lists some = absurd (grind (arith, some))
still_some items None (Some new) v e lists some = absurd (grind (arith, lists))
still_some items (Some old) new v e lists some = refl
