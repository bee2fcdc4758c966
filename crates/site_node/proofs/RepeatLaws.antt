-- The replies to commands under keys that are remembered.
use Rattle.std.proofs.Common.{◌≡◌, ◌≢◌, ◌∙◌, ℕ, zero, suc, Bool, true, false, cond, List, [], ◌∷◌, map}
use Rattle.std.proofs.Common.{Option, Some, None, refl, sym, ap, subst, arith}
use Rattle.std.specs.Prelude.{◌==◌, ◌&&◌, nat_lt, option_map, find}
use Rattle.std.specs.List.{All}
use Rattle.std.specs.Map.{lookup}
use Rattle.std.specs.Str.{bytes_eq}
use Rattle.std.proofs.lemmas.Bool.{eqb-true, eq-eqb, and_parts, ltb-false}
use Rattle.rights_types.specs.Entries.{EntryValue}
use Rattle.request_queue.specs.declared.request.Request.{Request}
use Rattle.command_keys.specs.Last.{last_of}
use Rattle.command_keys.specs.Keys.{KeysValue, outcome_by, outcome_of, ExpireGone}
use Rattle.command_keys.specs.declared.outcome.Waiting.{Waiting}
use Rattle.command_keys.specs.declared.outcome.Effect.{Effect}
use Rattle.command_keys.specs.declared.outcome.Effect.TheVariants.{Issue, Give, Spend, Close}
use Rattle.command_keys.specs.declared.outcome.Written.{Written}
use Rattle.command_keys.specs.declared.outcome.Outcome.{Outcome}
use Rattle.command_keys.specs.declared.outcome.Outcome.TheVariants.{Wrote}
use Rattle.command_keys.proofs.CallLaws.{told}
use Rattle.apply_lanes.specs.Kepts.{KeptValue, SeatValue}
use Rattle.site_words.specs.declared.commands.DeskCommand.{DeskCommand}
use Rattle.site_node.specs.declared.reply.Reply.{Reply}
use Rattle.site_node.specs.Keyed.{ActsBy, ActsIf, SettlesKeys, effect_of, same_effect, is_of, repeat_by, repeat_of, reply_as, is_repeat}
use Rattle.site_node.specs.Remembering.{ActsUnder, deed, last_deed, under, Remembers, IsToldAgain, IsToldFirst}
use Rattle.site_node.specs.Remembering.{RepliesAreThose}
use Rattle.site_node.proofs.RememberLaws.{told_of, Untouched, frees_if, turned, wrote_is}

-- ---- what is found

by_told : {V : Type 0} (f : Written → V) (t : List ℕ → Bool) (e : List ℕ × Written) (o : Option V) (p : Option Written) (b : Bool)
    → o ≡ option_map f p → cond b (Some (f e.1)) o ≡ option_map f (cond b (Some e.1) p)
by_told f t e o p true same = refl
by_told f t e o p false same = same

lookup-told : {V : Type 0} (f : Written → V) (t : List ℕ → Bool) (es : List (List ℕ × Written))
    → lookup t (map (told f) es) ≡ option_map f (lookup t es)
lookup-told f t [] = refl
lookup-told f t (e ∷ es) =
    by_told f t e (lookup t (map (told f) es)) (lookup t es) (t e.0) (lookup-told f t es)

-- an entry that is remembered
record Known (k : KeptValue) (key : List ℕ) (d : ℕ × Option Effect) : Type 0 where
  w : Written
  found : lookup (bytes_eq key) k.keys.keys.written ≡ Some w
  same : told_of w ≡ d

some_or : {X : Type 0} → Option X → X → X
some_or (Some x) d = x
some_or None d = d

found_by : (k : KeptValue) (key : List ℕ) (d : ℕ × Option Effect) (o : Option Written)
    → lookup (bytes_eq key) k.keys.keys.written ≡ o → option_map told_of o ≡ Some d → Known k key d
unfolding some_or
found_by k key d None is h = absurd cc
found_by k key d (Some w) is h = record { w = w; found = is; same = ap (λ o. some_or o d) h }

known : (writes : List (List ℕ × EntryValue)) (k : KeptValue) (key : List ℕ) (d : ℕ × Option Effect) → Remembers writes k
    → last_deed writes k key ≡ Some d → Known k key d
known writes k key d is last =
    found_by k key d (lookup (bytes_eq key) k.keys.keys.written) refl
    (sym (lookup-told told_of (bytes_eq key) k.keys.keys.written) ∙ ap (lookup (bytes_eq key)) is.last ∙ last)

-- ---- effects that are equal

same_self : (a : Effect) → same_effect a a ≡ true
same_self (Issue m) = eq-eqb m m refl
same_self (Give j m) = (λ i. eq-eqb j j refl i && eq-eqb m m refl i)
same_self (Spend m) = eq-eqb m m refl
same_self Close = refl

same_is : (a b : Effect) → same_effect a b ≡ true → a ≡ b
same_is (Issue m) (Issue n) h = ap Issue (eqb-true m n h)
same_is (Issue m) (Give j n) h = absurd cc
same_is (Issue m) (Spend n) h = absurd cc
same_is (Issue m) Close h = absurd cc
same_is (Give j m) (Give k n) h =
    let both = and_parts (j == k) (m == n) h in
    (λ i. Give (eqb-true j k both.0 i) (eqb-true m n both.1 i))
same_is (Give j m) (Issue n) h = absurd cc
same_is (Give j m) (Spend n) h = absurd cc
same_is (Give j m) Close h = absurd cc
same_is (Spend m) (Spend n) h = ap Spend (eqb-true m n h)
same_is (Spend m) (Issue n) h = absurd cc
same_is (Spend m) (Give j n) h = absurd cc
same_is (Spend m) Close h = absurd cc
same_is Close Close h = refl
same_is Close (Issue n) h = absurd cc
same_is Close (Give j n) h = absurd cc
same_is Close (Spend n) h = absurd cc

by_same : (a b : Effect) (c : Bool) → same_effect a b ≡ c → Some a ≢ Some b → same_effect a b ≡ false
by_same a b false is differ = is
by_same a b true is differ = absurd (differ (ap Some (same_is a b is)))

not_of : (o : Option Effect) (w : Written) → o ≢ Some w.effect → is_of o (Wrote w) ≡ false
not_of None w differ = refl
not_of (Some a) w differ = by_same a w.effect (same_effect a w.effect) refl differ

-- ---- a command under a key that is remembered

expired_written : (requests : List Request) (count : ℕ) (old new : KeysValue) → ExpireGone requests count old new
    → new.written ≡ old.written
expired_written requests zero old new h = ap (λ (k : KeysValue). k.written) h
expired_written requests (suc n) old new h =
    h.2.expires.written ∙ expired_written requests n old h.0 h.1

wrote_outcome : (k : KeysValue) (key : List ℕ) (w : Written) → lookup (bytes_eq key) k.written ≡ Some w
    → outcome_of k key ≡ Some (Wrote w)
wrote_outcome k key w found =
    ap (λ o. outcome_by o (find (λ (v : Waiting). bytes_eq key v.key) k.waiting) (lookup (bytes_eq key) k.expired)) found

-- it is told what was written, and nothing is
record Repeats (old : KeptValue) (command : DeskCommand) (reply : Reply) (new : KeptValue) (w : Written) : Type 0 where
  replied : reply ≡ repeat_of (Wrote w) command
  nothing : new.desk.ledger ≡ old.desk.ledger

acts_again : (old ready new : KeptValue) (was now : SeatValue) (key : List ℕ) (command : DeskCommand) (reply : Reply)
    (w : Written) → lookup (bytes_eq key) old.keys.keys.written ≡ Some w → SettlesKeys old ready
    → ActsBy (outcome_of ready.keys.keys key) ready was key command reply new now → Repeats old command reply new w
acts_again old ready new was now key command reply w found settles h =
    let kept : ready.keys.keys.written ≡ old.keys.keys.written
    = expired_written old.desk.queue.waiting settles.keys.count old.keys.keys ready.keys.keys settles.keys.expire in
    let outcome : outcome_of ready.keys.keys key ≡ Some (Wrote w)
    = wrote_outcome ready.keys.keys key w (ap (lookup (bytes_eq key)) kept ∙ found) in
    let acts : ActsBy (Some (Wrote w)) ready was key command reply new now
    = subst (λ (o : Option Outcome). ActsBy o ready was key command reply new now) outcome h in
    let u : Untouched ready new = frees_if (is_repeat (Wrote w) command) (Wrote w) ready was new now acts.1 in
    record {
      replied = acts.0;
      nothing = u.ledger ∙ ap (λ (k : KeptValue). k.desk.ledger) settles.rest;
    }

acts_if : (old new : KeptValue) (was now : SeatValue) (key : List ℕ) (command : DeskCommand) (reply : Reply)
    (w : Written) (takes : Bool) → nat_lt 0 old.keys.keys.cap ≡ takes → (old.keys.keys.cap ≡ 0 → ⊥)
    → lookup (bytes_eq key) old.keys.keys.written ≡ Some w
    → ActsIf takes old was key command reply new now → Repeats old command reply new w
acts_if old new was now key command reply w false is some found h =
    absurd (some (omega (arith, ltb-false 0 old.keys.keys.cap is)))
acts_if old new was now key command reply w true is some found h =
    acts_again old h.0 new was now key command reply w found h.1 h.2

none_kept : (writes : List (List ℕ × EntryValue)) (key : List ℕ) (cap : ℕ) (d : ℕ × Option Effect) → cap ≡ 0
    → lookup (bytes_eq key) (last_of cap (map deed writes)) ≡ Some d → ⊥
none_kept writes key zero d none h = absurd cc
none_kept writes key (suc n) d none h = absurd (omega (arith, none))

told_again : (writes : List (List ℕ × EntryValue)) (old : KeptValue) (key : List ℕ) (command : DeskCommand)
    (reply : Reply) (new : KeptValue) (number : ℕ) (effect : Option Effect) → ActsUnder old key command reply new
    → Remembers writes old → last_deed writes old key ≡ Some (number, effect)
    → IsToldAgain old command reply new number effect
told_again writes old key command reply new number effect h is last =
    let k = known writes old key (number, effect) is last in
    let r = acts_if old new h.was h.now key command reply k.w (nat_lt 0 old.keys.keys.cap) refl
    (λ none. none_kept writes key old.keys.keys.cap (number, effect) none last) k.found h.acts in
    let numbered : k.w.number ≡ number = ap (λ (d : ℕ × Option Effect). d.0) k.same in
    let did : Some k.w.effect ≡ effect = ap (λ (d : ℕ × Option Effect). d.1) k.same in
    record {
      nothing = r.nothing;
      repeat_ = λ same.
          r.replied ∙ ap (λ o. repeat_by (is_of o (Wrote k.w)) (Wrote k.w) command) (same ∙ sym did)
          ∙ ap (λ b. repeat_by b (Wrote k.w) command) (same_self k.w.effect) ∙ ap (reply_as command) numbered;
      other = λ differ.
          r.replied ∙ ap (λ b. repeat_by b (Wrote k.w) command) (not_of (effect_of command) k.w (λ same. differ (same ∙ did)));
    }

pub replies_are_those : RepliesAreThose
replies_are_those = record {
  first = λ writes old key command reply new h is.
      (let t = turned old.keys.keys.cap (map deed writes) key command reply old new
      (record { cap_is = refl; last = is.last; once = is.once }) h in
      subst (λ es. All (λ w. IsToldFirst command reply w.1) (under (Some key) es)) (sym (wrote_is old new t.entries t.log))
      t.replies);
  again = told_again;
}
