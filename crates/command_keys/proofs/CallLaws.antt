-- What any list of calls makes of the keys.
use Rattle.std.proofs.Common.{◌≡◌, ℕ, zero, suc, ◌<◌, inl, inr, List, [], ◌∷◌, ◌++◌, length, map, None}
use Rattle.std.proofs.Common.{refl, sym, ap, ◌∙◌, subst, arith}
use Rattle.std.specs.Map.{lookup}
use Rattle.std.specs.Str.{bytes_eq}
use Rattle.std.proofs.lemmas.List.{append_assoc, append-nil, map-append, take-map}
use Rattle.std.proofs.lemmas.Option.{slice_get_within, get_or_from_slice_get}
use Rattle.command_keys.specs.Last.{newest_of, last_of, without}
use Rattle.command_keys.specs.Keys.{KeysValue, no_keys, serving, ServesAt, ExpiresAt, IsOnce}
use Rattle.command_keys.specs.Calls.{Remembers, Replays, Waits, Serves, Expires, Keeps, Calls, Runs, all_added}
use Rattle.command_keys.specs.Calls.{LastAreRemembered}
use Rattle.command_keys.specs.declared.keys.TheConstants.{MAX_EXPIRED}
use Rattle.command_keys.specs.declared.outcome.Written.{Written}
use Rattle.command_keys.proofs.Changes.{once_remembered, once_replayed, once_waiting, once_served, once_expired}
use Rattle.command_keys.proofs.Changes.{free_unwritten, written_free}
use Rattle.command_keys.proofs.Distinct.{without_absent, last_put, map-without}

module _ {V : Type 0} (f : Written → V) where
  -- what is told of a key that wrote an entry
  abbrev pub told : List ℕ × Written → List ℕ × V
  told e = (e.0, f e.1)

  -- keys that are the last of these
  pub record Has (cap : ℕ) (all : List (List ℕ × V)) (k : KeysValue) : Type 0 where
    pub cap_is : k.cap ≡ cap
    pub last : map told k.written ≡ last_of cap all
    pub once : IsOnce k

  -- one more that was put
  put_again : (cap : ℕ) (all : List (List ℕ × V)) (k : KeysValue) (key : List ℕ) (entry : Written) → Has cap all k
      → map told (newest_of k.cap ((key, entry) ∷ without key k.written)) ≡ last_of cap ((key, f entry) ∷ all)
  put_again cap all k key entry is =
      sym (take-map told k.cap ((key, entry) ∷ without key k.written))
      ∙ ap (λ es. newest_of k.cap ((key, f entry) ∷ es)) (map-without f key k.written)
      ∙ (λ i. newest_of (is.cap_is i) ((key, f entry) ∷ without key (is.last i))) ∙ last_put cap (key, f entry) all

  put_free : (cap : ℕ) (all : List (List ℕ × V)) (k : KeysValue) (key : List ℕ) (entry : Written) → Has cap all k
      → lookup (bytes_eq key) k.written ≡ None
      → map told (newest_of k.cap ((key, entry) ∷ k.written)) ≡ last_of cap ((key, f entry) ∷ all)
  put_free cap all k key entry is absent =
      ap (λ es. map told (newest_of k.cap ((key, entry) ∷ es))) (sym (without_absent key k.written absent))
      ∙ put_again cap all k key entry is

  with_added : (cap : ℕ) (all : List (List ℕ × V)) (added more : List (List ℕ × Written)) → added ≡ more
      → last_of cap (map told more ++ all) ≡ last_of cap (map told added ++ all)
  with_added cap all added more adds = ap (λ es. last_of cap (map told es ++ all)) (sym adds)

  module _ (cap : ℕ) (all : List (List ℕ × V)) (old : KeysValue) (added : List (List ℕ × Written)) (new : KeysValue)
      (is : Has cap all old) where
    remembers : Remembers old added new → Has cap (map told added ++ all) new
    remembers h = record {
      cap_is = ap (λ (k : KeysValue). k.cap) h.becomes ∙ is.cap_is;
      last = ap (λ (k : KeysValue). map told k.written) h.becomes
          ∙ put_free cap all old h.key h.entry is (free_unwritten old h.key h.free)
          ∙ with_added cap all added ((h.key, h.entry) ∷ []) h.adds;
      once = subst IsOnce (sym h.becomes) (once_remembered old h.key h.entry h.free is.once);
    }

    replays : Replays old added new → Has cap (map told added ++ all) new
    replays h = record {
      cap_is = ap (λ (k : KeysValue). k.cap) h.becomes ∙ is.cap_is;
      last = ap (λ (k : KeysValue). map told k.written) h.becomes ∙ put_again cap all old h.key h.entry is
          ∙ with_added cap all added ((h.key, h.entry) ∷ []) h.adds;
      once = subst IsOnce (sym h.becomes) (once_replayed old h.key h.entry is.once);
    }

    waits : Waits old added new → Has cap (map told added ++ all) new
    waits h = record {
      cap_is = ap (λ (k : KeysValue). k.cap) h.becomes ∙ is.cap_is;
      last = ap (λ (k : KeysValue). map told k.written) h.becomes ∙ is.last ∙ with_added cap all added [] h.adds;
      once = subst IsOnce (sym h.becomes) (once_waiting old h.spend h.free is.once);
    }

    serves : Serves old added new → Has cap (map told added ++ all) new
    serves h =
        let s : ServesAt old h.place h.number h.amount new = h.serves in
        let within : h.place < length old.waiting = slice_get_within old.waiting h.place s.spend s.found in
        let at = sym (get_or_from_slice_get old.waiting h.place s.spend s.spend s.found) in
        let then = once_served old.waiting h.place s.spend within at old.cap h.number h.amount old.written old.expired is.once in
        let absent = written_free old.waiting h.place s.spend within at old.written old.expired (is.once s.spend.key) in
        record {
          cap_is = s.cap ∙ is.cap_is;
          last = ap (map told) s.wrote ∙ put_free cap all old s.spend.key (serving s.spend h.number h.amount) is absent
              ∙ with_added cap all added ((s.spend.key, serving s.spend h.number h.amount) ∷ []) h.adds;
          once = rw (s.wrote, s.others, s.expired) then;
        }

    expires : Expires old added new → Has cap (map told added ++ all) new
    expires h =
        let e : ExpiresAt old h.place new = h.expires in
        let within : h.place < length old.waiting = slice_get_within old.waiting h.place e.spend e.found in
        let at = sym (get_or_from_slice_get old.waiting h.place e.spend e.spend e.found) in
        let then = once_expired old.waiting h.place e.spend within at MAX_EXPIRED old.written old.expired is.once in
        record {
          cap_is = e.cap ∙ is.cap_is;
          last = ap (map told) e.written ∙ is.last ∙ with_added cap all added [] h.adds;
          once = rw (e.written, e.others, e.ended) then;
        }

    keeps : Keeps old added new → Has cap (map told added ++ all) new
    keeps h = record {
      cap_is = ap (λ (k : KeysValue). k.cap) h.becomes ∙ is.cap_is;
      last = ap (λ (k : KeysValue). map told k.written) h.becomes ∙ is.last ∙ with_added cap all added [] h.adds;
      once = subst IsOnce (sym h.becomes) is.once;
    }

    pub one : Calls old added new → Has cap (map told added ++ all) new
    one (inl h) = remembers h
    one (inr (inl h)) = replays h
    one (inr (inr (inl h))) = waits h
    one (inr (inr (inr (inl h)))) = serves h
    one (inr (inr (inr (inr (inl h))))) = expires h
    one (inr (inr (inr (inr (inr h))))) = keeps h

  pub run : (cap : ℕ) (all : List (List ℕ × V)) (old : KeysValue) (calls : List (List (List ℕ × Written))) (new : KeysValue)
      → Has cap all old → Runs old calls new → Has cap (map told (all_added calls) ++ all) new
  run cap all old [] new is h = subst (Has cap all) (sym h) is
  run cap all old (added ∷ calls) new is h =
      let mid : KeysValue = h.0 in
      subst (λ es. Has cap es new)
      (sym (ap (λ es. es ++ all) (map-append told (all_added calls) added)
      ∙ append_assoc (map told (all_added calls)) (map told added) all))
      (run cap (map told added ++ all) mid calls new (one cap all old added mid is h.1) h.2)

none_yet : (cap : ℕ) → IsOnce (no_keys cap)
none_yet cap key = omega arith

none_put : {V : Type 0} (cap : ℕ) → [] ≡ last_of {V = V} cap []
none_put zero = refl
none_put (suc n) = refl

-- as they are
as_they_are : (es : List (List ℕ × Written)) → map (told (λ (w : Written). w)) es ≡ es
as_they_are [] = refl
as_they_are (e ∷ es) = ap (λ xs. e ∷ xs) (as_they_are es)

pub all_are_last : LastAreRemembered
all_are_last cap calls k h =
    let is = run (λ (w : Written). w) cap [] (no_keys cap) calls k
    (record { cap_is = refl; last = none_put cap; once = none_yet cap }) h in
    record {
      last = sym (as_they_are k.written) ∙ is.last
          ∙ ap (last_of cap) (append-nil (map (told (λ (w : Written). w)) (all_added calls)) ∙ as_they_are (all_added calls));
      once = is.once;
    }
