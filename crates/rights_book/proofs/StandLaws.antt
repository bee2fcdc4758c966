-- The logs that a book represents.
use Rattle.std.proofs.Common.{◌≡◌, ◌≢◌, ℕ, ◌+◌, ◌≤◌, pos, ◌-ℤ◌, Bool, true, false, cond, eqb, List, [], ◌∷◌, ◌++◌, inl}
use Rattle.std.proofs.Common.{inr, refl, sym, ap, ◌∙◌, subst, arith}
use Rattle.std.specs.List.{All}
use Rattle.std.proofs.lemmas.Int.{ints}
use Rattle.std.proofs.lemmas.Bool.{eq-eqb, eqb-true, ne_eqb, cases_eq}
use Rattle.std.proofs.lemmas.List.Elements.{All-append, All-nil}
use Rattle.rights_types.specs.Entries.{EntryValue}
use Rattle.rights_types.specs.Chains.{moves_of, AddsEntry}
use Rattle.rights_types.specs.Moves.{IsMove, NamesWithin}
use Rattle.rights_types.specs.Rights.{issued, spent, out, to, taken_back, covers, rights_after, received, held}
use Rattle.rights_types.specs.Rights.{IsNeverShort}
use Rattle.rights_types.specs.declared.moves.Move.{Move}
use Rattle.rights_types.proofs.SiteSums.{sum_same, sum_zero, sum_risen}
use Rattle.rights_types.proofs.Sums.{moves_of-nil, moves_of-push, to-append, back-append, to-nil, taken_back_is}
use Rattle.rights_types.proofs.Sums.{rights_after_is, covers-append, covers-more, never_short, back-nil}
use Rattle.rights_book.specs.Accounts.{account_of}
use Rattle.rights_book.specs.Peers.{no_peer, with_own}
use Rattle.rights_book.specs.Books.{BookValue, sites, peer, account, received_by, held_by, known_by, new_book, Writes}
use Rattle.rights_book.specs.Books.{Applies, IsBook}
use Rattle.rights_book.specs.Known.{logs_at, known_gifts, known}
use Rattle.rights_book.specs.StandsFor.{StandsForOwn, StandsForApplied, StandsFor, own_entry}
use Rattle.rights_book.specs.declared.account.Account.{Account}
use Rattle.rights_book.specs.declared.peer.Peer.{Peer}
use Rattle.rights_book.specs.declared.sums.SiteSums.{SiteSums}
use Rattle.rights_book.specs.Sums.{sums_by, sums_of}
use Rattle.rights_book.proofs.AccountLaws.{account_of-nil, account_of-push}
use Rattle.rights_book.proofs.CheckLaws.{IsChecked, named_within}
use Rattle.rights_book.proofs.BookLaws.{new_peer, IsApplied, received_risen}

-- ---- at the start

no_gift : (b : Bool) (j : ℕ) → cond b 0 (to j (moves_of [])) ≡ 0
no_gift true j = refl
no_gift false j = rw moves_of-nil (to-nil j)

no_gifts : (n j : ℕ) → known_gifts n j (λ o. []) ≡ 0
no_gifts n j = sum_same n (λ o. cond (eqb o j) 0 (to j (moves_of []))) (λ o. 0) (λ o low high. no_gift (eqb o j) j)
    ∙ sum_zero n

pub new_stands : (me n : ℕ) → StandsFor [] (λ o. []) (new_book me n)
new_stands me n =
    let b : BookValue = new_book me n in
    let empty : (j : ℕ) → peer b j ≡ no_peer = new_peer n in
    record {
      of_own = record {
        sums = sym account_of-nil;
        given_are = λ j. ap (λ (p : Peer). p.given) (empty j) ∙ sym (rw moves_of-nil (to-nil j));
        back_are = λ j. ap (λ (p : Peer). p.back) (empty j) ∙ sym (rw moves_of-nil (back-nil j));
        named = rw moves_of-nil (All-nil (NamesWithin (sites b)));
        covered = rw moves_of-nil refl;
      };
      of_applied = record {
        sums = λ o. ap (λ (p : Peer). p.log) (empty o) ∙ sym account_of-nil;
        received_are = λ o. ap (λ (p : Peer). p.received) (empty o) ∙ sym (rw moves_of-nil (to-nil me));
        gifts_are = λ j low high. ap (λ (p : Peer). p.gifts) (empty j) ∙ sym (no_gifts (sites b) j);
        none_own = refl;
      };
    }

-- ---- moves of the book's own site

-- what its log leaves of the rights is what the book's site holds
left_is_held : (b : BookValue) (log : List EntryValue) → StandsForOwn log b
    → rights_after (received_by b) (moves_of log) ≡ held_by b
left_is_held b log s =
    omega (
      arith,
      rights_after_is (received_by b) (moves_of log) s.covered,
      ap (λ (a : Account). a.issued) s.sums,
      ap (λ (a : Account). a.spent) s.sums,
      ap (λ (a : Account). a.given) s.sums,
      ap (λ (a : Account). a.back) s.sums,
    )

pub own_written : (old new : BookValue) (ms : List Move) (log : List EntryValue) → IsChecked old ms → All IsMove ms
    → old.own.closed ≡ false → Writes old ms new
    → StandsForOwn log old → StandsForOwn (log ++ own_entry old ms ∷ []) new
own_written old new ms log checked ranges unclosed w s =
    let e : EntryValue = own_entry old ms in
    let pushed : moves_of (log ++ e ∷ []) ≡ moves_of log ++ ms = moves_of-push log e in
    let received_same : received_by new ≡ received_by old
    = ap (λ (p : Peer). p.gifts) (w.each new.me ∙ ap (λ k. with_own (peer old k) k ms) w.same_me) in
    record {
      sums = w.writes ∙ account_of-push log e old.own s.sums refl unclosed;
      given_are = λ j. rw pushed
          (omega (arith, ap (λ (p : Peer). p.given) (w.each j), s.given_are j, to-append j (moves_of log) ms));
      back_are = λ j. rw pushed
          (omega (arith, ap (λ (p : Peer). p.back) (w.each j), s.back_are j, back-append j (moves_of log) ms));
      named = rw (w.same_sites, pushed)
          (All-append (NamesWithin (sites old)) (moves_of log) ms s.named
          (named_within (sites old) ms ranges checked.within));
      covered = rw (received_same, pushed)
          (covers-append (received_by old) (moves_of log) ms s.covered (rw (left_is_held old log s) checked.covered));
    }

pub applied_written : (old new : BookValue) (ms : List Move) (applied : ℕ → List EntryValue) → Writes old ms new
    → StandsForApplied applied old → StandsForApplied applied new
applied_written old new ms applied w s = record {
  sums = λ o. ap (λ (p : Peer). p.log) (w.each o) ∙ s.sums o;
  received_are = λ o. rw w.same_me (ap (λ (p : Peer). p.received) (w.each o) ∙ s.received_are o);
  gifts_are = λ j low high. ap (λ (p : Peer). p.gifts) (w.each j)
      ∙ s.gifts_are j low (omega (arith, high, w.same_sites)) ∙ ap (λ n. known_gifts n j applied) (sym w.same_sites);
  none_own = rw w.same_me s.none_own;
}

-- ---- moves of another site

pub own_applied : (old new : BookValue) (o : ℕ) (ms : List Move) (log : List EntryValue) → IsBook old → o ≢ old.me
    → Applies old o ms new → IsApplied old o ms new
    → StandsForOwn log old → StandsForOwn log new
own_applied old new o ms log is other a f s = record {
  sums = a.same_own ∙ s.sums;
  given_are = λ j. f.given_same j ∙ s.given_are j;
  back_are = λ j. f.back_same j ∙ s.back_are j;
  named = rw a.same_sites s.named;
  covered = covers-more (received_by old) (received_by new) (moves_of log)
      (omega (arith, received_risen old new o ms is other a f)) s.covered;
}

gift_more : (b : Bool) (x y z : ℕ) → x ≡ y + z → b ≡ false → cond b 0 x ≡ cond b 0 y + z
gift_more true x y z h isnt = absurd cc
gift_more false x y z h isnt = h

pub applied_applied : (old new : BookValue) (o : ℕ) (e : EntryValue) (applied later : ℕ → List EntryValue) → IsBook old
    → 1 ≤ o → o ≤ sites old → o ≢ old.me
    → (peer old o).log.closed ≡ false → e.prev ≡ (peer old o).log.end → Applies old o e.moves new
    → IsApplied old o e.moves new
    → StandsForApplied applied old → AddsEntry applied o e later → StandsForApplied later new
applied_applied old new o e applied later is low high other unclosed next a f s adds =
    let n : ℕ = sites old in
    let more : (j : ℕ) → to j (moves_of (later o)) ≡ to j (moves_of (applied o)) + to j e.moves =
    λ j. rw adds.there (ap (to j) (moves_of-push (applied o) e) ∙ to-append j (moves_of (applied o)) e.moves) in
    let elsewhere : (j k : ℕ) → k ≢ o
    → cond (eqb k j) 0 (to j (moves_of (later k))) ≡ cond (eqb k j) 0 (to j (moves_of (applied k))) =
    λ j k ne. ap (λ (es : List EntryValue). cond (eqb k j) 0 (to j (moves_of es))) (adds.elsewhere k ne) in
    let gifts : (j : ℕ) → 1 ≤ j → j ≤ n → (peer new j).gifts ≡ known_gifts n j later = λ j l h.
    elim (cases_eq j o) [
      | inl same ↦
          let at_o : cond (eqb o j) 0 (to j (moves_of (later o))) ≡ cond (eqb o j) 0 (to j (moves_of (applied o)))
          = rw (eq-eqb o j (sym same)) refl in
          let terms : (k : ℕ) → cond (eqb k j) 0 (to j (moves_of (later k)))
          ≡ cond (eqb k j) 0 (to j (moves_of (applied k))) = λ k. elim (cases_eq k o) [
            | inl here ↦ subst (λ i. cond (eqb i j) 0 (to j (moves_of (later i)))
                ≡ cond (eqb i j) 0 (to j (moves_of (applied i)))) (sym here) at_o
            | inr ne ↦ elsewhere j k ne
          ] in
          ap (λ k. (peer new k).gifts) same ∙ f.gifts_here ∙ ap (λ k. (peer old k).gifts) (sym same) ∙ s.gifts_are j l h
          ∙ sym (sum_same n (λ k. cond (eqb k j) 0 (to j (moves_of (later k))))
          (λ k. cond (eqb k j) 0 (to j (moves_of (applied k)))) (λ k lo hi. terms k))
      | inr ne ↦
          let at_o : cond (eqb o j) 0 (to j (moves_of (later o))) ≡ cond (eqb o j) 0 (to j (moves_of (applied o)))
          + to j e.moves =
          gift_more (eqb o j) _ _ (to j e.moves) (more j) (ne_eqb o j (λ q. ne (sym q))) in
          let risen : known_gifts n j later ≡ known_gifts n j applied + to j e.moves =
          sum_risen n o (to j e.moves) (λ k. cond (eqb k j) 0 (to j (moves_of (applied k))))
          (λ k. cond (eqb k j) 0 (to j (moves_of (later k)))) low high (elsewhere j) at_o in
          omega (arith, f.gifts_other j ne l h, s.gifts_are j l h, risen)
    ] in
    record {
      sums = λ k. elim (cases_eq k o) [
        | inl here ↦ subst (λ i. (peer new i).log ≡ account_of (later i)) (sym here)
            (f.log_here ∙ account_of-push (applied o) e (peer old o).log (s.sums o) next unclosed
            ∙ ap account_of (sym adds.there))
        | inr ne ↦ f.log_other k ne ∙ s.sums k ∙ ap account_of (sym (adds.elsewhere k ne))
      ];
      received_are = λ k. rw a.same_me (elim (cases_eq k o) [
        | inl here ↦ subst (λ i. (peer new i).received ≡ to old.me (moves_of (later i))) (sym here)
            (omega (arith, f.received_here, s.received_are o, more old.me))
        | inr ne ↦ f.received_other k ne ∙ s.received_are k
            ∙ ap (λ (es : List EntryValue). to old.me (moves_of es)) (sym (adds.elsewhere k ne))
      ]);
      gifts_are = λ j l h. gifts j l (omega (arith, h, a.same_sites))
          ∙ ap (λ k. known_gifts k j later) (sym a.same_sites);
      none_own = rw a.same_me (adds.elsewhere old.me (λ q. other (sym q)) ∙ s.none_own);
    }

-- ---- what the readers answer

one_received : (b : Bool) (s : ℕ) (es : List EntryValue) → (b ≡ true → es ≡ [])
    → cond b 0 (to s (moves_of es)) ≡ to s (moves_of es)
one_received true s es none = sym (rw (none refl, moves_of-nil) (to-nil s))
one_received false s es none = refl

-- what the others gave to a site of whose log nothing was applied is what it received
received_is_known : (n s : ℕ) (applied : ℕ → List EntryValue) → applied s ≡ []
    → known_gifts n s applied ≡ received n s applied
unfolding received
received_is_known n s applied none =
    sum_same n (λ o. cond (eqb o s) 0 (to s (moves_of (applied o)))) (λ o. to s (moves_of (applied o)))
    (λ o low high. one_received (eqb o s) s (applied o) (λ e. ap applied (eqb-true o s e) ∙ none))

pub received_stands : (b : BookValue) (applied : ℕ → List EntryValue) → IsBook b → StandsForApplied applied b
    → received_by b ≡ received (sites b) b.me applied
received_stands b applied is s = s.gifts_are b.me is.member.0 is.member.1
    ∙ received_is_known (sites b) b.me applied s.none_own

pub held_stands : (b : BookValue) (log : List EntryValue) (applied : ℕ → List EntryValue) → IsBook b
    → StandsFor log applied b → held_by b ≡ held (sites b) b.me log applied
unfolding held
held_stands b log applied is s =
    let ms : List Move = moves_of log in
    let own = s.of_own.sums in
    omega (
      arith,
      received_stands b applied is s.of_applied,
      taken_back_is (sites b) ms s.of_own.named,
      ap (λ (a : Account). a.issued) own,
      ap (λ (a : Account). a.spent) own,
      ap (λ (a : Account). a.given) own,
      ap (λ (a : Account). a.back) own,
    )

pub never_short_stands : (b : BookValue) (log : List EntryValue) (applied : ℕ → List EntryValue) → IsBook b
    → StandsFor log applied b
    → IsNeverShort (sites b) (received (sites b) b.me applied) (moves_of log)
never_short_stands b log applied is s =
    let covered : covers (received (sites b) b.me applied) (moves_of log) ≡ true
    = subst (λ r. covers r (moves_of log) ≡ true) (received_stands b applied is s.of_applied) s.of_own.covered in
    never_short (sites b) (received (sites b) b.me applied) (moves_of log) covered s.of_own.named

gift_me : (b : Bool) (s : ℕ) (log es : List EntryValue)
    → cond b 0 (to s (moves_of (cond b log es))) ≡ cond b 0 (to s (moves_of es))
gift_me true s log es = refl
gift_me false s log es = refl

-- two logs differ at most at that of the site itself, which gives nothing to itself
gifts_me : (n me : ℕ) (log : List EntryValue) (applied : ℕ → List EntryValue)
    → known_gifts n me (logs_at me log applied) ≡ known_gifts n me applied
gifts_me n me log applied =
    sum_same n (λ o. cond (eqb o me) 0 (to me (moves_of (logs_at me log applied o))))
    (λ o. cond (eqb o me) 0 (to me (moves_of (applied o))))
    (λ o low high. gift_me (eqb o me) me log (applied o))

-- the site itself gives to another site
gifts_other : (n me j : ℕ) (log : List EntryValue) (applied : ℕ → List EntryValue) → 1 ≤ me → me ≤ n → j ≢ me
    → applied me ≡ []
    → known_gifts n j (logs_at me log applied) ≡ known_gifts n j applied + to j (moves_of log)
gifts_other n me j log applied low high ne none =
    let f : ℕ → ℕ = λ k. cond (eqb k j) 0 (to j (moves_of (applied k))) in
    let g : ℕ → ℕ = λ k. cond (eqb k j) 0 (to j (moves_of (logs_at me log applied k))) in
    let mine : logs_at me log applied me ≡ log = rw (eq-eqb me me refl) refl in
    let others : (k : ℕ) → k ≢ me → g k ≡ f k = λ k no.
    (let theirs : logs_at me log applied k ≡ applied k = rw (ne_eqb k me no) refl in
    ap (λ (es : List EntryValue). cond (eqb k j) 0 (to j (moves_of es))) theirs) in
    let nothing : to j (moves_of (applied me)) ≡ 0 = rw (none, moves_of-nil) (to-nil j) in
    let all : to j (moves_of (logs_at me log applied me)) ≡ to j (moves_of (applied me)) + to j (moves_of log) =
    omega (arith, nothing, ap (λ (es : List EntryValue). to j (moves_of es)) mine) in
    let here : g me ≡ f me + to j (moves_of log)
    = gift_more (eqb me j) _ _ (to j (moves_of log)) all (ne_eqb me j (λ q. ne (sym q))) in
    sum_risen n me (to j (moves_of log)) f g low high others here

same_difference : (x y u v : ℕ) → x ≡ u → y ≡ v → pos x -ℤ pos y ≡ pos u -ℤ pos v
same_difference x y u v p q = ap (λ n. pos n -ℤ pos y) p ∙ ap (λ n. pos u -ℤ pos n) q

-- an account and the gifts beside it
known_from : (a : Account) (p : Peer) (n j : ℕ) (logs : ℕ → List EntryValue) → a ≡ account_of (logs j)
    → p.gifts + p.given ≡ known_gifts n j logs
    → pos (a.issued + p.gifts + p.given + a.back) -ℤ pos (a.given + a.spent) ≡ known n j logs
unfolding known
known_from a p n j logs its all =
    let ms : List Move = moves_of (logs j) in
    same_difference (a.issued + p.gifts + p.given + a.back) (a.given + a.spent)
    (issued ms + known_gifts n j logs + taken_back ms) (out ms + spent ms)
    (omega (arith, ap (λ (x : Account). x.issued) its, ap (λ (x : Account). x.back) its, all))
    (omega (arith, ap (λ (x : Account). x.given) its, ap (λ (x : Account). x.spent) its))

-- each account is that of a log
pub account_stands : (b : BookValue) (log : List EntryValue) (applied : ℕ → List EntryValue) (j : ℕ)
    → StandsFor log applied b
    → account b j ≡ account_of (logs_at b.me log applied j)
account_stands b log applied j s =
    elim (cases_eq j b.me) [
      | inl here ↦ rw (eq-eqb j b.me here) s.of_own.sums
      | inr ne ↦ rw (ne_eqb j b.me ne) (s.of_applied.sums j)
    ]

-- what was given to a site is what the logs say
given_to_me : (b : BookValue) (log : List EntryValue) (applied : ℕ → List EntryValue) (j : ℕ) → IsBook b
    → StandsFor log applied b → j ≡ b.me
    → (peer b j).gifts + (peer b j).given ≡ known_gifts (sites b) j (logs_at b.me log applied)
given_to_me b log applied j is s here =
    let n : ℕ = sites b in
    let logs : ℕ → List EntryValue = logs_at b.me log applied in
    let given : (peer b j).given ≡ 0 = ap (λ k. (peer b k).given) here ∙ is.nothing_given in
    let gifts : (peer b j).gifts ≡ known_gifts n j applied
    = s.of_applied.gifts_are j (omega (arith, here, is.member.0)) (omega (arith, here, is.member.1)) in
    let all : known_gifts n j logs ≡ known_gifts n j applied
    = subst (λ k. known_gifts n k logs ≡ known_gifts n k applied) (sym here) (gifts_me n b.me log applied) in
    omega (arith, given, gifts, all)

given_to_other : (b : BookValue) (log : List EntryValue) (applied : ℕ → List EntryValue) (j : ℕ) → IsBook b
    → StandsFor log applied b → 1 ≤ j → j ≤ sites b → j ≢ b.me
    → (peer b j).gifts + (peer b j).given ≡ known_gifts (sites b) j (logs_at b.me log applied)
given_to_other b log applied j is s low high ne =
    let all = gifts_other (sites b) b.me j log applied is.member.0 is.member.1 ne s.of_applied.none_own in
    omega (arith, s.of_own.given_are j, s.of_applied.gifts_are j low high, all)

given_stands : (b : BookValue) (log : List EntryValue) (applied : ℕ → List EntryValue) (j : ℕ) → IsBook b
    → StandsFor log applied b → 1 ≤ j → j ≤ sites b
    → (peer b j).gifts + (peer b j).given ≡ known_gifts (sites b) j (logs_at b.me log applied)
given_stands b log applied j is s low high =
    elim (cases_eq j b.me) [
      | inl here ↦ given_to_me b log applied j is s here
      | inr ne ↦ given_to_other b log applied j is s low high ne
    ]

pub known_stands : (b : BookValue) (log : List EntryValue) (applied : ℕ → List EntryValue) (j : ℕ) → IsBook b
    → StandsFor log applied b → 1 ≤ j → j ≤ sites b
    → known_by b j ≡ known (sites b) j (logs_at b.me log applied)
known_stands b log applied j is s low high =
    known_from (account b j) (peer b j) (sites b) j (logs_at b.me log applied) (account_stands b log applied j s)
    (given_stands b log applied j is s low high)

-- the sums of a site, by its account and what was given to it
abbrev sums_from : ℕ → Account → ℕ → SiteSums
sums_from j a received = record {
  site = j;
  end = a.end;
  issued = a.issued;
  spent = a.spent;
  given = a.given;
  received = received;
  taken_back = a.back;
  closed = a.closed;
}

same_sums : (j : ℕ) {a b : Account} {r s : ℕ} → a ≡ b → r ≡ s → sums_from j a r ≡ sums_from j b s
same_sums j {a} {b} {r} {s} its given = ap (λ x. sums_from j x r) its ∙ ap (λ x. sums_from j b x) given

pub sums_stand : (b : BookValue) (log : List EntryValue) (applied : ℕ → List EntryValue) (j : ℕ) → IsBook b
    → StandsFor log applied b → 1 ≤ j → j ≤ sites b
    → sums_by b j ≡ sums_of (sites b) j (logs_at b.me log applied)
sums_stand b log applied j is s low high =
    same_sums j (account_stands b log applied j s) (given_stands b log applied j is s low high)

-- what the book's site knows of itself is what it holds
pub held_known : (b : BookValue) → IsBook b → pos (held_by b) ≡ known_by b b.me
held_known b is =
    let its : account b b.me ≡ b.own = rw (eq-eqb b.me b.me refl) refl in
    rw its (omega (arith, ints, is.not_negative, is.nothing_given))

pub held_known_stands : (b : BookValue) (log : List EntryValue) (applied : ℕ → List EntryValue) → IsBook b
    → StandsFor log applied b
    → pos (held_by b) ≡ known (sites b) b.me (logs_at b.me log applied)
held_known_stands b log applied is s = held_known b is ∙ known_stands b log applied b.me is s is.member.0 is.member.1
