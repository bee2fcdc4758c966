-- Laws of the Bounded Counter alone.
use Rattle.std.proofs.Common.{◌≡◌, ◌≢◌, ℕ, ◌+◌, ◌≤◌, ◌⊎◌, inl, inr, List, [], ◌∷◌, arith, sym, ◌∙◌, subst}
use Rattle.std.proofs.lemmas.Bool.{cases_eq}
use Rattle.rights_types.specs.Rights.{sum_sites}
use Rattle.rights_types.specs.declared.moves.Move.{Move}
use Rattle.rights_types.specs.declared.moves.Move.TheVariants.{Issue, Spend, Grant, Give, Close, CloseAt, TakeBack}
use Rattle.rights_types.proofs.SiteSums.{sum_same, sum_add}
use Rattle.rights_protocol.specs.Lists.{IsSiteOf}
use Rattle.rights_protocol.specs.BoundedCounter.{Counter, incoming, outgoing, local_rights, all_created, all_consumed}
use Rattle.rights_protocol.specs.BoundedCounter.{OnlyEntry, OnlyUse, SameCounter, Increments, Decrements, Transfers}
use Rattle.rights_protocol.specs.BoundedCounter.{TakesBack, Operates, Operate, Operation, CounterRun, EmptyCounter}
use Rattle.rights_protocol.specs.BoundedCounter.{IsSafe}
use Rattle.rights_protocol.specs.CounterLaws.{OwnRow}
use Rattle.rights_protocol.proofs.CounterSums.{others_same, others_risen, others_zero, all_moved}

-- ---- where one entry changes

pub only_back : (a b : ℕ) (old new : Counter) → OnlyEntry a b old new → OnlyEntry a b new old
only_back a b old new k = record { R = λ i j h. sym (k.R i j h); U = λ i. sym (k.U i) }

apart : (i j a : ℕ) → i ≢ j → (i ≢ a) ⊎ (j ≢ a)
apart i j a ne = elim (cases_eq i a) [
  | inl e ↦ inr (λ f. ne (e ∙ sym f))
  | inr no_i ↦ inl no_i
]

-- the site's own entry: nothing is transferred
pub own_in : (n a k : ℕ) (old new : Counter) → OnlyEntry a a old new → incoming n new k ≡ incoming n old k
own_in n a k old new only = others_same n k (λ j. new.R j k) (λ j. old.R j k) (λ j of ne. only.R j k (apart j k a ne))

pub own_out : (n a k : ℕ) (old new : Counter) → OnlyEntry a a old new → outgoing n new k ≡ outgoing n old k
own_out n a k old new only
    = others_same n k (λ j. new.R k j) (λ j. old.R k j) (λ j of ne. only.R k j (apart k j a (λ e. ne (sym e))))

-- another entry
pub in_same : (n a b k : ℕ) (old new : Counter) → OnlyEntry a b old new → k ≢ b → incoming n new k ≡ incoming n old k
in_same n a b k old new only ne
    = others_same n k (λ j. new.R j k) (λ j. old.R j k) (λ j of apart_k. only.R j k (inr ne))

pub out_same : (n a b k : ℕ) (old new : Counter) → OnlyEntry a b old new → k ≢ a → outgoing n new k ≡ outgoing n old k
out_same n a b k old new only ne
    = others_same n k (λ j. new.R k j) (λ j. old.R k j) (λ j of apart_k. only.R k j (inl ne))

pub own_same : (a b k : ℕ) (old new : Counter) → OnlyEntry a b old new → b ≢ a → new.R k k ≡ old.R k k
own_same a b k old new only ne = only.R k k (elim (cases_eq k a) [
  | inl e ↦ inr (λ f. ne (sym f ∙ e))
  | inr apart_a ↦ inl apart_a
])

pub in_risen : (n a b rise : ℕ) (old new : Counter) → OnlyEntry a b old new → IsSiteOf n a → b ≢ a
    → new.R a b ≡ old.R a b + rise → incoming n new b ≡ incoming n old b + rise
in_risen n a b rise old new only site ne risen =
    others_risen n b a rise (λ j. old.R j b) (λ j. new.R j b) site (λ e. ne (sym e))
    (λ j apart_b apart_a. only.R j b (inl apart_a)) risen

pub out_risen : (n a b rise : ℕ) (old new : Counter) → OnlyEntry a b old new → IsSiteOf n b → b ≢ a
    → new.R a b ≡ old.R a b + rise → outgoing n new a ≡ outgoing n old a + rise
out_risen n a b rise old new only site ne risen =
    others_risen n a b rise (λ j. old.R a j) (λ j. new.R a j) site ne
    (λ j apart_a apart_b. only.R a j (inr apart_b)) risen

-- where only consumption changes
pub use_in : (n a k : ℕ) (old new : Counter) → OnlyUse a old new → incoming n new k ≡ incoming n old k
use_in n a k old new only = others_same n k (λ j. new.R j k) (λ j. old.R j k) (λ j of ne. only.R j k)

pub use_out : (n a k : ℕ) (old new : Counter) → OnlyUse a old new → outgoing n new k ≡ outgoing n old k
use_out n a k old new only = others_same n k (λ j. new.R k j) (λ j. old.R k j) (λ j of ne. only.R k j)

pub same_in : (n k : ℕ) (old new : Counter) → SameCounter old new → incoming n new k ≡ incoming n old k
same_in n k old new same = others_same n k (λ j. new.R j k) (λ j. old.R j k) (λ j of ne. same.R j k)

pub same_out : (n k : ℕ) (old new : Counter) → SameCounter old new → outgoing n new k ≡ outgoing n old k
same_out n k old new same = others_same n k (λ j. new.R k j) (λ j. old.R k j) (λ j of ne. same.R k j)

-- ---- local rights are not negative

-- k has given and consumed no more than it had
abbrev pub Covered : ℕ → Counter → ℕ → Type 0
Covered n c k = outgoing n c k + c.U k ≤ c.R k k + incoming n c k

covered_same : (n k : ℕ) (old new : Counter) → SameCounter old new → Covered n old k → Covered n new k
covered_same n k old new same h
    = omega (arith, same_in n k old new same, same_out n k old new same, same.R k k, same.U k, h)

covered_increment : (n i amount k : ℕ) (old new : Counter) → Increments i amount old new → Covered n old k
    → Covered n new k
covered_increment n i amount k old new op h =
    let own : old.R k k ≤ new.R k k = elim (cases_eq k i) [
      | inl e ↦ subst (λ j. old.R j j ≤ new.R j j) (sym e) (omega (arith, op.created))
      | inr ne ↦ omega (arith, op.others.R k k (inl ne))
    ] in
    omega (arith, own_in n i k old new op.others, own_out n i k old new op.others, op.others.U k, own, h)

covered_decrement : (n i amount k : ℕ) (old new : Counter) → Decrements n i amount old new → Covered n old k
    → Covered n new k
covered_decrement n i amount k old new op h = elim (cases_eq k i) [
  | inl e ↦
      let was : Covered n old i = subst (λ j. Covered n old j) e h in
      let now : Covered n new i
      = omega (
        arith,
        use_in n i i old new op.others,
        use_out n i i old new op.others,
        op.others.R i i,
        op.consumed,
        op.guard,
        was,
      ) in
      subst (λ j. Covered n new j) (sym e) now
  | inr ne ↦ omega (
    arith,
    use_in n i k old new op.others,
    use_out n i k old new op.others,
    op.others.R k k,
    op.others.U k ne,
    h,
  )
]

-- a transfer and a reclaiming: this amount goes from a site that has it to another
covered_giver : (n i j amount : ℕ) (old new : Counter) → Transfers n i j amount old new → Covered n old i
    → Covered n new i
covered_giver n i j amount old new op was =
    omega (
      arith,
      in_same n i j i old new op.others (λ e. op.differ (sym e)),
      out_risen n i j amount old new op.others op.site op.differ op.transferred,
      own_same i j i old new op.others op.differ,
      op.others.U i,
      op.guard,
      was,
    )

covered_receiver : (n i j amount : ℕ) (old new : Counter) → IsSiteOf n i → Transfers n i j amount old new
    → Covered n old j → Covered n new j
covered_receiver n i j amount old new site op was =
    omega (
      arith,
      in_risen n i j amount old new op.others site op.differ op.transferred,
      out_same n i j j old new op.others op.differ,
      own_same i j j old new op.others op.differ,
      op.others.U j,
      was,
    )

covered_third : (n a b k : ℕ) (old new : Counter) → OnlyEntry a b old new → b ≢ a → k ≢ a → k ≢ b → Covered n old k
    → Covered n new k
covered_third n a b k old new only ne apart_a apart_b h =
    omega (
      arith,
      in_same n a b k old new only apart_b,
      out_same n a b k old new only apart_a,
      own_same a b k old new only ne,
      only.U k,
      h,
    )

covered_transfer : (n i j amount k : ℕ) (old new : Counter) → IsSiteOf n i → Transfers n i j amount old new
    → Covered n old k → Covered n new k
covered_transfer n i j amount k old new site op h = elim (cases_eq k i) [
  | inl e ↦ subst (λ s. Covered n new s) (sym e)
      (covered_giver n i j amount old new op (subst (λ s. Covered n old s) e h))
  | inr apart_i ↦ elim (cases_eq k j) [
    | inl e ↦ subst (λ s. Covered n new s) (sym e)
        (covered_receiver n i j amount old new site op (subst (λ s. Covered n old s) e h))
    | inr apart_j ↦ covered_third n i j k old new op.others op.differ apart_i apart_j h
  ]
]

covered_taker : (n i j amount : ℕ) (old new : Counter) → TakesBack n i j amount old new → Covered n old i
    → Covered n new i
covered_taker n i j amount old new op was =
    let only : OnlyEntry i j new old = only_back i j old new op.others in
    omega (
      arith,
      in_same n i j i new old only (λ e. op.differ (sym e)),
      out_risen n i j amount new old only op.site op.differ (sym op.taken),
      own_same i j i new old only op.differ,
      only.U i,
      was,
    )

covered_loser : (n i j amount : ℕ) (old new : Counter) → IsSiteOf n i → TakesBack n i j amount old new → Covered n old j
    → Covered n new j
covered_loser n i j amount old new site op was =
    let only : OnlyEntry i j new old = only_back i j old new op.others in
    omega (
      arith,
      in_risen n i j amount new old only site op.differ (sym op.taken),
      out_same n i j j new old only op.differ,
      own_same i j j new old only op.differ,
      only.U j,
      op.guard,
      was,
    )

covered_take_back : (n i j amount k : ℕ) (old new : Counter) → IsSiteOf n i → TakesBack n i j amount old new
    → Covered n old k → Covered n new k
covered_take_back n i j amount k old new site op h = elim (cases_eq k i) [
  | inl e ↦ subst (λ s. Covered n new s) (sym e)
      (covered_taker n i j amount old new op (subst (λ s. Covered n old s) e h))
  | inr apart_i ↦ elim (cases_eq k j) [
    | inl e ↦ subst (λ s. Covered n new s) (sym e)
        (covered_loser n i j amount old new site op (subst (λ s. Covered n old s) e h))
    | inr apart_j ↦ covered_third n i j k old new op.others op.differ apart_i apart_j h
  ]
]

covered_move : (n i k : ℕ) (m : Move) (old new : Counter) → IsSiteOf n i → Operates n i m old new → Covered n old k
    → Covered n new k
covered_move n i k (Issue amount) old new site op h = covered_increment n i amount k old new op h
covered_move n i k (Spend amount) old new site op h = covered_decrement n i amount k old new op h
covered_move n i k (Grant j amount ask) old new site op h = covered_transfer n i j amount k old new site op h
covered_move n i k (Give j amount) old new site op h = covered_transfer n i j amount k old new site op h
covered_move n i k Close old new site op h = covered_same n k old new op h
covered_move n i k (CloseAt numbers) old new site op h = covered_same n k old new op h
covered_move n i k (TakeBack j amount) old new site op h = covered_take_back n i j amount k old new site op h

covered_run : (n k : ℕ) (ops : List Operation) (old new : Counter) → CounterRun n ops old new → Covered n old k
    → Covered n new k
covered_run n k [] old new run h = covered_same n k old new run h
covered_run n k (op ∷ ops) old new run h
    = covered_run n k ops run.1.0 new run.1.2 (covered_move n op.by k op.move old run.1.0 run.0 run.1.1 h)

-- ---- the whole

-- if no local rights are negative, the rest follows
pub safe_of : (n : ℕ) (c : Counter) → ((k : ℕ) → IsSiteOf n k → Covered n c k) → IsSafe n c
safe_of n c rights =
    let out : ℕ → ℕ = λ k. outgoing n c k + c.U k in
    let got : ℕ → ℕ = λ k. c.R k k + incoming n c k in
    let outs : sum_sites n out ≡ sum_sites n (outgoing n c) + all_consumed n c
    = sum_add n (outgoing n c) (λ k. c.U k) in
    let gots : sum_sites n got ≡ all_created n c + sum_sites n (incoming n c)
    = sum_add n (λ k. c.R k k) (incoming n c) in
    let moved : sum_sites n (incoming n c) ≡ sum_sites n (outgoing n c) = all_moved n c in
    let each : sum_sites n (λ k. local_rights n c k + out k) ≡ sum_sites n got =
    sum_same n (λ k. local_rights n c k + out k) got (λ k low high. omega (arith, rights k (low, high))) in
    let split : sum_sites n (λ k. local_rights n c k + out k) ≡ sum_sites n (local_rights n c) + sum_sites n out
    = sum_add n (local_rights n c) out in
    record {
      rights = rights;
      not_negative = omega (arith, each, split, outs, gots, moved);
      all_rights = omega (arith, each, split, outs, gots, moved);
    }

pub covered_empty : (n k : ℕ) (c : Counter) → EmptyCounter c → Covered n c k
covered_empty n k c empty =
    let out : outgoing n c k ≡ 0 = others_same n k (λ j. c.R k j) (λ j. 0) (λ j of ne. empty.R k j) ∙ others_zero n k in
    omega (arith, out, empty.U k)

pub counter_is_safe : (n : ℕ) (ops : List Operation) (start new : Counter) → EmptyCounter start
    → CounterRun n ops start new → IsSafe n new
counter_is_safe n ops start new empty run
    = safe_of n new (λ k of. covered_run n k ops start new run (covered_empty n k start empty))

-- ---- the own row

row_of_entry : (i j : ℕ) (old new : Counter) → OnlyEntry i j old new → OwnRow i old new
row_of_entry i j old new only = record { R = λ k b ne. only.R k b (inl ne); U = λ k ne. only.U k }

row_same : (i : ℕ) (old new : Counter) → SameCounter old new → OwnRow i old new
row_same i old new same = record { R = λ k b ne. same.R k b; U = λ k ne. same.U k }

row_move : (n i : ℕ) (m : Move) (old new : Counter) → Operates n i m old new → OwnRow i old new
row_move n i (Issue amount) old new op = row_of_entry i i old new op.others
row_move n i (Spend amount) old new op = record { R = λ k b ne. op.others.R k b; U = λ k ne. op.others.U k ne }
row_move n i (Grant j amount ask) old new op = row_of_entry i j old new op.others
row_move n i (Give j amount) old new op = row_of_entry i j old new op.others
row_move n i Close old new op = row_same i old new op
row_move n i (CloseAt numbers) old new op = row_same i old new op
row_move n i (TakeBack j amount) old new op = row_of_entry i j old new op.others

pub own_row : (n i : ℕ) (moves : List Move) (old new : Counter) → Operate n i moves old new → OwnRow i old new
own_row n i [] old new run = row_same i old new run
own_row n i (m ∷ ms) old new run =
    let first : OwnRow i old run.0 = row_move n i m old run.0 run.1 in
    let rest : OwnRow i run.0 new = own_row n i ms run.0 new run.2 in
    record { R = λ k j ne. rest.R k j ne ∙ first.R k j ne; U = λ k ne. rest.U k ne ∙ first.U k ne }
