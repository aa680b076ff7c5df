-- The buckets of bars that were pushed one after the other rise, and so do their bars.
use Rattle.std.proofs.Common.{ℕ, suc, ℤ, ◌≤ℤ◌, ◌<ℤ◌, false, cond, not, ◌≡◌, List, [], ◌∷◌, map, Option, Some, None, refl, sym, ap, ◌∙◌, subst, All, arith, inl, inr}
use Rattle.std.specs.List.{AllPairs, cons_option, filter, filter_map}
use Rattle.std.specs.Ordering.{int_eq}
use Rattle.std.proofs.lemmas.Bool.{cases_Bool, true≢false}
use Rattle.std.proofs.lemmas.Bool.Decides.{Decides-int_eq}
use Rattle.std.proofs.lemmas.Int.{ints, by_lt_z}
use Rattle.std.proofs.lemmas.List.Elements.{All-nil, All-cons, All-head, All-tail, All-map, All-weaker, All-filter}
use Rattle.std.proofs.lemmas.List.Kept.{AllPairs-cons, AllPairs-filter}
use Rattle.lean_items.specs.declared.bar.Bar.{Bar}
use Rattle.consolidators.specs.Buckets.{bucket_start, bucket_end, bucket_of, made_from, made_of, bucket, distinct, buckets, is_complete_at, given}
use Rattle.consolidators.specs.Pushed.{IsPeriod, IsPushed, ArePushed}
use Rattle.consolidators.proofs.Minutes.{bucket_end-le, bucket_at-le}

-- the first of a list and each later one, and the later ones among themselves
pairs-head : {X : Type 0} (R : X → X → Type 0) (x : X) (xs : List X) → AllPairs R (x ∷ xs) → All (R x) xs
pairs-head R x xs pairs = λ k d within. pairs 0 (suc k) d (omega arith) (omega arith)

pairs-tail : {X : Type 0} (R : X → X → Type 0) (x : X) (xs : List X) → AllPairs R (x ∷ xs) → AllPairs R xs
pairs-tail R x xs pairs = λ i j d before within. pairs (suc i) (suc j) d (omega arith) (omega arith)

pairs-none : {X : Type 0} (R : X → X → Type 0) → AllPairs R []
pairs-none R = λ i j d before within. absurd (omega arith)

all-distinct : (P : ℤ → Type 0) (ks : List ℤ) → All P ks → All P (distinct ks)
all-distinct P [] all = all
all-distinct P (k ∷ ks) all =
    All-cons P k (filter (λ j. not (int_eq j k)) (distinct ks)) (All-head P k ks all)
    (All-filter (λ j. not (int_eq j k)) P (distinct ks) (all-distinct P ks (All-tail P k ks all)))

-- a number that is not less and not the same is greater
above : (k : ℤ) (js : List ℤ) → All (λ j. k ≤ℤ j) js → All (λ j. k <ℤ j) (filter (λ j. not (int_eq j k)) js)
above k [] all = All-nil (λ j. k <ℤ j)
above k (j ∷ js) all =
    let rest = above k js (All-tail (λ i. k ≤ℤ i) j js all) in
    let least : k ≤ℤ j = All-head (λ i. k ≤ℤ i) j js all in
    let others : List ℤ = filter (λ i. not (int_eq i k)) js in
    elim (cases_Bool (int_eq j k)) [
      | inl same ↦ subst (λ b. All (λ i. k <ℤ i) (cond (not b) (j ∷ others) others)) (sym same) rest
      | inr other ↦
          subst (λ b. All (λ i. k <ℤ i) (cond (not b) (j ∷ others) others)) (sym other)
          (All-cons (λ i. k <ℤ i) j others (apart k j least other) rest)
    ]
  where
    apart : (k j : ℤ) → k ≤ℤ j → int_eq j k ≡ false → k <ℤ j
    apart k j le other = by_lt_z k j (λ less. less) (λ ge. absurd (true≢false (sym ((Decides-int_eq j k).1 (omega (arith, ints))) ∙ other)))

pub numbers-rise : (p : ℕ) (bars : List Bar) → IsPeriod p → All (IsPushed p) bars
    → AllPairs (λ earlier bar. earlier.end.0 ≤ℤ bar.start.0) bars → AllPairs (λ earlier k. earlier <ℤ k) (buckets p bars)
numbers-rise p [] period each order = pairs-none (λ earlier k. earlier <ℤ k)
numbers-rise p (bar ∷ bars) period each order =
    let k : ℤ = bucket_of p bar in
    let follow : Bar → Bar → Type 0 = λ earlier later. earlier.end.0 ≤ℤ later.start.0 in
    let after : bar.start.0 <ℤ bar.end.0 = (All-head (IsPushed p) bar bars each).after in
    let later : All (λ j. k ≤ℤ j) (map (bucket_of p) bars) =
    All-map (λ j. k ≤ℤ j) (bucket_of p) bars
    (All-weaker (λ (b : Bar). bar.end.0 ≤ℤ b.start.0) (λ (b : Bar). k ≤ℤ bucket_of p b)
    (λ b le. bucket_at-le p bar.start.0 b.start.0 period.0 (omega (arith, ints))) bars (pairs-head follow bar bars order)) in
    AllPairs-cons (λ earlier j. earlier <ℤ j) k (filter (λ j. not (int_eq j k)) (buckets p bars))
    (above k (buckets p bars) (all-distinct (λ j. k ≤ℤ j) (map (bucket_of p) bars) later))
    (AllPairs-filter (λ earlier j. earlier <ℤ j) (λ j. not (int_eq j k)) (buckets p bars)
    (numbers-rise p bars period (All-tail (IsPushed p) bar bars each) (pairs-tail follow bar bars order)))

-- the bar of a bucket begins and ends with it
spans : (p : ℕ) (bars : List Bar) (k : ℤ) (bar : Bar) → bucket p bars k ≡ Some bar → (bar.start.0 ≡ bucket_start p k) × (bar.end.0 ≡ bucket_end p k)
spans p bars k bar is = made (bucket_start p k) (bucket_end p k) (filter (λ b. int_eq (bucket_of p b) k) bars) bar is
  where
    made : (s e : ℤ) (bars : List Bar) (bar : Bar) → made_of s e bars ≡ Some bar → (bar.start.0 ≡ s) × (bar.end.0 ≡ e)
    made s e [] bar is = absurd (cc)
    made s e (first ∷ others) bar is =
        let whole : made_from s e first others ≡ bar = cc in
        (sym (ap (λ (b : Bar). b.start.0) whole), sym (ap (λ (b : Bar). b.end.0) whole))

all-cons_option : (P : Bar → Type 0) (o : Option Bar) (xs : List Bar) → ((bar : Bar) → o ≡ Some bar → P bar) → All P xs → All P (cons_option o xs)
all-cons_option P None xs here all = all
all-cons_option P (Some bar) xs here all = All-cons P bar xs (here bar refl) all

pairs-cons_option : (R : Bar → Bar → Type 0) (o : Option Bar) (xs : List Bar) → ((bar : Bar) → o ≡ Some bar → All (R bar) xs) → AllPairs R xs
    → AllPairs R (cons_option o xs)
pairs-cons_option R None xs here pairs = pairs
pairs-cons_option R (Some bar) xs here pairs = AllPairs-cons R bar xs (here bar refl) pairs

-- the bars of later buckets start behind this one
behind : (p : ℕ) (bars : List Bar) (k : ℤ) (ks : List ℤ) → All (λ j. k <ℤ j) ks
    → All (λ (b : Bar). bucket_end p k ≤ℤ b.start.0) (filter_map (bucket p bars) ks)
behind p bars k [] later = All-nil (λ (b : Bar). bucket_end p k ≤ℤ b.start.0)
behind p bars k (j ∷ ks) later =
    let far : bucket_end p k ≤ℤ bucket_start p j = bucket_end-le p k j (All-head (λ i. k <ℤ i) j ks later) in
    all-cons_option (λ (b : Bar). bucket_end p k ≤ℤ b.start.0) (bucket p bars j) (filter_map (bucket p bars) ks)
    (λ bar is. subst (λ start. bucket_end p k ≤ℤ start) (sym (spans p bars j bar is).0) far)
    (behind p bars k ks (All-tail (λ i. k <ℤ i) j ks later))

bars-rise : (p : ℕ) (bars : List Bar) (ks : List ℤ) → AllPairs (λ earlier k. earlier <ℤ k) ks
    → AllPairs (λ earlier bar. earlier.end.0 ≤ℤ bar.start.0) (filter_map (bucket p bars) ks)
bars-rise p bars [] rise = pairs-none (λ (earlier bar : Bar). earlier.end.0 ≤ℤ bar.start.0)
bars-rise p bars (k ∷ ks) rise =
    pairs-cons_option (λ earlier bar. earlier.end.0 ≤ℤ bar.start.0) (bucket p bars k) (filter_map (bucket p bars) ks)
    (λ bar is. subst (λ end. All (λ (b : Bar). end ≤ℤ b.start.0) (filter_map (bucket p bars) ks)) (sym (spans p bars k bar is).1)
    (behind p bars k ks (pairs-head (λ earlier j. earlier <ℤ j) k ks rise)))
    (bars-rise p bars ks (pairs-tail (λ earlier j. earlier <ℤ j) k ks rise))

pub buckets-rise : (p : ℕ) (bars : List Bar) → IsPeriod p → ArePushed p bars → AllPairs (λ earlier k. earlier <ℤ k) (buckets p bars)
buckets-rise p bars period pushed = numbers-rise p bars period pushed.each pushed.order

pub given-rise : (p : ℕ) (bars : List Bar) (t : ℤ) → IsPeriod p → ArePushed p bars
    → AllPairs (λ earlier bar. earlier.end.0 ≤ℤ bar.start.0) (given p bars t)
given-rise p bars t period pushed =
    bars-rise p bars (filter (is_complete_at p bars t) (buckets p bars))
    (AllPairs-filter (λ earlier k. earlier <ℤ k) (is_complete_at p bars t) (buckets p bars) (buckets-rise p bars period pushed))
