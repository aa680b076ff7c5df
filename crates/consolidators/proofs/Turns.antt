-- What one bar more completes and leaves open.
use Rattle.std.proofs.Common.{ℕ, ◌<◌, ℤ, ◌≤ℤ◌, ◌<ℤ◌, Bool, true, false, cond, not, ◌&&◌, ◌||◌, ◌≡◌, List, [], ◌∷◌, ◌++◌, map, Option, Some, None, refl, sym, ap, ◌∙◌, subst, inl, inr, arith, get_or, append-nil}
use Rattle.std.specs.List.{All, cons_option, find, filter, filter_map, list_any}
use Rattle.std.specs.Option.{option_map_or}
use Rattle.std.specs.Ordering.{int_eq}
use Rattle.std.proofs.lemmas.Bool.{or_parts, or_right, or_from}
use Rattle.std.proofs.lemmas.Cmp.{int_eq_equiv}
use Rattle.std.proofs.lemmas.Int.{ints}
use Rattle.std.proofs.lemmas.List.{map-append}
use Rattle.std.proofs.lemmas.List.Elements.{filter-append, filter_agree, All-head, All-tail}
use Rattle.std.proofs.lemmas.List.Folds.{list_any-append, list_any_none}
use Rattle.std.proofs.lemmas.List.Sums.{fold_push}
use Rattle.std.specs.Int.RustNames.{int_lt}
use Rattle.lean_fixed.specs.declared.money.Price.{Price}
use Rattle.lean_fixed.specs.declared.money.Shares.{Shares}
use Rattle.lean_items.specs.declared.bar.Bar.{Bar}
use Rattle.consolidators.specs.Buckets.{bucket_start, bucket_end, bucket_of, greater, lesser, total, made_from, made_of, bucket, completes, is_complete_at, distinct, buckets, open_buckets}
use Rattle.consolidators.specs.Joined.{joined}
use Rattle.consolidators.specs.Left.{Leaves, Turns}
use Rattle.consolidators.specs.Pushed.{IsPushed}
use Rattle.consolidators.proofs.Minutes.{bucket_end-at, bucket_at-le, bucket_at-only, bucket-before}
use Rattle.consolidators.proofs.Numbers.{has, cases_int_eq, filter-both, has-filter, has-distinct, distinct-push}

-- a list that a function gives of some numbers, at each of them
pub filter_map-all : {X : Type 0} (f : ℤ → Option X) (ks : List ℤ) (xs : List X) → map f ks ≡ map Some xs → filter_map f ks ≡ xs
filter_map-all f [] [] e = refl
filter_map-all f [] (x ∷ xs) e = absurd (cc)
filter_map-all f (k ∷ ks) [] e = absurd (cc)
filter_map-all f (k ∷ ks) (x ∷ xs) e =
    let here : f k ≡ Some x = cc in
    let rest : map f ks ≡ map Some xs = cc in
    rw here (ap (λ ys. x ∷ ys) (filter_map-all f ks xs rest))

-- the bar of a bucket with one bar more
made_of-push : (s e : ℤ) (bars : List Bar) (h bar : Bar) → made_of s e bars ≡ Some h → made_of s e (bars ++ bar ∷ []) ≡ Some (joined h bar)
made_of-push s e [] h bar is = absurd (cc)
made_of-push s e (first ∷ others) h bar is =
    let here : made_from s e first others ≡ h = cc in
    let high = fold_push (λ (x : Price) (b : Bar). greater x b.high) first.high others bar in
    let low = fold_push (λ (x : Price) (b : Bar). lesser x b.low) first.low others bar in
    let closing = fold_push (λ (x : Price) (b : Bar). b.closing) first.closing others bar in
    let volume = fold_push (λ (x : Shares) (b : Bar). total x b.volume) first.volume others bar in
    let real = fold_push (λ (x : Bool) (b : Bar). x || b.real) first.real others bar in
    rw (high, low, closing, volume, real) (ap (λ so_far. Some (joined so_far bar)) here)

-- no bar of a bucket in which none starts
unseen : (p : ℕ) (j : ℤ) (bars : List Bar) → has j (map (bucket_of p) bars) ≡ false → filter (λ bar. int_eq (bucket_of p bar) j) bars ≡ []
unseen p j [] e = refl
unseen p j (bar ∷ bars) e =
    let parts = or_parts (int_eq (bucket_of p bar) j) (has j (map (bucket_of p) bars)) e in
    let here : int_eq (bucket_of p bar) j ≡ false = parts.0 in
    rw here (unseen p j bars parts.1)

-- a bar that ends after all others is the first to complete a bucket where none of them does
complete-push : (p : ℕ) (k : ℤ) (bars : List Bar) (bar : Bar) → All (λ b. int_eq b.end.0 bar.end.0 ≡ false) bars
    → is_complete_at p (bars ++ bar ∷ []) bar.end.0 k ≡ (not (list_any (completes p k) bars) && completes p k bar)
complete-push p k [] bar others =
    elim (completes p k bar) as (λ c. option_map_or (λ b. int_eq b.end.0 bar.end.0) (cond c (Some bar) None) false ≡ c)
    [ true ↦ int_eq_equiv.refl bar.end.0 | false ↦ refl ]
complete-push p k (b ∷ bars) bar others =
    let earlier : int_eq b.end.0 bar.end.0 ≡ false = All-head (λ x. int_eq x.end.0 bar.end.0 ≡ false) b bars others in
    elim (completes p k b) as (λ c. option_map_or (λ x. int_eq x.end.0 bar.end.0) (cond c (Some b) (find (completes p k) (bars ++ bar ∷ []))) false
    ≡ (not (c || list_any (completes p k) bars) && completes p k bar))
    [ true ↦ earlier | false ↦ complete-push p k bars bar (All-tail (λ x. int_eq x.end.0 bar.end.0 ≡ false) b bars others) ]

-- ---- a bar that follows others

pub record Follows (p : ℕ) (bars : List Bar) (bar : Bar) : Type 0 where
  pub positive : 0 < p
  pub pushed : All (IsPushed p) bars
  pub ended : All (λ b. b.end.0 ≤ℤ bar.start.0) bars
  pub after : bar.start.0 <ℤ bar.end.0

not_below : (a b : ℤ) → b ≤ℤ a → int_lt a b ≡ false
not_below a b le = grind (arith, ints)

is_below : (a b : ℤ) → a <ℤ b → int_lt a b ≡ true
is_below a b lt = grind (arith, ints)

not_same : (a b : ℤ) → a <ℤ b → int_eq b a ≡ false
not_same a b lt =
    elim (cases_int_eq b a) [ inl same ↦ let e : b ≡ a = same.0 in absurd (omega (arith, ints)) | inr other ↦ other ]

not_yet : (p : ℕ) (b bar : Bar) → 0 < p → IsPushed p b → b.end.0 ≤ℤ bar.start.0 → completes p (bucket_of p bar) b ≡ false
not_yet p b bar positive pushed ended =
    let far : bar.start.0 <ℤ bucket_end p (bucket_of p bar) = bucket_end-at p bar.start.0 positive in
    let after : b.start.0 <ℤ b.end.0 = pushed.after in
    let before : b.end.0 <ℤ bucket_end p (bucket_of p bar) = omega (arith, ints) in
    let begins : b.start.0 ≤ℤ bar.start.0 = omega (arith, ints) in
    or_from _ _ (not_same b.end.0 (bucket_end p (bucket_of p bar)) before)
    (not_below (bucket_of p bar) (bucket_of p b) (bucket_at-le p b.start.0 bar.start.0 positive begins))

others_end : (bars : List Bar) (bar : Bar) → All (λ b. b.end.0 ≤ℤ bar.start.0) bars → bar.start.0 <ℤ bar.end.0 → All (λ b. int_eq b.end.0 bar.end.0 ≡ false) bars
others_end bars bar ended after k d within =
    let by : (get_or bars k d).end.0 ≤ℤ bar.start.0 = ended k d within in
    let below : (get_or bars k d).end.0 <ℤ bar.end.0 = omega (arith, ints) in
    int_eq_equiv.symm (get_or bars k d).end.0 bar.end.0 ∙ not_same (get_or bars k d).end.0 bar.end.0 below

-- the bucket in which the bar starts is completed by none of those before
open_here : (p : ℕ) (bars : List Bar) (bar : Bar) → Follows p bars bar → list_any (completes p (bucket_of p bar)) bars ≡ false
open_here p bars bar follows =
    list_any_none (completes p (bucket_of p bar)) bars
    (λ k d within. not_yet p _ bar follows.positive (follows.pushed k d within) (follows.ended k d within))

-- its bucket, where it is new
pub fresh : ℕ → List Bar → Bar → List ℤ
fresh p bars bar = cond (has (bucket_of p bar) (open_buckets p bars)) [] (bucket_of p bar ∷ [])

seen : (p : ℕ) (bars : List Bar) (bar : Bar) → Follows p bars bar
    → has (bucket_of p bar) (open_buckets p bars) ≡ has (bucket_of p bar) (map (bucket_of p) bars)
seen p bars bar follows =
    let j : ℤ = bucket_of p bar in
    has-filter j (λ k. not (list_any (completes p k) bars)) (buckets p bars)
    ∙ ap (λ c. not c && has j (buckets p bars)) (open_here p bars bar follows)
    ∙ has-distinct j (map (bucket_of p) bars)

buckets-push : (p : ℕ) (bars : List Bar) (bar : Bar) → Follows p bars bar → buckets p (bars ++ bar ∷ []) ≡ buckets p bars ++ fresh p bars bar
unfolding fresh
buckets-push p bars bar follows =
    let j : ℤ = bucket_of p bar in
    ap distinct (map-append (bucket_of p) bars (bar ∷ []))
    ∙ distinct-push (map (bucket_of p) bars) j
    ∙ ap (λ h. buckets p bars ++ cond h [] (j ∷ [])) (sym (seen p bars bar follows))

passes_alone : (j : ℤ) (q : ℤ → Bool) (h : Bool) → q j ≡ true → filter q (cond h [] (j ∷ [])) ≡ cond h [] (j ∷ [])
passes_alone j q true passes = refl
passes_alone j q false passes = ap (λ b. cond b (j ∷ []) []) passes

-- the buckets that are not complete, with the new one
still_open : (p : ℕ) (bars : List Bar) (bar : Bar) → Follows p bars bar
    → filter (λ k. not (list_any (completes p k) bars)) (buckets p (bars ++ bar ∷ [])) ≡ open_buckets p bars ++ fresh p bars bar
unfolding fresh
still_open p bars bar follows =
    let j : ℤ = bucket_of p bar in
    let q : ℤ → Bool = λ k. not (list_any (completes p k) bars) in
    ap (filter q) (buckets-push p bars bar follows)
    ∙ filter-append q (buckets p bars) (fresh p bars bar)
    ∙ ap (λ rest. open_buckets p bars ++ rest)
    (passes_alone j q (has j (open_buckets p bars)) (ap not (open_here p bars bar follows)))

-- the buckets that are given
pub given-push : (p : ℕ) (bars : List Bar) (bar : Bar) → Follows p bars bar
    → filter (is_complete_at p (bars ++ bar ∷ []) bar.end.0) (buckets p (bars ++ bar ∷ []))
    ≡ filter (λ k. completes p k bar) (open_buckets p bars ++ fresh p bars bar)
given-push p bars bar follows =
    let others : All (λ b. int_eq b.end.0 bar.end.0 ≡ false) bars = others_end bars bar follows.ended follows.after in
    filter_agree (is_complete_at p (bars ++ bar ∷ []) bar.end.0) (λ k. not (list_any (completes p k) bars) && completes p k bar)
    (λ k. complete-push p k bars bar others) (buckets p (bars ++ bar ∷ []))
    ∙ filter-both (λ k. not (list_any (completes p k) bars)) (λ k. completes p k bar) (buckets p (bars ++ bar ∷ []))
    ∙ ap (filter (λ k. completes p k bar)) (still_open p bars bar follows)

neither : (c d : Bool) → not (c || (d || false)) ≡ (not c && not d)
neither true d = refl
neither false true = refl
neither false false = refl

-- those that are left
pub open-push : (p : ℕ) (bars : List Bar) (bar : Bar) → Follows p bars bar
    → open_buckets p (bars ++ bar ∷ []) ≡ filter (λ k. not (completes p k bar)) (open_buckets p bars ++ fresh p bars bar)
open-push p bars bar follows =
    filter_agree (λ k. not (list_any (completes p k) (bars ++ bar ∷ []))) (λ k. not (list_any (completes p k) bars) && not (completes p k bar))
    (λ k. ap not (list_any-append (completes p k) bars (bar ∷ [])) ∙ neither (list_any (completes p k) bars) (completes p k bar))
    (buckets p (bars ++ bar ∷ []))
    ∙ filter-both (λ k. not (list_any (completes p k) bars)) (λ k. not (completes p k bar)) (buckets p (bars ++ bar ∷ []))
    ∙ ap (filter (λ k. not (completes p k bar))) (still_open p bars bar follows)

-- ---- what the next bar gives and leaves

append_none : (xs : List Bar) → xs ++ [] ≡ xs
append_none xs = append-nil xs

-- a bucket in which the bar does not start stays as it was
bucket-other : (p : ℕ) (bars : List Bar) (bar : Bar) (k : ℤ) → int_eq (bucket_of p bar) k ≡ false → bucket p (bars ++ bar ∷ []) k ≡ bucket p bars k
bucket-other p bars bar k other =
    let q : Bar → Bool = λ b. int_eq (bucket_of p b) k in
    ap (made_of (bucket_start p k) (bucket_end p k))
    (filter-append q bars (bar ∷ []) ∙ ap (λ c. filter q bars ++ cond c (bar ∷ []) []) other ∙ append_none (filter q bars))

bucket-new : (p : ℕ) (bars : List Bar) (bar : Bar) → has (bucket_of p bar) (map (bucket_of p) bars) ≡ false
    → bucket p (bars ++ bar ∷ []) (bucket_of p bar) ≡ bucket p (bar ∷ []) (bucket_of p bar)
bucket-new p bars bar new =
    let j : ℤ = bucket_of p bar in
    let q : Bar → Bool = λ b. int_eq (bucket_of p b) j in
    ap (made_of (bucket_start p j) (bucket_end p j))
    (filter-append q bars (bar ∷ []) ∙ ap (λ front. front ++ filter q (bar ∷ [])) (unseen p j bars new))

bucket-more : (p : ℕ) (bars : List Bar) (bar h : Bar) → bucket p bars (bucket_of p bar) ≡ Some h
    → bucket p (bars ++ bar ∷ []) (bucket_of p bar) ≡ Some (joined h bar)
bucket-more p bars bar h is =
    let j : ℤ = bucket_of p bar in
    let q : Bar → Bool = λ b. int_eq (bucket_of p b) j in
    ap (made_of (bucket_start p j) (bucket_end p j))
    (filter-append q bars (bar ∷ []) ∙ ap (λ c. filter q bars ++ cond c (bar ∷ []) []) (int_eq_equiv.refl j))
    ∙ made_of-push (bucket_start p j) (bucket_end p j) (filter q bars) h bar is

or_none : (c : Bool) → (c || false) ≡ c
or_none true = refl
or_none false = refl

-- the bar completes its own bucket where it ends with it
completes-own : (p : ℕ) (bar : Bar) (end : ℤ) → end ≡ bucket_end p (bucket_of p bar) → completes p (bucket_of p bar) bar ≡ int_eq end bar.end.0
completes-own p bar end is =
    let j : ℤ = bucket_of p bar in
    let reflexive : j ≤ℤ j = omega (arith, ints) in
    ap (λ later. int_eq (bucket_end p j) bar.end.0 || later) (not_below j j reflexive)
    ∙ or_none (int_eq (bucket_end p j) bar.end.0) ∙ ap (λ x. int_eq x bar.end.0) (sym is)

made_of-ends : (s e : ℤ) (bars : List Bar) (h : Bar) → made_of s e bars ≡ Some h → (h.start.0 ≡ s) × (h.end.0 ≡ e)
made_of-ends s e [] h is = absurd (cc)
made_of-ends s e (first ∷ others) h is =
    let here : made_from s e first others ≡ h = cc in
    (sym (ap (λ (b : Bar). b.start.0) here), sym (ap (λ (b : Bar). b.end.0) here))

one_given : (f : ℤ → Option Bar) (k : ℤ) (x : Bar) (c : Bool) → f k ≡ Some x → filter_map f (cond c (k ∷ []) []) ≡ cond c (x ∷ []) []
one_given f k x true is = ap (λ o. cons_option o []) is
one_given f k x false is = refl

one_left : (f : ℤ → Option Bar) (k : ℤ) (x : Bar) (c : Bool) → f k ≡ Some x → map f (cond (not c) (k ∷ []) []) ≡ map Some (cond c [] (x ∷ []))
one_left f k x true is = refl
one_left f k x false is = ap (λ o. o ∷ []) is

-- one bucket is open
turns-one : (p : ℕ) (bars : List Bar) (bar : Bar) → Follows p bars bar → (k : ℤ) (x : Bar) (c : Bool)
    → open_buckets p bars ++ fresh p bars bar ≡ k ∷ [] → bucket p (bars ++ bar ∷ []) k ≡ Some x → completes p k bar ≡ c
    → Turns p bars bar (cond c (x ∷ []) []) (cond c [] (x ∷ []))
turns-one p bars bar follows k x c ks is test = record {
  given =
      ap (filter_map (bucket p (bars ++ bar ∷ []))) (given-push p bars bar follows ∙ ap (filter (λ i. completes p i bar)) ks
      ∙ ap (λ t. cond t (k ∷ []) []) test)
      ∙ one_given (bucket p (bars ++ bar ∷ [])) k x c is;
  left =
      ap (map (bucket p (bars ++ bar ∷ []))) (open-push p bars bar follows ∙ ap (filter (λ i. not (completes p i bar))) ks
      ∙ ap (λ t. cond (not t) (k ∷ []) []) test)
      ∙ one_left (bucket p (bars ++ bar ∷ [])) k x c is;
}

-- an earlier bucket is open too
turns-two : (p : ℕ) (bars : List Bar) (bar : Bar) → Follows p bars bar → (n k : ℤ) (h x : Bar) (c : Bool)
    → open_buckets p bars ++ fresh p bars bar ≡ n ∷ k ∷ [] → bucket p (bars ++ bar ∷ []) n ≡ Some h → bucket p (bars ++ bar ∷ []) k ≡ Some x
    → completes p n bar ≡ true → completes p k bar ≡ c
    → Turns p bars bar (h ∷ cond c (x ∷ []) []) (cond c [] (x ∷ []))
turns-two p bars bar follows n k h x c ks was is before test =
    let f : ℤ → Option Bar = bucket p (bars ++ bar ∷ []) in
    record {
      given =
          ap (filter_map f) (given-push p bars bar follows ∙ ap (filter (λ i. completes p i bar)) ks
          ∙ ap (λ t. let rest : List ℤ = cond (completes p k bar) (k ∷ []) [] in cond t (n ∷ rest) rest) before
          ∙ ap (λ t. n ∷ cond t (k ∷ []) []) test)
          ∙ ap (λ o. cons_option o (filter_map f (cond c (k ∷ []) []))) was
          ∙ ap (λ rest. h ∷ rest) (one_given f k x c is);
      left =
          ap (map f) (open-push p bars bar follows ∙ ap (filter (λ i. not (completes p i bar))) ks
          ∙ ap (λ t. let rest : List ℤ = cond (not (completes p k bar)) (k ∷ []) [] in cond (not t) (n ∷ rest) rest) before
          ∙ ap (λ t. cond (not t) (k ∷ []) []) test)
          ∙ one_left f k x c is;
    }

none_open : (f : ℤ → Option Bar) (ks : List ℤ) → map f ks ≡ [] → ks ≡ []
none_open f [] e = refl
none_open f (k ∷ ks) e = absurd (cc)

pub record IsOnly (f : ℤ → Option Bar) (ks : List ℤ) (h : Bar) : Type 0 where
  pub number : ℤ
  pub only : ks ≡ number ∷ []
  pub is : f number ≡ Some h

one_open : (f : ℤ → Option Bar) (ks : List ℤ) (h : Bar) → map f ks ≡ Some h ∷ [] → IsOnly f ks h
one_open f [] h e = absurd (cc)
one_open f (k ∷ []) h e = record { number = k; only = refl; is = cc }
one_open f (k ∷ i ∷ ks) h e = absurd (cc)

-- no bucket was open
pub turns-begun : (p : ℕ) (bars : List Bar) (bar x : Bar) → Follows p bars bar → Leaves p bars [] → Some x ≡ bucket p (bar ∷ []) (bucket_of p bar)
    → Turns p bars bar (cond (int_eq x.end.0 bar.end.0) (x ∷ []) []) (cond (int_eq x.end.0 bar.end.0) [] (x ∷ []))
unfolding fresh
turns-begun p bars bar x follows leaves is =
    let j : ℤ = bucket_of p bar in
    let none : open_buckets p bars ≡ [] = none_open (bucket p bars) (open_buckets p bars) leaves in
    let ends = made_of-ends (bucket_start p j) (bucket_end p j) (filter (λ b. int_eq (bucket_of p b) j) (bar ∷ [])) x (sym is) in
    turns-one p bars bar follows j x (int_eq x.end.0 bar.end.0)
    (ap (λ (os : List ℤ). os ++ cond (has j os) [] (j ∷ [])) none)
    (bucket-new p bars bar (sym (seen p bars bar follows) ∙ ap (has j) none) ∙ sym is)
    (completes-own p bar x.end.0 ends.1)

-- the bucket in which the bar starts was open
pub turns-joined : (p : ℕ) (bars : List Bar) (bar h : Bar) → Follows p bars bar → Leaves p bars (h ∷ []) → h.start.0 ≤ℤ bar.start.0 → bar.start.0 <ℤ h.end.0
    → (x : Bar) → x ≡ joined h bar
    → Turns p bars bar (cond (int_eq x.end.0 bar.end.0) (x ∷ []) []) (cond (int_eq x.end.0 bar.end.0) [] (x ∷ []))
unfolding fresh
turns-joined p bars bar h follows leaves from to x is =
    let j : ℤ = bucket_of p bar in
    let one = one_open (bucket p bars) (open_buckets p bars) h leaves in
    let n : ℤ = one.number in
    let ends = made_of-ends (bucket_start p n) (bucket_end p n) (filter (λ b. int_eq (bucket_of p b) n) bars) h one.is in
    let same : j ≡ n = bucket_at-only p bar.start.0 n follows.positive (subst (λ s. s ≤ℤ bar.start.0) ends.0 from) (subst (λ e. bar.start.0 <ℤ e) ends.1 to) in
    let only : open_buckets p bars ≡ j ∷ [] = one.only ∙ ap (λ k. k ∷ []) (sym same) in
    let Whole : Bar → Type 0 = λ y. Turns p bars bar (cond (int_eq y.end.0 bar.end.0) (y ∷ []) []) (cond (int_eq y.end.0 bar.end.0) [] (y ∷ [])) in
    subst Whole (sym is) (turns-one p bars bar follows j (joined h bar) (int_eq h.end.0 bar.end.0)
    (ap (λ (os : List ℤ). os ++ cond (has j os) [] (j ∷ [])) only
    ∙ ap (λ t. (j ∷ []) ++ cond (t || false) [] (j ∷ [])) (int_eq_equiv.refl j))
    (bucket-more p bars bar h (ap (bucket p bars) same ∙ one.is))
    (completes-own p bar h.end.0 (ends.1 ∙ ap (bucket_end p) (sym same))))

-- an earlier bucket was open
pub turns-later : (p : ℕ) (bars : List Bar) (bar h x : Bar) → Follows p bars bar → Leaves p bars (h ∷ []) → h.end.0 ≤ℤ bar.start.0
    → Some x ≡ bucket p (bar ∷ []) (bucket_of p bar)
    → Turns p bars bar (h ∷ cond (int_eq x.end.0 bar.end.0) (x ∷ []) []) (cond (int_eq x.end.0 bar.end.0) [] (x ∷ []))
unfolding fresh
turns-later p bars bar h x follows leaves by is =
    let j : ℤ = bucket_of p bar in
    let one = one_open (bucket p bars) (open_buckets p bars) h leaves in
    let n : ℤ = one.number in
    let was = made_of-ends (bucket_start p n) (bucket_end p n) (filter (λ b. int_eq (bucket_of p b) n) bars) h one.is in
    let ends = made_of-ends (bucket_start p j) (bucket_end p j) (filter (λ b. int_eq (bucket_of p b) j) (bar ∷ [])) x (sym is) in
    let before : n <ℤ j = bucket-before p bar.start.0 n follows.positive (subst (λ e. e ≤ℤ bar.start.0) was.1 by) in
    let apart : int_eq j n ≡ false = not_same n j before in
    let unheard : has j (n ∷ []) ≡ false = or_from (int_eq n j) false (int_eq_equiv.symm n j ∙ apart) refl in
    turns-two p bars bar follows n j h x (int_eq x.end.0 bar.end.0)
    (ap (λ (os : List ℤ). os ++ cond (has j os) [] (j ∷ [])) one.only
    ∙ ap (λ t. (n ∷ []) ++ cond t [] (j ∷ [])) unheard)
    (bucket-other p bars bar n apart ∙ one.is)
    (bucket-new p bars bar (sym (seen p bars bar follows) ∙ ap (has j) one.only ∙ unheard) ∙ sym is)
    (or_right (int_eq (bucket_end p n) bar.end.0) (int_lt n j) (is_below n j before))
    (completes-own p bar x.end.0 ends.1)
