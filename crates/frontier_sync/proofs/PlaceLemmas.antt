-- Heads with rising feed numbers, and where a head is put among them.
use Rattle.std.proofs.Common.{◌≡◌, ◌≢◌, ℕ, suc, zero, ◌<◌, ◌≤◌, ◌==◌, Bool, true, false, not, cond, ltb, List, [], ◌∷◌, ◌++◌, length, take, drop, get_or, set, Result, Ok, Err, OnOk, OnErr, refl, sym, ap, ◌∙◌, subst, arith, drop-cons, length-take, append-nil}
use Rattle.std.specs.List.{All, filter, remove}
use Rattle.std.proofs.lemmas.Bool.Decides.{nat_tests}
use Rattle.std.proofs.lemmas.List.{set_at, take-append-drop, drop_all}
use Rattle.std.proofs.lemmas.List.Elements.{All-nil, All-cons, All-head, All-tail, All-append, All-filter, All-weaker, filter-append, filter_passes}
use Rattle.lean_fixed.specs.declared.memory.NoMemory.{NoMemory}
use Rattle.lean_items.specs.declared.arrival.Arrival.{Arrival}
use Rattle.frontier_sync.specs.Heads.{AreRising, put, without, StandsAt}

abbrev pub Below : ℕ → Arrival → Type 0
Below f a = a.feed.0 < f

abbrev pub Above : ℕ → Arrival → Type 0
Above f a = f < a.feed.0

abbrev pub From : ℕ → Arrival → Type 0
From f a = f ≤ a.feed.0

pub kept-all : {X : Type 0} (p : X → Bool) (xs : List X) → All (λ x. p x ≡ true) xs → filter p xs ≡ xs
kept-all p [] all = refl
kept-all p (x ∷ xs) all = rw (All-head (λ x. p x ≡ true) x xs all, kept-all p xs (All-tail (λ x. p x ≡ true) x xs all)) refl

pub kept-none : {X : Type 0} (p : X → Bool) (xs : List X) → All (λ x. p x ≡ false) xs → filter p xs ≡ []
kept-none p [] all = refl
kept-none p (x ∷ xs) all = rw (All-head (λ x. p x ≡ false) x xs all, kept-none p xs (All-tail (λ x. p x ≡ false) x xs all)) refl

less-true : (f : ℕ) (a : Arrival) → Below f a → ltb a.feed.0 f ≡ true
less-true f a h = grind (arith, nat_tests)

less-false : (f : ℕ) (a : Arrival) → From f a → ltb a.feed.0 f ≡ false
less-false f a h = grind (arith, nat_tests)

more-true : (f : ℕ) (a : Arrival) → Above f a → ltb f a.feed.0 ≡ true
more-true f a h = grind (arith, nat_tests)

more-false : (f : ℕ) (a : Arrival) → a.feed.0 ≤ f → ltb f a.feed.0 ≡ false
more-false f a h = grind (arith, nat_tests)

other-true : (f : ℕ) (a : Arrival) → a.feed.0 ≢ f → not (a.feed.0 == f) ≡ true
other-true f a h = grind (arith, nat_tests)

other-false : (f : ℕ) (a : Arrival) → a.feed.0 ≡ f → not (a.feed.0 == f) ≡ false
other-false f a h = grind (arith, nat_tests)

-- heads of lower feeds, perhaps one of a feed, and heads of higher feeds
pub put-between : (h : Arrival) (front same back : List Arrival) → All (Below h.feed.0) front → All (λ a. a.feed.0 ≡ h.feed.0) same → All (Above h.feed.0) back
    → put h (front ++ (same ++ back)) ≡ front ++ h ∷ back
put-between h front same back lower equal upper =
    let f = h.feed.0 in
    let p : Arrival → Bool = λ b. ltb b.feed.0 f in
    let q : Arrival → Bool = λ b. ltb f b.feed.0 in
    let a1 = kept-all p front (All-weaker (Below f) (λ b. p b ≡ true) (less-true f) front lower) in
    let a2 = kept-none p same (All-weaker (λ a. a.feed.0 ≡ f) (λ b. p b ≡ false) (λ a e. less-false f a (omega arith)) same equal) in
    let a3 = kept-none p back (All-weaker (Above f) (λ b. p b ≡ false) (λ a e. less-false f a (omega arith)) back upper) in
    let b1 = kept-none q front (All-weaker (Below f) (λ b. q b ≡ false) (λ a e. more-false f a (omega arith)) front lower) in
    let b2 = kept-none q same (All-weaker (λ a. a.feed.0 ≡ f) (λ b. q b ≡ false) (λ a e. more-false f a (omega arith)) same equal) in
    let b3 = kept-all q back (All-weaker (Above f) (λ b. q b ≡ true) (more-true f) back upper) in
    let low : filter p (front ++ (same ++ back)) ≡ front =
    filter-append p front (same ++ back) ∙ ap (λ xs. filter p front ++ xs) (filter-append p same back)
    ∙ rw (a1, a2, a3) (append-nil front) in
    let high : filter q (front ++ (same ++ back)) ≡ back =
    filter-append q front (same ++ back) ∙ ap (λ xs. filter q front ++ xs) (filter-append q same back)
    ∙ rw (b1, b2, b3) refl in
    rw (low, high) refl

pub without-between : (f : ℕ) (front same back : List Arrival) → All (Below f) front → All (λ a. a.feed.0 ≡ f) same → All (Above f) back
    → without f (front ++ (same ++ back)) ≡ front ++ back
without-between f front same back lower equal upper =
    let p : Arrival → Bool = λ a. not (a.feed.0 == f) in
    let a1 = kept-all p front (All-weaker (Below f) (λ b. p b ≡ true) (λ a e. other-true f a (λ s. absurd (omega arith))) front lower) in
    let a2 = kept-none p same (All-weaker (λ a. a.feed.0 ≡ f) (λ b. p b ≡ false) (other-false f) same equal) in
    let a3 = kept-all p back (All-weaker (Above f) (λ b. p b ≡ true) (λ a e. other-true f a (λ s. absurd (omega arith))) back upper) in
    filter-append p front (same ++ back) ∙ ap (λ xs. filter p front ++ xs) (filter-append p same back)
    ∙ rw (a1, a2, a3) refl

-- the function puts a head where none of its feed stands
pub put-inserted : (h : Arrival) (heads : List Arrival) (i : ℕ) → All (Below h.feed.0) (take i heads) → All (Above h.feed.0) (drop i heads)
    → take i heads ++ h ∷ drop i heads ≡ put h heads
put-inserted h heads i lower upper =
    sym (put-between h (take i heads) [] (drop i heads) lower (All-nil (λ a. a.feed.0 ≡ h.feed.0)) upper) ∙ ap (put h) (take-append-drop i heads)

take-front : (front : List Arrival) (a : Arrival) (back : List Arrival) → take (length front) (front ++ a ∷ back) ≡ front
take-front [] a back = refl
take-front (x ∷ front) a back = ap (λ xs. x ∷ xs) (take-front front a back)

drop-front : (front : List Arrival) (a : Arrival) (back : List Arrival) → drop (suc (length front)) (front ++ a ∷ back) ≡ back
drop-front [] a back = refl
drop-front (x ∷ front) a back = drop-front front a back

pub put-written : (h : Arrival) (heads : List Arrival) (i : ℕ) → All (Below h.feed.0) (take i heads) → StandsAt heads i h.feed.0
    → set heads i h ≡ put h heads
put-written h heads i lower (front, back, a, parts, place, same, upper) =
    let begin : take i heads ≡ front = ap (take i) parts ∙ ap (λ n. take n (front ++ a ∷ back)) (sym place) ∙ take-front front a back in
    let below : All (Below h.feed.0) front = subst (λ xs. All (Below h.feed.0) xs) begin lower in
    ap (λ xs. set xs i h) parts ∙ set_at front a back h i place
    ∙ sym (put-between h front (a ∷ []) back below (All-cons (λ b. b.feed.0 ≡ h.feed.0) a [] same (All-nil (λ b. b.feed.0 ≡ h.feed.0))) upper)
    ∙ ap (put h) (sym parts)

pub without-removed : (f : ℕ) (heads : List Arrival) (i : ℕ) → All (Below f) (take i heads) → StandsAt heads i f
    → remove heads i ≡ without f heads
without-removed f heads i lower (front, back, a, parts, place, same, upper) =
    let begin : take i heads ≡ front = ap (take i) parts ∙ ap (λ n. take n (front ++ a ∷ back)) (sym place) ∙ take-front front a back in
    let rest : drop (suc i) heads ≡ back = ap (drop (suc i)) parts ∙ ap (λ n. drop (suc n) (front ++ a ∷ back)) (sym place) ∙ drop-front front a back in
    let below : All (Below f) front = subst (λ xs. All (Below f) xs) begin lower in
    rw (begin, rest) (sym (ap (without f) parts ∙ without-between f front (a ∷ []) back below (All-cons (λ b. b.feed.0 ≡ f) a [] same (All-nil (λ b. b.feed.0 ≡ f))) upper))

pub without-absent : (f : ℕ) (heads : List Arrival) (i : ℕ) → All (Below f) (take i heads) → All (Above f) (drop i heads)
    → heads ≡ without f heads
without-absent f heads i lower upper =
    sym (take-append-drop i heads)
    ∙ sym (without-between f (take i heads) [] (drop i heads) lower (All-nil (λ a. a.feed.0 ≡ f)) upper)
    ∙ ap (without f) (take-append-drop i heads)

pub rising-drop : (i : ℕ) (heads : List Arrival) → AreRising heads → AreRising (drop i heads)
rising-drop zero heads r = r
rising-drop (suc i) [] r = tt
rising-drop (suc i) (a ∷ heads) r = rising-drop i heads r.1

-- of heads that rise all are from the first on
pub from-first : (f : ℕ) (a : Arrival) (heads : List Arrival) → AreRising (a ∷ heads) → From f a → All (From f) (a ∷ heads)
from-first f a heads r h =
    All-cons (From f) a heads h (All-weaker (λ b. a.feed.0 < b.feed.0) (From f) (λ b l. omega arith) heads r.0)

pub above-first : (f : ℕ) (a : Arrival) (heads : List Arrival) → AreRising (a ∷ heads) → Above f a → All (Above f) (a ∷ heads)
above-first f a heads r h =
    All-cons (Above f) a heads h (All-weaker (λ b. a.feed.0 < b.feed.0) (Above f) (λ b l. omega arith) heads r.0)

pub from-place : (f i : ℕ) (heads : List Arrival) (d : Arrival) → AreRising heads → i < length heads → f ≤ (get_or heads i d).feed.0 → All (From f) (drop i heads)
from-place f i heads d r within h =
    let rest = drop-cons heads i d within in
    subst (λ xs. All (From f) xs) (sym rest)
    (from-first f (get_or heads i d) (drop (suc i) heads) (subst (λ xs. AreRising xs) rest (rising-drop i heads r)) h)

pub rising-filter : (p : Arrival → Bool) (heads : List Arrival) → AreRising heads → AreRising (filter p heads)
rising-filter p [] r = tt
rising-filter p (a ∷ heads) r =
    let more = rising-filter p heads r.1 in
    elim (p a) as (λ b. AreRising (cond b (a ∷ filter p heads) (filter p heads))) [
      | true ↦ (All-filter p (λ b. a.feed.0 < b.feed.0) heads r.0, more)
      | false ↦ more
    ]

rising-append : (f : ℕ) (xs ys : List Arrival) → AreRising xs → AreRising ys → All (Below f) xs → All (From f) ys → AreRising (xs ++ ys)
rising-append f [] ys rx ry lower upper = ry
rising-append f (x ∷ xs) ys rx ry lower upper =
    let under : x.feed.0 < f = All-head (Below f) x xs lower in (
      All-append (λ b. x.feed.0 < b.feed.0) xs ys rx.0 (All-weaker (From f) (λ b. x.feed.0 < b.feed.0) (λ b h. omega arith) ys upper),
      rising-append f xs ys rx.1 ry (All-tail (Below f) x xs lower) upper,
    )

pub rising-put : (h : Arrival) (heads : List Arrival) → AreRising heads → AreRising (put h heads)
rising-put h heads r =
    let f = h.feed.0 in
    let p : Arrival → Bool = λ b. ltb b.feed.0 f in
    let q : Arrival → Bool = λ b. ltb f b.feed.0 in
    let above : All (Above f) (filter q heads) = All-weaker (λ b. q b ≡ true) (Above f) (λ b e. grind (arith, nat_tests)) (filter q heads) (filter_passes q heads) in
    rising-append f (filter p heads) (h ∷ filter q heads)
    (rising-filter p heads r)
    (above, rising-filter q heads r)
    (All-weaker (λ b. p b ≡ true) (Below f) (λ b e. grind (arith, nat_tests)) (filter p heads) (filter_passes p heads))
    (All-cons (From f) h (filter q heads) (omega arith) (All-weaker (Above f) (From f) (λ b e. omega arith) (filter q heads) above))

pub rising-set : (h : Arrival) (old new : List Arrival) (r : Result (Unit {0}) NoMemory) → AreRising old → OnOk r (new ≡ put h old) → OnErr r (new ≡ old) → AreRising new
rising-set h old new (Ok u) rising ok err = subst (λ xs. AreRising xs) (sym ok) (rising-put h old rising)
rising-set h old new (Err e) rising ok err = subst (λ xs. AreRising xs) (sym err) rising

pub there : (f i : ℕ) (heads : List Arrival) (d : Arrival) → AreRising heads → i < length heads → (get_or heads i d).feed.0 ≡ f → StandsAt heads i f
there f i heads d r within same =
    let rest = drop-cons heads i d within in
    let rising : AreRising (get_or heads i d ∷ drop (suc i) heads) = subst (λ xs. AreRising xs) rest (rising-drop i heads r) in
    let size : length (take i heads) ≡ i = omega (arith, length-take i heads) in (
      take i heads,
      drop (suc i) heads,
      get_or heads i d,
      sym (take-append-drop i heads) ∙ ap (λ xs. take i heads ++ xs) rest,
      size,
      same,
      All-weaker (λ b. (get_or heads i d).feed.0 < b.feed.0) (Above f) (λ b l. omega arith) (drop (suc i) heads) rising.0,
    )

pub absent : (f i : ℕ) (heads : List Arrival) (d : Arrival) → AreRising heads → All (From f) (drop i heads) → i < length heads → (get_or heads i d).feed.0 ≢ f
    → All (Above f) (drop i heads)
absent f i heads d r from within other =
    let rest = drop-cons heads i d within in
    let rising : AreRising (get_or heads i d ∷ drop (suc i) heads) = subst (λ xs. AreRising xs) rest (rising-drop i heads r) in
    let first : f ≤ (get_or heads i d).feed.0 = All-head (From f) (get_or heads i d) (drop (suc i) heads) (subst (λ xs. All (From f) xs) rest from) in
    subst (λ xs. All (Above f) xs) (sym rest) (above-first f (get_or heads i d) (drop (suc i) heads) rising (omega arith))

pub past : (f i : ℕ) (heads : List Arrival) → length heads ≤ i → All (Above f) (drop i heads)
past f i heads h = subst (λ xs. All (Above f) xs) (sym (drop_all i heads h)) (All-nil (Above f))

-- the same where the heads were seen through two references
pub seen-inserted : (h : Arrival) (seen again heads : List Arrival) (i : ℕ) → seen ≡ heads → again ≡ heads → All (Below h.feed.0) (take i seen) → All (Above h.feed.0) (drop i again)
    → take i heads ++ h ∷ drop i heads ≡ put h heads
seen-inserted h seen again heads i is also lower upper =
    put-inserted h heads i (subst (λ xs. All (Below h.feed.0) (take i xs)) is lower) (subst (λ xs. All (Above h.feed.0) (drop i xs)) also upper)

pub seen-written : (h : Arrival) (seen again heads : List Arrival) (i : ℕ) → seen ≡ heads → again ≡ heads → All (Below h.feed.0) (take i seen) → StandsAt again i h.feed.0
    → set heads i h ≡ put h heads
seen-written h seen again heads i is also lower at =
    put-written h heads i (subst (λ xs. All (Below h.feed.0) (take i xs)) is lower) (subst (λ xs. StandsAt xs i h.feed.0) also at)

pub seen-removed : (f : ℕ) (seen again heads : List Arrival) (i : ℕ) → seen ≡ heads → again ≡ heads → All (Below f) (take i seen) → StandsAt again i f
    → remove heads i ≡ without f heads
seen-removed f seen again heads i is also lower at =
    without-removed f heads i (subst (λ xs. All (Below f) (take i xs)) is lower) (subst (λ xs. StandsAt xs i f) also at)

pub seen-absent : (f : ℕ) (seen again heads : List Arrival) (i : ℕ) → seen ≡ heads → again ≡ heads → All (Below f) (take i seen) → All (Above f) (drop i again)
    → heads ≡ without f heads
seen-absent f seen again heads i is also lower upper =
    without-absent f heads i (subst (λ xs. All (Below f) (take i xs)) is lower) (subst (λ xs. All (Above f) (drop i xs)) also upper)
