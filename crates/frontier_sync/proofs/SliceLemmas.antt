-- The slice of some heads, head after head.
use Rattle.std.proofs.Common.{◌≡◌, ◌≢◌, ℕ, suc, zero, ◌+◌, ◌<◌, ◌≤◌, ◌==◌, Bool, true, false, ℤ, List, [], ◌∷◌, ◌++◌, length, length-append, map, Result, Ok, Err, OnOk, get_or, set, refl, sym, ap, ◌∙◌, subst, arith, append_assoc, append-nil}
use Rattle.std.specs.List.{All}
use Rattle.std.specs.Prelude.{IsErr}
use Rattle.std.proofs.Math.Seq.{get_or-append_seam}
use Rattle.std.proofs.lemmas.Bool.{false≢true}
use Rattle.std.proofs.lemmas.Bool.Decides.{nat_tests}
use Rattle.std.proofs.lemmas.List.{set_at}
use Rattle.std.proofs.lemmas.List.Concat.{flat_map-append}
use Rattle.std.proofs.lemmas.List.Elements.{All-nil, All-cons, All-head, All-tail, All-weaker, All-set, All-get_or, AllZip-push}
use Rattle.lean_items.specs.declared.arrival.Arrival.{Arrival}
use Rattle.lean_items.specs.declared.feed_no.FeedNo.{FeedNo}
use Rattle.lean_items.specs.declared.item.Item.{Item}
use Rattle.lean_items.specs.Given.{IsRow}
use Rattle.lean_items.specs.Taken.{Start, Feeds}
use Rattle.frontier_sync.specs.Heads.{arrival, AreRising, AreOpen}
use Rattle.frontier_sync.specs.Slices.{Refilled, IsRefilled, IsSliced, given_of, given_here, slice_of, TakesOfHeads, TakesOfOne, MovesOn}
use Rattle.frontier_sync.proofs.PlaceLemmas.{Below, Above}
use Rattle.frontier_sync.proofs.TakenLemmas.{with_taken, moves-none, moves-more}

-- The heads before a place are sliced, and the others are as they were.
pub record SlicedTo (old_stands stands : Start → Feeds → Type 0) (at : ℤ) (place : ℕ) (first now before out : List Arrival) : Type 0 where
  pub done : List Arrival
  pub fresh : List Arrival
  pub rest : List Arrival
  pub taken : ℕ → List Item
  pub began : first ≡ done ++ rest
  pub is : now ≡ fresh ++ rest
  pub size : length fresh ≡ place
  pub sliced : IsSliced at taken done fresh
  pub given : out ≡ before ++ slice_of at taken done
  pub moves : MovesOn old_stands stands taken
  pub idle : TakesOfHeads done taken

pub sliced-none : (stands : Start → Feeds → Type 0) (at : ℤ) (heads before : List Arrival) → SlicedTo stands stands at 0 heads heads before before
sliced-none stands at heads before = record {
  done = [];
  fresh = [];
  rest = heads;
  taken = λ n. [];
  began = refl;
  is = refl;
  size = refl;
  sliced = tt;
  given = sym (append-nil before);
  moves = moves-none stands;
  idle = λ n all. refl;
}

all-both : (P Q R : Arrival → Type 0) (xs : List Arrival) → All P xs → All Q xs → ((x : Arrival) → P x → Q x → R x) → All R xs
all-both P Q R xs p q f = λ k d within. f (get_or xs k d) (p k d within) (q k d within)

-- heads around one of them
pub below-one : (front : List Arrival) (a : Arrival) (back : List Arrival) → AreRising (front ++ a ∷ back) → All (Below a.feed.0) front
below-one [] a back r = All-nil (Below a.feed.0)
below-one (x ∷ front) a back r =
    All-cons (Below a.feed.0) x front (All-head (λ b. x.feed.0 < b.feed.0) a back (later front r.0)) (below-one front a back r.1)
  where
    later : (front : List Arrival) → All (λ b. x.feed.0 < b.feed.0) (front ++ a ∷ back) → All (λ b. x.feed.0 < b.feed.0) (a ∷ back)
    later [] all = all
    later (y ∷ front) all = later front (All-tail (λ b. x.feed.0 < b.feed.0) y (front ++ a ∷ back) all)

pub rising-written : (heads : List Arrival) (i : ℕ) (d next : Arrival) → AreRising heads → i < length heads → next.feed ≡ (get_or heads i d).feed → AreRising (set heads i next)
rising-written [] i d next r within same = r
rising-written (x ∷ heads) zero d next r within same =
    (subst (λ (f : FeedNo). All (λ b. f.0 < b.feed.0) heads) (sym same) r.0, r.1)
rising-written (x ∷ heads) (suc i) d next r within same =
    let below : i < length heads = omega arith in
    let less : x.feed.0 < (get_or heads i d).feed.0 = All-get_or (λ b. x.feed.0 < b.feed.0) heads i d below r.0 in (
      All-set (λ b. x.feed.0 < b.feed.0) heads i next (subst (λ (f : FeedNo). x.feed.0 < f.0) (sym same) less) r.0,
      rising-written heads i d next r.1 below same,
    )

-- a place among the heads that are not sliced yet
pub record SeenAt (fresh rest : List Arrival) (place : ℕ) (d : Arrival) : Type 0 where
  pub back : List Arrival
  pub one : Arrival
  pub rest_is : rest ≡ one ∷ back
  pub read : get_or (fresh ++ rest) place d ≡ one
  pub write : (next : Arrival) → set (fresh ++ rest) place next ≡ fresh ++ next ∷ back

pub seen-at : (fresh rest : List Arrival) (place : ℕ) (d : Arrival) → length fresh ≡ place → place < length (fresh ++ rest) → SeenAt fresh rest place d
seen-at fresh [] place d size within = let none : List Arrival = [] in absurd (omega (arith, within, size, length-append fresh none))
seen-at fresh (one ∷ back) place d size within = record {
  back = back;
  one = one;
  rest_is = refl;
  read = ap (λ k. get_or (fresh ++ one ∷ back) k d) (sym size) ∙ get_or-append_seam fresh one back d;
  write = λ next. set_at fresh one back next place size;
}

taken-at : (taken : ℕ → List Item) (feed : ℕ) (items : List Item) → with_taken taken feed items feed ≡ items
taken-at taken feed items = let here : (feed == feed) ≡ true = grind (arith, nat_tests) in rw here refl

taken-away : (taken : ℕ → List Item) (feed : ℕ) (items : List Item) (n : ℕ) → n ≢ feed → with_taken taken feed items n ≡ taken n
taken-away taken feed items n other = let away : (n == feed) ≡ false = grind (arith, nat_tests) in rw away refl

sliced-same : (at : ℤ) (taken : ℕ → List Item) (feed : ℕ) (items : List Item) (done fresh : List Arrival) → All (Below feed) done → IsSliced at taken done fresh
    → IsSliced at (with_taken taken feed items) done fresh
sliced-same at taken feed items [] [] below z = tt
sliced-same at taken feed items [] (f ∷ fresh) below z = absurd z
sliced-same at taken feed items (d ∷ done) [] below z = absurd z
sliced-same at taken feed items (d ∷ done) (f ∷ fresh) below z =
    let under : d.feed.0 < feed = All-head (Below feed) d done below in
    let same = taken-away taken feed items d.feed.0 (λ e. absurd (omega arith)) in
    ((z.0.0, subst (λ xs. Refilled at d.item xs f.item) (sym same) z.0.1), sliced-same at taken feed items done fresh (All-tail (Below feed) d done below) z.1)

slice-same : (at : ℤ) (taken : ℕ → List Item) (feed : ℕ) (items : List Item) (done : List Arrival) → All (Below feed) done
    → slice_of at (with_taken taken feed items) done ≡ slice_of at taken done
slice-same at taken feed items [] below = refl
slice-same at taken feed items (d ∷ done) below =
    let under : d.feed.0 < feed = All-head (Below feed) d done below in
    let same = taken-away taken feed items d.feed.0 (λ e. absurd (omega arith)) in
    ap (λ xs. map (arrival d.feed) (given_of at d.item xs) ++ slice_of at (with_taken taken feed items) done) same
    ∙ ap (λ xs. given_here at taken d ++ xs) (slice-same at taken feed items done (All-tail (Below feed) d done below))

others-below : (feed : ℕ) (done : List Arrival) → All (Below feed) done → All (λ a. a.feed.0 ≢ feed) done
others-below feed done below = All-weaker (Below feed) (λ a. a.feed.0 ≢ feed) (λ a h e. absurd (omega arith)) done below

all-front : (n : ℕ) (xs ys : List Arrival) → All (λ a. a.feed.0 ≢ n) (xs ++ ys) → All (λ a. a.feed.0 ≢ n) xs
all-front n [] ys all = All-nil (λ a. a.feed.0 ≢ n)
all-front n (x ∷ xs) ys all = All-cons (λ a. a.feed.0 ≢ n) x xs (All-head (λ a. a.feed.0 ≢ n) x (xs ++ ys) all) (all-front n xs ys (All-tail (λ a. a.feed.0 ≢ n) x (xs ++ ys) all))

all-back : (n : ℕ) (xs ys : List Arrival) → All (λ a. a.feed.0 ≢ n) (xs ++ ys) → All (λ a. a.feed.0 ≢ n) ys
all-back n [] ys all = all
all-back n (x ∷ xs) ys all = all-back n xs ys (All-tail (λ a. a.feed.0 ≢ n) x (xs ++ ys) all)

-- one head more
pub sliced-more : (old stands new : Start → Feeds → Type 0) (at : ℤ) (place : ℕ) (first now before out after : List Arrival) (head next : Arrival) (items : List Item)
    → SlicedTo old stands at place first now before out → AreRising first → place < length now → get_or now place head ≡ head
    → next.feed ≡ head.feed → Refilled at head.item items next.item → after ≡ out ++ map (arrival head.feed) (given_of at head.item items)
    → TakesOfOne stands new head.feed.0 items
    → SlicedTo old new at (place + 1) first (set now place next) before after
sliced-more old stands new at place first now before out after head next items s rising within read feed refilled gives takes =
    let seen = seen-at s.fresh s.rest place head s.size (subst (λ xs. place < length xs) s.is within) in
    let head_is : head ≡ seen.one = sym read ∙ ap (λ xs. get_or xs place head) s.is ∙ seen.read in
    let parts : first ≡ s.done ++ head ∷ seen.back = s.began ∙ ap (λ xs. s.done ++ xs) seen.rest_is ∙ ap (λ a. s.done ++ a ∷ seen.back) (sym head_is) in
    let below = below-one s.done head seen.back (subst (λ xs. AreRising xs) parts rising) in
    let none = s.idle head.feed.0 (others-below head.feed.0 s.done below) in
    let taken = with_taken s.taken head.feed.0 items in
    let here = taken-at s.taken head.feed.0 items in
    record {
      done = s.done ++ head ∷ [];
      fresh = s.fresh ++ next ∷ [];
      rest = seen.back;
      taken = taken;
      began = parts ∙ sym (append_assoc s.done (head ∷ []) seen.back);
      is = ap (λ xs. set xs place next) s.is ∙ seen.write next ∙ sym (append_assoc s.fresh (next ∷ []) seen.back);
      size = omega (arith, length-append s.fresh (next ∷ []), s.size);
      sliced = AllZip-push (IsRefilled at taken) s.done s.fresh head next
          (sliced-same at s.taken head.feed.0 items s.done s.fresh below s.sliced)
          (feed, subst (λ xs. Refilled at head.item xs next.item) (sym here) refilled);
      given = gives ∙ ap (λ xs. xs ++ map (arrival head.feed) (given_of at head.item items)) s.given
          ∙ append_assoc before (slice_of at s.taken s.done) (map (arrival head.feed) (given_of at head.item items))
          ∙ ap (λ xs. before ++ xs) (sym (
          flat_map-append (given_here at taken) s.done (head ∷ [])
          ∙ ap (λ xs. xs ++ (given_here at taken head ++ [])) (slice-same at s.taken head.feed.0 items s.done below)
          ∙ ap (λ xs. slice_of at s.taken s.done ++ xs) (append-nil (given_here at taken head) ∙ ap (λ xs. map (arrival head.feed) (given_of at head.item xs)) here)));
      moves = moves-more old stands new s.taken head.feed.0 items none s.moves takes;
      idle = λ n all.
          let other : head.feed.0 ≢ n = All-head (λ a. a.feed.0 ≢ n) head [] (all-back n s.done (head ∷ []) all) in
          taken-away s.taken head.feed.0 items n (λ e. other (sym e)) ∙ s.idle n (all-front n s.done (head ∷ []) all);
    }

-- where memory is wanted at a head
pub sliced-short : (old stands new : Start → Feeds → Type 0) (at : ℤ) (place : ℕ) (first now before out : List Arrival) (head : Arrival) (items : List Item)
    → SlicedTo old stands at place first now before out → AreRising first → place < length now → get_or now place head ≡ head
    → TakesOfOne stands new head.feed.0 items
    → (taken : ℕ → List Item) × MovesOn old new taken × TakesOfHeads first taken
sliced-short old stands new at place first now before out head items s rising within read takes =
    let seen = seen-at s.fresh s.rest place head s.size (subst (λ xs. place < length xs) s.is within) in
    let head_is : head ≡ seen.one = sym read ∙ ap (λ xs. get_or xs place head) s.is ∙ seen.read in
    let parts : first ≡ s.done ++ head ∷ seen.back = s.began ∙ ap (λ xs. s.done ++ xs) seen.rest_is ∙ ap (λ a. s.done ++ a ∷ seen.back) (sym head_is) in
    let below = below-one s.done head seen.back (subst (λ xs. AreRising xs) parts rising) in
    let none = s.idle head.feed.0 (others-below head.feed.0 s.done below) in (
      with_taken s.taken head.feed.0 items,
      moves-more old stands new s.taken head.feed.0 items none s.moves takes,
      λ n all.
          let whole : All (λ a. a.feed.0 ≢ n) (s.done ++ head ∷ seen.back) = subst (λ xs. All (λ a. a.feed.0 ≢ n) xs) parts all in
          let other : head.feed.0 ≢ n = All-head (λ a. a.feed.0 ≢ n) head seen.back (all-back n s.done (head ∷ seen.back) whole) in
          taken-away s.taken head.feed.0 items n (λ e. other (sym e)) ∙ s.idle n (all-front n s.done (head ∷ seen.back) whole),
    )

-- all heads are sliced
pub sliced-all : (old stands : Start → Feeds → Type 0) (at : ℤ) (place : ℕ) (first now before out : List Arrival)
    → SlicedTo old stands at place first now before out → length now ≤ place
    → (taken : ℕ → List Item) × (IsSliced at taken first now × (out ≡ before ++ slice_of at taken first)) × MovesOn old stands taken × TakesOfHeads first taken
sliced-all old stands at place first now before out s end =
    let none : s.rest ≡ [] = no-rest s.rest (omega (arith, end, s.size, length-append s.fresh s.rest, length-same now (s.fresh ++ s.rest) s.is)) in
    let first_is : s.done ≡ first = sym (s.began ∙ ap (λ xs. s.done ++ xs) none ∙ append-nil s.done) in
    let now_is : s.fresh ≡ now = sym (s.is ∙ ap (λ xs. s.fresh ++ xs) none ∙ append-nil s.fresh) in (
      s.taken,
      (
        subst (λ xs. IsSliced at s.taken first xs) now_is (subst (λ xs. IsSliced at s.taken xs s.fresh) first_is s.sliced),
        s.given ∙ ap (λ xs. before ++ slice_of at s.taken xs) first_is,
      ),
      s.moves,
      subst (λ xs. TakesOfHeads xs s.taken) first_is s.idle,
    )
  where
    length-same : (xs ys : List Arrival) → xs ≡ ys → length xs ≡ length ys
    length-same xs ys e = ap length e

    no-rest : (xs : List Arrival) → length xs ≡ 0 → xs ≡ []
    no-rest [] e = refl
    no-rest (x ∷ xs) e = absurd (omega arith)

-- the feeds of the heads stay open
pub open-written : (now next : ℕ → Bool) (heads : List Arrival) (place : ℕ) (head new : Arrival) → AreOpen now heads → AreRising heads → place < length heads
    → get_or heads place head ≡ head → new.feed ≡ head.feed → (IsRow new.item → next head.feed.0 ≡ true)
    → ((n : ℕ) → n ≢ head.feed.0 → next n ≡ now n) → AreOpen next (set heads place new)
open-written now next [] place head new opens rising within read feed row others = absurd (omega arith)
open-written now next (x ∷ heads) zero head new opens rising within read feed row others =
    let P : Arrival → Type 0 = λ a. IsRow a.item → now a.feed.0 ≡ true in
    let Q : Arrival → Type 0 = λ a. IsRow a.item → next a.feed.0 ≡ true in
    let above : All (Above head.feed.0) heads = subst (λ (a : Arrival). All (Above a.feed.0) heads) read rising.0 in
    All-cons Q new heads (λ r. ap (λ (f : FeedNo). next f.0) feed ∙ row r)
    (all-both P (Above head.feed.0) Q heads (All-tail P x heads opens) above (λ a p h r. others a.feed.0 (λ e. absurd (omega arith)) ∙ p r))
open-written now next (x ∷ heads) (suc place) head new opens rising within read feed row others =
    let P : Arrival → Type 0 = λ a. IsRow a.item → now a.feed.0 ≡ true in
    let Q : Arrival → Type 0 = λ a. IsRow a.item → next a.feed.0 ≡ true in
    let below : place < length heads = omega arith in
    let less : x.feed.0 < head.feed.0 = subst (λ (a : Arrival). x.feed.0 < a.feed.0) read (All-get_or (λ b. x.feed.0 < b.feed.0) heads place head below rising.0) in
    All-cons Q x (set heads place new) (λ r. others x.feed.0 (λ e. absurd (omega arith)) ∙ All-head P x heads opens r)
    (open-written now next heads place head new (All-tail P x heads opens) rising.1 below read feed row others)

pub ok-of-err : {A E : Type 0} (r : Result A E) (P : Type 0) → IsErr r → OnOk r P
ok-of-err (Ok x) P h = absurd (false≢true h)
ok-of-err (Err e) P h = tt

-- what a call appends, and another
pub front-more : (before now new : List Arrival) → (more : List Arrival) × (now ≡ before ++ more) → (more : List Arrival) × (new ≡ now ++ more)
    → (more : List Arrival) × (new ≡ before ++ more)
front-more before now new (xs, was) (ys, is) = (xs ++ ys, is ∙ ap (λ zs. zs ++ ys) was ∙ append_assoc before xs ys)
