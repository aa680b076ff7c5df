-- What was taken of feeds, one call after another.
use Rattle.std.proofs.Common.{◌≡◌, ℕ, ◌==◌, Bool, true, false, cond, List, [], ◌++◌, Option, Some, None, option_map, refl, sym, ap, ◌∙◌, subst, append_assoc, append-nil, arith}
use Rattle.std.proofs.Math.Path.{fun_ext}
use Rattle.std.proofs.lemmas.Bool.Decides.{nat_tests}
use Rattle.lean_items.specs.declared.feed_key.FeedKey.{FeedKey}
use Rattle.lean_items.specs.declared.item.Item.{Item}
use Rattle.lean_items.specs.Taken.{Start, Feeds, Taken, more}
use Rattle.std.specs.Borrow.{GName}
use Rattle.frontier_sync.specs.Stays.{Stays}
use Rattle.frontier_sync.specs.Slices.{taken_one, TakesOfOne, taken_all, MovesOn}

abbrev with_items : FeedKey → List Item → Taken
with_items key items = record { key = key; items = items }

more-more : (xs ys : List Item) (o : Option Taken) → option_map (more ys) (option_map (more xs) o) ≡ option_map (more (xs ++ ys)) o
more-more xs ys None = refl
more-more xs ys (Some t) = ap (λ items. Some (with_items t.key items)) (append_assoc t.items xs ys)

more-none : (o : Option Taken) → option_map (more []) o ≡ o
more-none None = refl
more-none (Some t) = ap (λ items. Some (with_items t.key items)) (append-nil t.items)

one-one : (feeds : Feeds) (feed : ℕ) (xs ys : List Item) → taken_one (taken_one feeds feed xs) feed ys ≡ taken_one feeds feed (xs ++ ys)
one-one feeds feed xs ys = fun_ext (λ n. at n (n == feed))
  where
    at : (n : ℕ) (b : Bool) → cond b (option_map (more ys) (cond b (option_map (more xs) (feeds n)) (feeds n))) (cond b (option_map (more xs) (feeds n)) (feeds n))
        ≡ cond b (option_map (more (xs ++ ys)) (feeds n)) (feeds n)
    at n true = more-more xs ys (feeds n)
    at n false = refl

one-none : (feeds : Feeds) (feed : ℕ) → taken_one feeds feed [] ≡ feeds
one-none feeds feed = fun_ext (λ n. at n (n == feed))
  where
    at : (n : ℕ) (b : Bool) → cond b (option_map (more []) (feeds n)) (feeds n) ≡ feeds n
    at n true = more-none (feeds n)
    at n false = refl

-- nothing was taken of a feed
pub takes-none : (stands : Start → Feeds → Type 0) (feed : ℕ) → TakesOfOne stands stands feed []
takes-none stands feed before feeds h = subst (λ f. stands before f) (sym (one-none feeds feed)) h

-- some items, and then some more
pub takes-more : (old now new : Start → Feeds → Type 0) (feed : ℕ) (xs ys : List Item)
    → TakesOfOne old now feed xs → TakesOfOne now new feed ys → TakesOfOne old new feed (xs ++ ys)
takes-more old now new feed xs ys first then before feeds h =
    subst (λ f. new before f) (one-one feeds feed xs ys) (then before (taken_one feeds feed xs) (first before feeds h))

-- what was taken of each feed, where more was taken of one
abbrev pub with_taken : (ℕ → List Item) → ℕ → List Item → ℕ → List Item
with_taken taken feed items = λ n. cond (n == feed) items (taken n)

all-one : (feeds : Feeds) (taken : ℕ → List Item) (feed : ℕ) (items : List Item) → taken feed ≡ []
    → taken_one (taken_all feeds taken) feed items ≡ taken_all feeds (with_taken taken feed items)
all-one feeds taken feed items none = fun_ext (λ n. at n (n == feed) refl)
  where
    at : (n : ℕ) (b : Bool) → (n == feed) ≡ b
        → cond b (option_map (more items) (option_map (more (taken n)) (feeds n))) (option_map (more (taken n)) (feeds n)) ≡ option_map (more (cond b items (taken n))) (feeds n)
    at n true e =
        let same : n ≡ feed = grind (arith, nat_tests) in
        let nothing : taken n ≡ [] = ap taken same ∙ none in
        more-more (taken n) items (feeds n) ∙ ap (λ xs. option_map (more (xs ++ items)) (feeds n)) nothing
    at n false e = refl

pub moves-none : (stands : Start → Feeds → Type 0) → MovesOn stands stands (λ n. [])
moves-none stands before feeds h = subst (λ f. stands before f) (sym (fun_ext (λ n. more-none (feeds n)))) h

pub moves-more : (old now new : Start → Feeds → Type 0) (taken : ℕ → List Item) (feed : ℕ) (items : List Item) → taken feed ≡ []
    → MovesOn old now taken → TakesOfOne now new feed items → MovesOn old new (with_taken taken feed items)
moves-more old now new taken feed items none moves takes before feeds h =
    subst (λ f. new before f) (all-one feeds taken feed items none) (takes before (taken_all feeds taken) (moves before feeds h))

-- one call after another
module _ {P : Type 0} (files : P → Option (List ℕ → Option (List ℕ))) (lists : P → Option (FeedKey → List Item)) (faults : P → ℕ) (place : P → GName) where
  pub stays-none : (pool : P) → Stays files lists faults place pool pool
  stays-none pool = record { told = refl; keyed = refl; grows = omega arith; placed = refl }

  pub stays-more : (old now new : P) → Stays files lists faults place old now → Stays files lists faults place now new → Stays files lists faults place old new
  stays-more old now new first then = record {
    told = then.told ∙ first.told;
    keyed = then.keyed ∙ first.keyed;
    grows = omega (arith, first.grows, then.grows);
    placed = then.placed ∙ first.placed;
  }
