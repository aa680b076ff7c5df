-- The feeds of the securities that leave, and of those that join.
use Rattle.std.proofs.Common.{◌≡◌, ℕ, ◌+◌, ◌<◌, ◌≤◌, List, [], ◌∷◌, ◌++◌, true, false, refl, ap, sym, subst, ◌∙◌, arith, inl, inr}
use Rattle.std.specs.Prelude.{length, map, not, ◌==◌, Bool, cond}
use Rattle.std.specs.List.{AllByRecursion as Each, filter}
use Rattle.std.proofs.lemmas.Bool.Decides.{eqb_tells}
use Rattle.std.proofs.lemmas.List.{append_assoc}
use Rattle.std.proofs.lemmas.List.Elements.{filter-append}
use Rattle.lean_items.specs.declared.feed_key.FeedKey.{FeedKey}
use Rattle.clock_run.proofs.EachLemmas.{each-append}
use Rattle.clock_run.specs.Orderly.{NumbersRise, number_of}
use Rattle.clock_run.specs.States.{Subscription as Security}
use Rattle.backtest_core.specs.Standing.{Followed, feed_of}
use Rattle.backtest_engine.specs.Algorithms.{subscribed}
use Rattle.backtest_engine.specs.Meaning.{Subscription}
use Rattle.backtest_engine.specs.Turns.{without_one, without_all, numbered}

equal-not : (n k : ℕ) → n < k → (n == k) ≡ false
equal-not n k less = elim (eqb_tells n k) [ inl h ↦ absurd (omega (arith, less, h.1)) | inr h ↦ h.0 ]

equal-above : (n k : ℕ) → k < n → (n == k) ≡ false
equal-above n k less = elim (eqb_tells n k) [ inl h ↦ absurd (omega (arith, less, h.1)) | inr h ↦ h.0 ]

equal-self : (n : ℕ) → (n == n) ≡ true
equal-self n = elim (eqb_tells n n) [ inl h ↦ h.0 | inr h ↦ absurd (h.1 refl) ]

abbrev pub Below : ℕ → List Subscription → Type 0
Below n fs = Each (λ f. f.feed < n) fs

-- a feed that is none of some leaves them as they are
without-below : (n : ℕ) (fs : List Subscription) → Below n fs → filter (λ f. not (f.feed == n)) fs ≡ fs
without-below n [] below = refl
without-below n (f ∷ fs) below =
    ap (λ b. cond (not b) (f ∷ filter (λ f. not (f.feed == n)) fs) (filter (λ f. not (f.feed == n)) fs)) (equal-not f.feed n below.0)
    ∙ ap (λ rest. f ∷ rest) (without-below n fs below.1)

raise : (from n : ℕ) (ys : List Security) → from ≤ n → Each (λ y. n + 1 ≤ number_of y) ys → Each (λ y. from ≤ number_of y) ys
raise from n [] less all = tt
raise from n (y ∷ ys) less all = (omega (arith, less, all.0), raise from n ys less all.1)

rise-above : (from until : ℕ) (xs : List Security) → NumbersRise from until xs → Each (λ x. from ≤ number_of x) xs
rise-above from until [] rise = tt
rise-above from until (x ∷ xs) rise = (rise.0, raise from (number_of x) xs rise.0 (rise-above (number_of x + 1) until xs rise.1))

without-above : (n : ℕ) (fs : List Followed) → Each (λ x. n + 1 ≤ number_of x) (map (λ f. f.security) fs)
    → filter (λ f. not (f.feed == n)) (map subscribed fs) ≡ map subscribed fs
without-above n [] above = refl
without-above n (f ∷ fs) above =
    ap (λ b. cond (not b) (subscribed f ∷ filter (λ f. not (f.feed == n)) (map subscribed fs)) (filter (λ f. not (f.feed == n)) (map subscribed fs)))
    (equal-above (feed_of f) n (omega (arith, above.0)))
    ∙ ap (λ rest. subscribed f ∷ rest) (without-above n fs above.1)

below-more : (n m : ℕ) (fs : List Subscription) → n ≤ m → Below n fs → Below m fs
below-more n m [] less below = tt
below-more n m (f ∷ fs) less below = (omega (arith, less, below.0), below-more n m fs less below.1)

-- without one feed, which is the first behind those of lower numbers
without-first : (c : List Subscription) (f : Followed) (fs : List Followed) → Below (feed_of f) c
    → Each (λ x. feed_of f + 1 ≤ number_of x) (map (λ f. f.security) fs)
    → without_one (c ++ subscribed f ∷ map subscribed fs) f.security.active.feed ≡ c ++ map subscribed fs
without-first c f fs below above =
    let n = feed_of f in
    let p : Subscription → Bool = λ s. not (s.feed == n) in
    filter-append p c (subscribed f ∷ map subscribed fs)
    ∙ (ap (λ front. front ++ filter p (subscribed f ∷ map subscribed fs)) (without-below n c below)
    ∙ (ap (λ b. c ++ cond (not b) (subscribed f ∷ filter p (map subscribed fs)) (filter p (map subscribed fs))) (equal-self n)
    ∙ ap (λ rest. c ++ rest) (without-above n fs above)))

-- one security leaves, or stays, in front of others
leave-one : (p : Followed → Bool) (b : Bool) (from until : ℕ) (c : List Subscription) (f : Followed) (fs : List Followed)
    → Below from c → NumbersRise from until (f.security ∷ map (λ f. f.security) fs)
    → ((d : List Subscription) → Below (feed_of f + 1) d
    → without_all (d ++ map subscribed fs) (map (λ f. f.security.active.feed) (filter p fs)) ≡ d ++ map subscribed (filter (λ f. not (p f)) fs))
    → without_all (c ++ subscribed f ∷ map subscribed fs) (map (λ f. f.security.active.feed) (cond b (f ∷ filter p fs) (filter p fs)))
    ≡ c ++ map subscribed (cond (not b) (f ∷ filter (λ f. not (p f)) fs) (filter (λ f. not (p f)) fs))
leave-one p true from until c f fs below rise others =
    let above = rise-above (feed_of f + 1) until (map (λ f. f.security) fs) rise.1 in
    ap (λ active. without_all active (map (λ (f : Followed). f.security.active.feed) (filter p fs)))
    (without-first c f fs (below-more from (feed_of f) c rise.0 below) above)
    ∙ others c (below-more from (feed_of f + 1) c (omega (arith, rise.0)) below)
leave-one p false from until c f fs below rise others =
    let here : Below (feed_of f + 1) (c ++ subscribed f ∷ []) =
    each-append (λ (s : Subscription). s.feed < feed_of f + 1) c (subscribed f ∷ []) (below-more from (feed_of f + 1) c (omega (arith, rise.0)) below) (omega arith, tt) in
    ap (λ active. without_all active (map (λ (f : Followed). f.security.active.feed) (filter p fs))) (sym (append_assoc c (subscribed f ∷ []) (map subscribed fs)))
    ∙ (others (c ++ subscribed f ∷ []) here
    ∙ append_assoc c (subscribed f ∷ []) (map subscribed (filter (λ f. not (p f)) fs)))

-- securities leave
pub without-leaving : (p : Followed → Bool) (from until : ℕ) (c : List Subscription) (fs : List Followed)
    → Below from c → NumbersRise from until (map (λ f. f.security) fs)
    → without_all (c ++ map subscribed fs) (map (λ f. f.security.active.feed) (filter p fs)) ≡ c ++ map subscribed (filter (λ f. not (p f)) fs)
without-leaving p from until c [] below rise = refl
without-leaving p from until c (f ∷ fs) below rise =
    leave-one p (p f) from until c f fs below rise (λ d here. without-leaving p (feed_of f + 1) until d fs here rise.1)

-- numbers from one on lie below what is behind them
numbered-below : (n : ℕ) (keys : List FeedKey) → Below (n + length keys) (numbered n keys)
numbered-below n [] = tt
numbered-below n (key ∷ keys) =
    (omega arith, below-more (n + 1 + length keys) (n + length (key ∷ keys)) (numbered (n + 1) keys) (omega arith) (numbered-below (n + 1) keys))

pub below-all : (keys : List FeedKey) → Below (length keys) (numbered 0 keys)
below-all keys =
    let same : 0 + length keys ≡ length keys = omega arith in
    subst (λ n. Below n (numbered 0 keys)) same (numbered-below 0 keys)
