-- What lies between two places of a buffer.
use Rattle.std.proofs.Common.{ℕ, ◌+◌, ◌-◌, ◌≡◌, ◌<◌, ◌≤◌, List, ◌++◌, length, take, drop, arith, sym, ap, ◌∙◌, length-take, length-drop, add_assoc}
use Rattle.std.proofs.Math.Seq.{take-add}
use Rattle.std.proofs.lemmas.List.{drop-take, drop-drop}

-- what is left between two places when n are taken from the front
pub between-later : (xs : List ℕ) (from to n : ℕ) → n ≤ to - from
    → take (to - (from + n)) (drop (from + n) xs) ≡ drop n (take (to - from) (drop from xs))
between-later xs from to n h =
    let left = to - (from + n) in
    let parts : to - from ≡ n + left = omega arith in
    sym (ap (λ k. drop n (take k (drop from xs))) parts ∙ drop-take n left (drop from xs) ∙ ap (λ ys. take left ys) (drop-drop n from xs))

-- what is ahead after the line that ends at a place of it
pub ahead-later : (xs : List ℕ) (from to place : ℕ) → place < length (take (to - from) (drop from xs))
    → take (to - (from + place + 1)) (drop (from + place + 1) xs) ≡ drop (place + 1) (take (to - from) (drop from xs))
ahead-later xs from to place h =
    let within : place + 1 ≤ to - from = omega (arith, h, length-take (to - from) (drop from xs)) in
    ap (λ n. take (to - n) (drop n xs)) (add_assoc from place 1) ∙ between-later xs from to (place + 1) within

-- what is ahead lies before the place up to which the buffer stays
pub ahead-kept : (old new : List ℕ) (from to : ℕ) → from ≤ to → take to new ≡ take to old
    → take (to - from) (drop from new) ≡ take (to - from) (drop from old)
ahead-kept old new from to order front =
    let left = to - from in
    let parts : to ≡ from + left = omega arith in
    let on : (xs : List ℕ) → drop from (take to xs) ≡ take left (drop from xs) =
    λ (xs : List ℕ). ap (λ n. drop from (take n xs)) parts ∙ drop-take from left xs in
    sym (on new) ∙ ap (λ xs. drop from xs) front ∙ on old

-- a read behind it adds to what is ahead
pub ahead-grown : (old new : List ℕ) (from to n : ℕ) → from ≤ to → take to new ≡ take to old
    → take (to + n - from) (drop from new) ≡ take (to - from) (drop from old) ++ take n (drop to new)
ahead-grown old new from to n order front =
    let left = to - from in
    let parts : from + left ≡ to = omega arith in
    let more : to + n - from ≡ left + n = omega arith in
    let behind : drop left (drop from new) ≡ drop to new = drop-drop left from new ∙ ap (λ k. drop k new) parts in
    ap (λ k. take k (drop from new)) more
    ∙ take-add left n (drop from new)
    ∙ ap (λ xs. xs ++ take n (drop left (drop from new))) (ahead-kept old new from to order front)
    ∙ ap (λ xs. take left (drop from old) ++ take n xs) behind

-- what is ahead fills the buffer
pub length-ahead : (xs : List ℕ) (from to : ℕ) → to ≤ length xs → length (take (to - from) (drop from xs)) ≡ to - from
length-ahead xs from to within = omega (arith, length-take (to - from) (drop from xs), length-drop from xs)

-- what a read gave
pub piece : (xs : List ℕ) (to n : ℕ) → take (to + n - to) (drop to xs) ≡ take n (drop to xs)
piece xs to n = let e : to + n - to ≡ n = omega arith in ap (λ k. take k (drop to xs)) e
