-- The bucket of a moment is the only one that holds it, and later moments lie in later buckets.
use Rattle.std.proofs.Common.{ℕ, ◌<◌, ◌≤◌, suc, ◌≡◌, ℤ, pos, negsuc, ◌≤ℤ◌, ◌<ℤ◌, arith, mul-le-mul_right, subst}
use Rattle.std.proofs.lemmas.Int.{ints, by_lt_z}
use Rattle.consolidators.specs.Buckets.{bucket_start, bucket_end, bucket_at}

-- a later bucket begins at the end of this one or after it
pub bucket_end-le : (p : ℕ) (k j : ℤ) → k <ℤ j → bucket_end p k ≤ℤ bucket_start p j
bucket_end-le p (pos k) (pos j) h =
    let kj : suc k ≤ j = omega (arith, ints) in omega (arith, ints, mul-le-mul_right p kj)
bucket_end-le p (pos k) (negsuc j) h = omega (arith, ints)
bucket_end-le p (negsuc k) (pos j) h = omega (arith, ints)
bucket_end-le p (negsuc k) (negsuc j) h =
    let jk : suc j ≤ k = omega (arith, ints) in omega (arith, ints, mul-le-mul_right p jk)

-- a moment lies in its bucket
pub bucket_start-at : (p : ℕ) (s : ℤ) → 0 < p → bucket_start p (bucket_at p s) ≤ℤ s
bucket_start-at p (pos a) h = omega (arith, ints)
bucket_start-at p (negsuc a) h = omega (arith, ints)

pub bucket_end-at : (p : ℕ) (s : ℤ) → 0 < p → s <ℤ bucket_end p (bucket_at p s)
bucket_end-at p (pos a) h = omega (arith, ints)
bucket_end-at p (negsuc a) h = omega (arith, ints)

-- the only bucket that holds a moment
pub bucket_at-only : (p : ℕ) (s k : ℤ) → 0 < p → bucket_start p k ≤ℤ s → s <ℤ bucket_end p k → bucket_at p s ≡ k
bucket_at-only p s k h from to =
    let low : bucket_start p (bucket_at p s) ≤ℤ s = bucket_start-at p s h in
    let high : s <ℤ bucket_end p (bucket_at p s) = bucket_end-at p s h in
    by_lt_z k (bucket_at p s)
    (λ above. let le : bucket_end p k ≤ℤ bucket_start p (bucket_at p s) = bucket_end-le p k (bucket_at p s) above in absurd (omega (arith, ints)))
    (λ below.
    by_lt_z (bucket_at p s) k
    (λ under. let le : bucket_end p (bucket_at p s) ≤ℤ bucket_start p k = bucket_end-le p (bucket_at p s) k under in absurd (omega (arith, ints)))
    (λ level. omega (arith, ints)))

-- an earlier moment lies in no later bucket
pub bucket_at-le : (p : ℕ) (r s : ℤ) → 0 < p → r ≤ℤ s → bucket_at p r ≤ℤ bucket_at p s
bucket_at-le p r s h le =
    let low : bucket_start p (bucket_at p r) ≤ℤ r = bucket_start-at p r h in
    let high : s <ℤ bucket_end p (bucket_at p s) = bucket_end-at p s h in
    by_lt_z (bucket_at p s) (bucket_at p r)
    (λ above. let far : bucket_end p (bucket_at p s) ≤ℤ bucket_start p (bucket_at p r) = bucket_end-le p (bucket_at p s) (bucket_at p r) above in absurd (omega (arith, ints)))
    (λ below. below)

-- a bucket that ends by a moment comes before that moment's
pub bucket-before : (p : ℕ) (s k : ℤ) → 0 < p → bucket_end p k ≤ℤ s → k <ℤ bucket_at p s
bucket-before p s k h ends =
    let high : s <ℤ bucket_end p (bucket_at p s) = bucket_end-at p s h in
    by_lt_z k (bucket_at p s) (λ before. before)
    (λ le.
    by_lt_z (bucket_at p s) k
    (λ under. let far : bucket_end p (bucket_at p s) ≤ℤ bucket_start p k = bucket_end-le p (bucket_at p s) k under in absurd (omega (arith, ints)))
    (λ level. let same : bucket_at p s ≡ k = omega (arith, ints) in let at_end : s <ℤ bucket_end p k = subst (λ j. s <ℤ bucket_end p j) same high in absurd (omega (arith, ints))))
