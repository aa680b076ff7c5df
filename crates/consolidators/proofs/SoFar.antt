-- The bar of a bucket so far keeps to its ranges.
use Rattle.std.proofs.Common.{ℕ, ℤ, pos, ◌+ℤ◌, ◌≤ℤ◌, ◌<ℤ◌, ◌≡◌, sym, subst, arith, [], ◌∷◌, Some, ap, ◌∙◌, cond, refl, FitsSigned, w64, rules}
use Rattle.std.proofs.lemmas.Int.{ints, clamps}
use Rattle.std.proofs.lemmas.Cmp.{int_eq_equiv}
use Rattle.std.specs.Int.{int_max, int_min}
use Rattle.lean_fixed.specs.Ranges.{IsPrice}
use Rattle.lean_items.specs.declared.bar.Bar.{Bar}
use Rattle.consolidators.specs.Buckets.{bucket_start, bucket_end, bucket_at, bucket_of, bucket, made_from, made_of}
use Rattle.consolidators.specs.Joined.{joined}
use Rattle.consolidators.specs.Pushed.{IsPeriod, IsPushed, IsGiven, IsSoFar}
use Rattle.consolidators.proofs.Minutes.{bucket_start-at, bucket_end-at, bucket_at-only}

fits_between : (z : ℤ) → pos 0 ≤ℤ z → z ≤ℤ pos 1442000000000000000 → FitsSigned w64 z
fits_between z low high = search (rules, arith, ints)

greater_price : (a b : ℤ) → IsPrice a → IsPrice b → IsPrice (int_max a b)
greater_price a b p q = (omega (arith, ints, clamps), omega (arith, ints, clamps))

lesser_price : (a b : ℤ) → IsPrice a → IsPrice b → IsPrice (int_min a b)
lesser_price a b p q = (omega (arith, ints, clamps), omega (arith, ints, clamps))

pub joined-fits : (p : ℕ) (ended : ℤ) (so_far bar : Bar) → IsPeriod p → IsSoFar p ended so_far → IsPushed p bar
    → FitsSigned w64 (so_far.volume.0 +ℤ bar.volume.0)
joined-fits p ended so_far bar period sound pushed =
    let low : pos 0 ≤ℤ (so_far.volume.0 +ℤ bar.volume.0) = omega (arith, ints) in
    let high : (so_far.volume.0 +ℤ bar.volume.0) ≤ℤ pos 1442000000000000000 = omega (arith, ints) in
    fits_between (so_far.volume.0 +ℤ bar.volume.0) low high

-- a bar of the same bucket
pub joined-sound : (p : ℕ) (ended : ℤ) (so_far bar : Bar) → IsPeriod p → IsSoFar p ended so_far → IsPushed p bar
    → ended ≤ℤ bar.start.0 → bar.start.0 <ℤ so_far.end.0 → (x : Bar) → x ≡ joined so_far bar → IsSoFar p bar.end.0 x
joined-sound p ended so_far bar period sound pushed after before x is =
    let from : bucket_start p (bucket_of p so_far) ≤ℤ bar.start.0 = omega (arith, ints) in
    let to : bar.start.0 <ℤ bucket_end p (bucket_of p so_far) = omega (arith, ints) in
    let same : bucket_of p bar ≡ bucket_of p so_far = bucket_at-only p bar.start.0 (bucket_of p so_far) period.0 from to in
    let within : bar.end.0 ≤ℤ bucket_end p (bucket_of p so_far) = subst (λ k. bar.end.0 ≤ℤ bucket_end p k) same pushed.within in
    subst (IsSoFar p bar.end.0) (sym is) (record {
      start = sound.start;
      end = sound.end;
      begun = omega (arith, ints);
      within = omega (arith, ints);
      prices = record {
        opening = sound.prices.opening;
        high = greater_price so_far.high.0 bar.high.0 sound.prices.high pushed.numbers.prices.high;
        low = lesser_price so_far.low.0 bar.low.0 sound.prices.low pushed.numbers.prices.low;
        closing = pushed.numbers.prices.closing;
      };
      positive = omega (arith, ints);
      volume = omega (arith, ints);
    })

-- a bar that is held may be given
pub so_far_given : (p : ℕ) (ended : ℤ) (so_far : Bar) → IsPeriod p → IsSoFar p ended so_far → IsGiven p so_far
so_far_given p ended so_far period sound = record {
  start = sound.start;
  end = sound.end;
  prices = sound.prices;
  volume = (omega (arith, ints), omega (arith, ints));
}

-- a bar that opens a bucket
opens-sound : (p : ℕ) (bar x : Bar) → IsPeriod p → IsPushed p bar
    → made_from (bucket_start p (bucket_of p bar)) (bucket_end p (bucket_of p bar)) bar [] ≡ x → IsSoFar p bar.end.0 x
opens-sound p bar x period pushed is =
    let s : ℤ = bucket_start p (bucket_of p bar) in
    let e : ℤ = bucket_end p (bucket_of p bar) in
    let low : s ≤ℤ bar.start.0 = bucket_start-at p bar.start.0 period.0 in
    let high : bar.start.0 <ℤ e = bucket_end-at p bar.start.0 period.0 in
    let begins : s <ℤ e = omega (arith, ints) in
    let same : bucket_at p s ≡ bucket_of p bar = bucket_at-only p s (bucket_of p bar) period.0 (omega (arith, ints)) begins in
    subst (IsSoFar p bar.end.0) is (record {
      start = ap (bucket_start p) (sym same);
      end = refl;
      begun = omega (arith, ints);
      within = pushed.within;
      prices = record {
        opening = pushed.numbers.prices.opening;
        high = pushed.numbers.prices.high;
        low = pushed.numbers.prices.low;
        closing = pushed.numbers.prices.closing;
      };
      positive = pushed.numbers.volume.0;
      volume = omega (arith, ints);
    })

pub opened-sound : (p : ℕ) (bar x : Bar) → IsPeriod p → IsPushed p bar → Some x ≡ bucket p (bar ∷ []) (bucket_of p bar) → IsSoFar p bar.end.0 x
opened-sound p bar x period pushed is =
    let j : ℤ = bucket_of p bar in
    let whole : Some x ≡ Some (made_from (bucket_start p j) (bucket_end p j) bar []) =
    is ∙ ap (λ t. made_of (bucket_start p j) (bucket_end p j) (cond t (bar ∷ []) [])) (int_eq_equiv.refl j) in
    opens-sound p bar x period pushed (cc)
