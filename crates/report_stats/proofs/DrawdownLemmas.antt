-- The peak and the drawdown of one equity more.
use Rattle.std.proofs.Common.{◌≡◌, ℤ, ◌-ℤ◌, pos, List, [], ◌∷◌, ◌++◌, refl, ap, ◌∙◌, arith}
use Rattle.std.specs.Int.{int_max}
use Rattle.std.proofs.lemmas.Int.{ints, clamps}
use Rattle.clock_run.specs.Summary.{drawdown}
use Rattle.report_stats.specs.Stands.{peak_of}

max-turned : (a b : ℤ) → int_max a b ≡ int_max b a
max-turned a b = omega (arith, ints, clamps)

max-twice : (a b c : ℤ) → int_max a (int_max b c) ≡ int_max (int_max a b) c
max-twice a b c = omega (arith, ints, clamps)

pub peak-push : (start : ℤ) (equities : List ℤ) (equity : ℤ) → peak_of start (equities ++ equity ∷ []) ≡ int_max (peak_of start equities) equity
peak-push start [] equity = refl
peak-push start (first ∷ equities) equity = peak-push (int_max start first) equities equity

pub drawdown-push : (start : ℤ) (equities : List ℤ) (equity : ℤ)
    → drawdown start (equities ++ equity ∷ []) ≡ int_max (drawdown start equities) (peak_of start equities -ℤ equity)
drawdown-push start [] equity = max-turned (start -ℤ equity) (pos 0)
drawdown-push start (first ∷ equities) equity =
    ap (int_max (start -ℤ first)) (drawdown-push (int_max start first) equities equity)
    ∙ max-twice (start -ℤ first) (drawdown (int_max start first) equities) (peak_of (int_max start first) equities -ℤ equity)
