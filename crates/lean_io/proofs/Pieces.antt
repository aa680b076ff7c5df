use Rattle.std.proofs.Common.{ℕ, ◌+◌, ◌-◌, ◌≡◌, List, ◌++◌, length, take, drop, Option, Some, None, option_map, append_assoc, refl}
use Rattle.std.proofs.Math.Seq.{take-add}
use Rattle.std.proofs.lemmas.List.{take_rest}

-- what was told before a piece of the bytes left, and then that piece: a longer front of the bytes
pub told_more : (before now after : Option (List ℕ)) (xs : List ℕ) (done n : ℕ)
    → now ≡ option_map (λ b. b ++ take done xs) before
    → after ≡ option_map (λ b. b ++ take n (take (length xs - done) (drop done xs))) now
    → after ≡ option_map (λ b. b ++ take (done + n) xs) before
told_more None now after xs done n e h = rw (h, e) refl
told_more (Some b) now after xs done n e h = rw (h, e, take_rest xs done, take-add done n xs, append_assoc) refl
