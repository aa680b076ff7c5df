-- Parts that are appended one after another.
use Rattle.std.proofs.Common.{◌≡◌, ℕ, ◌+◌, List, ◌∷◌, ◌++◌, length, length-append, arith}

pub length_values : (o h l c v : List ℕ) → length ((((44 ∷ o ++ 44 ∷ h) ++ 44 ∷ l) ++ 44 ∷ c) ++ 44 ∷ v) ≡ length o + length h + length l + length c + length v + 5
length_values o h l c v = simp length-append (omega arith)
