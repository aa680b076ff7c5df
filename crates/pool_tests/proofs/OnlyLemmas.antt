-- What was taken of the one feed that was added.
use Rattle.std.proofs.Common.{◌≡◌, ℕ, Some, refl}
use Rattle.std.proofs.lemmas.Bool.{eq-eqb}
use Rattle.lean_items.specs.Taken.{Taken}
use Rattle.pool_tests.specs.Each.{only}

pub only-here : (k : ℕ) (taken : Taken) → only k taken k ≡ Some taken
only-here k taken = rw (eq-eqb k k refl) refl
