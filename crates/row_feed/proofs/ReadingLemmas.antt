-- Steps that pass over follow each other.
use Rattle.std.proofs.Common.{ℕ, Bool, List, [], ◌∷◌, ◌++◌, subst, sym, refl}
use Rattle.std.specs.Prelude.{Option}
use Rattle.lean_io.specs.Told.{Files}
use Rattle.lean_io.specs.declared.outside.Hand.{Ghosts}
use Rattle.row_feed.specs.declared.feed.RowFeed.{RowFeed}
use Rattle.row_feed.specs.Reading.{Passes, Passed}

module _ {H : Type 0} {g : Ghosts H} (files : H → Option Files) (rest : H → List ℕ) (is_open : H → Bool) where
  -- through some feeds one has come to be another
  abbrev pub HasPassed : RowFeed H g → RowFeed H g → Type 0
  HasPassed old new = (feeds : List (RowFeed H g)) × Passed files rest is_open old feeds new

  passed_further : (old : RowFeed H g) (feeds : List (RowFeed H g)) (mid new : RowFeed H g) → Passed files rest is_open old feeds mid
      → Passes files rest is_open mid new → Passed files rest is_open old (feeds ++ new ∷ []) new
  passed_further old [] mid new passed passes = (subst (λ feed. Passes files rest is_open feed new) (sym passed) passes, refl)
  passed_further old (between ∷ feeds) mid new passed passes = (passed.0, passed_further between feeds mid new passed.1 passes)

  pub passed_on : (old mid new : RowFeed H g) → HasPassed old mid → Passes files rest is_open mid new → HasPassed old new
  passed_on old mid new passed passes = (passed.0 ++ new ∷ [], passed_further old passed.0 mid new passed.1 passes)
