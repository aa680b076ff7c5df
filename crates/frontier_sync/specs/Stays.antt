-- What a call on a pool leaves as it was, whatever it takes.
use Rattle.std.specs.Prelude.{◌≡◌, ℕ, ◌≤◌, List, Option}
use Rattle.std.specs.Borrow.{GName}
use Rattle.lean_items.specs.declared.feed_key.FeedKey.{FeedKey}
use Rattle.lean_items.specs.declared.item.Item.{Item}

-- What the folder tells, the lists of the keys and where the folder is borrowed stay the same, and no count of faults falls.
pub record Stays {P : Type 0} (files : P → Option (List ℕ → Option (List ℕ))) (lists : P → Option (FeedKey → List Item)) (faults : P → ℕ) (place : P → GName) (old new : P) : Type 0 where
  pub told : files new ≡ files old
  pub keyed : lists new ≡ lists old
  pub grows : faults old ≤ faults new
  pub placed : place new ≡ place old
