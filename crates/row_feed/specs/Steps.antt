-- What one step of a feed gives: an item, or nothing yet.
use Rattle.std.specs.Prelude.{◌≡◌, ℕ, ◌<◌, ℤ, pos, ◌≤ℤ◌, nat_lt, if◌then◌else◌, Bool, true, List, [], ◌∷◌, Option, Some, None}
use Rattle.lean_items.specs.declared.feed_key.FeedKind.{FeedKind}
use Rattle.lean_items.specs.declared.feed_key.FeedKind.TheVariants.{Coarse as CoarseFiles, Equity}
use Rattle.lean_items.specs.declared.item.Item.{Item}
use Rattle.lean_items.specs.declared.item.Item.TheVariants.{Bar, Coarse, Bad, Faulted, End}
use Rattle.lean_fixed.specs.declared.resolution.Resolution.{Resolution}
use Rattle.lean_items.specs.declared.reason.Reason.{Reason}
use Rattle.lean_items.specs.declared.reason.Reason.TheVariants.{Long, Many}
use Rattle.lean_items.specs.Given.{GivesItem, OnRow, OnFaulted}
use Rattle.lean_items.specs.Fits.{fits, end_or}
pub use Rattle.clock_feeds.specs.Lists.{IsOfKind}

-- of a list that was left an item was given, or the whole list is still left
abbrev pub StepGives : (List Item → Type 0) → List Item → Option Item → Type 0
StepGives leaves list None = leaves list
StepGives leaves list (Some item) = GivesItem leaves list item

-- one list is what another is behind what was given
abbrev pub StepsTo : List Item → List Item → Option Item → Type 0
StepsTo old new None = old ≡ new
StepsTo old new (Some (Bar bar)) = old ≡ Bar bar ∷ new
StepsTo old new (Some (Coarse at row)) = old ≡ Coarse at row ∷ new
StepsTo old new (Some (Bad bad)) = old ≡ Bad bad ∷ []
StepsTo old new (Some Faulted) = Unit {0}
StepsTo old new (Some End) = old ≡ End ∷ []

-- where the last row ends, after a step
abbrev pub at_after : ℤ → Option Item → ℤ
at_after at None = at
at_after at (Some item) = end_or at item

abbrev pub step_fits : ℤ → Option Item → Bool
step_fits at None = true
step_fits at (Some item) = fits at item

abbrev pub StepWithin : ℕ → Option Item → Type 0
StepWithin last None = Unit {0}
StepWithin last (Some item) = OnRow item (end_or (pos 0) item ≤ℤ pos last)

abbrev pub StepIsOfKind : FeedKind → Option Item → Type 0
StepIsOfKind kind None = Unit {0}
StepIsOfKind kind (Some item) = IsOfKind kind item

-- a malformed line of a file
abbrev pub bad_item : ℕ → ℕ → Reason → Item
bad_item file line reason = Bad (record { file = file; line = line; reason = reason })

abbrev pub IsBad : Item → Type 0
IsBad (Bad bad) = Unit {0}
IsBad (Bar bar) = ⊥
IsBad (Coarse at row) = ⊥
IsBad Faulted = ⊥
IsBad End = ⊥

-- why a line that is too long is malformed, behind so many lines of a coarse file that are not blank
abbrev pub long_reason : FeedKind → ℕ → Reason
long_reason CoarseFiles count = if nat_lt count 20_000 then Long else Many
long_reason (Equity symbol resolution) count = Long

-- the resolution of a feed of bars
abbrev pub resolution_of : FeedKind → Option Resolution
resolution_of CoarseFiles = None
resolution_of (Equity symbol resolution) = Some resolution

-- of a failed read a fact holds
abbrev pub OnStepFaulted : Option Item → Type 0 → Type 0
OnStepFaulted None P = Unit {0}
OnStepFaulted (Some item) P = OnFaulted item P

-- less room is left, but behind a last item
abbrev pub StepIsShorter : ℕ → ℕ → Option Item → Type 0
StepIsShorter old new None = new < old
StepIsShorter old new (Some item) = OnRow item (new < old)
