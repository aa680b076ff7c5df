-- The rule of a lane. Each end has a view: what it may do, what it sent and what it took. What was sent is what was taken and then
-- what the queue holds. At most one view may send, and it has the list of what was sent; the same for taking.
use Rattle.std.specs.Prelude.{◌≡◌, ℕ, Bool, true, false, List, [], ◌++◌}
use mathlib.Core.Option.{some}
use lib.ListN.{get_elem?}
use Rattle.feed_queue.specs.declared.rule.Role.{Role}
use Rattle.feed_queue.specs.declared.rule.Role.TheVariants.{Both, Writing, Reading, Spent}
use Rattle.feed_queue.specs.declared.rule.View.{View}

abbrev pub may_send : Role → Bool
may_send Both = true
may_send Writing = true
may_send Reading = false
may_send Spent = false

abbrev pub may_take : Role → Bool
may_take Both = true
may_take Writing = false
may_take Reading = true
may_take Spent = false

module _ {T : Type 0} where
  abbrev pub view_of : Role → List T → List T → View T
  view_of role sent taken = record { role = role; sent = sent; taken = taken }

  -- the view at a place has what it may have: a writer no taken list, a reader no sent list, and a spent view neither
  abbrev pub Fits : ℕ → ℕ → List T → List T → ℕ → View T → Type 0
  Fits writer reader sent taken place v =
      (may_send v.role ≡ true → (place ≡ writer) × (v.sent ≡ sent))
      × (may_take v.role ≡ true → (place ≡ reader) × (v.taken ≡ taken))
      × (may_send v.role ≡ false → v.sent ≡ [])
      × (may_take v.role ≡ false → v.taken ≡ [])

  abbrev pub InOrder : List T → List (View T) → Type 0
  InOrder items views = (writer : ℕ) × (reader : ℕ) × (sent : List T) × (taken : List T) × (sent ≡ taken ++ items)
      × ((place : ℕ) (v : View T) → get_elem? views place ≡ some v → Fits writer reader sent taken place v)

  -- what a writer learns of the items in the queue: with some that were taken they are what it sent
  abbrev pub SomeTaken : List T → List T → Type 0
  SomeTaken sent items = (taken : List T) × (sent ≡ taken ++ items)

  -- what a reader learns of them: with what it took they are what was sent
  abbrev pub SomeSent : List T → List T → Type 0
  SomeSent taken items = (sent : List T) × (sent ≡ taken ++ items)

  -- what an end that may do both learns of them
  abbrev pub IsTotal : View T → List T → Type 0
  IsTotal v items = v.sent ≡ v.taken ++ items
