-- Why a choice was not made. The universe is as it was.
use Rattle.std.specs.Prelude.{◌≡◌, ℕ, ◌<◌, List, length, take}
use Rattle.universe_state.specs.declared.refusal.ChooseRefusal.{ChooseRefusal}
use Rattle.universe_state.specs.declared.refusal.ChooseRefusal.TheVariants.{NoMemory, TooMany}
use Rattle.universe_state.specs.Active.{Active}
use Rattle.universe_state.specs.Choice.{additions, room}

-- too many would be active: those that there is room for are told, in the order of selection
abbrev pub Refuses : List (List ℕ) → List Active → List Active → ChooseRefusal → Type 0
Refuses symbols before after NoMemory = after ≡ before
Refuses symbols before after (TooMany first) =
    (after ≡ before)
    × (room before < length (additions symbols before))
    × (first.items ≡ take (room before) (additions symbols before))
