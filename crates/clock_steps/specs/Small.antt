-- Small steps, on which the definitions are computed.
use Rattle.std.specs.Prelude.{ℕ, ◌+◌, ◌%◌, ◌==◌, List, [], ◌∷◌, Some, None, if◌then◌else◌}
use Rattle.clock_steps.specs.Runs.{Ran}

-- each step adds its number to the state, and prints it
abbrev pub counts : ℕ → ℕ → Ran ℕ ℕ ℕ
counts t s = record { lines = (s + t) ∷ []; state = s + t; stop = None }

-- each step prints its number, and step 5 stops
abbrev pub stops_at_five : ℕ → ℕ → Ran ℕ ℕ ℕ
stops_at_five t s = record { lines = t ∷ []; state = s; stop = if t == 5 then Some 5 else None }

-- an even moment gives itself
abbrev pub evens : ℕ → List ℕ
evens t = if t % 2 == 0 then t ∷ [] else []
