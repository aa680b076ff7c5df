-- Active securities in a line, for worked values.
use Rattle.std.specs.Prelude.{ℕ, Bool, List}
use Rattle.universe_state.specs.Active.{Active}

abbrev pub security : List ℕ → ℕ → Bool → Bool → Active
security symbol feed listed marked =
    record { symbol = symbol; feed = record { 0 = feed }; listed = listed; marked = marked }
