-- What whole minutes of a session tape print: of the first so many.
use Rattle.std.specs.Prelude.{◌≡◌, ℕ, ◌+◌, ◌-◌, ◌≤◌, List}
use Rattle.lean_fixed.specs.Moments.{first_moment, last_moment}
use Rattle.lean_fixed.specs.declared.time.Window.{Window}
use Rattle.clock_feeds.specs.Slices.{Source}
use Rattle.session_tape.specs.Session.{SessionBar, session_minutes}

pub record IsWhole (sources : List (List ℕ × Source)) (window : Window) (bars : List SessionBar) : Type 0 where
  pub count : ℕ
  pub small : count ≤ last_moment window + 1 - first_moment window
  pub is : bars ≡ (session_minutes sources window count).lines
