-- What windows remember of the closes.
use Rattle.std.specs.Prelude.{◌≡◌, ℕ, ◌≤◌, List, All}
use Rattle.circular_buffer.specs.Buffer.{Buffer}
use Rattle.lean_fixed.specs.declared.money.Price.{Price}
use Rattle.bar_windows.specs.declared.spec.WindowSpec.{WindowSpec}
use Rattle.bar_windows.specs.declared.window.Window.{Window}
use Rattle.bar_windows.specs.Window.{last_closes}
use Rattle.bar_windows.specs.Kept.{Heard, reach_of}

-- windows of these specifications, and at most so many of the last closes
pub record Recent : Type 0 where
  pub specs : List WindowSpec
  pub most : ℕ
  pub closes : List Price

abbrev pub spec_of : Window → WindowSpec
spec_of window = window.spec

-- the closes reach as far back as each window looks, and each window has heard them
pub record AreHeard (ring : Buffer Price) (windows : List Window) : Type 0 where
  pub reach : All (λ window. reach_of window.spec ≤ ring.capacity) windows
  pub heard : All (Heard ring.items) windows

-- the windows stand for the list of all closes
pub record StandsFor (windows : Recent) (closes : List Price) : Type 0 where
  pub recent : windows.closes ≡ last_closes windows.most closes
