-- What is known of all heads.
use Rattle.std.specs.Prelude.{◌≡◌, false, List}
use Rattle.std.specs.List.{All}
use Rattle.lean_items.specs.declared.arrival.Arrival.{Arrival}
use Rattle.frontier_sync.specs.declared.seen.Seen.{Seen}
use Rattle.frontier_sync.specs.declared.seen.Seen.TheVariants.{Nothing, Calm}
use Rattle.frontier_sync.specs.Heads.{stops, IsFrontier}

abbrev pub IsSeen : List Arrival → Seen → Type 0
IsSeen heads Nothing = Unit {0}
IsSeen heads (Calm least) = All (λ a. stops a.item ≡ false) heads × IsFrontier heads least
