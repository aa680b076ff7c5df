-- The feeds of the first symbols were opened.
use Rattle.std.proofs.Common.{◌≡◌, ◌+◌, take}
use Rattle.lean_fixed.specs.Moments.{first_moment}
use Rattle.lean_items.specs.Taken.{Start, no_feeds}
use Rattle.frontier_sync.specs.Heads.{AreOpen}
use Rattle.session_tape.proofs.OpenLemmas.{Opened}
use Rattle.session_tape.proofs.WalkLemmas.{AreNumbered, AllFrom}
use Rattle.frontier_sync.specs.Stays.{Stays}
use Rattle.session_tape.proofs.feeds.open_feeds.Given as goal

abbrev pub invariant-symbols : goal.invariant-symbols
invariant-symbols g l =
    let first = l.fn.pool in
    let now = l.pool in
    record {
      opened : AreOpen (g.P.Pool.is_open now) l.heads;
      numbered : AreNumbered l.place l.heads;
      later : AllFrom (first_moment l.window + 1) l.heads;
      added : g.P.Pool.added now ≡ l.place;
      known : (before : Start) → g.P.Pool.stands first before no_feeds → Opened l.resolution l.window (g.P.Pool.stands now) before l.heads (take l.place l.symbols);
      stays : Stays g.P.Pool.files g.P.Pool.lists g.P.Pool.faults g.P.Pool.place first now;
    }
