-- How far the walk has come.
use Rattle.std.proofs.Common.{◌+◌, ◌-◌, ◌≤◌, length}
use Rattle.std.specs.List.{All}
use Rattle.lean_fixed.specs.Moments.{first_moment, last_moment}
use Rattle.lean_items.specs.Taken.{Start, Feeds}
use Rattle.frontier_sync.specs.Heads.{AreOpen}
use Rattle.frontier_sync.specs.Stands.{IsTaken}
use Rattle.report_pages.specs.Printed.{HasRoom}
use Rattle.session_tape.proofs.WalkLemmas.{AreNumbered, AllFrom, Known}
use Rattle.frontier_sync.specs.Stays.{Stays}
use Rattle.session_tape.proofs.walk.walk.Given as goal

abbrev pub invariant-minutes : goal.invariant-minutes
invariant-minutes g l =
    let first = l.fn.pool in
    let now = l.pool in
    record {
      opened : AreOpen (g.P.Pool.is_open now) l.heads;
      numbered : AreNumbered (length l.symbols) l.heads;
      later : AllFrom (l.at + 1) l.heads;
      low : first_moment l.window ≤ l.at;
      high : l.at ≤ last_moment l.window;
      known : (before : Start) (feeds : Feeds) → g.P.Pool.stands first before feeds → All (IsTaken feeds) l.fn.heads
          → Known l.fn.resolution l.window l.symbols (g.P.Pool.stands now) before feeds l.fn.heads l.heads l.at l.rows
          (g.S.Sink.told l.fn.out) (g.S.Sink.told l.out) l.fn.page l.page;
      room : HasRoom l.page;
      sink_grows : g.S.Sink.faults l.fn.out ≤ g.S.Sink.faults l.out;
      stays : Stays g.P.Pool.files g.P.Pool.lists g.P.Pool.faults g.P.Pool.place first now;
    }

abbrev pub decreases-minutes : goal.decreases-minutes
decreases-minutes g l = last_moment l.window + 1 - l.at
