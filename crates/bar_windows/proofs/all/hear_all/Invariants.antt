use Rattle.std.proofs.Common.{◌≡◌, map, vec_len}
use Rattle.bar_windows.specs.Recent.{spec_of}
use Rattle.bar_windows.proofs.EachWindow.{HeardTo}
use Rattle.bar_windows.proofs.all.hear_all.Given as goal

abbrev pub invariant-loop-i : goal.invariant-loop-i
invariant-loop-i l =
    (map spec_of l.windows.items ≡ map spec_of l.fn.windows.items)
    × (vec_len l.windows ≡ vec_len l.fn.windows)
    × HeardTo l.closes.items l.fn.close l.i l.windows.items
