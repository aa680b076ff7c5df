use Rattle.std.proofs.Common.{◌≡◌, true, length}
use Rattle.std.specs.List.{filter}
use Rattle.bar_windows.specs.Kept.{is_ranked, reaches}
use Rattle.bar_windows.proofs.candidates.drop_beaten.Given as goal

abbrev pub invariant-loop-earlier : goal.invariant-loop-earlier
invariant-loop-earlier l =
    (l.kept.capacity ≡ l.initial.kept.capacity)
    × (is_ranked l.fn.func l.initial.kept.items ≡ true
    → (filter (λ x. reaches l.fn.func x l.fn.close) l.initial.kept.items ≡ filter (λ x. reaches l.fn.func x l.fn.close) l.kept.items)
    × (is_ranked l.fn.func l.kept.items ≡ true))

abbrev pub decreases-loop-earlier : goal.decreases-loop-earlier
decreases-loop-earlier l = length l.kept.items
