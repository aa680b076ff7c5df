use Rattle.std.proofs.Common.{ℕ, arith}
use Rattle.std.specs.Prelude.{nat_eq}
use Rattle.std.specs.Arc.{arc_value}
use Rattle.std.proofs.lemmas.List.Filters.{dedup_is}
use Rattle.std.proofs.lemmas.List.Sorted.{IsNonDecreasingBy-from_sort}
use Rattle.order_book.proofs.PlaceLemmas.{due_named, next_found}
use Rattle.order_book.proofs.market.Market.find_due.Goals as goal

pub loop-i-preserved : goal.loop-i-preserved
loop-i-preserved c = record {
  waits = c.find_next.ensures.waits;
  found =
      next_found c.args.self.now.costs (arc_value c.args.self.now.hours) c.args.self.now.bars.entries c.loop-i.i c.args.orders.now c.loop-i.due.items c.find_next.new.due.items
      c.loop-i.invariant.found c.find_next.ensures.grows c.in-Ok.ensures.found;
  within = c.find_next.ensures.grows.within c.loop-i.invariant.within;
}

pub returns-clause-due : goal.returns-clause-due
returns-clause-due c =
    due_named c.args.self.now.costs (arc_value c.args.self.now.hours) c.args.self.now.bars.entries c.args.orders.now c.loop-i.due.items c.sort_unstable.new.self.items
    c.dedup.new.self.items (λ i l. c.loop-i.invariant.found i (omega (arith, l, c.loop-i-test.false, c.len-i-end.ensures.len))) c.loop-i.invariant.within
    c.sort_unstable.ensures.permutation (IsNonDecreasingBy-from_sort (λ (p : ℕ). p) c.sort_unstable.new.self.items c.sort_unstable.ensures.sorted)
    (dedup_is nat_eq c.sort_unstable.new.self.items c.dedup.new.self.items c.dedup.ensures.filtered)
