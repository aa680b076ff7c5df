use Rattle.std.proofs.Common.{◌≡◌, ◌+◌, ◌<◌, ◌≤◌, [], ◌∷◌, ◌++◌, cond, filter, length, get_or, ap, ◌∙◌, arith}
use Rattle.std.specs.Arc.{arc_value}
use Rattle.order_book.specs.Due.{changes_at}
use Rattle.order_book.proofs.PlaceLemmas.{filter_more}
use Rattle.order_book.proofs.market.Market.add_due.Goals as goal

pub add-requires : goal.add-requires
add-requires c = omega (arith, c.loop-i.invariant.room, c.loop-i-test.true)

pub loop-i-preserved : goal.loop-i-preserved
loop-i-preserved c =
    let within : c.loop-i.i < length c.args.places.now = omega (arith, c.loop-i-test.true) in
    record {
      added =
          c.add.ensures.items
          ∙ (λ i. c.loop-i.invariant.added i ++ cond (c.changes_at.ensures i) (get_or c.args.places.now c.loop-i.i 0 ∷ []) [])
          ∙ filter_more (changes_at c.args.self.now.costs (arc_value c.args.self.now.hours) c.args.bar.now c.args.orders.now) c.args.due.now.items c.args.places.now c.loop-i.i within;
      room = omega (arith, within, c.loop-i.invariant.room, c.add.ensures.len, c.add.ensures.capacity);
    }
