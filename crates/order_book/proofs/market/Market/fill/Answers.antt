use Rattle.std.proofs.Common.{sym}
use Rattle.portfolio.specs.Symbols.{same_symbol}
use Rattle.order_book.proofs.BarLemmas.{priced_found}
use Rattle.order_book.proofs.market.Market.fill.Goals as goal

pub fill_on-requires-clause-bar : goal.fill_on-requires-clause-bar
fill_on-requires-clause-bar c =
    priced_found c.args.self.now.bars.entries (same_symbol c.args.order.now.symbol) c.in-Some.bar.now c.requires.bars (sym c.in-Some.ensures.value)
