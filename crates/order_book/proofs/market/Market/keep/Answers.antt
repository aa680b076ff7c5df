use Rattle.std.proofs.Common.{sym, subst}
use Rattle.std.specs.Map.{lookup}
use Rattle.portfolio.specs.Symbols.{same_symbol}
use Rattle.order_book.specs.Resting.{ArePriced}
use Rattle.order_book.proofs.BarLemmas.{kept_bar, priced_insert}
use Rattle.order_book.proofs.market.Market.keep.Goals as goal

pub returns-clause-kept : goal.returns-clause-kept
returns-clause-kept c s =
    kept_bar s c.args.symbol c.args.bar.now (lookup (same_symbol s) c.args.self.now.bars.entries) (lookup (same_symbol s) c.insert.new.self.entries) c.if-not-bar.false
    (c.in-Ok.ensures.updates.0 s)

pub returns-clause-bars : goal.returns-clause-bars
returns-clause-bars c =
    subst ArePriced (sym c.in-Ok.ensures.entries) (priced_insert c.args.self.now.bars.entries c.args.symbol c.args.bar.now c.requires.bars c.requires.priced)
