use Rattle.std.proofs.Common.{rules, ◌≡◌}
use Rattle.clock_book.specs.Books.{equity_of, others_of, position_of}
use Rattle.clock_book.specs.Submits.{fee_of}
use Rattle.order_book.proofs.ServesLemmas.{power_is}
use Rattle.order_book.proofs.book.Book.power.Goals as goal

pub returns-clause-value : goal.returns-clause-value
returns-clause-value c book stands =
    let equity : c.equity.result.0 ≡ equity_of book = search rules in
    let others : c.gross_without.result.0 ≡ others_of book c.args.request.now.symbol = search rules in
    let held : c.position.result.0 ≡ position_of book c.args.request.now.symbol = search rules in
    let leverage : c.self.inside.leverage ≡ book.leverage = search rules in
    let fee : c.fee.result.0 ≡ fee_of book.costs c.args.request.now.quantity.0 = search rules in
    power_is book c.args.request.now c.equity.result c.gross_without.result c.fee.result c.position.result c.args.price c.self.inside.leverage equity others held leverage fee
