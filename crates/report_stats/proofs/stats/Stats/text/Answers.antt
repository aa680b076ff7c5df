use Rattle.std.proofs.Common.{◌≡◌, ◌++◌, ap, ◌∙◌, flat_map, length, filter}
use Rattle.std.specs.Prelude.{codes}
use Rattle.portfolio.specs.Sums as sums
use Rattle.clock_book.specs.Books.{price_marks, is_live}
use Rattle.clock_run.specs.Summary.{counts_line, amount_line, live_orders, held_symbols, summary, drawdown}
use Rattle.report_stats.specs.Pieces.{account_lines, line_of}
use Rattle.report_stats.proofs.HoldingLemmas.{pieces}
use Rattle.report_stats.proofs.stats.Stats.text.Goals as goal

pub returns : goal.returns
unfolding summary
returns c = λ b start equities kept stands.
    let marks = price_marks b in
    let account = c.portfolio.ensures.stands b kept in
    let holdings = c.in_ok-append_holdings.ensures b.start b.fills marks (c.portfolio-2.ensures.stands b kept) in
    let accounts = c.in_ok-append_account.ensures b.start b.fills marks account in
    let counts = c.in_ok-append_counts.ensures in
    let keys = c.in_ok-held.ensures b kept in
    let live = c.live_orders-live.ensures ∙ ap (λ orders. length (filter (λ order. is_live order.state) orders)) (c.orders.ensures.stands b kept) in
    let line = counts_line (length b.orders) (length b.fills) (live_orders b) in
    let counted : c.append_counts.new.out.items ≡ line =
    counts
    ∙ (ap (λ items. items ++ counts_line (length c.orders-2.result.now) (length c.fills.result.now) c.live_orders-live.result) c.new-text.ensures.items
    ∙ (ap (λ orders. counts_line (length orders) (length c.fills.result.now) c.live_orders-live.result) (c.orders-2.ensures.stands b kept)
    ∙ (ap (λ fills. counts_line (length b.orders) (length fills) c.live_orders-live.result) (c.fills.ensures.stands b kept)
    ∙ ap (counts_line (length b.orders) (length b.fills)) live))) in
    let below = c.args.self.now.drawdown.0 in
    let summed : c.append_account.new.out.items ≡ line ++ account_lines b.start b.fills marks (drawdown start equities) =
    accounts
    ∙ (ap (λ items. items ++ account_lines b.start b.fills marks below) counted
    ∙ ap (λ d. line ++ account_lines b.start b.fills marks d) stands.drawdown) in
    let parted : line ++ account_lines b.start b.fills marks (drawdown start equities) ≡
    line ++ amount_line (codes "fees") (sums.fees b.fills) ++ amount_line (codes "realised") (sums.realised b.fills)
    ++ amount_line (codes "cash") (sums.cash b.start b.fills) ++ amount_line (codes "equity") (sums.equity b.start b.fills marks)
    ++ amount_line (codes "drawdown") (drawdown start equities) =
    pieces line (amount_line (codes "fees") (sums.fees b.fills)) (amount_line (codes "realised") (sums.realised b.fills))
    (amount_line (codes "cash") (sums.cash b.start b.fills)) (amount_line (codes "equity") (sums.equity b.start b.fills marks))
    (amount_line (codes "drawdown") (drawdown start equities)) in
    holdings
    ∙ (ap (λ keys. c.append_account.new.out.items ++ flat_map (line_of b.fills marks) keys) keys
    ∙ ap (λ items. items ++ flat_map (line_of b.fills marks) (held_symbols b)) (summed ∙ parted))
