-- Part behind part.
use Rattle.report_pages.proofs.WrittenLemmas.{row_added}
use Rattle.report_pages.proofs.line.write_row.Goals as goal

pub returns-clause-added : goal.returns-clause-added
returns-clause-added c =
    row_added c.args.front.now c.args.symbol.now c.args.trades.now c.volume_of.result
    c.args.place c.write_front-at.result c.write_symbol-at.result c.write_price-at.result c.write_price-at-2.result c.write_price-at-3.result c.write_price-at-4.result
    c.write_number-at.result c.write_byte.result
    c.args.line.now c.write_front-at.new.line c.write_symbol-at.new.line c.write_price-at.new.line c.write_price-at-2.new.line c.write_price-at-3.new.line c.write_price-at-4.new.line
    c.write_number-at.new.line c.write_byte.new.line
    c.volume_of.ensures c.write_front-at.ensures c.write_symbol-at.ensures.added c.write_price-at.ensures.added c.write_price-at-2.ensures.added c.write_price-at-3.ensures.added
    c.write_price-at-4.ensures.added c.write_number-at.ensures.added c.write_byte.ensures.added
