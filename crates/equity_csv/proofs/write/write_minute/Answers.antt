use Rattle.equity_csv.proofs.ReadBackLemmas.{minute_row-line, text-minute_line}
use Rattle.equity_csv.proofs.LengthLemmas.{length-minute_line}
use Rattle.equity_csv.proofs.write.write_minute.Goals as goal

pub returns-clause-read : goal.returns-clause-read
returns-clause-read c = minute_row-line c.number_reads_back.ensures.digits c.args.row.now c.requires

pub returns-clause-text : goal.returns-clause-text
returns-clause-text c = text-minute_line c.number_reads_back.ensures.digits c.args.row.now c.requires

pub returns-clause-short : goal.returns-clause-short
returns-clause-short c = length-minute_line c.args.row.now c.requires
