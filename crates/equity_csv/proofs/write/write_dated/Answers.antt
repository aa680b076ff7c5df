use Rattle.std.proofs.Common.{◌≡◌, ◌==◌, ◌/◌, true, arith, refl}
use Rattle.std.proofs.lemmas.Bool.Decides.{nat_tests}
use Rattle.lean_fixed.specs.declared.resolution.Resolution.TheVariants.{Hour, Daily}
use Rattle.equity_csv.specs.Written.{minute_of_row}
use Rattle.equity_csv.proofs.ReadBackLemmas.{dated_row-line, text-dated_line}
use Rattle.equity_csv.proofs.LengthLemmas.{length-dated_line}
use Rattle.equity_csv.proofs.write.write_dated.Goals as goal

pub returns-clause-read : goal.returns-clause-read
returns-clause-read c = dated_row-line c.number_reads_back.ensures.digits c.day_reads_back.ensures.same c.args.row.now c.requires.row c.requires.whole Hour refl

pub returns-clause-daily : goal.returns-clause-daily
returns-clause-daily c = λ midnight.
    let hour : (minute_of_row c.args.row.now / 60 == 0) ≡ true = grind (arith, nat_tests) in
    dated_row-line c.number_reads_back.ensures.digits c.day_reads_back.ensures.same c.args.row.now c.requires.row c.requires.whole Daily hour

pub returns-clause-text : goal.returns-clause-text
returns-clause-text c = text-dated_line c.number_reads_back.ensures.digits c.day_reads_back.ensures.same c.args.row.now c.requires.row

pub returns-clause-short : goal.returns-clause-short
returns-clause-short c = length-dated_line c.day_reads_back.ensures.eight c.args.row.now c.requires.row
