-- The text of the first day is read as that day.
use Rattle.std.proofs.Common.{rules, arith}
use Rattle.equity_csv.proofs.DatedLemmas.{first_spelled}
use Rattle.equity_csv.proofs.dates.Dates.new.Goals as goal

pub invariant_of-result : goal.invariant_of-result
invariant_of-result c = record {
  spelled = first_spelled c.digits.result c.digits.ensures.value (c.day_reads_back.ensures.same 0 (omega arith));
  range = search rules;
}
