use Rattle.std.proofs.Common.{sym}
use Rattle.std.proofs.lemmas.List.{take_rest}
use Rattle.coarse_csv.proofs.ColumnLemmas.{fields-alone, fields-divided}
use Rattle.coarse_csv.proofs.columns.split_field.Goals as goal

pub returns-in-None-clause-none : goal.returns-in-None-clause-none
returns-in-None-clause-none c = fields-alone c.args.text.now (sym c.in-None.ensures)

pub returns-in-Some-clause-some : goal.returns-in-Some-clause-some
returns-in-Some-clause-some c = rw take_rest (fields-divided c.args.text.now c.in-Some.at (sym c.in-Some.ensures))
