use Rattle.std.proofs.Common.{sym}
use Rattle.std.proofs.lemmas.List.{take_rest}
use Rattle.lean_fixed.proofs.AmountLemmas.{is_amount-point}
use Rattle.lean_fixed.proofs.amount.split_at_point.Goals as goal

pub returns-in-Some-clause-form : goal.returns-in-Some-clause-form
returns-in-Some-clause-form c =
    rw take_rest (is_amount-point c.args.bytes.now c.in-Some.at (sym c.in-Some.ensures))
