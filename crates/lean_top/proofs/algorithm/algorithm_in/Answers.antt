-- What was read of the file says what it gives.
use Rattle.std.proofs.Common.{subst}
use Rattle.lean_io.specs.declared.transfer.Whole.TheVariants.{Missing, Large}
use Rattle.lean_io.specs.Whole.{IsReading}
use Rattle.lean_top.specs.AlgorithmRead.{most_algorithm}
use Rattle.lean_top.proofs.AlgorithmLemmas.{plan_missing, plan_large}
use Rattle.lean_top.proofs.algorithm.algorithm_in.Goals as goal

pub returns-in_ok-bytes_of-in-Missing-clause-told : goal.returns-in_ok-bytes_of-in-Missing-clause-told
returns-in_ok-bytes_of-in-Missing-clause-told c =
    λ file is. (let none : IsReading file most_algorithm Missing = subst (IsReading file most_algorithm) c.in-Missing.is is in
    plan_missing file c.in_ok-bytes_of-in-Missing.field-0.items none c.in_ok-bytes_of-in-Missing.ensures)

pub returns-in_ok-bytes_of-in-Large-clause-told : goal.returns-in_ok-bytes_of-in-Large-clause-told
returns-in_ok-bytes_of-in-Large-clause-told c =
    λ file is. (let large : IsReading file most_algorithm Large = subst (IsReading file most_algorithm) c.in-Large.is is in
    plan_large file large.0 c.in_ok-bytes_of-in-Large.field-0.items large.1 large.2 c.in_ok-bytes_of-in-Large.ensures)
