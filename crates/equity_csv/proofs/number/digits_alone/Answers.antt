use Rattle.std.proofs.Common.{◌∙◌, zero-add, arith}
use Rattle.std.proofs.lemmas.List.{take_rest}
use Rattle.equity_csv.proofs.PlainLemmas.{plain, leading-whole, leading-comma, from_front}
use Rattle.equity_csv.proofs.number.digits_alone.Goals as goal
use Rattle.equity_csv.proofs.number.digits_alone.Goals.{else-end-text-via-then-end-text+else-text-end-ne44, else-end-text-via-else-end-text}

pub returns-clause-read : goal.returns-clause-read
returns-clause-read c =
    let text = c.args.text.now in
    let most = c.args.most in
    let end = c.read_digits-end.result.0 in
    let n = c.read_digits-end.result.1 in
    let said = c.read_digits-end.ensures in
    let p = plain text most end n (said.end ∙ zero-add _) said.within (omega arith) (omega arith) (from_front text end n said.value) (omega arith) in
    rw take_rest (elim c.else-end-text.branch [
      | else-end-text-via-then-end-text+else-text-end-ne44 w ↦ leading-comma text most end n w.if-end-text.true w.if-text-end-ne44.false p
      | else-end-text-via-else-end-text w ↦ leading-whole text most end n (omega (arith, said.within, w.if-end-text.false)) p
    ])
