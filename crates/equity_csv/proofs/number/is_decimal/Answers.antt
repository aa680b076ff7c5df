use Rattle.equity_csv.proofs.number.is_decimal.Goals as goal

pub returns : goal.returns
returns c = c.is_ascii_digit.ensures.value
