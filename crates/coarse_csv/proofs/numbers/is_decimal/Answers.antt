use Rattle.coarse_csv.proofs.numbers.is_decimal.Goals as goal

pub returns : goal.returns
returns c = c.is_ascii_digit.ensures.value
