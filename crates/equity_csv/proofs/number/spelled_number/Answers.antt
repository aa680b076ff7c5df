use Rattle.std.proofs.Common.{arith}
use Rattle.std.proofs.lemmas.Grind.{common_steps}
use Rattle.equity_csv.proofs.NumberLemmas.{leading-text_none, leading-text_begin, leading_on-drop_other, leading_on-drop_digit, leading_on-large, leading_on-end}
use Rattle.equity_csv.proofs.number.spelled_number.Goals as goal

pub returns-then-not-is_decimal : goal.returns-then-not-is_decimal
returns-then-not-is_decimal c = grind (arith, common_steps, leading-text_none)

pub returns-in_err-behind : goal.returns-in_err-behind
returns-in_err-behind c = grind (arith, common_steps, leading_on-drop_other)

pub returns-then-not-is_decimal-2 : goal.returns-then-not-is_decimal-2
returns-then-not-is_decimal-2 c = grind (arith, common_steps, leading_on-drop_other)

pub returns-then-number-most : goal.returns-then-number-most
returns-then-number-most c = grind (arith, common_steps, leading_on-drop_digit, leading_on-large)

pub loop-i-init : goal.loop-i-init
loop-i-init c = grind (arith, common_steps, leading-text_begin)

pub returns : goal.returns
returns c = grind (arith, common_steps, leading_on-end)

pub loop-i-preserved : goal.loop-i-preserved
loop-i-preserved c = grind (arith, common_steps, leading_on-drop_digit)
