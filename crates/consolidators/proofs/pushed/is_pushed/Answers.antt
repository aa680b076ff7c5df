-- Each test that passed is a part of what is owed.
use Rattle.std.proofs.Common.{◌≤ℤ◌, arith, subst}
use Rattle.std.proofs.lemmas.Int.{ints}
use Rattle.consolidators.proofs.pushed.is_pushed.Goals as goal

pub returns-clause-yes : goal.returns-clause-yes
returns-clause-yes c = λ fits.
    let inside : c.args.bar.now.end.0 ≤ℤ c.end_of.result = omega (arith, ints) in
    record {
      numbers = c.are_numbers.ensures.yes c.if-not-are_numbers.false;
      after = omega (arith, ints);
      within = subst (λ end. c.args.bar.now.end.0 ≤ℤ end) c.end_of.ensures inside;
    }
