use Rattle.clock_book.proofs.RangeLemmas.{new-range, commands-range, commands-count, book-money}
use Rattle.clock_book.proofs.laws.numbers_stay_in_range.Goals as goal

pub returns-clause-begins : goal.returns-clause-begins
returns-clause-begins c = new-range

pub returns-clause-stays : goal.returns-clause-stays
returns-clause-stays c = commands-range

pub returns-clause-few : goal.returns-clause-few
returns-clause-few c = commands-count

pub returns-clause-sums : goal.returns-clause-sums
returns-clause-sums c = book-money
