use Rattle.clock_book.proofs.RangeLemmas.{commands-replies, commands-named, fitting-replies}
use Rattle.clock_book.proofs.laws.replies_are_in_range.Goals as goal

pub returns-clause-replies : goal.returns-clause-replies
returns-clause-replies c = commands-replies

pub returns-clause-named : goal.returns-clause-named
returns-clause-named c = commands-named

pub returns-clause-fitting : goal.returns-clause-fitting
returns-clause-fitting c = fitting-replies
