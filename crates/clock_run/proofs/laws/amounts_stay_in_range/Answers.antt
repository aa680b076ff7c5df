use Rattle.clock_book.proofs.RangeLemmas.{book-money}
use Rattle.clock_run.proofs.RangeLemmas.{parts-stay, moment-range, moment-lines, states-range, marks-fit, requests-fit, files-range}
use Rattle.rule_strategy.specs.Asked.{most_asked}
use Rattle.clock_run.proofs.laws.amounts_stay_in_range.Goals as goal

pub returns-clause-parts : goal.returns-clause-parts
returns-clause-parts c = parts-stay

pub returns-clause-moment : goal.returns-clause-moment
returns-clause-moment c = moment-range

pub returns-clause-lines : goal.returns-clause-lines
returns-clause-lines c = moment-lines

pub returns-clause-states : goal.returns-clause-states
returns-clause-states c = states-range

pub returns-clause-sums : goal.returns-clause-sums
returns-clause-sums c s r = book-money most_asked s.book r.book

pub returns-clause-marks : goal.returns-clause-marks
returns-clause-marks c = marks-fit

pub returns-clause-requests : goal.returns-clause-requests
returns-clause-requests c = requests-fit

pub returns-clause-files : goal.returns-clause-files
returns-clause-files c = files-range
