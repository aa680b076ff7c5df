use Rattle.report_laws.proofs.AccountLemmas.{closes-add, summary-adds}
use Rattle.report_laws.proofs.laws.fills_account.Goals as goal

pub returns-clause-closes : goal.returns-clause-closes
returns-clause-closes c = closes-add

pub returns-clause-summary : goal.returns-clause-summary
returns-clause-summary c = summary-adds
