-- The malformed line is one of the only file.
use Rattle.daily_tape.proofs.Reporting.{bad_line_at}
use Rattle.daily_tape.proofs.tape.append_stop.Goals as goal

pub returns-in_ok-append_refusal-in-Bad-clause-last : goal.returns-in_ok-append_refusal-in-Bad-clause-last
returns-in_ok-append_refusal-in-Bad-clause-last g c =
    bad_line_at c.args.source.now.symbol c.args.source.now.head c.in-Bad.bad c.in_only_file.result c.daily.result c.args.page.now c.append_refusal.new.page
    c.in-Bad.is c.in_only_file.ensures c.daily.ensures c.in_ok-append_refusal-in-Bad.ensures.ok
