-- Behind its head a security leaves what it left, without the row.
use Rattle.daily_tape.proofs.FollowLemmas.{follows-row}
use Rattle.report_pages.proofs.PrintedLemmas.{on_ok}
use Rattle.daily_tape.proofs.printing.print_head.Goals as goal

pub returns-clause-follows : goal.returns-clause-follows
returns-clause-follows g c =
    on_ok c.print_row-printed.result _ (λ f k security follows.
    follows-row g.H.Hand.files g.H.Hand.rest f k security c.args.source.now c.advance.new.self c.args.row
    c.requires.head c.advance.ensures.symbol c.advance.ensures.kept (c.advance.ensures.told f) follows)
