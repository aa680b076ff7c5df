use Rattle.report_lines.proofs.ReadBacks.{whole-read}
use Rattle.report_lines.proofs.laws.line_reads_back.Goals as goal

pub returns : goal.returns
returns c event symbol h e s =
    whole-read c.number_reads_back.ensures.plain c.amount_reads_back.ensures.plain c.money_has_no_sign.ensures c.moment_reads_back.ensures.fourteen
    c.moment_reads_back.ensures.same event.at.0 event.id event.symbol event.what symbol h.at h.id h.what e s
