use Rattle.std.proofs.lemmas.Result.{err_from_is_err_and}
use Rattle.std.proofs.Common.{rules}
use Rattle.exchange_hours.specs.HoursFile.{segment}
use Rattle.exchange_hours.proofs.ReadingLemmas.{left_more, left_fault, left_none}
use Rattle.exchange_hours.proofs.segments.append_segments.Goals as goal

pub loop-value-preserved : goal.loop-value-preserved
loop-value-preserved c =
    left_more (segment c.args.weekday) c.loop-value.out.items c.append_segment.new.out.items c.args.list.now.items c.loop-value.value-index c.value-item.result _ (search rules) (cc) c.loop-value.invariant c.in_ok-append_segment.ensures

pub returns-in_err-append_segment : goal.returns-in_err-append_segment
returns-in_err-append_segment c =
    let p = err_from_is_err_and c.from_residual.result c.from_residual.ensures.1 in
    rw (p.1, p.2) (left_fault (segment c.args.weekday) c.loop-value.out.items c.args.list.now.items c.loop-value.value-index c.value-item.result _ _ (search rules) (cc) c.loop-value.invariant c.in_err-append_segment.ensures)

pub returns : goal.returns
returns c = left_none (segment c.args.weekday) c.loop-value.out.items c.args.list.now.items c.loop-value.value-index _ (search rules) c.loop-value.invariant
