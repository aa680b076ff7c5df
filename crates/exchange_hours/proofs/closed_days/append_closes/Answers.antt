use Rattle.std.proofs.Common.{Ok, ap, sym, ◌∙◌}
use Rattle.std.proofs.lemmas.Result.{err_from_is_err_and}
use Rattle.exchange_hours.specs.HoursFile.{both}
use Rattle.exchange_hours.proofs.ReadingLemmas.{both_fault, both_next, members_next}
use Rattle.exchange_hours.proofs.closed_days.append_closes.Goals as goal

pub loop-date-preserved : goal.loop-date-preserved
loop-date-preserved c =
    let step = members_next c.loop-date.date-iterator c.next.new.self c.in-Some.date.now c.in-Some.time.now c.as_str.result.now c.in-Some.ensures.steps c.as_str.ensures.value in
    both_next c.loop-date.out.items c.append_close.new.out.items _ _ _ (ap (both (Ok c.loop-date.out.items)) (sym step) ∙ c.loop-date.invariant) c.in_ok-append_close.ensures

pub returns-in_err-append_close : goal.returns-in_err-append_close
returns-in_err-append_close c =
    let p = err_from_is_err_and c.from_residual.result c.from_residual.ensures.1 in
    let step = members_next c.loop-date.date-iterator c.next.new.self c.in-Some.date.now c.in-Some.time.now c.as_str.result.now c.in-Some.ensures.steps c.as_str.ensures.value in
    rw (p.1, p.2) (both_fault c.loop-date.out.items _ _ _ _ (ap (both (Ok c.loop-date.out.items)) (sym step) ∙ c.loop-date.invariant) c.in_err-append_close.ensures)
