use Rattle.std.proofs.Common.{Ok, ap, sym, ◌∙◌, arith}
use Rattle.std.proofs.lemmas.Result.{err_from_is_err_and}
use Rattle.serde_json.specs.View.{view}
use Rattle.exchange_hours.specs.HoursFile.{both}
use Rattle.exchange_hours.proofs.ReadingLemmas.{both_fault, both_next, both_end, week_first, week_next, week_none}
use Rattle.exchange_hours.proofs.segments.read_week.Goals as goal

pub loop-weekday-init : goal.loop-weekday-init
loop-weekday-init c = ap (both (Ok c.args.out.now.items)) (sym (week_first (view c.args.entry.now)))

pub loop-weekday-preserved : goal.loop-weekday-preserved
loop-weekday-preserved c =
    let step = week_next c.loop-weekday.weekday c.weekday_name.result.now (view c.args.entry.now) _ (omega arith) c.weekday_name.ensures c.get.ensures in
    both_next c.loop-weekday.out.items c.read_weekday.new.out.items _ _ _ (ap (both (Ok c.loop-weekday.out.items)) (sym step) ∙ c.loop-weekday.invariant) c.in_ok-read_weekday.ensures

pub returns-in_err-read_weekday : goal.returns-in_err-read_weekday
returns-in_err-read_weekday c =
    let p = err_from_is_err_and c.from_residual.result c.from_residual.ensures.1 in
    let step = week_next c.loop-weekday.weekday c.weekday_name.result.now (view c.args.entry.now) _ (omega arith) c.weekday_name.ensures c.get.ensures in
    rw (p.1, p.2) (both_fault c.loop-weekday.out.items _ _ _ _ (ap (both (Ok c.loop-weekday.out.items)) (sym step) ∙ c.loop-weekday.invariant) c.in_err-read_weekday.ensures)

pub returns : goal.returns
returns c =
    both_end c.loop-weekday.out.items _ _ (week_none c.loop-weekday.weekday (view c.args.entry.now) (omega arith)) c.loop-weekday.invariant
