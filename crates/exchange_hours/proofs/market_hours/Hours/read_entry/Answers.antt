use Rattle.std.proofs.Common.{ap, sym, ◌∙◌}
use Rattle.std.proofs.lemmas.Result.{err_from_is_err_and}
use Rattle.serde_json.specs.View.{view}
use Rattle.exchange_hours.specs.HoursFile.{holidays, early_closes}
use Rattle.exchange_hours.proofs.ReadingLemmas.{all_read, week_fault, holidays_fault, closes_fault, whole_entry}
use Rattle.exchange_hours.proofs.SessionsLie.{week_read, sessions_lie}
use Rattle.exchange_hours.proofs.market_hours.Hours.read_entry.Goals as goal

pub returns-in_err-read_week : goal.returns-in_err-read_week
returns-in_err-read_week c =
    let p = err_from_is_err_and c.from_residual.result c.from_residual.ensures.1 in
    rw (p.1, p.2) (week_fault c.new-segments.result.items _ _ _ _ c.in_err-read_week.ensures)

pub returns-in_err-read_holidays : goal.returns-in_err-read_holidays
returns-in_err-read_holidays c =
    let p = err_from_is_err_and c.from_residual-in_err-read_holidays.result c.from_residual-in_err-read_holidays.ensures.1 in
    let before = all_read c.new-segments.result.items c.read_week.new.out.items _ c.new-segments.ensures.items c.in_ok-read_week.ensures in
    rw (p.1, p.2) (holidays_fault c.read_week.new.out.items _ c.new-holidays.result.items _ _ _ _ before c.get.ensures c.in_err-read_holidays.ensures)

pub returns-in_err-read_early_closes : goal.returns-in_err-read_early_closes
returns-in_err-read_early_closes c =
    let p = err_from_is_err_and c.from_residual-in_err-read_early_closes.result c.from_residual-in_err-read_early_closes.ensures.1 in
    let before = all_read c.new-segments.result.items c.read_week.new.out.items _ c.new-segments.ensures.items c.in_ok-read_week.ensures in
    let then = ap holidays (sym c.get.ensures) ∙ all_read c.new-holidays.result.items c.read_holidays.new.out.items _ c.new-holidays.ensures.items c.in_ok-read_holidays.ensures in
    rw (p.1, p.2) (closes_fault c.read_week.new.out.items _ c.read_holidays.new.out.items _ c.new-early_closes.result.items _ _ _ before then c.get-2.ensures c.in_err-read_early_closes.ensures)

pub returns : goal.returns
returns c =
    whole_entry c.read_week.new.out.items _ c.read_holidays.new.out.items _ c.read_early_closes.new.out.items _
    (all_read c.new-segments.result.items c.read_week.new.out.items _ c.new-segments.ensures.items c.in_ok-read_week.ensures)
    (ap holidays (sym c.get.ensures) ∙ all_read c.new-holidays.result.items c.read_holidays.new.out.items _ c.new-holidays.ensures.items c.in_ok-read_holidays.ensures)
    (ap early_closes (sym c.get-2.ensures) ∙ all_read c.new-early_closes.result.items c.read_early_closes.new.out.items _ c.new-early_closes.ensures.items c.in_ok-read_early_closes.ensures)

pub invariant_of-result : goal.invariant_of-result
invariant_of-result c = record {
  whole = c.in_ok-spans.ensures.whole;
  each = λ day. rw (← c.deref.ensures.value, ← c.deref-2.ensures.value, ← c.deref-3.ensures.value) (c.in_ok-spans.ensures.each day);
  within = sessions_lie _ (week_read c.new-segments.result.items c.read_week.new.out.items (view c.args.entry.now) c.new-segments.ensures.items c.in_ok-read_week.ensures);
}
