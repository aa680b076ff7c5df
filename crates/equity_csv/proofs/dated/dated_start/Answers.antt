use Rattle.std.proofs.Common.{◌∙◌, ◌*◌, ◌+◌, Some, ap, sym, drop, take}
use Rattle.std.proofs.lemmas.List.{take_rest}
use Rattle.lean_fixed.specs.Calendar.{day_of_digits}
use Rattle.equity_csv.specs.Rows.{hour_in}
use Rattle.equity_csv.proofs.DatedLemmas.{dated-not_long, dated-no_day, dated-no_hour, dated-other_hour, dated-both}
use Rattle.equity_csv.proofs.dated.dated_start.Goals as goal

pub returns-then-time-ne-TIME-clause-read : goal.returns-then-time-ne-TIME-clause-read
returns-then-time-ne-TIME-clause-read c = dated-not_long c.args.resolution c.args.time.now c.if-time-ne-TIME.true

pub returns-in_err-day-clause-read : goal.returns-in_err-day-clause-read
returns-in_err-day-clause-read c =
    let time = c.args.time.now in
    c.from_residual.ensures ∙ dated-no_day c.args.resolution (day_of_digits (take 8 time)) (hour_in (drop 8 time)) (rw c.in-Some.ensures.cases.same at c.in_err-day.ensures.value)

pub returns-in_err-hour-clause-read : goal.returns-in_err-hour-clause-read
returns-in_err-hour-clause-read c =
    let time = c.args.time.now in
    c.from_residual-in_err-hour.ensures ∙ dated-no_hour c.args.resolution (day_of_digits (take 8 time)) (hour_in (drop 8 time)) (c.in_err-hour.ensures.read ∙ ap hour_in (take_rest time 8))

pub returns-then-not-has_hour-clause-read : goal.returns-then-not-has_hour-clause-read
returns-then-not-has_hour-clause-read c =
    let time = c.args.time.now in
    dated-other_hour c.args.resolution (day_of_digits (take 8 time)) (hour_in (drop 8 time)) c.in_ok-hour.hour (c.in_ok-hour.ensures.read ∙ ap hour_in (take_rest time 8)) (sym c.if-not-has_hour.ensures)

pub returns-clause-read : goal.returns-clause-read
returns-clause-read c =
    let time = c.args.time.now in
    ap (λ m. Some (m + c.in_ok-hour.hour * 60)) c.first_minute.ensures.value
    ∙ dated-both c.args.resolution (day_of_digits (take 8 time)) (hour_in (drop 8 time)) c.in_ok-day.day c.in_ok-hour.hour (rw c.in-Some.ensures.cases.same at c.in_ok-day.ensures.value) (c.in_ok-hour.ensures.read ∙ ap hour_in (take_rest time 8)) (sym c.if-not-has_hour.ensures)
