-- Folders that are alike up to a moment print the same up to it, and what they print is a front of the report.
use Rattle.std.proofs.Common.{◌≡◌, ℕ, ◌+◌, ◌-◌, ◌≤◌, Bool, true, false, cond, List, [], Some, None, refl, sym, ap, subst, ◌∙◌, arith}
use Rattle.std.specs.Prelude.{Option, Result, Ok, Err, flat_map, codes, length, nat_lt}
use Rattle.lean_fixed.specs.Moments.{first_moment, last_moment}
use Rattle.lean_io.specs.Told.{Files}
use Rattle.exchange_hours.specs.declared.fault.HoursFault.{HoursFault}
use Rattle.exchange_hours.specs.declared.entries.Segment.{Segment}
use Rattle.exchange_hours.specs.declared.entries.EarlyClose.{EarlyClose}
use Rattle.exchange_hours.specs.Entries.{Entries}
use Rattle.exchange_hours.specs.HoursFile.{week, holidays, early_closes, entries_of, hours_of_entry, market_entry, json_of, hours_of_tree, hours_of, us_equities}
use Rattle.exchange_hours.specs.Sessions.{LieInDays}
use Rattle.exchange_hours.proofs.ReadingLemmas.{both_nothing}
use Rattle.exchange_hours.proofs.SessionsLie.{week_read, sessions_lie}
use Rattle.serde_json.specs.Data.{Data}
use Rattle.serde_json.specs.Find.{get}
use Rattle.rule_strategy.specs.declared.plan.Plan.{Plan}
use Rattle.rule_strategy.specs.Answers.{Answer}
use Rattle.rule_strategy.specs.PlanFile.{plan as plan_in}
use Rattle.rule_strategy.specs.Validity.{IsPlan}
use Rattle.clock_steps.specs.Runs.{IsFrontOf}
use Rattle.clock_run.specs.Lines.{line_bytes}
use Rattle.clock_run.specs.Known.{World}
use Rattle.clock_run.specs.States.{Setup}
use Rattle.clock_run.specs.Reports.{moments, backtest, last_lines, report_bytes}
use Rattle.clock_run.proofs.WorldLemmas.{worlds-agree, same-worlds}
use Rattle.lean_top.specs.AlgorithmRead.{most_algorithm, or_words, algorithm_in}
use Rattle.lean_top.specs.HoursRead.{most_hours, hours_path, hours_file, or_word, hours_in}
use Rattle.lean_top.specs.Backtests.{RunsBacktest}
use Rattle.lean_top.specs.Command.{Asked, Backtest}
use Rattle.lean_top.specs.Report.{setup_of, world_for, backtest_over, backtest_report_of, backtest_with, backtest_by, report_of, report}
use Rattle.lean_top.specs.Until.{count_until, lines_with, lines_by, printed_until, FeedsAgreeBy, AreAlikeUntil}
use Rattle.lean_top.proofs.BacktestLemmas.{moments_front}

-- ---- sessions lie in their days by hours that were read

abbrev segments_in : Entries → Result Entries HoursFault → List Segment
segments_in hours (Ok read) = read.segments
segments_in hours (Err fault) = hours.segments

entry_lies : (entry : Data) (days : Result (List ℕ) HoursFault) (closes : Result (List EarlyClose) HoursFault) (hours : Entries)
    → entries_of (week entry) days closes ≡ Ok hours → LieInDays hours
entry_lies entry days closes hours = by (week entry) refl days closes
  where
    by : (read : Result (List Segment) HoursFault) → week entry ≡ read → (days : Result (List ℕ) HoursFault) (closes : Result (List EarlyClose) HoursFault)
        → entries_of read days closes ≡ Ok hours → LieInDays hours
    by (Err fault) read days closes is = absurd cc
    by (Ok segments) read (Err fault) closes is = absurd cc
    by (Ok segments) read (Ok days) (Err fault) is = absurd cc
    by (Ok segments) read (Ok days) (Ok closes) is =
        let same : segments ≡ hours.segments = ap (segments_in hours) is in
        sessions_lie hours (week_read [] hours.segments entry refl (both_nothing [] (week entry) refl ∙ (read ∙ ap Ok same)))

found_lies : (entry : Option Data) (hours : Entries) → hours_of_entry entry ≡ Ok hours → LieInDays hours
found_lies None hours is = absurd cc
found_lies (Some entry) hours is = entry_lies entry (holidays (get (codes "holidays") entry)) (early_closes (get (codes "earlyCloses") entry)) hours is

tree_lies : (tree : Option Data) (hours : Entries) → hours_of_tree us_equities tree ≡ Ok hours → LieInDays hours
tree_lies None hours is = absurd cc
tree_lies (Some tree) hours is = found_lies (market_entry us_equities tree) hours is

word_lies : (read : Result Entries HoursFault) (hours : Entries) → ((hours : Entries) → read ≡ Ok hours → LieInDays hours) → or_word read ≡ Ok hours
    → LieInDays hours
word_lies (Err fault) hours lies is = absurd cc
word_lies (Ok read) hours lies is = lies hours (let same : read ≡ hours = cc in ap Ok same)

pub hours_lie : (file : Option (List ℕ)) (hours : Entries) → hours_in file ≡ Ok hours → LieInDays hours
unfolding hours_in
hours_lie None hours is = absurd cc
hours_lie (Some bytes) hours is = by (nat_lt most_hours (length bytes)) is
  where
    by : (b : Bool) → cond b (Err (codes "large")) (or_word (hours_of us_equities bytes)) ≡ Ok hours → LieInDays hours
    by true is = absurd cc
    by false is = word_lies (hours_of us_equities bytes) hours (tree_lies (json_of bytes)) is

-- ---- what is printed

-- `valid` is the law of plans that were read
module _ (valid : (bytes : List ℕ) (plan : Plan) → plan_in bytes ≡ Ok plan → IsPlan plan) where
  words_valid : (read : Answer Plan) (plan : Plan) → ((plan : Plan) → read ≡ Ok plan → IsPlan plan) → or_words read ≡ Ok plan → IsPlan plan
  words_valid (Err fault) plan is_valid is = absurd cc
  words_valid (Ok read) plan is_valid is = is_valid plan (let same : read ≡ plan = cc in ap Ok same)

  pub plan_valid : (file : Option (List ℕ)) (plan : Plan) → algorithm_in file ≡ Ok plan → IsPlan plan
  unfolding algorithm_in
  plan_valid None plan is = absurd cc
  plan_valid (Some bytes) plan is = by (nat_lt most_algorithm (length bytes)) is
    where
      by : (b : Bool) → cond b (Err (codes "large")) (or_words (plan_in bytes)) ≡ Ok plan → IsPlan plan
      by true is = absurd cc
      by false is = words_valid (plan_in bytes) plan (valid bytes) is

  hours_same : (t : ℕ) (files other : Files) (plan : Plan) (hours : Result Entries (List ℕ)) → IsPlan plan → hours_file files ≡ hours
      → FeedsAgreeBy t files other (Ok plan) hours → lines_with t files plan hours ≡ lines_with t other plan hours
  hours_same t files other plan (Err word) is_plan is agree = refl
  hours_same t files other plan (Ok hours) is_plan is agree =
      let setup = setup_of plan hours in
      let first = first_moment plan.window in
      let last = last_moment plan.window in
      ap (λ ran. ran.lines)
      (same-worlds setup (world_for files setup) (world_for other setup) (count_until t plan.window)
      (λ u from until.
      let low : u ≤ t = omega (arith, from, until) in
      let within : u ≤ last = omega (arith, from, until) in
      worlds-agree files other hours plan.window t (hours_lie (files hours_path) hours is) is_plan.window.days agree.formed agree.other_formed agree.rows u low within))

  algorithm_same : (t : ℕ) (files other : Files) (algorithm : Result Plan (List ℕ)) → ((plan : Plan) → algorithm ≡ Ok plan → IsPlan plan)
      → other hours_path ≡ files hours_path → FeedsAgreeBy t files other algorithm (hours_file files)
      → lines_by t files algorithm ≡ lines_by t other algorithm
  algorithm_same t files other (Err words) is_valid same agree = refl
  algorithm_same t files other (Ok plan) is_valid same agree =
      hours_same t files other plan (hours_file files) (is_valid plan refl) refl agree ∙ ap (λ file. lines_with t other plan (hours_in file)) (sym same)

  pub printed_same : (files other : Files) (path : List ℕ) (t : ℕ) → AreAlikeUntil t path files other
      → printed_until t files path ≡ printed_until t other path
  printed_same files other path t alike =
      ap (flat_map line_bytes)
      (algorithm_same t files other (algorithm_in (files path)) (plan_valid (files path)) alike.hours alike.feeds
      ∙ ap (λ file. lines_by t other (algorithm_in file)) (sym alike.algorithm))

-- `fronts` is the law of the lines up to a moment
module _ (fronts : (setup : Setup) (world : World) (t : ℕ) → t ≤ last_moment setup.plan.window
    → IsFrontOf (moments setup world (t + 1 - first_moment setup.plan.window)).lines (backtest setup world).lines) where
  nothing_printed : (bytes : List ℕ) → IsFrontOf [] bytes
  nothing_printed bytes = record { rest = bytes; is = refl }

  with_front : (t : ℕ) (files : Files) (plan : Plan) (hours : Result Entries (List ℕ))
      → IsFrontOf (flat_map line_bytes (lines_with t files plan hours)) (backtest_with files plan hours).0
  with_front t files plan (Err word) = nothing_printed (backtest_with files plan (Err word)).0
  with_front t files plan (Ok hours) =
      let setup = setup_of plan hours in
      let world = world_for files setup in
      let within : count_until t plan.window ≤ last_moment plan.window + 1 - first_moment plan.window = omega arith in
      moments_front setup world (fronts setup world) (count_until t plan.window) within

  by_front : (t : ℕ) (files : Files) (algorithm : Result Plan (List ℕ))
      → IsFrontOf (flat_map line_bytes (lines_by t files algorithm)) (backtest_by files algorithm).0
  by_front t files (Err words) = nothing_printed (backtest_by files (Err words)).0
  by_front t files (Ok plan) = with_front t files plan (hours_file files)

  pub printed_front : (t : ℕ) (files : Files) (path : List ℕ) (workers : ℕ) (asked : Option Asked) → asked ≡ Some (Backtest path workers)
      → IsFrontOf (printed_until t files path) (report_of files asked).0
  printed_front t files path workers asked is =
      subst (λ asked. IsFrontOf (printed_until t files path) (report_of files asked).0) (sym is) (by_front t files (algorithm_in (files path)))

-- ---- the report of a backtest that runs

pub report_is : (files : Files) (words : List (List ℕ)) (setup : Setup) → RunsBacktest files words setup
    → report files words ≡ backtest_report_of setup (backtest_over files setup)
report_is files words setup runs =
    ap (report_of files) runs.asked
    ∙ ap (backtest_by files) runs.algorithm
    ∙ ap (backtest_with files setup.plan) runs.hours

pub lines_first : (files : Files) (words : List (List ℕ)) (setup : Setup) → RunsBacktest files words setup
    → IsFrontOf (flat_map line_bytes (backtest_over files setup).lines) (report files words).0
unfolding report_bytes
lines_first files words setup runs =
    let ran = backtest_over files setup in
    record { rest = last_lines setup ran.state ran.stop; is = ap (λ all. all.0) (report_is files words setup runs) }
