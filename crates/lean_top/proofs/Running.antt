-- What the top calls say follows from what was printed and from its causes.
use Rattle.std.proofs.Common.{◌≡◌, ℕ, ◌≤◌, List, ◌++◌, refl, sym, ap, ◌∙◌, subst, inl, inr}
use Rattle.std.specs.Prelude.{Option, Some, None, ◌⊎◌, Result, Ok, Err, IsErr, IsSome}
use Rattle.lean_fixed.specs.declared.resolution.Resolution.{Resolution}
use Rattle.lean_fixed.specs.declared.time.Window.{Window}
use Rattle.lean_io.specs.Told.{Files, Rose}
use Rattle.exchange_hours.specs.Entries.{Entries}
use Rattle.clock_steps.specs.Runs.{Ran}
use Rattle.clock_run.specs.Lines.{Halt, malformed, too_many_securities, too_many_requests}
use Rattle.rule_strategy.specs.declared.plan.Plan.{Plan}
use Rattle.report_pages.specs.Ended.{ended_by}
use Rattle.session_tape.specs.Session.{SessionBar, Refusal as SessionRefusal, session_sources, session}
use Rattle.lean_top.specs.declared.status.Status.{Status}
use Rattle.lean_top.specs.declared.status.Status.TheVariants.{Done, Usage, Algorithm, BadRow, ReadFault, WriteFault, NoMemory, Limit}
use Rattle.lean_top.specs.Command.{Asked, DailyTape, SessionTape, Backtest, Demo, command}
use Rattle.daily_tape.specs.DailyTape.{securities, tape}
use Rattle.lean_top.specs.Ending.{Seen, IsStop, Meets, IsComplete, ComesExactly, RefusesPlan, RefusesFiles, StopsSession, IsBadRow, IsLimit, HaltsWith, HaltsBy, HasBadRow, HasLimit, HasRun}
use Rattle.lean_top.specs.HoursRead.{hours_file}
use Rattle.lean_top.specs.AlgorithmRead.{algorithm_in}
use Rattle.lean_top.specs.Outcome.{HasReported, HasUsage, HasStatusCause, NamesNoUsage}
use Rattle.report_pages.specs.Printed.{IsTaken, IsFront}
use Rattle.lean_top.specs.Report.{report, report_of, ended_status, session_with, halt_status, setup_of, backtest_over, backtest_with, backtest_by, made_folder, AreWholeSteps}
use Rattle.data_maker.specs.MadeFiles.{plan_path}

-- the sink took the whole report and the status is the report's, or it took a front of it and the status is a stop
abbrev pub Delivers : List ℕ × Status → Option (List ℕ) → Option (List ℕ) → Seen → Seen → Status → Type 0
Delivers want before after old new status =
    ((status ≡ want.1) × IsTaken before after want.0) ⊎ (IsStop old new status × IsFront before after want.0)

-- a tape names a malformed line exactly where one stops it, and never the hours file
bad_row : {X : Type 0} (stop : Option X) → ended_status (ended_by stop) ≡ BadRow → IsSome stop
bad_row (Some refusal) e = refl
bad_row None e = cc

row_bad : {X : Type 0} (stop : Option X) → IsSome stop → ended_status (ended_by stop) ≡ BadRow
row_bad (Some refusal) some = refl
row_bad None some = cc

no_hours : {X : Type 0} (stop : Option X) → ended_status (ended_by stop) ≡ Algorithm → ⊥
no_hours (Some refusal) e = cc
no_hours None e = cc

no_limit : {X : Type 0} (stop : Option X) → ended_status (ended_by stop) ≡ Limit → ⊥
no_limit (Some refusal) e = cc
no_limit None e = cc

-- a backtest names a malformed line or a limit exactly where one halts it, and no file that it reads first
halt_bad : (halt : Option Halt) → halt_status halt ≡ BadRow → IsBadRow halt
halt_bad None e = cc
halt_bad (Some (malformed kind bad)) e = tt
halt_bad (Some too_many_securities) e = cc
halt_bad (Some too_many_requests) e = cc

bad_halt : (halt : Option Halt) → IsBadRow halt → halt_status halt ≡ BadRow
bad_halt None is = absurd is
bad_halt (Some (malformed kind bad)) is = refl
bad_halt (Some too_many_securities) is = absurd is
bad_halt (Some too_many_requests) is = absurd is

halt_limit : (halt : Option Halt) → halt_status halt ≡ Limit → IsLimit halt
halt_limit None e = cc
halt_limit (Some (malformed kind bad)) e = cc
halt_limit (Some too_many_securities) e = tt
halt_limit (Some too_many_requests) e = tt

limit_halt : (halt : Option Halt) → IsLimit halt → halt_status halt ≡ Limit
limit_halt None is = absurd is
limit_halt (Some (malformed kind bad)) is = absurd is
limit_halt (Some too_many_securities) is = refl
limit_halt (Some too_many_requests) is = refl

no_refusal : (halt : Option Halt) → halt_status halt ≡ Algorithm → ⊥
no_refusal None e = cc
no_refusal (Some (malformed kind bad)) e = cc
no_refusal (Some too_many_securities) e = cc
no_refusal (Some too_many_requests) e = cc

module _ (files : Files) where
  with_refuses : (plan : Plan) (hours : Result Entries (List ℕ)) → (backtest_with files plan hours).1 ≡ Algorithm → IsErr hours
  with_refuses plan (Err word) e = refl
  with_refuses plan (Ok hours) e = absurd (no_refusal (backtest_over files (setup_of plan hours)).stop e)

  refuses_with : (plan : Plan) (hours : Result Entries (List ℕ)) → IsErr hours → (backtest_with files plan hours).1 ≡ Algorithm
  refuses_with plan (Err word) e = refl
  refuses_with plan (Ok hours) e = cc

  backtest_refuses : (plan : Result Plan (List ℕ)) → (backtest_by files plan).1 ≡ Algorithm → RefusesPlan files plan
  backtest_refuses (Err words) e = tt
  backtest_refuses (Ok plan) e = with_refuses plan (hours_file files) e

  refuses_backtest : (plan : Result Plan (List ℕ)) → RefusesPlan files plan → (backtest_by files plan).1 ≡ Algorithm
  refuses_backtest (Err words) e = refl
  refuses_backtest (Ok plan) e = refuses_with plan (hours_file files) e

  module _ (IsSo : Option Halt → Type 0) (so : Status) (from : (halt : Option Halt) → halt_status halt ≡ so → IsSo halt)
      (to : (halt : Option Halt) → IsSo halt → halt_status halt ≡ so) (not_files : Algorithm ≡ so → ⊥) where
    with_halts : (plan : Plan) (hours : Result Entries (List ℕ)) → (backtest_with files plan hours).1 ≡ so → HaltsWith IsSo files plan hours
    with_halts plan (Err word) e = absurd (not_files e)
    with_halts plan (Ok hours) e = from (backtest_over files (setup_of plan hours)).stop e

    halts_with : (plan : Plan) (hours : Result Entries (List ℕ)) → HaltsWith IsSo files plan hours → (backtest_with files plan hours).1 ≡ so
    halts_with plan (Err word) is = absurd is
    halts_with plan (Ok hours) is = to (backtest_over files (setup_of plan hours)).stop is

    backtest_halts : (plan : Result Plan (List ℕ)) → (backtest_by files plan).1 ≡ so → HaltsBy IsSo files plan
    backtest_halts (Err words) e = absurd (not_files e)
    backtest_halts (Ok plan) e = with_halts plan (hours_file files) e

    halts_backtest : (plan : Result Plan (List ℕ)) → HaltsBy IsSo files plan → (backtest_by files plan).1 ≡ so
    halts_backtest (Err words) is = absurd is
    halts_backtest (Ok plan) is = halts_with plan (hours_file files) is

not_bad : Algorithm ≡ BadRow → ⊥
not_bad e = cc

not_limit : Algorithm ≡ Limit → ⊥
not_limit e = cc

module _ (files : Files) (resolution : Resolution) (window : Window) (symbols : List (List ℕ)) where
  abbrev whole : Entries → Ran (Unit {0}) SessionBar SessionRefusal
  whole hours = session (session_sources files hours resolution window symbols) window

  session_refuses : (hours : Result Entries (List ℕ)) → (session_with files resolution window symbols hours).1 ≡ Algorithm → IsErr hours
  session_refuses (Err word) e = refl
  session_refuses (Ok hours) e = absurd (no_hours (whole hours).stop e)

  refuses_session : (hours : Result Entries (List ℕ)) → IsErr hours → (session_with files resolution window symbols hours).1 ≡ Algorithm
  refuses_session (Err word) e = refl
  refuses_session (Ok hours) e = cc

  no_session_limit : (hours : Result Entries (List ℕ)) → (session_with files resolution window symbols hours).1 ≡ Limit → ⊥
  no_session_limit (Err word) e = cc
  no_session_limit (Ok hours) e = no_limit (whole hours).stop e

  session_stops : (hours : Result Entries (List ℕ)) → (session_with files resolution window symbols hours).1 ≡ BadRow → StopsSession files resolution window symbols hours
  session_stops (Err word) e = cc
  session_stops (Ok hours) e = bad_row (whole hours).stop e

  stops_session : (hours : Result Entries (List ℕ)) → StopsSession files resolution window symbols hours → (session_with files resolution window symbols hours).1 ≡ BadRow
  stops_session (Err word) e = absurd e
  stops_session (Ok hours) e = row_bad (whole hours).stop e

module _ (files : Files) where
  report_refuses : (asked : Option Asked) → (report_of files asked).1 ≡ Algorithm → RefusesFiles files asked
  report_refuses None e = cc
  report_refuses (Some (DailyTape symbols)) e = no_hours (tape (securities files symbols)).stop e
  report_refuses (Some (SessionTape resolution window symbols)) e = session_refuses files resolution window symbols (hours_file files) e
  report_refuses (Some (Backtest path workers)) e = backtest_refuses files (algorithm_in (files path)) e
  report_refuses (Some (Demo number workers)) e = backtest_refuses (made_folder number) (algorithm_in (made_folder number plan_path)) e

  refuses_report : (asked : Option Asked) → RefusesFiles files asked → (report_of files asked).1 ≡ Algorithm
  refuses_report None e = absurd e
  refuses_report (Some (DailyTape symbols)) e = absurd e
  refuses_report (Some (SessionTape resolution window symbols)) e = refuses_session files resolution window symbols (hours_file files) e
  refuses_report (Some (Backtest path workers)) e = refuses_backtest files (algorithm_in (files path)) e
  refuses_report (Some (Demo number workers)) e = refuses_backtest (made_folder number) (algorithm_in (made_folder number plan_path)) e

  report_stops : (asked : Option Asked) → (report_of files asked).1 ≡ BadRow → HasBadRow files asked
  report_stops None e = cc
  report_stops (Some (DailyTape symbols)) e = bad_row (tape (securities files symbols)).stop e
  report_stops (Some (SessionTape resolution window symbols)) e = session_stops files resolution window symbols (hours_file files) e
  report_stops (Some (Backtest path workers)) e = backtest_halts files IsBadRow BadRow halt_bad bad_halt not_bad (algorithm_in (files path)) e
  report_stops (Some (Demo number workers)) e =
      backtest_halts (made_folder number) IsBadRow BadRow halt_bad bad_halt not_bad (algorithm_in (made_folder number plan_path)) e

  stops_report : (asked : Option Asked) → HasBadRow files asked → (report_of files asked).1 ≡ BadRow
  stops_report None e = absurd e
  stops_report (Some (DailyTape symbols)) e = row_bad (tape (securities files symbols)).stop e
  stops_report (Some (SessionTape resolution window symbols)) e = stops_session files resolution window symbols (hours_file files) e
  stops_report (Some (Backtest path workers)) e = halts_backtest files IsBadRow BadRow halt_bad bad_halt not_bad (algorithm_in (files path)) e
  stops_report (Some (Demo number workers)) e =
      halts_backtest (made_folder number) IsBadRow BadRow halt_bad bad_halt not_bad (algorithm_in (made_folder number plan_path)) e

  report_limits : (asked : Option Asked) → (report_of files asked).1 ≡ Limit → HasLimit files asked
  report_limits None e = cc
  report_limits (Some (DailyTape symbols)) e = no_limit (tape (securities files symbols)).stop e
  report_limits (Some (SessionTape resolution window symbols)) e = no_session_limit files resolution window symbols (hours_file files) e
  report_limits (Some (Backtest path workers)) e = backtest_halts files IsLimit Limit halt_limit limit_halt not_limit (algorithm_in (files path)) e
  report_limits (Some (Demo number workers)) e =
      backtest_halts (made_folder number) IsLimit Limit halt_limit limit_halt not_limit (algorithm_in (made_folder number plan_path)) e

  limits_report : (asked : Option Asked) → HasLimit files asked → (report_of files asked).1 ≡ Limit
  limits_report None is = absurd is
  limits_report (Some (DailyTape symbols)) is = absurd is
  limits_report (Some (SessionTape resolution window symbols)) is = absurd is
  limits_report (Some (Backtest path workers)) is = halts_backtest files IsLimit Limit halt_limit limit_halt not_limit (algorithm_in (files path)) is
  limits_report (Some (Demo number workers)) is =
      halts_backtest (made_folder number) IsLimit Limit halt_limit limit_halt not_limit (algorithm_in (made_folder number plan_path)) is

module _ (old new : Seen) where
  abbrev pub Caused : Status → Type 0
  Caused status = HasStatusCause old.folder new.folder old.sink new.sink status

  delivers_from : (want : List ℕ × Status) (IsSteps : List ℕ → Type 0) (before after : Option (List ℕ)) (status : Status)
      → HasReported want IsSteps before after status → Caused status → Delivers want before after old new status
  delivers_from want IsSteps before after NoMemory has cause = inr (tt, has)
  delivers_from want IsSteps before after WriteFault has cause = inr (cause, has)
  delivers_from want IsSteps before after ReadFault (bytes, steps, front, taken) cause =
      inr (cause, record { written = bytes; left = front.rest; taken = taken; whole = front.is })
  delivers_from want IsSteps before after Done has cause = inl has
  delivers_from want IsSteps before after Usage has cause = inl has
  delivers_from want IsSteps before after Algorithm has cause = inl has
  delivers_from want IsSteps before after BadRow has cause = inl has
  delivers_from want IsSteps before after Limit has cause = inl has

  meets_from : (want : List ℕ × Status) (before : List ℕ) (status : Status) → Delivers want (Some before) new.told old new status → Meets want before old new status
  meets_from want before status d = elim d [
    | inl whole ↦ (want.0, whole.1, inl (ap (λ s. (want.0, s)) whole.0))
    | inr stop ↦ (stop.1.written, stop.1.taken, inr (record { rest = stop.1.left; is = stop.1.whole }, stop.0))
  ]

  cut : (want : List ℕ × Status) (before : List ℕ) (after : Option (List ℕ)) (status : Status)
      → (Rose old.folder new.folder → ⊥) → (Rose old.sink new.sink → ⊥) → IsStop old new status → IsFront (Some before) after want.0 → IsComplete want before after status
  cut want before after NoMemory f s stop front = inr (refl, (front.written, front.taken, record { rest = front.left; is = front.whole }))
  cut want before after ReadFault f s stop front = absurd (f stop)
  cut want before after WriteFault f s stop front = absurd (s stop)
  cut want before after Done f s stop front = absurd stop
  cut want before after Usage f s stop front = absurd stop
  cut want before after Algorithm f s stop front = absurd stop
  cut want before after BadRow f s stop front = absurd stop
  cut want before after Limit f s stop front = absurd stop

  complete_from : (want : List ℕ × Status) (before : List ℕ) (after : Option (List ℕ)) (status : Status)
      → Delivers want (Some before) after old new status → (Rose old.folder new.folder → ⊥) → (Rose old.sink new.sink → ⊥) → IsComplete want before after status
  complete_from want before after status d f s = elim d [
    | inl whole ↦ inl whole
    | inr stop ↦ cut want before after status f s stop.0 stop.1
  ]

  -- the three statuses to which the others yield
  abbrev Yields : Status → Type 0
  Yields result = (result ≡ NoMemory) ⊎ ((result ≡ ReadFault) ⊎ (result ≡ WriteFault))

  stop_yields : (status : Status) → IsStop old new status → Yields status
  stop_yields NoMemory stop = inl refl
  stop_yields ReadFault stop = inr (inl refl)
  stop_yields WriteFault stop = inr (inr refl)
  stop_yields Done stop = absurd stop
  stop_yields Usage stop = absurd stop
  stop_yields Algorithm stop = absurd stop
  stop_yields BadRow stop = absurd stop
  stop_yields Limit stop = absurd stop

  usage_comes : (before after : Option (List ℕ)) (status : Status) → HasUsage before after status → (status ≡ Usage) ⊎ Yields status
  usage_comes before after Usage has = inl refl
  usage_comes before after NoMemory has = inr (inl refl)
  usage_comes before after WriteFault has = inr (inr (inr refl))
  usage_comes before after Done has = absurd has
  usage_comes before after Algorithm has = absurd has
  usage_comes before after BadRow has = absurd has
  usage_comes before after ReadFault has = absurd has
  usage_comes before after Limit has = absurd has

  names_none : (status : Status) → NamesNoUsage status → status ≡ Usage → ⊥
  names_none status names is = (let n : NamesNoUsage Usage = subst NamesNoUsage is names in n)

  only_refused : (found : Option Asked) (status : Status) → ((asked : Asked) → found ≡ Some asked → NamesNoUsage status) → status ≡ Usage → found ≡ None
  only_refused None status taken is = refl
  only_refused (Some asked) status taken is = absurd (names_none status (taken asked refl) is)

  -- a status of the whole report comes exactly where the report has it
  exactly : (P : Type 0) (comes : Status) (want : List ℕ × Status) (before after : Option (List ℕ)) (status : Status)
      → (IsStop old new comes → ⊥) → (want.1 ≡ comes → P) → (P → want.1 ≡ comes) → Delivers want before after old new status → ComesExactly P comes status
  exactly P comes want before after status no_stop from to d = record {
    only = λ (is : status ≡ comes). elim d [
      | inl whole ↦ from (sym whole.0 ∙ is)
      | inr stop ↦ absurd (no_stop (subst (IsStop old new) is stop.0))
    ];
    always = λ (p : P). elim d [
      | inl whole ↦ inl (whole.0 ∙ to p)
      | inr stop ↦ inr (stop_yields status stop.0)
    ];
  }

  steps_from : (want : List ℕ × Status) (IsSteps : List ℕ → Type 0) (before : List ℕ) (status : Status) → status ≡ ReadFault
      → HasReported want IsSteps (Some before) new.told status → (bytes : List ℕ) × IsSteps bytes × (new.told ≡ Some (before ++ bytes))
  steps_from want IsSteps before status is has =
      let h : HasReported want IsSteps (Some before) new.told ReadFault = subst (HasReported want IsSteps (Some before) new.told) is has in
      (h.0, h.1, h.3)

  pub has_run : (words : List (List ℕ)) (status : Status)
      → ((files : Files) → old.files ≡ Some files → HasReported (report files words) (AreWholeSteps files (command words)) old.told new.told status)
      → (command words ≡ None → HasUsage old.told new.told status)
      → ((asked : Asked) → command words ≡ Some asked → NamesNoUsage status)
      → Caused status → new.files ≡ old.files → old.folder ≤ new.folder → old.sink ≤ new.sink → HasRun words old new status
  has_run words status reported refused taken cause kept folder sink =
      let delivers : (files : Files) → old.files ≡ Some files → Delivers (report files words) old.told new.told old new status
      = λ files told. delivers_from (report files words) (AreWholeSteps files (command words)) old.told new.told status (reported files told) cause in
      let delivers_to : (files : Files) (before : List ℕ) → old.files ≡ Some files → old.told ≡ Some before → Delivers (report files words) (Some before) new.told old new status
      = λ files before told is. subst (λ t. Delivers (report files words) t new.told old new status) is (delivers files told) in
      record {
        headline = λ files before told is. meets_from (report files words) before status (delivers_to files before told is);
        complete = λ files before told is f s. complete_from (report files words) before new.told status (delivers_to files before told is) f s;
        usage = record {
          only = λ is. only_refused (command words) status taken is;
          always = λ none. usage_comes old.told new.told status (refused none);
        };
        algorithm = λ files told. exactly (RefusesFiles files (command words)) Algorithm (report files words) old.told new.told status
            (λ stop. stop) (report_refuses files (command words)) (refuses_report files (command words)) (delivers files told);
        bad_row = λ files told. exactly (HasBadRow files (command words)) BadRow (report files words) old.told new.told status
            (λ stop. stop) (report_stops files (command words)) (stops_report files (command words)) (delivers files told);
        limit = λ files told. exactly (HasLimit files (command words)) Limit (report files words) old.told new.told status
            (λ stop. stop) (report_limits files (command words)) (limits_report files (command words)) (delivers files told);
        read_fault = λ is. (let c : Caused ReadFault = subst Caused is cause in c);
        write_fault = λ is. (let c : Caused WriteFault = subst Caused is cause in c);
        whole_steps = λ is files before told at.
            steps_from (report files words) (AreWholeSteps files (command words)) before status is
            (subst (λ t. HasReported (report files words) (AreWholeSteps files (command words)) t new.told status) at (reported files told));
        kept = kept;
        folder_grows = folder;
        sink_grows = sink;
      }
