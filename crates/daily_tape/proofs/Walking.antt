-- How far a tape has come.
use Rattle.std.proofs.Common.{◌≡◌, ℕ, ◌+◌, ◌-◌, ◌<◌, ◌≤◌, List, [], ◌∷◌, ◌++◌, refl, sym, ap, ◌∙◌, subst, arith, length, length-append, append_assoc, false}
use Rattle.std.specs.Prelude.{Option, None, flat_map, filter, ◌==◌}
use Rattle.std.specs.List.{AllZip}
use Rattle.std.proofs.lemmas.Bool.Decides.{nat_tests}
use Rattle.std.proofs.lemmas.Grind.{flat_map-append}
use Rattle.lean_fixed.specs.Calendar.{last_day}
use Rattle.lean_io.specs.Told.{Files}
use Rattle.equity_csv.specs.declared.row.Row.{Row as FileRow}
use Rattle.clock_steps.specs.Runs.{run, IsStill}
use Rattle.clock_steps.proofs.RunLemmas.{run-one, run-next, run-end, run-stopped, run-front}
use Rattle.daily_tape.specs.declared.head.Head.{Head}
use Rattle.daily_tape.specs.declared.head.Head.TheVariants.{Row, Bad, Faulted, End}
use Rattle.daily_tape.specs.declared.source.Source.{Source}
use Rattle.daily_tape.specs.DailyTape.{Security, TapeRow, refusal, step_of, rows_at, due, tape_step, tape, tape_line, tape_text}
use Rattle.daily_tape.specs.Endings.{EndsAt}
use Rattle.daily_tape.specs.Head.{StandsPast}
use Rattle.report_pages.specs.Printed.{IsPrinted, IsFront}
use Rattle.daily_tape.specs.Source.{Follows}
use Rattle.daily_tape.specs.Steps.{IsAhead, AllAhead, AllPast, Stops, IsFirstStop, all_rows_now}
use Rattle.daily_tape.proofs.StepLemmas.{rows_of_heads, none_due, still_before, first_due}
use Rattle.daily_tape.proofs.NextLemmas.{all-front}
use Rattle.report_pages.proofs.PrintedLemmas.{IsPrinted-append, IsPrinted-nothing, IsFront-behind, IsFront-more}

-- no row stands at the step before any day
none_first : (rows : List FileRow) → filter (λ row. step_of row == 0) rows ≡ []
none_first [] = refl
none_first (row ∷ rows) =
    let other : (step_of row == 0) ≡ false = grind (arith, nat_tests) in
    rw (other, none_first rows) refl

nothing_first : (all : List Security) → flat_map (rows_at 0) all ≡ []
nothing_first [] = refl
nothing_first (security ∷ all) = rw (none_first security.sheet.rows, nothing_first all) refl

-- a head that is past a step and ends no tape stands at the next or later
past_ahead : (k : ℕ) (head : Head) → StandsPast k head → IsAhead 0 head → IsAhead (k + 1) head
past_ahead k (Row daily) past ahead = (let h : k < step_of daily.row = past in omega arith)
past_ahead k End past ahead = tt
past_ahead k (Bad bad) past ahead = absurd ahead
past_ahead k Faulted past ahead = absurd ahead

all_past_ahead : {H : Type 0} (k : ℕ) (sources : List (Source H)) → AllPast k sources → AllAhead 0 sources → AllAhead (k + 1) sources
all_past_ahead k [] past ahead = tt
all_past_ahead k (source ∷ sources) past ahead = (past_ahead k source.head past.0 ahead.0, all_past_ahead k sources past.1 ahead.1)

module _ {H : Type 0} (files : H → Option Files) (rest_of : H → List ℕ) (f : Files) (all : List Security) where
  -- the steps up to `done` were printed
  pub record Walked (now : List (Source H)) (done rows : ℕ) (before after : Option (List ℕ)) (page new : List ℕ) : Type 0 where
    pub lines : List TapeRow
    pub is : run (tape_step all) (done + 1) 0 tt ≡ record { lines = lines; state = tt; stop = due done all }
    pub follows : AllZip (Follows files rest_of f done) all now
    pub printed : IsPrinted before after page new (tape_text lines)
    pub counted : rows ≡ length lines

  pub walked-start : (now : List (Source H)) (told : Option (List ℕ)) (page : List ℕ) → AllZip (Follows files rest_of f 0) all now → Walked now 0 0 told told page page
  walked-start now told page follows = record {
    lines = [];
    is = run-one (tape_step all) 0 tt ∙ ap (λ rows. record { lines = rows; state = tt; stop = due 0 all }) (nothing_first all);
    follows = follows;
    printed = IsPrinted-nothing told page;
    counted = refl;
  }

  module _ (now : List (Source H)) (done rows : ℕ) (before after : Option (List ℕ)) (page new : List ℕ) (w : Walked now done rows before after page new) where
    -- nothing stops the tape before the next head
    none_stops : (step : ℕ) → AllAhead step now → done < step → run (tape_step all) (done + 1) 0 tt ≡ record { lines = w.lines; state = tt; stop = None }
    none_stops step ahead lt = w.is ∙ ap (λ z. record { lines = w.lines; state = tt; stop = z }) (none_due files rest_of f done done step all now w.follows ahead (omega arith) lt)

    still : (step to : ℕ) → AllAhead step now → to ≡ step → IsStill (tape_step all) tt (0 + (done + 1)) to
    still step to ahead is =
        let first : done + 1 ≡ 0 + (done + 1) = omega arith in
        subst (λ n. IsStill (tape_step all) tt n to) first (subst (IsStill (tape_step all) tt (done + 1)) (sym is) (still_before files rest_of f done step all now w.follows ahead))

    -- the steps up to the next
    next_steps : (step : ℕ) → AllAhead step now → done < step
        → run (tape_step all) (step + 1) 0 tt ≡ record { lines = w.lines ++ all_rows_now step now; state = tt; stop = due step all }
    next_steps step ahead lt =
        let gap = step - (done + 1) in
        let to : 0 + (done + 1) + gap ≡ step = omega arith in
        let count : step + 1 ≡ done + 1 + gap + 1 = omega arith in
        ap (λ n. run (tape_step all) n 0 tt) count
        ∙ run-next (tape_step all) (done + 1) gap 0 tt tt w.lines (none_stops step ahead lt) (still step (0 + (done + 1) + gap) ahead to)
        ∙ ap (λ n. record { lines = w.lines ++ flat_map (rows_at n) all; state = tt; stop = due n all }) to
        ∙ ap (λ ls. record { lines = w.lines ++ ls; state = tt; stop = due step all }) (rows_of_heads files rest_of f done step all now w.follows ahead lt)

    pub walked-more : (step more : ℕ) (later : List (Source H)) (last : Option (List ℕ)) (newer : List ℕ) → AllAhead step now → done < step
        → AllZip (Follows files rest_of f step) all later → more ≡ length (all_rows_now step now) → IsPrinted after last new newer (tape_text (all_rows_now step now))
        → Walked later step (rows + more) before last page newer
    walked-more step more later last newer ahead lt follows counted printed = record {
      lines = w.lines ++ all_rows_now step now;
      is = next_steps step ahead lt;
      follows = follows;
      printed = rw (flat_map-append tape_line w.lines (all_rows_now step now))
          (IsPrinted-append before after last page new newer (tape_text w.lines) (tape_text (all_rows_now step now)) w.printed printed);
      counted = omega (arith, length-append w.lines (all_rows_now step now), w.counted, counted);
    }

    -- the sink stops in the next step
    pub walked-front : (step : ℕ) (last : Option (List ℕ)) → AllAhead step now → done < step → step ≤ last_day + 1
        → IsFront after last (new ++ tape_text (all_rows_now step now)) → IsFront before last (page ++ tape_text (tape all).lines)
    walked-front step last ahead lt le front =
        let whole = run-front (tape_step all) (step + 1) (last_day + 1 - step) 0 tt in
        let count : step + 1 + (last_day + 1 - step) ≡ last_day + 1 + 1 - 0 = omega arith in
        let lines_are : (tape all).lines ≡ w.lines ++ all_rows_now step now ++ whole.rest
        = sym (ap (λ n. (run (tape_step all) n 0 tt).lines) count) ∙ whole.is ∙ ap (λ r. r.lines ++ whole.rest) (next_steps step ahead lt) in
        let text_is : tape_text (tape all).lines ≡ tape_text w.lines ++ (tape_text (all_rows_now step now) ++ tape_text whole.rest)
        = ap tape_text lines_are ∙ flat_map-append tape_line (w.lines ++ all_rows_now step now) whole.rest
        ∙ ap (λ t. t ++ tape_text whole.rest) (flat_map-append tape_line w.lines (all_rows_now step now))
        ∙ append_assoc (tape_text w.lines) (tape_text (all_rows_now step now)) (tape_text whole.rest) in
        let more : IsFront after last (new ++ (tape_text (all_rows_now step now) ++ tape_text whole.rest))
        = subst (IsFront after last) (append_assoc new (tape_text (all_rows_now step now)) (tape_text whole.rest))
        (IsFront-more after last (new ++ tape_text (all_rows_now step now)) (tape_text whole.rest) front) in
        subst (λ t. IsFront before last (page ++ t)) (sym text_is)
        (IsFront-behind before after last page new (tape_text w.lines) (tape_text (all_rows_now step now) ++ tape_text whole.rest) w.printed more)

    -- no head is left
    pub walked-end : done ≤ last_day + 1 → AllAhead (last_day + 2) now → tape all ≡ record { lines = w.lines; state = tt; stop = None }
    walked-end le ahead =
        let gap = last_day + 1 - done in
        let to : 0 + (done + 1) + gap ≡ last_day + 2 = omega arith in
        let count : last_day + 1 + 1 - 0 ≡ done + 1 + gap = omega arith in
        ap (λ n. run (tape_step all) n 0 tt) count
        ∙ run-end (tape_step all) (done + 1) gap 0 tt tt w.lines (none_stops (last_day + 2) ahead (omega arith)) (still (last_day + 2) (0 + (done + 1) + gap) ahead to)

    -- a head ends the tape
    ends_at : (place : ℕ) (stop : IsFirstStop now place) (head : Head) → done ≤ last_day + 1 → AllPast done now → stop.source.head ≡ head → Stops head → EndsAt all w.lines stop.source.symbol head
    ends_at place stop (Bad bad) le past is stops =
        let zip = subst (AllZip (Follows files rest_of f done) all) stop.is w.follows in
        let past_before = all-front (λ s. StandsPast done s.head) stop.before (stop.source ∷ stop.after) (subst (AllPast done) stop.is past) in
        let is_due = first_due files rest_of f done all stop.before stop.after stop.source bad zip (all_past_ahead done stop.before past_before stop.ahead) is in
        let so_far = w.is ∙ ap (λ z. record { lines = w.lines; state = tt; stop = z }) is_due in
        let count : last_day + 1 + 1 - 0 ≡ done + 1 + (last_day + 1 - done) = omega arith in
        ap (λ n. run (tape_step all) n 0 tt) count
        ∙ run-stopped (tape_step all) (done + 1) (last_day + 1 - done) 0 tt tt w.lines (refusal stop.source.symbol bad) so_far
    ends_at place stop Faulted le past is stops = record { count = done + 1; small = omega arith; is = sym (ap (λ r. r.lines) w.is) }
    ends_at place stop (Row daily) le past is stops = absurd stops
    ends_at place stop End le past is stops = absurd stops

    pub walked-stop : (place : ℕ) → done ≤ last_day + 1 → AllPast done now → (stop : IsFirstStop now place) → EndsAt all w.lines stop.source.symbol stop.source.head
    walked-stop place le past stop = ends_at place stop stop.source.head le past refl stop.stops
