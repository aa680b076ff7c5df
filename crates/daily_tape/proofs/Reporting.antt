-- What was printed of a tape is its report, or a front of it.
use Rattle.std.proofs.Common.{◌≡◌, ℕ, ◌+◌, ◌-◌, ◌≤◌, List, [], ◌∷◌, ◌++◌, refl, sym, ap, ◌∙◌, subst, arith, length, append_assoc, append-nil, get_or, inl, inr}
use Rattle.std.specs.Prelude.{Bool, Option, Result, Ok, Err, IfOk}
use Rattle.std.specs.List.{AllByRecursion}
use Rattle.std.proofs.Math.Seq.{get_or-append_seam}
use Rattle.std.proofs.lemmas.Grind.{flat_map-append}
use Rattle.lean_fixed.specs.Calendar.{last_day}
use Rattle.clock_steps.specs.Runs.{run, IsFrontOf}
use Rattle.clock_steps.proofs.RunLemmas.{run-front}
use Rattle.lean_fixed.specs.declared.memory.NoMemory.{NoMemory}
use Rattle.lean_io.specs.Told.{Rose}
use Rattle.line_source.specs.Reader.{hand_of}
use Rattle.daily_tape.specs.declared.ending.Ending.{Ending}
use Rattle.daily_tape.specs.declared.ending.Ending.TheVariants.{Whole, Stopped}
use Rattle.daily_tape.specs.declared.head.Head.{Head}
use Rattle.daily_tape.specs.declared.head.Head.TheVariants.{Row, Bad, Faulted, End}
use Rattle.daily_tape.specs.declared.source.Source.{Source}
use Rattle.report_pages.specs.declared.ended.Ended.{Ended}
use Rattle.report_pages.specs.declared.ended.Ended.TheVariants.{BadRow, ReadFault}
use Rattle.daily_tape.specs.DailyTape.{Security, TapeRow, refusal, tape, tape_step, tape_line, tape_text, refusal_line, last_line, tape_bytes}
use Rattle.lean_items.specs.declared.bad.Bad.{Bad as BadLine}
use Rattle.lean_items.specs.declared.feed_key.FeedKind.{FeedKind}
use Rattle.lean_items.specs.declared.feed_key.FeedKind.TheVariants.{Equity}
use Rattle.lean_fixed.specs.declared.resolution.Resolution.TheVariants.{Daily}
use Rattle.feed_paths.specs.Paths.{path_of}
use Rattle.daily_tape.specs.Endings.{EndsAt, HasStopped, EndsSo, IsTape, IsLastAt, IsLast, HasFaulted, IsReport, IsReportFront}
use Rattle.report_pages.specs.Lines.{end_line, data_line}
use Rattle.report_pages.specs.Printed.{IsPrinted, IsTaken, IsFront}
use Rattle.daily_tape.specs.Head.{HasCause}
use Rattle.daily_tape.specs.Source.{IsSound}
use Rattle.daily_tape.specs.Steps.{IsFirstStop}
use Rattle.daily_tape.specs.Whole.{IsWhole}
use Rattle.daily_tape.proofs.NextLemmas.{all-back}
use Rattle.report_pages.proofs.PrintedLemmas.{IsFront-behind, IsFront-more, IsFront-printed, IsTaken-append}

-- an empty page and all that was printed behind it went into the sink
pub taken_whole : (before after last : Option (List ℕ)) (new bytes more : List ℕ) → IsPrinted before after [] new bytes → IsPrinted after last (new ++ more) [] [] → IsTaken before last (bytes ++ more)
taken_whole before after last new bytes more first flushed =
    let all : bytes ≡ first.written ++ new = first.rest in
    let rest : new ++ more ≡ flushed.written = sym (append-nil (new ++ more)) ∙ flushed.rest ∙ append-nil flushed.written in
    let text : bytes ++ more ≡ first.written ++ flushed.written = ap (λ b. b ++ more) all ∙ append_assoc first.written new more ∙ ap (λ b. first.written ++ b) rest in
    subst (IsTaken before last) (sym text) (IsTaken-append before after last first.written flushed.written first.taken flushed.taken)

module _ {H : Type 0} (all : List Security) (sources : List (Source H)) where
  report_at : (rows : List TapeRow) (symbol : List ℕ) (head : Head) (ended : Ended) (last : List ℕ) (before after : Option (List ℕ))
      → EndsAt all rows symbol head → IsLastAt symbol head ended last → IsTaken before after (tape_text rows ++ last) → IsReport all before after ended
  report_at rows symbol (Bad bad) ended last before after ends (is, line) taken =
      rw (is, ends) (refl, (let t : IsTaken before after (tape_text rows ++ refusal_line (refusal symbol bad)) = rw line at taken in t))
  report_at rows symbol Faulted ended last before after ends (is, none) taken =
      rw is (rows, ends, (let t : IsTaken before after (tape_text rows) = subst (IsTaken before after) (ap (λ l. tape_text rows ++ l) none ∙ append-nil (tape_text rows)) taken in t))
  report_at rows symbol (Row daily) ended last before after ends is taken = absurd ends
  report_at rows symbol End ended last before after ends is taken = absurd ends

  -- a tape that ended by itself, with its last line
  pub report_of : (rows : List TapeRow) (ending : Ending) (ended : Ended) (last : List ℕ) (before after : Option (List ℕ))
      → EndsSo all sources rows ending → IsLast sources ending ended last → IsTaken before after (tape_text rows ++ last) → IsReport all before after ended
  report_of rows (Whole count) ended last before after (ends, counted) (is, line) taken =
      rw (is, ends) (refl, (let t : IsTaken before after (tape_text rows ++ end_line (length rows)) = rw (line, counted) at taken in t))
  report_of rows (Stopped place) ended last before after ends (stop, is) taken =
      report_at rows stop.source.symbol stop.source.head ended last before after (ends stop) is taken

  -- the rows that were printed are the first of the tape's
  pub rows_at_stop : (rows : List TapeRow) (symbol : List ℕ) (head : Head) → EndsAt all rows symbol head → IsFrontOf rows (tape all).lines
  rows_at_stop rows symbol (Bad bad) ends = record { rest = []; is = ap (λ r. r.lines) ends ∙ sym (append-nil rows) }
  rows_at_stop rows symbol Faulted whole =
      let front = run-front (tape_step all) whole.count (last_day + 2 - whole.count) 0 tt in
      let count : whole.count + (last_day + 2 - whole.count) ≡ last_day + 1 + 1 - 0 = omega (arith, whole.small) in
      record { rest = front.rest; is = sym (ap (λ n. (run (tape_step all) n 0 tt).lines) count) ∙ front.is ∙ ap (λ r. r ++ front.rest) (sym whole.is) }
  rows_at_stop rows symbol (Row daily) ends = absurd ends
  rows_at_stop rows symbol End ends = absurd ends

  -- what goes behind them in the report
  pub text_behind : (rows : List TapeRow) → IsFrontOf rows (tape all).lines → (more : List ℕ) × (tape_bytes (tape all) ≡ tape_text rows ++ more)
  text_behind rows front =
      let last = last_line (length (tape all).lines) (tape all).stop in (
        tape_text front.rest ++ last,
        ap (λ ls. tape_text ls ++ last) front.is ∙ ap (λ t. t ++ last) (flat_map-append tape_line rows front.rest) ∙ append_assoc (tape_text rows) (tape_text front.rest) last,
      )

  -- the rows went no further than the page
  front_of_page : (rows : List TapeRow) (before after : Option (List ℕ)) (page new : List ℕ) → page ≡ [] → IsPrinted before after page new (tape_text rows)
      → IsFrontOf rows (tape all).lines → IsReportFront all before after
  front_of_page rows before after page new empty printed front =
      let behind = text_behind rows front in
      let whole : IsFront before after (page ++ (tape_text rows ++ behind.0)) = IsFront-printed before after page new (tape_text rows) behind.0 printed in
      subst (IsFront before after) (ap (λ p. p ++ (tape_text rows ++ behind.0)) empty ∙ sym behind.1) whole

  rows_so_far : (rows : List TapeRow) (ending : Ending) → EndsSo all sources rows ending → HasStopped sources ending → IsFrontOf rows (tape all).lines
  rows_so_far rows (Whole count) ends stopped = record { rest = []; is = ap (λ r. r.lines) ends.0 ∙ sym (append-nil rows) }
  rows_so_far rows (Stopped place) ends stopped = rows_at_stop rows stopped.source.symbol stopped.source.head (ends stopped)

  pub front_of_rows : (before after : Option (List ℕ)) (page new : List ℕ) (ending : Ending) → page ≡ [] → HasStopped sources ending
      → IsTape all sources before after page new ending → IsReportFront all before after
  front_of_rows before after page new ending empty stopped t =
      front_of_page t.rows before after page new empty t.printed (rows_so_far t.rows ending t.ends stopped)

  -- the last flush took a front
  front_at : (rows : List TapeRow) (symbol : List ℕ) (head : Head) (ended : Ended) (last : List ℕ) → EndsAt all rows symbol head → IsLastAt symbol head ended last
      → (more : List ℕ) × (tape_bytes (tape all) ≡ tape_text rows ++ last ++ more)
  front_at rows symbol (Bad bad) ended last ends (is, line) =
      ([], rw (ends, line) (sym (append-nil (tape_text rows ++ refusal_line (refusal symbol bad)))))
  front_at rows symbol Faulted ended last ends (is, none) =
      let behind = text_behind rows (rows_at_stop rows symbol Faulted ends) in
      (behind.0, behind.1 ∙ ap (λ l. l ++ behind.0) (sym (ap (λ l. tape_text rows ++ l) none ∙ append-nil (tape_text rows))))
  front_at rows symbol (Row daily) ended last ends is = absurd ends
  front_at rows symbol End ended last ends is = absurd ends

  front_so : (rows : List TapeRow) (ending : Ending) (ended : Ended) (last : List ℕ) → EndsSo all sources rows ending → IsLast sources ending ended last
      → (more : List ℕ) × (tape_bytes (tape all) ≡ tape_text rows ++ last ++ more)
  front_so rows (Whole count) ended last (ends, counted) (is, line) =
      ([], rw (ends, line, counted) (sym (append-nil (tape_text rows ++ end_line (length rows)))))
  front_so rows (Stopped place) ended last ends (stop, is) = front_at rows stop.source.symbol stop.source.head ended last (ends stop) is

  pub front_of_last : (before after later : Option (List ℕ)) (page new whole last : List ℕ) (ending : Ending) (ended : Ended) → page ≡ []
      → IsTape all sources before after page new ending → whole ≡ new ++ last → IsLast sources ending ended last → IsFront after later whole → IsReportFront all before later
  front_of_last before after later page new whole last ending ended empty t is_whole is front =
      let so = front_so t.rows ending ended last t.ends is in
      let more : IsFront after later (new ++ (last ++ so.0))
      = subst (IsFront after later) (append_assoc new last so.0) (IsFront-more after later (new ++ last) so.0 (subst (IsFront after later) is_whole front)) in
      let all_of_it : IsFront before later (page ++ (tape_text t.rows ++ (last ++ so.0))) = IsFront-behind before after later page new (tape_text t.rows) (last ++ so.0) t.printed more in
      subst (IsFront before later) (ap (λ p. p ++ (tape_text t.rows ++ (last ++ so.0))) empty ∙ sym (append_assoc (tape_text t.rows) last so.0) ∙ sym so.1) all_of_it

if_ok : {A E : Type 0} (r : Result A E) (P Q : A → Type 0) → ((x : A) → P x → Q x) → IfOk r P → IfOk r Q
if_ok (Ok x) P Q f h = f x h
if_ok (Err e) P Q f h = tt

faulted_at : {H : Type 0} (faults : H → ℕ) (before : List (Source H)) (source : Source H) (after : List (Source H))
    → Rose 0 (faults (hand_of source.lines)) → HasFaulted faults (before ++ source ∷ after)
faulted_at faults [] source after rose = inl rose
faulted_at faults (b ∷ before) source after rose = inr (faulted_at faults before source after rose)

module _ {H : Type 0} (sources : List (Source H)) (ending : Ending) (place : ℕ) (is : ending ≡ Stopped place) (stopped : HasStopped sources ending)
    (source : Source H) (found : source ≡ get_or sources place source) where
  the_stop : IsFirstStop sources place
  the_stop = subst (HasStopped sources) is stopped

  -- the source at the place is the one that stopped the tape
  stop_source : the_stop.source ≡ source
  stop_source =
      sym (get_or-append_seam the_stop.before the_stop.source the_stop.after source)
      ∙ ap (λ n. get_or (the_stop.before ++ the_stop.source ∷ the_stop.after) n source) the_stop.counted
      ∙ ap (λ all. get_or all place source) (sym the_stop.is) ∙ sym found

  pub last_of_stop : (old new : List ℕ) (r : Result Ended NoMemory)
      → IfOk r (λ ended. (last : List ℕ) × (new ≡ old ++ last) × IsLastAt source.symbol source.head ended last)
      → IfOk r (λ ended. (last : List ℕ) × (new ≡ old ++ last) × IsLast sources ending ended last)
  last_of_stop old new r h =
      if_ok r _ _ (λ ended l. (
        l.0,
        l.1,
        subst (λ e. IsLast sources e ended l.0) (sym is)
            (the_stop, subst (λ (s : Source H). IsLastAt s.symbol s.head ended l.0) (sym stop_source) l.2),
      )) h

  pub fault_of_stop : (is_open : H → Bool) (faults : H → ℕ) (r : Result Ended NoMemory) → AllByRecursion (IsSound is_open faults) sources
      → IfOk r (λ ended. ended ≡ ReadFault → source.head ≡ Faulted) → IfOk r (λ ended. ended ≡ ReadFault → HasFaulted faults sources)
  fault_of_stop is_open faults r sound h =
      let here = (all-back (IsSound is_open faults) the_stop.before (the_stop.source ∷ the_stop.after) (subst (AllByRecursion (IsSound is_open faults)) the_stop.is sound)).0 in
      if_ok r _ _ (λ ended faulted fault.
      (let head : the_stop.source.head ≡ Faulted = ap (λ (s : Source H). s.head) stop_source ∙ faulted fault in
      let rose : Rose 0 (faults (hand_of the_stop.source.lines)) = subst (HasCause 0 (faults (hand_of the_stop.source.lines))) head here.cause in
      subst (HasFaulted faults) (sym the_stop.is) (faulted_at faults the_stop.before the_stop.source the_stop.after rose))) h

one_file : (symbol : List ℕ) (bad : BadLine) → data_line (Equity symbol Daily) (record bad { file = 0 }) ≡ data_line (Equity symbol Daily) bad
unfolding data_line path_of
one_file symbol bad = refl

-- the line of a malformed line, which is one of the only file of its security
pub bad_line_at : (symbol : List ℕ) (head : Head) (bad in_file : BadLine) (kind : FeedKind) (old new : List ℕ) → head ≡ Bad bad
    → in_file ≡ record bad { file = 0 } → kind ≡ Equity symbol Daily → (in_file.file ≤ last_day → new ≡ old ++ data_line kind in_file)
    → (last : List ℕ) × (new ≡ old ++ last) × IsLastAt symbol head BadRow last
bad_line_at symbol head bad in_file kind old new is file kind_is line =
    let small : in_file.file ≤ last_day = rw file (omega arith) in (
      data_line kind in_file,
      line small,
      rw is (refl, rw (file, kind_is) (one_file symbol bad)),
    )

-- the lines of whole days are a front of all that is printed
pub days_front : (all : List Security) (rows : List TapeRow) → IsWhole all rows → IsFrontOf (tape_text rows) (tape_bytes (tape all))
days_front all rows whole =
    let behind = text_behind {H = ℕ} all [] rows (rows_at_stop {H = ℕ} all [] rows [] Faulted whole) in
    record { rest = behind.0; is = behind.1 }
