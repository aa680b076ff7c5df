-- What was printed of a session tape is its report, or a front of it.
use Rattle.std.proofs.Common.{◌≡◌, ℕ, ◌+◌, ◌-◌, List, [], ◌++◌, sym, ap, ◌∙◌, subst, arith, length, append_assoc, append-nil}
use Rattle.std.specs.Prelude.{Option, Result, Ok, Err, IfOk}
use Rattle.std.proofs.lemmas.Grind.{flat_map-append}
use Rattle.lean_fixed.specs.Moments.{first_moment, last_moment}
use Rattle.lean_fixed.specs.declared.resolution.Resolution.{Resolution}
use Rattle.lean_fixed.specs.declared.time.Window.{Window}
use Rattle.clock_feeds.specs.Slices.{Source}
use Rattle.clock_steps.specs.Runs.{IsFrontOf}
use Rattle.clock_steps.proofs.RunLemmas.{run-front}
use Rattle.report_pages.specs.Lines.{end_line}
use Rattle.report_pages.specs.Printed.{IsFront}
use Rattle.report_pages.proofs.PrintedLemmas.{IsFront-behind, IsFront-more, IsFront-printed}
use Rattle.report_pages.specs.declared.ended.Ended.{Ended}
use Rattle.session_tape.specs.declared.ending.Ending.{Ending}
use Rattle.session_tape.specs.declared.ending.Ending.TheVariants.{Whole, Refused, Faulted}
use Rattle.session_tape.specs.Reports.{HasFile, IsReportFront, IsLast}
use Rattle.session_tape.specs.Session.{SessionBar, session_line, session_text, last_line, session_bytes, session_minute, session_minutes, session}
use Rattle.session_tape.specs.Walked.{EndsSo, IsWalked}
use Rattle.session_tape.specs.Whole.{IsWhole}

module _ (resolution : Resolution) (window : Window) (sources : List (List ℕ × Source)) where
  has_file : (bars : List SessionBar) (ending : Ending) → EndsSo sources window bars ending → HasFile ending
  has_file bars (Whole count) ends = tt
  has_file bars (Refused symbol bad) ends = ends.1
  has_file bars Faulted ends = tt

  abbrev pub Lasts : List ℕ → List ℕ → Ending → Ended → Type 0
  Lasts page page1 ending ended = HasFile ending → (last : List ℕ) × (page1 ≡ page ++ last) × IsLast resolution ending ended last

  -- ---- a front

  pub bars_front : (bars : List SessionBar) (ending : Ending) → EndsSo sources window bars ending → IsFrontOf bars (session sources window).lines
  bars_front bars (Whole count) (ends, counted) = record { rest = []; is = ap (λ r. r.lines) ends ∙ sym (append-nil bars) }
  bars_front bars (Refused symbol bad) (ends, small) = record { rest = []; is = ap (λ r. r.lines) ends ∙ sym (append-nil bars) }
  bars_front bars Faulted whole =
      let all = last_moment window + 1 - first_moment window in
      let front = run-front (session_minute sources) whole.count (all - whole.count) (first_moment window) tt in
      let count : whole.count + (all - whole.count) ≡ all = omega (arith, whole.small) in
      record {
        rest = front.rest;
        is = sym (ap (λ n. (session_minutes sources window n).lines) count) ∙ front.is ∙ ap (λ r. r ++ front.rest) (sym whole.is);
      }

  pub text_behind : (bars : List SessionBar) → IsFrontOf bars (session sources window).lines
      → (more : List ℕ) × (session_bytes resolution (session sources window) ≡ session_text bars ++ more)
  text_behind bars front =
      let last = last_line resolution (length (session sources window).lines) (session sources window).stop in (
        session_text front.rest ++ last,
        ap (λ ls. session_text ls ++ last) front.is ∙ ap (λ t. t ++ last) (flat_map-append session_line bars front.rest) ∙ append_assoc (session_text bars) (session_text front.rest) last,
      )

  last_behind : (bars : List SessionBar) (ending : Ending) (ended : Ended) (last : List ℕ) → EndsSo sources window bars ending → IsLast resolution ending ended last
      → (more : List ℕ) × (session_bytes resolution (session sources window) ≡ session_text bars ++ (last ++ more))
  last_behind bars (Whole count) ended last (ends, counted) (is, line) =
      ([], ap (session_bytes resolution) ends ∙ ap (λ l. session_text bars ++ l) (ap end_line (sym counted) ∙ sym line ∙ sym (append-nil last)))
  last_behind bars (Refused symbol bad) ended last (ends, small) (is, line) =
      ([], ap (session_bytes resolution) ends ∙ ap (λ l. session_text bars ++ l) (sym line ∙ sym (append-nil last)))
  last_behind bars Faulted ended last whole (is, none) =
      let behind = text_behind bars (bars_front bars Faulted whole) in
      (behind.0, behind.1 ∙ ap (λ l. session_text bars ++ (l ++ behind.0)) (sym none))

  -- the last line was not appended
  pub ended_early : (told mid : Option (List ℕ)) (page : List ℕ) (ending : Ending) → IsWalked sources window told mid [] page ending → IsReportFront resolution window sources told mid
  ended_early told mid page ending w =
      let behind = text_behind w.bars (bars_front w.bars ending w.ends) in
      subst (IsFront told mid) (sym behind.1) (IsFront-printed told mid [] page (session_text w.bars) behind.0 w.printed)

  -- the page was not written whole
  pub ended_short : (told mid new : Option (List ℕ)) (page page1 : List ℕ) (ending : Ending) (ended : Ended) → IsWalked sources window told mid [] page ending
      → Lasts page page1 ending ended → IsFront mid new page1 → IsReportFront resolution window sources told new
  ended_short told mid new page page1 ending ended w lasts front =
      let (last, is_page, is_last) = lasts (has_file w.bars ending w.ends) in
      let behind = last_behind w.bars ending ended last w.ends is_last in
      let more : IsFront mid new (page ++ (last ++ behind.0))
      = subst (IsFront mid new) (append_assoc page last behind.0) (IsFront-more mid new (page ++ last) behind.0 (subst (IsFront mid new) is_page front)) in
      subst (IsFront told new) (sym behind.1) (IsFront-behind told mid new [] page (session_text w.bars) (last ++ behind.0) w.printed more)

-- where a walk was cut short, so is the report
pub cut_short : (resolution : Resolution) (window : Window) (sources : List (List ℕ × Source)) (told new : Option (List ℕ))
    → IsFront told new (session_text (session sources window).lines) → IsReportFront resolution window sources told new
cut_short resolution window sources told new front =
    let last = last_line resolution (length (session sources window).lines) (session sources window).stop in
    IsFront-more told new (session_text (session sources window).lines) last front

pub if_ok : {A E : Type 0} (r : Result A E) (P Q : A → Type 0) → ((x : A) → P x → Q x) → IfOk r P → IfOk r Q
if_ok (Ok x) P Q f h = f x h
if_ok (Err e) P Q f h = tt

-- the lines of whole minutes come first
pub minutes_front : (resolution : Resolution) (window : Window) (sources : List (List ℕ × Source)) (bars : List SessionBar) → IsWhole sources window bars
    → IsFrontOf (session_text bars) (session_bytes resolution (session sources window))
minutes_front resolution window sources bars whole =
    let behind = text_behind resolution window sources bars (bars_front resolution window sources bars Faulted whole) in
    record { rest = behind.0; is = behind.1 }
