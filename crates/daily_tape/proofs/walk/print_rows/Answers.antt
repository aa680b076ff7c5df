-- Step by step, until a head ends the tape or none is left.
use Rattle.std.proofs.Common.{◌+◌, ◌<◌, ◌≤◌, arith, refl, sym, ◌∙◌, subst}
use Rattle.lean_fixed.specs.Calendar.{last_day}
use Rattle.daily_tape.specs.Steps.{AllAhead, AllPast}
use Rattle.report_pages.proofs.PrintedLemmas.{cause-earlier}
use Rattle.daily_tape.proofs.Walking.{walked-start, walked-more, walked-front, walked-end, walked-stop}
use Rattle.daily_tape.proofs.walk.print_rows.Goals as goal

pub steps-init : goal.steps-init
steps-init g c = (
  c.requires.sound,
  c.requires.past,
  omega arith,
  omega arith,
  refl,
  c.requires.room,
  omega arith,
  λ f all follows. walked-start g.H.Hand.files g.H.Hand.rest f all c.args.sources.now.items (g.S.Sink.told c.args.out.now) c.args.page.now follows,
)

pub returns-in-Err-clause-front : goal.returns-in-Err-clause-front
returns-in-Err-clause-front g c =
    let ahead : AllAhead c.in-Step.step c.steps.sources.items = subst (AllAhead c.in-Step.step) c.deref.ensures.value c.in-Step.ensures.next.0 in
    let past : AllPast c.steps.done c.deref.result.now = subst (AllPast c.steps.done) (sym c.deref.ensures.value) c.steps.invariant.1 in
    let later : c.steps.done < c.in-Step.step = c.in-Step.ensures.later c.steps.done c.steps.invariant.2 past in
    λ f all follows. walked-front g.H.Hand.files g.H.Hand.rest f all c.steps.sources.items c.steps.done c.steps.rows (g.S.Sink.told c.args.out.now) (g.S.Sink.told c.steps.out) c.args.page.now c.steps.page
    (c.steps.invariant.7 f all follows) c.in-Step.step (g.S.Sink.told c.print_step.new.out) ahead later c.in-Step.ensures.next.1 c.in-Err.ensures.prints.0

pub returns-in-Err-clause-cause : goal.returns-in-Err-clause-cause
returns-in-Err-clause-cause g c =
    cause-earlier (g.S.Sink.faults c.args.out.now) (g.S.Sink.faults c.steps.out) (g.S.Sink.faults c.print_step.new.out) c.in-Err.stop c.steps.invariant.6 c.in-Err.ensures.prints.1

pub returns-in-Err-clause-grows : goal.returns-in-Err-clause-grows
returns-in-Err-clause-grows g c = omega (arith, c.steps.invariant.6, c.in-Err.ensures.prints.2)

pub steps-smaller : goal.steps-smaller
steps-smaller g c =
    let past : AllPast c.steps.done c.deref.result.now = subst (AllPast c.steps.done) (sym c.deref.ensures.value) c.steps.invariant.1 in
    let later : c.steps.done < c.in-Step.step = c.in-Step.ensures.later c.steps.done c.steps.invariant.2 past in
    let before : c.steps.done ≤ last_day + 1 = c.steps.invariant.2 in
    omega (arith, later, before)

pub steps-preserved : goal.steps-preserved
steps-preserved g c =
    let ahead : AllAhead c.in-Step.step c.steps.sources.items = subst (AllAhead c.in-Step.step) c.deref.ensures.value c.in-Step.ensures.next.0 in
    let past : AllPast c.steps.done c.deref.result.now = subst (AllPast c.steps.done) (sym c.deref.ensures.value) c.steps.invariant.1 in
    let later : c.steps.done < c.in-Step.step = c.in-Step.ensures.later c.steps.done c.steps.invariant.2 past in (
      c.in-Ok.ensures.sound,
      c.in-Ok.ensures.past,
      c.in-Step.ensures.next.1,
      omega (arith, c.steps.invariant.3, c.in-Ok.ensures.few, later),
      c.in-Ok.ensures.same ∙ c.steps.invariant.4,
      c.in-Ok.ensures.prints.1,
      omega (arith, c.steps.invariant.6, c.in-Ok.ensures.prints.2),
      λ f all follows.
          (let w = c.steps.invariant.7 f all follows in
          walked-more g.H.Hand.files g.H.Hand.rest f all c.steps.sources.items c.steps.done c.steps.rows (g.S.Sink.told c.args.out.now) (g.S.Sink.told c.steps.out) c.args.page.now c.steps.page w
          c.in-Step.step c.in-Ok.printed c.print_step.new.sources.items (g.S.Sink.told c.print_step.new.out) c.print_step.new.page ahead later
          (c.in-Ok.ensures.follows f c.steps.done all later w.follows) c.in-Ok.ensures.counted c.in-Ok.ensures.prints.0),
    )

pub returns-in-Stop-clause-told : goal.returns-in-Stop-clause-told
returns-in-Stop-clause-told g c f all follows =
    let w = c.steps.invariant.7 f all follows in
    record {
      rows = w.lines;
      printed = w.printed;
      ends = walked-stop g.H.Hand.files g.H.Hand.rest f all c.steps.sources.items c.steps.done c.steps.rows (g.S.Sink.told c.args.out.now) (g.S.Sink.told c.steps.out) c.args.page.now c.steps.page w
          c.in-Stop.place c.steps.invariant.2 c.steps.invariant.1;
    }

pub returns-in-End-clause-told : goal.returns-in-End-clause-told
returns-in-End-clause-told g c f all follows =
    let w = c.steps.invariant.7 f all follows in
    let ahead : AllAhead (last_day + 2) c.steps.sources.items = subst (AllAhead (last_day + 2)) c.deref.ensures.value c.in-End.ensures.next in
    record {
      rows = w.lines;
      printed = w.printed;
      ends = (
        walked-end g.H.Hand.files g.H.Hand.rest f all c.steps.sources.items c.steps.done c.steps.rows (g.S.Sink.told c.args.out.now) (g.S.Sink.told c.steps.out) c.args.page.now c.steps.page w
            c.steps.invariant.2 ahead,
        w.counted,
      );
    }
