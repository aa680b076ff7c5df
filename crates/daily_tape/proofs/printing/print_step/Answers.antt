-- Security by security.
use Rattle.std.proofs.Common.{rules, arith, refl, ◌<◌, length}
use Rattle.report_pages.proofs.PrintedLemmas.{cause-earlier}
use Rattle.daily_tape.proofs.Stepping.{stepped-start, stepped-more, stepped-front, stepped-within}
use Rattle.daily_tape.proofs.printing.print_step.Goals as goal

pub loop-place-init : goal.loop-place-init
loop-place-init g c = (
  stepped-start g.H.Hand.is_open g.H.Hand.faults g.H.Hand.files g.H.Hand.rest c.args.step c.args.sources.now.items (g.S.Sink.told c.args.out.now) c.args.page.now
      c.requires.sound c.requires.ahead,
  c.requires.room,
  omega arith,
)

pub returns-in-Err-clause-prints : goal.returns-in-Err-clause-prints
returns-in-Err-clause-prints g c =
    let old : c.loop-place.place < length c.args.sources.now.items = search rules in
    let within : c.loop-place.place < length c.loop-place.sources.items
    = stepped-within g.H.Hand.is_open g.H.Hand.faults g.H.Hand.files g.H.Hand.rest c.args.step c.args.sources.now.items c.loop-place.sources.items c.loop-place.place c.loop-place.rows
    (g.S.Sink.told c.args.out.now) (g.S.Sink.told c.loop-place.out) c.args.page.now c.loop-place.page c.loop-place.invariant.0 old in
    let (front, cause, grows) = c.in-Err.ensures.prints in (
      stepped-front g.H.Hand.is_open g.H.Hand.faults g.H.Hand.files g.H.Hand.rest c.args.step c.args.sources.now.items c.loop-place.sources.items c.loop-place.place c.loop-place.rows
          (g.S.Sink.told c.args.out.now) (g.S.Sink.told c.loop-place.out) (g.S.Sink.told c.print_source.new.out) c.args.page.now c.loop-place.page
          c.index_mut-source.result.now c.index_mut-source.result.now c.loop-place.invariant.0 within c.index_mut-source.ensures.value front,
      cause-earlier (g.S.Sink.faults c.args.out.now) (g.S.Sink.faults c.loop-place.out) (g.S.Sink.faults c.print_source.new.out) c.in-Err.stop c.loop-place.invariant.2 cause,
      omega (arith, c.loop-place.invariant.2, grows),
    )

pub loop-place-preserved : goal.loop-place-preserved
loop-place-preserved g c =
    let old : c.loop-place.place < length c.args.sources.now.items = search rules in
    let within : c.loop-place.place < length c.loop-place.sources.items
    = stepped-within g.H.Hand.is_open g.H.Hand.faults g.H.Hand.files g.H.Hand.rest c.args.step c.args.sources.now.items c.loop-place.sources.items c.loop-place.place c.loop-place.rows
    (g.S.Sink.told c.args.out.now) (g.S.Sink.told c.loop-place.out) c.args.page.now c.loop-place.page c.loop-place.invariant.0 old in (
      stepped-more g.H.Hand.is_open g.H.Hand.faults g.H.Hand.files g.H.Hand.rest c.args.step c.args.sources.now.items c.loop-place.sources.items _ c.loop-place.place c.loop-place.rows c.in-Ok.printed
          (g.S.Sink.told c.args.out.now) (g.S.Sink.told c.loop-place.out) (g.S.Sink.told c.print_source.new.out) c.args.page.now c.loop-place.page c.print_source.new.page
          c.index_mut-source.result.now c.print_source.new.source c.index_mut-source.result.now c.loop-place.invariant.0 within c.index_mut-source.ensures.value refl
          c.in-Ok.ensures.sound c.in-Ok.ensures.past c.in-Ok.ensures.follows c.in-Ok.ensures.counted c.in-Ok.ensures.few c.in-Ok.ensures.prints.0,
      c.in-Ok.ensures.prints.1,
      omega (arith, c.loop-place.invariant.2, c.in-Ok.ensures.prints.2),
    )
