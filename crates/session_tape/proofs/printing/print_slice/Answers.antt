use Rattle.std.proofs.Common.{arith}
use Rattle.report_pages.proofs.PrintedLemmas.{cause-earlier}
use Rattle.session_tape.proofs.PrintLemmas.{printing_more, printing_front}
use Rattle.session_tape.proofs.printing.print_slice.Goals as goal

pub returns-in-Err-clause-prints : goal.returns-in-Err-clause-prints
returns-in-Err-clause-prints g c =
    let (front, cause, grows) = c.in-Err.ensures.prints in (
      printing_front c.args.symbols.now c.args.slice.now c.items.place c.items.rows c.index-slice-place.result (g.S.Sink.told c.args.out.now) (g.S.Sink.told c.items.out) (g.S.Sink.told c.print_one.new.out)
          c.args.page.now c.items.page c.items.invariant.printing c.items-test.true c.index-slice-place.is front,
      cause-earlier (g.S.Sink.faults c.args.out.now) (g.S.Sink.faults c.items.out) (g.S.Sink.faults c.print_one.new.out) c.in-Err.stop c.items.invariant.grows cause,
      omega (arith, c.items.invariant.grows, grows),
    )

pub items-preserved : goal.items-preserved
items-preserved g c =
    let lines = c.in-Ok.ensures in
    let (printed, room, grows) = lines.prints in
    record {
      text = c.items.invariant.text;
      printing = printing_more c.args.symbols.now c.args.slice.now c.items.place c.items.rows c.in-Ok.printed c.index-slice-place.result (g.S.Sink.told c.args.out.now) (g.S.Sink.told c.items.out)
          (g.S.Sink.told c.print_one.new.out) c.args.page.now c.items.page c.print_one.new.page c.items.invariant.printing c.items-test.true c.index-slice-place.is
          lines.counted lines.few printed;
      room = room;
      grows = omega (arith, c.items.invariant.grows, grows);
    }
