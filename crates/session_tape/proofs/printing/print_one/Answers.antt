-- A feed with another number has no symbol.
use Rattle.std.proofs.Common.{rules, arith, ◌≡◌, None, slice_get, sym, subst}
use Rattle.std.specs.Option.{option_to_list}
use Rattle.std.proofs.lemmas.Option.{slice_get_past}
use Rattle.report_pages.specs.Printed.{IsPrinted}
use Rattle.report_pages.proofs.PrintedLemmas.{IsPrinted-nothing}
use Rattle.session_tape.specs.Session.{session_text}
use Rattle.session_tape.specs.Shown.{shown_one}
use Rattle.session_tape.proofs.PrintLemmas.{none_shown}
use Rattle.session_tape.proofs.printing.print_one.Goals as goal

pub returns-in-None-clause-prints : goal.returns-in-None-clause-prints
returns-in-None-clause-prints g c =
    let none : slice_get c.args.symbols.now c.args.arrival.now.feed.0 ≡ None = search (rules, slice_get_past c.args.symbols.now c.args.arrival.now.feed.0) in
    let nothing : shown_one c.args.symbols.now c.args.arrival.now ≡ None = none_shown c.args.symbols.now c.args.arrival.now none in
    let told = g.S.Sink.told c.args.out.now in
    let page = c.args.page.now in (
      subst (λ o. IsPrinted told told page page (session_text (option_to_list o))) (sym nothing) (IsPrinted-nothing told page),
      c.requires.room,
      omega arith,
    )
