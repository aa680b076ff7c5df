-- The lists of the pool are those of the feeds over the folder's files.
use Rattle.std.proofs.Common.{rules, ◌∙◌, sym, ap, subst, refl}
use Rattle.std.proofs.lemmas.Result.{IfOk-weaker}
use Rattle.std.specs.Prelude.{option_map}
use Rattle.std.specs.Arc.{arc_value}
use Rattle.lean_items.specs.Taken.{Start}
use Rattle.exchange_hours.specs.Sessions.{LieInDays}
use Rattle.feed_pool.specs.Lists.{list_of}
use Rattle.report_pages.proofs.PrintedLemmas.{on_err-map}
use Rattle.session_tape.specs.Session.{session_sources, session}
use Rattle.session_tape.specs.Walked.{AreFeeds}
use Rattle.lean_top.specs.Outcome.{HasReported}
use Rattle.lean_top.specs.Report.{session_report_of, AreMinutesBy}
use Rattle.lean_top.proofs.TapeLemmas.{tape_reported, caused}
use Rattle.lean_top.proofs.session.tape_over.Goals as goal

pub returns-in-Ok-clause-reported : goal.returns-in-Ok-clause-reported
unfolding list_of
returns-in-Ok-clause-reported g c f told =
    let hours = arc_value c.args.hours in
    let window = c.args.window in
    let resolution = c.args.resolution in
    let before : Start = record { faults = g.F.Folder.faults c.args.folder.now; hands = g.F.Folder.hands c.args.folder.now } in
    let told0 = g.S.Sink.told c.args.out.now in
    let told1 = g.S.Sink.told c.print_session-ended.new.out in
    let sources = session_sources f hours resolution window c.args.symbols.now in
    let lie : LieInDays hours = subst LieInDays c.deref.ensures c.sessions_lie.ensures in
    let lists = c.in-Ok.ensures.lists ∙ ap (option_map (λ m. list_of m hours window)) told in
    let are : AreFeeds (list_of f hours window) f hours window = record { lie = lie; same = λ key. refl } in
    let printed = IfOk-weaker c.print_session-ended.result _ _ (λ ended had. had before (list_of f hours window) f hours c.in-Ok.ensures.stands lists are) c.print_session-ended.ensures.told in
    let front = on_err-map c.print_session-ended.result _ _ (λ had. had before (list_of f hours window) f hours c.in-Ok.ensures.stands lists are) c.print_session-ended.ensures.front in
    subst (HasReported (session_report_of resolution (session sources window)) (AreMinutesBy sources window) told0 told1) (sym c.status_of.ensures)
    (tape_reported resolution window sources (λ bars whole. c.minutes_are_a_front.ensures resolution window sources bars whole) c.print_session-ended.result told0 told1 printed front)

-- the hands that the pool took are given back, and a failed read was counted
pub returns-in-Ok-clause-went : goal.returns-in-Ok-clause-went
returns-in-Ok-clause-went g c =
    let ended = c.print_session-ended in
    let start : Start = record { faults = g.F.Folder.faults c.args.folder.now; hands = g.F.Folder.hands c.args.folder.now } in
    let hands = ended.ensures.hands start c.in-Ok.ensures.stands in
    let told = ended.ensures.stays.told in
    let grows = ended.ensures.stays.grows in
    let fault = IfOk-weaker ended.result _ _ (λ x had. had start c.in-Ok.ensures.stands) ended.ensures.fault in
    let cause = caused ended.result start.faults _ (g.S.Sink.faults c.args.out.now) (g.S.Sink.faults ended.new.out) fault ended.ensures.cause in
    record {
      cause = search (rules, cause);
      back = search (rules, hands);
      kept = search (rules, told);
      folder_grows = search (rules, grows);
      sink_grows = ended.ensures.sink_grows;
    }
