-- The lists of the pool are those of the feeds over the folder's files, and the desk began with the plan's book.
use Rattle.std.proofs.Common.{◌≡◌, rules, ◌∙◌, sym, ap, subst}
use Rattle.std.specs.Prelude.{option_map}
use Rattle.std.specs.Arc.{arc_value}
use Rattle.lean_items.specs.Taken.{Start}
use Rattle.feed_pool.specs.Lists.{list_of, lists_of}
use Rattle.lean_top.specs.Outcome.{HasReported}
use Rattle.lean_top.specs.Report.{setup_of, world_for, backtest_over, backtest_report_of, AreMomentsOf}
use Rattle.lean_top.proofs.RunLemmas.{run_reported, run_caused}
use Rattle.lean_top.proofs.backtest.run_plan.Goals as goal

pub returns-in-Ok-new-clause-reported : goal.returns-in-Ok-new-clause-reported
unfolding list_of
returns-in-Ok-new-clause-reported g c f told =
    let hours = arc_value c.args.hours in
    let window = c.args.plan.window in
    let setup = setup_of c.args.plan hours in
    let world = world_for f setup in
    let start : Start = record { faults = g.F.Folder.faults c.args.folder.now; hands = g.F.Folder.hands c.args.folder.now } in
    let told0 = g.S.Sink.told c.args.out.now in
    let told1 = g.S.Sink.told c.run.new.out in
    let own : arc_value c.in-Ok.own ≡ hours = c.in-Ok.ensures.cases in
    let lists = c.in-Ok-new.ensures.lists
    ∙ (ap (λ h. lists_of (g.F.Folder.files c.args.folder.now) h window) own ∙ ap (option_map (λ m. list_of m hours window)) told) in
    subst (HasReported (backtest_report_of setup (backtest_over f setup)) (AreMomentsOf setup world) told0 told1) (sym c.run_status_of.ensures.status)
    (run_reported setup world (c.no_look_ahead.ensures.front setup world) c.run.result told0 told1
    (c.run.ensures.told start f c.in-Ok-new.ensures.stands lists c.in-Ok-desk_of.ensures.stands))

-- the hands that the pool took are given back, and a failed read was counted
pub returns-in-Ok-new-clause-went : goal.returns-in-Ok-new-clause-went
returns-in-Ok-new-clause-went g c =
    let start : Start = record { faults = g.F.Folder.faults c.args.folder.now; hands = g.F.Folder.hands c.args.folder.now } in
    let hands = c.run.ensures.hands start c.in-Ok-new.ensures.stands in
    let told = c.run.ensures.stays.told in
    let grows = c.run.ensures.stays.grows in
    let read = c.run.ensures.read start c.in-Ok-new.ensures.stands in
    let cause = run_caused c.run.result start.faults _ (g.S.Sink.faults c.args.out.now) (g.S.Sink.faults c.run.new.out) read c.run.ensures.write in
    record {
      cause = search (rules, cause, c.run_status_of.ensures.status);
      back = search (rules, hands);
      kept = search (rules, told);
      folder_grows = search (rules, grows);
      sink_grows = c.run.ensures.sink_grows;
    }
