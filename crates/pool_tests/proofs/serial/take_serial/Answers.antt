-- The list of the key is that of the definition.
use Rattle.std.proofs.Common.{◌∙◌, ap, rules}
use Rattle.std.proofs.lemmas.Result.{IfOk-weaker, on_ok_weaker}
use Rattle.std.specs.Prelude.{option_map}
use Rattle.std.specs.Arc.{arc_value}
use Rattle.lean_items.specs.Taken.{Start}
use Rattle.feed_pool.specs.Lists.{list_of}
use Rattle.pool_tests.proofs.serial.take_serial.Goals as goal

pub returns-clause-follow : goal.returns-clause-follow
unfolding list_of
returns-clause-follow g c =
    let hours = arc_value c.args.hours in
    let window = c.args.window in
    let start : Start = record { faults = g.F.Folder.faults c.args.folder.now; hands = g.F.Folder.hands c.args.folder.now } in
    IfOk-weaker c.take_all.result _ _
    (λ items had f told. had start c.in_ok-pool.ensures.stands (list_of f hours window)
    (c.in_ok-pool.ensures.lists ∙ ap (option_map (λ m. list_of m hours window)) told))
    c.take_all.ensures.follow

pub returns-clause-rose : goal.returns-clause-rose
returns-clause-rose g c =
    let start : Start = record { faults = g.F.Folder.faults c.args.folder.now; hands = g.F.Folder.hands c.args.folder.now } in
    let had = IfOk-weaker c.take_all.result _ _ (λ items had. had start c.in_ok-pool.ensures.stands) c.take_all.ensures.rose in
    search (rules, had)

pub returns-clause-hands : goal.returns-clause-hands
returns-clause-hands g c =
    let start : Start = record { faults = g.F.Folder.faults c.args.folder.now; hands = g.F.Folder.hands c.args.folder.now } in
    let had = on_ok_weaker c.take_all.result (λ had. had start c.in_ok-pool.ensures.stands) c.take_all.ensures.hands in
    search (rules, had)
