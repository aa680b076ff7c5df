-- The plan's algorithm was run over the lists of the folder's files, or there was no memory for it.
use Rattle.std.proofs.Common.{sym, subst, ◌∙◌}
use Rattle.std.specs.Arc.{arc_value}
use Rattle.exchange_hours.specs.Sessions.{LieInDays}
use Rattle.clock_book.specs.Books.{new_book}
use Rattle.clock_run.specs.States.{Setup}
use Rattle.backtest_engine.specs.Algorithms.{meaning_of, opening_state}
use Rattle.backtest_engine.specs.Feeds.{list_of}
use Rattle.backtest_engine.specs.Playing.{Between}
use Rattle.backtest_engine.proofs.PlanLemmas.{are-lists, opening-as, meet-as, report-as, exact-as, is-backtest, nothing-written}
use Rattle.backtest_engine.proofs.plan_run.run.Goals as goal

pub returns-in-Err-clause-told : goal.returns-in-Err-clause-told
returns-in-Err-clause-told g c before files stand is desk =
    nothing-written _ _ (g.S.Sink.told c.args.out.now) c.give_up.result c.give_up.ensures.ended

pub returns-clause-told : goal.returns-clause-told
returns-clause-told g c before files stand is desk =
    nothing-written _ _ (g.S.Sink.told c.args.out.now) c.give_up-in-Err-begin.result c.give_up-in-Err-begin.ensures.ended

pub returns-in-Ok-begin-clause-causes : goal.returns-in-Ok-begin-clause-causes
returns-in-Ok-begin-clause-causes g c before files stand is desk fed =
    let hours = arc_value c.args.hours in
    let setup : Setup = record { plan = c.args.plan; hours = hours } in
    let every : LieInDays hours = subst (λ h. LieInDays h) c.deref.ensures c.sessions_lie.ensures in
    let keys = c.deref-in-Ok-begin.ensures.value ∙ c.in-Ok.ensures.keys in
    let book = new_book c.args.plan.cash.0 c.args.plan.costs c.args.plan.leverage hours in
    report-as setup files c.requires.plan every c.is_some-coarse.result c.first_minute.result c.last_minute.result
    (g.S.Sink.told c.args.out.now) (g.S.Sink.told c.run_strategy.new.out) c.run_strategy.result c.is_some-coarse.ensures c.first_minute.ensures c.last_minute.ensures
    (c.run_strategy.ensures.told before (list_of files hours c.args.plan.window) (meaning_of setup) (opening_state setup) book stand is
    (are-lists setup files c.requires.plan every) desk
    (subst (λ keys. Between c.in-Ok-begin.algorithm (meaning_of setup) (opening_state setup) keys) (sym keys) c.in-Ok-begin.ensures)
    (opening-as setup files c.requires.plan every c.is_some-coarse.result c.first_minute.result c.deref-in-Ok-begin.result.now c.is_some-coarse.ensures c.first_minute.ensures keys)
    (meet-as setup files c.requires.plan every c.first_minute.result c.last_minute.result c.first_minute.ensures c.last_minute.ensures))

pub returns-in-Ok-begin-clause-exact : goal.returns-in-Ok-begin-clause-exact
returns-in-Ok-begin-clause-exact g c before files stand is desk fed =
    let hours = arc_value c.args.hours in
    let setup : Setup = record { plan = c.args.plan; hours = hours } in
    let every : LieInDays hours = subst (λ h. LieInDays h) c.deref.ensures c.sessions_lie.ensures in
    let keys = c.deref-in-Ok-begin.ensures.value ∙ c.in-Ok.ensures.keys in
    let book = new_book c.args.plan.cash.0 c.args.plan.costs c.args.plan.leverage hours in
    exact-as setup files c.requires.plan every c.is_some-coarse.result c.first_minute.result c.last_minute.result
    (g.S.Sink.told c.args.out.now) (g.S.Sink.told c.run_strategy.new.out) c.run_strategy.result c.is_some-coarse.ensures c.first_minute.ensures c.last_minute.ensures
    (c.run_strategy.ensures.exact before (list_of files hours c.args.plan.window) (meaning_of setup) (opening_state setup) book stand is
    (are-lists setup files c.requires.plan every) desk
    (subst (λ keys. Between c.in-Ok-begin.algorithm (meaning_of setup) (opening_state setup) keys) (sym keys) c.in-Ok-begin.ensures)
    (opening-as setup files c.requires.plan every c.is_some-coarse.result c.first_minute.result c.deref-in-Ok-begin.result.now c.is_some-coarse.ensures c.first_minute.ensures keys)
    (meet-as setup files c.requires.plan every c.first_minute.result c.last_minute.result c.first_minute.ensures c.last_minute.ensures))

pub returns-in-Ok-begin-clause-told : goal.returns-in-Ok-begin-clause-told
returns-in-Ok-begin-clause-told g c before files stand is desk =
    let hours = arc_value c.args.hours in
    let setup : Setup = record { plan = c.args.plan; hours = hours } in
    let every : LieInDays hours = subst (λ h. LieInDays h) c.deref.ensures c.sessions_lie.ensures in
    let keys = c.deref-in-Ok-begin.ensures.value ∙ c.in-Ok.ensures.keys in
    let book = new_book c.args.plan.cash.0 c.args.plan.costs c.args.plan.leverage hours in
    let (now, follow, reported) = report-as setup files c.requires.plan every c.is_some-coarse.result c.first_minute.result c.last_minute.result
    (g.S.Sink.told c.args.out.now) (g.S.Sink.told c.run_strategy.new.out) c.run_strategy.result c.is_some-coarse.ensures c.first_minute.ensures c.last_minute.ensures
    (c.run_strategy.ensures.told before (list_of files hours c.args.plan.window) (meaning_of setup) (opening_state setup) book stand is
    (are-lists setup files c.requires.plan every) desk
    (subst (λ keys. Between c.in-Ok-begin.algorithm (meaning_of setup) (opening_state setup) keys) (sym keys) c.in-Ok-begin.ensures)
    (opening-as setup files c.requires.plan every c.is_some-coarse.result c.first_minute.result c.deref-in-Ok-begin.result.now c.is_some-coarse.ensures c.first_minute.ensures keys)
    (meet-as setup files c.requires.plan every c.first_minute.result c.last_minute.result c.first_minute.ensures c.last_minute.ensures)) in
    is-backtest setup files c.requires.plan every _ now (g.S.Sink.told c.args.out.now) (g.S.Sink.told c.run_strategy.new.out) c.run_strategy.result reported
