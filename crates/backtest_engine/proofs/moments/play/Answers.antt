use Rattle.backtest_engine.specs.declared.phase.Phase.TheVariants.{Prices, Rules, Close}
use Rattle.backtest_engine.proofs.MomentLemmas.{through-first, through-prices, through-rules, ends-first, ends-phase, ends-unclosed, ends-closed}
use Rattle.backtest_engine.proofs.moments.play.Goals as goal

pub returns-in-Err-clause-played : goal.returns-in-Err-clause-played
returns-in-Err-clause-played g c =
    let S = g.C.Strategy in
    ends-first c.args.at c.args.slice.now (g.D.Desk.stands c.args.desk.now) (S.stands c.args.core.now) S.meets
    (S.plays c.arrive.new.self) (S.stands c.arrive.new.self) (S.text c.arrive.new.self) c.in-Err.stop (λ m s t core met is. c.in-Err.ensures.arrives m s t core met is)

pub returns-in-Err-play_phase-clause-played : goal.returns-in-Err-play_phase-clause-played
returns-in-Err-play_phase-clause-played g c =
    let S = g.C.Strategy in
    let D = g.D.Desk.stands in
    let start = D c.args.desk.now in
    let stands = S.stands c.args.core.now in
    let first = through-first c.args.at c.args.slice.now start stands S.meets (S.plays c.arrive.new.self) (S.text c.arrive.new.self) (λ m s t core met is. c.in-Ok.ensures.arrives m s t core met is) in
    let (ds, more, goes, says) = c.in-Err-play_phase.ensures.played in
    ends-phase c.args.at c.args.slice.now start stands S.meets Prices start (D c.play_phase.new.desk) (S.plays c.arrive.new.self) (S.plays c.play_phase.new.core) (S.stands c.play_phase.new.core) (S.text c.play_phase.new.core)
    ds more c.in-Err-play_phase.stop first goes says

pub returns-in-Err-play_phase-2-clause-played : goal.returns-in-Err-play_phase-2-clause-played
returns-in-Err-play_phase-2-clause-played g c =
    let S = g.C.Strategy in
    let D = g.D.Desk.stands in
    let second = through-prices c.args.at c.args.slice.now (D c.args.desk.now) (S.stands c.args.core.now) S.meets (D c.play_phase.new.desk) (S.plays c.arrive.new.self) (S.plays c.play_phase.new.core) (S.text c.arrive.new.self) (S.text c.play_phase.new.core)
    (λ m s t core met is. c.in-Ok.ensures.arrives m s t core met is) c.in-Ok-play_phase.ensures.played (S.passes c.play_phase.new.core) in
    let (ds, more, goes, says) = c.in-Err-play_phase-2.ensures.played in
    ends-phase c.args.at c.args.slice.now (D c.args.desk.now) (S.stands c.args.core.now) S.meets Rules (D c.play_phase.new.desk) (D c.play_phase-2.new.desk) (S.plays c.play_phase.new.core) (S.plays c.play_phase-2.new.core) (S.stands c.play_phase-2.new.core) (S.text c.play_phase-2.new.core) ds more c.in-Err-play_phase-2.stop second goes says

pub returns-in-Err-play_phase-3-clause-played : goal.returns-in-Err-play_phase-3-clause-played
returns-in-Err-play_phase-3-clause-played g c =
    let S = g.C.Strategy in
    let D = g.D.Desk.stands in
    let third = through-rules c.args.at c.args.slice.now (D c.args.desk.now) (S.stands c.args.core.now) S.meets (D c.play_phase.new.desk) (D c.play_phase-2.new.desk) (S.plays c.arrive.new.self) (S.plays c.play_phase.new.core) (S.plays c.play_phase-2.new.core)
    (S.text c.arrive.new.self) (S.text c.play_phase.new.core) (S.text c.play_phase-2.new.core) (λ m s t core met is. c.in-Ok.ensures.arrives m s t core met is) c.in-Ok-play_phase.ensures.played (S.passes c.play_phase.new.core) c.in-Ok-play_phase-2.ensures.played (S.passes c.play_phase-2.new.core) in
    let (ds, more, goes, says) = c.in-Err-play_phase-3.ensures.played in
    ends-phase c.args.at c.args.slice.now (D c.args.desk.now) (S.stands c.args.core.now) S.meets Close (D c.play_phase-2.new.desk) (D c.play_phase-3.new.desk) (S.plays c.play_phase-2.new.core) (S.plays c.play_phase-3.new.core) (S.stands c.play_phase-3.new.core) (S.text c.play_phase-3.new.core) ds more c.in-Err-play_phase-3.stop third goes says

pub returns-in-Ok-close_moment-clause-played : goal.returns-in-Ok-close_moment-clause-played
returns-in-Ok-close_moment-clause-played g c =
    let S = g.C.Strategy in
    let D = g.D.Desk.stands in
    let third = through-rules c.args.at c.args.slice.now (D c.args.desk.now) (S.stands c.args.core.now) S.meets (D c.play_phase.new.desk) (D c.play_phase-2.new.desk) (S.plays c.arrive.new.self) (S.plays c.play_phase.new.core) (S.plays c.play_phase-2.new.core)
    (S.text c.arrive.new.self) (S.text c.play_phase.new.core) (S.text c.play_phase-2.new.core) (λ m s t core met is. c.in-Ok.ensures.arrives m s t core met is) c.in-Ok-play_phase.ensures.played (S.passes c.play_phase.new.core) c.in-Ok-play_phase-2.ensures.played (S.passes c.play_phase-2.new.core) in
    let (ds, more, goes, says) = c.in-Ok-play_phase-3.ensures.played in
    ends-closed c.args.at c.args.slice.now (D c.args.desk.now) (S.stands c.args.core.now) S.meets (D c.play_phase-2.new.desk) (D c.play_phase-3.new.desk) (S.plays c.play_phase-2.new.core) (S.plays c.play_phase-3.new.core) (S.stands c.close_moment.new.self) (S.text c.play_phase-3.new.core) (S.text c.close_moment.new.self) ds more c.in-Ok-close_moment.changes third goes says
    (λ m turn cs rs h finished is. c.in-Ok-close_moment.ensures.closes m turn cs rs h finished is)

pub returns-in-Err-close_moment-clause-played : goal.returns-in-Err-close_moment-clause-played
returns-in-Err-close_moment-clause-played g c =
    let S = g.C.Strategy in
    let D = g.D.Desk.stands in
    let third = through-rules c.args.at c.args.slice.now (D c.args.desk.now) (S.stands c.args.core.now) S.meets (D c.play_phase.new.desk) (D c.play_phase-2.new.desk) (S.plays c.arrive.new.self) (S.plays c.play_phase.new.core) (S.plays c.play_phase-2.new.core)
    (S.text c.arrive.new.self) (S.text c.play_phase.new.core) (S.text c.play_phase-2.new.core) (λ m s t core met is. c.in-Ok.ensures.arrives m s t core met is) c.in-Ok-play_phase.ensures.played (S.passes c.play_phase.new.core) c.in-Ok-play_phase-2.ensures.played (S.passes c.play_phase-2.new.core) in
    let (ds, more, goes, says) = c.in-Ok-play_phase-3.ensures.played in
    ends-unclosed c.args.at c.args.slice.now (D c.args.desk.now) (S.stands c.args.core.now) S.meets Close (D c.play_phase-2.new.desk) (D c.play_phase-3.new.desk) (S.plays c.play_phase-2.new.core) (S.stands c.close_moment.new.self) (S.text c.close_moment.new.self) ds more third goes
