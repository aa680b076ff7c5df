use Rattle.std.proofs.Common.{[], ◌++◌, None, refl, ap}
use Rattle.backtest_engine.specs.Meaning.{Asked}
use Rattle.backtest_engine.proofs.PhaseLemmas.{goes-both, serves, phase-finished, phase-stopped}
use Rattle.backtest_engine.proofs.phases.play_phase.Goals as goal

pub returns-in-Ok-hear_all-clause-played : goal.returns-in-Ok-hear_all-clause-played
returns-in-Ok-hear_all-clause-played g c =
    let desk0 = c.args.desk.now in
    let desk1 = c.ask_all.new.desk in
    let desk2 = c.hear_all.new.desk in
    let S = g.D.Desk.stands in
    let (ds, first, asks) = c.in-Ok.ensures.asked in
    let (more, then, hears) = c.in-Ok-hear_all.ensures.heard in
    let goes = goes-both (S desk0) (S desk1) (S desk2) ds more first then in (
      ds,
      more,
      goes,
      λ m turn b cs rs f is right.
          (let (plays, asked) = asks m turn f.plays_it is in
          let counts0 = g.met.D.Desk.counts desk0 b cs rs f.stands in
          let counts2 = g.met.D.Desk.counts desk2 b (cs ++ ds) (rs ++ more) (goes b cs rs f.stands) in
          let served0 = serves (g.D.Desk.submitted desk0) (g.D.Desk.orders desk0) (g.D.Desk.answered desk0) b cs rs counts0 c.requires.done in
          let served2 = serves (g.D.Desk.submitted desk2) (g.D.Desk.orders desk2) (g.D.Desk.answered desk2) b (cs ++ ds) (rs ++ more) counts2 c.in-Ok-hear_all.ensures.done in (
            hears m turn ds [] plays,
            phase-finished m (g.C.Strategy.plays c.hear_all.new.core m) turn b cs ds rs more (record { commands = ds; stop = None }) f.book served0 served2 right asked refl,
            ap (λ (a : Asked). a.stop) asked,
          )),
    )

pub returns-in-Err-clause-played : goal.returns-in-Err-clause-played
returns-in-Err-clause-played g c =
    let S = g.D.Desk.stands in
    let (ds, first, asks) = c.in-Ok.ensures.asked in
    let (more, then, hears) = c.in-Err.ensures.heard in
    (ds, more, goes-both (S c.args.desk.now) (S c.ask_all.new.desk) (S c.hear_all.new.desk) ds more first then, λ m turn b cs rs f is right. tt)

pub returns-in-Ok-hear_all-2-clause-played : goal.returns-in-Ok-hear_all-2-clause-played
returns-in-Ok-hear_all-2-clause-played g c =
    let desk0 = c.args.desk.now in
    let desk1 = c.ask_all.new.desk in
    let desk2 = c.hear_all-in-Err-Stopped.new.desk in
    let core2 = c.hear_all-in-Err-Stopped.new.core in
    let S = g.D.Desk.stands in
    let stopped = c.in-Err-Stopped in
    let heard = c.in-Ok-hear_all-2.ensures in
    let (ds, first, asks) = stopped.ensures.asked in
    let (more, then, hears) = heard.heard in
    let goes = goes-both (S desk0) (S desk1) (S desk2) ds more first then in (
      ds,
      more,
      goes,
      λ m turn b cs rs f is right.
          (let asked = asks m turn f.plays_it is in
          let counts0 = g.met.D.Desk.counts desk0 b cs rs f.stands in
          let counts2 = g.met.D.Desk.counts desk2 b (cs ++ ds) (rs ++ more) (goes b cs rs f.stands) in
          let served0 = serves (g.D.Desk.submitted desk0) (g.D.Desk.orders desk0) (g.D.Desk.answered desk0) b cs rs counts0 c.requires.done in
          let served2 = serves (g.D.Desk.submitted desk2) (g.D.Desk.orders desk2) (g.D.Desk.answered desk2) b (cs ++ ds) (rs ++ more) counts2 heard.done in
          phase-stopped m (g.C.Strategy.plays c.ask_all.new.core m) (g.C.Strategy.plays core2 m) (g.C.Strategy.text core2) turn ds more stopped.stop
          (λ plays finished. g.C.Strategy.says core2 m turn ds more (hears m turn ds [] plays) finished)
          (λ a said given. phase-finished m (g.C.Strategy.plays core2 m) turn b cs ds rs more a f.book served0 served2 right said given)
          stopped.field-0 stopped.field-0-is asked),
    )

pub returns-in-Err-hear_all-clause-played : goal.returns-in-Err-hear_all-clause-played
returns-in-Err-hear_all-clause-played g c =
    let S = g.D.Desk.stands in
    let (ds, first, asks) = c.in-Err-Stopped.ensures.asked in
    let (more, then, hears) = c.in-Err-hear_all.ensures.heard in
    (ds, more, goes-both (S c.args.desk.now) (S c.ask_all.new.desk) (S c.hear_all-in-Err-Stopped.new.desk) ds more first then, λ m turn b cs rs f is right. tt)
