use Rattle.clock_run.specs.Worlds.{world_of}
use Rattle.report_laws.proofs.AccountLemmas.{prices-last, held-last}
use Rattle.report_laws.proofs.laws.last_bars.Goals as goal

pub returns-clause-active : goal.returns-clause-active
returns-clause-active c setup files n every valid =
    prices-last setup (world_of files setup.hours setup.plan.window) valid
    (record {
      more = λ t key. c.worlds_go_on.ensures.bars files setup.hours setup.plan.window key t;
      fresh = λ t symbol resolution fill.
          c.worlds_go_on.ensures.fresh files setup.hours setup.plan.window symbol resolution fill t every valid.window.days;
    }) n

pub returns-clause-held : goal.returns-clause-held
returns-clause-held c setup files n symbol every valid =
    held-last setup (world_of files setup.hours setup.plan.window) valid
    (record {
      more = λ t key. c.worlds_go_on.ensures.bars files setup.hours setup.plan.window key t;
      fresh = λ t symbol resolution fill.
          c.worlds_go_on.ensures.fresh files setup.hours setup.plan.window symbol resolution fill t every valid.window.days;
    }) n symbol
