-- The turn at the place was pumped.
use Rattle.std.proofs.Common.{refl}
use Rattle.work_scheduler.proofs.PlacingLemmas.{zip-set, grew-set, stuck-set, stuck-turn}
use Rattle.work_scheduler.proofs.rounds.pump_at.Goals as goal

pub returns-clause-ran : goal.returns-clause-ran
returns-clause-ran g c = zip-set c.args.turns.now c.args.place c.index-turns-place.result _ c.requires.within (refl, c.pump.ensures.ran)

pub returns-clause-sent : goal.returns-clause-sent
returns-clause-sent g c = grew-set c.args.turns.now c.args.place c.index-turns-place.result _ _ c.requires.within c.pump.ensures.sent

pub returns-clause-stuck : goal.returns-clause-stuck
returns-clause-stuck g c none =
    stuck-set c.args.turns.now c.args.place _ c.requires.within
    (stuck-turn _ _ c.pump.result c.args.batch c.requires.some none c.pump.ensures.short c.pump.ensures.full c.pump.ensures.ended c.pump.ensures.ran)
