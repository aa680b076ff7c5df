use Rattle.std.proofs.Common.{refl}
use Rattle.consolidators.proofs.Heard.{stands_push}
use Rattle.consolidators.proofs.consolidator.Consolidator.push.Goals as goal

pub returns-clause-stands : goal.returns-clause-stands
returns-clause-stands c =
    λ bars stands. stands_push c.args.self.now _ bars c.args.bar.now _ stands c.requires.bar c.requires.follows refl refl (c.turn-given.ensures.turns bars stands)
