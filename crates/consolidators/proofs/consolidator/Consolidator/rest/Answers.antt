use Rattle.consolidators.proofs.Heard.{is_rest, ranges_of_rest}
use Rattle.std.proofs.Common.{refl}
use Rattle.consolidators.proofs.consolidator.Consolidator.rest.Goals as goal

pub returns-clause-rest : goal.returns-clause-rest
returns-clause-rest c = is_rest c.args.self.now

pub returns-clause-ranges : goal.returns-clause-ranges
returns-clause-ranges c = ranges_of_rest c.args.self.now c.args.self.now.held refl
