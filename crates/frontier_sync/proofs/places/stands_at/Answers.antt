use Rattle.std.proofs.Common.{arith}
use Rattle.std.proofs.lemmas.Bool.Decides.{nat_tests}
use Rattle.frontier_sync.proofs.PlaceLemmas.{there, absent}
use Rattle.frontier_sync.proofs.places.stands_at.Goals as goal

pub returns-then-place-heads-clause-there : goal.returns-then-place-heads-clause-there
returns-then-place-heads-clause-there c = λ same.
    there c.args.feed.0 c.args.place c.args.heads.now c.index-heads-place.result c.requires.rising c.if-place-heads.true (grind (arith, nat_tests))

pub returns-then-place-heads-clause-absent : goal.returns-then-place-heads-clause-absent
returns-then-place-heads-clause-absent c = λ other.
    absent c.args.feed.0 c.args.place c.args.heads.now c.index-heads-place.result c.requires.rising c.requires.upper c.if-place-heads.true (grind (arith, nat_tests))
