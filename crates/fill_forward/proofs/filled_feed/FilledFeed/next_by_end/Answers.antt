use Rattle.std.proofs.Common.{arith, rules}
use Rattle.std.proofs.lemmas.Int.{ints}
use Rattle.row_feed.specs.Feed.{key_of, window_of, hours_of, Leaves}
use Rattle.fill_forward.proofs.FeedLemmas.{held_over, behind_gives, end_gives}
use Rattle.fill_forward.proofs.NumberLemmas.{fewer_left}
use Rattle.fill_forward.proofs.filled_feed.FilledFeed.next_by_end.Goals as goal

pub invariant_of-self : goal.invariant_of-self
invariant_of-self g c = record {
  held = held_over _ _ _ _ _ _ _ c.requires.over c.args.self.now.held;
  low = omega (arith, ints, c.in-Some.ensures.between, c.args.self.now.low);
  high = omega (arith, ints, c.in-Some.ensures.between, c.args.self.now.within);
  end = c.args.self.now.end;
  within = c.args.self.now.within;
}

pub returns-in-Some-clause-gives : goal.returns-in-Some-clause-gives
returns-in-Some-clause-gives g c =
    let rows = c.args.self.now.rows in
    λ list l. behind_gives (Leaves g.H.Hand.files g.H.Hand.rest g.H.Hand.is_open rows) (hours_of rows) (window_of rows) (key_of rows) c.args.resolution c.requires.grid _ _ _ _ _ list c.requires.over (omega (arith, ints, c.args.self.now.end)) c.in-Some.ensures.again l

pub returns-in-Some-clause-goes : goal.returns-in-Some-clause-goes
returns-in-Some-clause-goes g c = record {
  fewer = fewer_left _ _ _ c.in-Some.ensures.between.0 (omega (arith, ints, c.in-Some.ensures.between));
  ended = search rules;
  grows = search rules;
  rose = tt;
  kept = search rules;
}

pub returns-in-None-clause-gives : goal.returns-in-None-clause-gives
returns-in-None-clause-gives g c =
    let rows = c.args.self.now.rows in
    λ list l. end_gives (Leaves g.H.Hand.files g.H.Hand.rest g.H.Hand.is_open rows) (hours_of rows) (window_of rows) (key_of rows) c.args.resolution c.requires.grid _ _ _ _ list c.requires.over (omega (arith, ints, c.args.self.now.end)) c.in-None.ensures.again l
