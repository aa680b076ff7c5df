-- What a step gives is given, and what it reads is read, behind the steps that passed over.
use Rattle.std.proofs.Common.{rules, Some}
use Rattle.row_feed.specs.Feed.{Leaves}
use Rattle.row_feed.proofs.StepLemmas.{step_more}
use Rattle.row_feed.proofs.ReadingLemmas.{passed_on}
use Rattle.row_feed.proofs.feed.RowFeed.next.Goals as goal

pub returns-in-Some-clause-gives : goal.returns-in-Some-clause-gives
returns-in-Some-clause-gives g c list leaves =
    step_more (Leaves g.H.Hand.files g.H.Hand.rest g.H.Hand.is_open c.step.new.self) _ (λ l left. record { f = left.f; told = left.told; left = left.left }) list (Some c.in-Some.item)
    (c.in-Some.ensures.gives list (c.steps.invariant.leaves list leaves))

pub returns-in-Some-clause-reads : goal.returns-in-Some-clause-reads
returns-in-Some-clause-reads g c = record {
  feeds = c.steps.invariant.passed.0;
  last = c.steps.self;
  passed = c.steps.invariant.passed.1;
  reads = c.in-Some.ensures.reads;
}

pub steps-preserved : goal.steps-preserved
steps-preserved g c = record {
  leaves = λ list left. c.in-None.ensures.gives list (c.steps.invariant.leaves list left);
  at = search rules;
  files = search rules;
  grows = search rules;
  kept = search rules;
  passed =
      passed_on g.H.Hand.files g.H.Hand.rest g.H.Hand.is_open c.args.self.now c.steps.self c.step.new.self c.steps.invariant.passed
      (record { reads = c.in-None.ensures.reads; same = c.in-None.ensures.gives });
  room = search rules;
}
