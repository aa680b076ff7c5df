use Rattle.backtest_core.proofs.mirror.Mirror.fill.Goals as goal

pub returns : goal.returns
returns c = λ seen sees can. record {
  account = c.apply.ensures.stands seen.start seen.fills seen.marks (c.hold.ensures.stands seen.start seen.fills seen.marks sees.account);
  live = c.remove.ensures seen.live sees.live;
}
