use Rattle.backtest_core.proofs.mirror.Mirror.mark.Goals as goal

pub returns : goal.returns
returns c = λ seen sees price. record {
  account = c.in_ok-hold_at.ensures.stands seen.start seen.fills seen.marks sees.account;
  live = sees.live;
}
