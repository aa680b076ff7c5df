use Rattle.backtest_core.proofs.standing.Core.hear_bars.Goals as goal

pub returns-clause-hears : goal.returns-clause-hears
returns-clause-hears c = λ t v b slice. record {
  keeps = record {
    plan = b.keeps.plan;
    hours = b.keeps.hours;
    table = b.keeps.table;
    windows = c.arrive_all.ensures.windows c.args.self.now.table.specs.items b.keeps.windows;
    waiting = b.keeps.waiting;
    seen = b.keeps.seen;
    requests = b.keeps.requests;
  };
  watched = c.arrive_all.ensures.arrives t v.followed b.watched slice.quiet slice.bars slice.order slice.rising;
  at = b.at;
  phase = b.phase;
  left = b.left;
  over = b.over;
  news = b.news;
  text = b.text;
}
