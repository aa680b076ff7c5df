use Rattle.std.proofs.Common.{◌≡◌, ◌-◌, ◌++◌, ap, sym, subst, ◌∙◌, take, length}
use Rattle.std.specs.Prelude.{nat_lt}
use Rattle.std.specs.List.{AllZip, AllByRecursion as Each}
use Rattle.rule_strategy.specs.declared.plan.Plan.{Plan}
use Rattle.clock_run.specs.Moments.{most_requests}
use Rattle.clock_run.specs.Requests.{requests}
use Rattle.backtest_core.specs.Asking.{FindsRule, HasWindows}
use Rattle.backtest_core.specs.Watching.{WatchesAt}
use Rattle.backtest_core.specs.Inside.{asked, histories_in}
use Rattle.backtest_core.proofs.standing.Core.begin_rules.Goals as goal

pub returns-clause-begins : goal.returns-clause-begins
returns-clause-begins c = λ i s.
    let core = c.args.self.now in
    let seen = i.standing.seen in
    let rules : core.plan.rules ≡ i.standing.setup.plan.rules = ap (λ (p : Plan). p.rules) s.keeps.plan in
    let all : c.ask_rules.new.out.items ≡ asked i =
    c.in_ok-ask_rules.ensures.asks i.at seen i.standing.followed core.table.specs.items s.at s.keeps.seen
    (subst (λ ws. AllZip (WatchesAt i.at) ws i.standing.followed) (sym c.deref-2.ensures.value) s.watched)
    (subst (Each (HasWindows core.table.specs.items)) (sym c.deref-2.ensures.value) s.keeps.windows)
    (subst (λ places. AllZip (FindsRule core.table.specs.items) places c.rules_of.result.now) (sym c.deref.ensures.value)
    (subst (AllZip (FindsRule core.table.specs.items) core.table.rules.items) (sym c.rules_of.ensures) s.keeps.table))
    ∙ (ap (λ l. l ++ requests c.rules_of.result.now seen i.at (histories_in i)) c.clear.ensures.items
    ∙ ap (λ rules. requests rules seen i.at (histories_in i)) (c.rules_of.ensures ∙ rules)) in
    let given : core.commands.requests ≡ i.standing.requests = s.keeps.requests in
    record {
      keeps = record {
        plan = s.keeps.plan;
        hours = s.keeps.hours;
        table = s.keeps.table;
        windows = s.keeps.windows;
        waiting = s.keeps.waiting;
        seen = s.keeps.seen;
        requests = c.enter.ensures.requests ∙ s.keeps.requests;
      };
      watched = s.watched;
      at = c.enter.ensures.at ∙ s.at;
      phase = c.enter.ensures.phase;
      left = c.enter.ensures.left
          ∙ (c.cut-over.ensures.asked
          ∙ (ap (λ n. take (most_requests - n) c.ask_rules.new.out.items) given ∙ ap (take (most_requests - i.standing.requests)) all));
      over = c.enter.ensures.over
          ∙ (c.cut-over.ensures.over
          ∙ (ap (λ n. nat_lt (most_requests - n) (length c.ask_rules.new.out.items)) given
          ∙ ap (λ l. nat_lt (most_requests - i.standing.requests) (length l)) all));
      news = s.news;
      text = s.text;
    }
