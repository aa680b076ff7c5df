use Rattle.std.proofs.Common.{◌≡◌, ◌++◌, ap, sym, subst, ◌∙◌, map, unsigned_abs}
use Rattle.std.specs.Prelude.{not}
use Rattle.std.specs.List.{AllZip, AllByRecursion as Each}
use Rattle.std.proofs.lemmas.List.Concat.{flat_map-append}
use Rattle.rule_strategy.specs.declared.plan.Plan.{Plan}
use Rattle.clock_run.specs.Lines.{line_bytes}
use Rattle.clock_run.specs.States.{Subscription}
use Rattle.backtest_core.specs.Inside.{joining_all, closed}
use Rattle.backtest_core.specs.Watching.{active_in, Watches}
use Rattle.backtest_core.specs.Asking.{HasWindows}
use Rattle.backtest_core.specs.Waiting.{key_in, subscriptions_in}
use Rattle.backtest_core.specs.Leaving.{is_done, leaving_of, lines_of}
use Rattle.backtest_core.specs.Text.{lines_bytes}
use Rattle.backtest_core.proofs.CoreLemmas.{each-filter, stay-watched, feeds-leaving, lines-leaving, keys-waiting}
use Rattle.backtest_core.proofs.JoinLemmas.{keys-start}
use Rattle.backtest_core.proofs.standing.Core.close_moment.Goals as goal

pub returns-clause-closes : goal.returns-clause-closes
returns-clause-closes c = λ i s.
    let core = c.args.self.now in
    let seen = i.standing.seen in
    let ws = core.watched.items in
    let fs = i.standing.followed in
    let stay = c.forget.ensures.stay seen s.keeps.seen in
    let at : unsigned_abs core.commands.at.0 ≡ i.at = ap (λ m. unsigned_abs m.0) s.at in
    let waiting : subscriptions_in c.in_ok-waiting.waiting.items ≡ (closed i).waiting =
    c.in_ok-waiting.ensures.waits i.at s.at
    ∙ (ap (joining_all core.plan.universe i.at) (c.deref-2.ensures.value ∙ s.news)
    ∙ ap (λ (p : Plan). joining_all p.universe i.at i.news) s.keeps.plan) in (
      record {
        keeps = record {
          plan = s.keeps.plan;
          hours = s.keeps.hours;
          table = s.keeps.table;
          windows = subst (Each (HasWindows core.table.specs.items)) (sym stay)
              (each-filter (HasWindows core.table.specs.items) (λ w. not (is_done seen (active_in w))) ws s.keeps.windows);
          waiting = waiting;
          seen = s.keeps.seen;
          requests = s.keeps.requests;
        };
        watched = subst (λ ws. AllZip Watches ws (closed i).followed) (sym stay) (stay-watched seen i.at ws fs s.watched);
        text = c.in_ok-removed.ensures.text seen s.keeps.seen
            ∙ (ap (λ l. l ++ lines_bytes (lines_of (unsigned_abs core.commands.at.0) (leaving_of seen c.deref.result.now))) s.text
            ∙ (ap (λ n. lines_bytes i.lines ++ lines_bytes (lines_of n (leaving_of seen c.deref.result.now))) at
            ∙ (ap (λ l. lines_bytes i.lines ++ lines_bytes (lines_of i.at (leaving_of seen l))) c.deref.ensures.value
            ∙ (ap (λ l. lines_bytes i.lines ++ lines_bytes l) (lines-leaving seen i.at i.at ws fs s.watched)
            ∙ sym (flat_map-append line_bytes i.lines _)))));
      },
      c.in_ok-added.ensures ∙ (ap (map key_in) c.deref-3.ensures.value ∙ (sym (keys-waiting c.in_ok-waiting.waiting.items) ∙ ap (map (λ (x : Subscription). x.key)) waiting)),
      c.in_ok-removed.ensures.feeds seen s.keeps.seen
          ∙ (ap (λ l. map (λ w. w.feed) (leaving_of seen l)) c.deref.ensures.value ∙ feeds-leaving seen i.at ws fs s.watched),
    )

pub returns-clause-starts : goal.returns-clause-starts
returns-clause-starts c =
    let core = c.args.self.now in
    keys-start core.plan.universe core.commands.at c.deref-2.result.now c.in_ok-waiting.waiting.items c.in_ok-added.added.items core.commands.timed
    c.in_ok-waiting.ensures.waits (c.in_ok-added.ensures ∙ ap (map key_in) c.deref-3.ensures.value)
