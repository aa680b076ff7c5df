use Rattle.std.proofs.Common.{◌≡◌, ◌++◌, ◌∷◌, [], ap, sym, subst, ◌∙◌, arith, length, false}
use Rattle.lean_orders.specs.declared.desk.Command.TheVariants.{Match}
use Rattle.clock_run.specs.Moments.{marks}
use Rattle.backtest_core.specs.Inside.{histories_in}
use Rattle.backtest_core.specs.Watching.{marks_in}
use Rattle.backtest_core.specs.Phases.{AreOf}
use Rattle.backtest_core.proofs.SoundLemmas.{told_sound, told_few}
use Rattle.backtest_core.proofs.StandLemmas.{marks-watched}
use Rattle.backtest_core.proofs.standing.Core.begin_prices.Goals as goal

pub enter-requires-clause-sound : goal.enter-requires-clause-sound
enter-requires-clause-sound c =
    told_sound c.args.self.now.commands.at c.args.self.now.watched.items c.clear.new.self.items c.tell_prices.new.out.items
    c.args.self.now.commands.timed c.in_ok-tell_prices.ensures.told
    (subst (AreOf c.args.self.now.commands.at.0 false) (sym c.clear.ensures.items) tt)

pub enter-requires-clause-room : goal.enter-requires-clause-room
enter-requires-clause-room c =
    let none : length c.clear.new.self.items ≡ 0 = ap length c.clear.ensures.items in
    omega (
      arith,
      none,
      c.tell_prices.new.out.ok.0,
      c.args.self.now.watched.ok.0,
      c.args.self.now.few,
      told_few c.args.self.now.commands.at c.args.self.now.watched.items c.clear.new.self.items c.tell_prices.new.out.items c.in_ok-tell_prices.ensures.told,
    )

pub returns-clause-begins : goal.returns-clause-begins
returns-clause-begins c = λ i s.
    let at = c.args.self.now.commands.at in
    let ws = c.args.self.now.watched.items in
    record {
      keeps = record {
        plan = s.keeps.plan;
        hours = s.keeps.hours;
        table = s.keeps.table;
        windows = s.keeps.windows;
        waiting = s.keeps.waiting;
        seen = s.keeps.seen;
        requests = c.enter.ensures.requests ∙ s.keeps.requests;
      };
      watched = s.watched;
      at = c.enter.ensures.at ∙ s.at;
      phase = c.enter.ensures.phase;
      left = c.enter.ensures.left
          ∙ (c.in_ok-tell_prices.ensures.told
          ∙ (ap (λ l. l ++ (marks_in at ws ++ Match at ∷ [])) c.clear.ensures.items
          ∙ (ap (λ l. l ++ Match at ∷ []) (marks-watched at i.at ws i.standing.followed s.at s.watched)
          ∙ ap (λ m. marks i.at (histories_in i) ++ Match m ∷ []) s.at)));
      over = c.enter.ensures.over;
      news = s.news;
      text = s.text;
    }
