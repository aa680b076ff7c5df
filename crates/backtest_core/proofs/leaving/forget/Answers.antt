use Rattle.std.proofs.Common.{rules}
use Rattle.std.specs.Prelude.{not}
use Rattle.std.proofs.lemmas.Fn.{filter_same}
use Rattle.backtest_core.specs.declared.watched.Watched.{Watched}
use Rattle.backtest_core.specs.Watching.{active_in}
use Rattle.backtest_core.specs.Leaving.{is_done}
use Rattle.backtest_core.proofs.leaving.forget.Goals as goal

pub returns-clause-stay : goal.returns-clause-stay
returns-clause-stay c = λ seen sees.
    filter_same _ (λ (w : Watched). not (is_done seen (active_in w))) _ (λ x b f k. search (rules, sees))
    c.args.watched.now.items c.retain.new.self.items c.retain.ensures.filtered
