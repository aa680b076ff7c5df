use Rattle.std.proofs.Common.{ap, sym, ◌∙◌, ◌-ℤ◌}
use Rattle.std.specs.Int.{int_max}
use Rattle.report_stats.specs.Stands.{peak_of}
use Rattle.report_stats.proofs.DrawdownLemmas.{peak-push, drawdown-push}
use Rattle.report_stats.proofs.stats.Stats.close.Goals as goal

pub returns : goal.returns
returns c = λ start equities s. record {
  begun = s.begun;
  peak = c.greater.ensures ∙ (ap (λ peak. int_max peak c.args.equity.0) s.peak ∙ sym (peak-push start equities c.args.equity.0));
  drawdown = c.greater-2.ensures
      ∙ (ap (int_max c.args.self.now.drawdown.0) (c.below.ensures ∙ ap (λ peak. peak -ℤ c.args.equity.0) s.peak)
      ∙ (ap (λ d. int_max d (peak_of start equities -ℤ c.args.equity.0)) s.drawdown ∙ sym (drawdown-push start equities c.args.equity.0)));
}
