use Rattle.std.proofs.Common.{sym, ◌∙◌}
use Rattle.exchange_hours.proofs.GridLemmas.{spans_at, next_on-none, next_on-no_span, next_on-some}
use Rattle.exchange_hours.proofs.market_hours.Hours.end_on.Goals as goal

pub returns-in_err-span : goal.returns-in_err-span
returns-in_err-span c =
    rw c.from_residual.ensures (next_on-no_span c.args.self.now c.args.resolution c.args.day c.args.after c.sessions_lie.ensures (sym c.span_on.ensures ∙ c.in_err-span.was))

pub end_past-requires : goal.end_past-requires
end_past-requires c =
    spans_at c.args.self.now c.args.day c.in_ok-span.span c.sessions_lie.ensures (sym c.span_on.ensures ∙ c.in_ok-span.was)

pub returns-in_err-minute : goal.returns-in_err-minute
returns-in_err-minute c =
    rw c.from_residual-in_err-minute.ensures (next_on-none c.args.self.now c.args.resolution c.args.day c.args.after _ c.in_ok-span.span c.saturating_sub.ensures c.sessions_lie.ensures (sym c.span_on.ensures ∙ c.in_ok-span.was) (c.in_err-minute.ensures))

pub returns : goal.returns
returns c =
    next_on-some c.args.self.now c.args.resolution c.args.day c.args.after _ c.in_ok-span.span c.in_ok-minute.minute c.saturating_sub.ensures c.sessions_lie.ensures (sym c.span_on.ensures ∙ c.in_ok-span.was) (c.in_ok-minute.ensures)
