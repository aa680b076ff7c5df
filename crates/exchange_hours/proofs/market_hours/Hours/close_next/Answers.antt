use Rattle.lean_fixed.specs.declared.resolution.Resolution.TheVariants.{Daily}
use Rattle.exchange_hours.specs.Grid.{IsClosing, IsGridEnd}
use Rattle.exchange_hours.proofs.GridLemmas.{daily_end_is_close, close_is_daily_end}
use Rattle.exchange_hours.proofs.NextLemmas.{next_of_same}
use Rattle.exchange_hours.proofs.market_hours.Hours.close_next.Goals as goal

pub returns : goal.returns
returns c =
    let hours = c.args.self.now in
    next_of_same (IsGridEnd hours Daily) (IsClosing hours) c.args.after.0 c.args.until.0 c.grid_next.result (daily_end_is_close hours) (λ t q. close_is_daily_end hours t c.sessions_lie.ensures q) c.grid_next.ensures
