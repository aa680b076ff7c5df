use Rattle.universe_state.proofs.Symbols.{last, found, kept, gone, put, chosen, removed}
use Rattle.universe_state.proofs.laws.symbols_stay_different.Goals as goal

pub returns : goal.returns
returns c = record { last = last; found = found; kept = kept; gone = gone; put = put; chosen = chosen; removed = removed }
