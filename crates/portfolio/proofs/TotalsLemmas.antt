-- Running totals.
use Rattle.std.proofs.Common.{◌≡◌}
use Rattle.portfolio.specs.declared.totals.Totals.{Totals}

-- totals of the same numbers are the same
pub same_totals : (a b : Totals) → a.cash ≡ b.cash → a.fees ≡ b.fees → a.realised ≡ b.realised → a.value ≡ b.value → a.gross ≡ b.gross → a.fills ≡ b.fills
    → a ≡ b
same_totals a b c f r v g n = λ i. record { cash = c i; fees = f i; realised = r i; value = v i; gross = g i; fills = n i }
