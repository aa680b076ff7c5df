-- The feeds and windows on which worked values are computed.
use Rattle.std.specs.Prelude.{ℕ, ℤ, pos, true, codes}
use Rattle.lean_fixed.specs.declared.resolution.Resolution.{Resolution}
use Rattle.lean_fixed.specs.declared.time.Window.{Window}
use Rattle.lean_items.specs.declared.feed_key.FeedKey.{FeedKey}
use Rattle.lean_items.specs.declared.feed_key.FeedKind.TheVariants.{Coarse, Equity}

-- the bars of SPY, from a moment on
abbrev pub spider : Resolution → ℤ → FeedKey
spider resolution start = record { kind = Equity (codes "SPY") resolution; start = record { 0 = start }; fill = true }

abbrev pub coarse : ℤ → FeedKey
coarse start = record { kind = Coarse; start = record { 0 = start }; fill = true }

abbrev pub window : ℕ → ℕ → Window
window first last = record { first = record { 0 = pos first }; last = record { 0 = pos last } }
