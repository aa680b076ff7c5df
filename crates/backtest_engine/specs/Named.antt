-- Whose bars a feed reads.
use Rattle.std.specs.Prelude.{ℕ, List, Option, Some, None}
use Rattle.lean_items.specs.declared.feed_key.FeedKind.{FeedKind}
use Rattle.lean_items.specs.declared.feed_key.FeedKind.TheVariants.{Coarse, Equity}

-- the symbol of the security, and none of the coarse feed
abbrev pub symbol_in : FeedKind → Option (List ℕ)
symbol_in Coarse = None
symbol_in (Equity symbol resolution) = Some symbol
