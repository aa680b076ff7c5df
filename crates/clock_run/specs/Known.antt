-- What is known of the market at a moment. A moment of a run is given what is known then and nothing else, so it can't look
-- ahead.
use Rattle.std.specs.Prelude.{ℕ, List, Option}
use Rattle.lean_items.specs.declared.bad.Bad.{Bad}
use Rattle.lean_items.specs.declared.bar.Bar.{Bar}
use Rattle.lean_items.specs.declared.coarse_row.CoarseRow.{CoarseRow}
use Rattle.lean_items.specs.declared.feed_key.FeedKey.{FeedKey}

-- The bars of a feed that ended by the moment, in order; the malformed line at which the feed has ended by then, where it has;
-- and the rows of the coarse universe that are known from this very moment on.
pub record Known : Type 0 where
  pub bars : FeedKey → List Bar
  pub blocked : FeedKey → Option Bad
  pub coarse : List CoarseRow

-- what is known at each moment
abbrev pub World : Type 0
World = ℕ → Known
