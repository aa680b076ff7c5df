-- A pipeline: the feeds and the lanes of each, the lane of the commands and that of the replies, the book, and the core, of which
-- the number of the closed moments and the text are kept. The rest of the core is what these moments lead to over what was
-- taken and heard.
use Rattle.std.specs.Prelude.{ℕ, zero, suc, ◌+◌, List, [], ◌∷◌, length, map, take, Option, Some, None}
use Rattle.lean_fixed.specs.Moments.{first_moment, last_moment}
use Rattle.lean_io.specs.Told.{Files}
use Rattle.lean_items.specs.declared.feed_key.FeedKey.{FeedKey}
use Rattle.lean_items.specs.declared.item.Item.{Item}
use Rattle.lean_orders.specs.declared.desk.Command.{Command}
use Rattle.lean_orders.specs.declared.desk.Reply.{Reply}
use Rattle.clock_steps.specs.Runs.{Ran, run}
use Rattle.clock_feeds.specs.Feeds.{feed as feed_items}
use Rattle.clock_feeds.specs.Lists.{rows_ending}
use Rattle.clock_book.specs.Books.{Book}
use Rattle.clock_run.specs.Known.{World}
use Rattle.clock_run.specs.Lines.{Line}
use Rattle.clock_run.specs.States.{Setup}
use Rattle.clock_run.specs.Worlds.{world_of}
use Rattle.clock_pipeline.specs.Lanes.{Lane, empty}
use Rattle.clock_pipeline.specs.Cores.{Core, View, Pause, Part, number_of, first_book, first_keys, opening as opening_core}
use Rattle.clock_pipeline.specs.Moments.{moment_of}
use Rattle.clock_pipeline.specs.Reached.{bars_taken}

-- how many items the lane of a feed, that of the commands and that of the replies may hold
pub record Rooms : Type 0 where
  pub feeds : ℕ
  pub commands : ℕ
  pub replies : ℕ

-- what a pipeline is run with
pub record Pipeline : Type 0 where
  pub setup : Setup
  pub files : Files
  pub rooms : Rooms

-- a feed that was ever added
pub record Feed : Type 0 where
  pub key : FeedKey
  pub lane : Lane Item

-- the feeds by their numbers; the commands that were asked and served; the replies that were sent and heard; the book; how
-- many moments are closed; and the text
pub record State : Type 0 where
  pub feeds : List Feed
  pub commands : Lane Command
  pub replies : Lane Reply
  pub book : Book
  pub closed : ℕ
  pub text : List ℕ

abbrev pub key_of : Feed → FeedKey
key_of feed = feed.key

abbrev pub new_feed : FeedKey → Feed
new_feed key = record { key = key; lane = empty }

-- before any step
abbrev pub opening : Pipeline → State
opening p = record {
  feeds = map new_feed (first_keys p.setup);
  commands = empty;
  replies = empty;
  book = first_book p.setup;
  closed = 0;
  text = [];
}

-- the first and the last moment of the window, and what the files mean
abbrev pub first : Pipeline → ℕ
first p = first_moment p.setup.plan.window

abbrev pub last : Pipeline → ℕ
last p = last_moment p.setup.plan.window

abbrev pub world : Pipeline → World
world p = world_of p.files p.setup.hours p.setup.plan.window

-- the list of a feed
abbrev pub list_of : Pipeline → FeedKey → List Item
list_of p key = feed_items p.files p.setup.hours p.setup.plan.window key

-- the feed of a number, and what was taken of it
abbrev pub feed_at : ℕ → List Feed → Option Feed
feed_at n [] = None
feed_at zero (feed ∷ feeds) = Some feed
feed_at (suc n) (feed ∷ feeds) = feed_at n feeds

abbrev pub items_of : Option Feed → List Item
items_of None = []
items_of (Some feed) = feed.lane.taken

-- what some feeds tell of a moment by what was taken of them
abbrev pub view_of : List Feed → ℕ → View
view_of feeds t = record {
  bars = λ security. bars_taken (items_of (feed_at (number_of security) feeds)) t;
  rows = rows_ending t (items_of (feed_at 0 feeds));
}

-- the feeds that there were when the core was so
abbrev pub feeds_then : List Feed → Core → List Feed
feeds_then feeds c = take (length c.keys) feeds

-- a moment of the core over what was taken of some feeds
abbrev pub step_over : Pipeline → List Feed → ℕ → Part
step_over p feeds t c = moment_of p.setup t (world p t) (view_of (feeds_then feeds c) t) c

-- so many moments from the first one on, over what was taken and heard
abbrev pub core_over : Pipeline → List Feed → List Reply → ℕ → Ran Core Line Pause
core_over p feeds heard count = run (step_over p feeds) count (first p) (opening_core p.setup heard)

-- the first closed moments of a state, and all of them
abbrev pub core_after : Pipeline → State → ℕ → Ran Core Line Pause
core_after p s count = core_over p s.feeds s.replies.taken count

abbrev pub closed_core : Pipeline → State → Ran Core Line Pause
closed_core p s = core_after p s s.closed

-- the moment in hand, and what the core does in it by what was taken and heard so far
abbrev pub hand : Pipeline → State → ℕ
hand p s = first p + s.closed

abbrev pub now : Pipeline → State → Ran Core Line Pause
now p s = step_over p s.feeds (hand p s) (closed_core p s).state
