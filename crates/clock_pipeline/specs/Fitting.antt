-- Which states of a pipeline fit: what was sent, taken, asked, served, answered, heard and closed belongs together.
use Rattle.std.specs.Prelude.{◌≡◌, ℕ, ◌+◌, ◌-◌, ◌<◌, ◌≤◌, true, length, map, flat_map, None}
use Rattle.std.specs.List.{AllByRecursion as Each}
use Rattle.lean_items.specs.Taken.{Follows}
use Rattle.clock_steps.specs.Runs.{IsFrontOf}
use Rattle.clock_book.specs.Handled.{after, replies}
use Rattle.clock_run.specs.Lines.{line_bytes}
use Rattle.clock_pipeline.specs.Lanes.{IsLane}
use Rattle.clock_pipeline.specs.Cores.{first_book}
use Rattle.clock_pipeline.specs.Pipelines.{Pipeline, Feed, State, key_of, first, last, list_of, core_after, closed_core, hand, now}
use Rattle.clock_pipeline.specs.Steps.{all_reach, is_heard}

-- a lane that does not hold too much, in which what was sent follows the list of the feed
pub record FitsFeed (p : Pipeline) (feed : Feed) : Type 0 where
  pub lane : IsLane p.rooms.feeds feed.lane
  pub list : Follows (list_of p feed.key) feed.lane.sent

pub record Fits (p : Pipeline) (s : State) : Type 0 where
  -- the feeds are those that the closed moments added
  pub feeds : Each (FitsFeed p) s.feeds
  pub keys : map key_of s.feeds ≡ (closed_core p s).state.keys
  -- the commands and the replies are those of the book, in its order
  pub command_lane : IsLane p.rooms.commands s.commands
  pub book : s.book ≡ after (first_book p.setup) s.commands.taken
  pub reply_lane : IsLane p.rooms.replies s.replies
  pub answers : IsFrontOf s.replies.sent (replies (first_book p.setup) s.commands.taken)
  -- what was asked is the commands of the closed moments, and then a front of those of the moment in hand
  pub closed_asked : IsFrontOf (closed_core p s).state.asked s.commands.sent
  pub asked : IsFrontOf s.commands.sent (now p s).state.asked
  -- no closed moment lies past the window, only the last may have halted, and all replies were heard in each
  pub within : s.closed ≤ last p + 1 - first p
  pub going : (count : ℕ) → count < s.closed → (core_after p s count).stop ≡ None
  pub heard : is_heard (closed_core p s).stop ≡ true
  -- enough was taken for each closed moment, and for the moment in hand where something was asked in it
  pub reached : (count : ℕ) → count < s.closed
      → all_reach p s.feeds (first p + count) (core_after p s count).state ≡ true
  pub in_hand : length (closed_core p s).state.asked < length s.commands.sent
      → all_reach p s.feeds (hand p s) (closed_core p s).state ≡ true
  -- the text is the lines of the closed moments
  pub text : s.text ≡ flat_map line_bytes (closed_core p s).lines
