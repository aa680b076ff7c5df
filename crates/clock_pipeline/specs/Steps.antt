-- The seven kinds of step. Each is one push or one pop of a lane, or what the core does by itself; one that is not possible
-- changes nothing.
use Rattle.std.specs.Prelude.{ℕ, zero, suc, ◌+◌, Bool, true, false, ◌&&◌, not, nat_le, is_none, if◌then◌else◌, List, [], ◌∷◌, ◌++◌, length, map, flat_map, fold, drop, Option, Some, None}
use Rattle.std.specs.List.{list_all, list_any}
use Rattle.std.specs.Option.{option_map_or}
use Rattle.lean_items.specs.declared.item.Item.{Item}
use Rattle.lean_items.specs.declared.item.Item.TheVariants.{Faulted}
use Rattle.lean_items.specs.Given.{is_last}
use Rattle.clock_book.specs.Handled.{after, replies}
use Rattle.rule_strategy.specs.declared.universe.UniversePlan.{UniversePlan}
use Rattle.clock_run.specs.Lines.{line_bytes}
use Rattle.clock_pipeline.specs.Lanes.{next_of, has_room, with_sent, with_taken}
use Rattle.clock_pipeline.specs.Cores.{Core, Pause, waits, halts, number_of, first_book}
use Rattle.clock_pipeline.specs.Reached.{reaches}
use Rattle.clock_pipeline.specs.Pipelines.{Pipeline, Feed, State, new_feed, last, list_of, feed_at, feeds_then, closed_core, hand, now}

-- a feed sends its next item, or that its read failed; an item of a feed is taken; a command is asked; it is served; a reply to
-- it is sent; it is heard; and a moment is closed
pub data Step : Type 0 where
  produces : ℕ → Bool → Step
  takes : ℕ → Step
  asks : Step
  serves : Step
  answers : Step
  hears : Step
  closes : Step

-- the feed of a number changed
abbrev pub with_feed : (Feed → Feed) → ℕ → List Feed → List Feed
with_feed change n [] = []
with_feed change zero (feed ∷ feeds) = change feed ∷ feeds
with_feed change (suc n) (feed ∷ feeds) = feed ∷ with_feed change n feeds

-- a feed gives nothing behind its malformed line, a failed read or its end
abbrev pub has_ended : List Item → Bool
has_ended items = list_any is_last items

abbrev pub next_item : Pipeline → Bool → Feed → List Item
next_item p failed feed = if failed then Faulted ∷ [] else next_of feed.lane.sent (list_of p feed.key)

abbrev pub produced : Pipeline → Bool → Feed → Feed
produced p failed feed =
    if has_room p.rooms.feeds feed.lane && not (has_ended feed.lane.sent)
    then record feed { lane = with_sent (next_item p failed feed) feed.lane }
    else feed

abbrev pub taken_from : Feed → Feed
taken_from feed = record feed { lane = with_taken feed.lane }

-- the numbers of the active feeds: the coarse feed is the first
abbrev pub coarse_numbers : Option UniversePlan → List ℕ
coarse_numbers None = []
coarse_numbers (Some universe) = 0 ∷ []

abbrev pub active_numbers : Pipeline → Core → List ℕ
active_numbers p c = coarse_numbers p.setup.plan.universe ++ map number_of c.securities

abbrev pub feed_reaches : ℕ → Feed → Bool
feed_reaches t feed = reaches feed.key.kind feed.key.start.0 t feed.lane.taken

abbrev pub number_reaches : List Feed → ℕ → ℕ → Bool
number_reaches feeds t number = option_map_or (feed_reaches t) (feed_at number feeds) false

-- the taken list of each active feed reaches a moment
unfoldable pub all_reach : Pipeline → List Feed → ℕ → Core → Bool
all_reach p feeds t c = list_all (number_reaches (feeds_then feeds c) t) (active_numbers p c)

-- the core may go on with the moment in hand
unfoldable pub may_go_on : Pipeline → State → Bool
may_go_on p s =
    nat_le (hand p s) (last p)
    && (is_none (closed_core p s).stop && all_reach p s.feeds (hand p s) (closed_core p s).state)

-- all replies were heard
abbrev pub is_heard : Option Pause → Bool
is_heard None = true
is_heard (Some waits) = false
is_heard (Some (halts halt)) = true

abbrev pub asked : Pipeline → State → State
asked p s =
    if may_go_on p s && has_room p.rooms.commands s.commands
    then record s { commands = with_sent (next_of s.commands.sent (now p s).state.asked) s.commands }
    else s

abbrev pub served : State → State
served s =
    record s { commands = with_taken s.commands; book = after s.book (next_of s.commands.taken s.commands.sent) }

abbrev pub answered : Pipeline → State → State
answered p s =
    if has_room p.rooms.replies s.replies
    then record s {
      replies = with_sent (next_of s.replies.sent (replies (first_book p.setup) s.commands.taken)) s.replies;
    }
    else s

abbrev pub heard : State → State
heard s = record s { replies = with_taken s.replies }

-- the lines of the moment are written, and the feeds of the securities that joined are added
abbrev pub closed : Pipeline → State → State
closed p s =
    if may_go_on p s && is_heard (now p s).stop
    then record s {
      feeds = s.feeds ++ map new_feed (drop (length s.feeds) (now p s).state.keys);
      closed = s.closed + 1;
      text = s.text ++ flat_map line_bytes (now p s).lines;
    }
    else s

abbrev pub stepped : Pipeline → State → Step → State
stepped p s (produces n failed) = record s { feeds = with_feed (produced p failed) n s.feeds }
stepped p s (takes n) = record s { feeds = with_feed taken_from n s.feeds }
stepped p s asks = asked p s
stepped p s serves = served s
stepped p s answers = answered p s
stepped p s hears = heard s
stepped p s closes = closed p s

-- a list of steps, one after the other
unfoldable pub after_steps : Pipeline → List Step → State → State
after_steps p steps s = fold (stepped p) s steps
