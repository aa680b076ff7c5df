-- What a thread that serves a book has done, by its ends of the two lanes between it and a desk.
use Rattle.std.specs.Prelude.{◌≡◌, true, List, ◌++◌}
use Rattle.lean_orders.specs.declared.desk.Command.{Command}
use Rattle.lean_orders.specs.declared.desk.Reply.{Reply}
use Rattle.clock_book.specs.Books.{Book}
use Rattle.clock_book.specs.Handled.{after, replies}
use Rattle.feed_queue.specs.Lanes.{sent_of, taken_of, lane_of, lane_of_reader}
use Rattle.order_book.specs.Kept.{Kept}
use Rattle.order_book.specs.Stands.{StandsFor}
use Rattle.order_desk.specs.Owed.{is_whole}
use Rattle.order_desk.specs.Served.{IsFront}
use Rattle.order_desk.specs.Told.{tells}
use Rattle.order_desk.specs.declared.server.Server.{Server}

-- All commands that were taken are handled, and these replies to them are not sent yet. Of no command are there too many.
pub record Live (kept : Kept) (left : List Reply) (taken : List Command) (sent : List Reply) (s : Book) : Type 0 where
  pub stands : StandsFor kept (after s taken)
  pub split : replies s taken ≡ sent ++ left
  pub few : is_whole 0 (replies s taken) ≡ true

-- What is known of a thread that ended. What it sent is a front of the replies to the commands that it took, and each of these
-- is heard as it was sent. Where it sent all of them, the book is what the commands have made of it.
pub record Leaves (kept : Kept) (taken : List Command) (sent : List Reply) (s : Book) : Type 0 where
  pub front : IsFront s taken sent
  pub told : tells 0 sent ≡ sent
  pub whole : replies s taken ≡ sent → StandsFor kept (after s taken)

module _ {G : Type 0} where
  abbrev pub IsLive : Server G → Book → Type 0
  IsLive v s = Live v.book v.pending (taken_of v.commands) (sent_of v.replies) s

  abbrev pub IsLeft : Server G → Book → Type 0
  IsLeft v s = Leaves v.book (taken_of v.commands) (sent_of v.replies) s

  -- the ends are those of the same lanes
  pub record SameLanes (before now : Server G) : Type 0 where
    pub commands : lane_of_reader now.commands ≡ lane_of_reader before.commands
    pub replies : lane_of now.replies ≡ lane_of before.replies

  -- a server that served on
  pub record RanOn (before now : Server G) : Type 0 where
    pub lanes : SameLanes before now
    pub live : (s : Book) → IsLive before s → IsLive now s

  -- a server that served on and ended: what its thread promises
  pub record Ended (before now : Server G) : Type 0 where
    pub lanes : SameLanes before now
    pub left : (s : Book) → IsLive before s → IsLeft now s
