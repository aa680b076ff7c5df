-- How a desk begins whose book is served by a thread.
use Rattle.std.specs.Prelude.{◌≡◌, false, []}
use Rattle.clock_book.specs.Books.{Book}
use Rattle.feed_queue.specs.Lanes.{sent_of, taken_of, lane_of, lane_of_reader}
use Rattle.order_book.specs.Kept.{Kept, order_count}
use Rattle.order_book.specs.Stands.{StandsFor}
use Rattle.order_desk.specs.Threaded.{Threads, is_starved, submitted_of, orders_of, answered_of, told_of, room_in}
use Rattle.order_desk.specs.declared.ends.Ends.{Ends}
use Rattle.order_desk.specs.declared.server.Server.{Server}
use Rattle.order_desk.specs.declared.thread_desk.ThreadDesk.{ThreadDesk}

module _ {G : Type 0} {R : Type 0} where
  -- a server and a desk's ends of its lanes, through which nothing came yet
  pub record Begins (server : Server G) (ends : Ends R) : Type 0 where
    pub taken : taken_of server.commands ≡ []
    pub sent : sent_of server.replies ≡ []
    pub pending : server.pending ≡ []
    pub asked : sent_of ends.commands ≡ []
    pub heard : taken_of ends.replies ≡ []
    pub queue : ends.queue ≡ []
    pub commands : lane_of ends.commands ≡ lane_of_reader server.commands
    pub replies : lane_of server.replies ≡ lane_of_reader ends.replies

  -- a desk over a book, to which nothing was submitted yet
  pub record IsNew (desk : ThreadDesk G R) (book : Kept) : Type 0 where
    pub stands : (s : Book) → StandsFor book s → Threads desk s [] []
    pub fed : is_starved desk ≡ false
    pub submitted : submitted_of desk ≡ 0
    pub orders : orders_of desk ≡ order_count book
    pub answered : answered_of desk ≡ 0
    pub told : told_of desk ≡ 0
    pub room : room_in desk ≡ 0
