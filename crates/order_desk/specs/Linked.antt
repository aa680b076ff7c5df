-- What a desk stands for whose book is served by a thread.
use Rattle.std.specs.Prelude.{◌≡◌, ℕ, List, ◌++◌}
use Rattle.lean_orders.specs.declared.desk.Command.{Command}
use Rattle.lean_orders.specs.declared.desk.Reply.{Reply}
use Rattle.clock_book.specs.Books.{Book}
use Rattle.feed_queue.specs.Lanes.{sent_of, taken_of}
use Rattle.order_desk.specs.Heard.{Counts}
use Rattle.order_desk.specs.Serving.{IsLive}
use Rattle.order_desk.specs.Told.{tells, told_by}
use Rattle.order_desk.specs.declared.lane_desk.LaneDesk.{LaneDesk}

-- The commands that were sent are those that were submitted. The replies that were taken are those that passed, which were
-- heard, and then those in the desk's list.
pub record Links (n orders answered told : ℕ) (sent : List Command) (taken queue : List Reply) (s : Book) (cs : List Command) (rs : List Reply) : Type 0 where
  pub passed : List Reply
  pub asked : sent ≡ cs
  pub split : taken ≡ passed ++ queue
  pub heard : rs ≡ tells 0 passed
  pub place : told ≡ told_by 0 passed
  pub counts : Counts n orders answered s cs rs

module _ {G : Type 0} {R : Type 0} where
  -- the thread began with a server that stood for this book, and the rest is what the desk's own ends say
  pub record Linked (d : LaneDesk G R) (s : Book) (cs : List Command) (rs : List Reply) : Type 0 where
    pub begun : IsLive d.child.promise.0.value s
    pub links : Links d.submitted d.orders d.answered d.told (sent_of d.ends.commands) (taken_of d.ends.replies) d.ends.queue s cs rs
