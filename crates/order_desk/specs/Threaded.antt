-- What a desk says of itself whose book is in a thread, or with the caller where no thread was to be had.
use Rattle.std.specs.Prelude.{ℕ, ◌≤◌, Bool, List}
use Rattle.lean_orders.specs.declared.desk.Command.{Command}
use Rattle.lean_orders.specs.declared.desk.Reply.{Reply}
use Rattle.clock_book.specs.Books.{Book}
use Rattle.order_book.specs.Kept.{order_count}
use Rattle.order_desk.specs.Heard.{room_of, most_told, Counts}
use Rattle.order_desk.specs.Linked.{Linked}
use Rattle.order_desk.specs.Owed.{Owes, within_counted}
use Rattle.order_desk.specs.declared.thread_desk.ThreadDesk.{ThreadDesk}
use Rattle.order_desk.specs.declared.thread_desk.ThreadDesk.TheVariants.{There, Here}

module _ {G : Type 0} {R : Type 0} where
  abbrev pub Threads : ThreadDesk G R → Book → List Command → List Reply → Type 0
  Threads (There d) s cs rs = Linked d s cs rs
  Threads (Here d gate) s cs rs = Owes d.book d.unheard d.submitted d.answered s cs rs

  abbrev pub is_starved : ThreadDesk G R → Bool
  is_starved (There d) = d.starved
  is_starved (Here d gate) = d.starved

  abbrev pub submitted_of : ThreadDesk G R → ℕ
  submitted_of (There d) = d.submitted
  submitted_of (Here d gate) = d.submitted

  abbrev pub orders_of : ThreadDesk G R → ℕ
  orders_of (There d) = d.orders
  orders_of (Here d gate) = order_count d.book

  abbrev pub answered_of : ThreadDesk G R → ℕ
  answered_of (There d) = d.answered
  answered_of (Here d gate) = d.answered

  abbrev pub told_of : ThreadDesk G R → ℕ
  told_of (There d) = d.told
  told_of (Here d gate) = d.told

  abbrev pub room_in : ThreadDesk G R → ℕ
  room_in d = room_of (submitted_of d) (answered_of d) (told_of d)

  pub counts_are : (d : ThreadDesk G R) (s : Book) (cs : List Command) (rs : List Reply) → Threads d s cs rs
      → Counts (submitted_of d) (orders_of d) (answered_of d) s cs rs
  counts_are (There d) s cs rs linked = linked.links.counts
  counts_are (Here d gate) s cs rs owes = owes.counts

  pub answered_within : (d : ThreadDesk G R) → answered_of d ≤ submitted_of d
  answered_within (There d) = d.within
  answered_within (Here d gate) = within_counted d.answered d.submitted _ d.counted

  pub told_bounded : (d : ThreadDesk G R) → told_of d ≤ most_told
  told_bounded (There d) = d.bounded
  told_bounded (Here d gate) = d.bounded
