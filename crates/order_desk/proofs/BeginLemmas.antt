-- A desk begins whose book is served by a thread, or the book comes back where no thread was to be had.
use Rattle.std.proofs.Common.{◌≡◌, ℕ, List, [], ◌∷◌, ◌++◌, length, refl, ap, sym, ◌∙◌, append-nil}
use Rattle.lean_orders.specs.declared.desk.Command.{Command}
use Rattle.lean_orders.specs.declared.desk.Reply.{Reply}
use Rattle.clock_book.specs.Books.{Book}
use Rattle.clock_book.specs.Handled.{after as after_all, replies}
use Rattle.feed_queue.specs.Lanes.{sent_of, taken_of}
use Rattle.order_book.specs.Kept.{Kept, order_count}
use Rattle.order_book.specs.Stands.{StandsFor}
use Rattle.order_desk.specs.Served.{IsFront}
use Rattle.order_desk.specs.Serving.{Live, Leaves, IsLive, Ended}
use Rattle.order_desk.specs.Linked.{Links}
use Rattle.order_desk.specs.Begins.{Begins}
use Rattle.order_desk.specs.declared.ends.Ends.{Ends}
use Rattle.order_desk.specs.declared.server.Server.{Server}
use Rattle.order_desk.proofs.ReplyLemmas.{after-none, replies-none}

live-none : (kept : Kept) (s : Book) → StandsFor kept s → Live kept [] [] [] s
live-none kept s stands = record { stands = rw (after-none s) stands; split = replies-none s; few = rw (replies-none s) refl }

empty-front : (xs ys : List Command) → [] ≡ xs ++ ys → xs ≡ []
empty-front [] ys is = refl
empty-front (x ∷ xs) ys is = absurd cc

empty-replies : (xs ys : List Reply) → [] ≡ xs ++ ys → xs ≡ []
empty-replies [] ys is = refl
empty-replies (x ∷ xs) ys is = absurd cc

-- a thread to which no command came left its book as it was
left-none : (kept : Kept) (sent : List Reply) (s : Book) → Leaves kept [] sent s → StandsFor kept s
left-none kept sent s leaves =
    let none : sent ≡ [] = empty-replies sent leaves.front.0 (sym (replies-none s) ∙ leaves.front.1) in
    rw (after-none s) at (leaves.whole (replies-none s ∙ sym none))

pub links-new : (kept : Kept) (orders : ℕ) (sent : List Command) (taken queue : List Reply) (s : Book) → StandsFor kept s → orders ≡ order_count kept
    → sent ≡ [] → taken ≡ [] → queue ≡ [] → Links 0 orders 0 0 sent taken queue s [] []
links-new kept orders sent taken queue s stands count asked none empty = record {
  passed = [];
  asked = asked;
  split = none ∙ sym empty;
  heard = refl;
  place = refl;
  counts = record {
    submitted = refl;
    ordered = count ∙ ap length (stands.orders ∙ ap (λ b. b.orders) (sym (after-none s)));
    done = refl;
    closed = λ all. refl;
  };
}

pub same-orders : (old new : Kept) (s : Book) → StandsFor old s → StandsFor new s → order_count new ≡ order_count old
same-orders old new s before now = ap length (now.orders ∙ sym before.orders)

module _ {G : Type 0} {R : Type 0} where
  pub live-new : (v : Server G) (ends : Ends R) (s : Book) → Begins v ends → StandsFor v.book s → IsLive v s
  live-new v ends s begins stands = rw (begins.pending, begins.taken, begins.sent) (live-none v.book s stands)

  pub back-stands : (v w : Server G) (ends : Ends R) (rest : List Command) (s : Book) → Begins v ends → Ended v w
      → sent_of ends.commands ≡ taken_of w.commands ++ rest → StandsFor v.book s → StandsFor w.book s
  back-stands v w ends rest s begins ended settled stands =
      let none : taken_of w.commands ≡ [] = empty-front (taken_of w.commands) rest (sym begins.asked ∙ settled) in
      left-none w.book (sent_of w.replies) s (rw none at (ended.left s (live-new v ends s begins stands)))
