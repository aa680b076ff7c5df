-- What a desk whose book handles each command at once has yet to give.
use Rattle.std.specs.Prelude.{◌≡◌, ℕ, ◌+◌, ◌≤◌, ◌==◌, nat_le, Bool, ◌&&◌, List, [], ◌∷◌, ◌++◌}
use Rattle.std.proofs.Common.{arith}
use Rattle.lean_orders.specs.declared.desk.Command.{Command}
use Rattle.lean_orders.specs.declared.desk.Reply.{Reply}
use Rattle.clock_book.specs.Books.{Book}
use Rattle.clock_book.specs.Handled.{after, replies}
use Rattle.order_book.specs.Kept.{Kept, order_count}
use Rattle.order_book.specs.Stands.{StandsFor}
use Rattle.order_desk.specs.Heard.{told_after, most_told, Counts}

-- Replies that are left end with `Done`, and of no command more than the most stand before it, where so many of the first were
-- heard.
abbrev pub is_whole : ℕ → List Reply → Bool
is_whole told [] = told == 0
is_whole told (r ∷ rest) = nat_le (told_after told r) most_told && is_whole (told_after told r) rest

-- a book in memory stands for some book
pub record StandsForSome (kept : Kept) : Type 0 where
  pub book : Book
  pub stands : StandsFor kept book

-- what is done is not more than what is done and what is left together
pub within_counted : (answered submitted left : ℕ) → answered + left ≡ submitted → answered ≤ submitted
within_counted answered submitted left counted = omega (arith, counted)

-- all commands are handled, and these replies to them are left
pub record Owes (kept : Kept) (left : List Reply) (n answered : ℕ) (s : Book) (cs : List Command) (rs : List Reply) : Type 0 where
  pub stands : StandsFor kept (after s cs)
  pub split : replies s cs ≡ rs ++ left
  pub counts : Counts n (order_count kept) answered s cs rs
