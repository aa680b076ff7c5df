-- What a phase of a strategy and a desk does, whatever the desk replies.
use Rattle.std.specs.Prelude.{◌≡◌, ℕ, Bool, true, false, List, ◌++◌, [], Some, None, Result, Ok, Err}
use Rattle.lean_orders.specs.declared.desk.Command.{Command}
use Rattle.lean_orders.specs.declared.desk.Reply.{Reply}
use Rattle.clock_book.specs.Books.{Book}
use Rattle.clock_book.specs.Handled.{after}
use Rattle.backtest_engine.specs.declared.limits.Stop.{Stop}
use Rattle.backtest_engine.specs.declared.limits.Stop.TheVariants.{NoMemory, Limited}
use Rattle.backtest_engine.specs.declared.phases.Unasked.{Unasked}
use Rattle.backtest_engine.specs.declared.phases.Unasked.TheVariants.{Starved, Stopped}
use Rattle.backtest_engine.specs.Meaning.{Meaning}
use Rattle.backtest_engine.specs.Turns.{Turn, Plays, asked_of, text_after, IsFinished}

-- these commands were submitted to a desk, and these replies were heard of it, whatever it stood for
abbrev pub DeskStands : Type 1
DeskStands = Book → List Command → List Reply → Type 0

abbrev pub GoesOn : DeskStands → DeskStands → List Command → List Reply → Type 0
GoesOn old new ds more =
    (b : Book) (cs : List Command) (rs : List Reply) → old b cs rs → new b (cs ++ ds) (rs ++ more)

-- a desk has memory unless it is starved
abbrev pub IsFed : Bool → Unasked → Type 0
IsFed starved Starved = starved ≡ true
IsFed starved (Stopped stop) = starved ≡ false

module _ {Own : Type 0} (m : Meaning Own) where
  -- all commands of a phase were given out, or all of them up to a limit
  abbrev pub AskedAll : Plays m → Turn Own → List Command → Result (Unit {0}) Unasked → Type 0
  AskedAll plays turn ds (Ok x) =
      plays turn ds [] × (asked_of m turn ≡ record { commands = ds; stop = None })
  AskedAll plays turn ds (Err (Stopped (Limited limit))) =
      plays turn ds [] × (asked_of m turn ≡ record { commands = ds; stop = Some limit })
  AskedAll plays turn ds (Err (Stopped NoMemory)) = Unit {0}
  AskedAll plays turn ds (Err Starved) = Unit {0}

  -- A strategy and a desk before a phase: the desk has the commands and the replies of the phases before it, and the book of the
  -- turn is what these commands have made of the first one.
  pub record Faces (desk : DeskStands) (plays : Plays m) (turn : Turn Own) (b : Book) (cs : List Command) (rs : List Reply) : Type 0 where
    pub stands : desk b cs rs
    pub plays_it : plays turn [] []
    pub book : turn.state.book ≡ after b cs

  -- behind a phase: all was asked and heard, or a limit was met and the lines before it are there
  abbrev pub Phased : Plays m → List ℕ → Turn Own → List Command → List Reply → Result (Unit {0}) Stop → Type 0
  Phased plays text turn ds more (Ok x) =
      plays turn ds more × IsFinished m turn ds more × ((asked_of m turn).stop ≡ None)
  Phased plays text turn ds more (Err (Limited limit)) =
      (text ≡ text_after m turn) × ((asked_of m turn).stop ≡ Some limit)
  Phased plays text turn ds more (Err NoMemory) = Unit {0}
