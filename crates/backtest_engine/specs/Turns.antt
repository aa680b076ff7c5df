-- A moment under way: its phases as turns of a strategy, and what each call of the strategy says of them.
use Rattle.std.specs.Prelude.{◌≡◌, ℕ, ◌+◌, ◌^◌, ◌<◌, ◌≤◌, ◌==◌, false, not, pos, Bool, List, ◌++◌, ◌∷◌, [], length, fold, Option, Some, None, Result, Ok, Err}
use Rattle.std.specs.List.{All, filter}
use Rattle.lean_fixed.specs.declared.time.Moment.{Moment}
use Rattle.lean_orders.specs.declared.desk.Command.{Command}
use Rattle.lean_orders.specs.declared.desk.Reply.{Reply}
use Rattle.lean_items.specs.declared.arrival.Arrival.{Arrival}
use Rattle.lean_items.specs.declared.feed_key.FeedKey.{FeedKey}
use Rattle.lean_items.specs.declared.feed_key.FeedKind.{FeedKind}
use Rattle.lean_items.specs.declared.feed_key.FeedKind.TheVariants.{Coarse, Equity}
use Rattle.lean_items.specs.declared.feed_no.FeedNo.{FeedNo}
use Rattle.clock_book.specs.Handled.{replies}
use Rattle.clock_steps.specs.Runs.{Ran}
use Rattle.backtest_engine.specs.declared.limits.Limit.{Limit}
use Rattle.backtest_engine.specs.declared.limits.Stop.{Stop}
use Rattle.backtest_engine.specs.declared.limits.Stop.TheVariants.{NoMemory, Limited}
use Rattle.backtest_engine.specs.declared.phase.Phase.{Phase}
use Rattle.backtest_engine.specs.declared.phase.Phase.TheVariants.{Prices, Rules, Close}
use Rattle.backtest_engine.specs.Meaning.{Subscription, Asked, Told, State, Meaning, arrival_of, phase}

-- ---- feeds that are removed and added

abbrev pub without_one : List Subscription → FeedNo → List Subscription
without_one active feed = filter (λ f. not (f.feed == feed.0)) active

abbrev pub without_all : List Subscription → List FeedNo → List Subscription
without_all active removed = fold without_one active removed

-- keys with the numbers from one on
abbrev pub subscription : ℕ → FeedKey → Subscription
subscription n key = record { feed = n; key = key }

abbrev pub numbered : ℕ → List FeedKey → List Subscription
numbered n [] = []
numbered n (key ∷ keys) = subscription n key ∷ numbered (n + 1) keys

-- the bars of a security
abbrev pub IsEquity : FeedKind → Type 0
IsEquity Coarse = ⊥
IsEquity (Equity symbol resolution) = Unit {0}

-- ---- the session that closes next

-- the next moment at which a session closes, up to some moment
abbrev pub IsNextClose : (ℕ → Bool) → ℕ → ℕ → Option Moment → Type 0
IsNextClose is_close t until None = (u : ℕ) → t < u → u ≤ until → is_close u ≡ false
IsNextClose is_close t until (Some at) =
    (next : ℕ) × (at.0 ≡ pos next) × (t < next) × (next ≤ until) × ((u : ℕ) → t < u → u < next → is_close u ≡ false)

-- No more commands come of a moment, and no more feeds are added: 1,000,000 requests and 258 other commands are fewer, and so are
-- 256 feeds.
abbrev pub most_of_moment : ℕ
most_of_moment = 2 ^ 20

-- ---- turns

-- A phase of a moment: the moment and its slice, what the strategy was before the moment, its state and the book before the
-- phase, and what was printed of the moment before the phase.
pub record Turn (Own : Type 0) : Type 0 where
  pub phase : Phase
  pub at : ℕ
  pub slice : List Arrival
  pub began : Own
  pub state : State Own
  pub text : List ℕ

-- the phase behind one
abbrev pub next_phase : Phase → Phase
next_phase Prices = Rules
next_phase Rules = Close
next_phase Close = Close

abbrev pub HasNext : Phase → Type 0
HasNext Prices = Unit {0}
HasNext Rules = Unit {0}
HasNext Close = ⊥

module _ {Own : Type 0} (m : Meaning Own) where
  abbrev pub asked_of : Turn Own → Asked
  asked_of turn = m.ask turn.phase turn.at turn.slice turn.state

  abbrev pub ran_of : Turn Own → Ran (State Own) ℕ Limit
  ran_of turn = phase m turn.phase turn.at turn.slice turn.state

  -- the first phase, behind the arrival of the slice
  abbrev pub first_turn : ℕ → List Arrival → State Own → Turn Own
  first_turn t slice s =
      let ran = arrival_of m t slice s in
      record { phase = Prices; at = t; slice = slice; began = s.own; state = ran.state; text = ran.lines }

  abbrev pub text_after : Turn Own → List ℕ
  text_after turn = turn.text ++ (ran_of turn).lines

  -- what stands behind a phase
  abbrev pub turn_after : Turn Own → Turn Own
  turn_after turn = record {
    phase = next_phase turn.phase;
    at = turn.at;
    slice = turn.slice;
    began = turn.began;
    state = (ran_of turn).state;
    text = text_after turn;
  }

  -- all commands of a phase were given out, and all that the book replies was heard
  pub record IsFinished (turn : Turn Own) (cs : List Command) (rs : List Reply) : Type 0 where
    pub given : cs ≡ (asked_of turn).commands
    pub heard : rs ≡ replies turn.state.book cs

  abbrev pub Plays : Type 1
  Plays = Turn Own → List Command → List Reply → Type 0

  -- ---- what the calls of a strategy say

  -- the slice arrived, or a limit was met behind what is printed
  abbrev pub Arrives : Plays → List ℕ → ℕ → List Arrival → State Own → Result (Unit {0}) Stop → Type 0
  Arrives plays text t slice s (Ok x) =
      ((arrival_of m t slice s).stop ≡ None) × plays (first_turn t slice s) [] []
  Arrives plays text t slice s (Err (Limited limit)) =
      ((arrival_of m t slice s).stop ≡ Some limit) × (text ≡ (arrival_of m t slice s).lines)
  Arrives plays text t slice s (Err NoMemory) = Unit {0}

  -- one more command was given out, or the phase has no more, or a limit was met behind all of them
  abbrev pub Gives : Plays → Turn Own → List Command → Result (Option Command) Stop → Type 0
  Gives plays turn cs (Ok (Some command)) = plays turn (cs ++ command ∷ []) []
  Gives plays turn cs (Ok None) =
      plays turn cs [] × (asked_of turn ≡ record { commands = cs; stop = None })
  Gives plays turn cs (Err (Limited limit)) =
      plays turn cs [] × (asked_of turn ≡ record { commands = cs; stop = Some limit })
  Gives plays turn cs (Err NoMemory) = Unit {0}

  abbrev pub closed_of : Turn Own → Told Own
  closed_of turn = m.close turn.at turn.slice turn.state

  -- the moment was closed behind its phases: the keys that are added wait for their numbers
  pub record Closes (stands : State Own → List FeedKey → Type 0) (text : List ℕ) (turn : Turn Own) (added : List FeedKey) (removed : List FeedNo) : Type 0 where
    pub stand : stands (record { own = (closed_of turn).own; book = turn.state.book }) added
    pub text_is : text ≡ turn.text ++ (closed_of turn).text
    pub active : m.active (closed_of turn).own ≡ without_all (m.active turn.began) removed ++ numbered (m.added turn.began) added
    pub added_is : m.added (closed_of turn).own ≡ m.added turn.began + length added
    pub starts : All (λ key. (key.start.0 ≡ pos turn.at) × IsEquity key.kind) added
