-- The report of a backtest: it walks every minute from the first moment to the last one, both included.
use Rattle.std.specs.Prelude.{ℕ, pos, List, ◌++◌, Option, Some, None, codes}
use Rattle.lean_items.specs.declared.bad.Bad.{Bad}
use Rattle.lean_items.specs.declared.feed_key.FeedKey.{FeedKey}
use Rattle.lean_items.specs.declared.item.Item.{Item}
use Rattle.clock_steps.specs.Runs.{Ran, run, run_to}
use Rattle.report_pages.specs.Lines.{data_line}
use Rattle.backtest_engine.specs.declared.limits.Limit.{Limit}
use Rattle.backtest_engine.specs.declared.limits.Limit.TheVariants.{Securities, Requests}
use Rattle.backtest_engine.specs.Meaning.{Meaning, State, moment_of}
use Rattle.backtest_engine.specs.Lists.{slice_at, refused}

-- what halts a run: a limit, or a malformed line that is due
pub data Halt : Type 0 where
  limited : Limit → Halt
  malformed : FeedKey → Bad → Halt

abbrev pub halt : Option Limit → Option (FeedKey × Bad) → Option Halt
halt (Some limit) refusal = Some (limited limit)
halt None (Some refusal) = Some (malformed refusal.0 refusal.1)
halt None None = None

module _ {Own : Type 0} (m : Meaning Own) (lists : FeedKey → List Item) where
  -- behind a moment the first malformed line of the feeds that are active then halts the run
  abbrev pub halted : ℕ → Ran (State Own) ℕ Limit → Ran (State Own) ℕ Halt
  halted t ran = record {
    lines = ran.lines;
    state = ran.state;
    stop = halt ran.stop (refused lists (pos t) (m.active ran.state.own));
  }

  -- A minute is the moment over the slice of the feeds that were active before it.
  unfoldable pub minute : ℕ → State Own → Ran (State Own) ℕ Halt
  minute t s = halted t (moment_of m t (slice_at lists (pos t) (m.active s.own)) s)

  -- so many minutes from the first one on
  abbrev pub minutes : ℕ → State Own → ℕ → Ran (State Own) ℕ Halt
  minutes first s count = run minute count first s

  -- all of them
  abbrev pub whole : ℕ → ℕ → State Own → Ran (State Own) ℕ Halt
  whole first last s = run_to minute first last s

-- the last line of a run that is halted
abbrev pub limit_line : Limit → List ℕ
limit_line Securities = codes "limit securities\n"
limit_line Requests = codes "limit requests\n"

abbrev pub halt_line : Halt → List ℕ
halt_line (limited limit) = limit_line limit
halt_line (malformed key bad) = data_line key.kind bad

-- what is printed behind the last moment
abbrev pub last_text : {Own : Type 0} → Meaning Own → Option Halt → State Own → List ℕ
last_text m (Some halt) s = halt_line halt
last_text m None s = m.summary s

-- all that is printed
abbrev pub report_of : {Own : Type 0} → Meaning Own → Ran (State Own) ℕ Halt → List ℕ
report_of m ran = ran.lines ++ last_text m ran.stop ran.state
