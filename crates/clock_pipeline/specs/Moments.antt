-- One moment of the core: the parts of a moment of the backtest in their order, with the bars and the replies that the core has.
use Rattle.std.specs.Prelude.{ℕ, ◌+◌, ◌-◌, not, nat_le, if◌then◌else◌, List, [], ◌∷◌, ◌++◌, length, map, filter, fold, take, Option, Some, None, option_map}
use Rattle.std.specs.List.{filter_map}
use Rattle.lean_items.specs.declared.coarse_row.CoarseRow.{CoarseRow}
use Rattle.lean_items.specs.declared.feed_key.FeedKey.{FeedKey}
use Rattle.exchange_hours.specs.Entries.{Entries}
use Rattle.exchange_hours.specs.Grid.{is_closing}
use Rattle.exchange_hours.specs.Sessions.{moment}
use Rattle.lean_orders.specs.declared.desk.Command.{Command}
use Rattle.lean_orders.specs.declared.desk.Command.TheVariants.{Match, Account as AskAccount}
use Rattle.lean_orders.specs.declared.desk.Reply.{Reply}
use Rattle.universe_rules.specs.Selected.{selected}
use Rattle.universe_state.specs.Choice.{additions, room}
use Rattle.clock_steps.specs.Runs.{rests, before}
use Rattle.clock_book.specs.Seen.{learnt, given_out}
use Rattle.rule_strategy.specs.declared.universe.UniversePlan.{UniversePlan}
use Rattle.clock_run.specs.Lines.{added, removed, too_many_securities, too_many_requests}
use Rattle.clock_run.specs.Known.{Known}
use Rattle.clock_run.specs.States.{Setup, symbol_of, actives_of, numbered, joining, equity_key, coarse_keys}
use Rattle.clock_run.specs.Histories.{History}
use Rattle.clock_run.specs.Requests.{requests}
use Rattle.clock_run.specs.Moments.{stop_past, marked_as, told, equity_told, marks, most_requests, is_done_with, first_refused}
use Rattle.clock_pipeline.specs.Replies.{dones, replies_to, replies_behind}
use Rattle.clock_pipeline.specs.Cores.{Core, View, Pause, waits, halts, Part, histories_in}

-- Parts in turn, each from the core that the part before it left.
abbrev pub in_turn : List Part → Part
in_turn [] c = rests c
in_turn (part ∷ parts) c = before (part c) (in_turn parts)

-- Commands are asked. Where all replies to them were heard, the core learns from them and they are printed; else it waits.
abbrev pub with_replies : ℕ → List Command → List Reply → List Reply → Part
with_replies t commands heard later c = record {
  lines = filter_map (told t) heard;
  state = record c {
    seen = fold learnt (fold given_out c.seen commands) heard;
    equities = c.equities ++ filter_map equity_told heard;
    asked = c.asked ++ commands;
    heard = later;
  };
  stop = None;
}

abbrev pub awaiting : List Command → Part
awaiting commands c =
    record { lines = []; state = record c { asked = c.asked ++ commands }; stop = Some waits }

unfoldable pub answered : ℕ → List Command → Part
answered t commands c =
    if nat_le (length commands) (dones c.heard)
    then with_replies t commands (replies_to (length commands) c.heard) (replies_behind (length commands) c.heard) c
    else awaiting commands c

-- Selection, with the keys of the feeds of the securities that join.
abbrev pub joined_key : UniversePlan → ℕ → List ℕ → FeedKey
joined_key universe t symbol = equity_key t symbol universe.resolution universe.fill

abbrev pub added_to : UniversePlan → ℕ → List (List ℕ) → List (List ℕ) → Core → Core
added_to universe t symbols news c = record c {
  securities = map (marked_as symbols) c.securities ++ numbered (joining universe t) (length c.keys) news;
  keys = c.keys ++ map (joined_key universe t) news;
}

abbrev pub chosen : UniversePlan → ℕ → List (List ℕ) → Part
chosen universe t symbols c =
    let wanted = additions symbols (actives_of c.securities) in
    let news = take (room (actives_of c.securities)) wanted in
    record {
      lines = map (added t) news;
      state = added_to universe t symbols news c;
      stop = option_map halts (stop_past (room (actives_of c.securities)) too_many_securities wanted);
    }

abbrev pub selection : Option UniversePlan → ℕ → List CoarseRow → Part
selection None t rows c = rests c
selection (Some universe) t [] c = rests c
selection (Some universe) t (row ∷ rows) c = chosen universe t (selected (row ∷ rows) universe.rule) c

-- Prices and fills.
abbrev pub prices : ℕ → List History → Part
prices t histories c = answered t (marks t histories ++ Match (moment t) ∷ []) c

-- Trading: the requests, as far as there is room.
abbrev pub counted : ℕ → Option Pause → Part
counted n stop c = record { lines = []; state = record c { requests = c.requests + n }; stop = stop }

abbrev pub traded : ℕ → List Command → Part
traded t asked c =
    let room = most_requests - c.requests in
    let handled = take room asked in
    before (answered t handled c) (counted (length handled) (option_map halts (stop_past room too_many_requests asked)))

abbrev pub trading : Setup → ℕ → List History → Part
trading setup t histories c = traded t (requests setup.plan.rules c.seen t histories) c

-- The close line, removals, and the refusal of a malformed line.
abbrev pub closing : Entries → ℕ → Part
closing hours t c = if is_closing hours t then answered t (AskAccount (moment t) ∷ []) c else rests c

abbrev pub removals : ℕ → Part
removals t c = record {
  lines = map (λ security. removed t (symbol_of security)) (filter (is_done_with c.seen) c.securities);
  state = record c { securities = filter (λ security. not (is_done_with c.seen security)) c.securities };
  stop = None;
}

abbrev pub refusal : Setup → Known → Part
refusal setup known c = record {
  lines = [];
  state = c;
  stop = option_map halts (first_refused known (coarse_keys setup.plan ++ map (λ security. security.key) c.securities));
}

-- what follows the selection, over the histories of the securities that are active then
abbrev pub parts_of : Setup → ℕ → Known → List History → List Part
parts_of setup t known histories =
    prices t histories
    ∷ trading setup t histories
    ∷ closing setup.hours t
    ∷ removals t
    ∷ refusal setup known ∷ []

-- The bars and rows are those of a view, and the malformed line that is due is that of the files.
unfoldable pub moment_of : Setup → ℕ → Known → View → Part
moment_of setup t known view c =
    before (selection setup.plan.universe t view.rows c) (λ chosen. in_turn (parts_of setup t known (histories_in view chosen)) chosen)
