-- What a core stands for between two moments: the plan and the hours, the securities that wait for the number of their feed, those
-- that it follows with all bars of their feeds, what is seen of the book, and how many requests were given.
use Rattle.std.specs.Prelude.{ℕ, ◌+◌, Bool, if◌then◌else◌, List, [], ◌∷◌, ◌++◌, map, find, Option, Some, None}
use Rattle.lean_fixed.specs.Moments.{first_moment}
use Rattle.lean_items.specs.declared.bar.Bar.{Bar}
use Rattle.portfolio.specs.Symbols.{same_symbol}
use Rattle.universe_state.specs.Active.{Active}
use Rattle.clock_book.specs.Books.{new_book}
use Rattle.clock_book.specs.Seen.{Seen, seen_of}
use Rattle.clock_run.specs.Known.{Known}
use Rattle.clock_run.specs.States.{Setup, Subscription, State, symbol_of, listed}
use Rattle.clock_run.specs.Histories.{History}

-- a security and all bars of its feed
pub record Followed : Type 0 where
  pub security : Subscription
  pub bars : List Bar

abbrev pub history : Followed → History
history f = record { symbol = symbol_of f.security; period = f.security.period; bars = f.bars }

abbrev pub active_of : Followed → Active
active_of f = f.security.active

abbrev pub feed_of : Followed → ℕ
feed_of f = f.security.active.feed.0

pub record Standing : Type 0 where
  pub setup : Setup
  pub waiting : List Subscription
  pub followed : List Followed
  pub seen : Seen
  pub requests : ℕ

-- before the first moment all listed securities wait
abbrev pub begun : Setup → Standing
begun setup = record {
  setup = setup;
  waiting = map (listed (first_moment setup.plan.window) 0) setup.plan.securities;
  followed = [];
  seen = seen_of (new_book setup.plan.cash.0 setup.plan.costs setup.plan.leverage setup.hours);
  requests = 0;
}

-- a security that waits is given a number, and is followed from then on
abbrev pub with_feed : ℕ → Subscription → Subscription
with_feed number security = record security { active = record security.active { feed = record { 0 = number } } }

-- the first of a symbol among some that wait, and those that stay without it
abbrev pub waits_as : List ℕ → Subscription → Bool
waits_as symbol security = same_symbol symbol (symbol_of security)

abbrev pub without_first : List ℕ → List Subscription → List Subscription
without_first symbol [] = []
without_first symbol (security ∷ waiting) =
    if waits_as symbol security then waiting else security ∷ without_first symbol waiting

abbrev pub named_as : ℕ → List Subscription → Option Subscription → Standing → Standing
named_as number rest None v = v
named_as number rest (Some security) v = record v {
  waiting = rest;
  followed = v.followed ++ record { security = with_feed number security; bars = [] } ∷ [];
}

abbrev pub named : List ℕ → ℕ → Standing → Standing
named symbol number v = named_as number (without_first symbol v.waiting) (find (waits_as symbol) v.waiting) v

-- all that wait are given numbers from one on
unfoldable pub named_all : ℕ → List Subscription → Standing → Standing
named_all n [] v = v
named_all n (security ∷ waiting) v = named_all (n + 1) waiting (named (symbol_of security) n v)

-- what stands for a state of the definition, where this is known
abbrev pub followed_of : Known → Subscription → Followed
followed_of known security = record { security = security; bars = known.bars security.key }

abbrev pub standing_of : Setup → State → Known → Standing
standing_of setup s known = record {
  setup = setup;
  waiting = [];
  followed = map (followed_of known) s.securities;
  seen = seen_of s.book;
  requests = s.requests;
}
