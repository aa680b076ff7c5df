-- A strategy that prints a dot at each moment at which something ends, and asks for nothing.
use Rattle.std.specs.Prelude.{◌≡◌, ℕ, false, List, ◌∷◌, [], length, None, codes, ◌≤◌}
use Rattle.std.proofs.Common.{refl, sym, ◌∙◌, subst, append-nil, arith}
use Rattle.lean_items.specs.declared.arrival.Arrival.{Arrival}
use Rattle.lean_items.specs.declared.feed_key.FeedKey.{FeedKey}
use Rattle.lean_orders.specs.declared.desk.Command.{Command}
use Rattle.lean_orders.specs.declared.desk.Reply.{Reply}
use Rattle.clock_book.specs.Fitting.{most_orders}
use Rattle.clock_book.specs.Handled.{after, replies}
use Rattle.clock_steps.specs.Runs.{rests}
use Rattle.backtest_engine.specs.Meaning.{Meaning, State, moment_of}
use Rattle.backtest_engine.specs.Turns.{Turn, numbered, turn_after, text_after}

abbrev pub dot : List Arrival → List ℕ
dot [] = []
dot (a ∷ slice) = 46 ∷ []

-- its own state is the keys of its feeds
abbrev pub dots : Meaning (List FeedKey)
dots = record {
  active = λ keys. numbered 0 keys;
  added = λ keys. length keys;
  is_close = λ t. false;
  arrive = λ t slice keys. record { lines = dot slice; state = keys; stop = None };
  ask = λ p t slice s. record { commands = []; stop = None };
  hear = λ p t slice s rs. record { own = s.own; text = [] };
  close = λ t slice s. record { own = s.own; text = [] };
  summary = λ s. codes "end\n";
}

-- it takes whatever ends at a moment
abbrev pub takes_any : ℕ → List Arrival → Type 0
takes_any t slice = Unit {0}

pub no_orders : 0 ≤ most_orders
no_orders = omega arith

-- within a moment: nothing was asked, and the dot is all that is printed
pub record PlaysDots (text : List ℕ) (m : Meaning (List FeedKey)) (turn : Turn (List FeedKey)) (cs : List Command) (rs : List Reply) : Type 0 where
  pub is : m ≡ dots
  pub none : cs ≡ []
  pub own : turn.state.own ≡ turn.began
  pub text_is : text ≡ turn.text

pub dots_pass : (text : List ℕ) (m : Meaning (List FeedKey)) (turn : Turn (List FeedKey)) (cs : List Command) (rs : List Reply) → PlaysDots text m turn cs rs
    → PlaysDots text m (turn_after m turn) [] []
dots_pass text m turn cs rs p =
    subst (λ x. PlaysDots text x (turn_after x turn) [] []) (sym p.is)
    (record { is = refl; none = refl; own = p.own; text_is = p.text_is ∙ sym (append-nil turn.text) })

pub dots_say : (text : List ℕ) (m : Meaning (List FeedKey)) (turn : Turn (List FeedKey)) (cs : List Command) (rs : List Reply) → PlaysDots text m turn cs rs
    → text ≡ text_after m turn
dots_say text m turn cs rs p = subst (λ x. text ≡ text_after x turn) (sym p.is) (p.text_is ∙ sym (append-nil turn.text))

rests_dots : (s : State (List FeedKey)) (t : ℕ) → moment_of dots t [] s ≡ rests s
unfolding moment_of after replies
rests_dots s t = refl

pub dots_rest : (m : Meaning (List FeedKey)) (s : State (List FeedKey)) (t : ℕ) → m ≡ dots → moment_of m t [] s ≡ rests s
dots_rest m s t is = subst (λ x. moment_of x t [] s ≡ rests s) (sym is) (rests_dots s t)
