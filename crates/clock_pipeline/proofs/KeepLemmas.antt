-- What every part of a moment of the core keeps: commands and keys are only added, each command is done by one `Done`, replies that
-- come later are left, and the number of a security stands for its key.
use Rattle.std.proofs.Common.{◌≡◌, ℕ, zero, suc, ◌+◌, ◌-◌, ◌≤◌, Bool, true, false, List, [], ◌∷◌, ◌++◌, length, map, refl, ap, sym, subst, ◌∙◌, arith, append_assoc, length-append}
use Rattle.std.specs.Prelude.{nat_le, Option, Some, None, cond, filter, take, if◌then◌else◌, option_map}
use Rattle.std.specs.List.{AllByRecursion as Each}
use Rattle.std.proofs.lemmas.Bool.Decides.{nat_tests}
use Rattle.lean_items.specs.declared.coarse_row.CoarseRow.{CoarseRow}
use Rattle.lean_items.specs.declared.feed_key.FeedKey.{FeedKey}
use Rattle.lean_items.specs.declared.feed_key.FeedKind.{FeedKind}
use Rattle.lean_items.specs.declared.feed_key.FeedKind.TheVariants.{Coarse, Equity}
use Rattle.exchange_hours.specs.Entries.{Entries}
use Rattle.exchange_hours.specs.Grid.{is_closing}
use Rattle.exchange_hours.specs.Sessions.{moment}
use Rattle.lean_orders.specs.declared.desk.Command.{Command}
use Rattle.lean_orders.specs.declared.desk.Command.TheVariants.{Match, Account as AskAccount}
use Rattle.lean_orders.specs.declared.desk.Reply.{Reply}
use Rattle.universe_state.specs.Choice.{additions, room}
use Rattle.universe_rules.specs.Selected.{selected}
use Rattle.clock_steps.specs.Runs.{Ran, rests, behind, then_on, before, run, IsFrontOf}
use Rattle.rule_strategy.specs.declared.universe.UniversePlan.{UniversePlan}
use Rattle.clock_run.specs.Lines.{Line, too_many_requests}
use Rattle.clock_run.specs.Known.{Known}
use Rattle.clock_run.specs.States.{Setup, Subscription, actives_of, numbered, joining}
use Rattle.clock_run.specs.Histories.{History}
use Rattle.clock_run.specs.Requests.{requests}
use Rattle.clock_run.specs.Moments.{stop_past, marked_as, marks, most_requests}
use Rattle.clock_pipeline.specs.Replies.{dones, replies_to, replies_behind}
use Rattle.clock_pipeline.specs.Cores.{Core, View, Pause, waits, halts, Part, histories_in, number_of}
use Rattle.clock_pipeline.specs.Moments.{in_turn, with_replies, awaiting, answered, joined_key, chosen, selection, counted, trading, closing, removals, refusal, parts_of, moment_of}
use Rattle.clock_pipeline.specs.Steps.{is_heard}
use Rattle.clock_pipeline.proofs.LaneLemmas.{front-whole, front-more, front-of}
use Rattle.clock_pipeline.proofs.ReplyLemmas.{dones-append, dones-behind, replies_to-more, replies_behind-more}

-- the core with replies that are heard later
abbrev pub with_more : List Reply → Core → Core
with_more more c = record c { heard = c.heard ++ more }

abbrev pub ran_more : List Reply → Ran Core Line Pause → Ran Core Line Pause
ran_more more r = record { lines = r.lines; state = with_more more r.state; stop = r.stop }

-- the key of a number
abbrev pub key_at : ℕ → List FeedKey → Option FeedKey
key_at n [] = None
key_at zero (key ∷ keys) = Some key
key_at (suc n) (key ∷ keys) = key_at n keys

abbrev pub IsEquity : FeedKind → Type 0
IsEquity Coarse = ⊥
IsEquity (Equity symbol resolution) = Unit {0}

pub record IsKeyed (keys : List FeedKey) (security : Subscription) : Type 0 where
  pub key : key_at (number_of security) keys ≡ Some security.key
  pub kind : IsEquity security.key.kind

abbrev pub AreKeyed : Core → Type 0
AreKeyed c = Each (IsKeyed c.keys) c.securities

-- how many commands were asked, and how many are done by the replies that are left
abbrev pub count_of : Core → ℕ
count_of c = length c.asked + dones c.heard

pub record Keeps (part : Part) : Type 0 where
  pub asked : (c : Core) → IsFrontOf c.asked (part c).state.asked
  pub keys : (c : Core) → IsFrontOf c.keys (part c).state.keys
  pub counted : (c : Core) → is_heard (part c).stop ≡ true → count_of (part c).state ≡ count_of c
  pub later : (c : Core) (more : List Reply) → is_heard (part c).stop ≡ true → part (with_more more c) ≡ ran_more more (part c)
  pub front : (c : Core) (more : List Reply) → IsFrontOf (part c).state.asked (part (with_more more c)).state.asked
  pub keyed : (c : Core) → AreKeyed c → AreKeyed (part c).state

-- ---- parts in turn

heard-first : (ls : List Line) (s : Core) (z : Option Pause) (next : Part) → is_heard (then_on ls s z next).stop ≡ true → is_heard z ≡ true
heard-first ls s None next heard = refl
heard-first ls s (Some z) next heard = heard

pub heard-before : (first next : Part) (c : Core) → is_heard (before (first c) next).stop ≡ true → is_heard (first c).stop ≡ true
heard-before first next c = heard-first (first c).lines (first c).state (first c).stop next

module _ (next : Part) (keeps : Keeps next) where
  asked-on : (ls : List Line) (s : Core) (z : Option Pause) → IsFrontOf s.asked (then_on ls s z next).state.asked
  asked-on ls s None = keeps.asked s
  asked-on ls s (Some z) = front-whole s.asked

  keys-on : (ls : List Line) (s : Core) (z : Option Pause) → IsFrontOf s.keys (then_on ls s z next).state.keys
  keys-on ls s None = keeps.keys s
  keys-on ls s (Some z) = front-whole s.keys

  counted-on : (ls : List Line) (s : Core) (z : Option Pause) → is_heard (then_on ls s z next).stop ≡ true → count_of (then_on ls s z next).state ≡ count_of s
  counted-on ls s None heard = keeps.counted s heard
  counted-on ls s (Some z) heard = refl

  later-on : (ls : List Line) (s : Core) (z : Option Pause) (more : List Reply) → is_heard (then_on ls s z next).stop ≡ true
      → then_on ls (with_more more s) z next ≡ ran_more more (then_on ls s z next)
  later-on ls s None more heard = ap (behind ls) (keeps.later s more heard)
  later-on ls s (Some z) more heard = refl

  front-on : (ls : List Line) (s : Core) (z : Option Pause) (more : List Reply)
      → IsFrontOf (then_on ls s z next).state.asked (then_on ls (with_more more s) z next).state.asked
  front-on ls s None more = keeps.front s more
  front-on ls s (Some z) more = front-whole s.asked

  keyed-on : (ls : List Line) (s : Core) (z : Option Pause) → AreKeyed s → AreKeyed (then_on ls s z next).state
  keyed-on ls s None are = keeps.keyed s are
  keyed-on ls s (Some z) are = are

-- the keys and the commands of what was run before are there behind more
pub keys-before : (r : Ran Core Line Pause) (next : Part) → Keeps next → IsFrontOf r.state.keys (before r next).state.keys
keys-before r next keeps = keys-on next keeps r.lines r.state r.stop

pub asked-before : (r : Ran Core Line Pause) (next : Part) → Keeps next → IsFrontOf r.state.asked (before r next).state.asked
asked-before r next keeps = asked-on next keeps r.lines r.state r.stop

pub before-keeps : (first next : Part) → Keeps first → Keeps next → Keeps (λ c. before (first c) next)
before-keeps first next one two = record {
  asked = λ c. front-of (one.asked c) (asked-on next two (first c).lines (first c).state (first c).stop);
  keys = λ c. front-of (one.keys c) (keys-on next two (first c).lines (first c).state (first c).stop);
  counted = λ c heard.
      counted-on next two (first c).lines (first c).state (first c).stop heard ∙ one.counted c (heard-before first next c heard);
  later = λ c more heard.
      ap (λ r. before r next) (one.later c more (heard-before first next c heard))
      ∙ later-on next two (first c).lines (first c).state (first c).stop more heard;
  front = λ c more. by c more (first c).stop refl;
  keyed = λ c are. keyed-on next two (first c).lines (first c).state (first c).stop (one.keyed c are);
}
  where
    goes : (c : Core) (more : List Reply) → is_heard (first c).stop ≡ true
        → IsFrontOf (before (first c) next).state.asked (before (first (with_more more c)) next).state.asked
    goes c more heard =
        subst (λ r. IsFrontOf (before (first c) next).state.asked (before r next).state.asked) (sym (one.later c more heard))
        (front-on next two (first c).lines (first c).state (first c).stop more)

    by : (c : Core) (more : List Reply) (z : Option Pause) → (first c).stop ≡ z
        → IsFrontOf (before (first c) next).state.asked (before (first (with_more more c)) next).state.asked
    by c more None is = goes c more (ap is_heard is)
    by c more (Some (halts halt)) is = goes c more (ap is_heard is)
    by c more (Some waits) is =
        let r = first (with_more more c) in
        let all : IsFrontOf (first c).state.asked (before r next).state.asked =
        front-of (one.front c more) (asked-on next two r.lines r.state r.stop) in
        subst (λ z. IsFrontOf (then_on (first c).lines (first c).state z next).state.asked (before r next).state.asked) (sym is) all

pub rests-keep : Keeps rests
rests-keep = record {
  asked = λ c. front-whole c.asked;
  keys = λ c. front-whole c.keys;
  counted = λ c heard. refl;
  later = λ c more heard. refl;
  front = λ c more. front-whole c.asked;
  keyed = λ c are. are;
}

-- a part that is one of some, by what replies do not change
pub chosen-keeps : {A : Type 0} (part : A → Part) (by : Core → A) → ((c : Core) (more : List Reply) → by (with_more more c) ≡ by c) → ((a : A) → Keeps (part a))
    → Keeps (λ c. part (by c) c)
chosen-keeps part by same keep = record {
  asked = λ c. (keep (by c)).asked c;
  keys = λ c. (keep (by c)).keys c;
  counted = λ c. (keep (by c)).counted c;
  later = λ c more heard. ap (λ a. part a (with_more more c)) (same c more) ∙ (keep (by c)).later c more heard;
  front = λ c more.
      subst (λ a. IsFrontOf (part (by c) c).state.asked (part a (with_more more c)).state.asked) (sym (same c more)) ((keep (by c)).front c more);
  keyed = λ c. (keep (by c)).keyed c;
}

-- ---- commands and the replies to them

enough : (n m k : ℕ) → nat_le n m ≡ true → m ≤ k → nat_le n k ≡ true
enough n m k is low = grind (arith, nat_tests)

pub le-of : (n m : ℕ) → nat_le n m ≡ true → n ≤ m
le-of n m is = grind (arith, nat_tests)

-- the same by the answer to the test
abbrev pub answered_if : Bool → ℕ → List Command → Part
answered_if b t commands c =
    if b
    then with_replies t commands (replies_to (length commands) c.heard) (replies_behind (length commands) c.heard) c
    else awaiting commands c

answered_asked : (b : Bool) (t : ℕ) (commands : List Command) (c : Core) → (answered_if b t commands c).state.asked ≡ c.asked ++ commands
answered_asked true t commands c = refl
answered_asked false t commands c = refl

answered_keys : (b : Bool) (t : ℕ) (commands : List Command) (c : Core) → (answered_if b t commands c).state.keys ≡ c.keys
answered_keys true t commands c = refl
answered_keys false t commands c = refl

answered_keyed : (b : Bool) (t : ℕ) (commands : List Command) (c : Core) → AreKeyed c → AreKeyed (answered_if b t commands c).state
answered_keyed true t commands c are = are
answered_keyed false t commands c are = are

answered_counted : (b : Bool) (t : ℕ) (commands : List Command) (c : Core) → nat_le (length commands) (dones c.heard) ≡ b
    → is_heard (answered_if b t commands c).stop ≡ true → count_of (answered_if b t commands c).state ≡ count_of c
answered_counted true t commands c is heard =
    omega (arith, length-append c.asked commands, dones-behind (length commands) c.heard (le-of (length commands) (dones c.heard) is))
answered_counted false t commands c is heard = absurd (let wrong : false ≡ true = heard in cc)

answered_later : (b : Bool) (t : ℕ) (commands : List Command) (c : Core) (more : List Reply) → nat_le (length commands) (dones c.heard) ≡ b
    → is_heard (answered_if b t commands c).stop ≡ true
    → answered_if (nat_le (length commands) (dones (c.heard ++ more))) t commands (with_more more c) ≡ ran_more more (answered_if b t commands c)
answered_later true t commands c more is heard =
    let n = length commands in
    let low : n ≤ dones c.heard = le-of n (dones c.heard) is in
    let still : nat_le n (dones (c.heard ++ more)) ≡ true =
    enough n (dones c.heard) (dones (c.heard ++ more)) is (omega (arith, dones-append c.heard more)) in
    ap (λ x. answered_if x t commands (with_more more c)) still
    ∙ (λ i. with_replies t commands (replies_to-more n c.heard more low i) (replies_behind-more n c.heard more low i) (with_more more c))
answered_later false t commands c more is heard = absurd (let wrong : false ≡ true = heard in cc)

pub answered-keeps : (t : ℕ) (commands : List Command) → Keeps (answered t commands)
unfolding answered
answered-keeps t commands = record {
  asked = λ c. subst (IsFrontOf c.asked) (sym (answered_asked (test c) t commands c)) (front-more c.asked commands);
  keys = λ c. subst (IsFrontOf c.keys) (sym (answered_keys (test c) t commands c)) (front-whole c.keys);
  counted = λ c heard. answered_counted (test c) t commands c refl heard;
  later = λ c more heard. answered_later (test c) t commands c more refl heard;
  front = λ c more.
      subst (λ x. IsFrontOf (answered_if (test c) t commands c).state.asked x)
      (answered_asked (test c) t commands c ∙ sym (answered_asked (test (with_more more c)) t commands (with_more more c)))
      (front-whole (answered_if (test c) t commands c).state.asked);
  keyed = λ c are. answered_keyed (test c) t commands c are;
}
  where
    test : Core → Bool
    test c = nat_le (length commands) (dones c.heard)

-- ---- selection

pub key_at-more : (n : ℕ) (keys more : List FeedKey) (key : FeedKey) → key_at n keys ≡ Some key → key_at n (keys ++ more) ≡ Some key
key_at-more n [] more key is = absurd (let wrong : None ≡ Some key = is in cc)
key_at-more zero (k ∷ keys) more key is = is
key_at-more (suc n) (k ∷ keys) more key is = key_at-more n keys more key is

pub key_at-end : (keys more : List FeedKey) (key : FeedKey) → key_at (length keys) (keys ++ key ∷ more) ≡ Some key
key_at-end [] more key = refl
key_at-end (k ∷ keys) more key = key_at-end keys more key

marked-keyed : (symbols : List (List ℕ)) (keys more : List FeedKey) (securities : List Subscription) → Each (IsKeyed keys) securities
    → Each (IsKeyed (keys ++ more)) (map (marked_as symbols) securities)
marked-keyed symbols keys more [] are = tt
marked-keyed symbols keys more (s ∷ securities) are =
    (record { key = key_at-more (number_of s) keys more s.key are.0.key; kind = are.0.kind }, marked-keyed symbols keys more securities are.1)

joined-keyed : (universe : UniversePlan) (t : ℕ) (keys : List FeedKey) (news : List (List ℕ)) (n : ℕ) → n ≡ length keys
    → Each (IsKeyed (keys ++ map (joined_key universe t) news)) (numbered (joining universe t) n news)
joined-keyed universe t keys [] n is = tt
joined-keyed universe t keys (symbol ∷ news) n is =
    let key = joined_key universe t symbol in (
      record { key = ap (λ k. key_at k (keys ++ key ∷ map (joined_key universe t) news)) is ∙ key_at-end keys (map (joined_key universe t) news) key; kind = tt },
      subst (λ ks. Each (IsKeyed ks) (numbered (joining universe t) (n + 1) news)) (append_assoc keys (key ∷ []) (map (joined_key universe t) news))
          (joined-keyed universe t (keys ++ key ∷ []) news (n + 1) (omega (arith, is, length-append keys (key ∷ [])))),
    )

each-both : (P : Subscription → Type 0) (xs ys : List Subscription) → Each P xs → Each P ys → Each P (xs ++ ys)
each-both P [] ys all more = more
each-both P (x ∷ xs) ys all more = (all.0, each-both P xs ys all.1 more)

chosen-keep : (universe : UniversePlan) (t : ℕ) (symbols : List (List ℕ)) → Keeps (chosen universe t symbols)
chosen-keep universe t symbols = record {
  asked = λ c. front-whole c.asked;
  keys = λ c. front-more c.keys (map (joined_key universe t) (take (room (actives_of c.securities)) (additions symbols (actives_of c.securities))));
  counted = λ c heard. refl;
  later = λ c more heard. refl;
  front = λ c more. front-whole c.asked;
  keyed = λ c are. (
      let news = take (room (actives_of c.securities)) (additions symbols (actives_of c.securities)) in
      each-both (IsKeyed (c.keys ++ map (joined_key universe t) news)) (map (marked_as symbols) c.securities) (numbered (joining universe t) (length c.keys) news)
      (marked-keyed symbols c.keys (map (joined_key universe t) news) c.securities are)
      (joined-keyed universe t c.keys news (length c.keys) refl)
      );
}

pub selection-keeps : (universe : Option UniversePlan) (t : ℕ) (rows : List CoarseRow) → Keeps (selection universe t rows)
selection-keeps None t rows = rests-keep
selection-keeps (Some universe) t [] = rests-keep
selection-keeps (Some universe) t (row ∷ rows) = chosen-keep universe t (selected (row ∷ rows) universe.rule)

-- ---- the other parts

pub counted-keep : (n : ℕ) (stop : Option Pause) → Keeps (counted n stop)
counted-keep n stop = record {
  asked = λ c. front-whole c.asked;
  keys = λ c. front-whole c.keys;
  counted = λ c heard. refl;
  later = λ c more heard. refl;
  front = λ c more. front-whole c.asked;
  keyed = λ c are. are;
}

pub closing-keeps : (hours : Entries) (t : ℕ) → Keeps (closing hours t)
closing-keeps hours t = by (is_closing hours t)
  where
    by : (b : Bool) → Keeps (λ c. if b then answered t (AskAccount (moment t) ∷ []) c else rests c)
    by true = answered-keeps t (AskAccount (moment t) ∷ [])
    by false = rests-keep

pub trading-keeps : (setup : Setup) (t : ℕ) (histories : List History) → Keeps (trading setup t histories)
trading-keeps setup t histories =
    chosen-keeps part by (λ c more. refl)
    (λ a. before-keeps (answered t a.0) (counted (length a.0) a.1) (answered-keeps t a.0) (counted-keep (length a.0) a.1))
  where
    part : List Command × Option Pause → Part
    part a c = before (answered t a.0 c) (counted (length a.0) a.1)

    by : Core → List Command × Option Pause
    by c = (
      take (most_requests - c.requests) (requests setup.plan.rules c.seen t histories),
      option_map halts (stop_past (most_requests - c.requests) too_many_requests (requests setup.plan.rules c.seen t histories)),
    )

filtered-keyed : (keys : List FeedKey) (test : Subscription → Bool) (securities : List Subscription) → Each (IsKeyed keys) securities → Each (IsKeyed keys) (filter test securities)
filtered-keyed keys test [] are = tt
filtered-keyed keys test (s ∷ securities) are = by (test s) (filtered-keyed keys test securities are.1)
  where
    by : (b : Bool) → Each (IsKeyed keys) (filter test securities) → Each (IsKeyed keys) (cond b (s ∷ filter test securities) (filter test securities))
    by true rest = (are.0, rest)
    by false rest = rest

pub removals-keep : (t : ℕ) → Keeps (removals t)
removals-keep t = record {
  asked = λ c. front-whole c.asked;
  keys = λ c. front-whole c.keys;
  counted = λ c heard. refl;
  later = λ c more heard. refl;
  front = λ c more. front-whole c.asked;
  keyed = λ c are. filtered-keyed c.keys _ c.securities are;
}

pub refusal-keeps : (setup : Setup) (known : Known) → Keeps (refusal setup known)
refusal-keeps setup known = record {
  asked = λ c. front-whole c.asked;
  keys = λ c. front-whole c.keys;
  counted = λ c heard. refl;
  later = λ c more heard. refl;
  front = λ c more. front-whole c.asked;
  keyed = λ c are. are;
}

pub parts-keep : (setup : Setup) (t : ℕ) (known : Known) (histories : List History) → Keeps (in_turn (parts_of setup t known histories))
parts-keep setup t known histories =
    before-keeps _ _ (answered-keeps t (marks t histories ++ Match (moment t) ∷ []))
    (before-keeps _ _ (trading-keeps setup t histories)
    (before-keeps _ _ (closing-keeps setup.hours t)
    (before-keeps _ _ (removals-keep t)
    (before-keeps _ _ (refusal-keeps setup known) rests-keep))))

-- ---- a moment and moments

pub moment-keeps : (setup : Setup) (t : ℕ) (known : Known) (view : View) → Keeps (moment_of setup t known view)
unfolding moment_of
moment-keeps setup t known view =
    before-keeps (selection setup.plan.universe t view.rows) (λ c. in_turn (parts_of setup t known (histories_in view c)) c)
    (selection-keeps setup.plan.universe t view.rows)
    (chosen-keeps (λ histories. in_turn (parts_of setup t known histories)) (histories_in view) (λ c more. refl) (parts-keep setup t known))

pub run-keeps : (step : ℕ → Part) → ((t : ℕ) → Keeps (step t)) → (n from : ℕ) → Keeps (run step n from)
unfolding run
run-keeps step keep zero from = rests-keep
run-keeps step keep (suc n) from = before-keeps (step from) (run step n (from + 1)) (keep from) (run-keeps step keep n (from + 1))
