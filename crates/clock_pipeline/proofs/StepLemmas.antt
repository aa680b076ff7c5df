-- Each step keeps what fits, and where a state fits its text is a front of the report.
use Rattle.std.proofs.Common.{◌≡◌, ℕ, zero, suc, ◌+◌, ◌-◌, ◌<◌, ◌≤◌, Bool, true, false, List, [], ◌∷◌, ◌++◌, length, map, refl, ap, sym, subst, ◌∙◌, arith, inl, inr, append-nil}
use Rattle.std.specs.Prelude.{Option, Some, None, take, drop, fold, flat_map, ◌&&◌, not, is_none, nat_le, if◌then◌else◌}
use Rattle.std.specs.List.{AllByRecursion as Each, list_all}
use Rattle.std.proofs.lemmas.Bool.{cases_lt}
use Rattle.std.proofs.lemmas.Bool.Decides.{nat_tests}
use Rattle.std.proofs.lemmas.List.{take-append-le, drop_at, length-map}
use Rattle.std.proofs.lemmas.List.Concat.{flat_map-append}
use Rattle.lean_fixed.specs.Ranges.{IsWindow}
use Rattle.lean_items.specs.declared.feed_key.FeedKey.{FeedKey}
use Rattle.lean_items.specs.declared.item.Item.{Item}
use Rattle.lean_items.specs.Taken.{Follows}
use Rattle.exchange_hours.specs.Sessions.{LieInDays}
use Rattle.lean_orders.specs.declared.desk.Reply.{Reply}
use Rattle.clock_steps.specs.Runs.{Ran, behind, then_on, before, run, IsFrontOf}
use Rattle.clock_steps.proofs.RunLemmas.{run-front}
use Rattle.clock_book.specs.Handled.{after, replies}
use Rattle.clock_run.specs.Lines.{Line, line_bytes}
use Rattle.clock_run.specs.States.{opening as opening_state}
use Rattle.clock_run.specs.Reports.{step_of, moments, backtest, last_lines, report_bytes}
use Rattle.clock_pipeline.specs.Lanes.{next_of, has_room, with_sent}
use Rattle.clock_pipeline.specs.Replies.{dones}
use Rattle.clock_pipeline.specs.Cores.{Core, Pause, first_book, first_keys, opening as opening_core}
use Rattle.clock_pipeline.specs.Moments.{moment_of}
use Rattle.clock_pipeline.specs.Reached.{reaches}
use Rattle.clock_pipeline.specs.Pipelines.{Pipeline, Feed, State, key_of, new_feed, opening, first, last, world, list_of, view_of, feeds_then, step_over, core_over, core_after, closed_core, hand, now}
use Rattle.clock_pipeline.specs.Steps.{Step, produces, takes, asks, serves, answers, hears, closes, with_feed, has_ended, next_item, produced, taken_from, active_numbers, feed_reaches, number_reaches, all_reach, may_go_on, is_heard, served, heard, stepped, after_steps}
use Rattle.clock_pipeline.specs.Fitting.{FitsFeed, Fits}
use Rattle.clock_pipeline.proofs.LaneLemmas.{front-whole, front-none, front-more, front-of, front-length, front-same, next-few, front-next, lane-taken, lane-sent, lane-front}
use Rattle.clock_pipeline.proofs.ReplyLemmas.{dones-append, dones-replies, replies-front, after-append, after-none}
use Rattle.clock_pipeline.proofs.ReachLemmas.{follows-none, follows-front, follows-next, follows-failed, reaches-more}
use Rattle.clock_pipeline.proofs.KeepLemmas.{with_more, ran_more}
use Rattle.clock_pipeline.proofs.WorldLemmas.{FollowsList, step_known, core_known, step-keeps, core-keeps, run-more, run-same-more, more-keys, cores-same, known-same, next-same}
use Rattle.clock_pipeline.proofs.BacktestLemmas.{same-lines}

both : (a b : Bool) → (a && b) ≡ true → (a ≡ true) × (b ≡ true)
both true b is = (refl, is)
both false b is = absurd (let wrong : false ≡ true = is in cc)

-- ---- what a state that fits tells

follow-one : (p : Pipeline) (feed : Feed) → FitsFeed p feed → FollowsList p feed
follow-one p feed fit = follows-front (list_of p feed.key) feed.lane.taken feed.lane.sent fit.list (lane-front p.rooms.feeds feed.lane fit.lane)

follow-all : (p : Pipeline) (feeds : List Feed) → Each (FitsFeed p) feeds → Each (FollowsList p) feeds
follow-all p [] fit = tt
follow-all p (feed ∷ feeds) fit = (follow-one p feed fit.0, follow-all p feeds fit.1)

keys-until : (p : Pipeline) (feeds : List Feed) (rs : List Reply) (k d : ℕ) → IsFrontOf (core_over p feeds rs k).state.keys (core_over p feeds rs (k + d)).state.keys
keys-until p feeds rs k zero =
    let e : k ≡ k + zero = omega arith in
    subst (λ m. IsFrontOf (core_over p feeds rs k).state.keys (core_over p feeds rs m).state.keys) e (front-whole (core_over p feeds rs k).state.keys)
keys-until p feeds rs k (suc d) =
    let e : k + d + 1 ≡ k + suc d = omega arith in
    subst (λ m. IsFrontOf (core_over p feeds rs k).state.keys (core_over p feeds rs m).state.keys) e
    (front-of (keys-until p feeds rs k d) (more-keys (step_over p feeds) (step-keeps p feeds) (k + d) (first p) (opening_core p.setup rs)))

module _ (p : Pipeline) (s : State) (fits : Fits p s) where
  -- the keys of a closed moment are some of the feeds'
  keys-at : (k : ℕ) → k ≤ s.closed → IsFrontOf (core_after p s k).state.keys (map key_of s.feeds)
  keys-at k low =
      let e : k + (s.closed - k) ≡ s.closed = omega (arith, low) in
      subst (IsFrontOf (core_after p s k).state.keys) (sym fits.keys)
      (subst (λ m. IsFrontOf (core_after p s k).state.keys (core_after p s m).state.keys) e (keys-until p s.feeds s.replies.taken k (s.closed - k)))

  -- what was heard begins what the book replies to all that was asked
  heard-front : IsFrontOf s.replies.taken (replies (first_book p.setup) s.commands.sent)
  heard-front =
      front-of (lane-front p.rooms.replies s.replies fits.reply_lane)
      (front-of fits.answers (replies-front (first_book p.setup) s.commands.taken s.commands.sent (lane-front p.rooms.commands s.commands fits.command_lane)))

  heard-few : dones s.replies.taken ≤ length s.commands.sent
  heard-few =
      omega (arith, ap dones heard-front.is, dones-append s.replies.taken heard-front.rest, dones-replies (first_book p.setup) s.commands.sent)

  -- no moment that is followed by another waits
  heard-at : (k : ℕ) → k ≤ s.closed → is_heard (core_after p s k).stop ≡ true
  heard-at k low =
      elim (cases_lt k s.closed) [
        | inl less ↦ ap is_heard (fits.going k less)
        | inr not_less ↦ (
            let e : s.closed ≡ k = omega (arith, low, not_less) in
            subst (λ m. is_heard (core_after p s m).stop ≡ true) e fits.heard
            )
      ]

-- ---- the text

flat_map-front : {A B : Type 0} (f : A → List B) (xs ys : List A) → IsFrontOf xs ys → IsFrontOf (flat_map f xs) (flat_map f ys)
flat_map-front f xs ys front = record { rest = flat_map f front.rest; is = ap (flat_map f) front.is ∙ flat_map-append f xs front.rest }

pub text-front : (p : Pipeline) (s : State) → LieInDays p.setup.hours → IsWindow p.setup.plan.window → Fits p s
    → IsFrontOf s.text (report_bytes p.setup (backtest p.setup (world p)))
unfolding report_bytes
text-front p s every is_window fits =
    let n = s.closed in
    let same : core_over p s.feeds s.replies.taken n ≡ core_known p s.replies.taken n =
    cores-same p every is_window s.feeds s.replies.taken (follow-all p s.feeds fits.feeds) n fits.reached (keys-at p s fits n (omega arith)) in
    let lines : (closed_core p s).lines ≡ (moments p.setup (world p) n).lines =
    ap (λ r. r.lines) same
    ∙ same-lines p s.commands.sent s.replies.taken (heard-front p s fits) n
    (subst (λ r. IsFrontOf r.state.asked s.commands.sent) same fits.closed_asked) (subst (λ r. is_heard r.stop ≡ true) same fits.heard) in
    let e : n + ((last p + 1 - first p) - n) ≡ last p + 1 - first p = omega (arith, fits.within) in
    let whole = backtest p.setup (world p) in
    subst (λ t. IsFrontOf t (flat_map line_bytes whole.lines ++ last_lines p.setup whole.state whole.stop)) (sym (fits.text ∙ ap (flat_map line_bytes) lines))
    (front-of
    (flat_map-front line_bytes (moments p.setup (world p) n).lines whole.lines
    (subst (λ m. IsFrontOf (moments p.setup (world p) n).lines (run (step_of p.setup (world p)) m (first p) (opening_state p.setup)).lines) e
    (run-front (step_of p.setup (world p)) n ((last p + 1 - first p) - n) (first p) (opening_state p.setup))))
    (front-more (flat_map line_bytes whole.lines) (last_lines p.setup whole.state whole.stop)))

-- ---- feeds of which more was taken

record Grows (old new : Feed) : Type 0 where
  key : new.key ≡ old.key
  more : List Item
  taken : new.lane.taken ≡ old.lane.taken ++ more

abbrev AreGrown : List Feed → List Feed → Type 0
AreGrown [] [] = Unit {0}
AreGrown [] (y ∷ ys) = ⊥
AreGrown (x ∷ xs) [] = ⊥
AreGrown (x ∷ xs) (y ∷ ys) = Grows x y × AreGrown xs ys

same-grown : (feed : Feed) → Grows feed feed
same-grown feed = record { key = refl; more = []; taken = sym (append-nil feed.lane.taken) }

all-same-grown : (feeds : List Feed) → AreGrown feeds feeds
all-same-grown [] = tt
all-same-grown (feed ∷ feeds) = (same-grown feed, all-same-grown feeds)

grown-keys : (xs ys : List Feed) → AreGrown xs ys → map key_of ys ≡ map key_of xs
grown-keys [] [] grown = refl
grown-keys [] (y ∷ ys) grown = absurd grown
grown-keys (x ∷ xs) [] grown = absurd grown
grown-keys (x ∷ xs) (y ∷ ys) grown = λ i. grown.0.key i ∷ grown-keys xs ys grown.1 i

grown-take : (n : ℕ) (xs ys : List Feed) → AreGrown xs ys → AreGrown (take n xs) (take n ys)
grown-take zero xs ys grown = tt
grown-take (suc n) [] [] grown = tt
grown-take (suc n) [] (y ∷ ys) grown = absurd grown
grown-take (suc n) (x ∷ xs) [] grown = absurd grown
grown-take (suc n) (x ∷ xs) (y ∷ ys) grown = (grown.0, grown-take n xs ys grown.1)

grown-one : (t : ℕ) (x y : Feed) → Grows x y → feed_reaches t x ≡ true → feed_reaches t y ≡ true
grown-one t x y grown reached =
    subst (λ items. reaches y.key.kind y.key.start.0 t items ≡ true) (sym grown.taken)
    (subst (λ key. reaches key.kind key.start.0 t (x.lane.taken ++ grown.more) ≡ true) (sym grown.key)
    (reaches-more x.key.kind x.key.start.0 t x.lane.taken grown.more reached))

grown-reaches : (t n : ℕ) (xs ys : List Feed) → AreGrown xs ys → number_reaches xs t n ≡ true → number_reaches ys t n ≡ true
grown-reaches t n [] [] grown reached = reached
grown-reaches t n [] (y ∷ ys) grown reached = absurd grown
grown-reaches t n (x ∷ xs) [] grown reached = absurd grown
grown-reaches t zero (x ∷ xs) (y ∷ ys) grown reached = grown-one t x y grown.0 reached
grown-reaches t (suc n) (x ∷ xs) (y ∷ ys) grown reached = grown-reaches t n xs ys grown.1 reached

all-more : (f g : ℕ → Bool) (ns : List ℕ) → ((n : ℕ) → f n ≡ true → g n ≡ true) → list_all f ns ≡ true → list_all g ns ≡ true
all-more f g [] more all = refl
all-more f g (n ∷ ns) more all =
    let now = both (f n) (list_all f ns) all in
    two (g n) (list_all g ns) (more n now.0) (all-more f g ns more now.1)
  where
    two : (a b : Bool) → a ≡ true → b ≡ true → (a && b) ≡ true
    two a b first second = (λ i. first i && second i)

grown-all : (p : Pipeline) (t : ℕ) (c : Core) (xs ys : List Feed) → AreGrown xs ys → all_reach p xs t c ≡ true → all_reach p ys t c ≡ true
unfolding all_reach
grown-all p t c xs ys grown reached =
    all-more (number_reaches (feeds_then xs c) t) (number_reaches (feeds_then ys c) t) (active_numbers p c)
    (λ n is. grown-reaches t n (feeds_then xs c) (feeds_then ys c) (grown-take (length c.keys) xs ys grown) is) reached

module _ (p : Pipeline) (s : State) (every : LieInDays p.setup.hours) (is_window : IsWindow p.setup.plan.window) (fits : Fits p s) (feeds : List Feed)
    (grown : AreGrown s.feeds feeds) (fit : Each (FitsFeed p) feeds) where
  abbrev hears_all : List Reply
  hears_all = s.replies.taken

  known-at : (k : ℕ) → k ≤ s.closed → core_after p s k ≡ core_known p hears_all k
  known-at k low =
      cores-same p every is_window s.feeds hears_all (follow-all p s.feeds fits.feeds) k (λ j less. fits.reached j (omega (arith, low, less))) (keys-at p s fits k low)

  -- the closed moments stay what they are
  cores-stay : (k : ℕ) → k ≤ s.closed → core_after p s k ≡ core_over p feeds hears_all k
  cores-stay k low =
      known-at k low
      ∙ known-same p every is_window feeds hears_all (follow-all p feeds fit) k
      (λ j less.
      grown-all p (first p + j) (core_known p hears_all j).state s.feeds feeds grown
      (subst (λ r. all_reach p s.feeds (first p + j) r.state ≡ true) (known-at j (omega (arith, low, less))) (fits.reached j (omega (arith, low, less)))))
      (subst (IsFrontOf (core_known p hears_all k).state.keys) (sym (grown-keys s.feeds feeds grown))
      (subst (λ r. IsFrontOf r.state.keys (map key_of s.feeds)) (known-at k low) (keys-at p s fits k low)))

  abbrev grown_state : State
  grown_state = record s { feeds = feeds }

  last-stays : closed_core p s ≡ closed_core p grown_state
  last-stays = cores-stay s.closed (omega arith)

  reached-stays : (k : ℕ) → k ≤ s.closed → all_reach p s.feeds (first p + k) (core_after p s k).state ≡ true
      → all_reach p feeds (first p + k) (core_over p feeds hears_all k).state ≡ true
  reached-stays k low reached =
      subst (λ r. all_reach p feeds (first p + k) r.state ≡ true) (cores-stay k low)
      (grown-all p (first p + k) (core_after p s k).state s.feeds feeds grown reached)

  -- what is done in the moment in hand stays what it is, where it was reached
  now-stays : all_reach p s.feeds (hand p s) (closed_core p s).state ≡ true → now p s ≡ now p grown_state
  now-stays reached =
      next-same p every is_window s.feeds hears_all (follow-all p s.feeds fits.feeds) s.closed (hand p s) (keys-at p s fits s.closed (omega arith)) reached
      ∙ ap (λ r. step_known p (hand p s) r.state) last-stays
      ∙ sym (next-same p every is_window feeds hears_all (follow-all p feeds fit) s.closed (hand p s)
      (subst (IsFrontOf (closed_core p grown_state).state.keys) (sym (grown-keys s.feeds feeds grown))
      (subst (λ r. IsFrontOf r.state.keys (map key_of s.feeds)) last-stays (keys-at p s fits s.closed (omega arith))))
      (reached-stays s.closed (omega arith) reached))

  asked-stays : IsFrontOf s.commands.sent (now p grown_state).state.asked
  asked-stays =
      elim (cases_lt (length (closed_core p s).state.asked) (length s.commands.sent)) [
        | inl less ↦ subst (λ r. IsFrontOf s.commands.sent r.state.asked) (now-stays (fits.in_hand less)) fits.asked
        | inr not_less ↦
            subst (λ xs. IsFrontOf xs (now p grown_state).state.asked)
            (ap (λ r. r.state.asked) (sym last-stays) ∙ front-same fits.closed_asked (omega (arith, not_less)))
            ((step-keeps p feeds (hand p s)).asked (closed_core p grown_state).state)
      ]

  grown-fits : Fits p grown_state
  grown-fits = record {
    feeds = fit;
    keys = grown-keys s.feeds feeds grown ∙ fits.keys ∙ ap (λ r. r.state.keys) last-stays;
    command_lane = fits.command_lane;
    book = fits.book;
    reply_lane = fits.reply_lane;
    answers = fits.answers;
    closed_asked = subst (λ r. IsFrontOf r.state.asked s.commands.sent) last-stays fits.closed_asked;
    asked = asked-stays;
    within = fits.within;
    going = λ k less. subst (λ r. r.stop ≡ None) (cores-stay k (omega (arith, less))) (fits.going k less);
    heard = subst (λ r. is_heard r.stop ≡ true) last-stays fits.heard;
    reached = λ k less. reached-stays k (omega (arith, less)) (fits.reached k less);
    in_hand = λ less.
        reached-stays s.closed (omega arith) (fits.in_hand (subst (λ r. length r.state.asked < length s.commands.sent) (sym last-stays) less));
    text = fits.text ∙ ap (λ r. flat_map line_bytes r.lines) last-stays;
  }

-- ---- a feed sends or is taken from

changed-grown : (change : Feed → Feed) → ((feed : Feed) → Grows feed (change feed)) → (n : ℕ) (feeds : List Feed) → AreGrown feeds (with_feed change n feeds)
changed-grown change grows n [] = tt
changed-grown change grows zero (feed ∷ feeds) = (grows feed, all-same-grown feeds)
changed-grown change grows (suc n) (feed ∷ feeds) = (same-grown feed, changed-grown change grows n feeds)

changed-fits : (p : Pipeline) (change : Feed → Feed) → ((feed : Feed) → FitsFeed p feed → FitsFeed p (change feed)) → (n : ℕ) (feeds : List Feed)
    → Each (FitsFeed p) feeds → Each (FitsFeed p) (with_feed change n feeds)
changed-fits p change keep n [] fit = tt
changed-fits p change keep zero (feed ∷ feeds) fit = (keep feed fit.0, fit.1)
changed-fits p change keep (suc n) (feed ∷ feeds) fit = (fit.0, changed-fits p change keep n feeds fit.1)

abbrev produced_if : Bool → Pipeline → Bool → Feed → Feed
produced_if b p failed feed = if b then record feed { lane = with_sent (next_item p failed feed) feed.lane } else feed

produced-grows : (b : Bool) (p : Pipeline) (failed : Bool) (feed : Feed) → Grows feed (produced_if b p failed feed)
produced-grows true p failed feed = record { key = refl; more = []; taken = sym (append-nil feed.lane.taken) }
produced-grows false p failed feed = same-grown feed

item-few : (p : Pipeline) (failed : Bool) (feed : Feed) → length (next_item p failed feed) ≤ 1
item-few p true feed = omega arith
item-few p false feed = next-few feed.lane.sent (list_of p feed.key)

item-follows : (p : Pipeline) (failed : Bool) (feed : Feed) → Follows (list_of p feed.key) feed.lane.sent → has_ended feed.lane.sent ≡ false
    → Follows (list_of p feed.key) (feed.lane.sent ++ next_item p failed feed)
item-follows p true feed follows ongoing = follows-failed (list_of p feed.key) feed.lane.sent follows ongoing
item-follows p false feed follows ongoing = follows-next (list_of p feed.key) feed.lane.sent follows ongoing

not-true : (b : Bool) → not b ≡ true → b ≡ false
not-true true is = absurd (let wrong : false ≡ true = is in cc)
not-true false is = refl

produced-fits : (b : Bool) (p : Pipeline) (failed : Bool) (feed : Feed) → (has_room p.rooms.feeds feed.lane && not (has_ended feed.lane.sent)) ≡ b → FitsFeed p feed
    → FitsFeed p (produced_if b p failed feed)
produced-fits true p failed feed is fit =
    let may = both (has_room p.rooms.feeds feed.lane) (not (has_ended feed.lane.sent)) is in
    record {
      lane = lane-sent p.rooms.feeds feed.lane (next_item p failed feed) fit.lane may.0 (item-few p failed feed);
      list = item-follows p failed feed fit.list (not-true (has_ended feed.lane.sent) may.1);
    }
produced-fits false p failed feed is fit = fit

-- ---- the steps

module _ (p : Pipeline) (s : State) (every : LieInDays p.setup.hours) (is_window : IsWindow p.setup.plan.window) (fits : Fits p s) where
  pub produces-fit : (n : ℕ) (failed : Bool) → Fits p (stepped p s (produces n failed))
  produces-fit n failed =
      grown-fits p s every is_window fits (with_feed (produced p failed) n s.feeds)
      (changed-grown (produced p failed) (λ feed. produced-grows (has_room p.rooms.feeds feed.lane && not (has_ended feed.lane.sent)) p failed feed) n s.feeds)
      (changed-fits p (produced p failed) (λ feed fit. produced-fits (has_room p.rooms.feeds feed.lane && not (has_ended feed.lane.sent)) p failed feed refl fit) n s.feeds fits.feeds)

  pub takes-fit : (n : ℕ) → Fits p (stepped p s (takes n))
  takes-fit n =
      grown-fits p s every is_window fits (with_feed taken_from n s.feeds)
      (changed-grown taken_from (λ feed. record { key = refl; more = next_of feed.lane.taken feed.lane.sent; taken = refl }) n s.feeds)
      (changed-fits p taken_from (λ feed fit. record { lane = lane-taken p.rooms.feeds feed.lane fit.lane; list = fit.list }) n s.feeds fits.feeds)

  -- the core goes on only in the window, where no moment halted and enough was taken
  goes-on : may_go_on p s ≡ true
      → (hand p s ≤ last p) × ((closed_core p s).stop ≡ None) × (all_reach p s.feeds (hand p s) (closed_core p s).state ≡ true)
  unfolding may_go_on
  goes-on may =
      let one = both (nat_le (hand p s) (last p)) (is_none (closed_core p s).stop && all_reach p s.feeds (hand p s) (closed_core p s).state) may in
      let two = both (is_none (closed_core p s).stop) (all_reach p s.feeds (hand p s) (closed_core p s).state) one.1 in
      (le (hand p s) (last p) one.0, none (closed_core p s).stop two.0, two.1)
    where
      le : (a b : ℕ) → nat_le a b ≡ true → a ≤ b
      le a b is = grind (arith, nat_tests)

      none : (z : Option Pause) → is_none z ≡ true → z ≡ None
      none None is = refl
      none (Some z) is = absurd (let wrong : false ≡ true = is in cc)

  asks-if : (b : Bool) → (may_go_on p s && has_room p.rooms.commands s.commands) ≡ b
      → Fits p (if b then record s { commands = with_sent (next_of s.commands.sent (now p s).state.asked) s.commands } else s)
  asks-if false is = fits
  asks-if true is =
      let may = both (may_go_on p s) (has_room p.rooms.commands s.commands) is in
      let next = next_of s.commands.sent (now p s).state.asked in
      record {
        feeds = fits.feeds;
        keys = fits.keys;
        command_lane = lane-sent p.rooms.commands s.commands next fits.command_lane may.1 (next-few s.commands.sent (now p s).state.asked);
        book = fits.book;
        reply_lane = fits.reply_lane;
        answers = fits.answers;
        closed_asked = front-of fits.closed_asked (front-more s.commands.sent next);
        asked = front-next fits.asked;
        within = fits.within;
        going = fits.going;
        heard = fits.heard;
        reached = fits.reached;
        in_hand = λ less. (goes-on may.0).2;
        text = fits.text;
      }

  pub serves-fit : Fits p (served s)
  serves-fit =
      let next = next_of s.commands.taken s.commands.sent in
      record {
        feeds = fits.feeds;
        keys = fits.keys;
        command_lane = lane-taken p.rooms.commands s.commands fits.command_lane;
        book = ap (λ book. after book next) fits.book ∙ sym (after-append (first_book p.setup) s.commands.taken next);
        reply_lane = fits.reply_lane;
        answers = front-of fits.answers (replies-front (first_book p.setup) s.commands.taken (s.commands.taken ++ next) (front-more s.commands.taken next));
        closed_asked = fits.closed_asked;
        asked = fits.asked;
        within = fits.within;
        going = fits.going;
        heard = fits.heard;
        reached = fits.reached;
        in_hand = fits.in_hand;
        text = fits.text;
      }

  answers-if : (b : Bool) → has_room p.rooms.replies s.replies ≡ b
      → Fits p (if b then record s { replies = with_sent (next_of s.replies.sent (replies (first_book p.setup) s.commands.taken)) s.replies } else s)
  answers-if false is = fits
  answers-if true is =
      let next = next_of s.replies.sent (replies (first_book p.setup) s.commands.taken) in
      record {
        feeds = fits.feeds;
        keys = fits.keys;
        command_lane = fits.command_lane;
        book = fits.book;
        reply_lane = lane-sent p.rooms.replies s.replies next fits.reply_lane is (next-few s.replies.sent (replies (first_book p.setup) s.commands.taken));
        answers = front-next fits.answers;
        closed_asked = fits.closed_asked;
        asked = fits.asked;
        within = fits.within;
        going = fits.going;
        heard = fits.heard;
        reached = fits.reached;
        in_hand = fits.in_hand;
        text = fits.text;
      }

  -- a reply more was heard
  abbrev more_heard : List Reply
  more_heard = next_of s.replies.taken s.replies.sent

  later-core : (k : ℕ) → k ≤ s.closed → core_over p s.feeds (s.replies.taken ++ more_heard) k ≡ ran_more more_heard (core_after p s k)
  later-core k low = (core-keeps p s.feeds k).later (opening_core p.setup s.replies.taken) more_heard (heard-at p s fits k low)

  reach-later : (t : ℕ) (c : Core) (more : List Reply) → all_reach p s.feeds t c ≡ all_reach p s.feeds t (with_more more c)
  unfolding all_reach
  reach-later t c more = refl

  hears-fit : Fits p (heard s)
  hears-fit =
      let n = s.closed in
      let whole = later-core n (omega arith) in
      record {
        feeds = fits.feeds;
        keys = fits.keys ∙ ap (λ r. r.state.keys) (sym whole);
        command_lane = fits.command_lane;
        book = fits.book;
        reply_lane = lane-taken p.rooms.replies s.replies fits.reply_lane;
        answers = fits.answers;
        closed_asked = subst (λ r. IsFrontOf r.state.asked s.commands.sent) (sym whole) fits.closed_asked;
        asked =
            subst (λ r. IsFrontOf s.commands.sent (step_over p s.feeds (hand p s) r.state).state.asked) (sym whole)
            (front-of fits.asked ((step-keeps p s.feeds (hand p s)).front (closed_core p s).state more_heard));
        within = fits.within;
        going = λ k less. subst (λ r. r.stop ≡ None) (sym (later-core k (omega (arith, less)))) (fits.going k less);
        heard = subst (λ r. is_heard r.stop ≡ true) (sym whole) fits.heard;
        reached = λ k less.
            subst (λ r. all_reach p s.feeds (first p + k) r.state ≡ true) (sym (later-core k (omega (arith, less))))
            (sym (reach-later (first p + k) (core_after p s k).state more_heard) ∙ fits.reached k less);
        in_hand = λ less.
            subst (λ r. all_reach p s.feeds (hand p s) r.state ≡ true) (sym whole)
            (sym (reach-later (hand p s) (closed_core p s).state more_heard)
            ∙ fits.in_hand (subst (λ r. length r.state.asked < length s.commands.sent) whole less));
        text = fits.text ∙ ap (λ r. flat_map line_bytes r.lines) (sym whole);
      }

-- ---- a moment is closed

then-more : (feeds added : List Feed) (c : Core) → length c.keys ≤ length feeds → feeds_then (feeds ++ added) c ≡ feeds_then feeds c
then-more feeds added c low = take-append-le (length c.keys) feeds added low

step-more : (p : Pipeline) (feeds added : List Feed) (t : ℕ) (c : Core) → length c.keys ≤ length feeds → step_over p (feeds ++ added) t c ≡ step_over p feeds t c
step-more p feeds added t c low = ap (λ fs. moment_of p.setup t (world p t) (view_of fs t) c) (then-more feeds added c low)

reach-more : (p : Pipeline) (feeds added : List Feed) (t : ℕ) (c : Core) → length c.keys ≤ length feeds → all_reach p (feeds ++ added) t c ≡ all_reach p feeds t c
unfolding all_reach
reach-more p feeds added t c low = ap (λ fs. list_all (number_reaches fs t) (active_numbers p c)) (then-more feeds added c low)

keys-few : (feeds : List Feed) (c : Core) → IsFrontOf c.keys (map key_of feeds) → length c.keys ≤ length feeds
keys-few feeds c front = omega (arith, front-length front, length-map feeds key_of)

core-more : (p : Pipeline) (feeds added : List Feed) (rs : List Reply) (n : ℕ) → ((k : ℕ) → k ≤ n → IsFrontOf (core_over p feeds rs k).state.keys (map key_of feeds))
    → core_over p (feeds ++ added) rs n ≡ core_over p feeds rs n
unfolding run
core-more p feeds added rs zero keys = refl
core-more p feeds added rs (suc n) keys =
    let e : n + 1 ≡ suc n = omega arith in
    let c = (core_over p feeds rs n).state in
    subst (λ m. core_over p (feeds ++ added) rs m ≡ core_over p feeds rs m) e
    (sym (run-same-more (step_over p feeds) (step_over p (feeds ++ added)) n (first p) (opening_core p.setup rs)
    (sym (core-more p feeds added rs n (λ k low. keys k (omega (arith, low)))))
    (sym (step-more p feeds added (first p + n) c (keys-few feeds c (keys n (omega arith)))))))

new-keys : (keys : List FeedKey) → map key_of (map new_feed keys) ≡ keys
new-keys [] = refl
new-keys (key ∷ keys) = ap (λ l. key ∷ l) (new-keys keys)

new-fit : (p : Pipeline) (keys : List FeedKey) → Each (FitsFeed p) (map new_feed keys)
new-fit p [] = tt
new-fit p (key ∷ keys) = (record { lane = record { rest = []; is = refl; within = omega arith }; list = follows-none (list_of p key) }, new-fit p keys)

fit-more : (p : Pipeline) (xs ys : List Feed) → Each (FitsFeed p) xs → Each (FitsFeed p) ys → Each (FitsFeed p) (xs ++ ys)
fit-more p [] ys fit more = more
fit-more p (x ∷ xs) ys fit more = (fit.0, fit-more p xs ys fit.1 more)

map-append-keys : (xs ys : List Feed) → map key_of (xs ++ ys) ≡ map key_of xs ++ map key_of ys
map-append-keys [] ys = refl
map-append-keys (x ∷ xs) ys = ap (λ l. key_of x ∷ l) (map-append-keys xs ys)

goes-behind : (r : Ran Core Line Pause) (f : Core → Ran Core Line Pause) → r.stop ≡ None → before r f ≡ behind r.lines (f r.state)
goes-behind r f none = ap (λ z. then_on r.lines r.state z f) none

module _ (p : Pipeline) (s : State) (fits : Fits p s) (inside : hand p s ≤ last p) (open_stop : (closed_core p s).stop ≡ None)
    (reach : all_reach p s.feeds (hand p s) (closed_core p s).state ≡ true) (hears_all : is_heard (now p s).stop ≡ true) where
  abbrev added_feeds : List Feed
  added_feeds = map new_feed (drop (length s.feeds) (now p s).state.keys)

  abbrev next_state : State
  next_state = record s {
    feeds = s.feeds ++ added_feeds;
    closed = s.closed + 1;
    text = s.text ++ flat_map line_bytes (now p s).lines;
  }

  -- the closed moments stay what they are, and the moment in hand is the last of them
  core-stays : (k : ℕ) → k ≤ s.closed → core_over p (s.feeds ++ added_feeds) s.replies.taken k ≡ core_after p s k
  core-stays k low =
      core-more p s.feeds added_feeds s.replies.taken k (λ j less. keys-at p s fits j (omega (arith, low, less)))

  few-keys : (k : ℕ) → k ≤ s.closed → length (core_after p s k).state.keys ≤ length s.feeds
  few-keys k low = keys-few s.feeds (core_after p s k).state (keys-at p s fits k low)

  plain-last : core_over p s.feeds s.replies.taken (s.closed + 1) ≡ behind (closed_core p s).lines (now p s)
  plain-last =
      run-more (step_over p s.feeds) s.closed (first p) (opening_core p.setup s.replies.taken)
      ∙ goes-behind (closed_core p s) (step_over p s.feeds (hand p s)) open_stop

  core-last : closed_core p next_state ≡ behind (closed_core p s).lines (now p s)
  core-last =
      run-more (step_over p (s.feeds ++ added_feeds)) s.closed (first p) (opening_core p.setup s.replies.taken)
      ∙ ap (λ r. before r (step_over p (s.feeds ++ added_feeds) (hand p s))) (core-stays s.closed (omega arith))
      ∙ goes-behind (closed_core p s) (step_over p (s.feeds ++ added_feeds) (hand p s)) open_stop
      ∙ ap (behind (closed_core p s).lines) (step-more p s.feeds added_feeds (hand p s) (closed_core p s).state (few-keys s.closed (omega arith)))

  -- all commands of the moment were asked
  all-asked : s.commands.sent ≡ (now p s).state.asked
  all-asked =
      let counted = (core-keeps p s.feeds (s.closed + 1)).counted (opening_core p.setup s.replies.taken) (subst (λ r. is_heard r.stop ≡ true) (sym plain-last) hears_all) in
      let count : length (now p s).state.asked + dones (now p s).state.heard ≡ 0 + dones s.replies.taken =
      ap (λ r. length r.state.asked + dones r.state.heard) (sym plain-last) ∙ counted in
      front-same fits.asked (omega (arith, count, heard-few p s fits))

  next-keys : map key_of (s.feeds ++ added_feeds) ≡ (now p s).state.keys
  next-keys =
      let c = (closed_core p s).state in
      let front = (step-keeps p s.feeds (hand p s)).keys c in
      let is : (now p s).state.keys ≡ map key_of s.feeds ++ front.rest = front.is ∙ ap (λ l. l ++ front.rest) (sym fits.keys) in
      let rest : drop (length s.feeds) (now p s).state.keys ≡ front.rest =
      ap (drop (length s.feeds)) is ∙ drop_at (map key_of s.feeds) front.rest (length s.feeds) (length-map s.feeds key_of) in
      map-append-keys s.feeds added_feeds ∙ ap (λ l. map key_of s.feeds ++ l) (new-keys (drop (length s.feeds) (now p s).state.keys) ∙ rest) ∙ sym is

  less-or-last : (k : ℕ) → k < s.closed + 1 → (P : ℕ → Type 0) → ((j : ℕ) → j < s.closed → P j) → P s.closed → P k
  less-or-last k low P before_it at_it =
      elim (cases_lt k s.closed) [
        | inl less ↦ before_it k less
        | inr not_less ↦ (let e : s.closed ≡ k = omega (arith, low, not_less) in subst P e at_it)
      ]

  next-fits : Fits p next_state
  next-fits = record {
    feeds = fit-more p s.feeds added_feeds fits.feeds (new-fit p (drop (length s.feeds) (now p s).state.keys));
    keys = next-keys ∙ ap (λ r. r.state.keys) (sym core-last);
    command_lane = fits.command_lane;
    book = fits.book;
    reply_lane = fits.reply_lane;
    answers = fits.answers;
    closed_asked =
        subst (λ r. IsFrontOf r.state.asked s.commands.sent) (sym core-last)
        (subst (λ l. IsFrontOf l s.commands.sent) all-asked (front-whole s.commands.sent));
    asked =
        subst (λ l. IsFrontOf l (now p next_state).state.asked) (ap (λ r. r.state.asked) core-last ∙ sym all-asked)
        ((step-keeps p (s.feeds ++ added_feeds) (hand p next_state)).asked (closed_core p next_state).state);
    within = omega (arith, inside, fits.within);
    going = λ k low.
        less-or-last k low (λ j. (core_over p (s.feeds ++ added_feeds) s.replies.taken j).stop ≡ None)
        (λ j less. ap (λ r. r.stop) (core-stays j (omega (arith, less))) ∙ fits.going j less)
        (ap (λ r. r.stop) (core-stays s.closed (omega arith)) ∙ open_stop);
    heard = subst (λ r. is_heard r.stop ≡ true) (sym core-last) hears_all;
    reached = λ k low.
        less-or-last k low (λ j. all_reach p (s.feeds ++ added_feeds) (first p + j) (core_over p (s.feeds ++ added_feeds) s.replies.taken j).state ≡ true)
        (λ j less.
        subst (λ r. all_reach p (s.feeds ++ added_feeds) (first p + j) r.state ≡ true) (sym (core-stays j (omega (arith, less))))
        (reach-more p s.feeds added_feeds (first p + j) (core_after p s j).state (few-keys j (omega (arith, less))) ∙ fits.reached j less))
        (subst (λ r. all_reach p (s.feeds ++ added_feeds) (hand p s) r.state ≡ true) (sym (core-stays s.closed (omega arith)))
        (reach-more p s.feeds added_feeds (hand p s) (closed_core p s).state (few-keys s.closed (omega arith)) ∙ reach));
    in_hand = λ less. absurd (omega (arith, less, ap (λ r. length r.state.asked) core-last, ap length all-asked));
    text =
        ap (λ t. t ++ flat_map line_bytes (now p s).lines) fits.text
        ∙ sym (flat_map-append line_bytes (closed_core p s).lines (now p s).lines)
        ∙ ap (λ r. flat_map line_bytes r.lines) (sym core-last);
  }

module _ (p : Pipeline) (s : State) (every : LieInDays p.setup.hours) (is_window : IsWindow p.setup.plan.window) (fits : Fits p s) where
  closes-if : (b : Bool) → (may_go_on p s && is_heard (now p s).stop) ≡ b
      → Fits p
      (if b
      then record s {
        feeds = s.feeds ++ map new_feed (drop (length s.feeds) (now p s).state.keys);
        closed = s.closed + 1;
        text = s.text ++ flat_map line_bytes (now p s).lines;
      }
      else s)
  closes-if false is = fits
  closes-if true is =
      let may = both (may_go_on p s) (is_heard (now p s).stop) is in
      let on = goes-on p s every is_window fits may.0 in
      next-fits p s fits on.0 on.1 on.2 may.1

  -- each step keeps what fits
  pub step-fits : (step : Step) → Fits p (stepped p s step)
  step-fits (produces n failed) = produces-fit p s every is_window fits n failed
  step-fits (takes n) = takes-fit p s every is_window fits n
  step-fits asks = asks-if p s every is_window fits (may_go_on p s && has_room p.rooms.commands s.commands) refl
  step-fits serves = serves-fit p s every is_window fits
  step-fits answers = answers-if p s every is_window fits (has_room p.rooms.replies s.replies) refl
  step-fits hears = hears-fit p s every is_window fits
  step-fits closes = closes-if (may_go_on p s && is_heard (now p s).stop) refl

-- ---- all steps

opening-fits : (p : Pipeline) → Fits p (opening p)
unfolding run
opening-fits p = record {
  feeds = new-fit p (first_keys p.setup);
  keys = new-keys (first_keys p.setup);
  command_lane = record { rest = []; is = refl; within = omega arith };
  book = sym (after-none (first_book p.setup));
  reply_lane = record { rest = []; is = refl; within = omega arith };
  answers = front-none (replies (first_book p.setup) []);
  closed_asked = front-none [];
  asked = front-none (now p (opening p)).state.asked;
  within = omega arith;
  going = λ k less. absurd (omega (arith, less));
  heard = refl;
  reached = λ k less. absurd (omega (arith, less));
  in_hand = λ less. absurd (omega (arith, less));
  text = refl;
}

pub steps-fit : (p : Pipeline) → LieInDays p.setup.hours → IsWindow p.setup.plan.window → (steps : List Step) → Fits p (after_steps p steps (opening p))
unfolding after_steps
steps-fit p every is_window steps = by steps (opening p) (opening-fits p)
  where
    by : (steps : List Step) (s : State) → Fits p s → Fits p (fold (stepped p) s steps)
    by [] s fits = fits
    by (step ∷ steps) s fits = by steps (stepped p s step) (step-fits p s every is_window fits step)
