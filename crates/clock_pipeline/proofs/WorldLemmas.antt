-- A moment of the core over what was taken of its feeds is the moment over what the files tell, where enough was taken.
use Rattle.std.proofs.Common.{◌≡◌, ℕ, zero, suc, ◌+◌, ◌-◌, ◌<◌, ◌≤◌, Bool, true, false, List, [], ◌∷◌, ◌++◌, length, map, refl, ap, sym, subst, ◌∙◌, arith, append_assoc, length-append}
use Rattle.std.specs.Prelude.{Option, Some, None, take, ◌&&◌, option_map}
use Rattle.std.specs.List.{AllByRecursion as Each, list_all, range_with_len}
use Rattle.std.specs.Option.{option_map_or}
use Rattle.std.proofs.lemmas.List.{take-map, take_at}
use Rattle.std.proofs.lemmas.List.Folds.{list_all-append, list_all-map}
use Rattle.lean_fixed.specs.Moments.{first_moment}
use Rattle.lean_fixed.specs.Ranges.{IsWindow}
use Rattle.lean_items.specs.declared.coarse_row.CoarseRow.{CoarseRow}
use Rattle.lean_items.specs.declared.feed_key.FeedKey.{FeedKey}
use Rattle.lean_items.specs.declared.feed_key.FeedKind.{FeedKind}
use Rattle.lean_items.specs.declared.feed_key.FeedKind.TheVariants.{Coarse, Equity}
use Rattle.lean_items.specs.Taken.{Follows}
use Rattle.exchange_hours.specs.Sessions.{LieInDays}
use Rattle.lean_orders.specs.declared.desk.Reply.{Reply}
use Rattle.universe_rules.specs.Selected.{selected}
use Rattle.universe_state.specs.Choice.{additions, room}
use Rattle.clock_steps.specs.Runs.{Ran, behind, then_on, before, run, IsFrontOf}
use Rattle.clock_steps.specs.Walks.{walk}
use Rattle.clock_steps.proofs.RunLemmas.{run-cut, run-one}
use Rattle.clock_feeds.specs.Feeds.{coarse_of}
use Rattle.clock_feeds.specs.Known.{feed_bars}
use Rattle.clock_feeds.specs.Slices.{coarse_at}
use Rattle.clock_feeds.specs.Lists.{bars_ending, rows_ending}
use Rattle.rule_strategy.specs.declared.security.Security.{Security}
use Rattle.rule_strategy.specs.declared.universe.UniversePlan.{UniversePlan}
use Rattle.clock_run.specs.Lines.{Line}
use Rattle.clock_run.specs.Known.{Known}
use Rattle.clock_run.specs.Worlds.{world_of}
use Rattle.clock_run.specs.States.{Setup, Subscription, actives_of, numbered, joining, listed, coarse_key, coarse_keys, coarse_keys_for, opening as opening_state}
use Rattle.clock_run.specs.Moments.{marked_as}
use Rattle.clock_run.proofs.EachLemmas.{flat_map-all_none}
use Rattle.clock_run.proofs.WorldLemmas.{begins-fresh}
use Rattle.clock_pipeline.specs.Cores.{Core, View, Pause, Part, history_in, histories_in, number_of, first_keys, opening as opening_core}
use Rattle.clock_pipeline.specs.Moments.{in_turn, selection, parts_of, moment_of}
use Rattle.clock_pipeline.specs.Reached.{bars_taken}
use Rattle.clock_pipeline.specs.Pipelines.{Pipeline, Feed, key_of, first, world, list_of, feed_at, items_of, view_of, feeds_then, step_over, core_over}
use Rattle.clock_pipeline.specs.Steps.{coarse_numbers, feed_reaches, number_reaches, all_reach}
use Rattle.clock_pipeline.proofs.LaneLemmas.{front-of}
use Rattle.clock_pipeline.proofs.FeedLemmas.{taken-bars, taken-rows}
use Rattle.clock_pipeline.proofs.KeepLemmas.{key_at, key_at-end, IsEquity, IsKeyed, AreKeyed, Keeps, keys-before, moment-keeps, run-keeps, chosen-keeps}

-- what a world tells of a moment, and moments over it
abbrev pub view_known : Known → View
view_known known = record { bars = λ security. known.bars security.key; rows = known.coarse }

abbrev pub step_known : Pipeline → ℕ → Part
step_known p t c = moment_of p.setup t (world p t) (view_known (world p t)) c

abbrev pub core_known : Pipeline → List Reply → ℕ → Ran Core Line Pause
core_known p heard count = run (step_known p) count (first p) (opening_core p.setup heard)

-- ---- two views of a moment

abbrev SeeRows : Option UniversePlan → View → View → Type 0
SeeRows None v w = Unit {0}
SeeRows (Some universe) v w = v.rows ≡ w.rows

same-selection : (universe : Option UniversePlan) (t : ℕ) (v w : View) (c : Core) → SeeRows universe v w → selection universe t v.rows c ≡ selection universe t w.rows c
same-selection None t v w c same = refl
same-selection (Some universe) t v w c same = ap (λ rows. selection (Some universe) t rows c) same

same-histories : (v w : View) (securities : List Subscription) → Each (λ s. v.bars s ≡ w.bars s) securities → map (history_in v) securities ≡ map (history_in w) securities
same-histories v w [] same = refl
same-histories v w (s ∷ securities) same = λ i.
    record { symbol = s.active.symbol; period = s.period; bars = same.0 i } ∷ same-histories v w securities same.1 i

before-at : (r : Ran Core Line Pause) (f g : Part) → f r.state ≡ g r.state → before r f ≡ before r g
before-at r f g same = by r.lines r.state r.stop same
  where
    by : (ls : List Line) (s : Core) (z : Option Pause) → f s ≡ g s → then_on ls s z f ≡ then_on ls s z g
    by ls s None same = ap (behind ls) same
    by ls s (Some z) same = refl

same-moment : (setup : Setup) (t : ℕ) (known : Known) (v w : View) (c : Core) → SeeRows setup.plan.universe v w
    → Each (λ s. v.bars s ≡ w.bars s) (selection setup.plan.universe t v.rows c).state.securities
    → moment_of setup t known v c ≡ moment_of setup t known w c
unfolding moment_of
same-moment setup t known v w c rows bars =
    let r = selection setup.plan.universe t v.rows c in
    before-at r (λ x. in_turn (parts_of setup t known (histories_in v x)) x) (λ x. in_turn (parts_of setup t known (histories_in w x)) x)
    (ap (λ histories. in_turn (parts_of setup t known histories) r.state) (same-histories v w r.state.securities bars))
    ∙ ap (λ r. before r (λ x. in_turn (parts_of setup t known (histories_in w x)) x)) (same-selection setup.plan.universe t v w c rows)

-- ---- feeds by their numbers

feed_at-key : (n : ℕ) (feeds : List Feed) → key_at n (map key_of feeds) ≡ option_map key_of (feed_at n feeds)
feed_at-key n [] = refl
feed_at-key zero (feed ∷ feeds) = refl
feed_at-key (suc n) (feed ∷ feeds) = feed_at-key n feeds

feed_at-each : (P : Feed → Type 0) (n : ℕ) (feeds : List Feed) (feed : Feed) → Each P feeds → feed_at n feeds ≡ Some feed → P feed
feed_at-each P n [] feed each is = absurd (let wrong : None ≡ Some feed = is in cc)
feed_at-each P zero (x ∷ feeds) feed each is = subst P (let same : x ≡ feed = cc in same) each.0
feed_at-each P (suc n) (x ∷ feeds) feed each is = feed_at-each P n feeds feed each.1 is

feed_at-past : (n m : ℕ) (feeds : List Feed) → m ≤ n → feed_at n (take m feeds) ≡ None
feed_at-past n zero feeds low = refl
feed_at-past n (suc m) [] low = refl
feed_at-past zero (suc m) (feed ∷ feeds) low = absurd (omega (arith, low))
feed_at-past (suc n) (suc m) (feed ∷ feeds) low = feed_at-past n m feeds (omega (arith, low))

each-take : (P : Feed → Type 0) (n : ℕ) (feeds : List Feed) → Each P feeds → Each P (take n feeds)
each-take P zero feeds each = tt
each-take P (suc n) [] each = tt
each-take P (suc n) (feed ∷ feeds) each = (each.0, each-take P n feeds each.1)

nothing-taken : (t : ℕ) → bars_taken [] t ≡ []
unfolding bars_taken walk
nothing-taken t = flat_map-all_none (λ u. bars_ending u []) (range_with_len 0 (t + 1 - 0)) (λ u. refl)

none-some : {A : Type 0} {x : A} → None ≡ Some x → ⊥
none-some is = cc

some-same : {A : Type 0} {x y : A} → Some x ≡ Some y → x ≡ y
some-same is = cc

-- what was taken of a feed follows its list
abbrev pub FollowsList : Pipeline → Feed → Type 0
FollowsList p feed = Follows (list_of p feed.key) feed.lane.taken

-- the feeds over which a core goes on at a moment
pub record IsOver (p : Pipeline) (feeds : List Feed) (t : ℕ) (c : Core) : Type 0 where
  pub keys : IsFrontOf c.keys (map key_of feeds)
  pub follow : Each (FollowsList p) feeds
  pub keyed : AreKeyed c
  pub first : IsFrontOf (first_keys p.setup) c.keys
  pub reached : all_reach p feeds t c ≡ true

then-keys : (feeds : List Feed) (c : Core) → IsFrontOf c.keys (map key_of feeds) → map key_of (feeds_then feeds c) ≡ c.keys
then-keys feeds c front =
    sym (take-map key_of (length c.keys) feeds) ∙ ap (take (length c.keys)) front.is ∙ take_at c.keys front.rest (length c.keys) refl

both : (a b : Bool) → (a && b) ≡ true → (a ≡ true) × (b ≡ true)
both true b is = (refl, is)
both false b is = absurd (let wrong : false ≡ true = is in cc)

module _ (p : Pipeline) (every : LieInDays p.setup.hours) (is_window : IsWindow p.setup.plan.window) (t : ℕ) where
  -- the bars of a feed that reaches the moment
  reached-bars : (key : FeedKey) (found : Option Feed) → option_map key_of found ≡ Some key → IsEquity key.kind
      → ((feed : Feed) → found ≡ Some feed → FollowsList p feed) → option_map_or (feed_reaches t) found false ≡ true
      → bars_taken (items_of found) t ≡ (world p t).bars key
  unfolding world_of
  reached-bars key None is equity follow reached = absurd (let wrong : false ≡ true = reached in cc)
  reached-bars key (Some feed) is equity follow reached =
      by feed.key.kind refl (subst (λ k. IsEquity k.kind) (sym same) equity)
      ∙ ap (λ k. feed_bars p.files p.setup.hours p.setup.plan.window k t) same
    where
      same : feed.key ≡ key
      same = some-same is

      by : (kind : FeedKind) → feed.key.kind ≡ kind → IsEquity kind → bars_taken feed.lane.taken t ≡ feed_bars p.files p.setup.hours p.setup.plan.window feed.key t
      by Coarse kind equity = absurd equity
      by (Equity symbol resolution) kind equity =
          taken-bars p.files p.setup.hours p.setup.plan.window every is_window feed.key feed.lane.taken t (follow feed refl) reached symbol resolution kind

  -- the rows of the coarse feed
  reached-rows : (found : Option Feed) → option_map key_of found ≡ Some (coarse_key p.setup.plan.window)
      → ((feed : Feed) → found ≡ Some feed → FollowsList p feed) → option_map_or (feed_reaches t) found false ≡ true
      → rows_ending t (items_of found) ≡ (world p t).coarse
  unfolding world_of
  reached-rows None is follow reached = absurd (let wrong : false ≡ true = reached in cc)
  reached-rows (Some feed) is follow reached =
      taken-rows p.files p.setup.hours p.setup.plan.window every is_window feed.key feed.lane.taken t (follow feed refl) reached (ap (λ k. k.kind) same)
      ∙ ap (λ k. coarse_at (coarse_of p.files p.setup.hours p.setup.plan.window k) t) same
    where
      same : feed.key ≡ coarse_key p.setup.plan.window
      same = some-same is

  -- the active securities
  reached-each : (feeds : List Feed) (c : Core) (securities : List Subscription) → map key_of (feeds_then feeds c) ≡ c.keys
      → Each (FollowsList p) feeds → Each (IsKeyed c.keys) securities
      → list_all (λ s. number_reaches (feeds_then feeds c) t (number_of s)) securities ≡ true
      → Each (λ s. (view_of (feeds_then feeds c) t).bars s ≡ (view_known (world p t)).bars s) securities
  reached-each feeds c [] keys follow keyed reached = tt
  reached-each feeds c (s ∷ securities) keys follow keyed reached =
      let now = both (number_reaches (feeds_then feeds c) t (number_of s)) (list_all (λ s. number_reaches (feeds_then feeds c) t (number_of s)) securities) reached in (
        reached-bars s.key (feed_at (number_of s) (feeds_then feeds c))
            (sym (feed_at-key (number_of s) (feeds_then feeds c)) ∙ ap (key_at (number_of s)) keys ∙ keyed.0.key) keyed.0.kind
            (λ feed is. feed_at-each (FollowsList p) (number_of s) (feeds_then feeds c) feed (each-take (FollowsList p) (length c.keys) feeds follow) is) now.0,
        reached-each feeds c securities keys follow keyed.1 now.1,
      )

  marked-each : (v w : View) (symbols : List (List ℕ)) (same : (s : Subscription) → v.bars s ≡ w.bars s → v.bars (marked_as symbols s) ≡ w.bars (marked_as symbols s))
      → (securities : List Subscription) → Each (λ s. v.bars s ≡ w.bars s) securities → Each (λ s. v.bars s ≡ w.bars s) (map (marked_as symbols) securities)
  marked-each v w symbols same [] each = tt
  marked-each v w symbols same (s ∷ securities) each = (same s each.0, marked-each v w symbols same securities each.1)

  joined-each : (feeds : List Feed) (c : Core) (universe : UniversePlan) (n : ℕ) (news : List (List ℕ)) → length c.keys ≤ n
      → Each (λ s. (view_of (feeds_then feeds c) t).bars s ≡ (view_known (world p t)).bars s) (numbered (joining universe t) n news)
  joined-each feeds c universe n [] low = tt
  joined-each feeds c universe n (symbol ∷ news) low = (
    ap (λ found. bars_taken (items_of found) t) (feed_at-past n (length c.keys) feeds low) ∙ nothing-taken t
        ∙ sym (begins-fresh p.files p.setup.hours p.setup.plan.window symbol universe.resolution universe.fill t every is_window),
    joined-each feeds c universe (n + 1) news (omega (arith, low)),
  )

  each-more : (P : Subscription → Type 0) (xs ys : List Subscription) → Each P xs → Each P ys → Each P (xs ++ ys)
  each-more P [] ys all more = more
  each-more P (x ∷ xs) ys all more = (all.0, each-more P xs ys all.1 more)

  chosen-each : (feeds : List Feed) (c : Core) (universe : Option UniversePlan) (rows : List CoarseRow)
      → Each (λ s. (view_of (feeds_then feeds c) t).bars s ≡ (view_known (world p t)).bars s) c.securities
      → Each (λ s. (view_of (feeds_then feeds c) t).bars s ≡ (view_known (world p t)).bars s) (selection universe t rows c).state.securities
  chosen-each feeds c None rows each = each
  chosen-each feeds c (Some universe) [] each = each
  chosen-each feeds c (Some universe) (row ∷ rows) each =
      let symbols = selected (row ∷ rows) universe.rule in
      each-more (λ s. (view_of (feeds_then feeds c) t).bars s ≡ (view_known (world p t)).bars s) (map (marked_as symbols) c.securities) _
      (marked-each (view_of (feeds_then feeds c) t) (view_known (world p t)) symbols (λ s same. same) c.securities each)
      (joined-each feeds c universe (length c.keys) (take (room (actives_of c.securities)) (additions symbols (actives_of c.securities))) (omega arith))

  coarse-rows : (universe : Option UniversePlan) (feeds : List Feed) (c : Core) → p.setup.plan.universe ≡ universe → map key_of (feeds_then feeds c) ≡ c.keys
      → Each (FollowsList p) feeds → IsFrontOf (first_keys p.setup) c.keys
      → list_all (number_reaches (feeds_then feeds c) t) (coarse_numbers universe) ≡ true
      → SeeRows universe (view_of (feeds_then feeds c) t) (view_known (world p t))
  coarse-rows None feeds c is keys follow first reached = tt
  coarse-rows (Some universe) feeds c is keys follow first reached =
      reached-rows (feed_at 0 (feeds_then feeds c))
      (sym (feed_at-key 0 (feeds_then feeds c)) ∙ ap (key_at 0) (keys ∙ first.is)
      ∙ ap (λ u. key_at 0 ((coarse_keys_for p.setup.plan.window u ++ map (λ security. security.key) (opening_state p.setup).securities) ++ first.rest)) is)
      (λ feed found. feed_at-each (FollowsList p) 0 (feeds_then feeds c) feed (each-take (FollowsList p) (length c.keys) feeds follow) found)
      (both (number_reaches (feeds_then feeds c) t 0) true reached).0

  -- a moment over what was taken is the moment over what is known
  pub step-same : (feeds : List Feed) (c : Core) → IsOver p feeds t c → step_over p feeds t c ≡ step_known p t c
  unfolding all_reach
  step-same feeds c over =
      let keys = then-keys feeds c over.keys in
      let reach = number_reaches (feeds_then feeds c) t in
      let parts = both (list_all reach (coarse_numbers p.setup.plan.universe)) (list_all reach (map number_of c.securities))
      (sym (list_all-append reach (coarse_numbers p.setup.plan.universe) (map number_of c.securities)) ∙ over.reached) in
      same-moment p.setup t (world p t) (view_of (feeds_then feeds c) t) (view_known (world p t)) c
      (coarse-rows p.setup.plan.universe feeds c refl keys over.follow over.first parts.0)
      (chosen-each feeds c p.setup.plan.universe (view_of (feeds_then feeds c) t).rows
      (reached-each feeds c c.securities keys over.follow over.keyed (sym (list_all-map reach number_of c.securities) ∙ parts.1)))

-- ---- moments in a row

pub step-keeps : (p : Pipeline) (feeds : List Feed) (t : ℕ) → Keeps (step_over p feeds t)
step-keeps p feeds t =
    chosen-keeps (λ fs. moment_of p.setup t (world p t) (view_of fs t)) (feeds_then feeds) (λ c more. refl) (λ fs. moment-keeps p.setup t (world p t) (view_of fs t))

pub known-keeps : (p : Pipeline) (t : ℕ) → Keeps (step_known p t)
known-keeps p t = moment-keeps p.setup t (world p t) (view_known (world p t))

pub core-keeps : (p : Pipeline) (feeds : List Feed) (n : ℕ) → Keeps (run (step_over p feeds) n (first p))
core-keeps p feeds n = run-keeps (step_over p feeds) (step-keeps p feeds) n (first p)

pub known-run-keeps : (p : Pipeline) (n : ℕ) → Keeps (run (step_known p) n (first p))
known-run-keeps p n = run-keeps (step_known p) (known-keeps p) n (first p)

-- one step more
pub run-more : (step : ℕ → Part) (n from : ℕ) (c : Core) → run step (n + 1) from c ≡ before (run step n from c) (step (from + n))
run-more step n from c = run-cut step n 1 from c ∙ (let r = run step n from c in before-at-all r (run step 1 (from + n)) (step (from + n)) (run-one step (from + n)))
  where
    before-at-all : (r : Ran Core Line Pause) (f g : Part) → ((c : Core) → f c ≡ g c) → before r f ≡ before r g
    before-at-all r f g same = before-at r f g (same r.state)

pub more-keys : (step : ℕ → Part) → ((t : ℕ) → Keeps (step t)) → (n from : ℕ) (c : Core) → IsFrontOf (run step n from c).state.keys (run step (n + 1) from c).state.keys
more-keys step keep n from c =
    subst (λ r. IsFrontOf (run step n from c).state.keys r.state.keys) (sym (run-more step n from c)) (keys-before (run step n from c) (step (from + n)) (keep (from + n)))

pub run-same-more : (step other : ℕ → Part) (n from : ℕ) (c : Core) → run step n from c ≡ run other n from c
    → step (from + n) (run step n from c).state ≡ other (from + n) (run step n from c).state → run step (n + 1) from c ≡ run other (n + 1) from c
run-same-more step other n from c same next =
    run-more step n from c ∙ before-at (run step n from c) (step (from + n)) (other (from + n)) next
    ∙ ap (λ r. before r (other (from + n))) same ∙ sym (run-more other n from c)

listed-keyed : (t : ℕ) (keys : List FeedKey) (securities : List Security) (n : ℕ) → n ≡ length keys
    → Each (IsKeyed (keys ++ map (λ s. s.key) (numbered (listed t) n securities))) (numbered (listed t) n securities)
listed-keyed t keys [] n is = tt
listed-keyed t keys (security ∷ securities) n is =
    let key = (listed t n security).key in
    let rest = map (λ s. s.key) (numbered (listed t) (n + 1) securities) in (
      record { key = ap (λ k. key_at k (keys ++ key ∷ rest)) is ∙ key_at-end keys rest key; kind = tt },
      subst (λ ks. Each (IsKeyed ks) (numbered (listed t) (n + 1) securities)) (append_assoc keys (key ∷ []) rest)
          (listed-keyed t (keys ++ key ∷ []) securities (n + 1) (omega (arith, is, length-append keys (key ∷ [])))),
    )

pub opening-keyed : (setup : Setup) (heard : List Reply) → AreKeyed (opening_core setup heard)
opening-keyed setup heard = listed-keyed (first_moment setup.plan.window) (coarse_keys setup.plan) setup.plan.securities (length (coarse_keys setup.plan)) refl

module _ (p : Pipeline) (every : LieInDays p.setup.hours) (is_window : IsWindow p.setup.plan.window) (feeds : List Feed) (heard : List Reply)
    (follow : Each (FollowsList p) feeds) where
  -- a core on its way is over the feeds where enough was taken
  on-way : (step : ℕ → Part) → ((t : ℕ) → Keeps (step t)) → (n t : ℕ) → IsFrontOf (run step n (first p) (opening_core p.setup heard)).state.keys (map key_of feeds)
      → all_reach p feeds t (run step n (first p) (opening_core p.setup heard)).state ≡ true
      → IsOver p feeds t (run step n (first p) (opening_core p.setup heard)).state
  on-way step keep n t keys reached = record {
    keys = keys;
    follow = follow;
    keyed = (run-keeps step keep n (first p)).keyed (opening_core p.setup heard) (opening-keyed p.setup heard);
    first = (run-keeps step keep n (first p)).keys (opening_core p.setup heard);
    reached = reached;
  }

  -- the moments over what was taken are those over what is known, where each was reached
  pub cores-same : (n : ℕ) → ((k : ℕ) → k < n → all_reach p feeds (first p + k) (core_over p feeds heard k).state ≡ true)
      → IsFrontOf (core_over p feeds heard n).state.keys (map key_of feeds) → core_over p feeds heard n ≡ core_known p heard n
  unfolding run
  cores-same zero reached keys = refl
  cores-same (suc n) reached keys =
      let e : n + 1 ≡ suc n = omega arith in
      let keys_n : IsFrontOf (core_over p feeds heard n).state.keys (map key_of feeds) =
      front-of (more-keys (step_over p feeds) (step-keeps p feeds) n (first p) (opening_core p.setup heard))
      (subst (λ m. IsFrontOf (core_over p feeds heard m).state.keys (map key_of feeds)) (sym e) keys) in
      subst (λ m. core_over p feeds heard m ≡ core_known p heard m) e
      (run-same-more (step_over p feeds) (step_known p) n (first p) (opening_core p.setup heard)
      (cores-same n (λ k low. reached k (omega (arith, low))) keys_n)
      (step-same p every is_window (first p + n) feeds (core_over p feeds heard n).state
      (on-way (step_over p feeds) (step-keeps p feeds) n (first p + n) keys_n (reached n (omega arith)))))

  -- and the other way round
  pub known-same : (n : ℕ) → ((k : ℕ) → k < n → all_reach p feeds (first p + k) (core_known p heard k).state ≡ true)
      → IsFrontOf (core_known p heard n).state.keys (map key_of feeds) → core_known p heard n ≡ core_over p feeds heard n
  unfolding run
  known-same zero reached keys = refl
  known-same (suc n) reached keys =
      let e : n + 1 ≡ suc n = omega arith in
      let keys_n : IsFrontOf (core_known p heard n).state.keys (map key_of feeds) =
      front-of (more-keys (step_known p) (known-keeps p) n (first p) (opening_core p.setup heard))
      (subst (λ m. IsFrontOf (core_known p heard m).state.keys (map key_of feeds)) (sym e) keys) in
      subst (λ m. core_known p heard m ≡ core_over p feeds heard m) e
      (run-same-more (step_known p) (step_over p feeds) n (first p) (opening_core p.setup heard)
      (known-same n (λ k low. reached k (omega (arith, low))) keys_n)
      (sym (step-same p every is_window (first p + n) feeds (core_known p heard n).state
      (on-way (step_known p) (known-keeps p) n (first p + n) keys_n (reached n (omega arith))))))

  -- the moment behind some
  pub next-same : (n t : ℕ) → IsFrontOf (core_over p feeds heard n).state.keys (map key_of feeds) → all_reach p feeds t (core_over p feeds heard n).state ≡ true
      → step_over p feeds t (core_over p feeds heard n).state ≡ step_known p t (core_over p feeds heard n).state
  next-same n t keys reached =
      step-same p every is_window t feeds (core_over p feeds heard n).state (on-way (step_over p feeds) (step-keeps p feeds) n t keys reached)
