-- What is known of a run from one moment to the next, whatever its pool and its desk turn out to have told.
use Rattle.std.proofs.Common.{◌≡◌, ℕ, ◌+◌, ◌-◌, ◌<◌, ◌≤◌, Bool, false, pos, List, [], ◌++◌, Option, Some, None, refl, sym, ap, ◌∙◌, subst, inl, arith, append_assoc, append-nil}
use Rattle.std.specs.Prelude.{find, Result, Ok, Err, OnOk}
use Rattle.std.specs.List.{All, Contains}
use Rattle.lean_fixed.specs.declared.time.Moment.{Moment}
use Rattle.lean_items.specs.declared.arrival.Arrival.{Arrival}
use Rattle.lean_items.specs.declared.feed_key.FeedKey.{FeedKey}
use Rattle.lean_items.specs.declared.item.Item.{Item}
use Rattle.lean_items.specs.declared.item.Item.TheVariants as item
use Rattle.lean_items.specs.Taken.{Start, Feeds, AllFollow}
use Rattle.lean_orders.specs.declared.desk.Command.{Command}
use Rattle.lean_orders.specs.declared.desk.Reply.{Reply}
use Rattle.clock_book.specs.Books.{Book}
use Rattle.clock_book.specs.Handled.{after}
use Rattle.clock_steps.specs.Runs.{rests, run}
use Rattle.order_desk.specs.Served.{IsRight}
use Rattle.order_desk.proofs.ReplyLemmas.{right-before}
use Rattle.frontier_sync.specs.Heads.{stops}
use Rattle.frontier_sync.specs.Stands.{IsTaken as IsTakenOf}
use Rattle.frontier_sync.proofs.StandLemmas.{head-found}
use Rattle.report_pages.proofs.PrintedLemmas.{IsTaken-nothing}
use Rattle.backtest_engine.specs.declared.ending.Cut.{Cut}
use Rattle.backtest_engine.specs.declared.ending.Cut.TheVariants as cut
use Rattle.backtest_engine.specs.declared.ending.Ending.{Ending}
use Rattle.backtest_engine.specs.declared.ending.Ending.TheVariants.{Whole, Refused, Faulted}
use Rattle.backtest_engine.specs.Lists.{slice_at}
use Rattle.backtest_engine.specs.Meaning.{Meaning, State, moment_of}
use Rattle.backtest_engine.specs.Reports.{minutes}
use Rattle.backtest_engine.specs.Phased.{DeskStands, GoesOn}
use Rattle.backtest_engine.specs.Stands.{AreLists, AreCalm, IsEarlier, Stock, HasFaulted}
use Rattle.backtest_engine.specs.Moved.{Knows, Moved, IfReadFault}
use Rattle.backtest_engine.specs.Exact.{ended_as, EndsBy}
use Rattle.backtest_engine.specs.Walked.{IsEnding, IfFault, AllFrom, NoClose, IsEnd, AllMeet}
use Rattle.backtest_engine.proofs.GaveLemmas.{earlier-same, earlier-then}
use Rattle.backtest_engine.proofs.PhaseLemmas.{goes-none, goes-more}
use Rattle.backtest_engine.proofs.WalkLemmas.{Comes, Came, meets-at, came, cut-short, exact-cut, comes-next, exact-whole, exact-stopped, ends-whole, ends-refused, ends-faulted}

abbrev pub CoreStands : Type 0 → Type 1
CoreStands Own = (m : Meaning Own) → State Own → List FeedKey → Type 0

abbrev pub CoreMeets : Type 0 → Type 1
CoreMeets Own = (m : Meaning Own) → ℕ → List Arrival → State Own → Type 0

pub nothing-ran : {Own : Type 0} (m : Meaning Own) (lists : FeedKey → List Item) (first : ℕ) (s0 : State Own) → minutes m lists first s0 0 ≡ record { lines = []; state = s0; stop = None }
unfolding run
nothing-ran m lists first s0 = refl

start-run : {Own : Type 0} (m : Meaning Own) (lists : FeedKey → List Item) (first : ℕ) (s0 : State Own) → minutes m lists first s0 (first - first) ≡ record { lines = []; state = s0; stop = None }
start-run m lists first s0 =
    let none : first - first ≡ 0 = omega arith in
    ap (λ n. minutes m lists first s0 n) none ∙ nothing-ran m lists first s0

module _ {Own : Type 0} (coarse : Bool) (first last : ℕ) (desk0 : DeskStands) (pool0 : Start → Feeds → Type 0) (added0 : ℕ) (heads0 : List Arrival) (keys0 : List FeedKey) (stands0 : CoreStands Own) (meets : CoreMeets Own) (told0 : Option (List ℕ)) where
  -- whatever lists the taken items follow, and whatever book the replies are right of
  abbrev Whatever : List Command → List Reply → Feeds → Feeds
      → ((lists : FeedKey → List Item) → (m : Meaning Own) → State Own → Book → List Command → List Reply → Type 0) → Type 0
  Whatever ds more feeds now W =
      (lists : FeedKey → List Item) (m : Meaning Own) (s0 : State Own) (b : Book) (cs : List Command) (rs : List Reply)
      → AreLists lists → AllFollow lists now → IsRight b (cs ++ ds) (rs ++ more)
      → Knows m lists coarse (stands0 m) desk0 added0 feeds heads0 first s0 b cs rs
      → AreCalm lists (pos first) heads0 (m.active s0.own) → AllMeet (meets m) m lists first last s0 → W lists m s0 b (cs ++ ds) (rs ++ more)

  pub record KnownOf (ds : List Command) (more : List Reply) (before : Start) (feeds : Feeds) (pool : Start → Feeds → Type 0) (added : ℕ) (heads : List Arrival) (keys : List FeedKey)
      (W : Feeds → (lists : FeedKey → List Item) → (m : Meaning Own) → State Own → Book → List Command → List Reply → Type 0) : Type 0 where
    pub now : Feeds
    pub stock : Stock pool before added heads keys now
    pub earlier : IsEarlier feeds now
    pub comes : Whatever ds more feeds now (W now)

  -- what was submitted and heard, and what was taken
  pub record KnownBy (desk : DeskStands) (pool : Start → Feeds → Type 0) (added : ℕ) (heads : List Arrival) (keys : List FeedKey)
      (W : Feeds → (lists : FeedKey → List Item) → (m : Meaning Own) → State Own → Book → List Command → List Reply → Type 0) : Type 0 where
    pub ds : List Command
    pub more : List Reply
    pub goes : GoesOn desk0 desk ds more
    pub known : (before : Start) (feeds : Feeds) → Stock pool0 before added0 heads0 keys0 feeds → KnownOf ds more before feeds pool added heads keys W

  abbrev pub ComesAt : DeskStands → ℕ → List Arrival → CoreStands Own → ℕ → Option (List ℕ) → Feeds → (lists : FeedKey → List Item) → (m : Meaning Own) → State Own → Book → List Command → List Reply → Type 0
  ComesAt desk added heads stands at told now lists m s0 b cs rs = Comes m lists coarse first last s0 (stands m) desk added now heads at b cs rs told0 told

  abbrev pub CameAt : DeskStands → ℕ → List Arrival → CoreStands Own → ℕ → Option (List ℕ) → Feeds → (lists : FeedKey → List Item) → (m : Meaning Own) → State Own → Book → List Command → List Reply → Type 0
  CameAt desk added heads stands at told now lists m s0 b cs rs = Came m lists coarse first last s0 (stands m) desk added now heads at b cs rs told0 told

  -- before the moment `at`, and behind it
  abbrev pub Known : DeskStands → (Start → Feeds → Type 0) → ℕ → List Arrival → List FeedKey → CoreStands Own → ℕ → Option (List ℕ) → Type 0
  Known desk pool added heads keys stands at told = KnownBy desk pool added heads keys (ComesAt desk added heads stands at told)

  abbrev pub KnownBehind : DeskStands → (Start → Feeds → Type 0) → ℕ → List Arrival → List FeedKey → CoreStands Own → ℕ → Option (List ℕ) → Type 0
  KnownBehind desk pool added heads keys stands at told = KnownBy desk pool added heads keys (CameAt desk added heads stands at told)

  -- how the moments end
  abbrev pub Ends : DeskStands → (Start → Feeds → Type 0) → CoreStands Own → Option (List ℕ) → Result Ending Cut → Type 0
  Ends desk pool stands told result =
      (ds : List Command) × (more : List Reply) × GoesOn desk0 desk ds more
      × ((before : Start) (feeds : Feeds) → Stock pool0 before added0 heads0 keys0 feeds
      → (now : Feeds) × pool before now × IsEarlier feeds now × IfFault result (HasFaulted now)
      × ((lists : FeedKey → List Item) (m : Meaning Own) (s0 : State Own) (b : Book) (cs : List Command) (rs : List Reply)
      → AreLists lists → AllFollow lists now → IsRight b (cs ++ ds) (rs ++ more)
      → Knows m lists coarse (stands0 m) desk0 added0 feeds heads0 first s0 b cs rs
      → AreCalm lists (pos first) heads0 (m.active s0.own)
      → AllMeet (meets m) m lists first last s0
      → IsEnd m lists first last s0 coarse now (stands m) (after b (cs ++ ds)) told0 told result × EndsBy m lists first last s0 coarse now (ended_as result)))

  -- what a moment says
  abbrev pub SaysMoment : DeskStands → DeskStands → (Start → Feeds → Type 0) → (Start → Feeds → Type 0) → ℕ → ℕ → List Arrival → List Arrival → List FeedKey → List FeedKey → CoreStands Own → CoreStands Own → Moment → Option (List ℕ) → Option (List ℕ) → Result (Unit {0}) Cut → Type 0
  SaysMoment desk new_desk pool new_pool added new_added heads new keys new_keys stands new_stands at told told1 result =
      (ds : List Command) × (more : List Reply) × GoesOn desk new_desk ds more
      × ((before : Start) (feeds : Feeds) → Stock pool before added heads keys feeds
      → (now : Feeds) × new_pool before now × IsEarlier feeds now × IfReadFault result (HasFaulted now)
      × OnOk result (Stock new_pool before new_added new new_keys now)
      × ((lists : FeedKey → List Item) (m : Meaning Own) (t : ℕ) (s : State Own) (b : Book) (cs : List Command) (rs : List Reply)
      → AreLists lists → AllFollow lists now → IsRight b (cs ++ ds) (rs ++ more) → at.0 ≡ pos t
      → Knows m lists coarse (stands m) desk added feeds heads t s b cs rs
      → AreCalm lists (pos t) heads (m.active s.own)
      → meets m t (slice_at lists (pos t) (m.active s.own)) s
      → Moved m lists coarse (new_stands m) new_added now new t s (after b (cs ++ ds)) told told1 result))

  pub known-first : Known desk0 pool0 added0 heads0 keys0 stands0 first told0
  known-first = record {
    ds = [];
    more = [];
    goes = goes-none desk0;
    known = λ before feeds stock. record {
      now = feeds;
      stock = stock;
      earlier = earlier-same feeds;
      comes = λ lists m s0 b cs rs are follow right knows calm met. record {
        state = s0;
        bytes = [];
        ran = start-run m lists first s0;
        knows = record {
          core_is = knows.core_is;
          desk_is = goes-none desk0 b cs rs knows.desk_is;
          book = knows.book ∙ ap (after b) (sym (append-nil cs));
          added_is = knows.added_is;
          at = knows.at;
        };
        calm = calm;
        wrote = IsTaken-nothing told0;
        passed = λ t lo hi. absurd (omega (arith, lo, hi));
      };
    };
  }

  module _ (desk : DeskStands) (pool : Start → Feeds → Type 0) (added : ℕ) (heads : List Arrival) (keys : List FeedKey) (stands : CoreStands Own) (at : ℕ) (told : Option (List ℕ)) (low : first ≤ at) (high : at ≤ last) where
    inner : (b : Book) (cs ds es : List Command) (rs more others : List Reply) → IsRight b (cs ++ (ds ++ es)) (rs ++ (more ++ others)) → IsRight b ((cs ++ ds) ++ es) ((rs ++ more) ++ others)
    inner b cs ds es rs more others right =
        subst (λ xs. IsRight b xs ((rs ++ more) ++ others)) (sym (append_assoc cs ds es)) (subst (λ xs. IsRight b (cs ++ (ds ++ es)) xs) (sym (append_assoc rs more others)) right)

    -- a moment was gone through
    pub known-came : (k : Known desk pool added heads keys stands at told) (new_desk : DeskStands) (new_pool : Start → Feeds → Type 0) (new_added : ℕ) (new : List Arrival) (new_keys : List FeedKey) (new_stands : CoreStands Own) (moment : Moment) (told1 : Option (List ℕ))
        → moment.0 ≡ pos at → SaysMoment desk new_desk pool new_pool added new_added heads new keys new_keys stands new_stands moment told told1 (Ok tt)
        → KnownBehind new_desk new_pool new_added new new_keys new_stands at told1
    known-came k new_desk new_pool new_added new new_keys new_stands moment told1 is (es, others, goes, says) = record {
      ds = k.ds ++ es;
      more = k.more ++ others;
      goes = goes-more desk0 desk new_desk k.ds es k.more others k.goes goes;
      known = λ before feeds stock.
          (let o = k.known before feeds stock in
          let (now, stand, earlier, nothing, stock1, moved) = says before o.now o.stock in
          record {
            now = now;
            stock = stock1;
            earlier = earlier-then feeds o.now now o.earlier earlier;
            comes = λ lists m s0 b cs rs are follow right knows calm met.
                (let r = inner b cs k.ds es rs k.more others right in
                let c = o.comes lists m s0 b cs rs are (earlier.0 lists follow) (right-before b (cs ++ k.ds) es (rs ++ k.more) others r) knows calm met in
                let g = moved lists m at c.state b (cs ++ k.ds) (rs ++ k.more) are follow r is c.knows c.calm (meets-at m lists coarse first last s0 (meets m) met at c.bytes c.state low high c.ran) in
                let done = came m lists coarse first last s0 (stands m) (new_stands m) desk new_desk added new_added o.now now heads new at b (cs ++ k.ds) es (rs ++ k.more) others told0 told told1 low high earlier.1 c
                (goes b (cs ++ k.ds) (rs ++ k.more) c.knows.desk_is) g in
                subst (λ xs. CameAt new_desk new_added new new_stands at told1 now lists m s0 b xs (rs ++ (k.more ++ others))) (append_assoc cs k.ds es)
                (subst (λ xs. CameAt new_desk new_added new new_stands at told1 now lists m s0 b ((cs ++ k.ds) ++ es) xs) (append_assoc rs k.more others) done));
          });
    }

    -- it was cut short
    pub ends-cut : (k : Known desk pool added heads keys stands at told) (new_desk : DeskStands) (new_pool : Start → Feeds → Type 0) (new_added : ℕ) (new : List Arrival) (new_keys : List FeedKey) (new_stands : CoreStands Own) (moment : Moment) (told1 : Option (List ℕ)) (c : Cut)
        → moment.0 ≡ pos at → SaysMoment desk new_desk pool new_pool added new_added heads new keys new_keys stands new_stands moment told told1 (Err c)
        → Ends new_desk new_pool new_stands told1 (Err c)
    ends-cut k new_desk new_pool new_added new new_keys new_stands moment told1 c is (es, others, goes, says) = (
      k.ds ++ es,
      k.more ++ others,
      goes-more desk0 desk new_desk k.ds es k.more others k.goes goes,
      λ before feeds stock.
          (let o = k.known before feeds stock in
          let (now, stand, earlier, fault, nothing, moved) = says before o.now o.stock in (
            now,
            stand,
            earlier-then feeds o.now now o.earlier earlier,
            fault-of c (HasFaulted now) fault,
            λ lists m s0 b cs rs are follow right knows calm met.
                (let r = inner b cs k.ds es rs k.more others right in
                let w = o.comes lists m s0 b cs rs are (earlier.0 lists follow) (right-before b (cs ++ k.ds) es (rs ++ k.more) others r) knows calm met in
                let g = moved lists m at w.state b (cs ++ k.ds) (rs ++ k.more) are follow r is w.knows w.calm (meets-at m lists coarse first last s0 (meets m) met at w.bytes w.state low high w.ran) in (
                  subst (λ xs. IsEnd m lists first last s0 coarse now (new_stands m) (after b xs) told0 told1 (Err c)) (append_assoc cs k.ds es)
                      (cut-short m lists coarse first last s0 (stands m) (new_stands m) desk added new_added o.now now heads new at b (cs ++ k.ds) (rs ++ k.more) (after b ((cs ++ k.ds) ++ es)) told0 told told1 c low high w g),
                  exact-cut m lists coarse first last s0 (stands m) (new_stands m) desk added new_added o.now now heads new at b (cs ++ k.ds) (rs ++ k.more) (after b ((cs ++ k.ds) ++ es)) told0 told told1 c low high earlier.1 w g,
                )),
          )),
    )
      where
        fault-of : (c : Cut) (P : Type 0) → IfReadFault (Err c) P → IfFault (Err c) P
        fault-of cut.NoMemory P h = tt
        fault-of cut.WriteFault P h = tt
        fault-of cut.ReadFault P h = h
        fault-of (cut.Limited limit) P h = tt

    module _ (idle : (m : Meaning Own) (s : State Own) (t : ℕ) → stands m s [] → meets m t [] s → m.is_close t ≡ false → moment_of m t [] s ≡ rests s)
        (k : KnownBehind desk pool added heads keys stands at told) where
      abbrev Closes : ℕ → Type 0
      Closes until = (m : Meaning Own) (s : State Own) → stands m s [] → NoClose m.is_close at until

      pub known-next : (next : ℕ) → at < next → next ≤ last → find (λ (a : Arrival). stops a.item) heads ≡ None → (AllFrom (at + 1) heads → AllFrom next heads) → Closes next
          → Known desk pool added heads keys stands next told
      known-next next past within none from closes = record {
        ds = k.ds;
        more = k.more;
        goes = k.goes;
        known = λ before feeds stock.
            (let o = k.known before feeds stock in
            record {
              now = o.now;
              stock = o.stock;
              earlier = o.earlier;
              comes = λ lists m s0 b cs rs are follow right knows calm met.
                  comes-next m lists coarse first last s0 are (stands m) (meets m) met desk added o.now heads at b (cs ++ k.ds) (rs ++ k.more) told0 told low high follow (idle m)
                  (o.comes lists m s0 b cs rs are follow right knows calm met) next past within none from (closes m (o.comes lists m s0 b cs rs are follow right knows calm met).state);
            });
      }

      pub known-whole : find (λ (a : Arrival). stops a.item) heads ≡ None → (AllFrom (at + 1) heads → AllFrom (last + 1) heads) → Closes (last + 1)
          → Ends desk pool stands told (Ok Whole)
      known-whole none from closes = (
        k.ds,
        k.more,
        k.goes,
        λ before feeds stock.
            (let o = k.known before feeds stock in (
              o.now,
              o.stock.stand,
              o.earlier,
              tt,
              λ lists m s0 b cs rs are follow right knows calm met. (
                ends-whole m lists coarse first last s0 are (stands m) (meets m) met desk added o.now heads at b (cs ++ k.ds) (rs ++ k.more) told0 told low high follow (idle m)
                    (o.comes lists m s0 b cs rs are follow right knows calm met) none from (closes m (o.comes lists m s0 b cs rs are follow right knows calm met).state),
                exact-whole m lists coarse first last s0 are (stands m) (meets m) met desk added o.now heads at b (cs ++ k.ds) (rs ++ k.more) told0 told low high follow (idle m)
                    (o.comes lists m s0 b cs rs are follow right knows calm met) none from (closes m (o.comes lists m s0 b cs rs are follow right knows calm met).state),
              ),
            )),
      )

      faulted-head : (now : Feeds) (a : Arrival) → All (IsTakenOf now) heads → find (λ (a : Arrival). stops a.item) heads ≡ Some a → a.item ≡ item.Faulted → HasFaulted now
      faulted-head now a all found is =
          let (taken, there, has) = (head-found (IsTakenOf now) (λ (x : Arrival). stops x.item) heads a all found).0 in
          (a.feed.0, taken, there, subst (Contains taken.items) is has)

      pub known-stopped : (a : Arrival) (ending : Ending) → find (λ (a : Arrival). stops a.item) heads ≡ Some a → IsEnding keys a ending → Ends desk pool stands told (Ok ending)
      known-stopped a Whole found is = absurd is
      known-stopped a (Refused key bad) found (line, named) = (
        k.ds,
        k.more,
        k.goes,
        λ before feeds stock.
            (let o = k.known before feeds stock in (
              o.now,
              o.stock.stand,
              o.earlier,
              tt,
              λ lists m s0 b cs rs are follow right knows calm met. (
                ends-refused m lists coarse first last s0 are (stands m) (meets m) met desk added o.now heads at b (cs ++ k.ds) (rs ++ k.more) told0 told low high follow (idle m)
                    (o.comes lists m s0 b cs rs are follow right knows calm met) a key bad keys o.stock.keys_are found line named,
                (
                  bad,
                  exact-stopped m lists coarse first last s0 are (stands m) (meets m) met desk added o.now heads at b (cs ++ k.ds) (rs ++ k.more) told0 told low high follow (idle m)
                      (o.comes lists m s0 b cs rs are follow right knows calm met) a (item.Bad bad) found line,
                ),
              ),
            )),
      )
      known-stopped a Faulted found is = (
        k.ds,
        k.more,
        k.goes,
        λ before feeds stock.
            (let o = k.known before feeds stock in (
              o.now,
              o.stock.stand,
              o.earlier,
              faulted-head o.now a o.stock.taken found is,
              λ lists m s0 b cs rs are follow right knows calm met. (
                ends-faulted m lists coarse first last s0 are (stands m) (meets m) met desk added o.now heads at b (cs ++ k.ds) (rs ++ k.more) told0 told low high follow (idle m)
                    (o.comes lists m s0 b cs rs are follow right knows calm met) a found is,
                inl (exact-stopped m lists coarse first last s0 are (stands m) (meets m) met desk added o.now heads at b (cs ++ k.ds) (rs ++ k.more) told0 told low high follow (idle m)
                    (o.comes lists m s0 b cs rs are follow right knows calm met) a item.Faulted found is),
              ),
            )),
      )
