-- The first heads of a run, and what is written behind its last moment.
use Rattle.std.proofs.Common.{◌≡◌, ℕ, ◌<◌, ◌≤◌, Bool, true, false, ℤ, pos, ◌≤ℤ◌, ◌<ℤ◌, List, [], ◌∷◌, ◌++◌, length, Option, Some, refl, sym, ap, ◌∙◌, subst, inl, inr, arith}
use Rattle.std.specs.Prelude.{◌&&◌, ◌==◌, int_lt, find, Result, Ok, Err, OnOk}
use Rattle.std.specs.List.{All, AllZip}
use Rattle.std.specs.Ordering.{int_eq}
use Rattle.std.proofs.lemmas.Bool.{cases_Bool, true≢false, and_parts}
use Rattle.std.proofs.lemmas.Bool.Decides.{Decides-int_eq}
use Rattle.std.proofs.lemmas.Int.{ints}
use Rattle.std.proofs.lemmas.Option.{none-some}
use Rattle.std.proofs.lemmas.List.Elements.{All-nil, All-head, All-tail, All-weaker}
use Rattle.lean_fixed.specs.Calendar.{last_day}
use Rattle.lean_items.specs.declared.arrival.Arrival.{Arrival}
use Rattle.lean_items.specs.declared.bad.Bad.{Bad as BadLine}
use Rattle.lean_items.specs.declared.feed_key.FeedKey.{FeedKey}
use Rattle.lean_items.specs.declared.item.Item.{Item}
use Rattle.lean_items.specs.declared.item.Item.TheVariants.{Bar, Coarse, Bad, Faulted, End}
use Rattle.lean_items.specs.Fits.{is_bar_in_range, is_row_in_range}
use Rattle.lean_items.specs.Taken.{Start, Feeds, AllFollow, no_feeds}
use Rattle.clock_book.specs.Books.{Book}
use Rattle.order_desk.proofs.ReplyLemmas.{after-none}
use Rattle.frontier_sync.specs.Heads.{stops, fits_first, AreRising}
use Rattle.frontier_sync.specs.Slices.{ends_at}
use Rattle.frontier_sync.specs.Stands.{IsTaken as IsTakenOf}
use Rattle.frontier_sync.proofs.PlaceLemmas.{kept-none}
use Rattle.report_pages.specs.Printed.{IsTaken, IsFront}
use Rattle.report_pages.specs.Lines.{data_line}
use Rattle.report_pages.proofs.PrintedLemmas.{IsTaken-nothing, IsTaken-append}
use Rattle.backtest_engine.specs.declared.ended.Ended.{Ended}
use Rattle.backtest_engine.specs.declared.ended.Ended.TheVariants as ended
use Rattle.backtest_engine.specs.declared.ending.Cut.{Cut}
use Rattle.backtest_engine.specs.declared.ending.Cut.TheVariants as cut
use Rattle.backtest_engine.specs.declared.ending.Ending.{Ending}
use Rattle.backtest_engine.specs.declared.ending.Ending.TheVariants as ending
use Rattle.backtest_engine.specs.declared.limits.Limit.{Limit}
use Rattle.backtest_engine.specs.Meaning.{Meaning, State, Subscription}
use Rattle.backtest_engine.specs.Turns.{numbered}
use Rattle.backtest_engine.specs.Reports.{limit_line, last_text, report_of, whole}
use Rattle.backtest_engine.specs.Phased.{DeskStands}
use Rattle.backtest_engine.specs.Stands.{AreLists, AreAt, AreCalm, MayStart, Stock, broken, is_faulted}
use Rattle.backtest_engine.specs.Gave.{AreSound}
use Rattle.backtest_engine.specs.Exact.{ended_as, EndsAs, EndsBy, Starts, IsExact}
use Rattle.backtest_engine.specs.Opened.{Opened}
use Rattle.backtest_engine.specs.Moved.{Knows}
use Rattle.backtest_engine.specs.Walked.{IsCut, IfFault, IsEnd}
use Rattle.backtest_engine.specs.Reported.{MayOpen, IsOpening, ended_by, IsFault, IfWhole, IsReported, IsReport}
use Rattle.backtest_engine.specs.Last.{IsWritten}
use Rattle.backtest_engine.proofs.GaveLemmas.{heads-sound}
use Rattle.backtest_engine.proofs.HeadLemmas.{IsWhole}
use Rattle.backtest_engine.proofs.WalkLemmas.{front-behind}
use Rattle.backtest_engine.proofs.KnownLemmas.{nothing-ran}

-- ---- the first heads

pub stock-none : (stands : Start → Feeds → Type 0) (before : Start) (added : ℕ) (heads : List Arrival) (keys : List FeedKey) → heads ≡ [] → stands before no_feeds → Stock stands before added heads keys no_feeds
stock-none stands before added heads keys none stand = record {
  stand = stand;
  taken = subst (λ hs. All (IsTakenOf no_feeds) hs) (sym none) (All-nil (IsTakenOf no_feeds));
  keys_are = λ n taken at. absurd (none-some taken at);
  beyond = λ k low. refl;
}

module _ (lists : FeedKey → List Item) (coarse : Bool) where
  past-whole : (t : ℤ) (feeds : Feeds) (heads : List Arrival) (active : List Subscription) → AreAt coarse t feeds heads active → All (λ a. 0 < a.feed.0) heads → AllZip IsWhole heads active
  past-whole t feeds [] [] at past = tt
  past-whole t feeds [] (f ∷ active) at past = absurd at
  past-whole t feeds (a ∷ heads) [] at past = absurd at
  past-whole t feeds (a ∷ heads) (f ∷ active) (i, at) past =
      let low : 0 < a.feed.0 = All-head (λ x. 0 < x.feed.0) a heads past in
      let number : a.feed.0 ≡ f.feed = i.number in (
        elim i.kind [ inl h ↦ inr h | inr h ↦ (let zero = h.0 in absurd (omega (arith, low, number, zero))) ],
        past-whole t feeds heads active at (All-tail (λ x. 0 < x.feed.0) a heads past),
      )

  pub heads-whole : (t : ℤ) (feeds : Feeds) (heads : List Arrival) (active : List Subscription) → AreAt coarse t feeds heads active → AreRising heads
      → broken coarse (find (λ (a : Arrival). stops a.item) heads) ≡ false → AllZip IsWhole heads active
  heads-whole t feeds [] [] at rising sound = tt
  heads-whole t feeds [] (f ∷ active) at rising sound = absurd at
  heads-whole t feeds (a ∷ heads) [] at rising sound = absurd at
  heads-whole t feeds (a ∷ heads) (f ∷ active) (i, at) (low, rising) sound =
      let kind : IsWhole a f = elim i.kind [ inl h ↦ inr h | inr h ↦ inl (λ is. refute is (i.number ∙ h.0) h.1) ] in
      (kind, past-whole t feeds heads active at (All-weaker (λ x. a.feed.0 < x.feed.0) (λ x. 0 < x.feed.0) (λ x h. omega (arith, h)) heads low))
    where
      refute : a.item ≡ Faulted → a.feed.0 ≡ 0 → coarse ≡ true → ⊥
      refute is zero has =
          let stop : stops a.item ≡ true = ap stops is in
          let found : find (λ (x : Arrival). stops x.item) (a ∷ heads) ≡ Some a = rw stop refl in
          let bad : broken coarse (find (λ (x : Arrival). stops x.item) (a ∷ heads)) ≡ true
          = ap (broken coarse) found ∙ ap (λ c. c && ((a.feed.0 == 0) && is_faulted a.item)) has ∙ ap (λ x. (x == 0) && is_faulted a.item) zero ∙ ap is_faulted is in
          true≢false (sym bad ∙ sound)

  pub opening-sound : (t : ℤ) (feeds : Feeds) (heads : List Arrival) (active : List Subscription) → AreAt coarse t feeds heads active → AreRising heads
      → broken coarse (find (λ (a : Arrival). stops a.item) heads) ≡ false → AreSound feeds t active
  opening-sound t feeds heads active at rising sound =
      heads-sound coarse t feeds heads active at (heads-whole t feeds heads active at rising sound)

  -- nothing of a list ends at its feed's start or before it
  not-at : (t start : ℤ) (x : Item) → t ≤ℤ start → fits_first start x ≡ true → ends_at t x ≡ false
  not-at t start (Bar bar) le h = apart bar.end.0 (less start bar.end.0 (and_parts (int_lt start bar.end.0) (is_bar_in_range bar) h).0)
    where
      less : (s e : ℤ) → int_lt s e ≡ true → s <ℤ e
      less s e lt = grind (arith, ints)

      apart : (e : ℤ) → start <ℤ e → int_eq e t ≡ false
      apart e lt = elim (cases_Bool (int_eq e t)) [
        | inl same ↦ (let is : e ≡ t = (Decides-int_eq e t).0 same in absurd (omega (arith, ints, is, le, lt)))
        | inr other ↦ other
      ]
  not-at t start (Coarse at row) le h = apart at.0 (less start at.0 (and_parts (int_lt start at.0) (is_row_in_range at.0 row) h).0)
    where
      less : (s e : ℤ) → int_lt s e ≡ true → s <ℤ e
      less s e lt = grind (arith, ints)

      apart : (e : ℤ) → start <ℤ e → int_eq e t ≡ false
      apart e lt = elim (cases_Bool (int_eq e t)) [
        | inl same ↦ (let is : e ≡ t = (Decides-int_eq e t).0 same in absurd (omega (arith, ints, is, le, lt)))
        | inr other ↦ other
      ]
  not-at t start (Bad bad) le h = refl
  not-at t start Faulted le h = refl
  not-at t start End le h = refl

  calm-start : (are : AreLists lists) (first : ℕ) (heads : List Arrival) (active : List Subscription) → AllZip IsWhole heads active → All (MayOpen coarse first) active → AreCalm lists (pos first) heads active
  calm-start are first [] [] zip may = tt
  calm-start are first [] (f ∷ active) zip may = absurd zip
  calm-start are first (a ∷ heads) [] zip may = absurd zip
  calm-start are first (a ∷ heads) (f ∷ active) (kind, zip) may =
      let opens = All-head (MayOpen coarse first) f active may in (
        (λ is. elim kind [
          | inl sound ↦ absurd (sound is)
          | inr equity ↦
              kept-none (ends_at (pos first)) (lists f.key)
              (All-weaker (λ x. fits_first f.key.start.0 x ≡ true) (λ x. ends_at (pos first) x ≡ false) (λ x h. not-at (pos first) f.key.start.0 x (opens.late equity) h) (lists f.key) (are.first f.key))
        ]),
        calm-start are first heads active zip (All-tail (MayOpen coarse first) f active may),
      )

  -- the state with which a run begins
  module _ {Own : Type 0} (m : Meaning Own) (are : AreLists lists) (first : ℕ) (opening : List FeedKey) (s : State Own) (b : Book) (op : IsOpening m coarse first opening s b) where
    pub opening-at : (pool : Start → Feeds → Type 0) (before : Start) (added0 added : ℕ) (now : Feeds) (heads0 heads : List Arrival) (keys : List FeedKey) → added0 ≡ 0 → heads0 ≡ [] → AllFollow lists now
        → Opened pool before added0 added no_feeds now heads0 heads keys opening → AreAt coarse (pos first) now heads (m.active s.own)
    opening-at pool before added0 added now heads0 heads keys zero none follow opened =
        let may = All-weaker (MayOpen coarse first) (MayStart coarse (pos first)) (λ f h. h.start) (numbered 0 opening) op.may in
        subst (λ xs. AreAt coarse (pos first) now heads xs) (ap (λ n. numbered n opening) zero ∙ sym op.active)
        (opened.at lists coarse (pos first) [] are follow (subst (λ n. All (MayStart coarse (pos first)) (numbered n opening)) (sym zero) may)
        (subst (λ hs. AreAt coarse (pos first) no_feeds hs []) (sym none) tt))

    pub opening-calm : (now : Feeds) (heads : List Arrival) → AreAt coarse (pos first) now heads (m.active s.own) → AreRising heads → broken coarse (find (λ (a : Arrival). stops a.item) heads) ≡ false
        → AreCalm lists (pos first) heads (m.active s.own)
    opening-calm now heads at rising sound =
        calm-start are first heads (m.active s.own) (heads-whole (pos first) now heads (m.active s.own) at rising sound)
        (subst (λ xs. All (MayOpen coarse first) xs) (sym op.active) op.may)

    pub opening-knows : (stands : State Own → List FeedKey → Type 0) (desk : DeskStands) (added : ℕ) (now : Feeds) (heads : List Arrival) → stands s [] → desk b [] [] → added ≡ length opening
        → AreAt coarse (pos first) now heads (m.active s.own) → Knows m lists coarse stands desk added now heads first s b [] []
    opening-knows stands desk added now heads core desk_is count at = record {
      core_is = core;
      desk_is = desk_is;
      book = op.book ∙ sym (after-none b);
      added_is = op.added ∙ sym count;
      at = at;
    }

-- nothing was written before the first moment
pub cut-none : {Own : Type 0} (m : Meaning Own) (lists : FeedKey → List Item) (first last : ℕ) (s : State Own) (told : Option (List ℕ)) → IsCut m lists first last s told told
cut-none m lists first last s told = record {
  count = 0;
  small = omega arith;
  wrote = subst (λ r. IsTaken told told r.lines) (sym (nothing-ran m lists first s)) (IsTaken-nothing told);
}

-- ---- what was given decides how a run ends

module _ {Own : Type 0} (m : Meaning Own) (lists : FeedKey → List Item) (first last : ℕ) (s : State Own) (coarse : Bool) (now : Feeds) where
  pub exact-start : (e : Ended) → Starts m lists first last s coarse now → EndsBy m lists first last s coarse now e → IsExact m lists first last s coarse now e
  exact-start ended.Done starts ends = (starts, ends)
  exact-start ended.BadRow starts ends = (starts, ends)
  exact-start ended.ReadFault starts ends = inr (starts, ends)
  exact-start ended.WriteFault starts ends = tt
  exact-start ended.NoMemory starts ends = tt
  exact-start ended.Limit starts ends = (starts, ends)

  pub exact-end : (walked : Result Ending Cut) (e : Ended) → EndsAs walked e → IsExact m lists first last s coarse now (ended_as walked) → IsExact m lists first last s coarse now e
  exact-end walked e says exact = elim says [
    | inl same ↦ subst (λ z. IsExact m lists first last s coarse now z) (sym same) exact
    | inr other ↦
        elim other [
          | inl same ↦ subst (λ z. IsExact m lists first last s coarse now z) (sym same) tt
          | inr same ↦ subst (λ z. IsExact m lists first last s coarse now z) (sym same) tt
        ]
  ]

-- ---- what is written behind the last moment

module _ {Own : Type 0} (m : Meaning Own) (lists : FeedKey → List Item) (first last : ℕ) (s : State Own) (coarse : Bool) (now : Feeds) where
  written-report : (told0 mid told : Option (List ℕ)) (text : List ℕ) (want is : Ended) → IsTaken told0 mid (whole m lists first last s).lines
      → last_text m (whole m lists first last s).stop (whole m lists first last s).state ≡ text
      → (IsReported m lists first last s told0 told → IsReport m lists first last s coarse now told0 told want)
      → IsWritten mid told text want is → IsReport m lists first last s coarse now told0 told is
  written-report told0 mid told text want is wrote last_is whole_is (inl (same, taken)) =
      subst (λ e. IsReport m lists first last s coarse now told0 told e) (sym same)
      (whole_is (subst (λ t. IsTaken told0 told ((whole m lists first last s).lines ++ t)) (sym last_is) (IsTaken-append told0 mid told (whole m lists first last s).lines text wrote taken)))
  written-report told0 mid told text want is wrote last_is whole_is (inr (why, front)) =
      let f : IsFront told0 told (report_of m (whole m lists first last s))
      = subst (λ t. IsFront told0 told ((whole m lists first last s).lines ++ t)) (sym last_is) (front-behind told0 mid told (whole m lists first last s).lines text wrote front) in
      elim why [
        | inl same ↦ subst (λ e. IsReport m lists first last s coarse now told0 told e) (sym same) f
        | inr same ↦ subst (λ e. IsReport m lists first last s coarse now told0 told e) (sym same) f
      ]

  pub report-whole : (stands : State Own → List FeedKey → Type 0) (Kept : Book → Type 0) (b : Book) (told0 mid told : Option (List ℕ)) (walked : Result Ending Cut) (e : Ending) (is : Ended)
      → walked ≡ Ok e → e ≡ ending.Whole → IsEnd m lists first last s coarse now stands b told0 mid walked → IfWhole walked (Kept b)
      → ((z : State Own) → stands z [] → Kept z.book → IsWritten mid told (m.summary z) ended.Done is)
      → IsReport m lists first last s coarse now told0 told is
  report-whole stands Kept b told0 mid told walked e is walked_is e_is h kept says =
      let (stop, stand, book, wrote) = subst (λ w. IsEnd m lists first last s coarse now stands b told0 mid w) (walked_is ∙ ap Ok e_is) h in
      let k : Kept b = subst (λ w. IfWhole w (Kept b)) (walked_is ∙ ap Ok e_is) kept in
      let z = (whole m lists first last s).state in
      written-report told0 mid told (m.summary z) ended.Done is wrote (ap (λ o. last_text m o z) stop) (λ r. (sym (ap ended_by stop), r))
      (says z stand (subst Kept (sym book) k))

  pub report-refused : (stands : State Own → List FeedKey → Type 0) (b : Book) (told0 mid told : Option (List ℕ)) (walked : Result Ending Cut) (e : Ending) (key : FeedKey) (bad : BadLine) (is : Ended)
      → walked ≡ Ok e → e ≡ ending.Refused key bad → IsEnd m lists first last s coarse now stands b told0 mid walked
      → (bad.file ≤ last_day → IsWritten mid told (data_line key.kind bad) ended.BadRow is)
      → IsReport m lists first last s coarse now told0 told is
  report-refused stands b told0 mid told walked e key bad is walked_is e_is h says =
      let (stop, wrote, file) = subst (λ w. IsEnd m lists first last s coarse now stands b told0 mid w) (walked_is ∙ ap Ok e_is) h in
      let z = (whole m lists first last s).state in
      written-report told0 mid told (data_line key.kind bad) ended.BadRow is wrote (ap (λ o. last_text m o z) stop) (λ r. (sym (ap ended_by stop), r)) (says file)

  pub report-limited : (stands : State Own → List FeedKey → Type 0) (b : Book) (told0 mid told : Option (List ℕ)) (walked : Result Ending Cut) (c : Cut) (limit : Limit) (text : List ℕ) (is : Ended)
      → walked ≡ Err c → c ≡ cut.Limited limit → IsEnd m lists first last s coarse now stands b told0 mid walked → text ≡ limit_line limit
      → IsWritten mid told text ended.Limit is → IsReport m lists first last s coarse now told0 told is
  report-limited stands b told0 mid told walked c limit text is walked_is c_is h text_is says =
      let (stop, wrote) = subst (λ w. IsEnd m lists first last s coarse now stands b told0 mid w) (walked_is ∙ ap Err c_is) h in
      let z = (whole m lists first last s).state in
      written-report told0 mid told text ended.Limit is wrote (ap (λ o. last_text m o z) stop ∙ sym text_is) (λ r. (sym (ap ended_by stop), r)) says

pub if-whole : (P F : Type 0) (r : Result Ending Cut) → OnOk r F → (F → P) → IfWhole r P
if-whole P F (Ok ending.Whole) fed f = f fed
if-whole P F (Ok (ending.Refused key bad)) fed f = tt
if-whole P F (Ok ending.Faulted) fed f = tt
if-whole P F (Err c) fed f = tt

pub fault-has : (P : Type 0) (r : Result Ending Cut) → IsFault r → IfFault r P → P
fault-has P (Ok ending.Whole) is h = absurd is
fault-has P (Ok (ending.Refused key bad)) is h = absurd is
fault-has P (Ok ending.Faulted) is h = h
fault-has P (Err cut.NoMemory) is h = absurd is
fault-has P (Err cut.WriteFault) is h = absurd is
fault-has P (Err cut.ReadFault) is h = h
fault-has P (Err (cut.Limited limit)) is h = absurd is
