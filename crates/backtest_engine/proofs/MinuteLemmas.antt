-- One moment of a run: what was taken, played and written.
use Rattle.std.proofs.Common.{◌≡◌, ℕ, ◌+◌, ◌<◌, Bool, true, false, eqb, ℤ, pos, List, [], ◌∷◌, ◌++◌, length, Option, Some, None, option_map, refl, sym, ap, ◌∙◌, subst, inl, inr, arith, append-nil}
use Rattle.std.specs.Prelude.{not, ◌&&◌, slice_get, Result, Ok, Err, OnOk}
use Rattle.std.specs.List.{All, Contains, find}
use Rattle.std.proofs.lemmas.Bool.{true≢false, false≢true, and_parts}
use Rattle.std.proofs.lemmas.Bool.Decides.{eqb_tells}
use Rattle.std.proofs.lemmas.Int.{ints}
use Rattle.std.proofs.lemmas.Option.{none-some}
use Rattle.std.proofs.lemmas.List.Elements.{All-nil, All-cons, All-head, All-tail}
use Rattle.lean_fixed.specs.declared.time.Moment.{Moment}
use Rattle.lean_items.specs.declared.arrival.Arrival.{Arrival}
use Rattle.lean_items.specs.declared.feed_key.FeedKey.{FeedKey}
use Rattle.lean_items.specs.declared.feed_no.FeedNo.{FeedNo}
use Rattle.lean_items.specs.declared.item.Item.{Item}
use Rattle.lean_items.specs.declared.item.Item.TheVariants.{Bar, Coarse, Bad, Faulted, End}
use Rattle.lean_items.specs.Taken.{Start, Feeds, Taken, AllFollow, more}
use Rattle.clock_book.specs.Books.{Book}
use Rattle.clock_book.specs.Handled.{after}
use Rattle.frontier_sync.specs.Heads.{stops, AreRising}
use Rattle.frontier_sync.specs.Slices.{IsSliced, slice_of, taken_all, MovesOn}
use Rattle.frontier_sync.specs.Stands.{IsTaken as IsTakenOf}
use Rattle.frontier_sync.proofs.StandLemmas.{head-found, all-taken}
use Rattle.report_pages.specs.Printed.{IsTaken, IsFront}
use Rattle.report_pages.proofs.PrintedLemmas.{IsTaken-nothing}
use Rattle.backtest_engine.specs.declared.ending.Cut.{Cut}
use Rattle.backtest_engine.specs.declared.ending.Cut.TheVariants as cut
use Rattle.backtest_engine.specs.declared.limits.Stop.{Stop}
use Rattle.backtest_engine.specs.declared.limits.Stop.TheVariants as stop
use Rattle.backtest_engine.specs.Lists.{slice_at}
use Rattle.backtest_engine.specs.Meaning.{Meaning, State, Subscription, moment_of}
use Rattle.backtest_engine.specs.Turns.{IsEquity, subscription, numbered, without_all}
use Rattle.backtest_engine.specs.Played.{Plays, IsPlayed}
use Rattle.backtest_engine.specs.Stands.{AreLists, AreAt, AreCalm, MayStart, Stock, broken, is_faulted, CoarseFailed, HasFaulted}
use Rattle.backtest_engine.specs.Gave.{AreSound, IsStop}
use Rattle.backtest_engine.specs.Opened.{AreNumbered, without_heads, Opened}
use Rattle.backtest_engine.specs.Moved.{moment_at, Moved, IfReadFault, Settled, Halted}
use Rattle.backtest_engine.proofs.GaveLemmas.{heads-sound, heads-stop}
use Rattle.backtest_engine.proofs.HeadLemmas.{all-step, slice-whole}
use Rattle.backtest_engine.proofs.FeedLemmas.{some-same, at-without_all, all-without}

-- ---- what was taken

pub numbered-next : (at : ℤ) (taken : ℕ → List Item) (count : ℕ) (heads after : List Arrival) → AreNumbered count heads → IsSliced at taken heads after → AreNumbered count after
numbered-next at taken count [] [] all sliced = All-nil (λ a. a.feed.0 < count)
numbered-next at taken count [] (b ∷ after) all sliced = absurd sliced
numbered-next at taken count (a ∷ heads) [] all sliced = absurd sliced
numbered-next at taken count (a ∷ heads) (b ∷ after) all ((same, refilled), sliced) =
    All-cons (λ x. x.feed.0 < count) b after
    (subst (λ (f : FeedNo). f.0 < count) (sym same) (All-head (λ x. x.feed.0 < count) a heads all))
    (numbered-next at taken count heads after (All-tail (λ x. x.feed.0 < count) a heads all) sliced)

pub stock-taken : (stands new_stands : Start → Feeds → Type 0) (before : Start) (added : ℕ) (heads after : List Arrival) (keys : List FeedKey) (feeds : Feeds) (t : ℤ) (taken : ℕ → List Item)
    → Stock stands before added heads keys feeds → MovesOn stands new_stands taken → IsSliced t taken heads after → Stock new_stands before added after keys (taken_all feeds taken)
stock-taken stands new_stands before added heads after keys feeds t taken stock moves sliced = record {
  stand = moves before feeds stock.stand;
  taken = all-taken t feeds taken heads after stock.taken sliced;
  keys_are = λ n tk at. by n tk (feeds n) refl at;
  beyond = λ k low. ap (option_map (more (taken k))) (stock.beyond k low);
}
  where
    by : (n : ℕ) (tk : Taken) (o : Option Taken) → feeds n ≡ o → option_map (more (taken n)) o ≡ Some tk → slice_get keys n ≡ Some tk.key
    by n tk None e h = absurd (none-some tk h)
    by n tk (Some t0) e h = stock.keys_are n t0 e ∙ ap (λ (x : Taken). Some x.key) (some-same (more (taken n) t0) tk h)

pub stock-without : (stands new_stands : Start → Feeds → Type 0) (before : Start) (added new_added : ℕ) (heads new : List Arrival) (keys : List FeedKey) (feeds : Feeds) (removed : List FeedNo)
    → Stock stands before added heads keys feeds → new_added ≡ added → new ≡ without_heads heads removed → ((b : Start) (f : Feeds) → stands b f → new_stands b f)
    → Stock new_stands before new_added new keys feeds
stock-without stands new_stands before added new_added heads new keys feeds removed stock same is keeps = record {
  stand = keeps before feeds stock.stand;
  taken = subst (λ hs. All (IsTakenOf feeds) hs) (sym is) (all-without (IsTakenOf feeds) heads removed stock.taken);
  keys_are = stock.keys_are;
  beyond = λ k low. stock.beyond k (omega (arith, low, same));
}

-- ---- the coarse feed has failed

faulted-is : (x : Item) → is_faulted x ≡ true → x ≡ Faulted
faulted-is (Bar bar) h = absurd (false≢true h)
faulted-is (Coarse at row) h = absurd (false≢true h)
faulted-is (Bad bad) h = absurd (false≢true h)
faulted-is Faulted h = refl
faulted-is End h = absurd (false≢true h)

pub broken-failed : (coarse : Bool) (heads : List Arrival) (feeds : Feeds) → All (IsTakenOf feeds) heads → broken coarse (find (λ (a : Arrival). stops a.item) heads) ≡ true → CoarseFailed coarse feeds
broken-failed coarse heads feeds all h = by (find (λ (a : Arrival). stops a.item) heads) refl h
  where
    by : (o : Option Arrival) → find (λ (a : Arrival). stops a.item) heads ≡ o → broken coarse o ≡ true → CoarseFailed coarse feeds
    by None e h = absurd (false≢true h)
    by (Some a) e h =
        let (has, rest) = and_parts coarse ((eqb a.feed.0 0) && is_faulted a.item) h in
        let (zero, failed) = and_parts (eqb a.feed.0 0) (is_faulted a.item) rest in
        let number : a.feed.0 ≡ 0 = elim (eqb_tells a.feed.0 0) [ inl h ↦ h.1 | inr h ↦ absurd (true≢false (sym zero ∙ h.0)) ] in
        let (taken, at, contains) = (head-found (IsTakenOf feeds) (λ (x : Arrival). stops x.item) heads a all e).0 in
        (has, taken, ap feeds (sym number) ∙ at, subst (Contains taken.items) (faulted-is a.item failed) contains)

-- the first head that stops is a failed read
pub broken-stop : (coarse : Bool) (t : ℤ) (feeds : Feeds) (heads : List Arrival) (active : List Subscription) → AreAt coarse t feeds heads active → broken coarse (find (λ (a : Arrival). stops a.item) heads) ≡ true
    → IsStop feeds t active Faulted
broken-stop coarse t feeds heads active at h = by (find (λ (a : Arrival). stops a.item) heads) refl h
  where
    by : (o : Option Arrival) → find (λ (a : Arrival). stops a.item) heads ≡ o → broken coarse o ≡ true → IsStop feeds t active Faulted
    by None e h = absurd (false≢true h)
    by (Some a) e h =
        let (has, rest) = and_parts coarse ((eqb a.feed.0 0) && is_faulted a.item) h in
        let (zero, failed) = and_parts (eqb a.feed.0 0) (is_faulted a.item) rest in
        subst (λ x. IsStop feeds t active x) (faulted-is a.item failed) (heads-stop coarse t feeds heads active a at e)

pub not-false : (b : Bool) → true ≡ not b → b ≡ false
not-false true h = absurd (true≢false h)
not-false false h = refl

pub not-true : (b : Bool) → false ≡ not b → b ≡ true
not-true true h = refl
not-true false h = absurd (false≢true h)

pub faulted-of : (coarse : Bool) (feeds : Feeds) → CoarseFailed coarse feeds → HasFaulted feeds
faulted-of coarse feeds (has, taken, at, contains) = (0, taken, at, contains)

-- ---- what was written

pub front-nothing : (told : Option (List ℕ)) (bytes : List ℕ) → IsFront told told bytes
front-nothing told bytes = record { written = []; left = bytes; taken = IsTaken-nothing told; whole = refl }

pub front-whole : (told0 told : Option (List ℕ)) (bytes : List ℕ) → IsTaken told0 told bytes → IsFront told0 told bytes
front-whole told0 told bytes h = record { written = bytes; left = []; taken = h; whole = sym (append-nil bytes) }

pub settled-fault : (P : Type 0) (text : List ℕ) (told0 told : Option (List ℕ)) (r : Result (Unit {0}) Cut) → Settled text told0 told r → IfReadFault r P
settled-fault P text told0 told (Ok x) h = tt
settled-fault P text told0 told (Err cut.NoMemory) h = tt
settled-fault P text told0 told (Err cut.WriteFault) h = tt
settled-fault P text told0 told (Err cut.ReadFault) h = absurd h
settled-fault P text told0 told (Err (cut.Limited limit)) h = tt

pub halted-fault : (P : Type 0) (text : List ℕ) (why : Stop) (told0 told : Option (List ℕ)) (c : Cut) → Halted text why told0 told c → IfReadFault (Err c) P
halted-fault P text why told0 told cut.NoMemory h = tt
halted-fault P text why told0 told cut.WriteFault h = tt
halted-fault P text (stop.Limited limit) told0 told cut.ReadFault h = absurd h
halted-fault P text stop.NoMemory told0 told cut.ReadFault h = absurd h
halted-fault P text why told0 told (cut.Limited limit) h = tt

pub on-ok-map : {A E : Type 0} (P Q : Type 0) (r : Result A E) → (P → Q) → OnOk r P → OnOk r Q
on-ok-map P Q (Ok x) f h = f h
on-ok-map P Q (Err e) f h = tt

-- ---- the lists

may-numbered : (coarse : Bool) (t n : ℕ) (ks : List FeedKey) → All (λ key. (key.start.0 ≡ pos t) × IsEquity key.kind) ks → All (MayStart coarse (pos (t + 1))) (numbered n ks)
may-numbered coarse t n [] all = All-nil (MayStart coarse (pos (t + 1)))
may-numbered coarse t n (key ∷ ks) all =
    let P : FeedKey → Type 0 = λ key. (key.start.0 ≡ pos t) × IsEquity key.kind in
    let (start, kind) = All-head P key ks all in
    All-cons (MayStart coarse (pos (t + 1))) (subscription n key) (numbered (n + 1) ks) (record { from = omega (arith, ints, start); kind = inl kind })
    (may-numbered coarse t (n + 1) ks (All-tail P key ks all))

-- what was taken at a moment is its slice
pub slice-step : (lists : FeedKey → List Item) (are : AreLists lists) (coarse : Bool) (at : Moment) (t : ℕ) (feeds : Feeds) (taken : ℕ → List Item) (heads after slice : List Arrival) (active : List Subscription)
    → at.0 ≡ pos t → AllFollow lists (taken_all feeds taken) → AreAt coarse (pos t) feeds heads active → AreCalm lists (pos t) heads active
    → IsSliced at.0 taken heads after → AreRising after → broken coarse (find (λ (a : Arrival). stops a.item) after) ≡ false → slice ≡ slice_of at.0 taken heads
    → AreAt coarse (pos (t + 1)) (taken_all feeds taken) after active × (slice ≡ slice_at lists (pos t) active) × AreSound (taken_all feeds taken) (pos (t + 1)) active
slice-step lists are coarse at t feeds taken heads after slice active is follow stand calm sliced rising sound slice_is =
    let by : IsSliced (pos t) taken heads after = subst (λ z. IsSliced z taken heads after) is sliced in
    let whole = slice-whole lists are coarse (pos t) feeds taken heads after active stand by rising sound in
    let step = all-step lists are coarse (pos t) feeds taken heads after active follow stand calm by whole in
    (step.0, slice_is ∙ ap (λ z. slice_of z taken heads) is ∙ step.1, heads-sound coarse (pos (t + 1)) (taken_all feeds taken) after active step.0 whole)

module _ {Own : Type 0} (m : Meaning Own) (lists : FeedKey → List Item) (coarse : Bool) where
  pub halted-moved : (stands : State Own → List FeedKey → Type 0) (text : List ℕ) (added : ℕ) (now : Feeds) (heads slice : List Arrival) (t : ℕ) (s : State Own) (book : Book) (told0 told : Option (List ℕ)) (why : Stop) (c : Cut)
      → slice ≡ slice_at lists (pos t) (m.active s.own) → IsPlayed m stands text t slice s book (Err why) → Halted text why told0 told c
      → AreSound now (pos (t + 1)) (m.active s.own) → Moved m lists coarse stands added now heads t s book told0 told (Err c)
  halted-moved stands text added now heads slice t s book told0 told why c slice_is played halted sound =
      by why c (subst (λ xs. IsPlayed m stands text t xs s book (Err why)) slice_is played) halted
    where
      by : (why : Stop) (c : Cut) → IsPlayed m stands text t (slice_at lists (pos t) (m.active s.own)) s book (Err why) → Halted text why told0 told c
          → Moved m lists coarse stands added now heads t s book told0 told (Err c)
      by (stop.Limited limit) (cut.Limited met) (stopped, text_is) (same, wrote) = (stopped ∙ ap Some (sym same), subst (λ xs. IsTaken told0 told xs) text_is wrote, sound)
      by (stop.Limited limit) cut.WriteFault (stopped, text_is) front = subst (λ xs. IsFront told0 told xs) text_is front
      by (stop.Limited limit) cut.NoMemory p h = absurd h
      by (stop.Limited limit) cut.ReadFault p h = absurd h
      by stop.NoMemory cut.NoMemory p same = subst (λ z. IsFront told0 z (moment_at m lists coarse t s).lines) (sym same) (front-nothing told0 (moment_at m lists coarse t s).lines)
      by stop.NoMemory cut.WriteFault p h = absurd h
      by stop.NoMemory cut.ReadFault p h = absurd h
      by stop.NoMemory (cut.Limited met) p h = absurd h

  pub settled-moved : (stands0 stands : State Own → List FeedKey → Type 0) (pool : Start → Feeds → Type 0) (before : Start) (text : List ℕ) (added0 added : ℕ) (mid now : Feeds) (after heads slice : List Arrival) (keys ks : List FeedKey) (removed : List FeedNo)
      (t : ℕ) (s : State Own) (book : Book) (told0 told : Option (List ℕ)) (r : Result (Unit {0}) Cut)
      → AreLists lists → AllFollow lists now → slice ≡ slice_at lists (pos t) (m.active s.own) → m.added s.own ≡ added0
      → AreAt coarse (pos (t + 1)) mid after (m.active s.own)
      → Plays m stands0 text t s.own (moment_of m t slice s) book ks removed → Settled text told0 told r
      → OnOk r (Opened pool before added0 added mid now (without_heads after removed) heads keys ks)
      → OnOk r (added ≡ added0 + length ks)
      → OnOk r ((z : State Own) → stands0 z ks → added0 + length ks ≡ m.added z.own → stands z [])
      → AreSound now (pos (t + 1)) (m.active s.own)
      → Moved m lists coarse stands added now heads t s book told0 told r
  settled-moved stands0 stands pool before text added0 added mid now after heads slice keys ks removed t s book told0 told r are follow slice_is added_is at played settled opened more named sound =
      by r (subst (λ xs. Plays m stands0 text t s.own (moment_of m t xs s) book ks removed) slice_is played) settled opened more named
    where
      by : (r : Result (Unit {0}) Cut) → Plays m stands0 text t s.own (moment_at m lists coarse t s) book ks removed → Settled text told0 told r
          → OnOk r (Opened pool before added0 added mid now (without_heads after removed) heads keys ks)
          → OnOk r (added ≡ added0 + length ks)
          → OnOk r ((z : State Own) → stands0 z ks → added0 + length ks ≡ m.added z.own → stands z [])
          → Moved m lists coarse stands added now heads t s book told0 told r
      by (Ok x) p wrote o more named =
          let count : m.added (moment_at m lists coarse t s).state.own ≡ added0 + length ks = p.added_is ∙ ap (λ n. n + length ks) added_is in
          let gone = at-without_all coarse (pos (t + 1)) mid after (m.active s.own) removed at in
          let stands_at = o.at lists coarse (pos (t + 1)) (without_all (m.active s.own) removed) are follow (may-numbered coarse t added0 ks p.starts) gone in
          record {
            stop = p.stop;
            core_is = named (moment_at m lists coarse t s).state p.stand (sym count);
            book_is = p.book_is;
            added_is = count ∙ sym more;
            at = subst (λ xs. AreAt coarse (pos (t + 1)) now heads xs) (ap (λ n. without_all (m.active s.own) removed ++ numbered n ks) (sym added_is) ∙ sym p.active) stands_at;
            wrote = subst (λ xs. IsTaken told0 told xs) p.text_is wrote;
            sound = sound;
          }
      by (Err cut.NoMemory) p wrote o more named = front-whole told0 told (moment_at m lists coarse t s).lines (subst (λ xs. IsTaken told0 told xs) p.text_is wrote)
      by (Err cut.WriteFault) p front o more named = subst (λ xs. IsFront told0 told xs) p.text_is front
      by (Err cut.ReadFault) p h o more named = absurd h
      by (Err (cut.Limited limit)) p h o more named = absurd h
