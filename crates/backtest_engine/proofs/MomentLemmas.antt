-- A moment of a strategy and a desk, one phase after another.
use Rattle.std.proofs.Common.{◌≡◌, ℕ, pos, List, [], ◌++◌, Some, None, refl, sym, ap, ◌∙◌, subst, append_assoc, append-nil}
use Rattle.std.specs.Prelude.{Result, Ok, Err}
use Rattle.lean_fixed.specs.declared.time.Moment.{Moment}
use Rattle.lean_items.specs.declared.arrival.Arrival.{Arrival}
use Rattle.lean_items.specs.declared.feed_key.FeedKey.{FeedKey}
use Rattle.lean_items.specs.declared.feed_no.FeedNo.{FeedNo}
use Rattle.lean_orders.specs.declared.desk.Command.{Command}
use Rattle.lean_orders.specs.declared.desk.Reply.{Reply}
use Rattle.clock_book.specs.Books.{Book}
use Rattle.clock_book.specs.Handled.{after}
use Rattle.clock_steps.specs.Runs.{Ran, behind, then_on}
use Rattle.clock_steps.proofs.RunLemmas.{behind-twice}
use Rattle.order_desk.specs.Served.{IsRight}
use Rattle.order_desk.proofs.ReplyLemmas.{right-before, after-append}
use Rattle.backtest_engine.specs.declared.changes.Changes.{Changes}
use Rattle.backtest_engine.specs.declared.limits.Limit.{Limit}
use Rattle.backtest_engine.specs.declared.limits.Stop.{Stop}
use Rattle.backtest_engine.specs.declared.limits.Stop.TheVariants.{NoMemory, Limited}
use Rattle.backtest_engine.specs.declared.phase.Phase.{Phase}
use Rattle.backtest_engine.specs.declared.phase.Phase.TheVariants.{Prices, Rules, Close}
use Rattle.backtest_engine.specs.Meaning.{Meaning, State, arrival_of, phase, close_of, behind_arrival, behind_prices, behind_rules, moment_of}
use Rattle.backtest_engine.specs.Turns.{Turn, HasNext, next_phase, turn_after, IsFinished, Arrives, Closes, Plays as PlaysTurns}
use Rattle.backtest_engine.specs.Phased.{DeskStands, GoesOn, Faces, Phased}
use Rattle.backtest_engine.specs.Played.{Plays, IsPlayed}
use Rattle.backtest_engine.proofs.PhaseLemmas.{goes-none, goes-more}

module _ {Own : Type 0} (m : Meaning Own) (t : ℕ) (slice : List Arrival) (s : State Own) where
  abbrev pub turn_at : Phase → State Own → List ℕ → Turn Own
  turn_at p now text = record { phase = p; at = t; slice = slice; began = s.own; state = now; text = text }

  -- what is left of a moment from a phase on
  abbrev pub rest_of : Phase → State Own → Ran (State Own) ℕ Limit
  rest_of Prices now = behind_arrival m t slice now
  rest_of Rules now = behind_prices m t slice now
  rest_of Close now = behind_rules m t slice now

  -- what is left behind a phase
  abbrev pub later_of : Phase → State Own → Ran (State Own) ℕ Limit
  later_of Prices now = behind_prices m t slice now
  later_of Rules now = behind_rules m t slice now
  later_of Close now = close_of m t slice now

  rest-is : (p : Phase) (now : State Own) → rest_of p now ≡ then_on (phase m p t slice now).lines (phase m p t slice now).state (phase m p t slice now).stop (later_of p)
  rest-is Prices now = refl
  rest-is Rules now = refl
  rest-is Close now = refl

  later-next : (p : Phase) (now : State Own) → HasNext p → later_of p now ≡ rest_of (next_phase p) now
  later-next Prices now h = refl
  later-next Rules now h = refl
  later-next Close now h = absurd h

  -- a moment as it stands before a phase
  pub record Stage (p : Phase) (desk : DeskStands) (plays : PlaysTurns m) (b : Book) (cs : List Command) (rs : List Reply) : Type 0 where
    pub now : State Own
    pub text : List ℕ
    pub faces : Faces m desk plays (turn_at p now text) b cs rs
    pub tail : moment_of m t slice s ≡ behind text (rest_of p now)

  pub tail-first : (arrival_of m t slice s).stop ≡ None → moment_of m t slice s ≡ behind (arrival_of m t slice s).lines (rest_of Prices (arrival_of m t slice s).state)
  unfolding moment_of
  tail-first e = ap (λ z. then_on (arrival_of m t slice s).lines (arrival_of m t slice s).state z (behind_arrival m t slice)) e

  pub first-limit : (limit : Limit) → (arrival_of m t slice s).stop ≡ Some limit
      → ((moment_of m t slice s).stop ≡ Some limit) × ((moment_of m t slice s).lines ≡ (arrival_of m t slice s).lines)
  unfolding moment_of
  first-limit limit e =
      let is = ap (λ z. then_on (arrival_of m t slice s).lines (arrival_of m t slice s).state z (behind_arrival m t slice)) e in
      (ap (λ (r : Ran (State Own) ℕ Limit). r.stop) is, ap (λ (r : Ran (State Own) ℕ Limit). r.lines) is)

  -- behind a phase that met no limit
  pub tail-later : (p : Phase) (now : State Own) (text : List ℕ) → moment_of m t slice s ≡ behind text (rest_of p now) → (phase m p t slice now).stop ≡ None
      → moment_of m t slice s ≡ behind (text ++ (phase m p t slice now).lines) (later_of p (phase m p t slice now).state)
  tail-later p now text tail e =
      let ran = phase m p t slice now in
      tail ∙ ap (behind text) (rest-is p now ∙ ap (λ z. then_on ran.lines ran.state z (later_of p)) e) ∙ behind-twice text ran.lines (later_of p ran.state)

  -- behind one that met a limit
  pub tail-limit : (p : Phase) (now : State Own) (text : List ℕ) (limit : Limit) → moment_of m t slice s ≡ behind text (rest_of p now) → (phase m p t slice now).stop ≡ Some limit
      → ((moment_of m t slice s).stop ≡ Some limit) × ((moment_of m t slice s).lines ≡ text ++ (phase m p t slice now).lines)
  tail-limit p now text limit tail e =
      let ran = phase m p t slice now in
      let is = tail ∙ ap (behind text) (rest-is p now ∙ ap (λ z. then_on ran.lines ran.state z (later_of p)) e) in
      (ap (λ (r : Ran (State Own) ℕ Limit). r.stop) is, ap (λ (r : Ran (State Own) ℕ Limit). r.lines) is)

  -- the slice arrived
  pub stage-first : (desk : DeskStands) (plays : PlaysTurns m) (text : List ℕ) (b : Book) (cs : List Command) (rs : List Reply) → desk b cs rs → s.book ≡ after b cs
      → Arrives m plays text t slice s (Ok tt) → Stage Prices desk plays b (cs ++ []) (rs ++ [])
  stage-first desk plays text b cs rs stands book (none, h) = record {
    now = (arrival_of m t slice s).state;
    text = (arrival_of m t slice s).lines;
    faces = record {
      stands = goes-none desk b cs rs stands;
      plays_it = h;
      book = book ∙ ap (after b) (sym (append-nil cs));
    };
    tail = tail-first none;
  }

  book-after : (p : Phase) (now : State Own) (text : List ℕ) (b : Book) (cs ds : List Command) (more : List Reply) → now.book ≡ after b cs → IsFinished m (turn_at p now text) ds more
      → (phase m p t slice now).state.book ≡ after b (cs ++ ds)
  book-after p now text b cs ds more book finished =
      ap (λ x. after x (m.ask p t slice now).commands) book ∙ ap (after (after b cs)) (sym finished.given) ∙ sym (after-append b cs ds)

  -- a phase was played
  pub stage-next : (p : Phase) (desk new : DeskStands) (plays after_plays : PlaysTurns m) (text : List ℕ) (b : Book) (cs ds : List Command) (rs more : List Reply) → HasNext p
      → ((turn : Turn Own) (cs : List Command) (rs : List Reply) → after_plays turn cs rs → IsFinished m turn cs rs → HasNext turn.phase → after_plays (turn_after m turn) [] [])
      → (g : Stage p desk plays b cs rs) → new b (cs ++ ds) (rs ++ more) → Phased m after_plays text (turn_at p g.now g.text) ds more (Ok tt)
      → Stage (next_phase p) new after_plays b (cs ++ ds) (rs ++ more)
  stage-next p desk new plays after_plays text b cs ds rs more has passes g stands (played, finished, none) =
      let ran = phase m p t slice g.now in
      record {
        now = ran.state;
        text = g.text ++ ran.lines;
        faces = record {
          stands = stands;
          plays_it = passes (turn_at p g.now g.text) ds more played finished has;
          book = book-after p g.now g.text b cs ds more g.faces.book finished;
        };
        tail = tail-later p g.now g.text g.tail none ∙ ap (behind (g.text ++ ran.lines)) (later-next p ran.state has);
      }

  -- a phase met a limit
  pub stage-limit : (p : Phase) (desk : DeskStands) (plays after_plays : PlaysTurns m) (stands : State Own → List FeedKey → Type 0) (text : List ℕ) (book b : Book) (cs ds : List Command) (rs more : List Reply) (stop : Stop)
      → (g : Stage p desk plays b cs rs) → Phased m after_plays text (turn_at p g.now g.text) ds more (Err stop) → IsPlayed m stands text t slice s book (Err stop)
  stage-limit p desk plays after_plays stands text book b cs ds rs more (Limited limit) g (text_is, e) =
      let (stop, lines) = tail-limit p g.now g.text limit g.tail e in
      (stop, text_is ∙ sym lines)
  stage-limit p desk plays after_plays stands text book b cs ds rs more NoMemory g h = tt

  pub arrival-limit : (plays : PlaysTurns m) (stands : State Own → List FeedKey → Type 0) (text : List ℕ) (book : Book) (stop : Stop)
      → Arrives m plays text t slice s (Err stop) → IsPlayed m stands text t slice s book (Err stop)
  arrival-limit plays stands text book (Limited limit) (e, text_is) =
      let (stop, lines) = first-limit limit e in
      (stop, text_is ∙ sym lines)
  arrival-limit plays stands text book NoMemory h = tt

  -- the moment was closed behind its last phase
  pub stage-closed : (desk : DeskStands) (plays after_plays : PlaysTurns m) (stands : State Own → List FeedKey → Type 0) (text0 text : List ℕ) (b : Book) (cs ds : List Command) (rs more : List Reply) (added : List FeedKey) (removed : List FeedNo)
      → (g : Stage Close desk plays b cs rs) → (p : Phased m after_plays text0 (turn_at Close g.now g.text) ds more (Ok tt))
      → Closes m stands text (turn_after m (turn_at Close g.now g.text)) added removed
      → Plays m stands text t s.own (moment_of m t slice s) (after b (cs ++ ds)) added removed
  stage-closed desk plays after_plays stands text0 text b cs ds rs more added removed g (played, finished, none) closes =
      let ran = phase m Close t slice g.now in
      let last = close_of m t slice ran.state in
      let is = tail-later Close g.now g.text g.tail none in
      subst (λ (r : Ran (State Own) ℕ Limit). Plays m stands text t s.own r (after b (cs ++ ds)) added removed) (sym is)
      (record {
        stop = refl;
        stand = closes.stand;
        text_is = closes.text_is;
        book_is = book-after Close g.now g.text b cs ds more g.faces.book finished;
        active = closes.active;
        added_is = closes.added_is;
        starts = closes.starts;
      })

-- ---- whatever the desk replies

module _ {Own : Type 0} (at : Moment) (slice : List Arrival) (start : DeskStands) (stands : (m : Meaning Own) → State Own → List FeedKey → Type 0) (meets : (m : Meaning Own) → ℕ → List Arrival → State Own → Type 0) where
  -- how far a moment has come
  pub record Through (p : Phase) (desk : DeskStands) (plays : (m : Meaning Own) → PlaysTurns m) : Type 0 where
    pub ds : List Command
    pub more : List Reply
    pub goes : GoesOn start desk ds more
    pub stage : (m : Meaning Own) (s : State Own) (t : ℕ) (b : Book) (cs : List Command) (rs : List Reply) → at.0 ≡ pos t → stands m s [] → meets m t slice s → start b cs rs → s.book ≡ after b cs
        → IsRight b (cs ++ ds) (rs ++ more) → Stage m t slice s p desk (plays m) b (cs ++ ds) (rs ++ more)

  right-inner : (b : Book) (cs ds es : List Command) (rs more others : List Reply) → IsRight b (cs ++ (ds ++ es)) (rs ++ (more ++ others)) → IsRight b ((cs ++ ds) ++ es) ((rs ++ more) ++ others)
  right-inner b cs ds es rs more others right =
      subst (λ xs. IsRight b xs ((rs ++ more) ++ others)) (sym (append_assoc cs ds es)) (subst (λ xs. IsRight b (cs ++ (ds ++ es)) xs) (sym (append_assoc rs more others)) right)

  pub through-first : (plays : (m : Meaning Own) → PlaysTurns m) (text : List ℕ)
      → ((m : Meaning Own) (s : State Own) (t : ℕ) → stands m s [] → meets m t slice s → at.0 ≡ pos t → Arrives m (plays m) text t slice s (Ok tt)) → Through Prices start plays
  through-first plays text arrives = record {
    ds = [];
    more = [];
    goes = goes-none start;
    stage = λ m s t b cs rs is core met desk book right. stage-first m t slice s start (plays m) text b cs rs desk book (arrives m s t core met is);
  }

  -- what a phase says
  abbrev pub SaysPhase : Phase → DeskStands → DeskStands → ((m : Meaning Own) → PlaysTurns m) → ((m : Meaning Own) → PlaysTurns m) → List ℕ → List Command → List Reply → Result (Unit {0}) Stop → Type 0
  SaysPhase p desk new plays after_plays text es others result =
      (m : Meaning Own) (turn : Turn Own) (b : Book) (cs : List Command) (rs : List Reply) → Faces m desk (plays m) turn b cs rs → turn.phase ≡ p
      → IsRight b (cs ++ es) (rs ++ others) → Phased m (after_plays m) text turn es others result

  pub through-next : (p : Phase) (desk new : DeskStands) (plays after_plays : (m : Meaning Own) → PlaysTurns m) (text : List ℕ) (es : List Command) (others : List Reply) → HasNext p
      → ((m : Meaning Own) (turn : Turn Own) (cs : List Command) (rs : List Reply) → after_plays m turn cs rs → IsFinished m turn cs rs → HasNext turn.phase → after_plays m (turn_after m turn) [] [])
      → Through p desk plays → GoesOn desk new es others → SaysPhase p desk new plays after_plays text es others (Ok tt) → Through (next_phase p) new after_plays
  through-next p desk new plays after_plays text es others has passes g goes says = record {
    ds = g.ds ++ es;
    more = g.more ++ others;
    goes = goes-more start desk new g.ds es g.more others g.goes goes;
    stage = λ m s t b cs rs is core met desk_is book right.
        (let inner = right-inner b cs g.ds es rs g.more others right in
        let st = g.stage m s t b cs rs is core met desk_is book (right-before b (cs ++ g.ds) es (rs ++ g.more) others inner) in
        let phased = says m (turn_at m t slice s p st.now st.text) b (cs ++ g.ds) (rs ++ g.more) st.faces refl inner in
        let next = stage-next m t slice s p desk new (plays m) (after_plays m) text b (cs ++ g.ds) es (rs ++ g.more) others has (passes m) st (goes b (cs ++ g.ds) (rs ++ g.more) st.faces.stands) phased in
        subst (λ xs. Stage m t slice s (next_phase p) new (after_plays m) b xs (rs ++ (g.more ++ others))) (append_assoc cs g.ds es)
        (subst (λ xs. Stage m t slice s (next_phase p) new (after_plays m) b ((cs ++ g.ds) ++ es) xs) (append_assoc rs g.more others) next));
  }

  -- the slice has arrived
  abbrev pub ArrivesSo : ((m : Meaning Own) → PlaysTurns m) → List ℕ → Type 0
  ArrivesSo plays text = (m : Meaning Own) (s : State Own) (t : ℕ) → stands m s [] → meets m t slice s → at.0 ≡ pos t → Arrives m (plays m) text t slice s (Ok tt)

  -- a phase went on to its end
  abbrev pub WentOn : Phase → DeskStands → DeskStands → ((m : Meaning Own) → PlaysTurns m) → ((m : Meaning Own) → PlaysTurns m) → List ℕ → Type 0
  WentOn p desk new plays after_plays text = (es : List Command) × (others : List Reply) × GoesOn desk new es others × SaysPhase p desk new plays after_plays text es others (Ok tt)

  -- behind a phase that is finished the next one begins
  abbrev pub Passes : ((m : Meaning Own) → PlaysTurns m) → Type 0
  Passes plays = (m : Meaning Own) (turn : Turn Own) (cs : List Command) (rs : List Reply) → plays m turn cs rs → IsFinished m turn cs rs → HasNext turn.phase → plays m (turn_after m turn) [] []

  pub through-prices : (new : DeskStands) (plays0 plays1 : (m : Meaning Own) → PlaysTurns m) (text0 text1 : List ℕ)
      → ArrivesSo plays0 text0 → WentOn Prices start new plays0 plays1 text1 → Passes plays1 → Through Rules new plays1
  through-prices new plays0 plays1 text0 text1 arrives (es, others, goes, says) passes =
      through-next Prices start new plays0 plays1 text1 es others tt passes (through-first plays0 text0 arrives) goes says

  pub through-rules : (desk new : DeskStands) (plays0 plays1 plays2 : (m : Meaning Own) → PlaysTurns m) (text0 text1 text2 : List ℕ)
      → ArrivesSo plays0 text0 → WentOn Prices start desk plays0 plays1 text1 → Passes plays1 → WentOn Rules desk new plays1 plays2 text2 → Passes plays2 → Through Close new plays2
  through-rules desk new plays0 plays1 plays2 text0 text1 text2 arrives prices first (es, others, goes, says) passes =
      through-next Rules desk new plays1 plays2 text2 es others tt passes (through-prices desk plays0 plays1 text0 text1 arrives prices first) goes says

  -- how a moment ends
  abbrev pub EndsSo : DeskStands → ((m : Meaning Own) → State Own → List FeedKey → Type 0) → List ℕ → Result Changes Stop → Type 0
  EndsSo new after_stands text result =
      (ds : List Command) × (more : List Reply) × GoesOn start new ds more
      × ((m : Meaning Own) (s : State Own) (t : ℕ) (b : Book) (cs : List Command) (rs : List Reply)
      → at.0 ≡ pos t → stands m s [] → meets m t slice s → start b cs rs → s.book ≡ after b cs
      → IsRight b (cs ++ ds) (rs ++ more) → IsPlayed m (after_stands m) text t slice s (after b (cs ++ ds)) result)

  pub ends-first : (plays : (m : Meaning Own) → PlaysTurns m) (after_stands : (m : Meaning Own) → State Own → List FeedKey → Type 0) (text : List ℕ) (stop : Stop)
      → ((m : Meaning Own) (s : State Own) (t : ℕ) → stands m s [] → meets m t slice s → at.0 ≡ pos t → Arrives m (plays m) text t slice s (Err stop)) → EndsSo start after_stands text (Err stop)
  ends-first plays after_stands text stop arrives =
      ([], [], goes-none start, λ m s t b cs rs is core met desk book right. arrival-limit m t slice s (plays m) (after_stands m) text (after b (cs ++ [])) stop (arrives m s t core met is))

  pub ends-phase : (p : Phase) (desk new : DeskStands) (plays after_plays : (m : Meaning Own) → PlaysTurns m) (after_stands : (m : Meaning Own) → State Own → List FeedKey → Type 0) (text : List ℕ) (es : List Command) (others : List Reply) (stop : Stop)
      → Through p desk plays → GoesOn desk new es others → SaysPhase p desk new plays after_plays text es others (Err stop) → EndsSo new after_stands text (Err stop)
  ends-phase p desk new plays after_plays after_stands text es others stop g goes says = (
    g.ds ++ es,
    g.more ++ others,
    goes-more start desk new g.ds es g.more others g.goes goes,
    λ m s t b cs rs is core met desk_is book right.
        (let inner = right-inner b cs g.ds es rs g.more others right in
        let st = g.stage m s t b cs rs is core met desk_is book (right-before b (cs ++ g.ds) es (rs ++ g.more) others inner) in
        let phased = says m (turn_at m t slice s p st.now st.text) b (cs ++ g.ds) (rs ++ g.more) st.faces refl inner in
        stage-limit m t slice s p desk (plays m) (after_plays m) (after_stands m) text (after b (cs ++ (g.ds ++ es))) b (cs ++ g.ds) es (rs ++ g.more) others stop st phased),
  )

  -- there was no memory to close the moment
  pub ends-unclosed : (p : Phase) (desk new : DeskStands) (plays : (m : Meaning Own) → PlaysTurns m) (after_stands : (m : Meaning Own) → State Own → List FeedKey → Type 0) (text : List ℕ) (es : List Command) (others : List Reply)
      → Through p desk plays → GoesOn desk new es others → EndsSo new after_stands text (Err NoMemory)
  ends-unclosed p desk new plays after_stands text es others g goes =
      (g.ds ++ es, g.more ++ others, goes-more start desk new g.ds es g.more others g.goes goes, λ m s t b cs rs is core met desk_is book right. tt)

  pub ends-closed : (desk new : DeskStands) (plays after_plays : (m : Meaning Own) → PlaysTurns m) (after_stands : (m : Meaning Own) → State Own → List FeedKey → Type 0) (text0 text : List ℕ) (es : List Command) (others : List Reply) (changes : Changes)
      → Through Close desk plays → GoesOn desk new es others → SaysPhase Close desk new plays after_plays text0 es others (Ok tt)
      → ((m : Meaning Own) (turn : Turn Own) (cs : List Command) (rs : List Reply) → after_plays m turn cs rs → IsFinished m turn cs rs → turn.phase ≡ Close
      → Closes m (after_stands m) text (turn_after m turn) changes.added.items changes.removed.items)
      → EndsSo new after_stands text (Ok changes)
  ends-closed desk new plays after_plays after_stands text0 text es others changes g goes says closes = (
    g.ds ++ es,
    g.more ++ others,
    goes-more start desk new g.ds es g.more others g.goes goes,
    λ m s t b cs rs is core met desk_is book right.
        (let inner = right-inner b cs g.ds es rs g.more others right in
        let st = g.stage m s t b cs rs is core met desk_is book (right-before b (cs ++ g.ds) es (rs ++ g.more) others inner) in
        let turn = turn_at m t slice s Close st.now st.text in
        let phased = says m turn b (cs ++ g.ds) (rs ++ g.more) st.faces refl inner in
        let whole = stage-closed m t slice s desk (plays m) (after_plays m) (after_stands m) text0 text b (cs ++ g.ds) es (rs ++ g.more) others changes.added.items changes.removed.items st phased
        (closes m turn es others phased.0 phased.1 refl) in
        subst (λ xs. Plays m (after_stands m) text t s.own (moment_of m t slice s) (after b xs) changes.added.items changes.removed.items) (append_assoc cs g.ds es) whole),
  )
