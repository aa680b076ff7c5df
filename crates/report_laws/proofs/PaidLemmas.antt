-- The account goes on by the fills that are printed, part by part and moment by moment, and close lines show it.
use Rattle.std.proofs.Common.{◌≡◌, ℕ, zero, suc, ◌+◌, ◌-◌, ℤ, List, [], ◌∷◌, ◌++◌, Bool, true, false, refl, sym, ap, subst, ◌∙◌, arith}
use Rattle.std.specs.Prelude.{Option, Some, None, map, filter, flat_map, take, option_map, if◌then◌else◌}
use Rattle.std.specs.List.{AllByRecursion as Each, filter_map, cons_option}
use Rattle.std.specs.Option.{option_to_list}
use Rattle.std.proofs.lemmas.List.{append-nil, append_assoc}
use Rattle.std.proofs.lemmas.List.Elements.{filter_map-append}
use Rattle.lean_fixed.specs.Moments.{first_moment}
use Rattle.lean_fixed.specs.declared.time.Moment.{Moment}
use Rattle.lean_items.specs.declared.bar.Bar.{Bar}
use Rattle.lean_items.specs.declared.coarse_row.CoarseRow.{CoarseRow}
use Rattle.exchange_hours.specs.Entries.{Entries}
use Rattle.exchange_hours.specs.Grid.{is_closing}
use Rattle.exchange_hours.specs.Sessions.{moment}
use Rattle.lean_orders.specs.declared.event.Fill.{Fill}
use Rattle.lean_orders.specs.declared.desk.Reply.{Reply}
use Rattle.lean_orders.specs.declared.desk.Reply.TheVariants as reply
use Rattle.lean_orders.specs.declared.desk.Command.{Command}
use Rattle.lean_orders.specs.declared.desk.Command.TheVariants.{Mark, Match, Submit, Update, Cancel, Account}
use Rattle.portfolio.specs.Sums as sums
use Rattle.rule_strategy.specs.declared.universe.UniversePlan.{UniversePlan}
use Rattle.universe_rules.specs.Selected.{selected}
use Rattle.universe_state.specs.Choice.{additions, room}
use Rattle.clock_steps.specs.Runs.{Ran, rests, then_on, before, run}
use Rattle.clock_steps.proofs.RunLemmas.{before-same, run-cut, run-one}
use Rattle.clock_book.specs.Books.{Book}
use Rattle.clock_book.specs.Handled.{handled, after, replies}
use Rattle.clock_book.specs.Seen.{seen_of}
use Rattle.clock_run.specs.Lines.{Line, Halt, added, removed, happened, closed}
use Rattle.clock_run.specs.Known.{Known, World}
use Rattle.clock_run.specs.States.{Setup, State, symbol_of, actives, opening}
use Rattle.clock_run.specs.Histories.{History, histories, bar_now}
use Rattle.clock_run.specs.Requests.{requests}
use Rattle.clock_run.specs.Moments.{in_turn, chosen, selection, told, served, price_bar, marks, prices, most_requests, trading, closing, is_done_with, removals, refusal, moment_of}
use Rattle.clock_run.specs.Reports.{step_of, moments}
use Rattle.clock_run.proofs.EachLemmas.{each-take}
use Rattle.clock_run.proofs.TradeLemmas.{IsTrade}
use Rattle.clock_run.proofs.SettleLemmas.{requests-trades}
use Rattle.report_laws.specs.Fills.{fill_printed, fills_printed}
use Rattle.report_laws.specs.Ledger.{Ledger}
use Rattle.report_laws.specs.Closings.{closings, closings_before}
use Rattle.report_laws.proofs.BookLemmas.{book_ledger, grown, fill_replied, price_given, IsEventReply, Pays, IsNoAsking, command-pays}

-- ---- fills that lines show

printed-more : (paid : List Fill) (line : Line) (lines : List Line)
    → paid ++ fills_printed (line ∷ lines) ≡ (paid ++ option_to_list (fill_printed line)) ++ fills_printed lines
printed-more paid line lines = by (fill_printed line)
  where
    by : (fill : Option Fill) → paid ++ cons_option fill (fills_printed lines) ≡ (paid ++ option_to_list fill) ++ fills_printed lines
    by None = ap (λ all. all ++ fills_printed lines) (sym (append-nil paid))
    by (Some fill) = sym (append_assoc paid (fill ∷ []) (fills_printed lines))

printed-both : (paid : List Fill) (xs ys : List Line) → (paid ++ fills_printed xs) ++ fills_printed ys ≡ paid ++ fills_printed (xs ++ ys)
printed-both paid xs ys =
    append_assoc paid (fills_printed xs) (fills_printed ys) ∙ ap (λ fills. paid ++ fills) (sym (filter_map-append fill_printed xs ys))

printed-told : (t : ℕ) (rs : List Reply) → fills_printed (filter_map (told t) rs) ≡ filter_map fill_replied rs
printed-told t [] = refl
printed-told t (reply.Event event ∷ rs) = ap (λ fills. cons_option (fill_replied (reply.Event event)) fills) (printed-told t rs)
printed-told t (reply.Account cash equity ∷ rs) = printed-told t rs
printed-told t (reply.Done ∷ rs) = printed-told t rs

printed-none : {X : Type 0} (f : X → Line) → ((x : X) → fill_printed (f x) ≡ None) → (xs : List X) → fills_printed (map f xs) ≡ []
printed-none f none [] = refl
printed-none f none (x ∷ xs) = ap (λ fill. cons_option fill (fills_printed (map f xs))) (none x) ∙ printed-none f none xs

-- ---- prices that marks give

given-marks : (t : ℕ) (hs : List History) → flat_map price_given (marks t hs ++ Match (moment t) ∷ []) ≡ closings t hs
given-marks t [] = refl
given-marks t (h ∷ hs) = by (bar_now t h) (given-marks t hs)
  where
    by : (bar : Option Bar) → flat_map price_given (marks t hs ++ Match (moment t) ∷ []) ≡ closings t hs
        → flat_map price_given ((option_to_list (option_map (λ bar. Mark (moment t) h.symbol (price_bar bar)) bar) ++ marks t hs) ++ Match (moment t) ∷ [])
        ≡ option_to_list (option_map (λ bar. record { symbol = h.symbol; price = bar.closing.0 }) bar) ++ closings t hs
    by None later = later
    by (Some bar) later = ap (λ all. record { symbol = h.symbol; price = bar.closing.0 } ∷ all) later

marks-plain : (t : ℕ) (hs : List History) → Each IsNoAsking (marks t hs ++ Match (moment t) ∷ [])
marks-plain t [] = (tt, tt)
marks-plain t (h ∷ hs) = by (bar_now t h) (marks-plain t hs)
  where
    by : (bar : Option Bar) → Each IsNoAsking (marks t hs ++ Match (moment t) ∷ [])
        → Each IsNoAsking ((option_to_list (option_map (λ bar. Mark (moment t) h.symbol (price_bar bar)) bar) ++ marks t hs) ++ Match (moment t) ∷ [])
    by None later = later
    by (Some bar) later = (tt, later)

-- `priced` are the prices that are known at each moment
module _ (start : ℤ) (priced : ℕ → List sums.Mark) where
  abbrev ledger : List Fill → List sums.Mark → Ledger
  ledger fills quoted = record { start = start; fills = fills; prices = quoted }

  -- ---- what close lines show

  abbrev pub Adds : List Fill → Line → Type 0
  Adds paid (added t symbol) = Unit {0}
  Adds paid (removed t symbol) = Unit {0}
  Adds paid (happened event) = Unit {0}
  Adds paid (closed t cash equity) = (cash ≡ sums.cash start paid) × (equity ≡ sums.equity start paid (priced t))

  abbrev pub AddUp : List Fill → List Line → Type 0
  AddUp paid [] = Unit {0}
  AddUp paid (line ∷ lines) = Adds paid line × AddUp (paid ++ option_to_list (fill_printed line)) lines

  add-both : (paid : List Fill) (xs ys : List Line) → AddUp paid xs → AddUp (paid ++ fills_printed xs) ys → AddUp paid (xs ++ ys)
  add-both paid [] ys all more = subst (λ fills. AddUp fills ys) (append-nil paid) more
  add-both paid (x ∷ xs) ys all more = (
    all.0,
    add-both (paid ++ option_to_list (fill_printed x)) xs ys all.1 (subst (λ fills. AddUp fills ys) (printed-more paid x xs) more),
  )

  pub add-split : (paid : List Fill) (lines later : List Line) (t : ℕ) (cash equity : ℤ) → AddUp paid (lines ++ closed t cash equity ∷ later)
      → Adds (paid ++ fills_printed lines) (closed t cash equity)
  add-split paid [] later t cash equity all = subst (λ fills. Adds fills (closed t cash equity)) (sym (append-nil paid)) all.0
  add-split paid (line ∷ lines) later t cash equity all =
      subst (λ fills. Adds fills (closed t cash equity)) (sym (printed-more paid line lines))
      (add-split (paid ++ option_to_list (fill_printed line)) lines later t cash equity all.1)

  add-none : {X : Type 0} (f : X → Line) → ((x : X) (paid : List Fill) → Adds paid (f x)) → (xs : List X) (paid : List Fill) → AddUp paid (map f xs)
  add-none f none [] paid = tt
  add-none f none (x ∷ xs) paid = (none x paid, add-none f none xs (paid ++ option_to_list (fill_printed (f x))))

  add-told : (t : ℕ) (rs : List Reply) (paid : List Fill) → Each IsEventReply rs → AddUp paid (filter_map (told t) rs)
  add-told t [] paid all = tt
  add-told t (reply.Event event ∷ rs) paid all = (tt, add-told t rs (paid ++ option_to_list (fill_printed (happened event))) all.1)
  add-told t (reply.Account cash equity ∷ rs) paid all = absurd all.0
  add-told t (reply.Done ∷ rs) paid all = add-told t rs paid all.1

  -- ---- what handled commands leave and print

  record Serves (paid : List Fill) (quoted : List sums.Mark) (book : Book) (lines : List Line) : Type 0 where
    left : book_ledger book ≡ ledger (paid ++ fills_printed lines) quoted
    shown : AddUp paid lines

  serves-both : (paid : List Fill) (quoted later : List sums.Mark) (book next : Book) (xs ys : List Line) → Serves paid quoted book xs
      → Serves (paid ++ fills_printed xs) later next ys → Serves paid later next (xs ++ ys)
  serves-both paid quoted later book next xs ys one two = record {
    left = two.left ∙ ap (λ fills. ledger fills later) (printed-both paid xs ys);
    shown = add-both paid xs ys one.shown two.shown;
  }

  plain-serves : (t : ℕ) (book : Book) (c : Command) (paid : List Fill) (quoted : List sums.Mark) → IsNoAsking c → book_ledger book ≡ ledger paid quoted
      → Serves paid (quoted ++ price_given c) (handled book c).book (filter_map (told t) (handled book c).replies)
  plain-serves t book c paid quoted plain is =
      let rs = (handled book c).replies in
      let pays : Pays book (price_given c) (handled book c) = command-pays book c plain in
      record {
        left = pays.ledger
            ∙ (ap (λ l. grown l (filter_map fill_replied rs) (price_given c)) is
            ∙ ap (λ fills. ledger (paid ++ fills) (quoted ++ price_given c)) (sym (printed-told t rs)));
        shown = add-told t rs paid pays.events;
      }

  account-serves : (t : ℕ) (book : Book) (at : Moment) (paid : List Fill) → book_ledger book ≡ ledger paid (priced t)
      → Serves paid (priced t) (handled book (Account at)).book (filter_map (told t) (handled book (Account at)).replies)
  account-serves t book at paid is = record {
    left = is ∙ ap (λ fills. ledger fills (priced t)) (sym (append-nil paid));
    shown = ((ap (λ l. sums.cash l.start l.fills) is, ap (λ l. sums.equity l.start l.fills l.prices) is), tt);
  }

  trade-serves : (t : ℕ) (book : Book) (c : Command) (paid : List Fill) → IsTrade c → book_ledger book ≡ ledger paid (priced t)
      → Serves paid (priced t) (handled book c).book (filter_map (told t) (handled book c).replies)
  trade-serves t book (Mark at symbol bar) paid trade is = absurd trade
  trade-serves t book (Match at) paid trade is = absurd trade
  trade-serves t book (Submit at request) paid trade is =
      let c = Submit at request in
      subst (λ quoted. Serves paid quoted (handled book c).book (filter_map (told t) (handled book c).replies)) (append-nil (priced t))
      (plain-serves t book (Submit at request) paid (priced t) tt is)
  trade-serves t book (Update at id price) paid trade is =
      let c = Update at id price in
      subst (λ quoted. Serves paid quoted (handled book c).book (filter_map (told t) (handled book c).replies)) (append-nil (priced t))
      (plain-serves t book (Update at id price) paid (priced t) tt is)
  trade-serves t book (Cancel at id) paid trade is =
      let c = Cancel at id in
      subst (λ quoted. Serves paid quoted (handled book c).book (filter_map (told t) (handled book c).replies)) (append-nil (priced t))
      (plain-serves t book (Cancel at id) paid (priced t) tt is)
  trade-serves t book (Account at) paid trade is = account-serves t book at paid is

  serves-nothing : (paid : List Fill) (quoted : List sums.Mark) (book : Book) → book_ledger book ≡ ledger paid quoted → Serves paid quoted book []
  serves-nothing paid quoted book is = record { left = is ∙ ap (λ fills. ledger fills quoted) (sym (append-nil paid)); shown = tt }

  serves-next : (t : ℕ) (paid : List Fill) (quoted later : List sums.Mark) (book : Book) (c : Command) (cs : List Command)
      → Serves paid quoted (handled book c).book (filter_map (told t) (handled book c).replies)
      → Serves (paid ++ fills_printed (filter_map (told t) (handled book c).replies)) later (after (handled book c).book cs)
      (filter_map (told t) (replies (handled book c).book cs))
      → Serves paid later (after book (c ∷ cs)) (filter_map (told t) (replies book (c ∷ cs)))
  unfolding after replies
  serves-next t paid quoted later book c cs one two =
      let now = (handled book c).replies in
      let rest = replies (handled book c).book cs in
      subst (Serves paid later (after (handled book c).book cs)) (sym (filter_map-append (told t) now rest))
      (serves-both paid quoted later (handled book c).book (after (handled book c).book cs) (filter_map (told t) now) (filter_map (told t) rest) one two)

  trades-serve : (t : ℕ) (book : Book) (cs : List Command) (paid : List Fill) → Each IsTrade cs → book_ledger book ≡ ledger paid (priced t)
      → Serves paid (priced t) (after book cs) (filter_map (told t) (replies book cs))
  unfolding after replies
  trades-serve t book [] paid trades is = serves-nothing paid (priced t) book is
  trades-serve t book (c ∷ cs) paid trades is =
      let one = trade-serves t book c paid trades.0 is in
      serves-next t paid (priced t) (priced t) book c cs one
      (trades-serve t (handled book c).book cs (paid ++ fills_printed (filter_map (told t) (handled book c).replies)) trades.1 one.left)

  plains-serve : (t : ℕ) (book : Book) (cs : List Command) (paid : List Fill) (quoted : List sums.Mark) → Each IsNoAsking cs
      → book_ledger book ≡ ledger paid quoted
      → Serves paid (quoted ++ flat_map price_given cs) (after book cs) (filter_map (told t) (replies book cs))
  unfolding after replies
  plains-serve t book [] paid quoted plain is =
      serves-nothing paid (quoted ++ []) book (is ∙ ap (λ all. ledger paid all) (sym (append-nil quoted)))
  plains-serve t book (c ∷ cs) paid quoted plain is =
      let one = plain-serves t book c paid quoted plain.0 is in
      let two = plains-serve t (handled book c).book cs (paid ++ fills_printed (filter_map (told t) (handled book c).replies)) (quoted ++ price_given c) plain.1 one.left in
      let whole = serves-next t paid (quoted ++ price_given c) ((quoted ++ price_given c) ++ flat_map price_given cs) book c cs one two in
      subst (λ all. Serves paid all (after book (c ∷ cs)) (filter_map (told t) (replies book (c ∷ cs))))
      (append_assoc quoted (price_given c) (flat_map price_given cs)) whole

  -- ---- the parts of a moment, one after the other

  pub record Goes (paid : List Fill) (quoted : List sums.Mark) (ran : Ran State Line Halt) : Type 0 where
    pub left : ran.stop ≡ None → book_ledger ran.state.book ≡ ledger (paid ++ fills_printed ran.lines) quoted
    pub shown : AddUp paid ran.lines

  goes-on : (paid : List Fill) (quoted later : List sums.Mark) (lines : List Line) (s : State) (stop : Option Halt) (next : State → Ran State Line Halt)
      → Goes paid quoted (record { lines = lines; state = s; stop = stop })
      → (book_ledger s.book ≡ ledger (paid ++ fills_printed lines) quoted → Goes (paid ++ fills_printed lines) later (next s))
      → Goes paid later (then_on lines s stop next)
  goes-on paid quoted later lines s (Some halt) next one two = record {
    left = λ none. absurd (let h : Some halt ≡ None = none in cc);
    shown = one.shown;
  }
  goes-on paid quoted later lines s None next one two =
      let more = two (one.left refl) in
      record {
        left = λ none. more.left none ∙ ap (λ fills. ledger fills later) (printed-both paid lines (next s).lines);
        shown = add-both paid lines (next s).lines one.shown more.shown;
      }

  goes-before : (paid : List Fill) (quoted later : List sums.Mark) (ran : Ran State Line Halt) (next : State → Ran State Line Halt) → Goes paid quoted ran
      → (book_ledger ran.state.book ≡ ledger (paid ++ fills_printed ran.lines) quoted → Goes (paid ++ fills_printed ran.lines) later (next ran.state))
      → Goes paid later (before ran next)
  goes-before paid quoted later ran next = goes-on paid quoted later ran.lines ran.state ran.stop next

  rests-go : (paid : List Fill) (quoted : List sums.Mark) (s : State) → book_ledger s.book ≡ ledger paid quoted → Goes paid quoted (rests s)
  rests-go paid quoted s is = record { left = λ none. is ∙ ap (λ fills. ledger fills quoted) (sym (append-nil paid)); shown = tt }

  -- lines without a fill and without a close
  quiet-goes : {X : Type 0} (f : X → Line) (xs : List X) (s : State) (stop : Option Halt) (paid : List Fill) (quoted : List sums.Mark)
      → ((x : X) → fill_printed (f x) ≡ None) → ((x : X) (fills : List Fill) → Adds fills (f x)) → book_ledger s.book ≡ ledger paid quoted
      → Goes paid quoted (record { lines = map f xs; state = s; stop = stop })
  quiet-goes f xs s stop paid quoted none adds is = record {
    left = λ open'.
        is ∙ (ap (λ fills. ledger fills quoted) (sym (append-nil paid)) ∙ ap (λ fills. ledger (paid ++ fills) quoted) (sym (printed-none f none xs)));
    shown = add-none f adds xs paid;
  }

  served-goes : (paid : List Fill) (quoted : List sums.Mark) (lines : List Line) (s : State) (stop : Option Halt) → Serves paid quoted s.book lines
      → Goes paid quoted (record { lines = lines; state = s; stop = stop })
  served-goes paid quoted lines s stop serves = record { left = λ none. serves.left; shown = serves.shown }

  selection-goes : (universe : Option UniversePlan) (t : ℕ) (rows : List CoarseRow) (s : State) (paid : List Fill) (quoted : List sums.Mark)
      → book_ledger s.book ≡ ledger paid quoted → Goes paid quoted (selection universe t rows s)
  selection-goes None t rows s paid quoted is = rests-go paid quoted s is
  selection-goes (Some universe) t [] s paid quoted is = rests-go paid quoted s is
  selection-goes (Some universe) t (row ∷ rows) s paid quoted is =
      let symbols = selected (row ∷ rows) universe.rule in
      let ran = chosen universe t symbols s in
      quiet-goes (added t) (take (room (actives s)) (additions symbols (actives s))) ran.state ran.stop paid quoted (λ symbol. refl) (λ symbol fills. tt) is

  prices-goes : (t : ℕ) (known : Known) (s : State) (paid : List Fill) (quoted : List sums.Mark) → book_ledger s.book ≡ ledger paid quoted
      → Goes paid (quoted ++ closings t (histories known s)) (prices t known s)
  prices-goes t known s paid quoted is =
      let cs = marks t (histories known s) ++ Match (moment t) ∷ [] in
      let ran = served t cs s in
      served-goes paid (quoted ++ closings t (histories known s)) ran.lines ran.state None
      (subst (λ more. Serves paid (quoted ++ more) (after s.book cs) (filter_map (told t) (replies s.book cs))) (given-marks t (histories known s))
      (plains-serve t s.book cs paid quoted (marks-plain t (histories known s)) is))

  trading-goes : (setup : Setup) (t : ℕ) (known : Known) (s : State) (paid : List Fill) → book_ledger s.book ≡ ledger paid (priced t)
      → Goes paid (priced t) (trading setup t known s)
  trading-goes setup t known s paid is =
      let asked = requests setup.plan.rules (seen_of s.book) t (histories known s) in
      let ran = trading setup t known s in
      served-goes paid (priced t) ran.lines ran.state ran.stop
      (trades-serve t s.book (take (most_requests - s.requests) asked) paid
      (each-take IsTrade (most_requests - s.requests) asked (requests-trades setup.plan.rules (seen_of s.book) t (histories known s))) is)

  closing-goes : (hours : Entries) (t : ℕ) (s : State) (paid : List Fill) → book_ledger s.book ≡ ledger paid (priced t)
      → Goes paid (priced t) (closing hours t s)
  closing-goes hours t s paid is = by (is_closing hours t)
    where
      by : (b : Bool) → Goes paid (priced t) (if b then served t (Account (moment t) ∷ []) s else rests s)
      by true =
          let ran = served t (Account (moment t) ∷ []) s in
          served-goes paid (priced t) ran.lines ran.state None (trades-serve t s.book (Account (moment t) ∷ []) paid (tt, tt) is)
      by false = rests-go paid (priced t) s is

  removals-goes : (t : ℕ) (s : State) (paid : List Fill) (quoted : List sums.Mark) → book_ledger s.book ≡ ledger paid quoted → Goes paid quoted (removals t s)
  removals-goes t s paid quoted is =
      quiet-goes (λ security. removed t (symbol_of security)) (filter (is_done_with (seen_of s.book)) s.securities) (removals t s).state None paid quoted
      (λ security. refl) (λ security fills. tt) is

  refusal-goes : (setup : Setup) (known : Known) (s : State) (paid : List Fill) (quoted : List sums.Mark) → book_ledger s.book ≡ ledger paid quoted
      → Goes paid quoted (refusal setup known s)
  refusal-goes setup known s paid quoted is =
      record { left = λ none. is ∙ ap (λ fills. ledger fills quoted) (sym (append-nil paid)); shown = tt }

  pub moment-goes : (setup : Setup) (t : ℕ) (known : Known) (s : State) (paid : List Fill) (quoted : List sums.Mark) → book_ledger s.book ≡ ledger paid quoted
      → quoted ++ closings t (histories known (selection setup.plan.universe t known.coarse s).state) ≡ priced t
      → Goes paid (priced t) (moment_of setup t known s)
  unfolding moment_of
  moment-goes setup t known s paid quoted is priced_is =
      let of_refusal = refusal setup known ∷ [] in
      let of_removals = removals t ∷ of_refusal in
      let of_closing = closing setup.hours t ∷ of_removals in
      let of_trading = trading setup t known ∷ of_closing in
      let of_prices = prices t known ∷ of_trading in
      let selecting = selection setup.plan.universe t known.coarse s in
      let pricing = prices t known selecting.state in
      let asking = trading setup t known pricing.state in
      let telling = closing setup.hours t asking.state in
      let removing = removals t telling.state in
      let p1 = paid ++ fills_printed selecting.lines in
      let p2 = p1 ++ fills_printed pricing.lines in
      let p3 = p2 ++ fills_printed asking.lines in
      let p4 = p3 ++ fills_printed telling.lines in
      let p5 = p4 ++ fills_printed removing.lines in
      goes-before paid quoted (priced t) selecting (in_turn of_prices) (selection-goes setup.plan.universe t known.coarse s paid quoted is)
      (λ is1. goes-before p1 (priced t) (priced t) pricing (in_turn of_trading)
      (subst (λ all. Goes p1 all pricing) priced_is (prices-goes t known selecting.state p1 quoted is1))
      (λ is2. goes-before p2 (priced t) (priced t) asking (in_turn of_closing) (trading-goes setup t known pricing.state p2 is2)
      (λ is3. goes-before p3 (priced t) (priced t) telling (in_turn of_removals) (closing-goes setup.hours t asking.state p3 is3)
      (λ is4. goes-before p4 (priced t) (priced t) removing (in_turn of_refusal) (removals-goes t telling.state p4 (priced t) is4)
      (λ is5. goes-before p5 (priced t) (priced t) (refusal setup known removing.state) rests (refusal-goes setup known removing.state p5 (priced t) is5)
      (λ is6. rests-go (p5 ++ []) (priced t) removing.state is6))))))

-- ---- all moments

module _ (setup : Setup) (world : World) where
  abbrev first : ℕ
  first = first_moment setup.plan.window

  abbrev pub priced_at : ℕ → List sums.Mark
  priced_at t = closings_before setup world (t + 1 - first)

  pub moments-go : (n : ℕ) → Goes setup.plan.cash.0 priced_at [] (closings_before setup world n) (moments setup world n)
  unfolding run
  moments-go zero = record { left = λ none. refl; shown = tt }
  moments-go (suc n) =
      let step = step_of setup world in
      let ran = moments setup world n in
      let paid = fills_printed ran.lines in
      let one : moments setup world (n + 1) ≡ before ran (step (first + n)) =
      run-cut step n 1 first (opening setup) ∙ before-same ran (run step 1 (first + n)) (step (first + n)) (λ s. run-one step (first + n) s) in
      let count : suc n ≡ n + 1 = omega arith in
      let count_by : suc n ≡ first + n + 1 - first = omega arith in
      let priced_is : closings_before setup world (suc n) ≡ priced_at (first + n) = ap (closings_before setup world) count_by in
      subst (λ all. Goes setup.plan.cash.0 priced_at [] (closings_before setup world (suc n)) all)
      (sym (ap (moments setup world) count ∙ one))
      (subst (λ all. Goes setup.plan.cash.0 priced_at [] all (before ran (step (first + n)))) (sym priced_is)
      (goes-before setup.plan.cash.0 priced_at [] (closings_before setup world n) (priced_at (first + n)) ran (step (first + n)) (moments-go n)
      (λ is. moment-goes setup.plan.cash.0 priced_at setup (first + n) (world (first + n)) ran.state paid (closings_before setup world n) is priced_is)))
