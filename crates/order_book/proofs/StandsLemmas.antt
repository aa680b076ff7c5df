-- A book in memory stands for the book that a command makes.
use Rattle.std.proofs.Common.{◌≡◌, ℕ, ◌+◌, ◌≤◌, Bool, true, false, cond, ◌&&◌, List, [], ◌∷◌, ◌++◌, length, map, drop, Option, Some, None, refl, sym, ap, subst, ◌∙◌, arith}
use Rattle.std.specs.Prelude.{ℤ, is_some, if◌then◌else◌, option_map, option_and_then}
use Rattle.std.specs.List.{filter_map, cons_option}
use Rattle.std.specs.Map.{lookup}
use Rattle.std.specs.Option.{option_or, option_map_or}
use Rattle.std.proofs.lemmas.List.{map-append, drop-append-le, drop_all, length-append}
use Rattle.lean_fixed.specs.declared.time.Moment.{Moment}
use Rattle.lean_orders.specs.declared.desk.PriceBar.{PriceBar}
use Rattle.lean_orders.specs.declared.event.Fill.{Fill}
use Rattle.lean_orders.specs.declared.order.Order.{Order}
use Rattle.lean_orders.specs.declared.order.OrderState.TheVariants.{Filled}
use Rattle.portfolio.specs.Stands as accounts
use Rattle.portfolio.specs.Sums.{Mark}
use Rattle.portfolio.specs.Symbols.{same_symbol}
use Rattle.clock_book.specs.Books.{BarMark, Book, price_mark, price_marks, last_real_bar, is_live}
use Rattle.clock_book.specs.Handled.{with_mark}
use Rattle.clock_book.specs.Matches.{bar_of, set_off, fill_on, after_trigger, matched, after_match, match_event, in_state, filled_event, book_after_match}
use Rattle.order_book.specs.Filling.{Trial, bar_kept, trial, after_try, said_of}
use Rattle.order_book.specs.Kept.{Kept}
use Rattle.order_book.specs.Stands.{StandsFor}
use Rattle.order_book.specs.Tries.{HasFills}

-- ---- other orders, and further fills

-- a book with other orders and fills
abbrev pub changed : Book → List Order → List Fill → Book
changed book orders fills = record book { orders = orders; fills = fills }

pub stands_changed : (old new : Kept) (book : Book) (orders : List Order) (more all : List Fill) → StandsFor old book → all ≡ book.fills ++ more
    → new.costs ≡ old.costs → new.leverage ≡ old.leverage → new.hours ≡ old.hours → new.bars ≡ old.bars
    → HasFills more old.account new.account → new.fills ≡ old.fills ++ more → new.orders ≡ orders → StandsFor new (changed book orders all)
stands_changed old new book orders more all stands all_is costs leverage hours bars account fills orders_is = record {
  costs = costs ∙ stands.costs;
  leverage = leverage ∙ stands.leverage;
  hours = hours ∙ stands.hours;
  account = subst (λ fs. accounts.StandsFor new.account book.start fs (price_marks book)) (sym all_is) (account book.start book.fills (price_marks book) stands.account);
  orders = orders_is;
  fills = fills ∙ ap (λ fs. fs ++ more) stands.fills ∙ sym all_is;
  bars = λ symbol. ap (lookup (same_symbol symbol)) bars ∙ stands.bars symbol;
  tried = stands.tried;
}

-- ---- a mark

or_right : (o : Option PriceBar) → option_or None o ≡ option_or o None
or_right None = refl
or_right (Some bar) = refl

or_assoc : (a b c : Option PriceBar) → option_or (option_or a b) c ≡ option_or a (option_or b c)
or_assoc None b c = refl
or_assoc (Some bar) b c = refl

abbrev real_bar : List ℕ → BarMark → Option PriceBar
real_bar symbol mark = if same_symbol symbol mark.symbol && mark.bar.real then Some mark.bar else None

last_real_push : (symbol : List ℕ) (marks : List BarMark) (mark : BarMark)
    → last_real_bar symbol (marks ++ mark ∷ []) ≡ option_or (real_bar symbol mark) (last_real_bar symbol marks)
last_real_push symbol [] mark = or_right (real_bar symbol mark)
last_real_push symbol (m ∷ marks) mark =
    ap (λ bar. option_or bar (real_bar symbol m)) (last_real_push symbol marks mark)
    ∙ or_assoc (real_bar symbol mark) (last_real_bar symbol marks) (real_bar symbol m)

bar_or : (b : Bool) (bar : PriceBar) (kept : Option PriceBar) → cond b (Some bar) kept ≡ option_or (cond b (Some bar) None) kept
bar_or true bar kept = refl
bar_or false bar kept = refl

pub stands_mark : (old new : Kept) (book : Book) (mark : BarMark) → StandsFor old book
    → new.costs ≡ old.costs → new.leverage ≡ old.leverage → new.hours ≡ old.hours → new.orders ≡ old.orders → new.fills ≡ old.fills
    → ((start : ℤ) (fills : List Fill) (marks : List Mark) → accounts.StandsFor old.account start fills marks
    → accounts.StandsFor new.account start fills (marks ++ price_mark mark ∷ []))
    → ((symbol : List ℕ) → lookup (same_symbol symbol) new.bars
    ≡ (if same_symbol symbol mark.symbol && mark.bar.real then Some mark.bar else lookup (same_symbol symbol) old.bars))
    → StandsFor new (with_mark book mark)
stands_mark old new book mark stands costs leverage hours orders fills account bars = record {
  costs = costs ∙ stands.costs;
  leverage = leverage ∙ stands.leverage;
  hours = hours ∙ stands.hours;
  account = subst (λ marks. accounts.StandsFor new.account book.start book.fills marks) (sym (map-append price_mark book.marks (mark ∷ [])))
      (account book.start book.fills (price_marks book) stands.account);
  orders = orders ∙ stands.orders;
  fills = fills ∙ stands.fills;
  bars = λ symbol.
      bars symbol ∙ bar_or (same_symbol symbol mark.symbol && mark.bar.real) mark.bar (lookup (same_symbol symbol) old.bars)
      ∙ ap (option_or (real_bar symbol mark)) (stands.bars symbol)
      ∙ sym (ap (last_real_bar symbol) (drop-append-le book.tried book.marks (mark ∷ []) stands.tried)
      ∙ last_real_push symbol (drop book.tried book.marks) mark);
  tried = omega (arith, stands.tried, length-append book.marks (mark ∷ []));
}

-- ---- a match

-- the bars that are kept try orders as the marks do
abbrev pub trial_of : Kept → Trial
trial_of kept = trial kept.costs kept.hours kept.bars

bar_same : (kept : Kept) (book : Book) → StandsFor kept book → (o : Order) → bar_kept kept.bars o ≡ bar_of book o
bar_same kept book stands o = ap (λ bar. if is_live o.state then bar else None) (stands.bars o.symbol)

fill_same : (kept : Kept) (book : Book) → StandsFor kept book → (o : Order) → (trial_of kept).fill o ≡ matched book o
fill_same kept book stands o =
    ap (option_and_then (fill_on kept.costs kept.hours o)) (bar_same kept book stands o)
    ∙ (λ i. option_and_then (fill_on (stands.costs i) (stands.hours i) o) (bar_of book o))

first_same : (kept : Kept) (book : Book) → StandsFor kept book → (o : Order) → (trial_of kept).first o ≡ after_trigger book o
first_same kept book stands o =
    ap (λ bar. option_map_or (set_off kept.hours o) bar o) (bar_same kept book stands o)
    ∙ ap (λ hours. option_map_or (set_off hours o) (bar_of book o) o) stands.hours

pub map_same : {X Y : Type 0} (f g : X → Y) → ((x : X) → f x ≡ g x) → (xs : List X) → map f xs ≡ map g xs
map_same f g h xs = λ i. map (λ x. h x i) xs

pub filter_map_same : {X Y : Type 0} (f g : X → Option Y) → ((x : X) → f x ≡ g x) → (xs : List X) → filter_map f xs ≡ filter_map g xs
filter_map_same f g h xs = λ i. filter_map (λ x. h x i) xs

after_same : (kept : Kept) (book : Book) → StandsFor kept book → (o : Order) → after_try (trial_of kept) o ≡ after_match book o
after_same kept book stands o = λ i. if is_some (fill_same kept book stands o i) then in_state Filled (first_same kept book stands o i) else first_same kept book stands o i

pub said_same : (kept : Kept) (book : Book) → StandsFor kept book → (at : Moment) (o : Order) → said_of (trial_of kept) at o ≡ match_event book at o
said_same kept book stands at o = ap (option_map (filled_event at o)) (fill_same kept book stands o)

pub stands_match : (old new : Kept) (book : Book) → StandsFor old book
    → new.costs ≡ old.costs → new.leverage ≡ old.leverage → new.hours ≡ old.hours → new.bars ≡ []
    → new.orders ≡ map (after_try (trial_of old)) old.orders
    → new.fills ≡ old.fills ++ filter_map (trial_of old).fill old.orders
    → HasFills (filter_map (trial_of old).fill old.orders) old.account new.account
    → StandsFor new (book_after_match book)
stands_match old new book stands costs leverage hours bars orders fills account =
    let found : filter_map (trial_of old).fill old.orders ≡ filter_map (matched book) book.orders =
    filter_map_same (trial_of old).fill (matched book) (fill_same old book stands) old.orders ∙ ap (filter_map (matched book)) stands.orders in
    record {
      costs = costs ∙ stands.costs;
      leverage = leverage ∙ stands.leverage;
      hours = hours ∙ stands.hours;
      account = subst (λ fs. accounts.StandsFor new.account book.start (book.fills ++ fs) (price_marks book)) found
          (account book.start book.fills (price_marks book) stands.account);
      orders =
          orders ∙ map_same (after_try (trial_of old)) (after_match book) (after_same old book stands) old.orders
          ∙ ap (map (after_match book)) stands.orders;
      fills = fills ∙ ap (λ fs. fs ++ filter_map (trial_of old).fill old.orders) stands.fills ∙ ap (λ fs. book.fills ++ fs) found;
      bars = λ symbol. ap (lookup (same_symbol symbol)) bars ∙ sym (ap (last_real_bar symbol) (drop_all (length book.marks) book.marks (omega arith)));
      tried = omega arith;
    }

-- at most one for each order
cons_length : {Y : Type 0} (found : Option Y) (ys : List Y) (n : ℕ) → length ys ≤ n → length (cons_option found ys) ≤ n + 1
cons_length None ys n h = omega arith
cons_length (Some y) ys n h = omega arith

pub filter_map_length : {X Y : Type 0} (f : X → Option Y) (xs : List X) → length (filter_map f xs) ≤ length xs
filter_map_length f [] = omega arith
filter_map_length f (x ∷ xs) = omega (arith, cons_length (f x) (filter_map f xs) (length xs) (filter_map_length f xs))
