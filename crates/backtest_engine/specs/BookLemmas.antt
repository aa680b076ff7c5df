-- What a book answers to the commands of an algorithm: it stays in range, and all that it replies can be heard. A command that
-- fits may ask for any number, so the bound on what was asked for rises with what some commands ask.
use Rattle.std.proofs.Common.{◌≡◌, ℕ, ◌+◌, ◌≤◌, ℤ, pos, negsuc, Bool, true, false, List, [], ◌∷◌, ◌++◌, length, Option, Some, None, refl, sym, ap, subst, ◌∙◌, arith, if◌then◌else◌}
use Rattle.std.specs.Prelude.{unsigned_abs, IfSome}
use Rattle.std.specs.List.{AllByRecursion as Each, fold}
use Rattle.std.proofs.lemmas.Int.{ints}
use Rattle.std.proofs.lemmas.List.{length-append}
use Rattle.std.proofs.lemmas.List.Sums.{fold-append}
use Rattle.lean_fixed.specs.Ranges.{IsAtMost, IsPrintedMoment}
use Rattle.lean_fixed.specs.declared.money.Price.{Price}
use Rattle.lean_orders.specs.declared.order.Order.{Order}
use Rattle.lean_orders.specs.declared.event.What.{What}
use Rattle.lean_orders.specs.declared.event.What.TheVariants as what
use Rattle.lean_orders.specs.declared.desk.Command.{Command}
use Rattle.lean_orders.specs.declared.desk.Command.TheVariants as command
use Rattle.lean_orders.specs.declared.desk.Reply.{Reply}
use Rattle.lean_orders.specs.declared.desk.Reply.TheVariants as reply
use Rattle.clock_book.specs.Books.{Book}
use Rattle.clock_book.specs.Fitting.{IsFitting, most_orders, submits}
use Rattle.clock_book.specs.Handled.{after, replies}
use Rattle.clock_book.specs.InRange.{is_refused, IsOrderIf, IsOrder, IsInRange, HasNumbers, submitted, moment_of, IsReply, IsWhatOf}
use Rattle.clock_book.specs.Seen.{Seen, AreNumbered, given_out, learnt, what_learnt, seen_of}
use Rattle.clock_book.proofs.RangeLemmas.{commands-range, commands-count, commands-replies, book-money}
use Rattle.clock_book.proofs.LearntLemmas.{commands-told}
use Rattle.backtest_core.specs.Phases.{is_request, time_of}
use Rattle.backtest_core.specs.Mirror.{CanBeLearnt}
use Rattle.backtest_core.specs.Calls.{CanHear}
use Rattle.backtest_engine.specs.Ranged.{Ranged}

-- ---- commands

pub time-moment : (c : Command) → time_of c ≡ moment_of c
time-moment (command.Mark at symbol bar) = refl
time-moment (command.Match at) = refl
time-moment (command.Submit at request) = refl
time-moment (command.Update at id price) = refl
time-moment (command.Cancel at id) = refl
time-moment (command.Account at) = refl

-- what adds an order is a request
pub submits-few : (c : Command) → submits c ≤ (if is_request c then 1 else 0)
submits-few (command.Mark at symbol bar) = omega arith
submits-few (command.Match at) = omega arith
submits-few (command.Submit at request) = omega arith
submits-few (command.Update at id price) = omega arith
submits-few (command.Cancel at id) = omega arith
submits-few (command.Account at) = omega arith

pub submits-none : (c : Command) → is_request c ≡ false → submits c ≡ 0
submits-none c is =
    let few : submits c ≤ 0 = subst (λ b. submits c ≤ (if b then 1 else 0)) is (submits-few c) in
    omega (arith, few)

pub submitted-append : (xs ys : List Command) → submitted (xs ++ ys) ≡ submitted xs + submitted ys
submitted-append [] ys = omega arith
submitted-append (x ∷ xs) ys = omega (arith, submitted-append xs ys)

-- ---- a bound on all that is asked for

at-most-more : (m n : ℕ) (z : ℤ) → m ≤ n → IsAtMost m z → IsAtMost n z
at-most-more m n z le h = (omega (arith, ints, le, h), omega (arith, ints, le, h))

if-more : (m n : ℕ) (price : Option Price) → m ≤ n → IfSome price (λ price. IsAtMost m price.0) → IfSome price (λ price. IsAtMost n price.0)
if-more m n None le h = tt
if-more m n (Some price) le h = at-most-more m n price.0 le h

order-more : (m n : ℕ) (o : Order) (b : Bool) → m ≤ n → IsOrderIf b m o → IsOrderIf b n o
order-more m n o true le h = record {
  quantity = at-most-more m n o.quantity.0 le h.quantity;
  price = if-more m n o.price le h.price;
  limit = if-more m n o.limit le h.limit;
}
order-more m n o false le h = h

orders-more : (m n : ℕ) (xs : List Order) → m ≤ n → Each (λ o. IsOrder m o) xs → Each (λ o. IsOrder n o) xs
orders-more m n [] le all = tt
orders-more m n (x ∷ xs) le all = (order-more m n x (is_refused x.state) le all.0, orders-more m n xs le all.1)

range-more : (m n : ℕ) (book : Book) → m ≤ n → IsInRange m book → IsInRange n book
range-more m n book le r = record {
  start = r.start;
  costs = r.costs;
  leverage = r.leverage;
  marks = r.marks;
  orders = orders-more m n book.orders le r.orders;
  few = r.few;
  numbered = r.numbered;
  fills = r.fills;
  filled = r.filled;
}

abbrev size_if : Option Price → ℕ
size_if None = 0
size_if (Some price) = unsigned_abs price.0

-- all that a command asks for lies within this number, and what some commands ask for within the sum
abbrev size_of : Command → ℕ
size_of (command.Mark at symbol bar) = 0
size_of (command.Match at) = 0
size_of (command.Submit at request) = unsigned_abs request.quantity.0 + size_if request.price + size_if request.limit
size_of (command.Update at id price) = 0
size_of (command.Cancel at id) = 0
size_of (command.Account at) = 0

abbrev sizes : List Command → ℕ
sizes [] = 0
sizes (c ∷ cs) = size_of c + sizes cs

within-size : (most : ℕ) (z : ℤ) → unsigned_abs z ≤ most → IsAtMost most z
within-size most (pos n) le = (omega (arith, ints), omega (arith, ints, le))
within-size most (negsuc n) le = (omega (arith, ints, le), omega (arith, ints))

within-size-if : (most : ℕ) (price : Option Price) → size_if price ≤ most → IfSome price (λ price. IsAtMost most price.0)
within-size-if most None le = tt
within-size-if most (Some price) le = within-size most price.0 le

fitting-numbers : (most : ℕ) (c : Command) → IsFitting c → size_of c ≤ most → HasNumbers most c
fitting-numbers most (command.Mark at symbol bar) fits le = fits.1
fitting-numbers most (command.Match at) fits le = tt
fitting-numbers most (command.Submit at request) fits le = record {
  quantity = within-size most request.quantity.0 (omega (arith, le));
  price = within-size-if most request.price (omega (arith, le));
  limit = within-size-if most request.limit (omega (arith, le));
}
fitting-numbers most (command.Update at id price) fits le = tt
fitting-numbers most (command.Cancel at id) fits le = tt
fitting-numbers most (command.Account at) fits le = tt

all-numbers : (most : ℕ) (cs : List Command) → Each (λ c. IsFitting c) cs → sizes cs ≤ most → Each (λ c. HasNumbers most c) cs
all-numbers most [] fits le = tt
all-numbers most (c ∷ cs) fits le =
    (fitting-numbers most c fits.0 (omega (arith, le)), all-numbers most cs fits.1 (omega (arith, le)))

-- ---- a book behind commands that fit

module _ (book : Book) (cs : List Command) (ranged : Ranged book) (fits : Each (λ c. IsFitting c) cs)
    (room : length book.orders + submitted cs ≤ most_orders) where
  in-range : IsInRange (ranged.0 + sizes cs) book
  in-range = range-more ranged.0 (ranged.0 + sizes cs) book (omega arith) ranged.1

  has-numbers : Each (λ c. HasNumbers (ranged.0 + sizes cs) c) cs
  has-numbers = all-numbers (ranged.0 + sizes cs) cs fits (omega arith)

  pub ranged-after : Ranged (after book cs)
  ranged-after = (ranged.0 + sizes cs, commands-range (ranged.0 + sizes cs) book cs in-range has-numbers room)

  pub few-after : length (after book cs).orders ≤ length book.orders + submitted cs
  few-after = commands-count (ranged.0 + sizes cs) book cs in-range has-numbers room

  pub in-range-replies : (at : ℤ) → Each (λ c. moment_of c ≡ at) cs → Each (λ r. IsReply at r) (replies book cs)
  in-range-replies at same = commands-replies (ranged.0 + sizes cs) at book cs in-range has-numbers room same

pub seen-numbered : (book : Book) (cs : List Command) → AreNumbered 1 book.orders
    → fold learnt (fold given_out (seen_of book) cs) (replies book cs) ≡ seen_of (after book cs)
seen-numbered = commands-told

pub ranged-numbered : (book : Book) → Ranged book → AreNumbered 1 book.orders
ranged-numbered book ranged = ranged.1.numbered

pub seen-after : (book : Book) (cs : List Command) → Ranged book
    → fold learnt (fold given_out (seen_of book) cs) (replies book cs) ≡ seen_of (after book cs)
seen-after book cs ranged = commands-told book cs (ranged-numbered book ranged)

-- a book has no more fills than orders may be given
pub few-fills : (book : Book) → Ranged book → length book.fills ≤ most_orders
few-fills book ranged = (book-money ranged.0 book ranged.1).few

-- ---- replies

-- no fill is forgotten
what-grows : (seen : Seen) (id : ℕ) (symbol : Option (List ℕ)) (w : What) → length seen.fills ≤ length (what_learnt seen id symbol w).fills
what-grows seen id None w = omega arith
what-grows seen id (Some symbol) (what.Submitted kind quantity price limit) = omega arith
what-grows seen id (Some symbol) (what.Updated price) = omega arith
what-grows seen id (Some symbol) (what.Filled fill) = omega (arith, length-append seen.fills (fill ∷ []))
what-grows seen id (Some symbol) what.Canceled = omega arith
what-grows seen id (Some symbol) (what.Invalid cause) = omega arith

reply-grows : (seen : Seen) (r : Reply) → length seen.fills ≤ length (learnt seen r).fills
reply-grows seen (reply.Event event) = what-grows seen event.id event.symbol event.what
reply-grows seen (reply.Account cash equity) = omega arith
reply-grows seen reply.Done = omega arith

fills-grow : (seen : Seen) (rs : List Reply) → length seen.fills ≤ length (fold learnt seen rs).fills
fills-grow seen [] = omega arith
fills-grow seen (r ∷ rs) = omega (arith, reply-grows seen r, fills-grow (learnt seen r) rs)

-- a fill can be learnt where there are not too many behind it
can-learn : (seen : Seen) (id : ℕ) (symbol : Option (List ℕ)) (w : What) → IsWhatOf symbol w
    → length (what_learnt seen id symbol w).fills ≤ most_orders → CanBeLearnt seen symbol w
can-learn seen id None w is few = tt
can-learn seen id (Some symbol) (what.Submitted kind quantity price limit) is few = tt
can-learn seen id (Some symbol) (what.Updated price) is few = tt
can-learn seen id (Some symbol) (what.Filled fill) is few = (is.0, omega (arith, few, length-append seen.fills (fill ∷ [])))
can-learn seen id (Some symbol) what.Canceled is few = tt
can-learn seen id (Some symbol) (what.Invalid cause) is few = tt

pub can-hear : (at : ℤ) (seen : Seen) (r : Reply) → IsPrintedMoment at → IsReply at r
    → length (learnt seen r).fills ≤ most_orders → CanHear seen r
can-hear at seen (reply.Event event) printed is few =
    (subst (λ z. IsPrintedMoment z) (sym is.at) printed, can-learn seen event.id event.symbol event.what is.what few)
can-hear at seen (reply.Account cash equity) printed is few = (tt, tt)
can-hear at seen reply.Done printed is few = (tt, tt)

pub each-mid : (P : Reply → Type 0) (rs : List Reply) (r : Reply) (rest : List Reply) → Each P (rs ++ r ∷ rest) → P r
each-mid P [] r rest all = all.0
each-mid P (x ∷ rs) r rest all = each-mid P rs r rest all.1

-- each reply of a book can be heard behind those before it
pub replies-heard : (book : Book) (cs : List Command) (at : ℤ) → Ranged book → Each (λ c. IsFitting c) cs
    → Each (λ c. moment_of c ≡ at) cs → length book.orders + submitted cs ≤ most_orders → IsPrintedMoment at
    → (rs : List Reply) (r : Reply) (rest : List Reply) → replies book cs ≡ rs ++ r ∷ rest
    → CanHear (fold learnt (fold given_out (seen_of book) cs) rs) r
replies-heard book cs at ranged fits same room printed rs r rest is =
    let start : Seen = fold given_out (seen_of book) cs in
    let now : Seen = fold learnt start rs in
    let one : IsReply at r = each-mid (λ x. IsReply at x) rs r rest
    (subst (λ xs. Each (λ x. IsReply at x) xs) is (in-range-replies book cs ranged fits room at same)) in
    let all : fold learnt (learnt now r) rest ≡ seen_of (after book cs) =
    sym (fold-append learnt start rs (r ∷ rest)) ∙ (ap (fold learnt start) (sym is) ∙ seen-after book cs ranged) in
    let few : length (fold learnt (learnt now r) rest).fills ≤ most_orders =
    subst (λ (seen : Seen). length seen.fills ≤ most_orders) (sym all) (few-fills (after book cs) (ranged-after book cs ranged fits room)) in
    can-hear at now r printed one (omega (arith, few, fills-grow (learnt now r) rest))
