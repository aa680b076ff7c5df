-- What a desk whose book handles each command at once owes, after one more command and after one more reply.
use Rattle.std.proofs.Common.{◌≡◌, ℕ, ◌+◌, ◌<◌, ◌≤◌, Bool, true, false, cond, if◌then◌else◌, ◌&&◌, nat_le, List, [], ◌∷◌, ◌++◌, length, refl, ap, sym, ◌∙◌, subst, arith, append_assoc, length-append}
use mathlib.Core.Bool.{Bool-set}
use mathlib.Core.HLevel.{hedberg}
use mathlib.Core.Logic.{∥∥₁_elim, ∥∥₁_map}
use native.Mathlib.Decide.{ℕ_discrete}
use Rattle.std.proofs.lemmas.Bool.Decides.{nat_tests}
use Rattle.std.proofs.lemmas.List.{append_cancel_left}
use Rattle.lean_orders.specs.declared.desk.Reply.{Reply}
use Rattle.lean_orders.specs.declared.desk.Reply.TheVariants.{Event, Account, Done}
use Rattle.lean_orders.specs.declared.desk.Command.{Command}
use Rattle.clock_book.specs.Books.{Book}
use Rattle.clock_book.specs.Fitting.{submits}
use Rattle.clock_book.specs.Handled.{handled, after as after_all, replies}
use Rattle.order_book.specs.Kept.{Kept, order_count}
use Rattle.order_book.specs.Stands.{StandsFor}
use Rattle.order_desk.specs.Served.{is_done, dones, is_closed}
use Rattle.order_desk.specs.Heard.{told_after, most_told, room_of, Counts}
use Rattle.order_desk.specs.Owed.{is_whole, StandsForSome, Owes}
use Rattle.order_desk.proofs.HandledLemmas.{handled-answers}
use Rattle.order_desk.proofs.ReplyLemmas.{after-none, replies-none, after-more, replies-more, dones-append, dones-cons, handled-dones, closed-replies, whole-is}

pub both_true : (a b : Bool) → a && b ≡ true → (a ≡ true) × (b ≡ true)
both_true true b both = (refl, both)
both_true false b both = absurd cc

and_true : (a b : Bool) → a ≡ true → b ≡ true → a && b ≡ true
and_true a b first second = rw (first, second) refl

le-true : {m n : ℕ} → m ≤ n → nat_le m n ≡ true
le-true h = grind (arith, nat_tests)

-- whole replies behind whole replies
pub whole-append : (told : ℕ) (xs ys : List Reply) → is_whole told xs ≡ true → is_whole 0 ys ≡ true → is_whole told (xs ++ ys) ≡ true
whole-append told [] ys first second =
    let none : told ≡ 0 = grind (arith, nat_tests) in
    subst (λ n. is_whole n ys ≡ true) (sym none) second
whole-append told (x ∷ xs) ys first second =
    let parts = both_true (nat_le (told_after told x) most_told) (is_whole (told_after told x) xs) first in
    and_true (nat_le (told_after told x) most_told) (is_whole (told_after told x) (xs ++ ys)) parts.0 (whole-append (told_after told x) xs ys parts.1 second)

-- the replies to one command are whole
pub whole-answer : (told : ℕ) (events : List Reply) → dones events ≡ 0 → told + length events ≤ most_told → is_whole told (events ++ Done ∷ []) ≡ true
whole-answer told [] none few = refl
whole-answer told (Event event ∷ events) none few =
    and_true (nat_le (told + 1) most_told) (is_whole (told + 1) (events ++ Done ∷ [])) (le-true (omega (arith, few))) (whole-answer (told + 1) events none (omega (arith, few)))
whole-answer told (Account cash equity ∷ events) none few =
    and_true (nat_le (told + 1) most_told) (is_whole (told + 1) (events ++ Done ∷ [])) (le-true (omega (arith, few))) (whole-answer (told + 1) events none (omega (arith, few)))
whole-answer told (Done ∷ events) none few = absurd (omega (arith, none))

-- where whole replies are to come, a `Done` is
pub whole-to_come : (told : ℕ) (x : Reply) (xs : List Reply) → is_whole told (x ∷ xs) ≡ true → 1 ≤ dones (x ∷ xs)
whole-to_come told Done xs whole = omega arith
whole-to_come told (Event event) [] whole = absurd (grind (arith, nat_tests))
whole-to_come told (Account cash equity) [] whole = absurd (grind (arith, nat_tests))
whole-to_come told (Event event) (y ∷ xs) whole = whole-to_come (told + 1) y xs (both_true (nat_le (told + 1) most_told) (is_whole (told + 1) (y ∷ xs)) whole).1
whole-to_come told (Account cash equity) (y ∷ xs) whole = whole-to_come (told + 1) y xs (both_true (nat_le (told + 1) most_told) (is_whole (told + 1) (y ∷ xs)) whole).1

pub handled-whole : (s : Book) (c : Command) → length (handled s c).replies ≤ most_told + 1 → is_whole 0 (handled s c).replies ≡ true
handled-whole s c few =
    let a = handled-answers s c in
    let count : length (a.events ++ Done ∷ []) ≡ length a.events + 1 = length-append a.events (Done ∷ []) in
    ap (is_whole 0) a.is ∙ whole-answer 0 a.events a.none_done (omega (arith, few, ap length a.is, count))

-- what a book in memory replied to a command, whatever book it stands for
pub answer-dones : (old : Kept) (c : Command) (before more : List Reply) → ∥ StandsForSome old ∥₁
    → ((s : Book) → StandsFor old s → before ++ more ≡ before ++ (handled s c).replies) → dones more ≡ 1
answer-dones old c before more some same =
    ∥∥₁_elim some (hedberg ℕ_discrete (dones more) 1)
    (λ x. ap dones (append_cancel_left before more (handled x.book c).replies (same x.book x.stands)) ∙ handled-dones x.book c)

pub answer-whole : (old : Kept) (c : Command) (before more : List Reply) → ∥ StandsForSome old ∥₁
    → ((s : Book) → StandsFor old s → before ++ more ≡ before ++ (handled s c).replies) → length more ≤ most_told + 1 → is_whole 0 more ≡ true
answer-whole old c before more some same few =
    ∥∥₁_elim some (Bool-set (is_whole 0 more) true)
    (λ x. (let is : more ≡ (handled x.book c).replies = append_cancel_left before more (handled x.book c).replies (same x.book x.stands) in
    ap (is_whole 0) is ∙ handled-whole x.book c (omega (arith, few, ap length is))))

-- a book in memory that handled a command stands for some book
pub some-handled : (old new : Kept) (c : Command) → ∥ StandsForSome old ∥₁ → ((s : Book) → StandsFor old s → StandsFor new (handled s c).book) → ∥ StandsForSome new ∥₁
some-handled old new c some handles = ∥∥₁_map some (λ x. record { book = (handled x.book c).book; stands = handles x.book x.stands })

-- a `Done` is to come of what is not done
pub due-passed : (left rest : List Reply) (r : Reply) (told answered submitted : ℕ) → left ≡ r ∷ rest
    → is_whole told left ≡ true → answered + dones left ≡ submitted → answered < submitted
due-passed left rest r told answered submitted is whole counted =
    let some : 1 ≤ dones (r ∷ rest) = whole-to_come told r rest (ap (is_whole told) (sym is) ∙ whole) in
    omega (arith, some, ap dones is, counted)

pub record IsSteady (told answered submitted : ℕ) (left : List Reply) : Type 0 where
  pub counted : answered + dones left ≡ submitted
  pub whole : is_whole told left ≡ true
  pub bounded : told ≤ most_told

-- replies to one more command behind those that are left
pub steady-more : (old : Kept) (c : Command) (xs after more : List Reply) (told answered submitted : ℕ) → ∥ StandsForSome old ∥₁ → after ≡ xs ++ more
    → ((s : Book) → StandsFor old s → after ≡ xs ++ (handled s c).replies) → length more ≤ most_told + 1
    → IsSteady told answered submitted xs → IsSteady told answered (submitted + 1) after
steady-more old c xs after more told answered submitted some grows replies few steady =
    let same = λ (s : Book) (h : StandsFor old s). sym grows ∙ replies s h in
    record {
      counted = omega (arith, steady.counted, ap dones grows, dones-append xs more, answer-dones old c xs more some same);
      whole = rw grows (whole-append told xs more steady.whole (answer-whole old c xs more some same few));
      bounded = steady.bounded;
    }

-- the numbers of a desk after one more command
pub counts-more : (old new : ℕ) (c : Command) (n answered : ℕ) (s : Book) (cs : List Command) (rs : List Reply)
    → new ≡ old + submits c → answered ≤ n
    → Counts n old answered s cs rs → Counts (n + 1) new answered s (cs ++ c ∷ []) rs
counts-more old new c n answered s cs rs ordered within counts =
    let handles = handled-answers (after_all s cs) c in
    record {
      submitted = omega (arith, counts.submitted, length-append cs (c ∷ []));
      ordered = omega (arith, ordered, counts.ordered, handles.orders, ap (λ b. length b.orders) (after-more s cs c));
      done = counts.done;
      closed = λ e. absurd (omega (arith, e, within));
    }

-- a command was handled, and its replies are left
pub owes-more : (old new : Kept) (c : Command) (xs left : List Reply) (n answered : ℕ) (s : Book) (cs : List Command) (rs : List Reply)
    → ((b : Book) → StandsFor old b → StandsFor new (handled b c).book)
    → ((b : Book) → StandsFor old b → left ≡ xs ++ (handled b c).replies) → order_count new ≡ order_count old + submits c
    → answered ≤ n → Owes old xs n answered s cs rs → Owes new left (n + 1) answered s (cs ++ c ∷ []) rs
owes-more old new c xs left n answered s cs rs stands replies ordered within owes = record {
  stands = rw (after-more s cs c) (stands (after_all s cs) owes.stands);
  split = replies-more s cs c ∙ ap (λ x. x ++ (handled (after_all s cs) c).replies) owes.split
      ∙ append_assoc rs xs (handled (after_all s cs) c).replies ∙ ap (λ x. rs ++ x) (sym (replies (after_all s cs) owes.stands));
  counts = counts-more (order_count old) (order_count new) c n answered s cs rs ordered within owes.counts;
}

closed_where_all : (s : Book) (cs : List Command) (rs left : List Reply) → replies s cs ≡ rs ++ left → dones rs ≡ length cs → is_closed rs ≡ true
closed_where_all s cs rs left split all =
    let whole : replies s cs ≡ rs = whole-is s cs rs (left, split) all in
    ap is_closed (sym whole) ∙ closed-replies s cs

pub if_weight : (b : Bool) (answered : ℕ) → (if b then answered + 1 else answered) ≡ answered + cond b 1 0
if_weight true answered = refl
if_weight false answered = omega arith

-- a reply was heard, and the others are left
pub owes-less : (kept : Kept) (r : Reply) (xs left : List Reply) (n answered : ℕ) (s : Book) (cs : List Command) (rs : List Reply) → xs ≡ r ∷ left
    → Owes kept xs n answered s cs rs → Owes kept left n (if is_done r then answered + 1 else answered) s cs (rs ++ r ∷ [])
owes-less kept r xs left n answered s cs rs is owes =
    let split : replies s cs ≡ (rs ++ r ∷ []) ++ left = owes.split ∙ ap (λ x. rs ++ x) is ∙ sym (append_assoc rs (r ∷ []) left) in
    let done : (if is_done r then answered + 1 else answered) ≡ dones (rs ++ r ∷ []) =
    omega (arith, owes.counts.done, dones-append rs (r ∷ []), dones-cons r [], if_weight (is_done r) answered) in
    record {
      stands = owes.stands;
      split = split;
      counts = record {
        submitted = owes.counts.submitted;
        ordered = owes.counts.ordered;
        done = done;
        closed = λ all. closed_where_all s cs (rs ++ r ∷ []) left split (omega (arith, all, done, owes.counts.submitted));
      };
    }

-- where every command is done, all replies were heard
pub owes-none : (kept : Kept) (left : List Reply) (n answered : ℕ) (s : Book) (cs : List Command) (rs : List Reply)
    → Owes kept left n answered s cs rs → answered ≡ n → replies s cs ≡ rs
owes-none kept left n answered s cs rs owes all =
    whole-is s cs rs (left, owes.split) (omega (arith, all, owes.counts.done, owes.counts.submitted))

-- a new desk owes nothing
pub owes-new : (kept : Kept) (s : Book) → StandsFor kept s → Owes kept [] 0 0 s [] []
owes-new kept s stands = record {
  stands = rw (after-none s) stands;
  split = replies-none s;
  counts = record {
    submitted = refl;
    ordered = ap length (stands.orders ∙ ap (λ b. b.orders) (sym (after-none s)));
    done = refl;
    closed = λ all. refl;
  };
}

-- fewer replies can be heard behind one
pub room-less : (b : Bool) (n answered told : ℕ) → answered < n → told ≤ most_told
    → room_of n (if b then answered + 1 else answered) (if b then 0 else told + 1) < room_of n answered told
room-less true n answered told due bounded = omega (arith, due, bounded)
room-less false n answered told due bounded = omega (arith, due, bounded)
