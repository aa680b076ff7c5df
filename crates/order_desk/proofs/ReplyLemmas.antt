-- The replies of a book to some commands and to more of them, and how far they were heard.
use Rattle.std.proofs.Common.{◌≡◌, ℕ, ◌+◌, ◌<◌, ◌≤◌, Bool, true, false, cond, List, [], ◌∷◌, ◌++◌, length, refl, ap, sym, ◌∙◌, arith, append-nil, append_assoc, length-append}
use Rattle.std.specs.List.{filter}
use Rattle.std.proofs.lemmas.List.{append_cancel_left}
use Rattle.std.proofs.lemmas.List.Elements.{filter-append}
use Rattle.lean_orders.specs.declared.desk.Reply.{Reply}
use Rattle.lean_orders.specs.declared.desk.Reply.TheVariants.{Done}
use Rattle.lean_orders.specs.declared.desk.Command.{Command}
use Rattle.clock_book.specs.Books.{Book}
use Rattle.clock_book.specs.Handled.{handled, after, replies}
use Rattle.order_desk.specs.Served.{is_done, dones, is_closed, Served, IsFront, IsRight}
use Rattle.order_desk.proofs.HandledLemmas.{handled-answers}

-- a book after some commands and then others
pub after-append : (s : Book) (cs ds : List Command) → after s (cs ++ ds) ≡ after (after s cs) ds
unfolding after
after-append s [] ds = refl
after-append s (c ∷ cs) ds = after-append (handled s c).book cs ds

pub replies-append : (s : Book) (cs ds : List Command) → replies s (cs ++ ds) ≡ replies s cs ++ replies (after s cs) ds
unfolding after replies
replies-append s [] ds = refl
replies-append s (c ∷ cs) ds =
    ap (λ x. (handled s c).replies ++ x) (replies-append (handled s c).book cs ds)
    ∙ sym (append_assoc (handled s c).replies (replies (handled s c).book cs) (replies (after (handled s c).book cs) ds))

-- and after one more
after-one : (s : Book) (c : Command) → after s (c ∷ []) ≡ (handled s c).book
unfolding after
after-one s c = refl

replies-one : (s : Book) (c : Command) → replies s (c ∷ []) ≡ (handled s c).replies
unfolding replies
replies-one s c = append-nil (handled s c).replies

pub after-more : (s : Book) (cs : List Command) (c : Command) → after s (cs ++ c ∷ []) ≡ (handled (after s cs) c).book
after-more s cs c = after-append s cs (c ∷ []) ∙ after-one (after s cs) c

pub replies-more : (s : Book) (cs : List Command) (c : Command) → replies s (cs ++ c ∷ []) ≡ replies s cs ++ (handled (after s cs) c).replies
replies-more s cs c = replies-append s cs (c ∷ []) ∙ ap (λ x. replies s cs ++ x) (replies-one (after s cs) c)

-- before any command
pub after-none : (s : Book) → after s [] ≡ s
unfolding after
after-none s = refl

pub replies-none : (s : Book) → replies s [] ≡ []
unfolding replies
replies-none s = refl

-- replies that are put together
pub dones-append : (xs ys : List Reply) → dones (xs ++ ys) ≡ dones xs + dones ys
dones-append xs ys = ap length (filter-append is_done xs ys) ∙ length-append (filter is_done xs) (filter is_done ys)

-- a reply counts for one where it is `Done`
abbrev pub weight : Reply → ℕ
weight x = cond (is_done x) 1 0

if_dones : (b : Bool) (x : Reply) (xs : List Reply) → length (cond b (x ∷ filter is_done xs) (filter is_done xs)) ≡ cond b 1 0 + dones xs
if_dones true x xs = omega arith
if_dones false x xs = omega arith

pub dones-cons : (x : Reply) (xs : List Reply) → dones (x ∷ xs) ≡ weight x + dones xs
dones-cons x xs = if_dones (is_done x) x xs

pub closed-append : (xs : List Reply) (y : Reply) (ys : List Reply) → is_closed (xs ++ y ∷ ys) ≡ is_closed (y ∷ ys)
closed-append [] y ys = refl
closed-append (x ∷ []) y ys = refl
closed-append (x ∷ z ∷ xs) y ys = closed-append (z ∷ xs) y ys

pub closed-both : (xs ys : List Reply) → is_closed xs ≡ true → is_closed ys ≡ true → is_closed (xs ++ ys) ≡ true
closed-both xs [] first second = ap is_closed (append-nil xs) ∙ first
closed-both xs (y ∷ ys) first second = closed-append xs y ys ∙ second

pub closed-rest : (xs ys : List Reply) → is_closed (xs ++ ys) ≡ true → is_closed ys ≡ true
closed-rest xs [] closed = refl
closed-rest xs (y ∷ ys) closed = sym (closed-append xs y ys) ∙ closed

pub closed-tail : (x : Reply) (xs : List Reply) → is_closed (x ∷ xs) ≡ true → is_closed xs ≡ true
closed-tail x xs closed = closed-rest (x ∷ []) xs closed

weight-of : (x : Reply) → is_done x ≡ true → weight x ≡ 1
weight-of x done = rw done refl

-- where a reply is to come, a `Done` is
pub done-to_come : (x : Reply) (xs : List Reply) → is_closed (x ∷ xs) ≡ true → 1 ≤ dones (x ∷ xs)
done-to_come x [] closed = omega (arith, dones-cons x [], weight-of x closed)
done-to_come x (y ∷ xs) closed = omega (arith, dones-cons x (y ∷ xs), done-to_come y xs closed)

-- of one command
pub handled-dones : (s : Book) (c : Command) → dones (handled s c).replies ≡ 1
handled-dones s c =
    let a = handled-answers s c in
    ap dones a.is ∙ dones-append a.events (Done ∷ []) ∙ ap (λ n. n + 1) a.none_done

pub handled-closed : (s : Book) (c : Command) → is_closed (handled s c).replies ≡ true
handled-closed s c = let a = handled-answers s c in ap is_closed a.is ∙ closed-append a.events Done []

-- of all commands
pub dones-replies : (s : Book) (cs : List Command) → dones (replies s cs) ≡ length cs
unfolding replies
dones-replies s [] = refl
dones-replies s (c ∷ cs) =
    omega (arith, dones-append (handled s c).replies (replies (handled s c).book cs), handled-dones s c, dones-replies (handled s c).book cs)

pub closed-replies : (s : Book) (cs : List Command) → is_closed (replies s cs) ≡ true
unfolding replies
closed-replies s [] = refl
closed-replies s (c ∷ cs) = closed-both (handled s c).replies (replies (handled s c).book cs) (handled-closed s c) (closed-replies (handled s c).book cs)

same_weight : (x y : Reply) → x ≡ y → weight x ≡ weight y
same_weight x y e = ap weight e

-- two fronts of one list that are done as often, and nothing in part, are the same
abbrev pub head_of : Reply → List Reply → Reply
head_of x [] = x
head_of x (y ∷ ys) = y

abbrev pub tail_of : List Reply → List Reply
tail_of [] = []
tail_of (y ∷ ys) = ys

pub same-front : (xs xs' ys ys' : List Reply) → xs ++ ys ≡ xs' ++ ys' → dones xs ≡ dones xs' → is_closed xs ≡ true → is_closed xs' ≡ true → xs ≡ xs'
same-front [] [] ys ys' is same closed closed' = refl
same-front [] (x' ∷ xs') ys ys' is same closed closed' = absurd (omega (arith, same, done-to_come x' xs' closed'))
same-front (x ∷ xs) [] ys ys' is same closed closed' = absurd (omega (arith, same, done-to_come x xs closed))
same-front (x ∷ xs) (x' ∷ xs') ys ys' is same closed closed' =
    let head : x ≡ x' = ap (head_of x) is in
    let tails : xs ++ ys ≡ xs' ++ ys' = ap tail_of is in
    let count : weight x + dones xs ≡ weight x' + dones xs' = sym (dones-cons x xs) ∙ same ∙ dones-cons x' xs' in
    let counts : dones xs ≡ dones xs' = omega (arith, same_weight x x' head, count) in
    let rest : xs ≡ xs' = same-front xs xs' ys ys' tails counts (closed-tail x xs closed) (closed-tail x' xs' closed') in
    cc

-- replies that serve all commands are the book's, if they are right at all
pub served-is : (s : Book) (cs : List Command) (rs : List Reply) → Served cs rs → IsRight s cs rs → rs ≡ replies s cs
served-is s cs rs served right =
    same-front rs (replies s cs) right.1.0 (replies (after s cs) right.0) (sym right.1.1 ∙ replies-append s cs right.0)
    (served.each ∙ sym (dones-replies s cs)) served.closed (closed-replies s cs)

-- what was right later was right before
pub right-before : (s : Book) (cs ds : List Command) (rs more : List Reply) → IsRight s (cs ++ ds) (rs ++ more) → IsRight s cs rs
right-before s cs ds rs more right =
    (ds ++ right.0, (more ++ right.1.0, ap (replies s) (sym (append_assoc cs ds right.0)) ∙ right.1.1 ∙ append_assoc rs more right.1.0))

-- behind commands that are served the rest is right by itself
pub right-after : (s : Book) (cs ds : List Command) (rs more : List Reply) → Served cs rs → IsRight s (cs ++ ds) (rs ++ more) → IsRight (after s cs) ds more
right-after s cs ds rs more served right =
    let whole : rs ≡ replies s cs = served-is s cs rs served (right-before s cs ds rs more right) in
    let split : rs ++ replies (after s cs) (ds ++ right.0) ≡ rs ++ (more ++ right.1.0)
    = ap (λ x. x ++ replies (after s cs) (ds ++ right.0)) whole ∙ sym (replies-append s cs (ds ++ right.0))
    ∙ ap (replies s) (sym (append_assoc cs ds right.0)) ∙ right.1.1 ∙ append_assoc rs more right.1.0 in
    (right.0, (right.1.0, append_cancel_left rs (replies (after s cs) (ds ++ right.0)) (more ++ right.1.0) split))

-- a front of the replies is right
pub right-now : (s : Book) (cs : List Command) (rs : List Reply) → IsFront s cs rs → IsRight s cs rs
right-now s cs rs front = ([], (front.0, ap (replies s) (append-nil cs) ∙ front.1))

-- behind commands that are served the rest is served by itself
pub served-rest : (cs ds : List Command) (rs more : List Reply) → Served cs rs → Served (cs ++ ds) (rs ++ more) → Served ds more
served-rest cs ds rs more first both = record {
  each = omega (arith, first.each, both.each, dones-append rs more, length-append cs ds);
  closed = closed-rest rs more both.closed;
}

-- a reply is to come only where a command is not done
pub more-to-come : (s : Book) (cs : List Command) (rs : List Reply) (r : Reply) (rest : List Reply) → replies s cs ≡ rs ++ r ∷ rest → dones rs < length cs
more-to-come s cs rs r rest is =
    let closed : is_closed (r ∷ rest) ≡ true = closed-rest rs (r ∷ rest) (ap is_closed (sym is) ∙ closed-replies s cs) in
    omega (arith, done-to_come r rest closed, sym (dones-replies s cs) ∙ ap dones is ∙ dones-append rs (r ∷ rest))

whole_by : (s : Book) (cs : List Command) (rs rest : List Reply) → replies s cs ≡ rs ++ rest → dones rs ≡ length cs → replies s cs ≡ rs
whole_by s cs rs [] is all = is ∙ append-nil rs
whole_by s cs rs (r ∷ rest) is all = absurd (omega (arith, all, more-to-come s cs rs r rest is))

-- a front in which every command is done is all
pub whole-is : (s : Book) (cs : List Command) (rs : List Reply) → IsFront s cs rs → dones rs ≡ length cs → replies s cs ≡ rs
whole-is s cs rs front all = whole_by s cs rs front.0 front.1 all

-- the book's replies serve the commands
pub served-replies : (s : Book) (cs : List Command) → Served cs (replies s cs)
served-replies s cs = record { each = dones-replies s cs; closed = closed-replies s cs }
