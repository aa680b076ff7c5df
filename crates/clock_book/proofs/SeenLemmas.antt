-- What is learnt from the replies of a book is what can be seen of it.
use Rattle.std.proofs.Common.{◌≡◌, ℕ, ◌+◌, ◌<◌, ◌≤◌, ◌==◌, Bool, true, false, cond, List, [], ◌∷◌, ◌++◌, length, map, filter, Option, Some, None, refl, sym, ap, ◌∙◌, arith}
use Rattle.std.specs.Prelude.{not, if◌then◌else◌}
use Rattle.std.specs.List.{find, fold}
use Rattle.std.proofs.lemmas.Bool.Decides.{nat_tests}
use Rattle.std.proofs.lemmas.List.{map-append}
use Rattle.std.proofs.lemmas.List.Elements.{filter-append}
use Rattle.std.proofs.lemmas.Option.{none-some, same_Some}
use Rattle.lean_orders.specs.declared.order.Order.{Order}
use Rattle.lean_orders.specs.declared.order.Resting.{Resting}
use Rattle.lean_orders.specs.declared.event.What.{What}
use Rattle.lean_orders.specs.declared.event.What.TheVariants.{Submitted, Updated, Filled, Canceled, Invalid}
use Rattle.lean_orders.specs.declared.desk.Reply.{Reply}
use Rattle.lean_orders.specs.declared.desk.Reply.TheVariants as reply
use Rattle.lean_orders.specs.declared.desk.Command.{Command}
use Rattle.lean_orders.specs.declared.desk.Command.TheVariants as command
use Rattle.portfolio.specs.Sums as sums
use Rattle.clock_book.specs.Books.{is_live}
use Rattle.clock_book.specs.Handled.{replaced}
use Rattle.clock_book.specs.Seen.{resting_of, live_of, Seen, without_id, what_learnt, learnt, given_out, AreNumbered}

-- ---- what is given out and what is learnt do not meet

abbrev marked : sums.Mark → Seen → Seen
marked mark seen = record seen { marks = seen.marks ++ mark ∷ [] }

what-marked : (mark : sums.Mark) (seen : Seen) (id : ℕ) (symbol : Option (List ℕ)) (what : What)
    → what_learnt (marked mark seen) id symbol what ≡ marked mark (what_learnt seen id symbol what)
what-marked mark seen id None what = refl
what-marked mark seen id (Some symbol) (Submitted kind quantity price limit) = refl
what-marked mark seen id (Some symbol) (Updated price) = refl
what-marked mark seen id (Some symbol) (Filled fill) = refl
what-marked mark seen id (Some symbol) Canceled = refl
what-marked mark seen id (Some symbol) (Invalid cause) = refl

learnt-marked : (mark : sums.Mark) (seen : Seen) (r : Reply) → learnt (marked mark seen) r ≡ marked mark (learnt seen r)
learnt-marked mark seen (reply.Event event) = what-marked mark seen event.id event.symbol event.what
learnt-marked mark seen (reply.Account cash equity) = refl
learnt-marked mark seen reply.Done = refl

all-marked : (mark : sums.Mark) (seen : Seen) (rs : List Reply) → fold learnt (marked mark seen) rs ≡ marked mark (fold learnt seen rs)
all-marked mark seen [] = refl
all-marked mark seen (r ∷ rs) = ap (λ s. fold learnt s rs) (learnt-marked mark seen r) ∙ all-marked mark (learnt seen r) rs

learnt-given : (seen : Seen) (c : Command) (rs : List Reply) → fold learnt (given_out seen c) rs ≡ given_out (fold learnt seen rs) c
learnt-given seen (command.Mark at symbol bar) rs = all-marked (record { symbol = symbol; price = bar.closing.0 }) seen rs
learnt-given seen (command.Match at) rs = refl
learnt-given seen (command.Submit at request) rs = refl
learnt-given seen (command.Update at id price) rs = refl
learnt-given seen (command.Cancel at id) rs = refl
learnt-given seen (command.Account at) rs = refl

pub learnt-all_given : (seen : Seen) (cs : List Command) (rs : List Reply) → fold learnt (fold given_out seen cs) rs ≡ fold given_out (fold learnt seen rs) cs
learnt-all_given seen [] rs = refl
learnt-all_given seen (c ∷ cs) rs =
    learnt-all_given (given_out seen c) cs rs ∙ ap (λ s. fold given_out s cs) (learnt-given seen c rs)

-- ---- ids

pub less_differs : (a b : ℕ) → a < b → (a == b) ≡ false
less_differs a b h = grind (arith, nat_tests)

pub more_differs : (a b : ℕ) → b < a → (a == b) ≡ false
more_differs a b h = grind (arith, nat_tests)

pub itself : (a : ℕ) → (a == a) ≡ true
itself a = grind (arith, nat_tests)

same_ids : (a b : ℕ) → (a == b) ≡ true → a ≡ b
same_ids a b h = grind (arith, nat_tests)

pub numbered_push : (n : ℕ) (xs : List Order) (o : Order) → AreNumbered n xs → o.id ≡ n + length xs → AreNumbered n (xs ++ o ∷ [])
numbered_push n [] o h e = (omega (arith, e), tt)
numbered_push n (x ∷ xs) o h e = (h.0, numbered_push (n + 1) xs o h.1 (omega (arith, e)))

pub numbered_map : (g : Order → Order) → ((o : Order) → (g o).id ≡ o.id) → (n : ℕ) (xs : List Order) → AreNumbered n xs → AreNumbered n (map g xs)
numbered_map g same n [] h = tt
numbered_map g same n (x ∷ xs) h = (same x ∙ h.0, numbered_map g same (n + 1) xs h.1)

pub replaced_id : (o old : Order) → (if old.id == o.id then o else old).id ≡ old.id
replaced_id o old = by (old.id == o.id) refl
  where
    by : (b : Bool) → (old.id == o.id) ≡ b → (if b then o else old).id ≡ old.id
    by true e = sym (same_ids old.id o.id e)
    by false e = refl

-- ---- live orders

pub live_push : (xs : List Order) (o : Order) → live_of (xs ++ o ∷ []) ≡ live_of xs ++ live_of (o ∷ [])
live_push xs o =
    ap (map resting_of) (filter-append (λ (o : Order). is_live o.state) xs (o ∷ []))
    ∙ map-append resting_of (filter (λ (o : Order). is_live o.state) xs) (filter (λ (o : Order). is_live o.state) (o ∷ []))

pub live_append : (xs ys : List Order) → live_of (xs ++ ys) ≡ live_of xs ++ live_of ys
live_append xs ys =
    ap (map resting_of) (filter-append (λ (o : Order). is_live o.state) xs ys)
    ∙ map-append resting_of (filter (λ (o : Order). is_live o.state) xs) (filter (λ (o : Order). is_live o.state) ys)

pub live_first : (o : Order) (xs : List Order) (b : Bool) → is_live o.state ≡ b → live_of (o ∷ xs) ≡ cond b (resting_of o ∷ live_of xs) (live_of xs)
live_first o xs true e = ap (λ b. map resting_of (cond b (o ∷ filter (λ (o : Order). is_live o.state) xs) (filter (λ (o : Order). is_live o.state) xs))) e
live_first o xs false e = ap (λ b. map resting_of (cond b (o ∷ filter (λ (o : Order). is_live o.state) xs) (filter (λ (o : Order). is_live o.state) xs))) e

pub without-append : (id : ℕ) (xs ys : List Resting) → without_id id (xs ++ ys) ≡ without_id id xs ++ without_id id ys
without-append id xs ys = filter-append (λ (order : Resting). not (order.id == id)) xs ys

pub without-first : (id : ℕ) (r : Resting) (rs : List Resting) (b : Bool) → (r.id == id) ≡ b
    → without_id id (r ∷ rs) ≡ cond (not b) (r ∷ without_id id rs) (without_id id rs)
without-first id r rs b e = ap (λ b. cond (not b) (r ∷ without_id id rs) (without_id id rs)) e

-- none of the orders has an id that is not among theirs
pub lacks : (n id : ℕ) (xs : List Order) → AreNumbered n xs → ((k : ℕ) → n ≤ k → k < n + length xs → (k == id) ≡ false)
    → without_id id (live_of xs) ≡ live_of xs
lacks n id [] h out = refl
lacks n id (x ∷ xs) h out = by (is_live x.state) refl (lacks (n + 1) id xs h.1 (λ k l m. out k (omega (arith, l)) (omega (arith, m))))
  where
    differs : (x.id == id) ≡ false
    differs = ap (λ k. k == id) h.0 ∙ out n (omega arith) (omega arith)

    by : (b : Bool) → is_live x.state ≡ b → without_id id (live_of xs) ≡ live_of xs → without_id id (live_of (x ∷ xs)) ≡ live_of (x ∷ xs)
    by true e later =
        ap (without_id id) (live_first x xs true e) ∙ without-first id (resting_of x) (live_of xs) false differs
        ∙ ap (λ rs. resting_of x ∷ rs) later ∙ sym (live_first x xs true e)
    by false e later = ap (without_id id) (live_first x xs false e) ∙ later ∙ sym (live_first x xs false e)

-- ---- the order of an id among others

pub record Parted (id : ℕ) (orders : List Order) (o : Order) : Type 0 where
  pub front : List Order
  pub back : List Order
  pub split : orders ≡ front ++ o ∷ back
  pub id_is : o.id ≡ id
  pub replaced : (other : Order) → other.id ≡ id → replaced orders other ≡ front ++ other ∷ back
  pub before : without_id id (live_of front) ≡ live_of front
  pub behind : without_id id (live_of back) ≡ live_of back

replaced-past : (n : ℕ) (xs : List Order) (o : Order) → AreNumbered n xs → o.id < n → replaced xs o ≡ xs
replaced-past n [] o h l = refl
replaced-past n (x ∷ xs) o h l =
    ap (λ b. cond b o x ∷ replaced xs o) (more_differs x.id o.id (omega (arith, h.0)))
    ∙ ap (λ ys. x ∷ ys) (replaced-past (n + 1) xs o h.1 (omega arith))

pub parted : (n id : ℕ) (xs : List Order) (o : Order) → AreNumbered n xs → find (λ x. x.id == id) xs ≡ Some o → Parted id xs o
parted n id [] o h e = absurd (none-some o e)
parted n id (x ∷ xs) o h e = by (x.id == id) refl (parted (n + 1) id xs o h.1)
  where
    by : (b : Bool) → (x.id == id) ≡ b → (find (λ x. x.id == id) xs ≡ Some o → Parted id xs o) → Parted id (x ∷ xs) o
    by true here later =
        let is : x ≡ o = same_Some x o (sym (ap (λ b. cond b (Some x) (find (λ x. x.id == id) xs)) here) ∙ e) in
        let at : x.id ≡ id = same_ids x.id id here in
        record {
          front = [];
          back = xs;
          split = ap (λ y. y ∷ xs) is;
          id_is = ap (λ (y : Order). y.id) (sym is) ∙ at;
          replaced = λ other same. ap (λ b. cond b other x ∷ replaced xs other) (ap (λ k. x.id == k) same ∙ here)
              ∙ ap (λ ys. other ∷ ys) (replaced-past (n + 1) xs other h.1 (omega (arith, h.0, at, same)));
          before = refl;
          behind = lacks (n + 1) id xs h.1 (λ k l m. more_differs k id (omega (arith, h.0, at, l)));
        }
    by false here later =
        let parts : Parted id xs o = later (sym (ap (λ b. cond b (Some x) (find (λ x. x.id == id) xs)) here) ∙ e) in
        record {
          front = x ∷ parts.front;
          back = parts.back;
          split = ap (λ ys. x ∷ ys) parts.split;
          id_is = parts.id_is;
          replaced = λ other same. ap (λ b. cond b other x ∷ replaced xs other) (ap (λ k. x.id == k) same ∙ here)
              ∙ ap (λ ys. x ∷ ys) (parts.replaced other same);
          before = first (is_live x.state) refl parts;
          behind = parts.behind;
        }
      where
        first : (b : Bool) → is_live x.state ≡ b → (parts : Parted id xs o) → without_id id (live_of (x ∷ parts.front)) ≡ live_of (x ∷ parts.front)
        first true e parts =
            ap (without_id id) (live_first x parts.front true e) ∙ without-first id (resting_of x) (live_of parts.front) false here
            ∙ ap (λ rs. resting_of x ∷ rs) parts.before ∙ sym (live_first x parts.front true e)
        first false e parts = ap (without_id id) (live_first x parts.front false e) ∙ parts.before ∙ sym (live_first x parts.front false e)
