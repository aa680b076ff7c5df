-- What a caller submitted and heard, after one more.
use Rattle.std.proofs.Common.{◌≡◌, ℕ, suc, ◌+◌, ◌≤◌, Bool, true, false, if◌then◌else◌, List, [], ◌∷◌, ◌++◌, length, get_or, cond, not, ◌||◌, ◌⊎◌, inl, inr, refl, ap, sym, ◌∙◌, subst, arith, length-append}
use Rattle.std.specs.List.{All}
use Rattle.std.proofs.Math.ListN.{get_or-append}
use Rattle.std.proofs.lemmas.Bool.{false≢true}
use Rattle.lean_orders.specs.declared.desk.Command.{Command}
use Rattle.lean_orders.specs.declared.desk.Command.TheVariants.{Mark, Match, Submit, Update, Cancel, Account}
use Rattle.lean_orders.specs.declared.desk.Heard.{Heard}
use Rattle.lean_orders.specs.declared.desk.Reply.{Reply}
use Rattle.clock_book.specs.Fitting.{submits, HasRoom, most_orders}
use Rattle.order_desk.specs.Served.{is_done, dones}
use Rattle.order_desk.proofs.ReplyLemmas.{dones-append, dones-cons}
use Rattle.desk_tests.specs.Calls.{orders_of, replies_of, ticketed}

pub orders-append : (xs ys : List Command) → orders_of (xs ++ ys) ≡ orders_of xs + orders_of ys
orders-append [] ys = omega arith
orders-append (x ∷ xs) ys = omega (arith, orders-append xs ys)

pub orders-push : (xs : List Command) (c : Command) → orders_of (xs ++ c ∷ []) ≡ orders_of xs + submits c
orders-push xs c = orders-append xs (c ∷ []) ∙ omega arith

-- a command has room where the orders that it makes have
pub room-for : (n : ℕ) (c : Command) → n + submits c ≤ most_orders → HasRoom n c
room-for n c room = λ one. omega (arith, room, one)

-- one more command makes at most one order
one_order : (c : Command) → submits c ≤ 1
one_order (Mark at symbol bar) = omega arith
one_order (Match at) = omega arith
one_order (Submit at request) = omega arith
one_order (Update at id price) = omega arith
one_order (Cancel at id) = omega arith
one_order (Account at) = omega arith

pub orders_more : (xs : List Command) (c : Command) → orders_of (xs ++ c ∷ []) ≤ orders_of xs + 1
orders_more xs c = omega (arith, orders-push xs c, one_order c)

-- the next of some commands, where those before it are submitted
pub room-next : (all sent rest : List Command) (c : Command) (orders : ℕ) → sent ++ c ∷ rest ≡ all → orders + orders_of all ≤ most_orders
    → HasRoom (orders + orders_of sent) c
room-next all sent rest c orders split room =
    room-for (orders + orders_of sent) c (omega (arith, room, ap orders_of split, orders-append sent (c ∷ rest)))

pub replies-push : (heard : List Heard) (x : Heard) → replies_of (heard ++ x ∷ []) ≡ replies_of heard ++ x.reply ∷ []
replies-push [] x = refl
replies-push (y ∷ heard) x = ap (λ rs. y.reply ∷ rs) (replies-push heard x)

pub replies-both : (xs ys : List Heard) → replies_of (xs ++ ys) ≡ replies_of xs ++ replies_of ys
replies-both [] ys = refl
replies-both (x ∷ xs) ys = ap (λ rs. x.reply ∷ rs) (replies-both xs ys)

if_ticket : (b : Bool) (n d : ℕ) (rs : List Reply) → (if b then n + 1 else n) + d ≡ n + (if b then 1 else 0) + d
if_ticket true n d rs = omega arith
if_ticket false n d rs = omega arith

pub ticketed-append : (n : ℕ) (xs ys : List Reply) → ticketed n (xs ++ ys) ≡ ticketed n xs ++ ticketed (n + dones xs) ys
ticketed-append n [] ys = ap (λ k. ticketed k ys) (omega arith)
ticketed-append n (x ∷ xs) ys =
    let k = if is_done x then n + 1 else n in
    let e : k + dones xs ≡ n + dones (x ∷ xs) = omega (arith, if_ticket (is_done x) n (dones xs) xs, dones-cons x xs) in
    ap (λ l. record { ticket = record { 0 = n }; reply = x } ∷ l) (ticketed-append k xs ys ∙ ap (λ m. ticketed k xs ++ ticketed m ys) e)

-- one more reply of the next ticket
pub ticketed-push : (n now : ℕ) (heard : List Heard) (x : Heard) → heard ≡ ticketed (n + 1) (replies_of heard)
    → now ≡ n + dones (replies_of heard) → x.ticket.0 ≡ now + 1
    → heard ++ x ∷ [] ≡ ticketed (n + 1) (replies_of (heard ++ x ∷ []))
ticketed-push n now heard x tickets count ticket =
    let k : x.ticket.0 ≡ n + 1 + dones (replies_of heard) = omega (arith, ticket, count) in
    ap (λ l. l ++ x ∷ []) tickets
    ∙ ap (λ m. ticketed (n + 1) (replies_of heard) ++ record { ticket = record { 0 = m }; reply = x.reply } ∷ []) k
    ∙ sym (ticketed-append (n + 1) (replies_of heard) (x.reply ∷ [])) ∙ ap (ticketed (n + 1)) (sym (replies-push heard x))

if_done : (b : Bool) (now : ℕ) → (if b then now + 1 else now) ≡ now + cond b 1 0
if_done true now = refl
if_done false now = omega arith

pub answered-push : (n now new : ℕ) (heard : List Heard) (x : Heard) → now ≡ n + dones (replies_of heard)
    → new ≡ (if is_done x.reply then now + 1 else now) → new ≡ n + dones (replies_of (heard ++ x ∷ []))
answered-push n now new heard x count one =
    omega (
      arith,
      count,
      one,
      if_done (is_done x.reply) now,
      ap dones (replies-push heard x),
      dones-append (replies_of heard) (x.reply ∷ []),
      dones-cons x.reply [],
    )

-- a reply was kept, and none was lost before
pub record Keeps (lost : Bool) (xs now : List Heard) (x : Heard) : Type 0 where
  pub before : lost ≡ false
  pub items : now ≡ xs ++ x ∷ []

pub keeps : (lost err ok : Bool) (xs now : List Heard) (x : Heard) → lost || err ≡ false → ok ≡ not err
    → now ≡ (if ok then xs ++ x ∷ [] else xs) → Keeps lost xs now x
keeps true err ok xs now x all is items = absurd cc
keeps false true ok xs now x all is items = absurd cc
keeps false false ok xs now x all is items = record { before = refl; items = rw is at items }

pub not_starved : {P : Type 0} (b : Bool) → b ≡ false → (b ≡ true) ⊎ P → P
not_starved b fed (inl starved) = absurd (false≢true (sym fed ∙ starved))
not_starved b fed (inr p) = p

shift : (n k : ℕ) → suc n + k ≡ suc (n + k)
shift n k = omega arith

at_last : (xs ys : List Command) (d : Command) (k : ℕ) → get_or (xs ++ ys) (length xs + k) d ≡ get_or ys k d
at_last [] ys d k = ap (λ n. get_or ys n d) (omega arith)
at_last (x ∷ xs) ys d k = ap (λ n. get_or (x ∷ (xs ++ ys)) n d) (shift (length xs) k) ∙ at_last xs ys d k

-- of commands the first and the last
pub all-first : (P : Command → Type 0) (xs ys : List Command) → All P (xs ++ ys) → All P xs
all-first P xs ys all = λ k d below. subst P (get_or-append xs ys d k below) (all k d (omega (arith, below, length-append xs ys)))

pub all-last : (P : Command → Type 0) (xs ys : List Command) → All P (xs ++ ys) → All P ys
all-last P xs ys all = λ k d below. subst P (at_last xs ys d k) (all (length xs + k) d (omega (arith, below, length-append xs ys)))

-- what was heard twice, the second time from the next ticket on
pub tickets-both : (n : ℕ) (xs ys : List Heard) → xs ≡ ticketed n (replies_of xs) → ys ≡ ticketed (n + dones (replies_of xs)) (replies_of ys)
    → xs ++ ys ≡ ticketed n (replies_of (xs ++ ys))
tickets-both n xs ys first second =
    ap (λ l. l ++ ys) first ∙ ap (λ l. ticketed n (replies_of xs) ++ l) second
    ∙ sym (ticketed-append n (replies_of xs) (replies_of ys)) ∙ ap (ticketed n) (sym (replies-both xs ys))
