-- What a thread that serves a book keeps, and what it leaves when it ends.
use Rattle.std.proofs.Common.{◌≡◌, ℕ, ◌+◌, ◌<◌, ◌≤◌, Bool, true, false, if◌then◌else◌, nat_le, nat_lt, List, [], ◌∷◌, ◌++◌, length, refl, ap, sym, ◌∙◌, arith, append-nil, append_assoc, length-append}
use Rattle.std.proofs.lemmas.Bool.Decides.{nat_tests}
use Rattle.std.proofs.lemmas.List.{append_cancel_left}
use Rattle.lean_orders.specs.declared.desk.Command.{Command}
use Rattle.lean_orders.specs.declared.desk.Reply.{Reply}
use Rattle.lean_orders.specs.declared.desk.Reply.TheVariants.{Event, Account, Done}
use Rattle.clock_book.specs.Books.{Book}
use Rattle.clock_book.specs.Handled.{handled, after as after_all, replies as all_replies}
use Rattle.order_book.specs.Kept.{Kept}
use Rattle.order_book.specs.Stands.{StandsFor}
use Rattle.order_desk.specs.Heard.{told_after, most_told}
use Rattle.order_desk.specs.Owed.{is_whole}
use Rattle.order_desk.specs.Served.{dones}
use Rattle.order_desk.specs.Told.{tell, tells}
use Rattle.order_desk.specs.Serving.{Live, Leaves, RanOn, Ended}
use Rattle.order_desk.specs.declared.server.Server.{Server}
use Rattle.order_desk.proofs.OwedLemmas.{both_true, whole-append, handled-whole}
use Rattle.order_desk.proofs.ReplyLemmas.{after-more, replies-more, dones-replies, dones-append}

if_same : {A : Type 0} (b : Bool) (x : A) → (if b then x else x) ≡ x
if_same true x = refl
if_same false x = refl

lt-true : (m n : ℕ) → m < n → nat_lt m n ≡ true
lt-true m n h = grind (arith, nat_tests)

below : (told : ℕ) → nat_le (told + 1) most_told ≡ true → nat_lt told most_told ≡ true
below told few = grind (arith, nat_tests)

-- a reply of which there are not too many is heard as it is
tell-same : (told : ℕ) (x : Reply) → nat_le (told_after told x) most_told ≡ true → tell told x ≡ x
tell-same told Done few = if_same (nat_lt told most_told) Done
tell-same told (Event event) few = rw (below told few) refl
tell-same told (Account cash equity) few = rw (below told few) refl

pub tells-front : (told : ℕ) (xs ys : List Reply) → is_whole told (xs ++ ys) ≡ true → tells told xs ≡ xs
tells-front told [] ys whole = refl
tells-front told (x ∷ xs) ys whole =
    let parts = both_true (nat_le (told_after told x) most_told) (is_whole (told_after told x) (xs ++ ys)) whole in
    rw (tell-same told x parts.0) (ap (λ rest. x ∷ rest) (tells-front (told_after told x) xs ys parts.1))

-- a command was handled, and its replies are to be sent
pub live-more : (old new : Kept) (left next : List Reply) (taken taken' : List Command) (sent : List Reply) (c : Command) (s : Book)
    → taken' ≡ taken ++ c ∷ []
    → ((b : Book) → StandsFor old b → StandsFor new (handled b c).book)
    → ((b : Book) → StandsFor old b → next ≡ left ++ (handled b c).replies)
    → (more : List Reply) × (next ≡ left ++ more) × (length more ≤ most_told + 1)
    → Live old left taken sent s → Live new next taken' sent s
live-more old new left next taken taken' sent c s more stands replies grows live =
    let b = after_all s taken in
    let r = (handled b c).replies in
    let is : next ≡ left ++ r = replies b live.stands in
    let same : r ≡ grows.0 = append_cancel_left left r grows.0 (sym is ∙ grows.1) in
    record {
      stands = rw (more, after-more s taken c) (stands b live.stands);
      split = ap (all_replies s) more ∙ replies-more s taken c ∙ ap (λ x. x ++ r) live.split ∙ append_assoc sent left r ∙ ap (λ x. sent ++ x) (sym is);
      few = rw (more, replies-more s taken c) (whole-append 0 (all_replies s taken) r live.few (handled-whole b c (omega (arith, grows.2, ap length same))));
    }

-- a thread that is told to stop
pub live-left : (kept : Kept) (left : List Reply) (taken : List Command) (sent : List Reply) (s : Book) → Live kept left taken sent s → Leaves kept taken sent s
live-left kept left taken sent s live = record {
  front = (left, live.split);
  told = tells-front 0 sent left (ap (is_whole 0) (sym live.split) ∙ live.few);
  whole = λ all. live.stands;
}

-- a thread that took a command and did not handle it
pub left-taken : (old new : Kept) (left : List Reply) (taken taken' : List Command) (sent : List Reply) (c : Command) (s : Book)
    → taken' ≡ taken ++ c ∷ [] → left ≡ [] → Live old left taken sent s → Leaves new taken' sent s
left-taken old new left taken taken' sent c s more none live =
    let r = (handled (after_all s taken) c).replies in
    let sends : all_replies s taken ≡ sent = live.split ∙ ap (λ x. sent ++ x) none ∙ append-nil sent in
    let split : all_replies s taken' ≡ sent ++ r = ap (all_replies s) more ∙ replies-more s taken c ∙ ap (λ x. x ++ r) sends in
    let count : length taken' ≡ length taken + 1 = omega (arith, ap length more, length-append taken (c ∷ [])) in
    record {
      front = (r, split);
      told = tells-front 0 sent left (ap (is_whole 0) (sym live.split) ∙ live.few);
      whole = λ all. absurd (omega (arith, count, ap dones all, dones-replies s taken', ap dones sends, dones-replies s taken));
    }

module _ {G : Type 0} where
  pub ran-then : (a b c : Server G) → RanOn a b → RanOn b c → RanOn a c
  ran-then a b c first second = record {
    lanes = record { commands = second.lanes.commands ∙ first.lanes.commands; replies = second.lanes.replies ∙ first.lanes.replies };
    live = λ s h. second.live s (first.live s h);
  }

  pub ended-then : (a b c : Server G) → RanOn a b → Ended b c → Ended a c
  ended-then a b c first second = record {
    lanes = record { commands = second.lanes.commands ∙ first.lanes.commands; replies = second.lanes.replies ∙ first.lanes.replies };
    left = λ s h. second.left s (first.live s h);
  }

  pub ended-now : (a b : Server G) → RanOn a b → Ended a b
  ended-now a b ran = record { lanes = ran.lanes; left = λ s h. live-left _ _ _ _ s (ran.live s h) }
