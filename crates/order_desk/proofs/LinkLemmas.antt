-- What a desk stands for whose book is served by a thread: after one more command, after one more reply, and when the thread has
-- ended.
use Rattle.std.proofs.Common.{◌≡◌, ℕ, ◌+◌, ◌<◌, ◌≤◌, Bool, true, false, if◌then◌else◌, List, [], ◌∷◌, ◌++◌, length, refl, ap, sym, ◌∙◌, subst, arith, append-nil, append_assoc, length-append}
use Rattle.lean_orders.specs.declared.desk.Command.{Command}
use Rattle.lean_orders.specs.declared.desk.Reply.{Reply}
use Rattle.clock_book.specs.Books.{Book}
use Rattle.clock_book.specs.Fitting.{submits}
use Rattle.clock_book.specs.Handled.{after as after_all, replies}
use Rattle.feed_queue.specs.Lanes.{sent_of, taken_of}
use Rattle.order_book.specs.Kept.{Kept}
use Rattle.order_book.specs.Stands.{StandsFor}
use Rattle.order_desk.specs.Heard.{told_after, Counts}
use Rattle.order_desk.specs.Served.{is_done, dones, is_closed, IsFront}
use Rattle.order_desk.specs.Told.{tell, tells, told_by}
use Rattle.order_desk.specs.Serving.{Leaves, IsLive}
use Rattle.order_desk.specs.Linked.{Links, Linked}
use Rattle.order_desk.specs.declared.ends.Ends.{Ends}
use Rattle.order_desk.specs.declared.lane_desk.LaneDesk.{LaneDesk}
use Rattle.order_desk.specs.declared.server.Server.{Server}
use Rattle.order_desk.proofs.OwedLemmas.{counts-more, if_weight}
use Rattle.order_desk.proofs.ReplyLemmas.{head_of, tail_of, replies-append, dones-append, dones-cons, dones-replies, closed-append, whole-is}

-- what is heard of one more reply
tells-more : (told : ℕ) (xs : List Reply) (r : Reply) → tells told (xs ++ r ∷ []) ≡ tells told xs ++ tell (told_by told xs) r ∷ []
tells-more told [] r = refl
tells-more told (x ∷ xs) r = ap (λ rest. tell told x ∷ rest) (tells-more (told_after told (tell told x)) xs r)

told-more : (told : ℕ) (xs : List Reply) (r : Reply) → told_by told (xs ++ r ∷ []) ≡ told_after (told_by told xs) (tell (told_by told xs) r)
told-more told [] r = refl
told-more told (x ∷ xs) r = told-more (told_after told (tell told x)) xs r

-- where replies are heard as they are, the first of them are
tells-part : (told : ℕ) (xs ys : List Reply) → tells told (xs ++ ys) ≡ xs ++ ys → tells told xs ≡ xs
tells-part told [] ys same = refl
tells-part told (x ∷ xs) ys same =
    let head : tell told x ≡ x = ap (head_of x) same in
    let rest : tells (told_after told (tell told x)) xs ≡ xs = tells-part (told_after told (tell told x)) xs ys (ap tail_of same) in
    cc

-- a command was sent, and perhaps some replies were taken
pub links-sent : (n orders orders' answered told : ℕ) (sent sent' : List Command) (taken taken' queue queue' : List Reply) (c : Command) (s : Book) (cs : List Command) (rs : List Reply)
    → sent' ≡ sent ++ c ∷ [] → orders' ≡ orders + submits c → answered ≤ n
    → ((xs : List Reply) → taken ≡ xs ++ queue → taken' ≡ xs ++ queue')
    → Links n orders answered told sent taken queue s cs rs → Links (n + 1) orders' answered told sent' taken' queue' s (cs ++ c ∷ []) rs
links-sent n orders orders' answered told sent sent' taken taken' queue queue' c s cs rs more ordered within keeps links = record {
  passed = links.passed;
  asked = more ∙ ap (λ x. x ++ c ∷ []) links.asked;
  split = keeps links.passed links.split;
  heard = links.heard;
  place = links.place;
  counts = counts-more orders orders' c n answered s cs rs ordered within links.counts;
}

closed_now : (b : Bool) (x : Reply) (rs : List Reply) (answered n : ℕ) → is_done x ≡ b → answered < n → (if b then answered + 1 else answered) ≡ n → is_closed (rs ++ x ∷ []) ≡ true
closed_now true x rs answered n done due all = closed-append rs x [] ∙ done
closed_now false x rs answered n done due all = absurd (omega (arith, due, all))

counts-heard : (n orders answered : ℕ) (x : Reply) (s : Book) (cs : List Command) (rs : List Reply) → answered < n
    → Counts n orders answered s cs rs → Counts n orders (if is_done x then answered + 1 else answered) s cs (rs ++ x ∷ [])
counts-heard n orders answered x s cs rs due counts = record {
  submitted = counts.submitted;
  ordered = counts.ordered;
  done = omega (arith, counts.done, dones-append rs (x ∷ []), dones-cons x [], if_weight (is_done x) answered);
  closed = λ all. closed_now (is_done x) x rs answered n refl due all;
}

-- a reply was heard
heard-next : (n orders answered told : ℕ) (sent sent' : List Command) (taken taken' queue queue' : List Reply) (r : Reply) (s : Book) (cs : List Command) (rs : List Reply)
    → sent' ≡ sent → answered < n
    → ((xs : List Reply) → taken ≡ xs ++ queue → taken' ≡ (xs ++ r ∷ []) ++ queue')
    → Links n orders answered told sent taken queue s cs rs
    → Links n orders (if is_done (tell told r) then answered + 1 else answered) (told_after told (tell told r)) sent' taken' queue' s cs (rs ++ tell told r ∷ [])
heard-next n orders answered told sent sent' taken taken' queue queue' r s cs rs same due moves links = record {
  passed = links.passed ++ r ∷ [];
  asked = same ∙ links.asked;
  split = moves links.passed links.split;
  heard = ap (λ x. x ++ tell told r ∷ []) links.heard ∙ ap (λ k. tells 0 links.passed ++ tell k r ∷ []) links.place ∙ sym (tells-more 0 links.passed r);
  place = ap (λ k. told_after k (tell k r)) links.place ∙ sym (told-more 0 links.passed r);
  counts = counts-heard n orders answered (tell told r) s cs rs due links.counts;
}

pub links-heard : (n orders answered answered' told told' : ℕ) (sent sent' : List Command) (taken taken' queue queue' : List Reply) (r x : Reply) (s : Book) (cs : List Command) (rs : List Reply)
    → sent' ≡ sent → answered < n
    → ((xs : List Reply) → taken ≡ xs ++ queue → taken' ≡ (xs ++ r ∷ []) ++ queue')
    → x ≡ tell told r → answered' ≡ (if is_done x then answered + 1 else answered) → told' ≡ told_after told x
    → Links n orders answered told sent taken queue s cs rs → Links n orders answered' told' sent' taken' queue' s cs (rs ++ x ∷ [])
links-heard n orders answered answered' told told' sent sent' taken taken' queue queue' r x s cs rs same due moves is counted place links =
    rw (counted, place, is) (heard-next n orders answered told sent sent' taken taken' queue queue' r s cs rs same due moves links)

-- What a thread that ended sent begins with what was heard.
sends : (kept : Kept) (served : List Command) (out taken passed queue rest : List Reply) (s : Book) (rs : List Reply) → Leaves kept served out s
    → out ≡ taken ++ rest → taken ≡ passed ++ queue → rs ≡ tells 0 passed → out ≡ rs ++ (queue ++ rest)
sends kept served out taken passed queue rest s rs leaves settled split heard =
    let is : out ≡ passed ++ (queue ++ rest) = settled ∙ ap (λ x. x ++ rest) split ∙ append_assoc passed queue rest in
    let told : tells 0 passed ≡ passed = tells-part 0 passed (queue ++ rest) (ap (tells 0) (sym is) ∙ leaves.told ∙ is) in
    is ∙ ap (λ x. x ++ (queue ++ rest)) (sym (heard ∙ told))

front-by : (s : Book) (cs served left : List Command) (out rs more rest : List Reply) → cs ≡ served ++ left → replies s served ≡ out ++ rest
    → out ≡ rs ++ more → replies s cs ≡ rs ++ (more ++ (rest ++ replies (after_all s served) left))
front-by s cs served left out rs more rest split front begins =
    let behind = replies (after_all s served) left in
    ap (replies s) split ∙ replies-append s served left
    ∙ ap (λ x. x ++ behind) (front ∙ ap (λ x. x ++ rest) begins)
    ∙ append_assoc (rs ++ more) rest behind ∙ append_assoc rs more (rest ++ behind)

none-left : {A : Type 0} (xs : List A) → length xs ≡ 0 → xs ≡ []
none-left [] none = refl
none-left (x ∷ xs) none = absurd (omega (arith, none))

-- what was heard is a front of the replies, when the thread has ended and both lanes are settled
pub links-front : (kept : Kept) (served left : List Command) (out rest : List Reply) (n orders answered told : ℕ) (sent : List Command) (taken queue : List Reply)
    (s : Book) (cs : List Command) (rs : List Reply)
    → Leaves kept served out s → sent ≡ served ++ left → out ≡ taken ++ rest
    → Links n orders answered told sent taken queue s cs rs → IsFront s cs rs
links-front kept served left out rest n orders answered told sent taken queue s cs rs leaves commands settled links =
    let begins = sends kept served out taken links.passed queue rest s rs leaves settled links.split links.heard in
    (_, front-by s cs served left out rs (queue ++ rest) leaves.front.0 (sym links.asked ∙ commands) leaves.front.1 begins)

-- where each command is done, it is all of them, and the book is what the commands have made of it
pub links-whole : (kept : Kept) (served left : List Command) (out rest : List Reply) (n orders answered told : ℕ) (sent : List Command) (taken queue : List Reply)
    (s : Book) (cs : List Command) (rs : List Reply)
    → Leaves kept served out s → sent ≡ served ++ left → out ≡ taken ++ rest → answered ≡ n
    → Links n orders answered told sent taken queue s cs rs → (replies s cs ≡ rs) × StandsFor kept (after_all s cs)
links-whole kept served left out rest n orders answered told sent taken queue s cs rs leaves commands settled over links =
    let more = queue ++ rest in
    let begins : out ≡ rs ++ more = sends kept served out taken links.passed queue rest s rs leaves settled links.split links.heard in
    let split : cs ≡ served ++ left = sym links.asked ∙ commands in
    let front = links-front kept served left out rest n orders answered told sent taken queue s cs rs leaves commands settled links in
    let all : dones rs ≡ length cs = omega (arith, links.counts.done, links.counts.submitted, over) in
    let whole : replies s cs ≡ rs = whole-is s cs rs front all in
    let behind = leaves.front.0 in
    let parts : replies s served ≡ (rs ++ more) ++ behind = leaves.front.1 ∙ ap (λ x. x ++ behind) begins in
    let done : length served ≡ dones rs + dones more + dones behind =
    omega (arith, dones-replies s served, ap dones parts, dones-append (rs ++ more) behind, dones-append rs more) in
    let none : left ≡ [] = none-left left (omega (arith, done, all, ap length split, length-append served left)) in
    let same : cs ≡ served = split ∙ ap (λ x. served ++ x) none ∙ append-nil served in
    let long : length rs ≡ length rs + length more + length behind =
    omega (arith, ap length (sym whole ∙ ap (replies s) same ∙ parts), length-append (rs ++ more) behind, length-append rs more) in
    let sent-all : replies s served ≡ out = leaves.front.1 ∙ ap (λ x. out ++ x) (none-left behind (omega (arith, long))) ∙ append-nil out in
    (whole, subst (λ x. StandsFor kept (after_all s x)) (sym same) (leaves.whole sent-all))

-- a desk that is taken apart
module _ {G : Type 0} {R : Type 0} where
  pub record Parted (d : LaneDesk G R) (ends : Ends R) (server : Server G) (s : Book) (cs : List Command) (rs : List Reply) : Type 0 where
    pub begun : IsLive server s
    pub links : Links d.submitted d.orders d.answered d.told (sent_of ends.commands) (taken_of ends.replies) ends.queue s cs rs

  pub parted : (d : LaneDesk G R) (ends : Ends R) (server : Server G) (s : Book) (cs : List Command) (rs : List Reply)
      → ends ≡ d.ends → server ≡ d.child.promise.0.value → Linked d s cs rs → Parted d ends server s cs rs
  parted d ends server s cs rs same began linked = record {
    begun = subst (λ v. IsLive v s) (sym began) linked.begun;
    links = subst (λ e. Links d.submitted d.orders d.answered d.told (sent_of e.commands) (taken_of e.replies) e.queue s cs rs) (sym same) linked.links;
  }
