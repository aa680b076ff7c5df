-- What was heard in two phases, once it is known to be what the book replies to the commands of both.
use Rattle.std.proofs.Common.{◌≡◌, ℕ, List, [], ◌++◌, subst, sym, ◌∙◌, append-nil}
use Rattle.lean_orders.specs.declared.desk.Command.{Command}
use Rattle.lean_orders.specs.declared.desk.Reply.{Reply}
use Rattle.clock_book.specs.Books.{Book}
use Rattle.clock_book.specs.Handled.{after, replies}
use Rattle.order_desk.specs.Served.{Served, IsRight}
use Rattle.order_desk.specs.Heard.{Counts}
use Rattle.order_desk.proofs.ReplyLemmas.{served-is, served-rest, served-replies, right-before, right-after, right-now}

-- where all commands are done they are served
pub served-where_done : (n orders answered : ℕ) (s : Book) (cs : List Command) (rs : List Reply) → Counts n orders answered s cs rs → answered ≡ n → Served cs rs
served-where_done n orders answered s cs rs counts over =
    record { each = sym counts.done ∙ over ∙ counts.submitted; closed = counts.closed over }

whole-right : (s : Book) (cs ds : List Command) (rs more : List Reply) → replies s (cs ++ ds) ≡ rs ++ more → IsRight s (cs ++ ds) (rs ++ more)
whole-right s cs ds rs more all = right-now s (cs ++ ds) (rs ++ more) ([], all ∙ sym (append-nil (rs ++ more)))

pub early-is : {n orders answered : ℕ} (s : Book) (cs ds : List Command) (rs more : List Reply) → Counts n orders answered s cs rs → answered ≡ n
    → replies s (cs ++ ds) ≡ rs ++ more → rs ≡ replies s cs
early-is s cs ds rs more counts over all =
    served-is s cs rs (served-where_done _ _ _ s cs rs counts over) (right-before s cs ds rs more (whole-right s cs ds rs more all))

pub late-is : {n orders answered : ℕ} (s : Book) (cs ds : List Command) (rs more : List Reply) → Counts n orders answered s cs rs → answered ≡ n
    → replies s (cs ++ ds) ≡ rs ++ more → more ≡ replies (after s cs) ds
late-is s cs ds rs more counts over all =
    let first = served-where_done _ _ _ s cs rs counts over in
    served-is (after s cs) ds more
    (served-rest cs ds rs more first (subst (Served (cs ++ ds)) all (served-replies s (cs ++ ds))))
    (right-after s cs ds rs more first (whole-right s cs ds rs more all))
