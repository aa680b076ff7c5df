-- What a phase of a strategy and a desk does, one call after another.
use Rattle.std.proofs.Common.{◌≡◌, ℕ, List, [], ◌∷◌, ◌++◌, Option, Some, None, refl, sym, ap, ◌∙◌, subst, append_assoc, append-nil}
use Rattle.std.specs.Prelude.{Ok, Err, IfSome}
use Rattle.lean_orders.specs.declared.desk.Command.{Command}
use Rattle.lean_orders.specs.declared.desk.Heard.{Heard}
use Rattle.lean_orders.specs.declared.desk.Reply.{Reply}
use Rattle.clock_book.specs.Books.{Book}
use Rattle.clock_book.specs.Handled.{after, replies}
use Rattle.order_desk.specs.Heard.{with_heard, Counts}
use Rattle.order_desk.specs.Served.{Served, IsRight}
use Rattle.order_desk.proofs.ReplyLemmas.{served-rest, right-after, served-is}
use Rattle.backtest_engine.specs.declared.limits.Stop.{Stop}
use Rattle.backtest_engine.specs.declared.limits.Stop.TheVariants.{NoMemory as OutOfMemory, Limited}
use Rattle.backtest_engine.specs.declared.phases.Unasked.{Unasked}
use Rattle.backtest_engine.specs.declared.phases.Unasked.TheVariants.{Stopped}
use Rattle.backtest_engine.specs.Meaning.{Meaning, Asked}
use Rattle.backtest_engine.specs.Turns.{Turn, Plays, asked_of, text_after, IsFinished, Gives}
use Rattle.backtest_engine.specs.Phased.{DeskStands, GoesOn, AskedAll, Phased}

-- ---- what was submitted and heard

pub goes-none : (stands : DeskStands) → GoesOn stands stands [] []
goes-none stands b cs rs h = subst (λ xs. stands b xs (rs ++ [])) (sym (append-nil cs)) (subst (λ xs. stands b cs xs) (sym (append-nil rs)) h)

pub goes-more : (old now new : DeskStands) (ds es : List Command) (more others : List Reply) → GoesOn old now ds more → GoesOn now new es others → GoesOn old new (ds ++ es) (more ++ others)
goes-more old now new ds es more others first then b cs rs h =
    subst (λ xs. new b xs (rs ++ (more ++ others))) (append_assoc cs ds es)
    (subst (λ xs. new b (cs ++ ds ++ es) xs) (append_assoc rs more others) (then b (cs ++ ds) (rs ++ more) (first b cs rs h)))

-- all commands and then all replies
pub goes-both : (old now new : DeskStands) (ds : List Command) (more : List Reply) → GoesOn old now ds [] → GoesOn now new [] more → GoesOn old new ds more
goes-both old now new ds more first then =
    subst (λ xs. GoesOn old new xs more) (append-nil ds) (goes-more old now new ds [] [] more first then)

-- one command more
pub goes-submitted : (old now new : DeskStands) (ds : List Command) (command : Command) → GoesOn old now ds []
    → ((b : Book) (cs : List Command) (rs : List Reply) → now b cs rs → new b (cs ++ command ∷ []) rs) → GoesOn old new (ds ++ command ∷ []) []
goes-submitted old now new ds command first then b cs rs h =
    subst (λ xs. new b xs (rs ++ [])) (append_assoc cs ds (command ∷ [])) (then b (cs ++ ds) (rs ++ []) (first b cs rs h))

-- nothing more
pub goes-same : (old now new : DeskStands) (ds : List Command) (more : List Reply) → GoesOn old now ds more
    → ((b : Book) (cs : List Command) (rs : List Reply) → now b cs rs → new b cs rs) → GoesOn old new ds more
goes-same old now new ds more first then b cs rs h = then b (cs ++ ds) (rs ++ more) (first b cs rs h)

-- one reply more
pub goes-heard : (old now new : DeskStands) (ds : List Command) (more : List Reply) (reply : Reply) → GoesOn old now ds more
    → ((b : Book) (cs : List Command) (rs : List Reply) → now b cs rs → new b cs (rs ++ reply ∷ [])) → GoesOn old new ds (more ++ reply ∷ [])
goes-heard old now new ds more reply first then b cs rs h =
    subst (λ xs. new b (cs ++ ds) xs) (append_assoc rs more (reply ∷ [])) (then b (cs ++ ds) (rs ++ more) (first b cs rs h))

-- ---- the strategy

pub of-some : {A : Type 0} (P : A → Type 0) (x : A) (o : Option A) → o ≡ Some x → IfSome o P → P x
of-some P x o is h = subst (λ o. IfSome o P) is h

pub heard-some : (new : DeskStands) (b : Book) (cs : List Command) (rs : List Reply) (heard : Heard) (o : Option Heard) → o ≡ Some heard
    → new b cs (with_heard rs (Ok o)) → new b cs (rs ++ heard.reply ∷ [])
heard-some new b cs rs heard o is h = subst (λ o. new b cs (with_heard rs (Ok o))) is h

module _ {Own : Type 0} (m : Meaning Own) where
  pub gives-some : (plays : Plays m) (turn : Turn Own) (cs : List Command) (command : Command) (o : Option Command) → o ≡ Some command
      → Gives m plays turn cs (Ok o) → plays turn (cs ++ command ∷ []) []
  gives-some plays turn cs command o is h = subst (λ x. Gives m plays turn cs (Ok x)) is h

  pub gives-none : (plays : Plays m) (turn : Turn Own) (cs : List Command) (o : Option Command) → o ≡ None
      → Gives m plays turn cs (Ok o) → plays turn cs [] × (asked_of m turn ≡ record { commands = cs; stop = None })
  gives-none plays turn cs o is h = subst (λ x. Gives m plays turn cs (Ok x)) is h

  pub gives-stop : (plays : Plays m) (turn : Turn Own) (cs : List Command) (stop : Stop)
      → Gives m plays turn cs (Err stop) → AskedAll m plays turn cs (Err (Stopped stop))
  gives-stop plays turn cs (Limited limit) h = h
  gives-stop plays turn cs OutOfMemory h = tt

-- the commands and replies of some phases serve each other, where as many are done as were submitted
pub serves : (n orders answered : ℕ) (b : Book) (cs : List Command) (rs : List Reply) → Counts n orders answered b cs rs → answered ≡ n → Served cs rs
serves n orders answered b cs rs c all = record { each = sym c.done ∙ all ∙ c.submitted; closed = c.closed all }

-- behind a phase what was heard is what the book replies
module _ {Own : Type 0} (m : Meaning Own) where
  pub phase-finished : (plays : Plays m) (turn : Turn Own) (b : Book) (cs ds : List Command) (rs more : List Reply) (asked : Asked)
      → turn.state.book ≡ after b cs → Served cs rs → Served (cs ++ ds) (rs ++ more) → IsRight b (cs ++ ds) (rs ++ more)
      → asked_of m turn ≡ asked → ds ≡ asked.commands → IsFinished m turn ds more
  phase-finished plays turn b cs ds rs more asked book before behind right is given = record {
    given = given ∙ ap (λ (a : Asked). a.commands) (sym is);
    heard = served-is (after b cs) ds more (served-rest cs ds rs more before behind) (right-after b cs ds rs more before right)
        ∙ ap (λ x. replies x ds) (sym book);
  }

  -- behind a limit the lines before it are there
  pub phase-stopped : (asks plays : Plays m) (text : List ℕ) (turn : Turn Own) (ds : List Command) (more : List Reply) (stop : Stop)
      → (asks turn ds [] → IsFinished m turn ds more → text ≡ text_after m turn)
      → ((asked : Asked) → asked_of m turn ≡ asked → ds ≡ asked.commands → IsFinished m turn ds more)
      → (why : Unasked) → why ≡ Stopped stop → AskedAll m asks turn ds (Err why) → Phased m plays text turn ds more (Err stop)
  phase-stopped asks plays text turn ds more stop says finished why is h =
      by stop (subst (λ w. AskedAll m asks turn ds (Err w)) is h)
    where
      by : (stop : Stop) → AskedAll m asks turn ds (Err (Stopped stop)) → Phased m plays text turn ds more (Err stop)
      by (Limited limit) (h, is) = (says h (finished (record { commands = ds; stop = Some limit }) is refl), ap (λ (a : Asked). a.stop) is)
      by OutOfMemory h = tt
