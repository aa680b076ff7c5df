-- What a desk's ends of its lanes keep while replies are taken.
use Rattle.std.specs.Prelude.{◌≡◌, List, [], ◌∷◌, ◌++◌, Option, Some, None, Result, Ok, Err}
use Rattle.lean_fixed.specs.declared.memory.NoMemory.{NoMemory}
use Rattle.lean_orders.specs.declared.desk.Reply.{Reply}
use Rattle.feed_queue.specs.Lanes.{taken_of, lane_of, lane_of_reader}
use Rattle.order_desk.specs.declared.ends.Ends.{Ends}

-- replies and then the next one, where it came
abbrev pub with_next : List Reply → Option Reply → List Reply
with_next rs (Some reply) = rs ++ reply ∷ []
with_next rs None = rs

abbrev pub with_tried : List Reply → Result (Option Reply) NoMemory → List Reply
with_tried rs (Ok next) = with_next rs next
with_tried rs (Err e) = rs

abbrev pub with_answer : List Reply → Result Reply NoMemory → List Reply
with_answer rs (Ok reply) = rs ++ reply ∷ []
with_answer rs (Err e) = rs

module _ {R : Type 0} where
  -- the replies that were taken are these, and then those in the list
  abbrev pub HasPassed : Ends R → List Reply → Type 0
  HasPassed ends rs = taken_of ends.replies ≡ rs ++ ends.queue

  -- the ends are those of the same lanes
  pub record KeepsLanes (old new : Ends R) : Type 0 where
    pub commands : lane_of new.commands ≡ lane_of old.commands
    pub replies : lane_of_reader new.replies ≡ lane_of_reader old.replies
