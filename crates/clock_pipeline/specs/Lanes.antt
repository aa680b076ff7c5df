-- A lane between two threads: what was sent into it, and what was taken out of it, each in its order.
use Rattle.std.specs.Prelude.{◌≡◌, ℕ, ◌≤◌, nat_lt, Bool, List, [], ◌++◌, length, take, drop}

pub record Lane (X : Type 0) : Type 0 where
  pub sent : List X
  pub taken : List X

module _ {X : Type 0} where
  -- what comes next in a list behind a front of it: one thing, or nothing at its end
  unfoldable pub next_of : List X → List X → List X
  next_of front whole = take 1 (drop (length front) whole)

  -- the lane holds what was sent and is not yet taken
  unfoldable pub held : Lane X → List X
  held lane = drop (length lane.taken) lane.sent

  abbrev pub has_room : ℕ → Lane X → Bool
  has_room capacity lane = nat_lt (length (held lane)) capacity

  -- the lane after something more was sent, and after the next thing was taken
  abbrev pub with_sent : List X → Lane X → Lane X
  with_sent items lane = record { sent = lane.sent ++ items; taken = lane.taken }

  abbrev pub with_taken : Lane X → Lane X
  with_taken lane = record { sent = lane.sent; taken = lane.taken ++ next_of lane.taken lane.sent }

  -- what was taken is a front of what was sent, and the rest is at most the capacity
  pub record IsLane (capacity : ℕ) (lane : Lane X) : Type 0 where
    pub rest : List X
    pub is : lane.sent ≡ lane.taken ++ rest
    pub within : length rest ≤ capacity

-- an empty lane
abbrev pub empty : {X : Type 0} → Lane X
empty = record { sent = []; taken = [] }
