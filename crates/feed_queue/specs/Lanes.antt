-- What is seen of the ends of a lane.
use Rattle.std.specs.Prelude.{◌≡◌, ℕ, List, [], ◌++◌, drop, length}
use Rattle.std.specs.Arc.{arc_value}
use Rattle.atomic_table.specs.Seated.{TableId}
use Rattle.crossbeam_queue.specs.Passes.{view, ruled_capacity}
use Rattle.feed_queue.specs.declared.ends.Writer.{Writer}
use Rattle.feed_queue.specs.declared.ends.Reader.{Reader}
use Rattle.feed_queue.specs.declared.settled.Rest.{Rest}

module _ {T : Type 0} where
  -- the items whose push was answered by `Ok`, in order
  abbrev pub sent_of : Writer T → List T
  sent_of writer = (view writer.pass).sent

  -- the items that were popped, in order
  abbrev pub taken_of : Reader T → List T
  taken_of reader = (view reader.pass).taken

  -- which lane an end is of
  abbrev pub lane_of : Writer T → TableId
  lane_of writer = writer.pass.table_id

  abbrev pub lane_of_reader : Reader T → TableId
  lane_of_reader reader = reader.pass.table_id

  abbrev pub capacity_of : Writer T → ℕ
  capacity_of writer = ruled_capacity (arc_value writer.queue)

  -- the items that were sent and not yet taken, in order
  abbrev pub left_of : Rest T → List T
  left_of rest = drop (length (view rest.pass).taken) (view rest.pass).sent

-- at a moment of the call the lane held as many items as its capacity: the last ones that were sent
module _ {T : Type 0} where
  abbrev pub WasFull : ℕ → List T → Type 0
  WasFull capacity sent = (taken : List T) × (held : List T) × (sent ≡ taken ++ held) × (length held ≡ capacity)

  -- at a moment of the call the lane held no item: all that was sent until then was taken
  abbrev pub WasEmpty : List T → Type 0
  WasEmpty taken = (sent : List T) × (held : List T) × (sent ≡ taken ++ held) × (held ≡ [])
