-- The securities that a map from symbols holds.
use Rattle.std.specs.Prelude.{ℕ, not, ◌&&◌, List, map}
use Rattle.std.specs.HashMap.{HashMap}
use Rattle.std.specs.declared.hash.FoldHasher.{FoldHasher}
use Rattle.std.specs.declared.hash.BuildHasherDefault.{BuildHasherDefault}
use Rattle.universe_state.specs.declared.member.Member.{Member}
use Rattle.universe_state.specs.Active.{Active}
use Rattle.universe_state.specs.Choice.{is_selected}

abbrev pub active_of : List ℕ × Member → Active
active_of entry = record { symbol = entry.0; feed = entry.1.feed; listed = entry.1.listed; marked = entry.1.marked }

abbrev pub securities : HashMap (List ℕ) Member (BuildHasherDefault FoldHasher) → List Active
securities members = map active_of members.entries

-- an entry as a choice of symbols marks it
abbrev pub marked_entry : List (List ℕ) → List ℕ × Member → List ℕ × Member
marked_entry symbols entry = (entry.0, record entry.1 { marked = not entry.1.listed && not (is_selected symbols entry.0) })
