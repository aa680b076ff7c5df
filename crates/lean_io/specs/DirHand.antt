-- The states of a directory and of its hands, and how a hand is changed by what the system answers.
use Rattle.std.specs.Prelude.{◌≡◌, ℕ, ◌+◌, ◌-◌, Bool, false, List, [], Option, Some, None, Result, Ok, Err}
use Rattle.std.specs.Io.KnownBytes.{prepend_known}
use Rattle.lean_io.specs.Counts.{raised}

-- a directory: how many of its hands are out, and how many faults were met by those that were taken back
pub record DirState : Type 0 where
  pub hands : ℕ
  pub faults : ℕ

-- a directory of which no hand was given
abbrev pub new_directory : DirState
new_directory = record { hands = 0; faults = 0 }

-- a hand of a directory: whether a file is open, the bytes that were read ahead, what of the file is not read yet where
-- the runtime's file tells it, and how many faults the hand met
pub record DirHandState : Type 0 where
  pub is_open : Bool
  pub ahead : List ℕ
  pub unread : Option (List ℕ)
  pub faults : ℕ

-- a new hand
abbrev pub new_hand : DirHandState
new_hand = record { is_open = false; ahead = []; unread = None; faults = 0 }

-- a directory after it gave a hand, and after it took one back
abbrev pub given : DirState → DirState
given directory = record { hands = directory.hands + 1; faults = directory.faults }

abbrev pub taken_back : DirState → DirHandState → DirState
taken_back directory hand = record { hands = directory.hands - 1; faults = raised directory.faults hand.faults }

-- a hand after an opening that found a file or none, with what the file has, and with nothing read ahead
abbrev pub opened : DirHandState → Bool → Option (List ℕ) → DirHandState
opened h found unread = record { is_open = found; ahead = []; unread = unread; faults = h.faults }

-- a hand after a call that failed
abbrev pub failed : DirHandState → DirHandState
failed h = record { is_open = false; ahead = []; unread = None; faults = raised h.faults 1 }

-- what is not read yet of a file: the bytes that were read ahead, and then what the file itself has left
abbrev pub unread_of : {F : Type 0} → (F → Option (List ℕ)) → List ℕ → Option F → Option (List ℕ)
unread_of remaining ahead None = None
unread_of remaining ahead (Some file) = prepend_known ahead (remaining file)

-- what the file has that the system opened, if it opened one
abbrev pub content_of : {F E : Type 0} → (F → Option (List ℕ)) → Result F E → Option (List ℕ)
content_of remaining (Ok file) = prepend_known [] (remaining file)
content_of remaining (Err e) = None

-- a hand of the same file, with the same faults counted
pub record SameFile (old new : DirHandState) : Type 0 where
  pub is_open : new.is_open ≡ old.is_open
  pub faults : new.faults ≡ old.faults
