-- The state of a made folder and of its hands.
use Rattle.std.specs.Prelude.{ℕ, List, Option}
use Rattle.lean_io.specs.Told.{Files}
use Rattle.lean_io.specs.MemFolder.{Entry, entry_files}

-- a made folder: the entries of its files, and how many of its hands are out
pub record MadeState : Type 0 where
  pub entries : List Entry
  pub hands : ℕ

-- a hand of it: the entries, the path of the open file, and what of it is not read yet
pub record MadeHandState : Type 0 where
  pub entries : List Entry
  pub path : Option (List ℕ)
  pub rest : List ℕ

-- the files that it tells
abbrev pub told : MadeState → Files
told folder = entry_files folder.entries
