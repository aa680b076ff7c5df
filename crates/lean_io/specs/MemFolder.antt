-- The state of a folder in memory and of its hands, and what each call does to them.
use Rattle.std.specs.Prelude.{ℕ, ◌+◌, ◌-◌, Bool, false, ◌==◌, ◌&&◌, List, [], drop, Option, Some, None, option_map, unwrap_or, slice_get, String, Vec, string_bytes, bytes_eq}
use Rattle.std.specs.Global.{Global}
use Rattle.std.specs.Option.{option_map_or}
use Rattle.std.specs.List.{list_any}
use Rattle.std.specs.Ordering.{is_eq, nat_cmp}
use Rattle.std.specs.Cmp.Lexicographic.{slice_cmp}
use Rattle.std.specs.Map.{lookup}
use Rattle.std.specs.BTreeMap.{BTreeMap, get_by_text}
use Rattle.lean_io.specs.Told.{Files}
use Rattle.lean_io.specs.Counts.{raised}

-- an entry of a map from path to bytes
abbrev pub Entry : Type 0
Entry = String Global × Vec ℕ Global

-- the files of a map's entries
abbrev pub entry_files : List Entry → Files
entry_files entries path = option_map (λ v. v.items) (lookup (λ k. is_eq (slice_cmp nat_cmp path (string_bytes k))) entries)

-- the files of a map from path to bytes
abbrev pub map_files : BTreeMap (String Global) (Vec ℕ Global) → Files
map_files m path = option_map (λ v. v.items) (get_by_text m path)

-- whether a list of pairs of a path and a number makes a call fail: of each opening of the path the call of that number,
-- where the opening itself is 0 and the reads after it count from 1
abbrev pub is_listed : List (String Global × ℕ) → List ℕ → ℕ → Bool
is_listed fails path call = list_any (λ p. bytes_eq (string_bytes p.0) path && (p.1 == call)) fails

-- a folder in memory: the entries of its files, the calls that fail, how many hands are out, and how many faults were met
-- by those that were taken back
pub record FolderState : Type 0 where
  pub entries : List Entry
  pub fails : List (String Global × ℕ)
  pub hands : ℕ
  pub faults : ℕ

-- a hand of it: besides these the path of the open file, what of it is not read yet, how many reads were made since
-- it was opened, and how many faults the hand met
pub record HandState : Type 0 where
  pub entries : List Entry
  pub fails : List (String Global × ℕ)
  pub path : Option (List ℕ)
  pub rest : List ℕ
  pub reads : ℕ
  pub faults : ℕ

-- a folder after it gave a hand, and after it took one back
abbrev pub given : FolderState → FolderState
given m = record m { hands = m.hands + 1 }

abbrev pub taken_back : FolderState → HandState → FolderState
taken_back m hand = record m { hands = m.hands - 1; faults = raised m.faults hand.faults }

-- a new hand of a folder
abbrev pub hand_of : FolderState → HandState
hand_of m = record { entries = m.entries; fails = m.fails; path = None; rest = []; reads = 0; faults = 0 }

-- a hand after a call that failed
abbrev pub failed : HandState → HandState
failed h = record h { path = None; rest = []; reads = 0; faults = raised h.faults 1 }

-- a hand after it opened the file of a path, or found none
abbrev pub opened : HandState → List ℕ → Option (List ℕ) → HandState
opened h path None = record h { path = None; rest = []; reads = 0 }
opened h path (Some bytes) = record h { path = Some path; rest = bytes; reads = 0 }

-- the next read fails
abbrev pub fails_next : HandState → Bool
fails_next h = option_map_or (λ path. is_listed h.fails path (raised h.reads 1)) h.path false

-- a hand after n bytes were read
abbrev pub moved : HandState → ℕ → HandState
moved h n = record h { rest = drop n h.rest; reads = raised h.reads 1 }

-- the path of the entry at a place
abbrev pub path_at : List Entry → ℕ → Option (List ℕ)
path_at entries i = option_map (λ e. string_bytes e.0) (slice_get entries i)

-- the bytes of the entry at a place
abbrev pub bytes_at : List Entry → ℕ → Option (List ℕ)
bytes_at entries i = option_map (λ e. e.1.items) (slice_get entries i)

-- the path of the entry at the place that is open, if one is
abbrev pub open_path : List Entry → Option ℕ → Option (List ℕ)
open_path entries None = None
open_path entries (Some i) = path_at entries i

-- its bytes
abbrev pub open_bytes : List Entry → Option ℕ → List ℕ
open_bytes entries None = []
open_bytes entries (Some i) = unwrap_or (bytes_at entries i) []
