-- How far the files are read: a step takes one line of the open file or opens the next file, and a call takes steps that give
-- nothing and then one that gives its item.
use Rattle.std.specs.Prelude.{◌≡◌, ℕ, Bool, true, false, if◌then◌else◌, List, [], ◌∷◌, Option, Some, None, option_map}
use Rattle.lean_io.specs.Told.{Files}
use Rattle.lean_io.specs.declared.outside.Hand.{Ghosts}
use Rattle.lean_items.specs.declared.item.Item.{Item}
use Rattle.lean_items.specs.declared.item.Item.TheVariants.{Bar, Coarse, Bad, Faulted, End}
use Rattle.line_source.specs.Lines.{FileLine, TextLine, BlankLine, LongLine, ManyLine, lines, past_blank}
use Rattle.feed_paths.specs.Paths.{path}
use Rattle.row_feed.specs.declared.course.Course.{Course}
use Rattle.row_feed.specs.declared.reader.Reader.{Reader}
use Rattle.row_feed.specs.declared.feed.RowFeed.{RowFeed}
use Rattle.row_feed.specs.Reader.{hand_of as reader_hand, is_open as reader_is_open, lines_left}
use Rattle.row_feed.specs.Course.{CourseLeaves}
use Rattle.row_feed.specs.Feed.{hand_of, is_open, Leaves}

-- Whatever comes behind a line, it gives nothing. A malformed line and a row past the window are none such, since they end the
-- feed.
abbrev pub PassesLine : Files → Course → Course → ℕ × FileLine → Type 0
PassesLine f old new line = (more : List (ℕ × FileLine)) (list : List Item)
    → CourseLeaves f old true (line ∷ more) list → CourseLeaves f new true more list

abbrev pub OnNothing : Option Item → Type 0 → Type 0
OnNothing None P = P
OnNothing (Some item) P = Unit {0}

-- Of these lines, the first of which isn't blank, the first was taken and no further one: where nothing is given it is passed
-- over, and the file is read on. Where there is none, the file is closed.
abbrev pub TakesFirst : Files → Course → Course → List (ℕ × FileLine) → Bool → List (ℕ × FileLine) → Option Item → Type 0
TakesFirst f old new [] opened left result = opened ≡ false
TakesFirst f old new ((number, TextLine text) ∷ more) opened left result =
    (opened ≡ true) × (left ≡ more) × OnNothing result (PassesLine f old new (number, TextLine text))
TakesFirst f old new ((number, BlankLine) ∷ more) opened left result = ⊥
TakesFirst f old new ((number, LongLine) ∷ more) opened left result = (opened ≡ false) × OnNothing result ⊥
TakesFirst f old new ((number, ManyLine) ∷ more) opened left result = (opened ≡ false) × OnNothing result ⊥

-- but for a failed read
abbrev pub ButFaulted : Option Item → Type 0 → Type 0
ButFaulted None P = P
ButFaulted (Some (Bar bar)) P = P
ButFaulted (Some (Coarse at row)) P = P
ButFaulted (Some (Bad bad)) P = P
ButFaulted (Some Faulted) P = Unit {0}
ButFaulted (Some End) P = P

module _ {H : Type 0} {g : Ghosts H} (files : H → Option Files) (rest : H → List ℕ) (hand_is_open : H → Bool) where
  -- some file of the key was looked for, and it is open before its first line where it is there
  abbrev pub OpensFile : Files → Course → Reader H g → Type 0
  OpensFile f course new = (file : ℕ)
      × (option_map lines (f (path course.key file)) ≡ (if reader_is_open new then Some (lines_left rest new) else None))

  -- where no file is open, one is looked for; where there is none left, nothing is read
  abbrev pub ReadsClosed : Files → Course → Reader H g → Reader H g → Option Item → Type 0
  ReadsClosed f course old new None = OpensFile f course new
  ReadsClosed f course old new (Some (Bar bar)) = ⊥
  ReadsClosed f course old new (Some (Coarse at row)) = ⊥
  ReadsClosed f course old new (Some (Bad bad)) = ⊥
  ReadsClosed f course old new (Some Faulted) = Unit {0}
  ReadsClosed f course old new (Some End) = reader_hand new ≡ reader_hand old

  abbrev pub ReadsBy : Bool → Files → Course → Course → Reader H g → Reader H g → Option Item → Type 0
  ReadsBy true f before after old new result =
      ButFaulted result (TakesFirst f before after (past_blank (lines_left rest old)) (reader_is_open new) (lines_left rest new) result)
  ReadsBy false f before after old new result = ReadsClosed f before old new result

  -- one step, where the hand tells its files
  abbrev pub StepReads : RowFeed H g → RowFeed H g → Option Item → Type 0
  StepReads old new result = (f : Files) → files (hand_of old) ≡ Some f
      → ReadsBy (is_open old) f old.course new.course old.reader new.reader result

  -- a step that gives nothing, behind which the same items are left
  pub record Passes (old new : RowFeed H g) : Type 0 where
    pub reads : StepReads old new None
    pub same : (list : List Item) → Leaves files rest hand_is_open old list → Leaves files rest hand_is_open new list

  -- steps one behind the other, through these feeds
  abbrev pub Passed : RowFeed H g → List (RowFeed H g) → RowFeed H g → Type 0
  Passed old [] new = old ≡ new
  Passed old (between ∷ feeds) new = Passes old between × Passed between feeds new

  -- A call takes steps that give nothing, and the last step gives the item.
  pub record Reads (old new : RowFeed H g) (item : Item) : Type 0 where
    pub feeds : List (RowFeed H g)
    pub last : RowFeed H g
    pub passed : Passed old feeds last
    pub reads : StepReads last new (Some item)
