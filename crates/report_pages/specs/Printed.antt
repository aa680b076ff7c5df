-- What stands in a sink and on the page before it.
use Rattle.std.specs.Prelude.{◌≡◌, ◌<◌, ℕ, ◌≤◌, List, ◌++◌, length, Option, option_map, Result, Ok, Err}
use Rattle.lean_io.specs.Told.{Rose}
use Rattle.report_pages.specs.declared.pages.Stop.{Stop}
use Rattle.report_pages.specs.declared.pages.Stop.TheVariants.{NoMemory, WriteFault}

-- the sink took these bytes
abbrev pub IsTaken : Option (List ℕ) → Option (List ℕ) → List ℕ → Type 0
IsTaken before after bytes = after ≡ option_map (λ b. b ++ bytes) before

-- The bytes were printed behind a page: some of all this went into the sink, and the rest is the new page.
pub record IsPrinted (before after : Option (List ℕ)) (page new bytes : List ℕ) : Type 0 where
  pub written : List ℕ
  pub taken : IsTaken before after written
  pub rest : page ++ bytes ≡ written ++ new

-- the sink took a front of these bytes
pub record IsFront (before after : Option (List ℕ)) (bytes : List ℕ) : Type 0 where
  pub written : List ℕ
  pub left : List ℕ
  pub taken : IsTaken before after written
  pub whole : bytes ≡ written ++ left

-- a stop for the sink comes only where its count of faults rose
abbrev pub HasCause : ℕ → ℕ → Stop → Type 0
HasCause before now NoMemory = Unit {0}
HasCause before now WriteFault = Rose before now

-- fewer than 65,536 bytes, so that another line may be put on the page
abbrev pub HasRoom : List ℕ → Type 0
HasRoom page = length page < 65536

-- What a call prints behind a page, by its result: all of a text, and there is room for another line; or it stops for a named
-- cause, and the sink took a front of the page and the text. No count of faults falls.
abbrev pub Prints : {A S : Type 0} → (S → Option (List ℕ)) → (S → ℕ) → S → S → List ℕ → List ℕ → List ℕ → Result A Stop → Type 0
Prints told faults old now page new text (Ok x) =
    IsPrinted (told old) (told now) page new text × HasRoom new × (faults old ≤ faults now)
Prints told faults old now page new text (Err stop) =
    IsFront (told old) (told now) (page ++ text) × HasCause (faults old) (faults now) stop × (faults old ≤ faults now)
