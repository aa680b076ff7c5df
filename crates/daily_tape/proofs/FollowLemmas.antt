-- What is left of a security behind a step of its tape.
use Rattle.std.proofs.Common.{◌≡◌, ℕ, ◌<◌, List, refl, ◌∙◌, subst, arith}
use Rattle.std.specs.Prelude.{Option, Some}
use Rattle.lean_io.specs.Told.{Files}
use Rattle.line_source.specs.Reader.{hand_of}
use Rattle.daily_tape.specs.declared.daily_row.DailyRow.{DailyRow}
use Rattle.daily_tape.specs.declared.head.Head.{Head}
use Rattle.daily_tape.specs.declared.head.Head.TheVariants.{Row, Bad, Faulted, End}
use Rattle.daily_tape.specs.declared.source.Source.{Source}
use Rattle.daily_tape.specs.DailyFile.{with_row}
use Rattle.daily_tape.specs.DailyTape.{Security, step_of}
use Rattle.daily_tape.specs.Head.{IfKnown, StandsPast}
use Rattle.daily_tape.specs.Source.{Rises, Leaves, Follows, to_come}
use Rattle.daily_tape.proofs.SheetLemmas.{leaves-later, leaves-row}

pub if_known : (head : Head) (P Q : Type 0) → (P → Q) → IfKnown head P → IfKnown head Q
if_known (Row daily) P Q f h = f h
if_known (Bad bad) P Q f h = f h
if_known Faulted P Q f h = tt
if_known End P Q f h = f h

module _ {H : Type 0} (files : H → Option Files) (rest : H → List ℕ) (f : Files) (k : ℕ) (security : Security) where
  -- behind the row that was the head
  pub follows-row : (old new : Source H) (row : DailyRow) → old.head ≡ Row row → new.symbol ≡ old.symbol → files (hand_of new.lines) ≡ files (hand_of old.lines)
      → (files (hand_of old.lines) ≡ Some f → IfKnown new.head (to_come rest old ≡ with_row row.row (to_come rest new)))
      → Follows files rest f k security old → Follows files rest f (step_of row.row) security new
  follows-row old new row is symbol kept advanced follows =
      let known : Leaves k security.sheet (to_come rest old) = (let h : IfKnown (Row row) (Leaves k security.sheet (to_come rest old)) = subst (λ h. IfKnown h (Leaves k security.sheet (to_come rest old))) is follows.known in h) in
      record {
        symbol = symbol ∙ follows.symbol;
        told = kept ∙ follows.told;
        known = if_known new.head _ _ (λ e. leaves-row k security.sheet row.row (to_come rest new) (subst (Leaves k security.sheet) e known)) (advanced follows.told);
      }

  past_head : (step : ℕ) (source : Source H) (head : Head) → source.head ≡ head → k < step → StandsPast step head
      → IfKnown head (Leaves k security.sheet (to_come rest source)) → IfKnown head (Leaves step security.sheet (to_come rest source))
  past_head step source (Row daily) is lt past known =
      let rises : Rises step (to_come rest source).rows = rw is (past, (let h : Rises k (to_come rest source).rows = known.rises in (rw is at h).1)) in
      leaves-later k security.sheet step (to_come rest source) known (omega arith) rises
  past_head step source End is lt past known =
      let rises : Rises step (to_come rest source).rows = rw is tt in
      leaves-later k security.sheet step (to_come rest source) known (omega arith) rises
  past_head step source (Bad bad) is lt past known =
      let rises : Rises step (to_come rest source).rows = rw is tt in
      leaves-later k security.sheet step (to_come rest source) known (omega arith) rises
  past_head step source Faulted is lt past known = tt

  -- and where the head is past the step
  pub follows-past : (step : ℕ) (source : Source H) → k < step → StandsPast step source.head
      → Follows files rest f k security source → Follows files rest f step security source
  follows-past step source lt past follows = record {
    symbol = follows.symbol;
    told = follows.told;
    known = past_head step source source.head refl lt past follows.known;
  }
