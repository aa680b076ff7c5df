-- The securities of a tape, opened one after another and given back.
use Rattle.std.proofs.Common.{◌≡◌, ℕ, ◌+◌, ◌-◌, ◌^◌, ◌≤◌, List, [], ◌∷◌, ◌++◌, sym, subst, arith, inl, inr}
use Rattle.std.specs.Prelude.{Option, min, ◌⊎◌}
use Rattle.std.specs.List.{AllZip}
use Rattle.std.proofs.Math.Nat.{min-le_left, min-le_right, le-min}
use Rattle.lean_io.specs.Told.{Rose}
use Rattle.lean_io.specs.Counts.{raised}
use Rattle.line_source.specs.Lines.{FileLine}
use Rattle.line_source.specs.Reader.{hand_of}
use Rattle.daily_tape.specs.declared.source.Source.{Source}
use Rattle.daily_tape.specs.DailyFile.{file_sheet}
use Rattle.daily_tape.specs.Endings.{HasFaulted}
use Rattle.daily_tape.specs.Head.{IfKnown}
use Rattle.daily_tape.specs.Source.{Leaves, to_come}
use Rattle.daily_tape.proofs.DayStarts.{daily_row-is}
use Rattle.daily_tape.proofs.FollowLemmas.{if_known}
use Rattle.daily_tape.proofs.SheetLemmas.{leaves-start, rises-file}

-- nothing of the file of a security that was opened is past
pub known_first : {H : Type 0} (rest : H → List ℕ) (source : Source H) (found : Option (List (ℕ × FileLine)))
    → IfKnown source.head (file_sheet found ≡ to_come rest source) → IfKnown source.head (Leaves 0 (file_sheet found) (to_come rest source))
known_first rest source found known =
    if_known source.head _ _ (λ is. leaves-start (file_sheet found) (to_come rest source) is (rises-file daily_row-is found)) known

module _ {X S : Type 0} where
  pub zip_push : (R : S → X → Type 0) (ss : List S) (xs : List X) (s : S) (x : X) → AllZip R ss xs → R s x → AllZip R (ss ++ s ∷ []) (xs ++ x ∷ [])
  zip_push R [] [] s x zip one = (one, tt)
  zip_push R [] (y ∷ xs) s x zip one = absurd zip
  zip_push R (t ∷ ss) [] s x zip one = absurd zip
  zip_push R (t ∷ ss) (y ∷ xs) s x zip one = (zip.0, zip_push R ss xs s x zip.1 one)

-- a count that rose from 0 is at least 1
counted : (n : ℕ) → Rose 0 n → 1 ≤ n
counted n rose = (let h : min 1 (2 ^ 64 - 1) ≤ n = rose in omega (arith, h))

-- a count that grows stays risen
pub rose_later : (before now later : ℕ) → Rose before now → now ≤ later → Rose before later
rose_later before now later rose grows = omega (arith, rose, grows)

pub rose_by : (before now more : ℕ) → before ≤ now → Rose 0 more → Rose before (raised now more)
rose_by before now more grows rose =
    let one = counted more rose in
    let low : min (before + 1) (2 ^ 64 - 1) ≤ now + more = omega (arith, min-le_left (before + 1) (2 ^ 64 - 1), one, grows) in
    le-min low (min-le_right (before + 1) (2 ^ 64 - 1))

module _ {H : Type 0} (faults : H → ℕ) where
  -- some hands were given back: one of the others counted a fault, or the folder's count rose
  abbrev pub IsGiven : List (Source H) → List (Source H) → ℕ → ℕ → Type 0
  IsGiven sources left before now = HasFaulted faults sources → HasFaulted faults left ⊎ Rose before now

  last_or_others : (front : List (Source H)) (last : Source H) → HasFaulted faults (front ++ last ∷ []) → HasFaulted faults front ⊎ Rose 0 (faults (hand_of last.lines))
  last_or_others [] last (inl rose) = inr rose
  last_or_others [] last (inr none) = absurd none
  last_or_others (x ∷ front) last (inl rose) = inl (inl rose)
  last_or_others (x ∷ front) last (inr more) = elim (last_or_others front last more) [ inl h ↦ inl (inr h) | inr h ↦ inr h ]

  pub given-more : (sources left front : List (Source H)) (last : Source H) (before now later : ℕ) → left ≡ front ++ last ∷ [] → before ≤ now → now ≤ later
      → later ≡ raised now (faults (hand_of last.lines)) → IsGiven sources left before now → IsGiven sources front before later
  given-more sources left front last before now later is grows more counted given faulted =
      elim (given faulted) [
        | inl h ↦ elim (last_or_others front last (subst (HasFaulted faults) is h)) [
          | inl f ↦ inl f
          | inr r ↦ inr (subst (Rose before) (sym counted) (rose_by before now (faults (hand_of last.lines)) grows r))
        ]
        | inr r ↦ inr (rose_later before now later r more)
      ]
