-- Parts in turn that are not halted.
use Rattle.std.proofs.Common.{◌≡◌, ◌++◌, refl, ap, sym, ◌∙◌}
use Rattle.std.specs.Prelude.{Option, Some, None}
use Rattle.clock_steps.specs.Runs.{Ran, before}

some-none : {A P : Type 0} (x : A) → Some x ≡ None → P
some-none x e = absurd (let h : Some x ≡ None = e in cc)

module _ {S L Z : Type 0} where
  -- Where a part and what comes behind it have no stop, neither has one, and they leave the state of the later.
  pub record IsPast (first : Ran S L Z) (later : S → Ran S L Z) (whole : Ran S L Z) : Type 0 where
    pub first_goes_on : first.stop ≡ None
    pub later_goes_on : (later first.state).stop ≡ None
    pub state : whole.state ≡ (later first.state).state
    pub lines : whole.lines ≡ first.lines ++ (later first.state).lines

  pub goes-past : (first : Ran S L Z) (later : S → Ran S L Z) → (before first later).stop ≡ None
      → IsPast first later (before first later)
  goes-past first later none = by first.stop refl none
    where
      by : (stop : Option Z) → first.stop ≡ stop → (before first later).stop ≡ None → IsPast first later (before first later)
      by None is none =
          let whole : before first later ≡ record { lines = first.lines ++ (later first.state).lines; state = (later first.state).state; stop = (later first.state).stop } =
          ap (λ z. before (record { lines = first.lines; state = first.state; stop = z }) later) is in
          record {
            first_goes_on = is;
            later_goes_on = sym (ap (λ r. r.stop) whole) ∙ none;
            state = ap (λ r. r.state) whole;
            lines = ap (λ r. r.lines) whole;
          }
      by (Some z) is none =
          let whole : before first later ≡ record { lines = first.lines; state = first.state; stop = Some z } =
          ap (λ z. before (record { lines = first.lines; state = first.state; stop = z }) later) is in
          some-none z (sym (ap (λ r. r.stop) whole) ∙ none)
