-- How what was printed adds up.
use Rattle.std.proofs.Common.{◌≡◌, ℕ, ◌≤◌, List, [], ◌++◌, refl, sym, ap, ◌∙◌, take, drop, take-append-drop, append_assoc, append-nil, Option, Some, None, Result, Ok, Err, length, ◌+◌, ◌-◌, ◌^◌, arith}
use Rattle.std.specs.Prelude.{option_map, min, OnErr, OnOk, IfErr}
use Rattle.lean_io.specs.Told.{Rose}
use Rattle.report_pages.specs.declared.pages.Stop.{Stop}
use Rattle.report_pages.specs.declared.pages.Stop.TheVariants.{NoMemory, WriteFault}
use Rattle.report_pages.specs.Printed.{IsTaken, IsPrinted, IsFront, HasCause, HasRoom, Prints}

pub IsTaken-nothing : (told : Option (List ℕ)) → IsTaken told told []
IsTaken-nothing None = refl
IsTaken-nothing (Some b) = ap Some (sym (append-nil b))

pub IsTaken-append : (first second third : Option (List ℕ)) (a b : List ℕ) → IsTaken first second a → IsTaken second third b → IsTaken first third (a ++ b)
IsTaken-append None second third a b p q = rw (q, p) refl
IsTaken-append (Some told) second third a b p q = rw (q, p) (ap Some (append_assoc told a b))

-- a front that a write took before it failed
pub IsFront-take : (before after : Option (List ℕ)) (bytes : List ℕ)
    → (n : ℕ) × (n ≤ length bytes) × (after ≡ option_map (λ b. b ++ take n bytes) before) → IsFront before after bytes
IsFront-take before after bytes (n, le, taken) =
    record { written = take n bytes; left = drop n bytes; taken = taken; whole = sym (take-append-drop n bytes) }

-- nothing was printed yet
pub IsPrinted-nothing : (told : Option (List ℕ)) (page : List ℕ) → IsPrinted told told page page []
IsPrinted-nothing told page = record { written = []; taken = IsTaken-nothing told; rest = append-nil page }

pub IsPrinted-append : (first second third : Option (List ℕ)) (page next last a b : List ℕ)
    → IsPrinted first second page next a → IsPrinted second third next last b → IsPrinted first third page last (a ++ b)
IsPrinted-append first second third page next last a b p q = record {
  written = p.written ++ q.written;
  taken = IsTaken-append first second third p.written q.written p.taken q.taken;
  rest = sym (append_assoc page a b) ∙ rw p.rest (append_assoc p.written next b ∙ rw q.rest (sym (append_assoc p.written q.written last)));
}

pub IsFront-behind : (first second third : Option (List ℕ)) (page next a b : List ℕ)
    → IsPrinted first second page next a → IsFront second third (next ++ b) → IsFront first third (page ++ (a ++ b))
IsFront-behind first second third page next a b p q = record {
  written = p.written ++ q.written;
  left = q.left;
  taken = IsTaken-append first second third p.written q.written p.taken q.taken;
  whole = sym (append_assoc page a b) ∙ rw p.rest (append_assoc p.written next b ∙ rw q.whole (sym (append_assoc p.written q.written q.left)));
}

-- a front of some bytes is one of more
pub IsFront-more : (before after : Option (List ℕ)) (bytes more : List ℕ) → IsFront before after bytes → IsFront before after (bytes ++ more)
IsFront-more before after bytes more p = record {
  written = p.written;
  left = p.left ++ more;
  taken = p.taken;
  whole = rw p.whole (append_assoc p.written p.left more);
}

-- what was printed so far, where nothing more goes into the sink
pub IsFront-printed : (before after : Option (List ℕ)) (page next a b : List ℕ) → IsPrinted before after page next a → IsFront before after (page ++ (a ++ b))
IsFront-printed before after page next a b p = record {
  written = p.written;
  left = next ++ b;
  taken = p.taken;
  whole = sym (append_assoc page a b) ∙ rw p.rest (append_assoc p.written next b);
}

pub on_err : {A E : Type 0} (r : Result A E) (P : Type 0) → P → OnErr r P
on_err (Ok x) P h = tt
on_err (Err e) P h = h

pub on_err-map : {A E : Type 0} (r : Result A E) (P Q : Type 0) → (P → Q) → OnErr r P → OnErr r Q
on_err-map (Ok x) P Q f h = tt
on_err-map (Err e) P Q f h = f h

pub on_ok : {A E : Type 0} (r : Result A E) (P : Type 0) → P → OnOk r P
on_ok (Ok x) P h = h
on_ok (Err e) P h = tt

-- a cause of a later call is one of all of them
pub cause-earlier : (before now later : ℕ) (stop : Stop) → before ≤ now → HasCause now later stop → HasCause before later stop
cause-earlier before now later NoMemory grows cause = tt
cause-earlier before now later WriteFault grows cause = rose before now later grows cause
  where
    rose : (before now later : ℕ) → before ≤ now → Rose now later → Rose before later
    rose before now later grows r = (let h : min (now + 1) (2 ^ 64 - 1) ≤ later = r in omega (arith, h, grows))

-- a line was put on a page, and the page was turned
pub prints-line : {A S : Type 0} (told : S → Option (List ℕ)) (faults : S → ℕ) (old now : S) (page new line : List ℕ) (result : Result A Stop)
    → OnOk result (IsPrinted (told old) (told now) (page ++ line) new []) → OnOk result (HasRoom new) → OnErr result (IsFront (told old) (told now) (page ++ line))
    → IfErr result (HasCause (faults old) (faults now)) → faults old ≤ faults now → Prints told faults old now page new line result
prints-line told faults old now page new line (Ok x) printed room front cause grows =
    (record { written = printed.written; taken = printed.taken; rest = sym (append-nil (page ++ line)) ∙ printed.rest }, room, grows)
prints-line told faults old now page new line (Err stop) printed room front cause grows = (front, cause, grows)
