-- How a demo ends, and that its number has at most six digits.
use Rattle.std.proofs.Common.{◌≡◌, ℕ, ◌≤◌, ◌<◌, ◌^◌, List, [], ◌++◌, refl, sym, ap, ◌∙◌, subst, arith, length}
use Rattle.std.proofs.Math.Nat.{pow-le-pow_right}
use Rattle.std.specs.Prelude.{Option, Some, None, IfSome, Result, Ok, Err, IfOk, option_map}
use Rattle.lean_fixed.specs.Digits.{digits}
use Rattle.lean_fixed.proofs.DigitsLemmas.{digits-tell, value_of-lt}
use Rattle.report_pages.specs.Printed.{IsTaken}
use Rattle.lean_top.specs.declared.status.Status.{Status}
use Rattle.lean_top.specs.declared.status.Status.TheVariants.{Done, Usage, Algorithm, BadRow, ReadFault, WriteFault, NoMemory, Limit}
use Rattle.lean_top.specs.declared.demo.DemoEnd.{DemoEnd}
use Rattle.lean_top.specs.CloseTail.{behind_close}
use Rattle.lean_top.specs.DemoEnd.{IsWhole}
use Rattle.lean_top.specs.Outcome.{HasReported, HasStatusCause}

-- a whole report was printed
pub whole_reported : (want : List ℕ × Status) (IsSteps : List ℕ → Type 0) (before after : Option (List ℕ)) (status : Status) → IsWhole status
    → status ≡ want.1 → IsTaken before after want.0 → HasReported want IsSteps before after status
whole_reported want IsSteps before after Done whole is taken = (is, taken)
whole_reported want IsSteps before after Usage whole is taken = (is, taken)
whole_reported want IsSteps before after Algorithm whole is taken = (is, taken)
whole_reported want IsSteps before after BadRow whole is taken = (is, taken)
whole_reported want IsSteps before after Limit whole is taken = (is, taken)
whole_reported want IsSteps before after ReadFault whole is taken = absurd whole
whole_reported want IsSteps before after WriteFault whole is taken = absurd whole
whole_reported want IsSteps before after NoMemory whole is taken = absurd whole

-- and what was printed by a whole one is that
pub reported_whole : (want : List ℕ × Status) (IsSteps : List ℕ → Type 0) (before after : Option (List ℕ)) (status : Status) → IsWhole status
    → HasReported want IsSteps before after status → (status ≡ want.1) × IsTaken before after want.0
reported_whole want IsSteps before after Done whole has = has
reported_whole want IsSteps before after Usage whole has = has
reported_whole want IsSteps before after Algorithm whole has = has
reported_whole want IsSteps before after BadRow whole has = has
reported_whole want IsSteps before after Limit whole has = has
reported_whole want IsSteps before after ReadFault whole has = absurd whole
reported_whole want IsSteps before after WriteFault whole has = absurd whole
reported_whole want IsSteps before after NoMemory whole has = absurd whole

same_bytes : (one other : List ℕ) → Some one ≡ Some other → one ≡ other
same_bytes one other is = cc

-- what is kept of a whole report that was printed into an empty sink, and its status
pub ended : {E : Type 0} (want : List ℕ × Status) (IsSteps : List ℕ → Type 0) (before : Option (List ℕ)) (bytes : List ℕ) (status : Status) (result : Result DemoEnd E)
    → before ≡ Some [] → HasReported want IsSteps before (Some bytes) status → IfOk result (λ end. end.text.items ≡ behind_close bytes)
    → IfOk result (λ end. end.status ≡ status) → IfOk result (λ end. IsWhole end.status)
    → IfOk result (λ end. (end.text.items ≡ behind_close want.0) × (end.status ≡ want.1))
ended want IsSteps before bytes status (Err e) none has text is whole = tt
ended want IsSteps before bytes status (Ok end) none has text is whole =
    let printed = reported_whole want IsSteps before (Some bytes) status (subst IsWhole is whole) has in
    let taken : Some bytes ≡ option_map (λ b. b ++ want.0) (Some []) = rw none at printed.1 in
    (text ∙ ap behind_close (same_bytes bytes want.0 taken), is ∙ printed.0)

-- a whole report has no cause to name
pub whole_caused : (folder folder_now sink sink_now : ℕ) (status : Status) → IsWhole status → HasStatusCause folder folder_now sink sink_now status
whole_caused folder folder_now sink sink_now Done whole = tt
whole_caused folder folder_now sink sink_now Usage whole = tt
whole_caused folder folder_now sink sink_now Algorithm whole = tt
whole_caused folder folder_now sink sink_now BadRow whole = tt
whole_caused folder folder_now sink sink_now Limit whole = tt
whole_caused folder folder_now sink sink_now ReadFault whole = absurd whole
whole_caused folder folder_now sink sink_now WriteFault whole = absurd whole
whole_caused folder folder_now sink sink_now NoMemory whole = absurd whole

below : (text : List ℕ) (number : ℕ) → length text ≤ 6 → digits text ≡ Some number → number ≤ 999999
below text number short is =
    let told = digits-tell text number is in
    let least = value_of-lt text told.0 in
    let power : 10 ^ length text ≤ 10 ^ 6 = pow-le-pow_right (let ten : 0 < 10 = omega arith in ten) short in
    omega (arith, least, power, told.1)

-- six digits say a number below a million
pub six_digits : (text : List ℕ) (found : Option ℕ) → length text ≤ 6 → found ≡ digits text → IfSome found (λ number. number ≤ 999999)
six_digits text None short is = tt
six_digits text (Some number) short is = below text number short (sym is)
