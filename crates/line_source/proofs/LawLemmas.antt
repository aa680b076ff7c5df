-- Texts with an LF behind each are their own lines.
use Rattle.std.proofs.Common.{◌≡◌, ℕ, ◌+◌, ◌≤◌, ◌==◌, ◌&&◌, Bool, true, false, if◌then◌else◌, List, [], ◌∷◌, ◌++◌, length, refl, ap, ◌∙◌, arith, append_assoc}
use Rattle.std.specs.Prelude.{nat_lt}
use Rattle.std.specs.List.{All}
use Rattle.std.proofs.lemmas.Bool.Decides.{nat_tests}
use Rattle.std.proofs.lemmas.List.Elements.{All-head, All-tail, All-weaker}
use Rattle.line_source.specs.Lines.{raw_lines, without_cr, lines, numbered, line_of, TextLine}
use Rattle.line_source.specs.Written.{has_no_lf, IsText, written, text_lines}
use Rattle.line_source.proofs.RawLemmas.{raw_lines-cut}

abbrev IsWhole : List ℕ → Type 0
IsWhole text = has_no_lf text ≡ true

pub raw_lines-written : (texts : List (List ℕ)) → All IsWhole texts → raw_lines (written texts) ≡ texts
raw_lines-written [] all = refl
raw_lines-written (text ∷ texts) all =
    let more = raw_lines-written texts (All-tail IsWhole text texts all) in
    ap raw_lines (append_assoc text (10 ∷ []) (written texts))
    ∙ raw_lines-cut text (written texts) (All-head IsWhole text texts all)
    ∙ ap (λ xs. text ∷ xs) more

without_cr-same : (text : List ℕ) → ((front : List ℕ) → text ≡ front ++ 13 ∷ [] → ⊥) → without_cr text ≡ text
without_cr-same [] ends = refl
without_cr-same (b ∷ []) ends =
    let other : (b == 13) ≡ false = (let h : b ≡ 13 → ⊥ = λ e. ends [] (ap (λ x. x ∷ []) e) in grind (arith, nat_tests)) in
    rw other refl
without_cr-same (b ∷ a ∷ text) ends =
    let more = without_cr-same (a ∷ text) (λ front e. ends (b ∷ front) (ap (λ xs. b ∷ xs) e)) in
    let some : (length (a ∷ text) == 0) ≡ false = grind (arith, nat_tests) in
    rw (some, more) (both (b == 13) (b ∷ a ∷ text))
  where
    both : (t : Bool) (xs : List ℕ) → (if t && false then [] else xs) ≡ xs
    both true xs = refl
    both false xs = refl

line_of-text : (number : ℕ) (text : List ℕ) → number ≤ 10_000_000 → IsText text → line_of number text ≡ TextLine text
line_of-text number [] few is = (let h = is.some in absurd (omega arith))
line_of-text number (b ∷ text) few is =
    let count : nat_lt 10_000_000 number ≡ false = grind (arith, nat_tests) in
    let short = is.few in
    let size : nat_lt 256 (length (b ∷ text)) ≡ false = grind (arith, nat_tests) in
    rw (count, size, without_cr-same (b ∷ text) is.ends) refl

pub numbered-texts : (number : ℕ) (texts : List (List ℕ)) → All IsText texts → number + length texts ≤ 10_000_001
    → numbered number texts ≡ text_lines number texts
numbered-texts number [] all few = refl
numbered-texts number (text ∷ texts) all few =
    let here = line_of-text number text (omega arith) (All-head IsText text texts all) in
    let more = numbered-texts (number + 1) texts (All-tail IsText text texts all) (omega arith) in
    rw (here, more) refl

pub lines-written : (texts : List (List ℕ)) → All IsText texts → length texts ≤ 10_000_000 → lines (written texts) ≡ text_lines 1 texts
lines-written texts all few =
    ap (λ xs. numbered 1 xs) (raw_lines-written texts (All-weaker IsText IsWhole (λ text is. is.whole) texts all))
    ∙ numbered-texts 1 texts all (omega arith)
