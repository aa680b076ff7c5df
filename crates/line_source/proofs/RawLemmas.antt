-- The first line of some bytes, where the first LF stands.
use Rattle.std.proofs.Common.{◌≡◌, ℕ, zero, suc, ◌+◌, ◌<◌, ◌≤◌, ◌==◌, ◌&&◌, not, Bool, true, false, if◌then◌else◌, List, [], ◌∷◌, ◌++◌, length, take, drop, slice_index, refl, sym, ap, ◌∙◌, arith, length-append, length-take-le, get_or-take, Option, None, Some, add-one, drop-cons, ◌⊎◌, inl, inr, append_assoc, add_assoc, subst, append-nil, take-append-drop}
use Rattle.std.proofs.Math.Seq.{take-add}
use Rattle.std.proofs.lemmas.List.{take_at, drop_at, drop-drop}
use Rattle.std.proofs.lemmas.List.Folds.{list_all-append}
use Rattle.std.specs.List.{list_all}
use Rattle.std.proofs.lemmas.Bool.{eqb-true, eq-eqb}
use Rattle.std.proofs.lemmas.Bool.Decides.{nat_tests}
use Rattle.memchr.specs.Find.{IsFirstByte, is_byte}
use Rattle.lean_fixed.specs.Fields.{begin_first}
use Rattle.line_source.specs.Lines.{raw_lines, without_cr}
use Rattle.line_source.specs.Raw.{FindsLf, GivesRaw}
use Rattle.line_source.specs.Written.{has_no_lf}
use Rattle.line_source.specs.declared.raw.Raw.{Raw}
use Rattle.lean_io.specs.Told.{Reads}

abbrev is_other : ℕ → Bool
is_other b = not (b == 10)

-- what a byte that is no LF says of the test for one
other-test : (b : ℕ) (bytes : List ℕ) → has_no_lf (b ∷ bytes) ≡ true → ((b == 10) ≡ false) × (has_no_lf bytes ≡ true)
other-test b bytes h =
    elim (b == 10) as (λ v. (not v && list_all is_other bytes) ≡ true → (v ≡ false) × (list_all is_other bytes ≡ true)) [
      | true ↦ λ e. cc
      | false ↦ λ e. (refl, e)
    ] h

-- no byte at any place is an LF
pub no_lf-from : (bytes : List ℕ) → ((k : ℕ) → k < length bytes → slice_index bytes k ≡ 10 → ⊥) → has_no_lf bytes ≡ true
no_lf-from [] none = refl
no_lf-from (b ∷ bytes) none =
    let other : (b == 10) ≡ false = (let h : b ≡ 10 → ⊥ = none 0 (omega arith) in grind (arith, nat_tests)) in
    rw (other, no_lf-from bytes (λ k below. none (suc k) (omega arith))) refl

-- bytes without an LF before others without one
pub no_lf-both : (a b : List ℕ) → has_no_lf a ≡ true → has_no_lf b ≡ true → has_no_lf (a ++ b) ≡ true
no_lf-both a b p q = list_all-append is_other a b ∙ rw (p, q) refl

-- the same, as a search for the first LF tells it
no_lf-before : (bytes : List ℕ) (n : ℕ) → n ≤ length bytes
    → ((k : ℕ) → 0 ≤ k → k < n → (slice_index bytes k == 10) ≡ true → ⊥) → has_no_lf (take n bytes) ≡ true
no_lf-before bytes n within none =
    no_lf-from (take n bytes) (λ k below lf.
    let small : k < n = omega (arith, below, length-take-le n bytes within) in
    none k (omega arith) small (eq-eqb _ _ (sym (get_or-take n bytes k 0 small) ∙ lf)))

pub finds_lf : (bytes : List ℕ) (found : Option ℕ) → IsFirstByte (is_byte 10) bytes found → FindsLf bytes found
finds_lf bytes None none =
    no_lf-from bytes (λ k below lf. none k (omega arith) below (eq-eqb _ _ lf))
finds_lf bytes (Some k) first =
    let high : k < length bytes = first.0.high in (
      high,
      no_lf-before bytes k (omega arith) first.0.before,
      rw (add-one, drop-cons bytes k 0 high) (ap (λ b. b ∷ drop (suc k) bytes) (eqb-true _ _ first.1)),
    )

-- a line ends at its LF
pub raw_lines-cut : (line rest : List ℕ) → has_no_lf line ≡ true → raw_lines (line ++ 10 ∷ rest) ≡ line ∷ raw_lines rest
raw_lines-cut [] rest h = refl
raw_lines-cut (b ∷ line) rest h =
    let t = other-test b line h in
    rw (t.0, raw_lines-cut line rest t.1) refl

-- the last line may have no LF
pub raw_lines-last : (line : List ℕ) → 0 < length line → has_no_lf line ≡ true → raw_lines line ≡ line ∷ []
raw_lines-last [] some h = absurd (omega arith)
raw_lines-last (b ∷ []) some h = let t = other-test b [] h in rw t.0 refl
raw_lines-last (b ∷ a ∷ line) some h =
    let t = other-test b (a ∷ line) h in
    rw (t.0, raw_lines-last (a ∷ line) (omega arith) t.1) refl

-- some lines of which the first begins with these bytes
abbrev pub Begins : List ℕ → List (List ℕ) → Type 0
Begins line all = (more : List ℕ) × (lines : List (List ℕ)) × (all ≡ (line ++ more) ∷ lines)

one_begins : (b : ℕ) (all : List (List ℕ)) → Begins (b ∷ []) (begin_first b all)
one_begins b [] = ([], [], refl)
one_begins b (line ∷ lines) = (line, lines, refl)

-- bytes with no LF stand at the front of the first line
pub raw_lines-begin : (line rest : List ℕ) → 0 < length line → has_no_lf line ≡ true → Begins line (raw_lines (line ++ rest))
raw_lines-begin [] rest some h = absurd (omega arith)
raw_lines-begin (b ∷ []) rest some h = let t = other-test b [] h in rw t.0 (one_begins b (raw_lines rest))
raw_lines-begin (b ∷ a ∷ line) rest some h =
    let t = other-test b (a ∷ line) h in
    let w = raw_lines-begin (a ∷ line) rest (omega arith) t.1 in
    (w.0, w.1, rw (t.0, w.2) refl)

pub without_cr-cr : (text : List ℕ) → without_cr (text ++ 13 ∷ []) ≡ text
without_cr-cr [] = refl
without_cr-cr (b ∷ text) =
    let some : (length (text ++ 13 ∷ []) == 0) ≡ false = (let n : length (text ++ 13 ∷ []) ≡ length text + 1 = length-append text (13 ∷ []) in grind (arith, nat_tests)) in
    rw (some, without_cr-cr text) (both (b == 13) (b ∷ text))
  where
    both : (t : Bool) (xs : List ℕ) → (if t && false then [] else xs) ≡ xs
    both true xs = refl
    both false xs = refl

pub without_cr-other : (text : List ℕ) (b : ℕ) → (b ≡ 13 → ⊥) → without_cr (text ++ b ∷ []) ≡ text ++ b ∷ []
without_cr-other [] b other =
    let no' : (b == 13) ≡ false = grind (arith, nat_tests) in rw no' refl
without_cr-other (a ∷ text) b other =
    let some : (length (text ++ b ∷ []) == 0) ≡ false = (let n : length (text ++ b ∷ []) ≡ length text + 1 = length-append text (b ∷ []) in grind (arith, nat_tests)) in
    rw (some, without_cr-other text b other) (both (a == 13) (a ∷ (text ++ b ∷ [])))
  where
    both : (t : Bool) (xs : List ℕ) → (if t && false then [] else xs) ≡ xs
    both true xs = refl
    both false xs = refl

-- what is left of a file after a read, behind what was ahead
pub read_on : (n : ℕ) (ahead old new into : List ℕ) → Reads n old new into → ahead ++ old ≡ (ahead ++ take n into) ++ new
read_on n ahead old new into r = ap (λ xs. ahead ++ xs) r.moved ∙ sym (append_assoc ahead (take n into) new)

-- a read gave nothing: the file is at its end
pub read_none : (old new into : List ℕ) → 0 < length into → Reads 0 old new into → (old ≡ []) × (new ≡ [])
read_none old new into room r = elim (r.ends.0 refl) [
  | inl none ↦ (none, sym r.moved ∙ none)
  | inr full ↦ absurd (omega (arith, ap length full))
]

-- the line that ends at the first LF ahead
pub found-line : (ahead rest : List ℕ) (place : ℕ) → FindsLf ahead (Some place)
    → raw_lines (ahead ++ rest) ≡ take place ahead ∷ raw_lines (drop (place + 1) ahead ++ rest)
found-line ahead rest place found =
    let parts : ahead ≡ take place ahead ++ 10 ∷ drop (place + 1) ahead =
    sym (take-append-drop place ahead) ∙ ap (λ xs. take place ahead ++ xs) found.2 in
    ap (λ xs. raw_lines (xs ++ rest)) parts
    ∙ ap raw_lines (append_assoc (take place ahead) (10 ∷ drop (place + 1) ahead) rest)
    ∙ raw_lines-cut (take place ahead) (drop (place + 1) ahead ++ rest) found.1

-- the first LF of a piece behind bytes without one
pub found-behind : (ahead piece : List ℕ) (place : ℕ) → has_no_lf ahead ≡ true → FindsLf piece (Some place)
    → FindsLf (ahead ++ piece) (Some (length ahead + place))
found-behind ahead piece place whole found =
    let within : length ahead + place < length (ahead ++ piece) = omega (arith, found.0, length-append ahead piece) in
    let front : take (length ahead + place) (ahead ++ piece) ≡ ahead ++ take place piece =
    take-add (length ahead) place (ahead ++ piece)
    ∙ ap (λ xs. xs ++ take place (drop (length ahead) (ahead ++ piece))) (take_at ahead piece (length ahead) refl)
    ∙ ap (λ xs. ahead ++ take place xs) (drop_at ahead piece (length ahead) refl) in
    let behind : (k : ℕ) → drop (length ahead + k) (ahead ++ piece) ≡ drop k piece =
    λ (k : ℕ). sym (drop-drop k (length ahead) (ahead ++ piece)) ∙ ap (λ xs. drop k xs) (drop_at ahead piece (length ahead) refl) in (
      within,
      ap has_no_lf front ∙ no_lf-both ahead (take place piece) whole found.1,
      behind place ∙ found.2 ∙ ap (λ xs. 10 ∷ xs) (sym (behind (place + 1)) ∙ ap (λ k. drop k (ahead ++ piece)) (sym (add_assoc (length ahead) place 1))),
    )

one_byte : (into new : List ℕ) (n : ℕ) → n ≤ length into → length into ≡ 1 → 0 < n → take n into ++ new ≡ slice_index into 0 ∷ new
one_byte [] new n within one some = absurd (omega arith)
one_byte (b ∷ []) new n within one some = let is : n ≡ 1 = omega arith in rw is refl
one_byte (b ∷ a ∷ into) new n within one some = absurd (omega arith)

-- the buffer is full, and another byte of the line follows
pub full-long : (ahead old new into : List ℕ) (n : ℕ) → length ahead ≡ 256 → has_no_lf ahead ≡ true
    → Reads n old new into → n ≤ length into → length into ≡ 1 → 0 < n → (slice_index into 0 ≡ 10 → ⊥)
    → (long : List ℕ) × (more : List (List ℕ)) × (256 < length long) × (raw_lines (ahead ++ old) ≡ long ∷ more)
full-long ahead old new into n full whole r within one some other =
    let b = slice_index into 0 in
    let last : has_no_lf (b ∷ []) ≡ true = no_lf-from (b ∷ []) (only b other) in
    let line = ahead ++ b ∷ [] in
    let size : length line ≡ length ahead + 1 = length-append ahead (b ∷ []) in
    let w = raw_lines-begin line new (omega arith) (no_lf-both ahead (b ∷ []) whole last) in
    let is : ahead ++ old ≡ line ++ new =
    ap (λ xs. ahead ++ xs) (r.moved ∙ one_byte into new n within one some) ∙ sym (append_assoc ahead (b ∷ []) new) in
    (line ++ w.0, w.1, omega (arith, length-append line w.0), ap raw_lines is ∙ w.2)
  where
    only : (b : ℕ) → (b ≡ 10 → ⊥) → (k : ℕ) → k < 1 → slice_index (b ∷ []) k ≡ 10 → ⊥
    only b other zero below lf = other lf
    only b other (suc k) below lf = absurd (omega arith)

-- the buffer is full, and the line ends behind it
pub full-line : (ahead old new into : List ℕ) (n : ℕ) → length ahead ≡ 256 → has_no_lf ahead ≡ true
    → Reads n old new into → n ≤ length into → length into ≡ 1 → ((0 < n) × (slice_index into 0 ≡ 10)) ⊎ (n ≤ 0)
    → raw_lines (ahead ++ old) ≡ ahead ∷ raw_lines new
full-line ahead old new into n full whole r within one (inl lf) =
    ap (λ xs. raw_lines (ahead ++ xs)) (r.moved ∙ one_byte into new n within one lf.0 ∙ ap (λ b. b ∷ new) lf.1)
    ∙ raw_lines-cut ahead new whole
full-line ahead old new into n full whole r within one (inr none) =
    let is : n ≡ 0 = omega arith in
    let at_end = read_none old new into (omega arith) (subst (λ k. Reads k old new into) is r) in
    rw (at_end.0, at_end.1, append-nil) (raw_lines-last ahead (omega arith) whole)

-- the file is at its end behind what is ahead
pub at-end : (all ahead kept left old new into line : List ℕ) (raw : Raw) (n : ℕ) → all ≡ ahead ++ old → kept ≡ ahead
    → n ≡ 0 → 0 < length into → Reads n old new into → GivesRaw kept left line raw → GivesRaw all (left ++ new) line raw
at-end all ahead kept left old new into line raw n is same zero_is room r gives =
    let none = read_none old new into room (subst (λ k. Reads k old new into) zero_is r) in
    let before : kept ≡ all = same ∙ sym (is ∙ ap (λ xs. ahead ++ xs) none.0 ∙ append-nil ahead) in
    let after : left ≡ left ++ new = sym (ap (λ xs. left ++ xs) none.1 ∙ append-nil left) in
    subst (λ xs. GivesRaw xs (left ++ new) line raw) before (subst (λ xs. GivesRaw kept xs line raw) after gives)

-- what was read has the LF of the line ahead
pub found-read : (all ahead grown old new into : List ℕ) (to n place : ℕ) → all ≡ ahead ++ old → length ahead ≡ to
    → has_no_lf ahead ≡ true → Reads n old new into → grown ≡ ahead ++ take n into → FindsLf (take n into) (Some place)
    → raw_lines all ≡ take (to + place) grown ∷ raw_lines (drop (to + place + 1) grown ++ new)
found-read all ahead grown old new into to n place is long whole r more found =
    let at = subst (λ k. FindsLf (ahead ++ take n into) (Some (k + place))) long (found-behind ahead (take n into) place whole found) in
    let line = found-line (ahead ++ take n into) new (to + place) at in
    ap raw_lines (is ∙ read_on n ahead old new into r)
    ∙ subst (λ xs. raw_lines ((ahead ++ take n into) ++ new) ≡ take (to + place) xs ∷ raw_lines (drop (to + place + 1) xs ++ new)) (sym more) line

-- what was read has no LF, and is ahead as well
pub none-read : (all ahead grown old new into : List ℕ) (n : ℕ) → all ≡ ahead ++ old → Reads n old new into
    → grown ≡ ahead ++ take n into → all ≡ grown ++ new
none-read all ahead grown old new into n is r more =
    is ∙ read_on n ahead old new into r ∙ ap (λ xs. xs ++ new) (sym more)

pub none-ahead : (ahead grown piece : List ℕ) → has_no_lf ahead ≡ true → has_no_lf piece ≡ true → grown ≡ ahead ++ piece
    → has_no_lf grown ≡ true
none-ahead ahead grown piece whole none more = ap has_no_lf more ∙ no_lf-both ahead piece whole none
