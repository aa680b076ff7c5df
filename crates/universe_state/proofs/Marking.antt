-- The loop that marks each security.
use Rattle.std.proofs.Common.{◌≡◌, ℕ, ◌+◌, ◌<◌, ◌≤◌, List, [], ◌∷◌, ◌++◌, length, map, take, drop, get_or, Some, refl, sym, ap, ◌∙◌, arith, suc, zero, drop-cons, append-nil}
use Rattle.std.specs.List.{slice_get}
use Rattle.std.proofs.lemmas.List.{take_more, take_all, drop_all, map-append}
use Rattle.indexmap.specs.IndexMap.{set_value_at}
use Rattle.universe_state.specs.declared.member.Member.{Member}
use Rattle.universe_state.specs.Choice.{marked_by, marked}
use Rattle.universe_state.specs.Entries.{active_of, marked_entry}
use Rattle.universe_state.proofs.Lookups.{set_at}

-- the first entries are marked, and the others are as they were
abbrev pub MarkedTo : List (List ℕ) → ℕ → List (List ℕ × Member) → List (List ℕ × Member) → Type 0
MarkedTo symbols i before now = now ≡ map (marked_entry symbols) (take i before) ++ drop i before

-- what one call leaves
pub marked_at : (symbols : List (List ℕ)) (es : List (List ℕ × Member)) (index : ℕ) (pair : List ℕ × Member) (w : Member)
    → slice_get es index ≡ Some pair → w ≡ (marked_entry symbols pair).1
    → (front back : List (List ℕ × Member)) (e : List ℕ × Member) → es ≡ front ++ e ∷ back → length front ≡ index
    → set_value_at es index w ≡ front ++ marked_entry symbols e ∷ back
marked_at symbols es index pair w at is front back e parts place =
    let here : Some e ≡ Some pair = sym (slice_at front back e) ∙ ap (slice_get (front ++ e ∷ back)) place ∙ sym (ap (λ xs. slice_get xs index) parts) ∙ at in
    let same : e ≡ pair = cc in
    ap (λ xs. set_value_at xs index w) parts ∙ ap (λ i. set_value_at (front ++ e ∷ back) i w) (sym place)
    ∙ set_at front back e w ∙ ap (λ v. front ++ (e.0, v) ∷ back) (is ∙ ap (λ (p : List ℕ × Member). (marked_entry symbols p).1) (sym same))
  where
    slice_at : (front back : List (List ℕ × Member)) (e : List ℕ × Member) → slice_get (front ++ e ∷ back) (length front) ≡ Some e
    slice_at [] back e = refl
    slice_at (f ∷ front) back e = slice_at front back e

pub marked_more : (symbols : List (List ℕ)) (i : ℕ) (before now after : List (List ℕ × Member)) → i < length before → MarkedTo symbols i before now
    → ((front back : List (List ℕ × Member)) (e : List ℕ × Member) → now ≡ front ++ e ∷ back → length front ≡ i → after ≡ front ++ marked_entry symbols e ∷ back)
    → MarkedTo symbols (i + 1) before after
marked_more symbols i [] now after within marks step = absurd (omega arith)
marked_more symbols i (b ∷ bs) now after within marks step =
    let before : List (List ℕ × Member) = b ∷ bs in
    let e : List ℕ × Member = get_or before i b in
    let front : List (List ℕ × Member) = map (marked_entry symbols) (take i before) in
    let rest : drop i before ≡ e ∷ drop (suc i) before = drop-cons before i b within in
    let size : length front ≡ i = front_size symbols i before within in
    step front (drop (suc i) before) e (marks ∙ ap (λ back. front ++ back) rest) size
    ∙ joined front (marked_entry symbols e) (drop (suc i) before)
    ∙ ap (λ xs. xs ++ drop (suc i) before) (sym (ap (map (marked_entry symbols)) (take_more before i b within) ∙ map-append (marked_entry symbols) (take i before) (e ∷ [])))
    ∙ ap (λ j. map (marked_entry symbols) (take (i + 1) before) ++ drop j before) (next i)
  where
    next : (i : ℕ) → suc i ≡ i + 1
    next i = omega arith

    joined : (front : List (List ℕ × Member)) (e : List ℕ × Member) (back : List (List ℕ × Member)) → front ++ e ∷ back ≡ (front ++ e ∷ []) ++ back
    joined [] e back = refl
    joined (f ∷ front) e back = ap (λ xs. f ∷ xs) (joined front e back)

    front_size : (symbols : List (List ℕ)) (i : ℕ) (before : List (List ℕ × Member)) → i < length before → length (map (marked_entry symbols) (take i before)) ≡ i
    front_size symbols zero before within = refl
    front_size symbols (suc i) [] within = absurd (omega arith)
    front_size symbols (suc i) (b ∷ bs) within = ap suc (front_size symbols i bs (omega arith))

pub marked_all : (symbols : List (List ℕ)) (i : ℕ) (before now : List (List ℕ × Member)) → length before ≤ i → MarkedTo symbols i before now
    → map active_of now ≡ marked symbols (map active_of before)
marked_all symbols i before now end marks =
    ap (map active_of) marks ∙ whole symbols i before end
  where
    same_marks : (symbols : List (List ℕ)) (es : List (List ℕ × Member)) → map active_of (map (marked_entry symbols) es) ≡ marked symbols (map active_of es)
    same_marks symbols [] = refl
    same_marks symbols (e ∷ es) = ap (λ rest. marked_by symbols (active_of e) ∷ rest) (same_marks symbols es)

    whole : (symbols : List (List ℕ)) (i : ℕ) (before : List (List ℕ × Member)) → length before ≤ i
        → map active_of (map (marked_entry symbols) (take i before) ++ drop i before) ≡ marked symbols (map active_of before)
    whole symbols i before end =
        ap (λ xs. map active_of (map (marked_entry symbols) xs ++ drop i before)) (take_all i before end)
        ∙ ap (λ xs. map active_of (map (marked_entry symbols) before ++ xs)) (drop_all i before end)
        ∙ ap (map active_of) (append-nil (map (marked_entry symbols) before)) ∙ same_marks symbols before
