use Rattle.std.proofs.Common.{ℕ, ◌+◌, ◌-◌, ◌≡◌, ◌≤◌, List, ◌++◌, length, take, drop, Option, Some, None, arith, sym, ap, ◌∙◌, append_assoc}
use Rattle.std.specs.Io.KnownBytes.{Keeps, Consumes, prepend_known}
use Rattle.std.proofs.lemmas.List.{drop-take, drop-drop, take_at, length-take-le, take-append-drop}

-- what is left between two places when n are taken from the front
pub between-later : (xs : List ℕ) (from to n : ℕ) → n ≤ to - from
    → take (to - (from + n)) (drop (from + n) xs) ≡ drop n (take (to - from) (drop from xs))
between-later xs from to n h =
    let left = to - (from + n) in
    let parts : to - from ≡ n + left = omega arith in
    sym (ap (λ k. drop n (take k (drop from xs))) parts ∙ drop-take n left (drop from xs) ∙ ap (λ ys. take left ys) (drop-drop n from xs))

-- the front of what was read ahead was next in the file
pub consumes_front : (unread : Option (List ℕ)) (ahead left into more : List ℕ) (rest : Option (List ℕ)) (n : ℕ)
    → Keeps unread (prepend_known ahead rest) → n ≤ length ahead → into ≡ take n ahead ++ more → left ≡ drop n ahead
    → Consumes unread (prepend_known left rest) (take n into)
consumes_front None ahead left into more rest n kept h moved is_left = tt
consumes_front (Some xs) ahead left into more None n kept h moved is_left = absurd kept
consumes_front (Some xs) ahead left into more (Some ys) n kept h moved is_left =
    sym kept
    ∙ ap (λ zs. zs ++ ys) (sym (take-append-drop n ahead))
    ∙ append_assoc (take n ahead) (drop n ahead) ys
    ∙ ap (λ zs. zs ++ (drop n ahead ++ ys)) (sym (ap (λ zs. take n zs) moved ∙ take_at (take n ahead) more n (length-take-le n ahead h)))
    ∙ ap (λ zs. take n into ++ (zs ++ ys)) (sym is_left)
