-- The additions of a choice, with one symbol more.
use Rattle.std.proofs.Common.{◌≡◌, ℕ, ◌+◌, ◌<◌, Bool, true, false, cond, not, ◌&&◌, ◌||◌, List, [], ◌∷◌, ◌++◌, length, take, get_or, refl, sym, ap, ◌∙◌}
use Rattle.std.specs.List.{filter}
use Rattle.std.specs.Cmp.Lexicographic.{bytes_decides}
use Rattle.std.proofs.lemmas.Bool.{and_right, true≢false}
use Rattle.std.proofs.lemmas.List.{take_more}
use Rattle.std.proofs.lemmas.List.Elements.{filter-append}
use Rattle.std.proofs.lemmas.Map.Views.{any-filter_same}
use Rattle.universe_state.specs.Active.{Active, is_same, is_active}
use Rattle.universe_state.specs.Choice.{is_selected, each_once, additions}

-- a symbol stands in a filtered list where it passes and stood there
has_filter : (s : List ℕ) (q : List ℕ → Bool) (ts : List (List ℕ)) → is_selected (filter q ts) s ≡ (q s && is_selected ts s)
has_filter s q ts = any-filter_same (λ t. is_same t s) q (q s) (λ t same. ap q ((bytes_decides t s).0 same)) ts

once : (e d m n : Bool) → d ≡ e → m ≡ n → (e || (not d && m)) ≡ (e || n)
once true d m n s i = refl
once false true m n s i = absurd (true≢false s)
once false false m n s i = i

has_once : (s : List ℕ) (ts : List (List ℕ)) → is_selected (each_once ts) s ≡ is_selected ts s
has_once s [] = refl
has_once s (t ∷ ts) =
    ap (λ rest. is_same t s || rest) (has_filter s (λ later. not (is_same t later)) (each_once ts))
    ∙ once (is_same t s) (is_same t s) (is_selected (each_once ts) s) (is_selected ts s) refl (has_once s ts)

new_last : (s : List ℕ) (q : List ℕ → Bool) (e h : Bool) → q s ≡ not e → filter q (cond h [] (s ∷ [])) ≡ cond (e || h) [] (s ∷ [])
new_last s q true true i = refl
new_last s q true false i = ap (λ b. cond b (s ∷ []) []) i
new_last s q false true i = refl
new_last s q false false i = ap (λ b. cond b (s ∷ []) []) i

once_push : (ts : List (List ℕ)) (s : List ℕ) → each_once (ts ++ s ∷ []) ≡ each_once ts ++ cond (is_selected ts s) [] (s ∷ [])
once_push [] s = refl
once_push (t ∷ ts) s =
    let q : List ℕ → Bool = λ later. not (is_same t later) in
    ap (λ rest. t ∷ rest)
    (ap (filter q) (once_push ts s) ∙ filter-append q (each_once ts) (cond (is_selected ts s) [] (s ∷ []))
    ∙ ap (λ rest. filter q (each_once ts) ++ rest) (new_last s q (is_same t s) (is_selected ts s) refl))

last_one : (s : List ℕ) (q : List ℕ → Bool) (h : Bool) → filter q (cond h [] (s ∷ [])) ≡ cond (q s && not h) (s ∷ []) []
last_one s q true = sym (ap (λ b. cond b (s ∷ []) []) (and_right (q s) false refl))
last_one s q false = last_here s (q s)
  where
    last_here : (s : List ℕ) (b : Bool) → cond b (s ∷ []) [] ≡ cond (b && true) (s ∷ []) []
    last_here s true = refl
    last_here s false = refl

two_tests : (a h : Bool) → (a && not h) ≡ (a && not (a && h))
two_tests true h = refl
two_tests false h = refl

additions_push : (ts : List (List ℕ)) (s : List ℕ) (universe : List Active)
    → additions (ts ++ s ∷ []) universe
    ≡ additions ts universe ++ cond (not (is_active universe s) && not (is_selected (additions ts universe) s)) (s ∷ []) []
additions_push ts s universe =
    let q : List ℕ → Bool = λ symbol. not (is_active universe symbol) in
    ap (filter q) (once_push ts s) ∙ filter-append q (each_once ts) (cond (is_selected ts s) [] (s ∷ []))
    ∙ ap (λ rest. additions ts universe ++ rest)
    (last_one s q (is_selected ts s)
    ∙ ap (λ b. cond b (s ∷ []) []) (two_tests (q s) (is_selected ts s)
    ∙ ap (λ h. q s && not h) (sym (has_filter s q (each_once ts) ∙ ap (λ h. q s && h) (has_once s ts)))))

-- a loop's step
pub additions_more : (symbols : List (List ℕ)) (i : ℕ) (s : List ℕ) (universe : List Active) (adds : Bool) (before after : List (List ℕ)) → i < length symbols
    → s ≡ get_or symbols i s → before ≡ additions (take i symbols) universe → adds ≡ (not (is_active universe s) && not (is_selected before s))
    → after ≡ before ++ cond adds (s ∷ []) [] → after ≡ additions (take (i + 1) symbols) universe
additions_more symbols i s universe adds before after within here was is now =
    now ∙ ap (λ (b : Bool). before ++ cond b (s ∷ []) []) is
    ∙ ap (λ (xs : List (List ℕ)). xs ++ cond (not (is_active universe s) && not (is_selected xs s)) (s ∷ []) []) was
    ∙ sym (additions_push (take i symbols) s universe)
    ∙ ap (λ front. additions front universe) (sym (take_more symbols i s within ∙ ap (λ r. take i symbols ++ r ∷ []) (sym here)))
