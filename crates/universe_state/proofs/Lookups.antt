-- A map from symbols and the list of securities that it holds.
use Rattle.std.proofs.Common.{◌≡◌, ℕ, true, false, cond, ◌||◌, List, [], ◌∷◌, ◌++◌, length, map, Some, option_map, is_some, refl, sym, ap, ◌∙◌, inl, inr}
use Rattle.std.specs.Map.{lookup, remove_entry}
use Rattle.std.specs.Option.{option_map_or}
use Rattle.std.specs.Cmp.Lexicographic.{bytes_decides}
use Rattle.std.proofs.lemmas.Bool.{cases_Bool}
use Rattle.indexmap.specs.IndexMap.{insert_entry, set_value_at}
use Rattle.universe_state.specs.declared.member.Member.{Member}
use Rattle.universe_state.specs.Active.{Active, is_same, is_active, security_of, feed_of, is_marked, with_security, without_symbol}
use Rattle.universe_state.specs.Entries.{active_of}

pub feed_is : (symbol : List ℕ) (es : List (List ℕ × Member)) → option_map (λ member. member.feed) (lookup (is_same symbol) es) ≡ feed_of symbol (map active_of es)
feed_is symbol [] = refl
feed_is symbol (e ∷ es) =
    elim (is_same symbol e.0) as (λ b. option_map (λ (member : Member). member.feed) (cond b (Some e.1) (lookup (is_same symbol) es))
    ≡ option_map (λ (security : Active). security.feed) (cond b (Some (active_of e)) (security_of symbol (map active_of es))))
    [ true ↦ refl | false ↦ feed_is symbol es ]

pub marked_is : (symbol : List ℕ) (es : List (List ℕ × Member)) → option_map_or (λ member. member.marked) (lookup (is_same symbol) es) false ≡ is_marked symbol (map active_of es)
marked_is symbol [] = refl
marked_is symbol (e ∷ es) =
    elim (is_same symbol e.0) as (λ b. option_map_or (λ (member : Member). member.marked) (cond b (Some e.1) (lookup (is_same symbol) es)) false
    ≡ option_map_or (λ (security : Active). security.marked) (cond b (Some (active_of e)) (security_of symbol (map active_of es))) false)
    [ true ↦ refl | false ↦ marked_is symbol es ]

pub active_is : (symbol : List ℕ) (es : List (List ℕ × Member)) → is_some (lookup (is_same symbol) es) ≡ is_active (map active_of es) symbol
active_is symbol [] = refl
active_is symbol (e ∷ es) =
    elim (is_same symbol e.0) as (λ b. is_some (cond b (Some e.1) (lookup (is_same symbol) es)) ≡ (b || is_active (map active_of es) symbol))
    [ true ↦ refl | false ↦ active_is symbol es ]

pub put_is : (symbol : List ℕ) (member : Member) (es : List (List ℕ × Member))
    → map active_of (insert_entry is_same es symbol member) ≡ with_security (active_of (symbol, member)) (map active_of es)
put_is symbol member [] = refl
put_is symbol member (e ∷ es) =
    elim (cases_Bool (is_same symbol e.0)) [
      | inl same ↦
          (let key : symbol ≡ e.0 = (bytes_decides symbol e.0).0 same in
          ap (λ b. map active_of (cond b ((e.0, member) ∷ es) (e ∷ insert_entry is_same es symbol member))) same
          ∙ ap (λ (k : List ℕ). active_of (k, member) ∷ map active_of es) (sym key)
          ∙ sym (ap (λ b. cond b (active_of (symbol, member) ∷ map active_of es) (active_of e ∷ with_security (active_of (symbol, member)) (map active_of es))) same))
      | inr other ↦
          ap (λ b. map active_of (cond b ((e.0, member) ∷ es) (e ∷ insert_entry is_same es symbol member))) other
          ∙ ap (λ rest. active_of e ∷ rest) (put_is symbol member es)
          ∙ sym (ap (λ b. cond b (active_of (symbol, member) ∷ map active_of es) (active_of e ∷ with_security (active_of (symbol, member)) (map active_of es))) other)
    ]

pub left_is : (symbol : List ℕ) (es : List (List ℕ × Member)) → map active_of (remove_entry (is_same symbol) es) ≡ without_symbol symbol (map active_of es)
left_is symbol [] = refl
left_is symbol (e ∷ es) =
    elim (is_same symbol e.0) as (λ b. map active_of (cond b es (e ∷ remove_entry (is_same symbol) es))
    ≡ cond b (map active_of es) (active_of e ∷ without_symbol symbol (map active_of es)))
    [ true ↦ refl | false ↦ ap (λ rest. active_of e ∷ rest) (left_is symbol es) ]

-- a value written at a place
pub set_at : (front back : List (List ℕ × Member)) (e : List ℕ × Member) (w : Member) → set_value_at (front ++ e ∷ back) (length front) w ≡ front ++ (e.0, w) ∷ back
set_at [] back e w = refl
set_at (f ∷ front) back e w = ap (λ rest. f ∷ rest) (set_at front back e w)
