-- The bars of a slice, one after another.
use Rattle.std.proofs.Common.{◌≡◌, ℕ, ◌+◌, ◌<◌, ◌≤◌, List, [], ◌∷◌, ◌++◌, take, drop, length, length-append, get_or, Option, Some, None, refl, sym, ap, ◌∙◌, subst, arith, append_assoc, take-append-drop}
use Rattle.std.specs.Prelude.{slice_get}
use Rattle.std.specs.List.{cons_option}
use Rattle.std.specs.Option.{option_to_list}
use Rattle.std.proofs.lemmas.Grind.{flat_map-append}
use Rattle.std.proofs.lemmas.List.{take_more}
use Rattle.std.proofs.lemmas.List.Elements.{filter_map-append}
use Rattle.lean_items.specs.declared.arrival.Arrival.{Arrival}
use Rattle.lean_items.specs.declared.item.Item.{Item}
use Rattle.lean_items.specs.declared.item.Item.TheVariants.{Bar, Coarse, Bad, Faulted, End}
use Rattle.report_pages.specs.Printed.{IsPrinted, IsFront}
use Rattle.report_pages.proofs.PrintedLemmas.{IsPrinted-append, IsFront-behind, IsFront-more}
use Rattle.session_tape.specs.Session.{SessionBar, session_line, session_text}
use Rattle.session_tape.specs.Shown.{shown_item, shown_one, shown}

one_shown : (o : Option SessionBar) → cons_option o [] ≡ option_to_list o
one_shown None = refl
one_shown (Some bar) = refl

module _ (symbols : List (List ℕ)) where
  abbrev here : Arrival → List SessionBar
  here a = option_to_list (shown_one symbols a)

  shown_next : (slice : List Arrival) (i : ℕ) (a : Arrival) → i < length slice → a ≡ get_or slice i a → shown symbols (take (i + 1) slice) ≡ shown symbols (take i slice) ++ here a
  shown_next slice i a within is =
      ap (shown symbols) (take_more slice i a within) ∙ filter_map-append (shown_one symbols) (take i slice) (get_or slice i a ∷ [])
      ∙ ap (λ x. shown symbols (take i slice) ++ shown symbols (x ∷ [])) (sym is) ∙ ap (λ xs. shown symbols (take i slice) ++ xs) (one_shown (shown_one symbols a))

  -- what was printed of a slice so far
  pub record Printing (slice : List Arrival) (i rows : ℕ) (told0 told : Option (List ℕ)) (page0 page : List ℕ) : Type 0 where
    pub counted : rows ≡ length (shown symbols (take i slice))
    pub few : rows ≤ i
    pub printed : IsPrinted told0 told page0 page (session_text (shown symbols (take i slice)))

  pub printing_more : (slice : List Arrival) (i rows more : ℕ) (a : Arrival) (told0 told told1 : Option (List ℕ)) (page0 page page1 : List ℕ) → Printing slice i rows told0 told page0 page
      → i < length slice → a ≡ get_or slice i a → more ≡ length (here a) → more ≤ 1 → IsPrinted told told1 page page1 (session_text (here a))
      → Printing slice (i + 1) (rows + more) told0 told1 page0 page1
  printing_more slice i rows more a told0 told told1 page0 page page1 p within is count one printed =
      let next = shown_next slice i a within is in
      let size : length (shown symbols (take (i + 1) slice)) ≡ length (shown symbols (take i slice)) + length (here a) = ap length next ∙ length-append (shown symbols (take i slice)) (here a) in
      record {
        counted = omega (arith, p.counted, count, size);
        few = omega (arith, p.few, one);
        printed = subst (IsPrinted told0 told1 page0 page1) (sym (ap session_text next ∙ flat_map-append session_line (shown symbols (take i slice)) (here a)))
            (IsPrinted-append told0 told told1 page0 page page1 (session_text (shown symbols (take i slice))) (session_text (here a)) p.printed printed);
      }

  pub printing_front : (slice : List Arrival) (i rows : ℕ) (a : Arrival) (told0 told told1 : Option (List ℕ)) (page0 page : List ℕ) → Printing slice i rows told0 told page0 page
      → i < length slice → a ≡ get_or slice i a → IsFront told told1 (page ++ session_text (here a)) → IsFront told0 told1 (page0 ++ session_text (shown symbols slice))
  printing_front slice i rows a told0 told told1 page0 page p within is front =
      let before = shown symbols (take i slice) in
      let rest = shown symbols (drop (i + 1) slice) in
      let whole : shown symbols slice ≡ (before ++ here a) ++ rest =
      ap (shown symbols) (sym (take-append-drop (i + 1) slice)) ∙ filter_map-append (shown_one symbols) (take (i + 1) slice) (drop (i + 1) slice) ∙ ap (λ xs. xs ++ rest) (shown_next slice i a within is) in
      let text : session_text (shown symbols slice) ≡ session_text before ++ (session_text (here a) ++ session_text rest) =
      ap session_text whole ∙ flat_map-append session_line (before ++ here a) rest ∙ ap (λ t. t ++ session_text rest) (flat_map-append session_line before (here a))
      ∙ append_assoc (session_text before) (session_text (here a)) (session_text rest) in
      let more : IsFront told told1 (page ++ (session_text (here a) ++ session_text rest)) =
      subst (IsFront told told1) (append_assoc page (session_text (here a)) (session_text rest)) (IsFront-more told told1 (page ++ session_text (here a)) (session_text rest) front) in
      subst (λ t. IsFront told0 told1 (page0 ++ t)) (sym text)
      (IsFront-behind told0 told told1 page0 page (session_text before) (session_text (here a) ++ session_text rest) p.printed more)

-- a feed without a symbol shows nothing
pub none_shown : (symbols : List (List ℕ)) (a : Arrival) → slice_get symbols a.feed.0 ≡ None → shown_one symbols a ≡ None
none_shown symbols a none = of_item (slice_get symbols a.feed.0) a.item none
  where
    of_item : (symbol : Option (List ℕ)) (item : Item) → symbol ≡ None → shown_item symbol item ≡ None
    of_item symbol (Bar bar) e = rw e refl
    of_item symbol (Coarse at row) e = refl
    of_item symbol (Bad bad) e = refl
    of_item symbol Faulted e = refl
    of_item symbol End e = refl
