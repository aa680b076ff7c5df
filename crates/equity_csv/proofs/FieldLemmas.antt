-- How the fields of a text follow from its first byte and the fields of the bytes after it.
use Rattle.std.proofs.Common.{◌≡◌, ℕ, ◌+◌, ◌<◌, Bool, true, false, eqb, List, [], ◌∷◌, if◌then◌else◌, length, get_or, drop, Option, Some, None, option_map, refl, ap, add-one, drop-cons, arith}
use Rattle.lean_fixed.specs.Fields.{fields, begin_first}
use Rattle.equity_csv.specs.Reading.{fields_after, after_zeros, leading, first_of}

abbrev pub with_more : List (List ℕ) → ℕ → ℕ × List (List ℕ)
with_more more n = (n, more)

-- there is a first field
pub record Begins (all : List (List ℕ)) : Type 0 where
  pub field : List ℕ
  pub more : List (List ℕ)
  pub is : all ≡ field ∷ more

pub fields-begin : (text : List ℕ) → Begins (fields text)
fields-begin [] = record { field = []; more = []; is = refl }
fields-begin (b ∷ text) = begins b (fields text) (eqb b 44) (fields-begin text)
  where
    begins : (b : ℕ) (rest : List (List ℕ)) (comma : Bool) → Begins rest → Begins (if comma then [] ∷ rest else begin_first b rest)
    begins b rest true w = record { field = []; more = rest; is = refl }
    begins b rest false w = record { field = b ∷ w.field; more = w.more; is = ap (begin_first b) w.is }

pub drop-begins : (text : List ℕ) (i : ℕ) → i < length text → drop i text ≡ get_or text i 0 ∷ drop (i + 1) text
drop-begins text i h = rw (add-one, drop-cons text i 0)

pub after_zeros-zero : (text : List ℕ) → after_zeros (fields (48 ∷ text)) ≡ after_zeros (fields text)
after_zeros-zero text = let w = fields-begin text in rw w.is

pub after_zeros-drop : (text : List ℕ) (i : ℕ) → i < length text → get_or text i 0 ≡ 48 → after_zeros (fields (drop i text)) ≡ after_zeros (fields (drop (i + 1) text))
after_zeros-drop text i h z = rw (drop-begins text i h) (rw z (after_zeros-zero (drop (i + 1) text)))

-- a first field with a comma behind it is followed by others
pub first_of-leading : (read : List ℕ → Option ℕ) (all : List (List ℕ)) (n : ℕ) (behind : List ℕ) → 0 < length behind → leading read all ≡ Some (with_more (fields_after behind) n) → first_of read all ≡ Some (with_more (fields (drop 1 behind)) n)
first_of-leading read all n [] h e = absurd (omega arith)
first_of-leading read [] n (b ∷ text) h e = e
first_of-leading read (field ∷ []) n (b ∷ text) h e = alone (read field) n (fields text) (fields-begin text) e
  where
    alone : (v : Option ℕ) (n : ℕ) (rest : List (List ℕ)) → Begins rest → option_map (with_more []) v ≡ Some (with_more rest n) → None ≡ Some (with_more rest n)
    alone None n rest w e = e
    alone (Some v) n rest w e =
        let same : with_more [] v ≡ with_more rest n = cc in
        let x : [] ≡ rest = ap (λ (p : ℕ × List (List ℕ)). p.1) same in
        cc (x, w.is)
first_of-leading read (field ∷ next ∷ more) n (b ∷ text) h e = e
