-- The time of an hour or daily row is read where its fourteen bytes and a comma stand at the front of the text.
use Rattle.std.proofs.Common.{◌≡◌, ℕ, ◌<◌, List, [], ◌∷◌, length, get_or, take, drop, Option, Some, None, option_map, refl, sym, ap, ◌∙◌, arith}
use Rattle.lean_fixed.specs.Fields.{fields}
use Rattle.lean_fixed.specs.declared.resolution.Resolution.{Resolution}
use Rattle.equity_csv.specs.Rows.{dated_start}
use Rattle.equity_csv.specs.Reading.{first_of}
use Rattle.equity_csv.proofs.FieldLemmas.{Begins, fields-begin, with_more}
use Rattle.equity_csv.proofs.JoinLemmas.{fields-joined, fields-split}
use Rattle.equity_csv.proofs.DatedLemmas.{dated-plain}

-- what a first field with others behind it says
pub record Found (read : List ℕ → Option ℕ) (all : List (List ℕ)) : Type 0 where
  pub field : List ℕ
  pub next : List ℕ
  pub more : List (List ℕ)
  pub number : ℕ
  pub whole : all ≡ field ∷ next ∷ more
  pub said : read field ≡ Some number

first_of-found : (read : List ℕ → Option ℕ) (all : List (List ℕ)) (x : ℕ × List (List ℕ)) → first_of read all ≡ Some x → Found read all
first_of-found read [] x e = cc
first_of-found read (field ∷ []) x e = cc
first_of-found read (field ∷ next ∷ more) x e =
    elim (read field) as (λ v. read field ≡ v → option_map (with_more (next ∷ more)) v ≡ Some x → Found read (field ∷ next ∷ more)) [
      | None ↦ λ r h. cc
      | Some n ↦ λ r h. record { field = field; next = next; more = more; number = n; whole = refl; said = r }
    ] refl e

pub first_of-begun : (read : List ℕ → Option ℕ) (field : List ℕ) (rest : List (List ℕ)) (n : ℕ) → Begins rest → read field ≡ Some n → first_of read (field ∷ rest) ≡ Some (with_more rest n)
first_of-begun read field rest n w e = rw w.is (ap (option_map (with_more (w.field ∷ w.more))) e)

-- the time stands at the front
pub record IsTimed (resolution : Resolution) (text : List ℕ) : Type 0 where
  pub within : 14 < length text
  pub comma : get_or text 14 0 ≡ 44
  pub number : ℕ
  pub said : dated_start resolution (take 14 text) ≡ Some number

dated-timed : (resolution : Resolution) (text : List ℕ) (x : ℕ × List (List ℕ)) → first_of (dated_start resolution) (fields text) ≡ Some x → IsTimed resolution text
dated-timed r text x e =
    let w = first_of-found (dated_start r) (fields text) x e in
    let j = fields-joined text w.field w.next w.more w.whole in
    let long : length w.field ≡ 14 = (dated-plain r w.field w.number w.said).long in
    let front : take 14 text ≡ w.field = ap (λ n. take n text) (sym long) ∙ j.front in
    record {
      within = omega (arith, j.within, long);
      comma = ap (λ n. get_or text n 0) (sym long) ∙ j.comma;
      number = w.number;
      said = ap (dated_start r) front ∙ w.said;
    }

pub dated-not_timed : (resolution : Resolution) (text : List ℕ) → (IsTimed resolution text → ⊥) → None ≡ first_of (dated_start resolution) (fields text)
dated-not_timed r text h =
    elim (first_of (dated_start r) (fields text)) as (λ v. first_of (dated_start r) (fields text) ≡ v → None ≡ v) [
      | None ↦ λ e. refl
      | Some x ↦ λ e. absurd (h (dated-timed r text x e))
    ] refl

pub dated-taken : (resolution : Resolution) (text : List ℕ) (n : ℕ) → 14 < length text → get_or text 14 0 ≡ 44 → Some n ≡ dated_start resolution (take 14 text) → Some (with_more (fields (drop 15 text)) n) ≡ first_of (dated_start resolution) (fields text)
dated-taken r text n h c e =
    let split = fields-split text 14 h c (dated-plain r (take 14 text) n (sym e)).plain in
    sym (ap (first_of (dated_start r)) split ∙ first_of-begun (dated_start r) (take 14 text) (fields (drop 15 text)) n (fields-begin (drop 15 text)) (sym e))

-- the same whatever the reader of the time finds
pub dated-either : (resolution : Resolution) (text : List ℕ) (found : Option ℕ) → 14 < length text → get_or text 14 0 ≡ 44 → found ≡ dated_start resolution (take 14 text) → option_map (with_more (fields (drop 15 text))) found ≡ first_of (dated_start resolution) (fields text)
dated-either r text None h c e = dated-not_timed r text (λ t. cc (t.said, e))
dated-either r text (Some n) h c e = dated-taken r text n h c e
