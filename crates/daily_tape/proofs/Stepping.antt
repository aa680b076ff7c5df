-- How far the printing of a step has come among the securities.
use Rattle.std.proofs.Common.{◌≡◌, ℕ, ◌+◌, ◌<◌, ◌≤◌, List, [], ◌∷◌, ◌++◌, refl, sym, ap, ◌∙◌, subst, arith, length, length-append, get_or, append-nil, append_assoc}
use Rattle.std.specs.Prelude.{Bool, Option}
use Rattle.std.specs.List.{AllByRecursion, AllZip}
use Rattle.std.proofs.Math.ListN.{set}
use Rattle.std.proofs.Math.Seq.{get_or-append_seam, set-append_seam}
use Rattle.std.proofs.lemmas.Grind.{flat_map-append}
use Rattle.lean_io.specs.Told.{Files}
use Rattle.daily_tape.specs.declared.source.Source.{Source}
use Rattle.daily_tape.specs.DailyTape.{Security, tape_line, tape_text}
use Rattle.daily_tape.specs.Head.{StandsPast}
use Rattle.report_pages.specs.Printed.{IsPrinted, IsFront}
use Rattle.daily_tape.specs.Source.{IsSound, Follows}
use Rattle.daily_tape.specs.Steps.{AllAhead, AllPast, rows_now, all_rows_now}
use Rattle.daily_tape.proofs.NextLemmas.{all-append}
use Rattle.report_pages.proofs.PrintedLemmas.{IsPrinted-append, IsPrinted-nothing, IsFront-behind, IsFront-more}

-- where the first of two lists that follow one another ends
module _ {X : Type 0} where
  -- an element stands behind a front
  pub record Behind (front rest : List X) (x : X) : Type 0 where
    pub tail : List X
    pub is : rest ≡ x ∷ tail

  pub behind_front : (front rest : List X) (i : ℕ) (x d : X) → length front ≡ i → i < length (front ++ rest) → x ≡ get_or (front ++ rest) i d → Behind front rest x
  behind_front front [] i x d counted within is = absurd (omega (arith, counted, length-append front [], within))
  behind_front front (y ∷ rest) i x d counted within is =
      let same : x ≡ y = is ∙ ap (λ n. get_or (front ++ y ∷ rest) n d) (sym counted) ∙ get_or-append_seam front y rest d in
      record { tail = rest; is = ap (λ z. z ∷ rest) (sym same) }

  pub set_behind : (front tail : List X) (i : ℕ) (x y : X) → length front ≡ i → set (front ++ x ∷ tail) i y ≡ (front ++ y ∷ []) ++ tail
  set_behind front tail i x y counted =
      ap (λ n. set (front ++ x ∷ tail) n y) (sym counted) ∙ set-append_seam front x tail y ∙ sym (append_assoc front (y ∷ []) tail)

module _ {X S : Type 0} where
  record Parts (R : S → X → Type 0) (ss : List S) (old : List X) (x : X) : Type 0 where
    front : List S
    last : S
    is : ss ≡ front ++ last ∷ []
    zip : AllZip R front old
    one : R last x

  parts_of : (R : S → X → Type 0) (ss : List S) (old : List X) (x : X) → AllZip R ss (old ++ x ∷ []) → Parts R ss old x
  parts_of R [] [] x z = absurd z
  parts_of R [] (o ∷ old) x z = absurd z
  parts_of R (s ∷ []) [] x z = record { front = []; last = s; is = refl; zip = tt; one = z.0 }
  parts_of R (s ∷ t ∷ ss) [] x z = absurd z.1
  parts_of R (s ∷ ss) (o ∷ old) x z =
      let p = parts_of R ss old x z.1 in
      record { front = s ∷ p.front; last = p.last; is = ap (λ l. s ∷ l) p.is; zip = (z.0, p.zip); one = p.one }

  put_behind : (Q : S → X → Type 0) (front : List S) (last : S) (fresh : List X) (y : X) → AllZip Q front fresh → Q last y → AllZip Q (front ++ last ∷ []) (fresh ++ y ∷ [])
  put_behind Q [] last [] y z q = (q, tt)
  put_behind Q [] last (n ∷ fresh) y z q = absurd z
  put_behind Q (s ∷ front) last [] y z q = absurd z
  put_behind Q (s ∷ front) last (n ∷ fresh) y z q = (z.0, put_behind Q front last fresh y z.1 q)

  -- what follows from a relation of fronts follows with one more element of each
  pub zip_behind : (R Q : S → X → Type 0) (ss : List S) (old fresh : List X) (x y : X)
      → ((all : List S) → AllZip R all old → AllZip Q all fresh) → ((s : S) → R s x → Q s y)
      → AllZip R ss (old ++ x ∷ []) → AllZip Q ss (fresh ++ y ∷ [])
  zip_behind R Q ss old fresh x y before here zip =
      let parts = parts_of R ss old x zip in
      subst (λ all. AllZip Q all (fresh ++ y ∷ [])) (sym parts.is) (put_behind Q parts.front parts.last fresh y (before parts.front parts.zip) (here parts.last parts.one))

module _ {H : Type 0} (is_open : H → Bool) (faults : H → ℕ) (files : H → Option Files) (rest_of : H → List ℕ) (step : ℕ) where
  -- the securities before a place have gone on, and the others stand as they did
  pub record Stepped (old now : List (Source H)) (place rows : ℕ) (before after : Option (List ℕ)) (page new : List ℕ) : Type 0 where
    pub done : List (Source H)
    pub fresh : List (Source H)
    pub rest : List (Source H)
    pub old_is : old ≡ done ++ rest
    pub now_is : now ≡ fresh ++ rest
    pub done_count : length done ≡ place
    pub count : length fresh ≡ place
    pub sound : AllByRecursion (IsSound is_open faults) fresh
    pub sound_rest : AllByRecursion (IsSound is_open faults) rest
    pub past : AllPast step fresh
    pub ahead : AllAhead step rest
    pub follows : (f : Files) (k : ℕ) → k < step → (all : List Security) → AllZip (Follows files rest_of f k) all done → AllZip (Follows files rest_of f step) all fresh
    pub counted : rows ≡ length (all_rows_now step done)
    pub few : rows ≤ place
    pub printed : IsPrinted before after page new (tape_text (all_rows_now step done))

  no_zip : (f : Files) (k : ℕ) (all : List Security) → AllZip (Follows files rest_of f k) all [] → AllZip (Follows files rest_of f step) all []
  no_zip f k [] zip = tt
  no_zip f k (s ∷ all) zip = absurd zip

  pub stepped-start : (old : List (Source H)) (told : Option (List ℕ)) (page : List ℕ) → AllByRecursion (IsSound is_open faults) old → AllAhead step old
      → Stepped old old 0 0 told told page page
  stepped-start old told page sound ahead = record {
    done = [];
    fresh = [];
    rest = old;
    old_is = refl;
    now_is = refl;
    done_count = refl;
    count = refl;
    sound = tt;
    sound_rest = sound;
    past = tt;
    ahead = ahead;
    follows = λ f k lt all zip. no_zip f k all zip;
    counted = refl;
    few = omega arith;
    printed = IsPrinted-nothing told page;
  }

  -- one more security goes on
  pub stepped-more : (old now new_now : List (Source H)) (place rows more : ℕ) (before after last : Option (List ℕ)) (page new newer : List ℕ) (x y d : Source H)
      → Stepped old now place rows before after page new
      → place < length now → x ≡ get_or now place d → new_now ≡ set now place y
      → IsSound is_open faults y → StandsPast step y.head
      → ((f : Files) (k : ℕ) (security : Security) → k < step → Follows files rest_of f k security x → Follows files rest_of f step security y)
      → more ≡ length (rows_now step x) → more ≤ 1 → IsPrinted after last new newer (tape_text (rows_now step x))
      → Stepped old new_now (place + 1) (rows + more) before last page newer
  stepped-more old now new_now place rows more before after last page new newer x y d s within is set_is sound past follows counted few printed =
      let b = behind_front s.fresh s.rest place x d s.count (subst (λ l. place < length l) s.now_is within) (is ∙ ap (λ l. get_or l place d) s.now_is) in
      let rest_is : s.rest ≡ x ∷ b.tail = b.is in
      let sound_rest : AllByRecursion (IsSound is_open faults) (x ∷ b.tail) = subst (AllByRecursion (IsSound is_open faults)) rest_is s.sound_rest in
      let ahead : AllAhead step (x ∷ b.tail) = subst (AllAhead step) rest_is s.ahead in
      let rows_are : all_rows_now step (s.done ++ x ∷ []) ≡ all_rows_now step s.done ++ rows_now step x
      = flat_map-append (rows_now step) s.done (x ∷ []) ∙ ap (λ l. all_rows_now step s.done ++ l) (append-nil (rows_now step x)) in
      record {
        done = s.done ++ x ∷ [];
        fresh = s.fresh ++ y ∷ [];
        rest = b.tail;
        old_is = s.old_is ∙ ap (λ l. s.done ++ l) rest_is ∙ sym (append_assoc s.done (x ∷ []) b.tail);
        now_is = set_is ∙ ap (λ l. set l place y) (s.now_is ∙ ap (λ l. s.fresh ++ l) rest_is) ∙ set_behind s.fresh b.tail place x y s.count;
        done_count = omega (arith, length-append s.done (x ∷ []), s.done_count);
        count = omega (arith, length-append s.fresh (y ∷ []), s.count);
        sound = all-append (IsSound is_open faults) s.fresh (y ∷ []) s.sound (sound, tt);
        sound_rest = sound_rest.1;
        past = all-append (λ source. StandsPast step source.head) s.fresh (y ∷ []) s.past (past, tt);
        ahead = ahead.1;
        follows = λ f k lt all zip. zip_behind (Follows files rest_of f k) (Follows files rest_of f step) all s.done s.fresh x y
            (λ ss z. s.follows f k lt ss z) (λ security h. follows f k security lt h) zip;
        counted = (let n : length (all_rows_now step s.done ++ rows_now step x) ≡ length (all_rows_now step s.done) + length (rows_now step x) = length-append (all_rows_now step s.done) (rows_now step x) in
            rw rows_are (omega (arith, n, s.counted, counted)));
        few = omega (arith, s.few, few);
        printed = rw (rows_are, flat_map-append tape_line (all_rows_now step s.done) (rows_now step x))
            (IsPrinted-append before after last page new newer (tape_text (all_rows_now step s.done)) (tape_text (rows_now step x)) s.printed printed);
      }

  -- the sink stops at the row of a security
  pub stepped-front : (old now : List (Source H)) (place rows : ℕ) (before after last : Option (List ℕ)) (page new : List ℕ) (x d : Source H)
      → Stepped old now place rows before after page new
      → place < length now → x ≡ get_or now place d → IsFront after last (new ++ tape_text (rows_now step x))
      → IsFront before last (page ++ tape_text (all_rows_now step old))
  stepped-front old now place rows before after last page new x d s within is front =
      let b = behind_front s.fresh s.rest place x d s.count (subst (λ l. place < length l) s.now_is within) (is ∙ ap (λ l. get_or l place d) s.now_is) in
      let old_is : old ≡ s.done ++ x ∷ b.tail = s.old_is ∙ ap (λ l. s.done ++ l) b.is in
      let text_is : tape_text (all_rows_now step old) ≡ tape_text (all_rows_now step s.done) ++ (tape_text (rows_now step x) ++ tape_text (all_rows_now step b.tail))
      = rw (old_is, flat_map-append (rows_now step) s.done (x ∷ b.tail), flat_map-append tape_line (all_rows_now step s.done) (rows_now step x ++ all_rows_now step b.tail), flat_map-append tape_line (rows_now step x) (all_rows_now step b.tail)) refl in
      let more : IsFront after last (new ++ (tape_text (rows_now step x) ++ tape_text (all_rows_now step b.tail)))
      = subst (IsFront after last) (append_assoc new (tape_text (rows_now step x)) (tape_text (all_rows_now step b.tail)))
      (IsFront-more after last (new ++ tape_text (rows_now step x)) (tape_text (all_rows_now step b.tail)) front) in
      subst (λ t. IsFront before last (page ++ t)) (sym text_is)
      (IsFront-behind before after last page new (tape_text (all_rows_now step s.done)) (tape_text (rows_now step x) ++ tape_text (all_rows_now step b.tail)) s.printed more)

  pub stepped-length : (old now : List (Source H)) (place rows : ℕ) (before after : Option (List ℕ)) (page new : List ℕ)
      → Stepped old now place rows before after page new → length now ≡ length old
  stepped-length old now place rows before after page new s =
      ap length s.now_is ∙ omega (arith, length-append s.fresh s.rest, length-append s.done s.rest, s.count, s.done_count) ∙ sym (ap length s.old_is)

  pub stepped-within : (old now : List (Source H)) (place rows : ℕ) (before after : Option (List ℕ)) (page new : List ℕ)
      → Stepped old now place rows before after page new → place < length old → place < length now
  stepped-within old now place rows before after page new s within =
      omega (arith, stepped-length old now place rows before after page new s, within)
