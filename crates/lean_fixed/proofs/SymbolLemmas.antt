-- A symbol is kept where zeros stand behind it.
use borrow.Rule.Slice.PartMut.{put_mid, post_of}
use Rattle.std.proofs.Common.{◌≡◌, ℕ, ◌+◌, ◌-◌, ◌≤◌, true, List, ◌++◌, length, take, drop, replicate, sym, ap, ◌∙◌, arith, length-append, append_assoc, take-append-drop}
use Rattle.std.proofs.Math.Seq.{drop-append_seam, take-append_seam}
use Rattle.std.proofs.lemmas.List.{drop-replicate, length-replicate, length-take-le, take_at}
use Rattle.std.proofs.lemmas.Bool.Decides.{nat_tests}
use Rattle.lean_fixed.specs.Symbol.{is_symbol}
use Rattle.lean_fixed.specs.Padded.{IsPadded}

short-from_symbol : (text : List ℕ) → is_symbol text ≡ true → length text ≤ 12
short-from_symbol text h = grind (arith, nat_tests)

pub IsPadded-from_symbol : (text : List ℕ) → is_symbol text ≡ true → IsPadded (text ++ drop (length text) (replicate 12 0)) (length text)
IsPadded-from_symbol text h =
    let zeros = drop-replicate (length text) 12 0 in
    let short = short-from_symbol text h in
    record {
      size = rw (zeros, length-append, length-replicate) (omega arith);
      within = short;
      symbol = rw take-append_seam h;
      rest = rw drop-append_seam zeros;
    }

-- the twelve bytes of a symbol were written at a place, of which its name comes first
pub written-symbol : (padded old : List ℕ) (len place : ℕ) → length padded ≡ 12 → len ≤ 12 → place + 12 ≤ length old
    → take (place + len) (put_mid place (place + 12 - place) old padded) ≡ take place old ++ take len padded
written-symbol padded old len place size within room =
    let behind = post_of place (place + 12 - place) old in
    let long : length (take place old ++ take len padded) ≡ place + len =
    omega (arith, length-append (take place old) (take len padded), length-take-le place old (omega arith), length-take-le len padded (omega arith)) in
    let split : padded ++ behind ≡ take len padded ++ (drop len padded ++ behind) =
    ap (λ x. x ++ behind) (sym (take-append-drop len padded)) ∙ append_assoc (take len padded) (drop len padded) behind in
    ap (λ x. take (place + len) (take place old ++ x)) split
    ∙ ap (take (place + len)) (sym (append_assoc (take place old) (take len padded) (drop len padded ++ behind)))
    ∙ take_at (take place old ++ take len padded) (drop len padded ++ behind) (place + len) long
