-- How the parts of a line that are written one behind the other add up.
use Rattle.std.proofs.Common.{◌≡◌, ℕ, List, [], ◌∷◌, ◌++◌, refl, sym, ap, ◌∙◌, subst, arith, length, length-append, take, drop, append_assoc}
use Rattle.std.specs.Prelude.{decimal, unsigned_abs, codes}
use Rattle.lean_fixed.specs.Printed.{money_text}
use Rattle.lean_fixed.specs.Written.{IsWritten}
use Rattle.lean_items.specs.declared.bad.Bad.{Bad}
use Rattle.lean_items.specs.Reasons.{reason_text}
use Rattle.report_pages.specs.declared.trades.Trades.{Trades}
use Rattle.report_pages.specs.Lines.{part, row_line, data_line_of}
use Rattle.report_pages.specs.Written.{IsAdded}

pub added-more : (a b : List ℕ) (p q r : ℕ) (old mid new : List ℕ) → IsAdded a p old mid q → IsAdded b q mid new r → IsAdded (a ++ b) p old new r
added-more a b p q r old mid new first then = record {
  end = omega (arith, first.end, then.end, length-append a b);
  size = then.size ∙ first.size;
  written = then.written ∙ ap (λ t. t ++ b) first.written ∙ append_assoc (take p old) a b;
}

-- a text that is written leaves what stands before it
pub added-written : (text : List ℕ) (p q : ℕ) (old new : List ℕ) → IsWritten text p old new q → IsAdded text p old new q
added-written text p q old new w = record { end = w.end; size = w.size; written = w.written }

-- a part behind a space
pub part_added : (text : List ℕ) (p q r : ℕ) (old mid new : List ℕ) → IsAdded (32 ∷ []) p old mid q → IsWritten text q mid new r → IsAdded (part text) p old new r
part_added text p q r old mid new space written = added-more (32 ∷ []) text p q r old mid new space (added-written text q r mid new written)

row_joined : (front name opening high low closing volume last : List ℕ)
    → ((((((front ++ name) ++ opening) ++ high) ++ low) ++ closing) ++ volume) ++ last ≡ front ++ name ++ opening ++ high ++ low ++ closing ++ volume ++ last
row_joined front name opening high low closing volume last = simp append_assoc

-- the line of a row, part by part
pub row_added : (front symbol : List ℕ) (trades : Trades) (volume p0 p1 p2 p3 p4 p5 p6 p7 p8 : ℕ) (b0 b1 b2 b3 b4 b5 b6 b7 b8 : List ℕ) → volume ≡ unsigned_abs trades.volume.0
    → IsAdded front p0 b0 b1 p1 → IsAdded (part symbol) p1 b1 b2 p2
    → IsAdded (part (money_text trades.opening.0)) p2 b2 b3 p3 → IsAdded (part (money_text trades.high.0)) p3 b3 b4 p4
    → IsAdded (part (money_text trades.low.0)) p4 b4 b5 p5 → IsAdded (part (money_text trades.closing.0)) p5 b5 b6 p6
    → IsAdded (part (decimal volume)) p6 b6 b7 p7 → IsAdded (10 ∷ []) p7 b7 b8 p8 → IsAdded (row_line front symbol trades) p0 b0 b8 p8
unfolding row_line
row_added front symbol trades volume p0 p1 p2 p3 p4 p5 p6 p7 p8 b0 b1 b2 b3 b4 b5 b6 b7 b8 v e1 e2 e3 e4 e5 e6 e7 e8 =
    let name = part symbol in
    let opening = part (money_text trades.opening.0) in
    let high = part (money_text trades.high.0) in
    let low = part (money_text trades.low.0) in
    let closing = part (money_text trades.closing.0) in
    let shares = part (decimal (unsigned_abs trades.volume.0)) in
    let e7v = subst (λ n. IsAdded (part (decimal n)) p6 b6 b7 p7) v e7 in
    let c2 = added-more front name p0 p1 p2 b0 b1 b2 e1 e2 in
    let c3 = added-more (front ++ name) opening p0 p2 p3 b0 b2 b3 c2 e3 in
    let c4 = added-more ((front ++ name) ++ opening) high p0 p3 p4 b0 b3 b4 c3 e4 in
    let c5 = added-more (((front ++ name) ++ opening) ++ high) low p0 p4 p5 b0 b4 b5 c4 e5 in
    let c6 = added-more ((((front ++ name) ++ opening) ++ high) ++ low) closing p0 p5 p6 b0 b5 b6 c5 e6 in
    let c7 = added-more (((((front ++ name) ++ opening) ++ high) ++ low) ++ closing) shares p0 p6 p7 b0 b6 b7 c6 e7v in
    let c8 = added-more ((((((front ++ name) ++ opening) ++ high) ++ low) ++ closing) ++ shares) (10 ∷ []) p0 p7 p8 b0 b7 b8 c7 e8 in
    subst (λ t. IsAdded t p0 b0 b8 p8) (row_joined front name opening high low closing shares (10 ∷ [])) c8

data_joined : (named path line number reason last : List ℕ)
    → ((((named ++ path) ++ line) ++ number) ++ reason) ++ last ≡ named ++ path ++ line ++ number ++ reason ++ last
data_joined named path line number reason last = simp append_assoc

-- the line that names a malformed line, part by part
pub data_added : (path : List ℕ) (bad : Bad) (number p0 p1 p2 p3 p4 p5 p6 : ℕ) (b0 b1 b2 b3 b4 b5 b6 : List ℕ) → number ≡ bad.line
    → IsWritten (codes "data ") p0 b0 b1 p1 → IsWritten path p1 b1 b2 p2 → IsWritten (codes " line ") p2 b2 b3 p3 → IsWritten (decimal number) p3 b3 b4 p4
    → IsAdded (part (reason_text bad.reason)) p4 b4 b5 p5 → IsAdded (10 ∷ []) p5 b5 b6 p6 → IsAdded (data_line_of path bad) p0 b0 b6 p6
data_added path bad number p0 p1 p2 p3 p4 p5 p6 b0 b1 b2 b3 b4 b5 b6 n e1 e2 e3 e4 e5 e6 =
    let named = codes "data " in
    let line = codes " line " in
    let digits = decimal bad.line in
    let reason = part (reason_text bad.reason) in
    let e4n = subst (λ k. IsWritten (decimal k) p3 b3 b4 p4) n e4 in
    let c2 = added-more named path p0 p1 p2 b0 b1 b2 (added-written named p0 p1 b0 b1 e1) (added-written path p1 p2 b1 b2 e2) in
    let c3 = added-more (named ++ path) line p0 p2 p3 b0 b2 b3 c2 (added-written line p2 p3 b2 b3 e3) in
    let c4 = added-more ((named ++ path) ++ line) digits p0 p3 p4 b0 b3 b4 c3 (added-written digits p3 p4 b3 b4 e4n) in
    let c5 = added-more (((named ++ path) ++ line) ++ digits) reason p0 p4 p5 b0 b4 b5 c4 e5 in
    let c6 = added-more ((((named ++ path) ++ line) ++ digits) ++ reason) (10 ∷ []) p0 p5 p6 b0 b5 b6 c5 e6 in
    subst (λ t. IsAdded t p0 b0 b6 p6) (data_joined named path line digits reason (10 ∷ [])) c6

-- what counts of a page behind which a text was written
pub page_added : (text page : List ℕ) (place behind len : ℕ) (items old new : List ℕ) → page ≡ take place items → old ≡ items → len ≡ length items → IsAdded text place old new behind
    → take behind (take len (new ++ drop (length new) items)) ≡ page ++ text
page_added text page place behind len items old new view is size added =
    let whole : take len (new ++ drop (length new) items) ≡ new = ap (λ n. take n (new ++ drop (length new) items)) (size ∙ sym (added.size ∙ ap length is)) ∙ take_front new (drop (length new) items) in
    ap (take behind) whole ∙ added.written ∙ ap (λ xs. take place xs ++ text) is ∙ ap (λ p. p ++ text) (sym view)
  where
    take_front : (xs ys : List ℕ) → take (length xs) (xs ++ ys) ≡ xs
    take_front [] ys = refl
    take_front (x ∷ xs) ys = ap (λ zs. x ∷ zs) (take_front xs ys)
