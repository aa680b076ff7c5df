-- The sums with one fill or one mark more.
use Rattle.std.proofs.Common.{◌≡◌, ℕ, ◌<◌, Bool, true, false, cond, List, [], ◌∷◌, ◌++◌, ℤ, pos, ◌+ℤ◌, ◌-ℤ◌, ◌*ℤ◌, Option, Some, None, refl, sym, ap, ◌∙◌, arith, if◌then◌else◌}
use Rattle.std.specs.Prelude.{unsigned_abs, unwrap_or, option_map}
use Rattle.std.proofs.lemmas.Int.{ints}
use Rattle.std.proofs.lemmas.List.{length-append, append-nil}
use Rattle.std.proofs.Math.IntN.{*ℤ-zero}
use Rattle.lean_fixed.specs.Ranges.{IsPrice, IsStartingCash}
use Rattle.lean_orders.specs.declared.event.Fill.{Fill}
use Rattle.lean_orders.specs.Traded.{IsFill}
use Rattle.portfolio.specs.declared.totals.Totals.{Totals}
use Rattle.portfolio.specs.declared.totals.Holding.{Holding}
use Rattle.portfolio.specs.Symbols.{same_symbol, is_among, sum_of, sum_of_each}
use Rattle.portfolio.specs.Lots.{lot_of}
use Rattle.portfolio.specs.Sums.{Mark, fills_of, cash, fees, position, realised, last_mark, traded, marked, value_of, gross_of, worth, gross, gross_without, AreFills}
use Rattle.portfolio.specs.Account.{holding_in}
use Rattle.portfolio.specs.Running.{price_or_zero, gross_at, marked_totals, applied_totals, filled_lot}
use Rattle.portfolio.specs.Stands.{StandsFor, summed, most_fills}
use Rattle.portfolio.proofs.SymbolLemmas.{same_is, same_self, same_turned, sum_of-append, each-step, each-same, each-rest}
use Rattle.portfolio.proofs.FillLemmas.{fills_of-append, traded-append, lot_of-append, never_traded, lot-position}
use Rattle.portfolio.proofs.MarkLemmas.{last-append, marked-append, never_marked, AreMarks-append}

-- a fill of another symbol
other_fills : (s : List ℕ) (fills : List Fill) (fill : Fill) → same_symbol fill.symbol s ≡ false → fills_of s (fills ++ fill ∷ []) ≡ fills_of s fills
other_fills s fills fill h =
    fills_of-append s fills fill ∙ ap (λ b. fills_of s fills ++ cond b (fill ∷ []) []) (same_turned s fill.symbol ∙ h) ∙ append-nil (fills_of s fills)

own_fills : (fills : List Fill) (fill : Fill) → fills_of fill.symbol (fills ++ fill ∷ []) ≡ fills_of fill.symbol fills ++ fill ∷ []
own_fills fills fill =
    fills_of-append fill.symbol fills fill ∙ ap (λ b. fills_of fill.symbol fills ++ cond b (fill ∷ []) []) (same_self fill.symbol)

pub own_lot : (fills : List Fill) (fill : Fill) → lot_of (fills_of fill.symbol (fills ++ fill ∷ [])) ≡ filled_lot (lot_of (fills_of fill.symbol fills)) fill
own_lot fills fill = ap lot_of (own_fills fills fill) ∙ lot_of-append (fills_of fill.symbol fills) fill

pub AreFills-append : (fills : List Fill) (fill : Fill) → AreFills fills → IsFill fill → AreFills (fills ++ fill ∷ [])
AreFills-append [] fill h p = (p, tt)
AreFills-append (f ∷ later) fill h p = (h.0, AreFills-append later fill h.1 p)

-- cash and fees
cash_step : (money start sum paid : ℤ) → money ≡ start -ℤ sum → money -ℤ paid ≡ start -ℤ (sum +ℤ (paid +ℤ pos 0))
cash_step money start sum paid h = omega (arith, ints)

cash-append : (money start : ℤ) (fills : List Fill) (fill : Fill) → money ≡ cash start fills
    → money -ℤ ((fill.quantity.0 *ℤ fill.price.0) +ℤ fill.fee.0) ≡ cash start (fills ++ fill ∷ [])
cash-append money start fills fill h =
    cash_step money start (sum_of (λ f. (f.quantity.0 *ℤ f.price.0) +ℤ f.fee.0) fills) ((fill.quantity.0 *ℤ fill.price.0) +ℤ fill.fee.0) h
    ∙ ap (λ sum. start -ℤ sum) (sym (sum_of-append (λ f. (f.quantity.0 *ℤ f.price.0) +ℤ f.fee.0) fills (fill ∷ [])))

fees-append : (money : ℤ) (fills : List Fill) (fill : Fill) → money ≡ fees fills → money +ℤ fill.fee.0 ≡ fees (fills ++ fill ∷ [])
fees-append money fills fill h = omega (arith, ints, h, sum_of-append (λ f. f.fee.0) fills (fill ∷ []))

realised-append : (fills : List Fill) (fill : Fill)
    → realised (fills ++ fill ∷ [])
    ≡ realised fills -ℤ (lot_of (fills_of fill.symbol fills)).profit +ℤ (filled_lot (lot_of (fills_of fill.symbol fills)) fill).profit
realised-append fills fill =
    ap (sum_of_each (λ s. (lot_of (fills_of s (fills ++ fill ∷ []))).profit)) (traded-append fills fill)
    ∙ each-step (λ s. (lot_of (fills_of s fills)).profit) (λ s. (lot_of (fills_of s (fills ++ fill ∷ []))).profit) fill.symbol (traded fills)
    (λ s h. ap (λ l. (lot_of l).profit) (other_fills s fills fill h))
    (λ h. ap (λ l. (lot_of l).profit) (never_traded fill.symbol fills h))
    ∙ ap (λ l. realised fills -ℤ (lot_of (fills_of fill.symbol fills)).profit +ℤ l.profit) (own_lot fills fill)

-- the value of the positions, and their gross value
unmarked : (n : ℤ) (s : List ℕ) (marks : List Mark) → is_among s (marked marks) ≡ false → n *ℤ unwrap_or (last_mark s marks) (pos 0) ≡ pos 0
unmarked n s marks h = ap (λ o. n *ℤ unwrap_or o (pos 0)) (never_marked s marks h) ∙ *ℤ-zero n

worth-fill : (fills : List Fill) (marks : List Mark) (fill : Fill)
    → worth (fills ++ fill ∷ []) marks
    ≡ worth fills marks -ℤ value_of fills marks fill.symbol +ℤ value_of (fills ++ fill ∷ []) marks fill.symbol
worth-fill fills marks fill =
    each-same (value_of fills marks) (value_of (fills ++ fill ∷ []) marks) fill.symbol (marked marks)
    (λ s h. ap (λ l. sum_of (λ f. f.quantity.0) l *ℤ unwrap_or (last_mark s marks) (pos 0)) (other_fills s fills fill h))
    (λ h. (unmarked (position fill.symbol fills) fill.symbol marks h, unmarked (position fill.symbol (fills ++ fill ∷ [])) fill.symbol marks h))

gross-fill : (fills : List Fill) (marks : List Mark) (fill : Fill)
    → gross (fills ++ fill ∷ []) marks
    ≡ gross fills marks -ℤ gross_of fills marks fill.symbol +ℤ gross_of (fills ++ fill ∷ []) marks fill.symbol
gross-fill fills marks fill =
    each-same (gross_of fills marks) (gross_of (fills ++ fill ∷ []) marks) fill.symbol (marked marks)
    (λ s h. ap (λ l. pos (unsigned_abs (sum_of (λ f. f.quantity.0) l)) *ℤ unwrap_or (last_mark s marks) (pos 0)) (other_fills s fills fill h))
    (λ h. (
      unmarked (pos (unsigned_abs (position fill.symbol fills))) fill.symbol marks h,
      unmarked (pos (unsigned_abs (position fill.symbol (fills ++ fill ∷ [])))) fill.symbol marks h,
    ))

other_mark : (s : List ℕ) (marks : List Mark) (mark : Mark) → same_symbol mark.symbol s ≡ false → last_mark s (marks ++ mark ∷ []) ≡ last_mark s marks
other_mark s marks mark h =
    last-append s marks mark ∙ ap (λ b. if b then Some mark.price else last_mark s marks) (same_turned s mark.symbol ∙ h)

own_mark : (marks : List Mark) (mark : Mark) → last_mark mark.symbol (marks ++ mark ∷ []) ≡ Some mark.price
own_mark marks mark =
    last-append mark.symbol marks mark ∙ ap (λ b. if b then Some mark.price else last_mark mark.symbol marks) (same_self mark.symbol)

worth-mark : (fills : List Fill) (marks : List Mark) (mark : Mark)
    → worth fills (marks ++ mark ∷ [])
    ≡ worth fills marks -ℤ value_of fills marks mark.symbol +ℤ (position mark.symbol fills *ℤ mark.price)
worth-mark fills marks mark =
    ap (sum_of_each (value_of fills (marks ++ mark ∷ []))) (marked-append marks mark)
    ∙ each-step (value_of fills marks) (value_of fills (marks ++ mark ∷ [])) mark.symbol (marked marks)
    (λ s h. ap (λ o. position s fills *ℤ unwrap_or o (pos 0)) (other_mark s marks mark h))
    (unmarked (position mark.symbol fills) mark.symbol marks)
    ∙ ap (λ o. worth fills marks -ℤ value_of fills marks mark.symbol +ℤ (position mark.symbol fills *ℤ unwrap_or o (pos 0))) (own_mark marks mark)

gross-mark : (fills : List Fill) (marks : List Mark) (mark : Mark)
    → gross fills (marks ++ mark ∷ [])
    ≡ gross fills marks -ℤ gross_of fills marks mark.symbol +ℤ (pos (unsigned_abs (position mark.symbol fills)) *ℤ mark.price)
gross-mark fills marks mark =
    ap (sum_of_each (gross_of fills (marks ++ mark ∷ []))) (marked-append marks mark)
    ∙ each-step (gross_of fills marks) (gross_of fills (marks ++ mark ∷ [])) mark.symbol (marked marks)
    (λ s h. ap (λ o. pos (unsigned_abs (position s fills)) *ℤ unwrap_or o (pos 0)) (other_mark s marks mark h))
    (unmarked (pos (unsigned_abs (position mark.symbol fills))) mark.symbol marks)
    ∙ ap (λ o. gross fills marks -ℤ gross_of fills marks mark.symbol +ℤ (pos (unsigned_abs (position mark.symbol fills)) *ℤ unwrap_or o (pos 0)))
    (own_mark marks mark)

-- what is kept of a symbol says the same of it
pub kept-price : (s : List ℕ) (fills : List Fill) (marks : List Mark) → price_or_zero (summed s fills marks).price ≡ unwrap_or (last_mark s marks) (pos 0)
kept-price s fills marks = step (last_mark s marks)
  where
    step : (o : Option ℤ) → price_or_zero (option_map (λ price. record { 0 = price }) o) ≡ unwrap_or o (pos 0)
    step None = refl
    step (Some price) = refl

pub kept-position : (s : List ℕ) (fills : List Fill) (marks : List Mark) → (summed s fills marks).lot.position ≡ position s fills
kept-position s fills marks = lot-position (fills_of s fills)

own_position : (fills : List Fill) (fill : Fill) → (filled_lot (lot_of (fills_of fill.symbol fills)) fill).position ≡ position fill.symbol (fills ++ fill ∷ [])
own_position fills fill = ap (λ l. l.position) (sym (own_lot fills fill)) ∙ lot-position (fills_of fill.symbol (fills ++ fill ∷ []))

-- the account with one mark more
marked_holding : (b : Bool) (entries : List (List ℕ × Holding)) (fills : List Fill) (marks : List Mark) (mark : Mark) (s : List ℕ)
    → same_symbol mark.symbol s ≡ b → holding_in entries s ≡ summed s fills marks
    → (if b then record { lot = (holding_in entries s).lot; price = Some (record { 0 = mark.price }) } else holding_in entries s)
    ≡ summed s fills (marks ++ mark ∷ [])
marked_holding true entries fills marks mark s e h =
    ap (λ k. let k : Holding = k in record { lot = k.lot; price = Some (record { 0 = mark.price }) }) h
    ∙ ap (λ o. record { lot = lot_of (fills_of s fills); price = option_map (λ price. record { 0 = price }) o })
    (sym (last-append s marks mark ∙ ap (λ b. if b then Some mark.price else last_mark s marks) (same_turned s mark.symbol ∙ e)))
marked_holding false entries fills marks mark s e h =
    h ∙ ap (λ o. record { lot = lot_of (fills_of s fills); price = option_map (λ price. record { 0 = price }) o }) (sym (other_mark s marks mark e))

pub stands-mark : (totals : Totals) (entries entries' : List (List ℕ × Holding)) (start : ℤ) (fills : List Fill) (marks : List Mark) (mark : Mark)
    → StandsFor (record { totals = totals; entries = entries }) start fills marks → IsPrice mark.price
    → ((s : List ℕ) → holding_in entries' s
    ≡ (if same_symbol mark.symbol s then record { lot = (holding_in entries s).lot; price = Some (record { 0 = mark.price }) } else holding_in entries s))
    → StandsFor (record { totals = marked_totals totals (holding_in entries mark.symbol) mark.price; entries = entries' }) start fills (marks ++ mark ∷ [])
stands-mark totals entries entries' start fills marks mark stands price kept =
    let e = stands.holdings mark.symbol in
    record {
      cash = stands.cash;
      fees = stands.fees;
      realised = stands.realised;
      value =
          ap (λ h. let h : Holding = h in totals.value -ℤ (h.lot.position *ℤ price_or_zero h.price) +ℤ (h.lot.position *ℤ mark.price)) e
          ∙ (λ i. stands.value i -ℤ (kept-position mark.symbol fills marks i *ℤ kept-price mark.symbol fills marks i)
          +ℤ (kept-position mark.symbol fills marks i *ℤ mark.price))
          ∙ sym (worth-mark fills marks mark);
      gross =
          ap (λ h. let h : Holding = h in totals.gross -ℤ (pos (unsigned_abs h.lot.position) *ℤ price_or_zero h.price) +ℤ (pos (unsigned_abs h.lot.position) *ℤ mark.price)) e
          ∙ (λ i. stands.gross i -ℤ (pos (unsigned_abs (kept-position mark.symbol fills marks i)) *ℤ kept-price mark.symbol fills marks i)
          +ℤ (pos (unsigned_abs (kept-position mark.symbol fills marks i)) *ℤ mark.price))
          ∙ sym (gross-mark fills marks mark);
      count = stands.count;
      holdings = λ s. kept s ∙ marked_holding (same_symbol mark.symbol s) entries fills marks mark s refl (stands.holdings s);
      start_range = stands.start_range;
      fills_range = stands.fills_range;
      marks_range = AreMarks-append marks mark stands.marks_range price;
      few = stands.few;
    }

-- the account with one fill more
filled_holding : (b : Bool) (entries : List (List ℕ × Holding)) (fills : List Fill) (marks : List Mark) (fill : Fill) (s : List ℕ)
    → same_symbol fill.symbol s ≡ b → holding_in entries s ≡ summed s fills marks → holding_in entries fill.symbol ≡ summed fill.symbol fills marks
    → (if b then record { lot = filled_lot (holding_in entries fill.symbol).lot fill; price = (holding_in entries fill.symbol).price } else holding_in entries s)
    ≡ summed s (fills ++ fill ∷ []) marks
filled_holding true entries fills marks fill s e h k =
    ap (λ h. let h : Holding = h in record { lot = filled_lot h.lot fill; price = h.price }) k
    ∙ ap (λ l. record { lot = l; price = (summed fill.symbol fills marks).price }) (sym (own_lot fills fill))
    ∙ ap (λ s. summed s (fills ++ fill ∷ []) marks) (same_is fill.symbol s e)
filled_holding false entries fills marks fill s e h k =
    h ∙ ap (λ l. record { lot = lot_of l; price = (summed s fills marks).price }) (sym (other_fills s fills fill e))

pub stands-fill : (totals : Totals) (entries entries' : List (List ℕ × Holding)) (start : ℤ) (fills : List Fill) (marks : List Mark) (fill : Fill)
    → StandsFor (record { totals = totals; entries = entries }) start fills marks → IsFill fill → totals.fills < most_fills
    → ((s : List ℕ) → holding_in entries' s
    ≡ (if same_symbol fill.symbol s then record { lot = filled_lot (holding_in entries fill.symbol).lot fill; price = (holding_in entries fill.symbol).price }
    else holding_in entries s))
    → StandsFor (record { totals = applied_totals totals (holding_in entries fill.symbol) fill; entries = entries' }) start (fills ++ fill ∷ []) marks
stands-fill totals entries entries' start fills marks fill stands range few kept =
    let e = stands.holdings fill.symbol in
    record {
      cash = cash-append totals.cash start fills fill stands.cash;
      fees = fees-append totals.fees fills fill stands.fees;
      realised =
          ap (λ h. let h : Holding = h in totals.realised -ℤ h.lot.profit +ℤ (filled_lot h.lot fill).profit) e
          ∙ ap (λ r. r -ℤ (lot_of (fills_of fill.symbol fills)).profit +ℤ (filled_lot (lot_of (fills_of fill.symbol fills)) fill).profit) stands.realised
          ∙ sym (realised-append fills fill);
      value =
          ap (λ h. let h : Holding = h in
          totals.value -ℤ (h.lot.position *ℤ price_or_zero h.price) +ℤ ((filled_lot h.lot fill).position *ℤ price_or_zero h.price)) e
          ∙ (λ i. stands.value i -ℤ (kept-position fill.symbol fills marks i *ℤ kept-price fill.symbol fills marks i)
          +ℤ (own_position fills fill i *ℤ kept-price fill.symbol fills marks i))
          ∙ sym (worth-fill fills marks fill);
      gross =
          ap (λ h. let h : Holding = h in
          totals.gross -ℤ (pos (unsigned_abs h.lot.position) *ℤ price_or_zero h.price)
          +ℤ (pos (unsigned_abs (filled_lot h.lot fill).position) *ℤ price_or_zero h.price)) e
          ∙ (λ i. stands.gross i -ℤ (pos (unsigned_abs (kept-position fill.symbol fills marks i)) *ℤ kept-price fill.symbol fills marks i)
          +ℤ (pos (unsigned_abs (own_position fills fill i)) *ℤ kept-price fill.symbol fills marks i))
          ∙ sym (gross-fill fills marks fill);
      count = omega (arith, stands.count, length-append fills (fill ∷ []));
      holdings = λ s. kept s ∙ filled_holding (same_symbol fill.symbol s) entries fills marks fill s refl (stands.holdings s) e;
      start_range = stands.start_range;
      fills_range = AreFills-append fills fill stands.fills_range range;
      marks_range = stands.marks_range;
      few = omega (arith, stands.count, length-append fills (fill ∷ []));
    }

-- an account without fills and marks
pub stands-new : (totals : Totals) (entries : List (List ℕ × Holding)) (start : ℤ) → IsStartingCash start → entries ≡ []
    → totals.cash ≡ start → totals.fees ≡ pos 0 → totals.realised ≡ pos 0 → totals.value ≡ pos 0 → totals.gross ≡ pos 0 → totals.fills ≡ 0
    → StandsFor (record { totals = totals; entries = entries }) start [] []
stands-new totals entries start range none c f r v g n =
    record {
      cash = c ∙ omega (arith, ints);
      fees = f;
      realised = r;
      value = v;
      gross = g;
      count = n;
      holdings = λ s. ap (λ es. holding_in es s) none;
      start_range = range;
      fills_range = tt;
      marks_range = tt;
      few = omega arith;
    }

-- the gross value of the other symbols
pub gross_rest : (totals : Totals) (entries : List (List ℕ × Holding)) (start : ℤ) (fills : List Fill) (marks : List Mark) (s : List ℕ)
    → StandsFor (record { totals = totals; entries = entries }) start fills marks
    → totals.gross -ℤ gross_at (holding_in entries s).lot.position (price_or_zero (holding_in entries s).price) ≡ gross_without s fills marks
gross_rest totals entries start fills marks s stands =
    ap (λ h. let h : Holding = h in totals.gross -ℤ (pos (unsigned_abs h.lot.position) *ℤ price_or_zero h.price)) (stands.holdings s)
    ∙ (λ i. stands.gross i -ℤ (pos (unsigned_abs (kept-position s fills marks i)) *ℤ kept-price s fills marks i))
    ∙ sym (each-rest (gross_of fills marks) s (marked marks) (unmarked (pos (unsigned_abs (position s fills))) s marks))
