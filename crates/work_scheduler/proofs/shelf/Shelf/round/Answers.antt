-- The turns that were lent came back, and each went on.
use Rattle.std.proofs.Common.{◌≡◌, ◌≤◌, ◌++◌, length, take, drop, sym, subst, arith}
use Rattle.std.specs.Prelude.{MatchOption}
use Rattle.std.specs.List.{All, AllZip}
use Rattle.std.proofs.lemmas.List.Elements.{length_all_zip}
use Rattle.work_scheduler.specs.Placings.{numbered, all_sent, PlacedOn, IsStuck, OnePumped}
use Rattle.work_scheduler.proofs.PlacingLemmas.{written, once-zip}
use Rattle.work_scheduler.proofs.shelf.Shelf.round.Goals as goal

pub invariant_of-self : goal.invariant_of-self
invariant_of-self g c =
    let shelf = c.args.self.now in
    let old = shelf.turns.items in
    let new = c.pump_one.new.turns in
    let ran : AllZip PlacedOn old new = subst (λ l. AllZip PlacedOn l new) c.as_mut_slice.ensures.value c.pump_one.ensures.ran in
    let long : length old ≡ length new = length_all_zip PlacedOn old new ran in
    let back : take shelf.turns.len (new ++ drop (length new) old) ≡ new = written shelf.turns.len old new shelf.turns.ok.0 (sym long) in
    record {
      each_once = λ k. subst (λ l. length (numbered k l) ≤ 1) (sym back) (subst (λ n. n ≤ 1) (once-zip k old new ran) (shelf.each_once k));
      within = shelf.within;
      places = shelf.places;
      places_for_rooms = omega (arith, shelf.places_for_rooms, c.pump_one.ensures.capacity);
    }

pub returns-clause-ran : goal.returns-clause-ran
returns-clause-ran g c =
    let shelf = c.args.self.now in
    let old = shelf.turns.items in
    let new = c.pump_one.new.turns in
    let ran : AllZip PlacedOn old new = subst (λ l. AllZip PlacedOn l new) c.as_mut_slice.ensures.value c.pump_one.ensures.ran in
    let long : length old ≡ length new = length_all_zip PlacedOn old new ran in
    subst (λ l. AllZip PlacedOn old l) (sym (written shelf.turns.len old new shelf.turns.ok.0 (sym long))) ran

pub returns-clause-pumped : goal.returns-clause-pumped
returns-clause-pumped g c =
    let shelf = c.args.self.now in
    let old = shelf.turns.items in
    let new = c.pump_one.new.turns in
    let ran : AllZip PlacedOn old new = subst (λ l. AllZip PlacedOn l new) c.as_mut_slice.ensures.value c.pump_one.ensures.ran in
    let long : length old ≡ length new = length_all_zip PlacedOn old new ran in
    let pumped : MatchOption c.pump_one.result ((all_sent new ≡ all_sent old) × All IsStuck new) (λ pumped. OnePumped pumped old new)
    = subst (λ l. MatchOption c.pump_one.result ((all_sent new ≡ all_sent l) × All IsStuck new) (λ pumped. OnePumped pumped l new))
    c.as_mut_slice.ensures.value c.pump_one.ensures.pumped in
    subst (λ l. MatchOption c.pump_one.result ((all_sent l ≡ all_sent old) × All IsStuck l) (λ pumped. OnePumped pumped old l))
    (sym (written shelf.turns.len old new shelf.turns.ok.0 (sym long))) pumped
