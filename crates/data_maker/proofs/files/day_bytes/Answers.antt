use Rattle.std.proofs.Common.{ℕ, suc, ◌≡◌, ◌+◌, ◌-◌, ◌*◌, List, arith}
use Rattle.data_maker.proofs.Walking.{rows-passed, text-more, left-more}
use Rattle.data_maker.proofs.files.day_bytes.Goals as goal

pub loop-minute-preserved : goal.loop-minute-preserved
loop-minute-preserved c =
    let l = c.loop-minute in
    let row = c.next_row-row in
    let e : 960 - l.minute ≡ suc (960 - (l.minute + 1)) = omega (arith, c.loop-minute-test.true) in
    let passed = λ (later : List ℕ). rows-passed l.walk.random l.walk.price (1440 * c.args.day) l.minute row.new.self.random row.new.self.price row.result later c.loop-minute-test.true row.ensures.row row.ensures.random row.ensures.price in
    record {
      text = λ later. text-more _ _ row.result l.out.items c.append_row.new.out.items _ _ _ e (passed later) c.in_ok-append_row.ensures (l.invariant.text later);
      left = λ later. left-more _ _ _ row.result _ _ e (passed later) (l.invariant.left later);
      range = row.ensures.range;
      least = row.ensures.least;
      most = omega (arith, l.invariant.most, row.ensures.most);
    }
