use Rattle.std.proofs.Common.{arith}
use Rattle.lean_io.specs.MemFolder.{map_files}
use Rattle.data_maker.proofs.Putting.{security-begins, days-more}
use Rattle.data_maker.proofs.files.put_security.Goals as goal

pub loop-day-init : goal.loop-day-init
loop-day-init c = record {
  files = security-begins (map_files c.args.files.now) c.symbol_of-symbol.result c.new-walk.result.random c.new-walk.result.price c.args.number c.args.security c.symbol_of-symbol.ensures c.new-walk.ensures.random c.new-walk.ensures.price;
  range = c.new-walk.ensures.range;
  least = omega (arith, c.new-walk.ensures.price, c.requires.security);
  most = omega (arith, c.new-walk.ensures.price, c.requires.security);
}

pub loop-day-preserved : goal.loop-day-preserved
loop-day-preserved c =
    let l = c.loop-day in
    let passed = c.in_ok-pass_day.ensures in
    record {
      files = days-more (map_files l.files) (map_files c.pass_day.new.files) _ c.symbol_of-symbol.result l.walk.random l.walk.price c.pass_day.new.walk.random c.pass_day.new.walk.price 15997 l.day c.loop-day-test.true passed.files l.invariant.files;
      range = passed.range;
      least = passed.least;
      most = omega (arith, l.invariant.most, passed.most);
    }
