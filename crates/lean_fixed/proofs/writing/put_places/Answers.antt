use Rattle.std.proofs.Common.{◌≡◌, ◌+◌, ◌%◌, arith, length, ap}
use Rattle.std.specs.Fmt.{decimal}
use Rattle.lean_fixed.proofs.WrittenLemmas.{one_and_places, written-places}
use Rattle.lean_fixed.proofs.writing.put_places.Goals as goal

pub write_digits-requires : goal.write_digits-requires
write_digits-requires c =
    let five : length (decimal (10000 + c.args.units % 10000)) ≡ 5 = ap length (one_and_places c.args.units) in
    (omega (arith, five), c.requires)

pub returns : goal.returns
returns c = record {
  written = written-places c.args.units c.args.point c.write_digits.result c.args.buffer.now c.write_digits.new.buf c.requires c.write_digits.auto.buf
      c.write_digits.ensures.start c.write_digits.ensures.before c.write_digits.ensures.written;
}
