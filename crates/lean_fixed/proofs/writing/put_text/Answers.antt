use Rattle.std.proofs.Common.{◌+◌, ◌-◌, arith, rules, length, refl}
use Rattle.std.proofs.lemmas.Slice.{overwrites, take-put_mid, drop-put_mid}
use Rattle.lean_fixed.proofs.writing.put_text.Goals as goal

pub returns : goal.returns
returns c =
    let text = c.args.text.now in
    let place = c.args.place in
    let old = c.args.buffer.now in
    let room = c.requires.room in
    let same = c.copy_from_slice.ensures.after in
    record {
      written = rw same record {
        end = refl;
        size = search (rules, overwrites);
        written = take-put_mid place (place + length text - place) old text (place + length text) refl (omega arith);
        rest = drop-put_mid place (place + length text - place) old text (place + length text) (omega arith) (omega arith) (omega arith);
      };
    }
