use Rattle.std.proofs.Common.{◌∙◌}
use Rattle.data_maker.proofs.Names.{security-appended}
use Rattle.data_maker.proofs.texts.append_security.Goals as goal

pub returns : goal.returns
returns c =
    security-appended c.args.out.now.items c.extend_from_slice.new.self.items c.extend_from_slice-2.new.self.items c.extend_from_slice-3.new.self.items c.bytes.result.now c.args.security c.in_ok-extend_from_slice.ensures.items c.in_ok-extend_from_slice-2.ensures.items c.in_ok-extend_from_slice-3.ensures.items (c.bytes.ensures.value ∙ c.symbol_of-symbol.ensures)
