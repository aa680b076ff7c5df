use Rattle.std.proofs.lemmas.Fmt.{decimal_digit}
use Rattle.data_maker.proofs.Names.{two_digits}
use Rattle.data_maker.proofs.texts.symbol_of.Goals as goal

pub returns-then-security-lt10 : goal.returns-then-security-lt10
returns-then-security-lt10 c = rw (decimal_digit c.args.security c.if-security-lt10.true) c.symbol_in.ensures

pub returns-else-security-lt10 : goal.returns-else-security-lt10
returns-else-security-lt10 c =
    rw (two_digits c.args.security c.if-security-lt10.false c.requires) c.symbol_in-else-security-lt10.ensures
