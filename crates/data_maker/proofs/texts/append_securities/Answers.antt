use Rattle.data_maker.specs.Texts.{security_text}
use Rattle.data_maker.proofs.Ranges.{flat-more}
use Rattle.data_maker.proofs.texts.append_securities.Goals as goal

pub loop-security-preserved : goal.loop-security-preserved
loop-security-preserved c =
    flat-more security_text c.loop-security.out.items c.append_security.new.out.items _ 16 c.loop-security.security c.loop-security-test.true c.in_ok-append_security.ensures c.loop-security.invariant
