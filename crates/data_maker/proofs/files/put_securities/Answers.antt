use Rattle.lean_io.specs.MemFolder.{map_files}
use Rattle.data_maker.specs.MadeFiles.{security_files}
use Rattle.data_maker.proofs.Putting.{parts-more}
use Rattle.data_maker.proofs.files.put_securities.Goals as goal

pub loop-security-preserved : goal.loop-security-preserved
loop-security-preserved c =
    parts-more (security_files c.args.number) (map_files c.loop-security.files) (map_files c.put_security.new.files) _ 16 c.loop-security.security c.loop-security-test.true c.in_ok-put_security.ensures c.loop-security.invariant
