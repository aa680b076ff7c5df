use Rattle.std.proofs.Common.{arith, length, ◌≤◌}
use Rattle.std.specs.Io.KnownBytes.{prepend_known}
use Rattle.lean_io.proofs.Buffer.{consumes_front}
use Rattle.lean_io.proofs.ahead.Ahead.read.Goals as goal

pub returns-clause-read : goal.returns-clause-read
returns-clause-read g c =
    let within : c.take.result ≤ length c.refill.new.self = omega arith in
    consumes_front (prepend_known c.args.self.now (g.F.Read.remaining c.args.file.now)) c.refill.new.self c.take.new.self c.take.new.into _ (g.F.Read.remaining c.refill.new.file) c.take.result
    c.in_ok-refill.ensures.kept within c.take.ensures.moved c.take.ensures.left
