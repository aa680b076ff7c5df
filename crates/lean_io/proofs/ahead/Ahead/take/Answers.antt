use Rattle.std.proofs.Common.{arith, ap, drop, ◌∙◌, ◌≤◌, ◌-◌}
use Rattle.lean_io.proofs.Buffer.{between-later}
use Rattle.lean_io.proofs.ahead.Ahead.take.Goals as goal

pub returns-clause-left : goal.returns-clause-left
returns-clause-left c =
    let within : c.min-n.result ≤ c.self.inside.to - c.self.inside.from = omega arith in
    between-later c.self.inside.buffer.items c.self.inside.from c.self.inside.to c.min-n.result within
    ∙ ap (λ xs. drop c.min-n.result xs) c.self.view_is
