use Rattle.order_desk.specs.Serving.{RanOn}
use Rattle.order_desk.proofs.server.Server.serve.Given as goal

abbrev pub invariant-serving : goal.invariant-serving
invariant-serving g l = record {
  next : (goal.iterator-serving g).can_next l.iterator' × (goal.iterator-serving g).is_finite l.iterator';
  ran : RanOn l.fn.self l.self;
}
