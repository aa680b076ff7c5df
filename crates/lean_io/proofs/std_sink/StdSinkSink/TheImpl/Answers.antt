use Rattle.lean_io.proofs.Adapters.{bytes_untold, bytes_untold_at_err, rose}
use Rattle.lean_io.proofs.std_sink.StdSinkSink.TheImpl.Goals as goal

pub write-tells : goal.write-tells
write-tells g c = record {
  took = c.ensures.took;
  some = c.ensures.some;
  told = bytes_untold c.result;
  same = bytes_untold_at_err c.result;
  counted = c.ensures.counted;
  grows = c.ensures.grows;
  rose = rose c.result c.args.self.now.faults c.new.self.now.faults c.ensures.failed;
}
