use Rattle.std.proofs.Common.{refl, []}
use Rattle.lean_io.specs.Told.{Opened, Reads}
use Rattle.lean_io.proofs.Adapters.{untold, hand_stays, hand_closed, hand_rose}
use Rattle.lean_io.proofs.dir_folder.DirHandHand.TheImpl.Goals as goal

pub open_file-tells : goal.open_file-tells
open_file-tells g x c = record {
  kept = refl;
  grows = c.ensures.grows;
  opened = c.ensures.opened;
  told = untold c.result (λ found f. Opened f c.args.path.now found []);
  closed = hand_closed c.result c.args.self.now c.new.self.now c.ensures.failed;
  rose = hand_rose c.result c.args.self.now c.new.self.now c.ensures.failed;
}

pub read-tells : goal.read-tells
read-tells g x c = record {
  kept = refl;
  grows = c.ensures.grows;
  within = c.ensures.within;
  opened = hand_stays c.result c.args.self.now c.new.self.now c.requires c.ensures.same;
  told = untold c.result (λ n f. Reads n [] [] c.new.into.now);
  closed = hand_closed c.result c.args.self.now c.new.self.now c.ensures.failed;
  rose = hand_rose c.result c.args.self.now c.new.self.now c.ensures.failed;
}
