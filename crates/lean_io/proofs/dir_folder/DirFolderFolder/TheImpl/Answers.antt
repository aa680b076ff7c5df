use Rattle.std.proofs.Common.{refl, ap}
use Rattle.lean_io.specs.DirHand.{DirState}
use Rattle.lean_io.proofs.Adapters.{hand_untold, hand_new, hand_out, hand_same}
use Rattle.lean_io.proofs.dir_folder.DirFolderFolder.TheImpl.Goals as goal

pub hand-tells : goal.hand-tells
hand-tells g x c = record {
  told = hand_untold c.result;
  fresh = hand_new c.result c.ensures.hand;
  kept = refl;
  same = hand_same c.result c.args.self.now c.new.self.now c.ensures.given c.ensures.same;
  out = hand_out c.result c.args.self.now c.new.self.now c.ensures.given;
  unchanged = c.ensures.same;
}

pub take_back-tells : goal.take_back-tells
take_back-tells g x c = record {
  kept = refl;
  grows = c.ensures.grows;
  raised = ap (λ (directory : DirState). directory.faults) c.ensures.back;
  back = ap (λ (directory : DirState). directory.hands) c.ensures.back;
}
