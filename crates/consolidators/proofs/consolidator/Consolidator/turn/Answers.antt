-- A bar opens a bucket, is one bar more of it, or comes after it.
use Rattle.std.proofs.Common.{arith}
use Rattle.std.proofs.lemmas.Int.{ints}
use Rattle.consolidators.specs.Pushed.{IsSoFar}
use Rattle.consolidators.proofs.Heard.{follows, leaves_none, leaves_one}
use Rattle.consolidators.proofs.SoFar.{opened-sound, joined-sound, joined-fits, so_far_given}
use Rattle.consolidators.proofs.Turns.{turns-begun, turns-joined, turns-later}
use Rattle.consolidators.proofs.consolidator.Consolidator.turn.Goals as goal

pub joined-requires : goal.joined-requires
joined-requires c =
    joined-fits c.args.self.now.period c.args.self.now.ended.0 c.in-Some.held c.args.bar.now c.args.self.now.lasts
    (c.args.self.now.sound c.in-Some.held c.in-Some.is) c.requires.bar

pub returns-in-None-clause-turns : goal.returns-in-None-clause-turns
returns-in-None-clause-turns c = λ bars stands.
    rw (c.of_bucket.ensures.given, c.of_bucket.ensures.held)
    (turns-begun c.args.self.now.period bars c.args.bar.now c.opened.result (follows c.args.self.now bars c.args.bar.now stands c.requires.bar c.requires.follows)
    (leaves_none c.args.self.now bars stands c.in-None.is) c.opened.ensures)

pub returns-in-None-clause-given : goal.returns-in-None-clause-given
returns-in-None-clause-given c =
    c.of_bucket.ensures.ranges c.args.self.now.period c.args.self.now.lasts
    (opened-sound c.args.self.now.period c.args.bar.now c.opened.result c.args.self.now.lasts c.requires.bar c.opened.ensures)

pub returns-in-None-clause-held : goal.returns-in-None-clause-held
returns-in-None-clause-held c =
    c.of_bucket.ensures.sound c.args.self.now.period
    (opened-sound c.args.self.now.period c.args.bar.now c.opened.result c.args.self.now.lasts c.requires.bar c.opened.ensures)

pub returns-then-held-bar-clause-turns : goal.returns-then-held-bar-clause-turns
returns-then-held-bar-clause-turns c = λ bars stands.
    rw (c.after_bucket.ensures.given, c.after_bucket.ensures.held)
    (turns-later c.args.self.now.period bars c.args.bar.now c.in-Some.held c.opened-then-held-bar.result
    (follows c.args.self.now bars c.args.bar.now stands c.requires.bar c.requires.follows)
    (leaves_one c.args.self.now bars c.in-Some.held stands c.in-Some.is) (omega (arith, ints)) c.opened-then-held-bar.ensures)

pub returns-then-held-bar-clause-given : goal.returns-then-held-bar-clause-given
returns-then-held-bar-clause-given c =
    c.after_bucket.ensures.ranges c.args.self.now.period c.args.self.now.lasts
    (so_far_given c.args.self.now.period c.args.self.now.ended.0 c.in-Some.held c.args.self.now.lasts (c.args.self.now.sound c.in-Some.held c.in-Some.is))
    (opened-sound c.args.self.now.period c.args.bar.now c.opened-then-held-bar.result c.args.self.now.lasts c.requires.bar c.opened-then-held-bar.ensures)

pub returns-then-held-bar-clause-held : goal.returns-then-held-bar-clause-held
returns-then-held-bar-clause-held c =
    c.after_bucket.ensures.sound c.args.self.now.period
    (opened-sound c.args.self.now.period c.args.bar.now c.opened-then-held-bar.result c.args.self.now.lasts c.requires.bar c.opened-then-held-bar.ensures)

pub returns-else-held-bar-clause-turns : goal.returns-else-held-bar-clause-turns
returns-else-held-bar-clause-turns c = λ bars stands.
    let sound : IsSoFar c.args.self.now.period c.args.self.now.ended.0 c.in-Some.held = c.args.self.now.sound c.in-Some.held c.in-Some.is in
    rw (c.of_bucket-else-held-bar.ensures.given, c.of_bucket-else-held-bar.ensures.held)
    (turns-joined c.args.self.now.period bars c.args.bar.now c.in-Some.held
    (follows c.args.self.now bars c.args.bar.now stands c.requires.bar c.requires.follows)
    (leaves_one c.args.self.now bars c.in-Some.held stands c.in-Some.is) (omega (arith, ints)) (omega (arith, ints))
    c.joined.result c.joined.ensures)

sound_after : (c : goal.After-of_bucket-else-held-bar) → IsSoFar c.args.self.now.period c.args.bar.now.end.0 c.joined.result
sound_after c =
    joined-sound c.args.self.now.period c.args.self.now.ended.0 c.in-Some.held c.args.bar.now c.args.self.now.lasts
    (c.args.self.now.sound c.in-Some.held c.in-Some.is) c.requires.bar c.requires.follows (omega (arith, ints)) c.joined.result c.joined.ensures

pub returns-else-held-bar-clause-given : goal.returns-else-held-bar-clause-given
returns-else-held-bar-clause-given c =
    c.of_bucket-else-held-bar.ensures.ranges c.args.self.now.period c.args.self.now.lasts (sound_after c)

pub returns-else-held-bar-clause-held : goal.returns-else-held-bar-clause-held
returns-else-held-bar-clause-held c =
    c.of_bucket-else-held-bar.ensures.sound c.args.self.now.period (sound_after c)
