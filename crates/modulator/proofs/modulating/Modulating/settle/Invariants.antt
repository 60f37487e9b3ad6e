use Rattle.std.proofs.Common.{◌≡◌, ◌⊎◌, ◌<◌, ◌≤◌, ℕ, true, List}
use Rattle.plp_config.specs.declared.moment.TheConstants.{MOST_FRAMES}
use Rattle.frame_groups.specs.Modulated.{FrameRecord}
use Rattle.t2mi_stream.specs.UnpiperStandsFor.{steps_left}
use Rattle.modulator.specs.Modulating.{StandsAt, IsNear, has_record, stream_of, records_ahead}
use Rattle.modulator.proofs.modulating.Modulating.settle.Given as goal

abbrev pub invariant-loop-self : goal.invariant-loop-self
invariant-loop-self l = record {
  stands : (bytes : List ℕ) (given : List FrameRecord) → StandsAt l.initial.self bytes given
      → StandsAt l.self bytes given;
  near : IsNear l.self;
  next : (l.self.sequence.progress.next ≡ l.initial.self.sequence.progress.next)
      ⊎ (l.self.sequence.progress.next < MOST_FRAMES);
  intact : (has_record l.initial.self ≡ true → l.initial.self.sequence.group.intact ≡ true)
      → has_record l.self ≡ true → l.self.sequence.group.intact ≡ true;
  left : records_ahead l.self ≤ records_ahead l.initial.self;
  stream : stream_of l.self ≡ stream_of l.initial.self;
}

abbrev pub decreases-loop-self : goal.decreases-loop-self
decreases-loop-self l = steps_left l.self.unpiper
