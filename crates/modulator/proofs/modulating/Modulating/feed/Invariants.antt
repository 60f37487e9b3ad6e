use Rattle.std.proofs.Common.{◌≡◌, ◌⊎◌, ◌≤◌, ◌<◌, ◌+◌, ◌-◌, ◌++◌, ℕ, List, false, true, length, take}
use Rattle.plp_config.specs.declared.moment.TheConstants.{MOST_FRAMES}
use Rattle.frame_groups.specs.Modulated.{FrameRecord}
use Rattle.t2mi_stream.specs.UnpiperStandsFor.{fed_len}
use Rattle.modulator.specs.Modulating.{StandsAt, IsSettled, has_record, stream_of}
use Rattle.modulator.specs.StandsFor.{records_due}
use Rattle.modulator.proofs.modulating.Modulating.feed.Given as goal

abbrev pub invariant-loop-count : goal.invariant-loop-count
invariant-loop-count l = record {
  stands : (bytes : List ℕ) (given : List FrameRecord) → StandsAt l.initial.self bytes given
      → StandsAt l.self (bytes ++ take l.count l.piece) given;
  front : (k : ℕ) → k < l.count → (bytes : List ℕ) (given : List FrameRecord) → StandsAt l.initial.self bytes given
      → records_due l.initial.self.sequence.group.network false (bytes ++ take k l.piece) ≡ given;
  inside : l.count ≤ length l.piece;
  next : (l.self.sequence.progress.next ≡ l.initial.self.sequence.progress.next)
      ⊎ (l.self.sequence.progress.next < MOST_FRAMES);
  settled : IsSettled l.self;
  stream : stream_of l.self ≡ record (stream_of l.initial.self) { fed = fed_len l.initial.self.unpiper + l.count };
  intact : has_record l.initial.self ≡ false → has_record l.self ≡ true → l.self.sequence.group.intact ≡ true;
  same : l.count ≡ 0 → has_record l.self ≡ has_record l.initial.self;
  first : has_record l.initial.self ≡ true → l.count ≡ 0;
}

abbrev pub decreases-loop-count : goal.decreases-loop-count
decreases-loop-count l = length l.piece - l.count
