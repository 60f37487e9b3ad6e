use Rattle.std.proofs.Common.{sym, ◌-◌, ◌<◌, Some, refl, arith, ◌∙◌}
use Rattle.frame_groups.specs.Grouping.{one_packet}
use Rattle.std.proofs.lemmas.Bool.{true≢false}
use Rattle.frame_groups.specs.Waits.{most_number, greatest_step}
use Rattle.frame_groups.specs.Sequenced.{past_of}
use Rattle.frame_groups.proofs.SequenceLemmas.{started, closed_above, has_group, other_key}
use Rattle.frame_groups.proofs.sequence.Sequence.begin.Goals as goal

pub returns-clause-follows : goal.returns-clause-follows
returns-clause-follows g c = λ ps given other k.
    let e = c.frames.ensures.value in
    let some : 0 < (g.G.OpenGroup.rules c.args.self.now.group).frames = omega (arith, e, c.frames.ensures.some) in
    let h = has_group k.group c.args.key (c.key-key.ensures.is k.past k.group k.holds ∙ c.requires.key) in
    record {
      past = past_of k.past k.group c.args.self.now.progress.number;
      group = Some (one_packet c.key_behind-next_key.result c.args.packet.now);
      holds = c.begin.ensures.group k.past k.group k.holds
          (λ n is. closed_above _ k.past k.group c.args.self.now.progress.number c.args.self.now.progress.next
          c.args.self.now.progress.closing c.args.self.now.progress.fault ps given n c.requires.closing k.sequenced is);
      sequenced =
          started (g.G.OpenGroup.rules c.args.self.now.group) (g.G.OpenGroup.rules c.begin.new.self) k.past k.group
          (Some (one_packet c.key_behind-next_key.result c.args.packet.now)) h.group
          c.args.self.now.progress.number c.number_behind-number.result c.args.self.now.progress.next
          c.args.self.now.progress.closing c.args.self.now.progress.fault ps given c.args.packet.now c.args.key
          c.key_behind-next_key.result
          h.is c.requires.closing c.requires.idle c.requires.counted
          (other_key h.group c.args.key c.args.packet.now h.key_is other) some c.requires.fits.superframe h.key_is
          c.key_behind-next_key.ensures refl c.begin.ensures.rules
          c.number_behind-number.ensures.none (rw (← e) c.number_behind-number.ensures.some) k.sequenced;
    }

pub invariant_of-self : goal.invariant_of-self
invariant_of-self g c = record {
  near = c.number_behind-number.ensures.near (most_number - greatest_step) c.requires.near;
  intact = λ _. c.begin.ensures.intact;
  frame = λ shut. absurd (true≢false (sym shut));
}
