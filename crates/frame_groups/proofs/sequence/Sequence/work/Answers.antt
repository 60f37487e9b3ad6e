use Rattle.std.proofs.Common.{◌≡◌, ◌<◌, true, false, Some, None, arith, ap, sym, subst, ◌∙◌, rules}
use Rattle.std.proofs.lemmas.Option.{same_Some}
use Rattle.terms.proofs.OptionLemmas.{none_some}
use Rattle.frame_groups.specs.Groups.{is_counted, is_same, key_behind, Group}
use Rattle.frame_groups.specs.Grouping.{one_packet, one_more}
use Rattle.frame_groups.specs.Sequenced.{past_of}
use Rattle.frame_groups.proofs.SequenceLemmas.{begun, added_on, has_group}
use Rattle.frame_groups.proofs.sequence.Sequence.work.Goals as goal

pub returns-in_default-clause-worked : goal.returns-in_default-clause-worked
returns-in_default-clause-worked g c = λ _ ps given k ends.
    let e = c.frames.ensures.value in
    let some : 0 < (g.G.OpenGroup.rules c.args.self.now.group).frames = omega (arith, e, c.frames.ensures.some) in
    let kept : is_counted (g.G.OpenGroup.rules c.args.self.now.group).frames c.args.packet.now ≡ true = search rules in
    let no : g.G.OpenGroup.key_now c.args.self.now.group ≡ None = search rules in
    record {
      past = past_of k.past k.group None;
      group = Some (one_packet c.key_behind.result c.args.packet.now);
      holds = c.begin.ensures.group k.past k.group k.holds (λ n is. none_some n is);
      sequenced =
          begun (g.G.OpenGroup.rules c.args.self.now.group) (g.G.OpenGroup.rules c.begin.new.self) k.past k.group
          (Some (one_packet c.key_behind.result c.args.packet.now))
          c.args.self.now.progress.number c.args.self.now.progress.next c.args.self.now.progress.closing
          c.args.self.now.progress.fault ps given c.args.packet.now (c.key.ensures.is k.past k.group k.holds
          ∙ no) kept some
          c.requires.fits.superframe
          (ap (λ key. Some (one_packet key c.args.packet.now)) c.key_behind.ensures) c.begin.ensures.rules k.sequenced;
    }

pub returns-then-goes_on-clause-worked : goal.returns-then-goes_on-clause-worked
returns-then-goes_on-clause-worked g c = λ _ ps given k ends.
    let kept : is_counted (g.G.OpenGroup.rules c.args.self.now.group).frames c.args.packet.now ≡ true = search rules in
    let key : g.G.OpenGroup.key_now c.args.self.now.group ≡ Some c.in-Some.key = search rules in
    let same : is_same c.in-Some.key (key_behind (Some c.in-Some.key) c.args.packet.now) ≡ true = search rules in
    let shut : c.args.self.now.progress.closing ≡ false = search rules in
    let h = has_group k.group c.in-Some.key (c.key.ensures.is k.past k.group k.holds ∙ key) in
    record {
      past = k.past;
      group = Some (one_more h.group c.args.packet.now);
      holds = c.add.ensures.group k.past h.group (subst (g.G.OpenGroup.holds c.args.self.now.group k.past)
          h.is k.holds);
      sequenced =
          added_on (g.G.OpenGroup.rules c.args.self.now.group) (g.G.OpenGroup.rules c.add.new.self) k.past k.group
          (Some (one_more h.group c.args.packet.now))
          c.args.self.now.progress.number c.args.self.now.progress.next c.args.self.now.progress.closing
          c.args.self.now.progress.fault ps given c.args.packet.now c.in-Some.key
          (c.key.ensures.is k.past k.group k.holds
          ∙ key) kept same
          (λ o e. ap (λ (h : Group). Some (one_more h c.args.packet.now)) (same_Some h.group o (sym h.is ∙ e)))
          c.add.ensures.rules shut k.sequenced;
    }

pub returns-then-self-clause-near : goal.returns-then-self-clause-near
returns-then-self-clause-near g c = λ bound low h. c.begin-then-self.ensures.near bound h
