use Rattle.std.proofs.Common.{◌≡◌, ◌∙◌, ℕ, Bool, false, List, [], Option, Some, None, ap, sym, subst}
use Rattle.std.proofs.lemmas.Option.{same_Some}
use Rattle.terms.proofs.OptionLemmas.{none_some}
use Rattle.t2mi_packet.specs.declared.packet.Packet.{Packet}
use Rattle.frame_groups.specs.Groups.{Group}
use Rattle.frame_groups.specs.Modulated.{Numbered, Rules, FrameRecord}
use Rattle.frame_groups.specs.Sequenced.{Sequenced}
use Rattle.frame_groups.specs.declared.waiting.Progress.{Progress}
use Rattle.frame_groups.proofs.SequenceLemmas.{closed_joined, closed_first, has_key}
use Rattle.frame_groups.proofs.sequence.close_group.Goals as goal

under_way : (r : Rules) (past : List Numbered) (g : Option Group) (p : Progress) (ps : List Packet)
    (given : List FrameRecord)
    → p.number ≡ None
    → p.closing ≡ false
    → Sequenced r past g p.number p.next p.closing p.fault ps given
    → Sequenced r past g None p.next false p.fault ps given
under_way r past g p ps given none shut s =
    subst (λ (t : Bool). Sequenced r past g None p.next t p.fault ps given) shut
    (subst (λ (o : Option ℕ). Sequenced r past g o p.next p.closing p.fault ps given) none s)

first_held : (Holds : List Numbered → Option Group → Type 0) (past : List Numbered) (g : Option Group) (h : Group)
    → past ≡ []
    → g ≡ Some h → Holds past g → Holds [] (Some h)
first_held Holds past g h none is held = subst (Holds []) is (subst (λ (o : List Numbered). Holds o g) none held)

pub returns-in-Some-join_number-clause-follows : goal.returns-in-Some-join_number-clause-follows
returns-in-Some-join_number-clause-follows g c = λ ps given k. record {
  past = k.past;
  group = k.group;
  holds = k.holds;
  sequenced =
      closed_first (g.G.OpenGroup.rules c.args.group.now) k.past k.group (Some c.in-Some-join_number.first)
      c.args.progress.next
      c.in-Some-join_number.first c.args.progress.fault None ps given
      (has_key k.group _ (c.key-key.ensures.is k.past k.group k.holds) c.requires.some)
      (λ h e none. c.in-Some-join_number.ensures.value h
      (first_held (g.G.OpenGroup.holds c.args.group.now) k.past k.group h none e
      k.holds))
      (λ h e none n same. (
        same_Some c.in-Some-join_number.first n same,
        sym (ap (λ o. (g.G.OpenGroup.rules c.args.group.now).fault o h n) none
            ∙ c.in-Some-join_number.ensures.passes h (first_held (g.G.OpenGroup.holds c.args.group.now)
            k.past k.group h none e
            k.holds) n same),
      ))
      (under_way (g.G.OpenGroup.rules c.args.group.now) k.past k.group c.args.progress ps given c.in-None.is
      c.requires.open
      k.sequenced);
}

pub returns-in-None-join_number-clause-follows : goal.returns-in-None-join_number-clause-follows
returns-in-None-join_number-clause-follows g c = λ ps given k. record {
  past = k.past;
  group = k.group;
  holds = k.holds;
  sequenced =
      closed_first (g.G.OpenGroup.rules c.args.group.now) k.past k.group None c.args.progress.next c.args.progress.next
      c.args.progress.fault None ps given
      (has_key k.group _ (c.key-key.ensures.is k.past k.group k.holds) c.requires.some)
      (λ h e none. sym c.in-None-join_number.is
      ∙ c.join_number.ensures.value h (first_held (g.G.OpenGroup.holds c.args.group.now) k.past k.group
      h none e k.holds))
      (λ h e none n same. none_some n same)
      (under_way (g.G.OpenGroup.rules c.args.group.now) k.past k.group c.args.progress ps given c.in-None.is
      c.requires.open
      k.sequenced);
}

joined : (r : Rules) (past : List Numbered) (g : Option Group) (p : Progress) (n : ℕ) (ps : List Packet)
    (given : List FrameRecord) → p.number ≡ Some n → p.closing ≡ false
    → Sequenced r past g p.number p.next p.closing p.fault ps given
    → Sequenced r past g (Some n) p.next false p.fault ps given
joined r past g p n ps given is shut s =
    subst (λ (t : Bool). Sequenced r past g (Some n) p.next t p.fault ps given) shut
    (subst (λ (o : Option ℕ). Sequenced r past g o p.next p.closing p.fault ps given) is s)

pub returns-in-Some-clause-follows : goal.returns-in-Some-clause-follows
returns-in-Some-clause-follows g c = λ ps given k. record {
  past = k.past;
  group = k.group;
  holds = k.holds;
  sequenced =
      closed_joined (g.G.OpenGroup.rules c.args.group.now) k.past k.group c.in-Some.number c.args.progress.next
      c.args.progress.fault c.fault.result ps given
      (has_key k.group _ (c.key-key.ensures.is k.past k.group k.holds) c.requires.some)
      (λ h e above. c.fault.ensures.value k.past h (subst (g.G.OpenGroup.holds c.args.group.now k.past) e k.holds)
      above)
      (joined (g.G.OpenGroup.rules c.args.group.now) k.past k.group c.args.progress c.in-Some.number
      ps given c.in-Some.is
      c.requires.open k.sequenced);
}
