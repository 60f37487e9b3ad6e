use Rattle.std.proofs.Common.{◌≡◌, ◌++◌, Option, true, false, ap, refl, sym, subst, ◌∙◌, length, arith}
use Rattle.std.specs.Option.{option_map_or}
use Rattle.plp_config.specs.declared.config.Config.{Config}
use Rattle.frame_groups.specs.Carried.{L1Parts}
use Rattle.frame_groups.specs.Tests.{parts_agree}
use Rattle.open_group.specs.Parts.{parts_of}
use Rattle.frame_weave.specs.Made.{HoldsMade}
use Rattle.frame_weave.specs.Woven.{l1_bodies}
use Rattle.frame_weave.proofs.SignalLemmas.{fitting}
use Rattle.frame_weave.proofs.weaver.push_front.Goals as goal

pub returns-clause-holds : goal.returns-clause-holds
returns-clause-holds c = λ past h bodies held signal made.
    let network = c.args.made.now.plan.now in
    let l1 : L1Parts = parts_of c.in-Some.parts.now in
    let is = c.in-Some.ensures past h c.requires.intact held in
    let plps : c.len-plps.result ≡ length network.plps = c.len-plps.ensures
    ∙ ap (λ (k : Config). length k.plps) (c.config.ensures.value ∙ sym c.requires.same) in
    let agrees : parts_agree network c.args.number l1 ≡ true =
    subst (λ (o : Option L1Parts). option_map_or (parts_agree network c.args.number) o false ≡ true) (sym is) signal in
    subst (λ (o : Option L1Parts). HoldsMade network c.args.number c.push_l1.new.self
    (bodies ++ l1_bodies network c.args.number o)) is
    (c.push_l1.ensures.holds bodies l1 refl
    (fitting c.parts_law.ensures.whole c.pre_law.ensures.len c.conf_law.ensures.len c.dyn_law.ensures.len
    network c.args.number l1
    (omega (arith, plps, c.conf_len-conf.ensures.value, c.conf_len-conf.ensures.most))
    (omega (arith, plps, c.dyn_len-dynamic.ensures.value, c.dyn_len-dynamic.ensures.most)) agrees) made)
