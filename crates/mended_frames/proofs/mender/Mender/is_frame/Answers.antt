use Rattle.std.proofs.Common.{◌∙◌, Option, Some, [], ap, sym, subst}
use Rattle.std.specs.Prelude.{is_some}
use Rattle.plp_config.specs.declared.config.Config.{Config}
use Rattle.frame_groups.specs.declared.cause.MuteCause.{MuteCause}
use Rattle.frame_groups.specs.Tests.{group_fault}
use Rattle.open_group.specs.Holds.{Holds}
use Rattle.open_group.specs.HoldsPast.{HoldsPast}
use Rattle.open_group.specs.declared.group.PooledGroup.{PooledGroup}
use Rattle.mended_frames.proofs.MakeLemmas.{none_told}
use Rattle.mended_frames.proofs.mender.Mender.is_frame.Goals as goal

pub returns-clause-value : goal.returns-clause-value
returns-clause-value c = λ past g holds held above.
    let network = c.group.ensures.network ∙ c.args.self.now.same in
    let group = subst (λ (p : PooledGroup). Holds p [] (Some g)) (sym c.group.ensures.value) holds in
    let behind = subst (λ (k : Config). HoldsPast k c.args.self.now.past past) (sym network) held in
    let fault = c.fault_behind.ensures.value [] past g group behind above
    ∙ ap (λ (k : Config). group_fault k past g c.args.number) network in
    none_told c.is_none.result (group_fault c.args.self.now.plan.now past g c.args.number)
    (sym c.is_none.ensures ∙ ap (λ (o : Option MuteCause). is_some o) fault)
