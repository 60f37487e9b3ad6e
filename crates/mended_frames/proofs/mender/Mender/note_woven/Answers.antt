use Rattle.std.proofs.Common.{◌∙◌, ◌∷◌, [], Some, sym, subst}
use Rattle.plp_config.specs.declared.config.Config.{Config}
use Rattle.open_group.specs.Holds.{Holds}
use Rattle.open_group.specs.HoldsPast.{HoldsPast}
use Rattle.open_group.specs.declared.group.PooledGroup.{PooledGroup}
use Rattle.mended_frames.proofs.mender.Mender.note_woven.Goals as goal

pub returns-clause-stands : goal.returns-clause-stands
returns-clause-stands c = λ past g m holds above.
    let network = c.group.ensures.network ∙ c.args.self.now.same in
    let group = subst (λ (p : PooledGroup). Holds p [] (Some g)) (sym c.group.ensures.value) holds in
    let behind = subst (λ (k : Config). HoldsPast k c.args.self.now.past past) (sym network) m.holds in
    let noted = c.note_in.ensures.holds [] past g group behind above in
    record {
      holds = subst
          (λ (k : Config). HoldsPast k c.note_in.new.past (record { number = c.args.number; group = g } ∷ past))
          network noted;
      own = m.own;
    }
