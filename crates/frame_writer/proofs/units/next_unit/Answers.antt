use Rattle.std.proofs.Common.{sym, ◌∙◌}
use Rattle.frame_writer.proofs.FlowLemmas.{dry_when}
use Rattle.frame_writer.proofs.UnitsLemmas.{gives_one}
use Rattle.frame_writer.proofs.units.next_unit.Goals as goal

pub returns-clause-some : goal.returns-clause-some
returns-clause-some g c = λ on.
    let n = c.next.ensures in
    gives_one c.args.plan.now c.args.flow.now c.next.new.self _ _ _ _ c.next.new.out n.number (n.unit on) (n.flows on)
    (n.complete on) n.finished (n.less on)

pub returns-clause-none : goal.returns-clause-none
returns-clause-none g c = λ off.
    let n = c.next.ensures in
    let s = n.stays off in
    let dry = dry_when c.args.flow.now.dry _ _ c.args.flow.now.full (sym off ∙ n.is) in
    rw (s.0, s.1) (record {
      idle = sym n.is ∙ off;
      spent = c.requires.over dry;
      all = n.caught_up off;
    })
