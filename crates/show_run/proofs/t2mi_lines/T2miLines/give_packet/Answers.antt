use Rattle.std.proofs.Common.{refl, ap, ◌∙◌}
use Rattle.std.specs.Prelude.{codes}
use Rattle.show_run.specs.SaidLines.{view_line}
use Rattle.show_run.proofs.T2miGivenLemmas.{gave_packet}
use Rattle.show_run.proofs.t2mi_lines.T2miLines.give_packet.Goals as goal

pub returns-clause-becomes : goal.returns-clause-becomes
returns-clause-becomes c =
    λ start events came. gave_packet c.events_law.ensures c.events_push_law.ensures c.packet_places_law.ensures
    c.few_packets_law.ensures
    start c.args.self.now _ events c.place.result _ c.bytes.result.now _ c.requires.unpipes refl refl
    c.args.self.now.small refl
    refl refl c.saturating_add-self.ensures refl c.saturating_add-place.ensures
    (c.give_line.ensures.bytes ∙ c.packet_line-line.ensures
    ∙ ap (view_line (codes "place=") c.saturating_add-place.result) c.view_known.ensures) c.place.ensures
    c.bytes.ensures.bytes
    c.release.ensures.stands came
