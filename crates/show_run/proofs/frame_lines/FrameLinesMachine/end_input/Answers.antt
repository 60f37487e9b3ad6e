use Rattle.std.proofs.Common.{◌≡◌, rules, refl, ap, ◌∙◌}
use Rattle.show_run.specs.SaidLines.{records_line}
use Rattle.site_frame.specs.FeedStandsFor.{coming_of}
use Rattle.site_frame.specs.declared.coming.Coming.TheVariants.{Finished}
use Rattle.show_run.proofs.FrameLinesLemmas.{ended}
use Rattle.show_run.proofs.frame_lines.FrameLinesMachine.end_input.Goals as goal

pub returns-then-eq-clause-becomes : goal.returns-then-eq-clause-becomes
returns-then-eq-clause-becomes c = λ start events came.
    let over : coming_of c.finish.new.self ≡ Finished = search rules in
    ended c.events_law.ensures start c.args.self.now _ events c.args._input c.args._bytes.now c.requires.wanted
    c.finish.ensures.over c.finish.ensures.whole (λ done. c.records_line-self.ensures.text
    ∙ ap records_line c.count.ensures)
    (λ other. absurd (other over)) c.finish.ensures.stands came

pub returns-else-eq-clause-becomes : goal.returns-else-eq-clause-becomes
returns-else-eq-clause-becomes c = λ start events came.
    let other : coming_of c.finish.new.self ≡ Finished → ⊥ = search rules in
    ended c.events_law.ensures start c.args.self.now _ events c.args._input c.args._bytes.now c.requires.wanted
    c.finish.ensures.over c.finish.ensures.whole (λ done. absurd (other done)) (λ e. refl) c.finish.ensures.stands came
