use Rattle.std.proofs.Common.{inl, inr, ◌∙◌}
use Rattle.show_run.proofs.FrameLinesLemmas.{line_numbered}
use Rattle.show_run.proofs.frame_lines.FrameLines.see.Goals as goal

pub returns-in-Ok-clause-sees : goal.returns-in-Ok-clause-sees
returns-in-Ok-clause-sees c = λ views came ended s.
    let l = c.in-Ok.ensures.ok in
    inl (record {
      view = l.view;
      stands = c.accept.ensures.stands views came ended l.view l.len s l.begins;
      coming = c.accept.ensures.coming;
      line = l.text ∙ line_numbered _ _ l.view s.number;
    })

pub returns-in-Err-clause-sees : goal.returns-in-Err-clause-sees
returns-in-Err-clause-sees c = λ views came ended s.
    inr (record {
      why = c.in-Err.why;
      stands = c.refuse.ensures.stands views came ended s;
      coming = c.refuse.ensures.coming;
      line = c.requires.idle;
    })
