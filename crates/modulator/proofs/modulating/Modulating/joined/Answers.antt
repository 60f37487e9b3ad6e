use Rattle.std.proofs.Common.{◌∙◌, sym}
use Rattle.modulator.proofs.JoinLemmas.{joined_some, joined_none}
use Rattle.modulator.proofs.modulating.Modulating.joined.Goals as goal

pub returns-clause-yes : goal.returns-clause-yes
returns-clause-yes c = λ yes bytes given h.
    joined_some c.due_law.ensures c.front_law.ensures c.args.self.now bytes given
    (λ off. c.is_ready-ready.ensures.none (c.is_ready-ready.ensures.is ∙ off)) c.requires.settled h
    (sym c.is_some.ensures ∙ yes)

pub returns-clause-no : goal.returns-clause-no
returns-clause-no c = λ no bytes given h.
    joined_none c.due_law.ensures c.front_law.ensures c.args.self.now bytes given
    (λ off. c.is_ready-ready.ensures.none (c.is_ready-ready.ensures.is ∙ off)) c.requires.settled h
    (sym c.is_some.ensures ∙ no)
