use Rattle.std.proofs.Common.{◌∙◌}
use Rattle.modulator.proofs.StandsLemmas.{fed_more, fed_idle}
use Rattle.modulator.proofs.modulating.Modulating.feed_some.Goals as goal

pub returns-clause-stands : goal.returns-clause-stands
returns-clause-stands c = λ bytes given h. c.settle.ensures.stands _ given
    (fed_more c.accepted_front_law.ensures c.events_push_law.ensures c.args.self.now c.feed-count.new.self bytes _ given
    (c.is_ready-ready.ensures.none (c.is_ready-ready.ensures.is ∙ c.requires.idle)) c.requires.«open»
    c.feed-count.ensures.stands h)

pub returns-clause-first : goal.returns-clause-first
returns-clause-first c = λ w k l bytes given h.
    fed_idle c.due_law.ensures c.accepted_front_law.ensures c.events_push_law.ensures c.args.self.now bytes _ given
    (c.is_ready-ready.ensures.none (c.is_ready-ready.ensures.is ∙ c.requires.idle)) c.requires.«open»
    (λ pid events u. c.feed-count.ensures.first pid events u k l) w h
