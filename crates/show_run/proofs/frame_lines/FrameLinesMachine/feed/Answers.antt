use Rattle.std.proofs.Common.{◌≡◌, rules, refl, take}
use Rattle.site_frame.specs.FeedStandsFor.{coming_of}
use Rattle.site_frame.specs.declared.coming.Coming.TheVariants.{Whole}
use Rattle.show_run.proofs.FrameLinesLemmas.{fed_some, fed_whole}
use Rattle.show_run.proofs.frame_lines.FrameLinesMachine.feed.Goals as goal

pub returns-then-is_whole-clause-becomes : goal.returns-then-is_whole-clause-becomes
returns-then-is_whole-clause-becomes c = λ start events came.
    fed_whole c.events_law.ensures start c.args.self.now c.see.new.self c.feed-count.new.self events c.args._input _
    (take c.feed-count.result c.args.bytes.now) c.requires.wanted
    c.feed-count.ensures.stands c.see.ensures.sees came

pub returns-else-is_whole-clause-becomes : goal.returns-else-is_whole-clause-becomes
returns-else-is_whole-clause-becomes c = λ start events came.
    let seen : coming_of c.feed-count.new.self ≡ Whole → ⊥ = search rules in
    fed_some c.events_law.ensures start c.args.self.now _ events c.args._input _
    (take c.feed-count.result c.args.bytes.now)
    c.requires.wanted refl c.feed-count.ensures.unfinished seen
    c.feed-count.ensures.stands came
