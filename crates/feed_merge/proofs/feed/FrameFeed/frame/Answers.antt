use Rattle.std.proofs.Common.{◌∙◌, sym, subst}
use Rattle.open_group.specs.Shown.{Shows}
use Rattle.feed_merge.specs.Frames.{dynamic_of, lists_of}
use Rattle.feed_merge.specs.FeedStandsFor.{config_of}
use Rattle.feed_merge.proofs.CameLemmas.{came, whole_came, room_came, shows_held}
use Rattle.feed_merge.proofs.FeedLemmas.{shown, told}
use Rattle.feed_merge.proofs.feed.FrameFeed.frame.Goals as goal

pub returns-clause-shows : goal.returns-clause-shows
returns-clause-shows c = λ bytes ended given s x later all g content.
    let f = c.args.self.now in
    let t = told f c.waiting-waiting.result (c.waiting-waiting.ensures.is ∙ sym f.waits)
    (c.waiting-waiting.ensures.some, c.waiting-waiting.ensures.none) in
    let h = shown f bytes ended given x later g c.requires.whole t s all content in
    shows_held f c.dynamic.result c.blocks-2.result.now.lists h.past g c.requires.whole c.dynamic.ensures.held
    c.blocks-2.ensures.held c.blocks-2.ensures.plps c.dynamic.ensures.value c.blocks-2.ensures.blocks h.holds

pub returns-clause-came : goal.returns-clause-came
returns-clause-came c = λ bytes ended given s w is gs are.
    let f = c.args.self.now in
    let x = came c.accepted_front_law.ensures f bytes ended given w gs
    (λ off. c.is_ready-ready.ensures.none (c.is_ready-ready.ensures.is ∙ off)) s is are in
    subst (λ ps. Shows (config_of f) ps (dynamic_of f) (lists_of f))
    (sym (whole_came f w gs c.requires.whole is x))
    (shows_held f c.dynamic.result c.blocks-2.result.now.lists x.past x.group c.requires.whole c.dynamic.ensures.held
    c.blocks-2.ensures.held c.blocks-2.ensures.plps c.dynamic.ensures.value c.blocks-2.ensures.blocks x.holds)

pub returns-clause-room : goal.returns-clause-room
returns-clause-room c = λ bytes ended given s w is gs are.
    let f = c.args.self.now in
    room_came f w gs c.requires.whole is (came c.accepted_front_law.ensures f bytes ended given w gs
    (λ off. c.is_ready-ready.ensures.none (c.is_ready-ready.ensures.is ∙ off)) s is are)
