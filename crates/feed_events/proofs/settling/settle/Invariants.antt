use Rattle.std.proofs.Common.{◌≡◌, ◌≢◌, ◌≤◌, Bool, List, ℕ}
use Rattle.feed_events.specs.declared.course.Head.TheVariants as head
use Rattle.t2mi_stream.specs.UnpiperStandsFor.{fed_len, steps_left}
use Rattle.feed_events.specs.FeedEvents.{FeedEvent}
use Rattle.feed_events.specs.StandsFor.{EventsStandFor, events_left}
use Rattle.feed_events.proofs.settling.settle.Given as goal

abbrev pub invariant-loop-unpiper : goal.invariant-loop-unpiper
invariant-loop-unpiper g l = record {
  stands : (idle finished : Bool) (bytes : List ℕ) (gone : List FeedEvent)
      → EventsStandFor (g.G.OpenGroup.holds l.initial.frames.group) (g.G.OpenGroup.rules l.initial.frames.group)
      l.initial.unpiper l.initial.frames.course idle finished bytes gone
      → EventsStandFor (g.G.OpenGroup.holds l.frames.group) (g.G.OpenGroup.rules l.initial.frames.group)
      l.unpiper l.frames.course idle finished bytes gone;
  rules : g.G.OpenGroup.rules l.frames.group ≡ g.G.OpenGroup.rules l.initial.frames.group;
  left : (idle : Bool) → events_left l.unpiper l.frames.course idle ≤ events_left l.initial.unpiper
      l.initial.frames.course idle;
  fed : fed_len l.unpiper ≡ fed_len l.initial.unpiper;
  over : l.initial.frames.course.head ≢ head.Over → l.frames.course.head ≢ head.Over;
}

abbrev pub decreases-loop-unpiper : goal.decreases-loop-unpiper
decreases-loop-unpiper g l = steps_left l.unpiper
