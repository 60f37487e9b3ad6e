use Rattle.std.proofs.Common.{◌≡◌, ◌≤◌, ◌<◌, ◌+◌, ◌-◌, ◌++◌, ℕ, List, false, length, take}
use Rattle.feed_events.specs.FeedEvents.{FeedEvent, feed_events}
use Rattle.feed_events.specs.StandsFor.{EventFeedStandsFor, fed_of, has_ended}
use Rattle.frame_weave.specs.contracts.group.MarkedGroupOpenGroup.TheImpl as marked
use Rattle.mend_run.specs.Row.{rules_of}
use Rattle.mend_run.proofs.row.take_units.Given as goal

abbrev pub invariant-loop-count : goal.invariant-loop-count
invariant-loop-count l = record {
  stands : (came : List ℕ) (gone : List FeedEvent) → EventFeedStandsFor marked.ghosts l.initial.feed came gone
      → EventFeedStandsFor marked.ghosts l.feed (came ++ take l.count l.bytes) gone;
  last : 0 < l.count → (came : List ℕ) (gone : List FeedEvent)
      → EventFeedStandsFor marked.ghosts l.initial.feed came gone
      → feed_events (rules_of l.initial.feed) false (came ++ take (l.count - 1) l.bytes) ≡ gone;
  inside : l.count ≤ length l.bytes;
  first : l.count ≡ 0 → l.feed ≡ l.initial.feed;
  whole : 0 < l.count → 188 ≤ l.count;
  fed : (fed_of l.initial.feed ≤ fed_of l.feed) × (fed_of l.feed ≤ fed_of l.initial.feed + l.count);
  rules : rules_of l.feed ≡ rules_of l.initial.feed;
  ended : has_ended l.feed ≡ has_ended l.initial.feed;
}

abbrev pub decreases-loop-count : goal.decreases-loop-count
decreases-loop-count l = length l.bytes - l.count
