use Rattle.std.proofs.Common.{[]}
use Rattle.mended_frames.specs.StandsFor.{AreOf}
use Rattle.mend_run.specs.Row.{HaveCome}
use Rattle.mend_run.proofs.row.open_feeds.Given as goal

abbrev pub invariant-loop : goal.invariant-loop
invariant-loop l = record {
  come : HaveCome l.plan l.counter l.feeds.items [] (λ i. []);
  of : AreOf l.plan l.feeds.items;
}
