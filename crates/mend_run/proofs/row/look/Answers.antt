use Rattle.std.proofs.Common.{◌∙◌, subst}
use Rattle.feed_events.specs.FeedEvents.{feed_events}
use Rattle.feed_events.specs.StandsFor.{IsNext}
use Rattle.feed_events.specs.declared.course.Head.{Head}
use Rattle.mend_run.specs.Row.{rules_of}
use Rattle.mend_run.proofs.row.look.Goals as goal

pub returns : goal.returns
returns c = record {
  next = λ bytes gone h ended all later can.
      subst (λ (d : Head). IsNext d h.group ended gone (feed_events (rules_of c.args.feed.now) ended all))
      c.head.ensures.head
      (c.head.ensures.next bytes gone h ended all later can);
  unknown = λ e bytes gone h. c.head.ensures.unknown (c.head.ensures.head ∙ e) bytes gone h;
}
