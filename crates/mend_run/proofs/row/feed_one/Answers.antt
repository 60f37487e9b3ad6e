use Rattle.std.proofs.Common.{◌≡◌, ◌+◌, ◌-◌, ◌++◌, ℕ, List, Some, false, take, drop, ap, sym, ◌∙◌, arith}
use Rattle.std.proofs.Common.{append_assoc}
use Rattle.std.specs.Prelude.{slice_get, slice_index_or}
use Rattle.std.proofs.Math.Seq.{take-add}
use Rattle.std.proofs.lemmas.List.{length-take}
use Rattle.std.proofs.lemmas.Option.{slice_get-get_or, slice_get_within}
use Rattle.plp_config.specs.declared.config.Config.{Config}
use Rattle.frame_groups.specs.Modulated.{Rules}
use Rattle.frame_groups.specs.Tests.{rules}
use Rattle.feed_events.specs.FeedEvents.{feed_events}
use Rattle.feed_events.specs.StandsFor.{has_ended}
use Rattle.mended_frames.specs.StandsFor.{Feed}
use Rattle.file_run.specs.Events.{fed}
use Rattle.file_run.specs.Events as events
use Rattle.mend_run.proofs.FeedLemmas.{goes_back, has_now}
use Rattle.mend_run.proofs.RowLemmas.{go_on, fed_set, of_set, known_at}
use Rattle.mend_run.proofs.row.feed_one.Goals as goal

pub returns-clause-goes : goal.returns-clause-goes
returns-clause-goes c = λ k count done gone come.
    let feeds = c.args.feeds.now in
    let input = c.args.input in
    let f : Feed = slice_index_or feeds c.args.input c.index-feeds-input.result in
    let g : Feed = c.take_units-count.new.feed in
    let took = c.take_units-count.ensures in
    let is : slice_get feeds input ≡ Some f = slice_get-get_or feeds input c.index-feeds-input.result
    c.requires.inside in
    let t = c.events_law.ensures.fed input (take c.take_units-count.result c.args.bytes.now) done in
    let going : has_ended f ≡ false = (f.settled (sym (known_at feeds input f is) ∙ c.requires.unknown)).2 in
    go_on k count feeds input f g done _ gone is (λ i apart. (t.others i apart, t.ended i))
    (λ h. has_now k f g (fed input done) _ (events.has_ended input done) _ (gone input) h took.rules
    (λ s. rw t.here
    (took.stands (fed input done) (gone input) s)) (took.ended ∙ h.end
    ∙ sym (t.ended input)) c.look.ensures)
    (goes_back k f g (fed input done) (take c.take_units-count.result c.args.bytes.now) _ (gone input) t.here going
    false
    (took.ended ∙ going))
    (λ h.
    let n = c.take_units-count.result in
    let bytes = c.args.bytes.now in
    let l = slice_get_within feeds input f is in
    let count_is = h.count in
    let has = h.each input f is in
    let some = took.some.0 in
    record {
      input = input;
      inside = omega (arith, l, count_is);
      going = sym has.end ∙ going;
      part = take (n - 1) bytes;
      last = take 1 (drop (n - 1) bytes);
      parts = t.here
          ∙ ap (λ (m : ℕ). fed input done ++ take m bytes) (let e : n ≡ n - 1 + 1 = omega (arith, some) in e)
          ∙ ap (λ (m : List ℕ). fed input done ++ m) (take-add (n - 1) 1 bytes)
          ∙ sym (append_assoc (fed input done) (take (n - 1) bytes) (take 1 (drop (n - 1) bytes)));
      few = (let e = length-take 1 (drop (n - 1) bytes) in omega (arith, e));
      none = ap (λ (x : Config). feed_events (rules x) false (fed input done ++ take (n - 1) bytes)) (sym has.network)
          ∙ took.last (fed input done) (gone input) has.stands;
    }) come

pub returns-clause-fed : goal.returns-clause-fed
returns-clause-fed c =
    let feeds = c.args.feeds.now in
    let f : Feed = slice_index_or feeds c.args.input c.index-feeds-input.result in
    fed_set feeds c.args.input f c.take_units-count.new.feed
    (slice_get-get_or feeds c.args.input c.index-feeds-input.result c.requires.inside)
    c.take_units-count.ensures.fed

pub returns-clause-of : goal.returns-clause-of
returns-clause-of c =
    let feeds = c.args.feeds.now in
    let f : Feed = slice_index_or feeds c.args.input c.index-feeds-input.result in
    of_set feeds c.args.input f c.take_units-count.new.feed
    (slice_get-get_or feeds c.args.input c.index-feeds-input.result c.requires.inside)
    (ap (λ (r : Rules). r.network) c.take_units-count.ensures.rules)
