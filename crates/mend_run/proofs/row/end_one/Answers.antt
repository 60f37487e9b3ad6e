use Rattle.std.proofs.Common.{◌≡◌, ◌-◌, ◌++◌, ℕ, List, Some, true, false, length, take, drop, ap, sym, ◌∙◌, arith}
use Rattle.std.proofs.Common.{append_assoc, length-drop}
use Rattle.std.specs.Prelude.{slice_get, slice_index_or}
use Rattle.std.proofs.lemmas.List.{length-take, take-append-drop}
use Rattle.std.proofs.lemmas.Option.{slice_get-get_or, slice_get_within}
use Rattle.plp_config.specs.declared.config.Config.{Config}
use Rattle.frame_groups.specs.Modulated.{Rules}
use Rattle.frame_groups.specs.Tests.{rules}
use Rattle.feed_events.specs.FeedEvents.{feed_events}
use Rattle.feed_events.specs.StandsFor.{has_ended}
use Rattle.mended_frames.specs.StandsFor.{Feed}
use Rattle.file_run.specs.Events.{fed}
use Rattle.file_run.specs.Events as events
use Rattle.mend_run.proofs.FeedLemmas.{goes_back, has_now, part_none}
use Rattle.mend_run.proofs.RowLemmas.{go_on, fed_set, of_set, known_at}
use Rattle.mend_run.proofs.row.end_one.Goals as goal

pub returns-clause-goes : goal.returns-clause-goes
returns-clause-goes c = λ k count done gone come.
    let feeds = c.args.feeds.now in
    let input = c.args.input in
    let f : Feed = slice_index_or feeds c.args.input c.index-feeds-input.result in
    let g : Feed = c.finish.new.self in
    let is : slice_get feeds input ≡ Some f = slice_get-get_or feeds input c.index-feeds-input.result
    c.requires.inside in
    let t = c.events_law.ensures.ended input c.args.tail.now done in
    let going : has_ended f ≡ false = (f.settled (sym (known_at feeds input f is) ∙ c.requires.unknown)).2 in
    go_on k count feeds input f g done _ gone is (λ i apart. (t.others i apart, t.others_ended i apart))
    (λ h. has_now k f g (fed input done) _ (events.has_ended input done) _ (gone input) h c.finish.ensures.rules
    (λ s. rw t.here
    (c.finish.ensures.stands (fed input done) (gone input) s)) (c.finish.ensures.ended ∙ sym t.ended) c.look.ensures)
    (goes_back k f g (fed input done) c.args.tail.now _ (gone input) t.here going true c.finish.ensures.ended)
    (λ h.
    let tail = c.args.tail.now in
    let n = length tail - 1 in
    let l = slice_get_within feeds input f is in
    let count_is = h.count in
    let has = h.each input f is in
    let unknown = sym (known_at feeds input f is) ∙ c.requires.unknown in
    let short = c.requires.short in
    record {
      input = input;
      inside = omega (arith, l, count_is);
      going = sym has.end ∙ going;
      part = take n tail;
      last = drop n tail;
      parts = t.here
          ∙ ap (λ (m : List ℕ). fed input done ++ m) (sym (take-append-drop n tail))
          ∙ sym (append_assoc (fed input done) (take n tail) (drop n tail));
      few = (let e = length-drop n tail in omega (arith, e));
      none = ap (λ (x : Config). feed_events (rules x) false (fed input done ++ take n tail)) (sym has.network)
          ∙ part_none f unknown (fed input done) (take n tail) (gone input) has.stands
          (has.shows.unknown unknown (fed input done) (gone input) has.stands)
          (let e = length-take n tail in omega (arith, e, short));
    }) come

pub returns-clause-fed : goal.returns-clause-fed
returns-clause-fed c =
    let feeds = c.args.feeds.now in
    let f : Feed = slice_index_or feeds c.args.input c.index-feeds-input.result in
    fed_set feeds c.args.input f c.finish.new.self (slice_get-get_or feeds c.args.input c.index-feeds-input.result
    c.requires.inside)
    (let e = c.finish.ensures.fed in omega (arith, e))

pub returns-clause-of : goal.returns-clause-of
returns-clause-of c =
    let feeds = c.args.feeds.now in
    let f : Feed = slice_index_or feeds c.args.input c.index-feeds-input.result in
    of_set feeds c.args.input f c.finish.new.self (slice_get-get_or feeds c.args.input c.index-feeds-input.result
    c.requires.inside)
    (ap (λ (r : Rules). r.network) c.finish.ensures.rules)
