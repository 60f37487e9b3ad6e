use Rattle.std.proofs.Common.{◌≡◌, ◌+◌, ◌++◌, ◌∙◌, ◌-◌, ◌≤◌, ℕ, length, length-drop, List, ap, sym, subst, take, drop}
use Rattle.std.proofs.Common.{false, ap₂, arith, rules, append_assoc}
use Rattle.std.proofs.Math.Seq.{take-add}
use Rattle.std.proofs.lemmas.List.{take_all, length-take, length-take-le}
use Rattle.frame_groups.specs.Modulated.{Rules}
use Rattle.feed_events.specs.FeedEvents.{feed_events}
use Rattle.feed_events.specs.StandsFor.{EventFeedStandsFor, head_of}
use Rattle.feed_events.specs.declared.course.Head.TheVariants as head
use Rattle.frame_weave.specs.contracts.group.MarkedGroupOpenGroup.TheImpl as marked
use Rattle.mend_run.proofs.FeedLemmas.{part_none}
use Rattle.mend_run.proofs.row.take_units.Goals as goal

pub loop-count-preserved : goal.loop-count-preserved
loop-count-preserved c =
    let i = c.loop-count.invariant in
    let s = c.feed.ensures in
    let bytes = c.args.bytes.now in
    let count = c.loop-count.count in
    let left = length-drop count bytes in
    let unit : c.first_unit.result.now ≡ take 188 (drop count bytes) =
    c.first_unit.ensures ∙ ap (take 188) (take_all (length bytes - count) (drop count bytes) (omega (arith, left))) in
    let size = length-take-le 188 (drop count bytes) (search rules) in
    let unit_size : length c.first_unit.result.now ≡ 188 = ap length unit ∙ size in
    let unknown : head_of c.loop-count.feed ≡ head.Unknown = search rules in
    let some = s.some unknown (omega (arith, unit_size)) in
    let within = s.inside in
    let whole : take c.feed.result c.first_unit.result.now ≡ take 188 (drop count bytes) =
    take_all c.feed.result c.first_unit.result.now (omega (arith, some, unit_size)) ∙ unit in
    record {
      stands = λ came gone h.
          subst (λ (l : List ℕ). EventFeedStandsFor marked.ghosts c.feed.new.self l gone)
          (append_assoc came (take count bytes) (take c.feed.result c.first_unit.result.now)
          ∙ ap (λ (l : List ℕ). came ++ (take count bytes ++ l)) whole
          ∙ ap (λ (l : List ℕ). came ++ l) (sym (take-add count 188 bytes)))
          (s.stands (came ++ take count bytes) gone (i.stands came gone h));
      last = λ _ came gone h.
          let fed = came ++ take count bytes in
          let stands = i.stands came gone h in
          ap₂ (λ (r : Rules) (l : List ℕ). feed_events r false l) (sym i.rules)
          (ap (λ (n : ℕ). came ++ take n bytes) (let e : count + 188 - 1 ≡ count + 187 = omega arith in e)
          ∙ ap (λ (l : List ℕ). came ++ l) (take-add count 187 bytes)
          ∙ sym (append_assoc came (take count bytes) (take 187 (drop count bytes))))
          ∙ part_none c.loop-count.feed unknown fed (take 187 (drop count bytes)) gone stands
          (c.head.ensures.unknown (c.head.ensures.head ∙ unknown) fed gone stands)
          (let e = length-take 187 (drop count bytes) in omega (arith, e));
      inside = search rules;
      first = λ e. absurd (omega (arith, e));
      whole = λ _. omega arith;
      fed = let a = i.fed.0 in let b = i.fed.1 in let x = s.fed.0 in let y = s.fed.1 in
          (omega (arith, a, x), omega (arith, b, y, within, unit_size));
      rules = s.rules ∙ i.rules;
      ended = s.ended ∙ i.ended;
    }

pub returns-else-eq-clause-last : goal.returns-else-eq-clause-last
returns-else-eq-clause-last c =
    let some : 188 ≤ c.loop-count.count = search rules in
    c.loop-count.invariant.last (omega (arith, some))

pub returns-after-loop-count-clause-last : goal.returns-after-loop-count-clause-last
returns-after-loop-count-clause-last c =
    let some : 188 ≤ c.loop-count.count = search rules in
    c.loop-count.invariant.last (omega (arith, some))
