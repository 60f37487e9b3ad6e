use Rattle.std.proofs.Common.{◌≡◌, ◌++◌, ◌∙◌, ◌-◌, ℕ, length, length-drop, List, ap, sym, subst, take, drop, arith}
use Rattle.std.proofs.Common.{rules, append_assoc}
use Rattle.std.proofs.Math.Seq.{take-add}
use Rattle.std.proofs.lemmas.List.{take_all}
use Rattle.feed_events.specs.StandsFor.{EventFeedStandsFor}
use Rattle.feed_events.proofs.feed.EventFeed.feed.Goals as goal

pub loop-count-preserved : goal.loop-count-preserved
loop-count-preserved g c =
    let i = c.loop-count.invariant in
    let s = c.take_unit.ensures in
    let piece = c.args.piece.now in
    let count = c.loop-count.count in
    let left = length-drop count piece in
    let unit : c.first_unit.result.now ≡ take 188 (drop count piece) =
    c.first_unit.ensures ∙ ap (take 188) (take_all (length piece - count) (drop count piece) (omega (arith, left))) in
    record {
      stands = λ bytes gone h.
          subst (λ (l : List ℕ). EventFeedStandsFor g.G.OpenGroup c.take_unit.new.self l gone)
          (append_assoc bytes (take count piece) c.first_unit.result.now
          ∙ ap (λ (l : List ℕ). bytes ++ (take count piece ++ l)) unit
          ∙ ap (λ (l : List ℕ). bytes ++ l) (sym (take-add count 188 piece)))
          (s.stands (bytes ++ take count piece) gone (i.stands bytes gone h));
      inside = search rules;
      first = λ e. absurd (omega (arith, e));
      whole = λ _. omega arith;
      fed = let a = i.fed.0 in let b = i.fed.1 in let x = s.fed.0 in let y = s.fed.1 in
          (omega (arith, a, x), omega (arith, b, y));
      rules = s.rules ∙ i.rules;
      ended = s.ended ∙ i.ended;
    }
