use Rattle.std.proofs.Common.{◌≡◌, ◌<◌, ℕ, length, true, ap, sym, subst, ◌∙◌, ⊎_elim, arith}
use Rattle.std.specs.Prelude.{slice_index}
use Rattle.std.proofs.lemmas.Bool.{cases_eq}
use Rattle.frame_groups.specs.Tests.{has_count}
use Rattle.open_group.proofs.CountLemmas.{all_places, not_all_places}
use Rattle.open_group.proofs.past.HeldPast.has_counts.Goals as goal

pub returns-then-not-has_count : goal.returns-then-not-has_count
returns-then-not-has_count c = λ past t h above counts.
    let plp : ℕ = c.loop-plp.plp in
    let inside : plp < length c.args.plan.now.plps = omega (arith, c.requires.shape, c.len-plp-end.ensures.counts) in
    let told = c.has_count.ensures past (slice_index t.blocks plp) h above (c.count_of.ensures
    ∙ counts.counts plp inside) in
    sym (not_all_places c.args.plan.now
    (λ plp. has_count c.args.plan.now past c.args.number plp (slice_index t.blocks plp)
    (slice_index c.args.shape.now.counts plp))
    plp inside
    (ap (λ (k : ℕ). has_count c.args.plan.now past c.args.number plp (slice_index t.blocks plp) k) (sym c.count.ensures)
    ∙ sym told ∙ c.if-not-has_count.true))

pub loop-plp-preserved : goal.loop-plp-preserved
loop-plp-preserved c = λ past t h above counts k l.
    let plp : ℕ = c.loop-plp.plp in
    let inside : plp < length c.args.plan.now.plps = omega (arith, c.requires.shape, c.len-plp-end.ensures.counts) in
    let told = c.has_count.ensures past (slice_index t.blocks plp) h above (c.count_of.ensures
    ∙ counts.counts plp inside) in
    ⊎_elim
    (λ (e : k ≡ plp).
    subst (λ (j : ℕ). has_count c.args.plan.now past c.args.number j (slice_index t.blocks j)
    (slice_index c.args.shape.now.counts j) ≡ true) (sym e)
    (ap (λ (k : ℕ). has_count c.args.plan.now past c.args.number plp (slice_index t.blocks plp) k) (sym c.count.ensures)
    ∙ sym told ∙ c.if-not-has_count.false))
    (λ (ne : k ≡ plp → ⊥). c.loop-plp.invariant past t h above counts k (omega (arith, l, ne)))
    (cases_eq k plp)

pub returns : goal.returns
returns c = λ past t h above counts.
    sym (all_places c.args.plan.now
    (λ plp. has_count c.args.plan.now past c.args.number plp (slice_index t.blocks plp)
    (slice_index c.args.shape.now.counts plp))
    (λ k l. c.loop-plp.invariant past t h above counts k
    (omega (arith, l, c.requires.shape, c.len-plp-end.ensures.counts, c.loop-plp-test.false))))
