use Rattle.std.proofs.Common.{◌≡◌, ◌∙◌, ◌<◌, ℕ, List, take, drop, ap, subst, sym}
use Rattle.std.specs.Prelude.{slice_index, sum}
use Rattle.site_frame.specs.Record.{Block}
use Rattle.plp_config.specs.Capacity.{block_bytes}
use Rattle.frame_groups.specs.Readable.{coming}
use Rattle.plp_receiver.specs.Parts.{part_with}
use Rattle.plp_receiver.specs.Taking.{HaveLength}
use Rattle.plp_receiver.proofs.SizeLemmas.{have_length, begun_is}
use Rattle.plp_receiver.proofs.TakeLemmas.{agrees}
use Rattle.plp_receiver.proofs.HeldLemmas.{begun_at, first_kept}
use Rattle.plp_receiver.proofs.parts.see_first.Goals as goal

pub begin-requires-clause-there : goal.begin-requires-clause-there
begin-requires-clause-there c =
    let a = agrees c.map_test_law.ensures c.args.plan.now c.args.number c.args.blocks.now c.args.cells.now
    c.args.shape.now
    c.rules_law.ensures.plan c.requires.agrees in
    let counts : List ℕ = coming c.args.plan.now c.args.number c.args.shape.now in
    let behind : c.skip_blocks.new.rest ≡ drop (sum (take c.args.plp counts)) c.args.blocks.now =
    c.skip_blocks.ensures ∙ ap (drop c.first_place.result) c.iter-rest.ensures
    ∙ ap (λ (n : ℕ). drop n c.args.blocks.now) c.first_place.ensures.value in
    let count : slice_index counts c.args.plp ≡ c.from.result =
    sym (begun_is c.args.plan.now c.args.number c.args.shape.now c.args.plp c.from.result c.requires.inside
    c.requires.begins (c.from.ensures ∙ c.count.ensures)) in
    subst (λ (n : ℕ). HaveLength n c.from.result c.skip_blocks.new.rest) (sym c.requires.size)
    (subst (λ (l : List Block). HaveLength (block_bytes c.args.plan.now c.args.plp) c.from.result l) (sym behind)
    (subst (λ (n : ℕ). HaveLength (block_bytes c.args.plan.now c.args.plp) n
    (drop (sum (take c.args.plp counts)) c.args.blocks.now)) count
    (have_length c.args.plan.now counts c.args.blocks.now c.args.plp a.sizes c.requires.inside)))

pub returns-clause-keeps : goal.returns-clause-keeps
returns-clause-keeps c =
    let counts : List ℕ = coming c.args.plan.now c.args.number c.args.shape.now in
    let behind : c.skip_blocks.new.rest ≡ drop (sum (take c.args.plp counts)) c.args.blocks.now =
    c.skip_blocks.ensures ∙ ap (drop c.first_place.result) c.iter-rest.ensures
    ∙ ap (λ (n : ℕ). drop n c.args.blocks.now) c.first_place.ensures.value in
    let begun = begun_at c.args.plan.now c.args.plp c.args.number c.args.shape.now c.args.blocks.now
    c.skip_blocks.new.rest
    c.args.cells.now c.begin.new.self c.begin.ensures.there (c.begin.ensures.count ∙ c.from.ensures
    ∙ c.count.ensures) behind
    (λ k l. c.begin.ensures.bytes k (subst (λ (n : ℕ). k < n) c.begin.ensures.count l))
    (λ k l. c.begin.ensures.stand k (subst (λ (n : ℕ). k < n) c.begin.ensures.count l)) in
    first_kept c.args.plan.now c.args.plp (part_with c.args.number c.args.blocks.now c.args.shape.now c.args.cells.now)
    c.begin.new.self c.see_cells.new.self begun
    (record {
      same = c.see_cells.ensures.blocks;
      each = λ k l. c.see_cells.ensures.each c.args.blocks.now k l;
    })
