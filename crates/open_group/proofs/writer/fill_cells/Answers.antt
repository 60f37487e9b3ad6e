use Rattle.std.proofs.Common.{◌≤◌, ◌+◌, ◌-◌, ◌*◌, ◌++◌, [], ℕ, List, length, refl, ap, ◌∙◌, arith}
use Rattle.std.proofs.lemmas.Slice.{drop-put_mid}
use Rattle.plp_config.specs.declared.config.Config.{Config}
use Rattle.site_frame.specs.Words.{words}
use Rattle.open_group.specs.Steps.{step_bytes}
use Rattle.open_group.proofs.RecordLemmas.{words_given, part_written, part_read, length-put_mid}
use Rattle.open_group.proofs.writer.fill_cells.Goals as goal

pub returns-clause-bytes : goal.returns-clause-bytes
returns-clause-bytes c = λ lists.
    let e = ap (λ (c : Config). c.cells) c.config.ensures.value in
    let count = c.min-count.result in
    let cells = c.requires.cells c.in-Cells.address c.in-Cells.is in
    let inside : c.in-Cells.address + count ≤ c.args.plan.now.cells = omega (arith, e, cells.0, c.min-count.ensures) in
    let room : c.args.from + (c.args.from + 4 * count - c.args.from) ≤ length c.args.out.now =
    omega (arith, c.requires.from, c.min-count.ensures) in
    let len = part_written c.args.from (c.args.from + 4 * count - c.args.from) c.args.out.now c.fill_words.new.out
    c.fill_words.auto.out room in
    let part = part_read c.args.from (4 * count) (c.args.from + 4 * count - c.args.from) c.args.out.now
    c.fill_words.new.out
    (omega arith) len room in
    ap (step_bytes c.args.plan.now c.args.shape.now c.args.frame_idx lists) c.in-Cells.is
    ∙ words_given c.args.plan.now c.args.shape.now c.args.frame_idx c.in-Cells.address count [] c.fill_words.new.out
    refl
    c.fill_words.ensures inside
    ∙ ap (λ (l : List ℕ). l ++ words c.args.plan.now c.args.shape.now c.args.frame_idx (c.in-Cells.address + count)
    (c.args.plan.now.cells - (c.in-Cells.address + count))) part

pub returns-clause-stays : goal.returns-clause-stays
returns-clause-stays c =
    let size = c.args.from + 4 * c.min-count.result - c.args.from in
    let room : c.args.from + size ≤ length c.args.out.now = omega (arith, c.requires.from, c.min-count.ensures) in
    let len = part_written c.args.from size c.args.out.now c.fill_words.new.out c.fill_words.auto.out room in (
      length-put_mid c.args.from size c.args.out.now c.fill_words.new.out len room,
      drop-put_mid c.args.from size c.args.out.now c.fill_words.new.out (c.args.from + 4 * c.min-count.result)
          (omega arith) c.requires.from len,
    )
