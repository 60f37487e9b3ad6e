use Rattle.std.proofs.Common.{◌≡◌, ◌∙◌, ℕ, ◌+◌, ◌*◌, take, ap, subst, arith}
use Rattle.cell_map.specs.Reading.{Reading, reading_at}
use Rattle.cell_map.specs.Stretches.{HasStretch, stretch_len}
use Rattle.site_frame.specs.Lines.{IsLast}
use Rattle.site_frame.specs.Words.{words}
use Rattle.site_frame.proofs.AgainLemmas.{last_of}
use Rattle.site_frame.proofs.LineLemmas.{stretch_fits}
use Rattle.site_frame.proofs.filling.fill_words.Goals as goal

pub put_next-done-requires-clause-fits : goal.put_next-done-requires-clause-fits
put_next-done-requires-clause-fits c =
    let stretch = c.next_stretch-stretch.result in
    stretch_fits c.map_law.ensures.small c.args.plan.now c.args.shape.now c.args.frame_idx
    (c.args.address + c.loop-done.done) stretch
    c.rules_law.ensures.plan c.requires.passes c.next_stretch-stretch.ensures.some
    (subst (λ (r : Reading). HasStretch r.config r.shape r.frame_idx r.address stretch) c.loop-done.invariant.cells
    c.next_stretch-stretch.ensures.cells)

pub put_next-done-requires-clause-has : goal.put_next-done-requires-clause-has
put_next-done-requires-clause-has c =
    subst (λ (r : Reading). HasStretch r.config r.shape r.frame_idx r.address c.next_stretch-stretch.result)
    c.loop-done.invariant.cells
    c.next_stretch-stretch.ensures.cells

pub loop-done-preserved : goal.loop-done-preserved
loop-done-preserved c =
    let plan = c.args.plan.now in
    let shape = c.args.shape.now in
    let frame : ℕ = c.args.frame_idx in
    let done : ℕ = c.loop-done.done in
    let stretch = c.next_stretch-stretch.result in
    let n : ℕ = stretch_len stretch in
    let inv = c.loop-done.invariant in
    let next = c.next_stretch-stretch.ensures in
    let put = c.put_next-done.ensures in
    let all : done + n ≡ done + c.put_next-done.result = omega (arith, put.count) in
    let behind : c.args.address + done + n ≡ c.args.address + (done + c.put_next-done.result) = omega
    (arith, put.count) in
    let has : HasStretch plan shape frame (c.args.address + done) stretch =
    subst (λ (r : Reading). HasStretch r.config r.shape r.frame_idx r.address stretch) inv.cells next.cells in
    record {
      cells = next.next ∙ ap (λ (r : Reading). reading_at r.config r.shape r.frame_idx (r.address + n)) inv.cells
          ∙ ap (reading_at plan shape frame) behind;
      most = omega (arith, put.count, next.most, inv.most);
      last = λ some. subst (λ (m : ℕ). IsLast plan shape frame c.args.address m c.strip_of-last.result) all
          (last_of plan shape frame c.args.address done stretch c.strip_of-last.result has c.strip_of-last.ensures
          some);
      len = put.len ∙ inv.len;
      out = subst (λ (m : ℕ). take (4 * m) c.put_next-done.new.out ≡ words plan shape frame c.args.address m)
          all put.words;
    }
