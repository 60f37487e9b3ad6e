use Rattle.std.proofs.Common.{◌≡◌, ◌∙◌, ℕ, ◌+◌, ◌*◌, ◌++◌, List, take, ap, sym, arith}
use Rattle.cell_map.specs.Stretches.{stretch_len}
use Rattle.site_frame.specs.Words.{words}
use Rattle.site_frame.proofs.AgainLemmas.{again_here}
use Rattle.site_frame.proofs.WordLemmas.{words_split}
use Rattle.site_frame.proofs.again.put_next.Goals as goal

pub put_again-requires-clause-again : goal.put_again-requires-clause-again
put_again-requires-clause-again c =
    (again_here c.args.plan.now c.args.shape.now c.args.frame_idx c.args.address c.args.done c.args.last c.args.stretch
    c.strip_of-strip.result
    c.requires.fits c.requires.has c.requires.last c.strip_of-strip.ensures
    (c.follows.ensures c.if-follows.true)).again

pub returns-clause-words : goal.returns-clause-words
returns-clause-words c =
    let n : ℕ = stretch_len c.args.stretch in
    let to : 4 * (c.args.done + n) ≡ 4 * c.args.done + 4 * n = omega arith in
    ap (λ (m : ℕ). take m c.put_stretch.new.out) to
    ∙ c.put_stretch.ensures.front c.args.plan.now c.args.shape.now c.args.frame_idx (c.args.address + c.args.done)
    c.requires.has
    ∙ ap (λ (l : List ℕ). l ++ words c.args.plan.now c.args.shape.now c.args.frame_idx
    (c.args.address + c.args.done) n) c.requires.words
    ∙ sym (words_split c.args.plan.now c.args.shape.now c.args.frame_idx c.args.done n c.args.address)
