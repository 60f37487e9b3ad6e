use Rattle.std.proofs.Common.{◌∙◌, ℕ, ◌*◌, List, drop, ap, sym, arith}
use Rattle.byteorder.specs.Endian.{big_number}
use Rattle.site_frame.proofs.BlockLemmas.{rest_all}
use Rattle.site_frame.proofs.LineLemmas.{agreed, agrees}
use Rattle.site_frame.proofs.agreeing.agree.Goals as goal

pub returns-clause-same : goal.returns-clause-same
returns-clause-same c =
    let rest = rest_all (4 * c.args.address) c.words-words.result.now in (
      λ same i less.
          agreed c.map_law.ensures.small c.args.plan.now c.args.shape.now c.args.frame_idx c.args.address c.args.count i
          c.args.cells.now c.words-words.result.now c.fill_words.new.out c.rules_law.ensures.plan c.requires.passes less
          (omega (arith, c.requires.inside, c.requires.all)) c.words-words.ensures.cells c.fill_words.ensures
          (c.are_same.ensures.0 same i less ∙ ap (λ (xs : List ℕ). big_number 4 (drop (4 * i) xs)) rest),
      λ all. c.are_same.ensures.1 (λ i less.
          agrees c.map_law.ensures.small c.args.plan.now c.args.shape.now c.args.frame_idx c.args.address c.args.count i
          c.args.cells.now c.words-words.result.now c.fill_words.new.out c.rules_law.ensures.plan c.requires.passes less
          (omega (arith, c.requires.inside, c.requires.all)) c.words-words.ensures.cells c.fill_words.ensures
          (all i less)
          ∙ ap (λ (xs : List ℕ). big_number 4 (drop (4 * i) xs)) (sym rest)),
    )
