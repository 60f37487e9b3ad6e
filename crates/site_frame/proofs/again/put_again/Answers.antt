use Rattle.std.proofs.Common.{◌∙◌, arith}
use Rattle.site_frame.proofs.AgainLemmas.{row_on, word_is}
use Rattle.site_frame.proofs.again.put_again.Goals as goal

pub overflow_add-word : goal.overflow_add-word
overflow_add-word c =
    let same =
    word_is c.args.plan.now c.args.shape.now c.args.frame_idx c.args.address c.args.before c.args.width c.loop-k.k
    c.word_at-word.result
    c.loop-k.out c.requires.again c.loop-k-test.true c.loop-k.invariant.words c.word_at-word.ensures in
    omega (arith, same, c.requires.again.small c.loop-k.k c.loop-k-test.true)

pub loop-k-preserved : goal.loop-k-preserved
loop-k-preserved c = record {
  len = c.put_word.ensures.len ∙ c.loop-k.invariant.len;
  words = row_on c.args.plan.now c.args.shape.now c.args.frame_idx c.args.address c.args.before c.args.width c.loop-k.k
      c.word_at-word.result
      c.loop-k.out c.put_word.new.out c.requires.again c.loop-k-test.true
      c.loop-k.invariant.words c.word_at-word.ensures c.put_word.ensures.front;
}
