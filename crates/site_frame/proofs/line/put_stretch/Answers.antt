use Rattle.std.proofs.Common.{◌∙◌, ◌++◌, ℕ, List, take, ap, sym}
use Rattle.site_frame.proofs.LineLemmas.{strip_words, dummy_words}
use Rattle.site_frame.proofs.line.put_stretch.Goals as goal

pub returns-in-Dummy-clause-front : goal.returns-in-Dummy-clause-front
returns-in-Dummy-clause-front c =
    rw c.in-Dummy.is
    (λ config shape frame address has. c.put_line.ensures.front
    ∙ ap (λ (l : List ℕ). take c.args.at c.args.out.now ++ l)
    (sym (dummy_words config shape frame address c.in-Dummy.count has)))

pub returns-in-Blocks-clause-front : goal.returns-in-Blocks-clause-front
returns-in-Blocks-clause-front c =
    rw c.in-Blocks.is
    (λ config shape frame address has. c.put_strip.ensures.front
    ∙ ap (λ (l : List ℕ). take c.args.at c.args.out.now ++ l)
    (sym (strip_words config shape frame address c.in-Blocks.strip has)))
