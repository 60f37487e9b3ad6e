use Rattle.std.proofs.Common.{◌≡◌, ◌∙◌, ℕ, ◌+◌, ◌*◌, ◌++◌, take, ap, ap₂, arith}
use Rattle.site_frame.specs.Lines.{line_bytes, first_word, strip_bytes}
use Rattle.site_frame.proofs.LineLemmas.{strip_more, part_on}
use Rattle.site_frame.proofs.line.put_blocks.Goals as goal

pub loop-b-preserved : goal.loop-b-preserved
loop-b-preserved c =
    let b : ℕ = c.loop-b.b in
    let s = c.args.strip in
    let all : c.args.columns ≡ s.columns = c.requires.columns in
    let before : c.args.columns * b ≡ s.columns * b = ap (λ (n : ℕ). n * b) all in
    let place : c.args.at + 4 * (c.args.columns * b) ≡ c.args.at + 4 * (s.columns * b) = omega (arith, before) in
    let next : s.columns * (b + 1) ≡ s.columns * b + s.columns = omega arith in
    let to : c.args.at + 4 * (s.columns * (b + 1)) ≡ c.args.at + 4 * (c.args.columns * b) + 4 * c.args.columns =
    omega (arith, before, next, all) in
    record {
      len = c.put_line.ensures.len ∙ c.loop-b.invariant.len;
      front = part_on (take c.args.at c.args.out.now) c.loop-b.out c.put_line.new.out (strip_bytes s b)
          (line_bytes (first_word s b) s.stride s.columns) (strip_bytes s (b + 1))
          (c.args.at + 4 * (s.columns * b)) (c.args.at + 4 * (s.columns * (b + 1))) c.loop-b.invariant.front
          (ap (λ (n : ℕ). take n c.put_line.new.out) to ∙ c.put_line.ensures.front
          ∙ ap₂ (λ (n m : ℕ). take n c.loop-b.out ++ line_bytes (first_word s b) s.stride m) place all)
          (strip_more s b);
    }
