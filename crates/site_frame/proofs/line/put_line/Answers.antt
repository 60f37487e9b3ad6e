use Rattle.std.proofs.Common.{◌≡◌, ◌∙◌, ℕ, ◌+◌, ◌*◌, take, ap, arith}
use Rattle.byteorder.specs.Endian.{big_bytes}
use Rattle.site_frame.specs.Lines.{line_bytes}
use Rattle.site_frame.proofs.LineLemmas.{line_more, part_on}
use Rattle.site_frame.proofs.line.put_line.Goals as goal

pub loop-z-preserved : goal.loop-z-preserved
loop-z-preserved c =
    let z : ℕ = c.loop-z.z in
    let word : ℕ = c.args.word in
    let stride : ℕ = c.args.stride in
    let to : c.args.at + 4 * (z + 1) ≡ c.args.at + 4 * z + 4 = omega arith in
    record {
      len = c.put_word.ensures.len ∙ c.loop-z.invariant.len;
      front = part_on (take c.args.at c.args.out.now) c.loop-z.out c.put_word.new.out (line_bytes word stride z)
          (big_bytes 4 (word + z * stride)) (line_bytes word stride (z + 1))
          (c.args.at + 4 * z) (c.args.at + 4 * (z + 1)) c.loop-z.invariant.front
          (ap (λ (n : ℕ). take n c.put_word.new.out) to
          ∙ c.put_word.ensures.front) (line_more word stride z);
    }
