use Rattle.std.proofs.Common.{◌≡◌, ◌+◌, ◌*◌, ◌++◌, length, take}
use Rattle.site_frame.specs.Lines.{strip_bytes}
use Rattle.site_frame.proofs.line.put_blocks.Given as goal

abbrev pub invariant-loop-b : goal.invariant-loop-b
invariant-loop-b l = record {
  len : length l.out ≡ length l.fn.out;
  front : take (l.at + 4 * (l.strip.columns * l.b)) l.out ≡ take l.at l.fn.out ++ strip_bytes l.strip l.b;
}
