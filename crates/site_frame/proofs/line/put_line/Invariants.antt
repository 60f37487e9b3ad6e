use Rattle.std.proofs.Common.{◌≡◌, ◌+◌, ◌*◌, ◌++◌, length, take}
use Rattle.site_frame.specs.Lines.{line_bytes}
use Rattle.site_frame.proofs.line.put_line.Given as goal

abbrev pub invariant-loop-z : goal.invariant-loop-z
invariant-loop-z l = record {
  len : length l.out ≡ length l.fn.out;
  front : take (l.at + 4 * l.z) l.out ≡ take l.at l.fn.out ++ line_bytes l.word l.stride l.z;
}
