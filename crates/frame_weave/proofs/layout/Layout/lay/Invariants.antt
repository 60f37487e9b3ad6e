use Rattle.std.proofs.Common.{◌≡◌, ◌≤◌, ◌*◌, ◌+◌, ℕ, length, sum_by}
use Rattle.std.specs.Prelude.{slice_index}
use Rattle.std.specs.List.{range_with_len}
use Rattle.frame_groups.specs.Readable.{coming}
use Rattle.frame_weave.specs.Places.{start_of, plp_need}
use Rattle.frame_weave.proofs.layout.Layout.lay.Given as goal

abbrev pub invariant-loop-plp : goal.invariant-loop-plp
invariant-loop-plp l = record {
  starts : (j : ℕ) → j ≤ l.plp → slice_index l.self.starts.items j ≡ start_of (coming l.plan l.number l.shape) j;
  end : l.end ≡ start_of (coming l.plan l.number l.shape) l.plp;
  need : l.need ≡ sum_by (plp_need l.plan (coming l.plan l.number l.shape)) (range_with_len 0 l.plp);
  few : l.end ≤ 65535 * l.plp;
  small : l.need ≤ 1769445 * l.plp;
  sized : length l.self.starts.items ≡ length l.plan.plps + 1;
}
