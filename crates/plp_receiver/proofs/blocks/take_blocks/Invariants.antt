use Rattle.std.proofs.Common.{◌≡◌, ◌*◌, length, drop}
use Rattle.plp_receiver.specs.SlotsStandFor.{slots_status}
use Rattle.plp_receiver.proofs.TakeLemmas.{Took}
use Rattle.plp_receiver.proofs.blocks.take_blocks.Given as goal

pub record Goes (l : goal.Live-loop-k) : Type 0 where
  pub took : Took l.deletes l.fn.stands l.fn.len l.fn.bytes l.k l.fn.slots l.slots
  pub behind : drop (l.k * l.fn.len) l.bytes ≡ drop (l.k * l.fn.len) l.fn.bytes
  pub status : slots_status l.slots ≡ slots_status l.fn.slots
  pub len : length l.bytes ≡ length l.fn.bytes

abbrev pub invariant-loop-k : goal.invariant-loop-k
invariant-loop-k l = Goes l
