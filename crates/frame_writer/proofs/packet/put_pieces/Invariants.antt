use Rattle.std.proofs.Common.{◌≡◌, ◌+◌, ◌*◌, ◌≤◌, ◌++◌, length}
use Rattle.terms.specs.Bits.{bits_of}
use Rattle.t2mi_packet.specs.declared.reading.TheConstants.{LARGEST}
use Rattle.frame_writer.proofs.packet.put_pieces.Given as goal

abbrev pub invariant-loop-piece : goal.invariant-loop-piece
invariant-loop-piece l = record {
  joined : l.out ++ bits_of l.pieces ≡ l.fn.out ++ bits_of l.block;
  room : length l.out + 8 * length l.pieces ≤ 8 * LARGEST;
}

abbrev pub decreases-loop-piece : goal.decreases-loop-piece
decreases-loop-piece l = length l.pieces
