-- What is told of an input of which packets of a file were taken.
use Rattle.std.proofs.Common.{ℕ, Bool, List, ap, ◌∙◌}
use Rattle.ts_packet.specs.TsFile.{packets_in}
use Rattle.ts_packet.proofs.FileLemmas.{IsRead, taken_first, nothing_in}
use Rattle.gateway_core.specs.InputSoFar.{Told, Continues}

-- It is continued by the packets of the file.
pub continues : (file : List ℕ) (packets : List (List ℕ)) (ended : Bool) (left : List ℕ) (frame : ℕ)
    → IsRead file packets ended left
    → Continues (let t : Told = record { packets = packets; ended = ended; frame = frame } in t) (packets_in file)
continues file packets ended left frame r = record {
  rest = packets_in left;
  front = taken_first file packets ended left r;
  whole = λ on. ap packets_in (r.end on) ∙ nothing_in;
}
