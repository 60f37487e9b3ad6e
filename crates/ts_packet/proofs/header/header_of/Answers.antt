use Rattle.std.proofs.Common.{ℕ, ◌<◌, get_or, arith}
use Rattle.ts_packet.proofs.HeaderLemmas.{header_read}
use Rattle.ts_packet.proofs.header.header_of.Goals as goal

pub returns : goal.returns
returns c =
    let small : (k : ℕ) → get_or c.args.bytes.now k 0 < 256 = λ k. omega (arith, c.fits-bytes k) in
    header_read c.args.bytes.now c.from_be_bytes.result (omega arith) small (omega (arith, c.from_be_bytes.ensures))
