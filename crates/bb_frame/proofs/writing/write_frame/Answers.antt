use Rattle.std.proofs.Common.{◌-◌, ◌++◌, false, length, refl, arith}
use Rattle.std.specs.Prelude.{replicate}
use Rattle.std.proofs.lemmas.Result.{err_from_is_err_and}
use Rattle.bb_frame.specs.BasebandFrame.{header_bits, frame_bits}
use Rattle.bb_frame.proofs.writing.write_frame.Goals as goal
use Rattle.bit_slice.proofs.WriterLemmas.{part_stops, rest_faults, rest_puts}

pub returns-in_err-put_header-clause-fault : goal.returns-in_err-put_header-clause-fault
returns-in_err-put_header-clause-fault g c =
    let p = err_from_is_err_and c.from_residual.result c.from_residual.ensures.1 in
    let header = header_bits c.args.header.now in
    let zeros = replicate (c.args.kbch - 80 - length c.args.field) false in
    rw (p.1, p.2)
    (c.stops_law.ensures.early _ _ (header ++ c.args.field) zeros _
    (c.stops_law.ensures.early _ _ header c.args.field _ c.in_err-put_header.ensures.fault))

pub returns-in_err-put_slice-clause-fault : goal.returns-in_err-put_slice-clause-fault
returns-in_err-put_slice-clause-fault g c =
    let p = err_from_is_err_and c.from_residual-in_err-put_slice.result c.from_residual-in_err-put_slice.ensures.1 in
    let header = header_bits c.args.header.now in
    let zeros = replicate (c.args.kbch - 80 - length c.args.field) false in
    rw (p.1, p.2)
    (c.stops_law.ensures.early _ _ (header ++ c.args.field) zeros _
    (part_stops c.stops_law.ensures.here c.stops_law.ensures.later _ _ _ header c.args.field (header ++ c.args.field)
    (length c.args.field) c.in_err-put_slice.field-0.0 c.in_ok-put_header.ensures.ok c.in_err-put_slice.ensures.fault
    c.in_err-put_slice.ensures.err (omega arith) refl))

pub returns-clause-ok : goal.returns-clause-ok
returns-clause-ok g c =
    let header = header_bits c.args.header.now in
    let zeros = replicate (c.args.kbch - 80 - length c.args.field) false in
    let front = c.puts_law.ensures _ _ _ header c.args.field c.in_ok-put_header.ensures.ok
    c.in_ok-put_slice.ensures.ok in
    rest_puts c.puts_law.ensures _ _ _ (header ++ c.args.field) zeros (frame_bits c.args.header.now c.args.field
    c.args.kbch)
    c.put_zeros.result front
    (rw c.len.ensures.len at c.put_zeros.ensures.ok) refl

pub returns-clause-fault : goal.returns-clause-fault
returns-clause-fault g c =
    let header = header_bits c.args.header.now in
    let zeros = replicate (c.args.kbch - 80 - length c.args.field) false in
    let front = c.puts_law.ensures _ _ _ header c.args.field c.in_ok-put_header.ensures.ok
    c.in_ok-put_slice.ensures.ok in
    rest_faults c.stops_law.ensures.later _ _ _ (header ++ c.args.field) zeros
    (frame_bits c.args.header.now c.args.field c.args.kbch) c.put_zeros.result front
    (rw c.len.ensures.len at c.put_zeros.ensures.fault) refl
