use Rattle.std.proofs.Common.{◌≤◌, ◌-◌, ◌^◌, length, ap, ◌∙◌, arith}
use Rattle.bit_slice.specs.Crc.{crc32_of}
use Rattle.l1_signal.specs.Fields.{spelling}
use Rattle.l1_signal.specs.L1Pre.{pre_table}
use Rattle.l1_signal.proofs.CrcLemmas.{counted_all, takes_all}
use Rattle.l1_signal.proofs.RowLemmas.{length-fit}
use Rattle.l1_signal.proofs.pre.pre_crc.Goals as goal

pub returns : goal.returns
returns c =
    let bits = spelling pre_table c.args.values.now in
    let few : length bits ≤ 2 ^ 64 - 1 = omega (arith, length-fit pre_table c.args.values.now c.requires) in
    let sink = rw c.new.ensures at c.new-sink.ensures in
    c.crc.ensures
    ∙ ap crc32_of
    (counted_all c.stops_law.ensures.full (2 ^ 64 - 1) c.new-sink.result c.put_fields.new.sink bits c.put_fields.result
    sink
    few c.put_fields.ensures.ok c.put_fields.ensures.fault)

pub unwrap-requires : goal.unwrap-requires
unwrap-requires c =
    let bits = spelling pre_table c.args.values.now in
    let few : length bits ≤ 2 ^ 64 - 1 = omega (arith, length-fit pre_table c.args.values.now c.requires) in
    let sink = rw c.new.ensures at c.new-sink.ensures in
    takes_all c.stops_law.ensures.full (2 ^ 64 - 1) c.new-sink.result c.put_fields.new.sink bits c.put_fields.result
    sink few
    c.put_fields.ensures.fault
