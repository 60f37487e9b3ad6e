use Rattle.std.proofs.Common.{None, refl}
use Rattle.plp_config.proofs.CapacityLemmas.{Tried, Tried-none, Tried-more, Tried-all}
use Rattle.plp_config.specs.Capacity.{Throughput, CellCount, EvenParts, CellAddresses, RecordLength}
use Rattle.plp_config.proofs.capacity.first_lack.Goals as goal

pub returns : goal.returns
returns c =
    let n = c.args.config.now in
    let throughput : Tried 2 n c.throughput_lack.result =
    Tried-more n Throughput None _ _ (Tried-none n) c.throughput_lack.ensures refl in
    let cells : Tried 3 n c.or.result = Tried-more n CellCount _ _ _ throughput c.cell_count_lack.ensures
    c.or.ensures in
    let parts : Tried 4 n c.or-2.result = Tried-more n EvenParts _ _ _ cells c.part_lack.ensures c.or-2.ensures in
    let addresses : Tried 5 n c.or-3.result = Tried-more n CellAddresses _ _ _ parts c.address_lack.ensures
    c.or-3.ensures in
    Tried-all n _ (Tried-more n RecordLength _ _ _ addresses c.record_lack.ensures c.or-4.ensures)
