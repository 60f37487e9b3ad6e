use Rattle.std.proofs.Common.{◌++◌, sym, subst}
use Rattle.std.specs.List.{flat_map}
use Rattle.std.proofs.lemmas.Result.{err_from_is_err_and}
use Rattle.l1_signal.specs.Fields.{Fits, row_bits, RowsFit}
use Rattle.l1_signal.specs.L1Dynamic.{dyn_front_rows, dyn_plp_rows, dyn_back_rows, dyn_front, dyn_bits}
use Rattle.l1_signal.proofs.DynLemmas.{back_fits}
use Rattle.l1_signal.proofs.PartLemmas.{last_puts, last_stops}
use Rattle.l1_signal.proofs.dynamic.write_dyn.Goals as goal

pub put_fields-requires-clause-fits : goal.put_fields-requires-clause-fits
unfolding RowsFit
put_fields-requires-clause-fits g c = subst (Fits dyn_front) (sym c.front_values.ensures) c.requires.front

pub put_fields-requires-2-clause-fits : goal.put_fields-requires-2-clause-fits
unfolding RowsFit
put_fields-requires-2-clause-fits g c = back_fits c.args.dynamic.now

pub returns-in_err-put_fields-clause-fault : goal.returns-in_err-put_fields-clause-fault
unfolding dyn_bits row_bits
returns-in_err-put_fields-clause-fault g c =
    let p = err_from_is_err_and c.from_residual.result c.from_residual.ensures.1 in
    let early = c.stops_law.ensures.early in
    let dynamic = c.args.dynamic.now in
    let front = row_bits dyn_front_rows dynamic in
    let plps = flat_map (row_bits dyn_plp_rows) dynamic.plps in
    let stopped = rw c.front_values.ensures at c.in_err-put_fields.ensures.fault in
    rw (p.1, p.2) (early _ _ (front ++ plps) (row_bits dyn_back_rows dynamic) _ (early _ _ front plps _ stopped))

pub returns-in_err-write_plps-clause-fault : goal.returns-in_err-write_plps-clause-fault
unfolding dyn_bits row_bits
returns-in_err-write_plps-clause-fault g c =
    let p = err_from_is_err_and c.from_residual-in_err-write_plps.result c.from_residual-in_err-write_plps.ensures.1 in
    let dynamic = c.args.dynamic.now in
    let front = row_bits dyn_front_rows dynamic in
    let plps = flat_map (row_bits dyn_plp_rows) dynamic.plps in
    let put = rw c.front_values.ensures at c.in_ok-put_fields.ensures.ok in
    let plps_stop = rw c.as_slice.ensures at c.in_err-write_plps.ensures.fault in
    rw (p.1, p.2) (c.stops_law.ensures.early _ _ (front ++ plps) (row_bits dyn_back_rows dynamic) _
    (c.stops_law.ensures.later _ _ _ front plps _ put plps_stop))

pub returns-clause-ok : goal.returns-clause-ok
unfolding dyn_bits row_bits
returns-clause-ok g c =
    let dynamic = c.args.dynamic.now in
    let front = row_bits dyn_front_rows dynamic in
    let plps = flat_map (row_bits dyn_plp_rows) dynamic.plps in
    let put = rw c.front_values.ensures at c.in_ok-put_fields.ensures.ok in
    let put_plps = rw c.as_slice.ensures at c.in_ok-write_plps.ensures.ok in
    last_puts c.puts_law.ensures _ _ _ (front ++ plps) (row_bits dyn_back_rows dynamic) _
    (c.puts_law.ensures _ _ _ front plps put put_plps) c.put_fields-2.ensures.ok

pub returns-clause-fault : goal.returns-clause-fault
unfolding dyn_bits row_bits
returns-clause-fault g c =
    let dynamic = c.args.dynamic.now in
    let front = row_bits dyn_front_rows dynamic in
    let plps = flat_map (row_bits dyn_plp_rows) dynamic.plps in
    let put = rw c.front_values.ensures at c.in_ok-put_fields.ensures.ok in
    let put_plps = rw c.as_slice.ensures at c.in_ok-write_plps.ensures.ok in
    last_stops c.stops_law.ensures.later _ _ _ (front ++ plps) (row_bits dyn_back_rows dynamic) _
    (c.puts_law.ensures _ _ _ front plps put put_plps) c.put_fields-2.ensures.fault
