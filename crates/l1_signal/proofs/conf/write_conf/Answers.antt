use Rattle.std.proofs.Common.{◌++◌, sym, subst}
use Rattle.std.specs.List.{flat_map}
use Rattle.std.proofs.lemmas.Result.{err_from_is_err_and}
use Rattle.l1_signal.specs.Fields.{Fits, row_bits, RowsFit}
use Rattle.l1_signal.specs.L1Configurable.{conf_first_rows, conf_more_rows, conf_plp_rows, conf_back_rows, conf_first}
use Rattle.l1_signal.specs.L1Configurable.{conf_more}
use Rattle.l1_signal.specs.L1Configurable.{conf_back, conf_bits}
use Rattle.l1_signal.proofs.PartLemmas.{last_puts, last_stops}
use Rattle.l1_signal.proofs.conf.write_conf.Goals as goal

pub put_fields-requires-clause-fits : goal.put_fields-requires-clause-fits
unfolding RowsFit
put_fields-requires-clause-fits g c = subst (Fits conf_first) (sym c.first_values.ensures) c.requires.first

pub put_fields-requires-2-clause-fits : goal.put_fields-requires-2-clause-fits
unfolding RowsFit
put_fields-requires-2-clause-fits g c = subst (Fits conf_more) (sym c.more_values.ensures) c.requires.more

pub put_fields-requires-3-clause-fits : goal.put_fields-requires-3-clause-fits
unfolding RowsFit
put_fields-requires-3-clause-fits g c = subst (Fits conf_back) (sym c.back_values.ensures) c.requires.back

pub returns-in_err-put_fields-clause-fault : goal.returns-in_err-put_fields-clause-fault
unfolding conf_bits row_bits
returns-in_err-put_fields-clause-fault g c =
    let p = err_from_is_err_and c.from_residual.result c.from_residual.ensures.1 in
    let early = c.stops_law.ensures.early in
    let conf = c.args.conf.now in
    let first = row_bits conf_first_rows conf in
    let more = row_bits conf_more_rows conf in
    let plps = flat_map (row_bits conf_plp_rows) conf.plps in
    let stopped = rw c.first_values.ensures at c.in_err-put_fields.ensures.fault in
    rw (p.1, p.2)
    (early _ _ (first ++ more ++ plps) (row_bits conf_back_rows conf) _
    (early _ _ (first ++ more) plps _ (early _ _ first more _ stopped)))

pub returns-in_err-put_fields-2-clause-fault : goal.returns-in_err-put_fields-2-clause-fault
unfolding conf_bits row_bits
returns-in_err-put_fields-2-clause-fault g c =
    let p = err_from_is_err_and c.from_residual-in_err-put_fields-2.result
    c.from_residual-in_err-put_fields-2.ensures.1 in
    let early = c.stops_law.ensures.early in
    let conf = c.args.conf.now in
    let first = row_bits conf_first_rows conf in
    let more = row_bits conf_more_rows conf in
    let plps = flat_map (row_bits conf_plp_rows) conf.plps in
    let put = rw c.first_values.ensures at c.in_ok-put_fields.ensures.ok in
    let stopped = rw c.more_values.ensures at c.in_err-put_fields-2.ensures.fault in
    rw (p.1, p.2)
    (early _ _ (first ++ more ++ plps) (row_bits conf_back_rows conf) _
    (early _ _ (first ++ more) plps _ (c.stops_law.ensures.later _ _ _ first more _ put stopped)))

pub returns-in_err-write_plps-clause-fault : goal.returns-in_err-write_plps-clause-fault
unfolding conf_bits row_bits
returns-in_err-write_plps-clause-fault g c =
    let p = err_from_is_err_and c.from_residual-in_err-write_plps.result c.from_residual-in_err-write_plps.ensures.1 in
    let conf = c.args.conf.now in
    let first = row_bits conf_first_rows conf in
    let more = row_bits conf_more_rows conf in
    let plps = flat_map (row_bits conf_plp_rows) conf.plps in
    let put = rw c.first_values.ensures at c.in_ok-put_fields.ensures.ok in
    let put_more = rw c.more_values.ensures at c.in_ok-put_fields-2.ensures.ok in
    let plps_stop = rw c.as_slice.ensures at c.in_err-write_plps.ensures.fault in
    rw (p.1, p.2) (c.stops_law.ensures.early _ _ (first ++ more ++ plps) (row_bits conf_back_rows conf) _
    (c.stops_law.ensures.later _ _ _ (first ++ more) plps _ (c.puts_law.ensures _ _ _ first more put put_more)
    plps_stop))

pub returns-clause-ok : goal.returns-clause-ok
unfolding conf_bits row_bits
returns-clause-ok g c =
    let join = c.puts_law.ensures in
    let conf = c.args.conf.now in
    let first = row_bits conf_first_rows conf in
    let more = row_bits conf_more_rows conf in
    let plps = flat_map (row_bits conf_plp_rows) conf.plps in
    let put = rw c.first_values.ensures at c.in_ok-put_fields.ensures.ok in
    let put_more = rw c.more_values.ensures at c.in_ok-put_fields-2.ensures.ok in
    let put_plps = rw c.as_slice.ensures at c.in_ok-write_plps.ensures.ok in
    let last = rw c.back_values.ensures at c.put_fields-3.ensures.ok in
    last_puts join _ _ _ (first ++ more ++ plps) (row_bits conf_back_rows conf) _
    (join _ _ _ (first ++ more) plps (join _ _ _ first more put put_more) put_plps) last

pub returns-clause-fault : goal.returns-clause-fault
unfolding conf_bits row_bits
returns-clause-fault g c =
    let join = c.puts_law.ensures in
    let conf = c.args.conf.now in
    let first = row_bits conf_first_rows conf in
    let more = row_bits conf_more_rows conf in
    let plps = flat_map (row_bits conf_plp_rows) conf.plps in
    let put = rw c.first_values.ensures at c.in_ok-put_fields.ensures.ok in
    let put_more = rw c.more_values.ensures at c.in_ok-put_fields-2.ensures.ok in
    let put_plps = rw c.as_slice.ensures at c.in_ok-write_plps.ensures.ok in
    let last = rw c.back_values.ensures at c.put_fields-3.ensures.fault in
    last_stops c.stops_law.ensures.later _ _ _ (first ++ more ++ plps) (row_bits conf_back_rows conf) _
    (join _ _ _ (first ++ more) plps (join _ _ _ first more put put_more) put_plps) last
