use Rattle.std.proofs.Common.{arith, rules, ◌≤◌, ◌<◌, ◌-◌, length, subst, sym}
use Rattle.config_text.specs.Words.{FitFields, first_values}
use Rattle.config_text.proofs.DraftLemmas.{fields_later}
use Rattle.config_text.proofs.WriteLemmas.{plp_row_at}
use Rattle.config_text.proofs.writing.values_at.Goals as goal

pub returns-in_ok-get-in_default-clause-row : goal.returns-in_ok-get-in_default-clause-row
returns-in_ok-get-in_default-clause-row c =
    let later : 8 ≤ c.args.due = omega (arith, c.in_default) in
    let inside : c.args.due - 8 < length c.args.config.now.plps = search rules in
    plp_row_at c.args.config.now c.args.due c.in_ok-get-in_default.field-0.now c.plp_values.result later inside
    c.in_ok-get-in_default.ensures.at c.plp_values.ensures.row

pub returns-in_ok-get-in_default-clause-fits : goal.returns-in_ok-get-in_default-clause-fits
returns-in_ok-get-in_default-clause-fits c =
    let later : 8 ≤ c.args.due = omega (arith, c.in_default) in
    subst (λ fs. FitFields fs (first_values (length fs) c.plp_values.result))
    (sym (fields_later c.args.due later)) c.plp_values.ensures.fits
