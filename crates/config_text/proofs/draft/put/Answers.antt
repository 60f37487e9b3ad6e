use Rattle.std.proofs.Common.{ℕ, subst, arith, ◌≤◌, ◌∙◌, sym, length}
use Rattle.config_text.specs.Fields.{fields_at}
use Rattle.config_text.specs.Drafts.{Puts}
use Rattle.config_text.specs.Words.{row_of, FitFields, first_values}
use Rattle.config_text.proofs.DraftLemmas.{fields_later, row_later, puts_plp}
use Rattle.config_text.proofs.draft.put.Goals as goal

pub put_l1-requires-clause-fits : goal.put_l1-requires-clause-fits
put_l1-requires-clause-fits c =
    subst (λ (due : ℕ). FitFields (fields_at due) (row_of due c.args.values.now)) c.in-6.is c.requires.fits

pub plp_of-requires : goal.plp_of-requires
plp_of-requires c =
    let later : 8 ≤ c.args.due = omega (arith, c.in_default) in
    subst (λ fs. FitFields fs (first_values (length fs) c.args.values.now)) (fields_later c.args.due later)
    c.requires.fits

pub returns-in_ok-push-in_default : goal.returns-in_ok-push-in_default
returns-in_ok-push-in_default c =
    let later : 8 ≤ c.args.due = omega (arith, c.in_default) in
    record {
      ok = λ version first. puts_plp version c.args.due c.args.config.now c.plp_of.result c.push.new.self
          (row_of c.args.due c.args.values.now) later
          c.requires.plps
          c.in_ok-push-in_default.ensures.ok
          (c.plp_of.ensures ∙ sym (row_later c.args.due c.args.values.now later));
    }

pub returns-in-2 : goal.returns-in-2
returns-in-2 c = record {
  ok = λ version first.
      subst (λ (due : ℕ). Puts version due (row_of due c.args.values.now) c.args.config.now c.put_frame.new.config)
      (sym c.in-2.is)
      (c.put_frame.ensures version);
}

pub returns-in-3 : goal.returns-in-3
returns-in-3 c = record {
  ok = λ version first.
      subst (λ (due : ℕ). Puts version due (row_of due c.args.values.now) c.args.config.now c.put_start.new.config)
      (sym c.in-3.is)
      (c.put_start.ensures version);
}

pub returns-in-5 : goal.returns-in-5
returns-in-5 c = record {
  ok = λ version first.
      subst (λ (due : ℕ). Puts version due (row_of due c.args.values.now) c.args.config.now c.put_network.new.config)
      (sym c.in-5.is)
      (c.put_network.ensures version);
}

pub returns-in-6 : goal.returns-in-6
returns-in-6 c = record {
  ok = λ version first.
      subst (λ (due : ℕ). Puts version due (row_of due c.args.values.now) c.args.config.now c.put_l1.new.config)
      (sym c.in-6.is)
      (c.put_l1.ensures version);
}
