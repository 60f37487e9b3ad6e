use Rattle.std.proofs.Common.{◌≡◌, ◌∙◌, inl, inr, ℕ, true, Some, is_some, max, sym, subst, ap, arith}
use Rattle.std.specs.Prelude.{slice_index_or}
use Rattle.std.proofs.lemmas.Bool.{cases_lt}
use Rattle.std.proofs.lemmas.List.{get_or_read}
use Rattle.plp_config.specs.RunLength.{last_tick}
use Rattle.gateway_core.specs.declared.input.Input.{Input}
use Rattle.gateway_core.proofs.LawLemmas.{tick_more, tick_none}
use Rattle.gateway_core.proofs.run_length.last_tick.Goals as goal

pub loop-plp-init : goal.loop-plp-init
loop-plp-init c = record {
  tick = λ packets h. sym (tick_none c.args.plan.now packets);
  small = omega arith;
  ended = λ j d lt. absurd (omega arith);
}

pub loop-plp-preserved : goal.loop-plp-preserved
loop-plp-preserved c = record {
  tick = λ packets h.
      let here : c.index-inputs-plp.result.total ≡ Some (packets c.loop-plp.plp) =
      ap (λ (i : Input). i.total) c.index-inputs-plp.is ∙ h c.loop-plp.plp c.index-inputs-plp.result
      c.loop-plp-test.true in
      c.later-last.ensures
      ∙ ap (λ (n : ℕ). max n c.in-Some.tick) (c.loop-plp.invariant.tick packets h)
      ∙ ap (λ (n : ℕ). max (last_tick c.args.plan.now packets c.loop-plp.plp) n)
      (c.in-Some.ensures.tick (packets c.loop-plp.plp) here)
      ∙ sym (tick_more c.args.plan.now packets c.loop-plp.plp);
  small = omega (arith, c.later-last.ensures, c.in-Some.ensures.small, c.loop-plp.invariant.small);
  ended = λ j d lt. elim (cases_lt j c.loop-plp.plp) [
    | inl before ↦ c.loop-plp.invariant.ended j d before
    | inr from ↦
        let same : c.loop-plp.plp ≡ j = omega arith in
        let at : c.index-inputs-plp.result ≡ slice_index_or c.args.inputs.now c.loop-plp.plp d =
        get_or_read c.args.inputs.now c.loop-plp.plp c.index-inputs-plp.result c.loop-plp-test.true
        c.index-inputs-plp.is d in
        subst (λ (k : ℕ). is_some (slice_index_or c.args.inputs.now k d).total ≡ true) same
        (subst (λ (i : Input). is_some i.total ≡ true) at c.in-Some.ensures.some)
  ];
}
