use Rattle.std.proofs.Common.{◌≡◌, ◌<◌, ◌^◌, ℕ, true, is_some}
use Rattle.std.specs.Prelude.{slice_index_or}
use Rattle.plp_config.specs.RunLength.{last_tick}
use Rattle.gateway_core.specs.InputsStandFor.{HaveEnded}
use Rattle.gateway_core.specs.declared.input.Input.{Input}
use Rattle.gateway_core.proofs.run_length.last_tick.Given as goal

abbrev pub invariant-loop-plp : goal.invariant-loop-plp
invariant-loop-plp l = record {
  tick : (packets : ℕ → ℕ) → HaveEnded l.inputs packets → l.last ≡ last_tick l.plan packets l.plp;
  small : l.last < 2 ^ 93;
  ended : (j : ℕ) (d : Input) → j < l.plp → is_some (slice_index_or l.inputs j d).total ≡ true;
}
