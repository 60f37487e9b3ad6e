use Rattle.std.proofs.Common.{◌≡◌, [], false, length}
use Rattle.plp_config.specs.Plps.{plp_at}
use Rattle.gateway_core.specs.IsFed.{IsFed, most}
use Rattle.gateway_core.proofs.InputsLemmas.{Below}
use Rattle.gateway_core.proofs.inputs.open_inputs.Given as goal

abbrev pub invariant-loop-plp : goal.invariant-loop-plp
invariant-loop-plp l = record {
  len : length l.inputs.items ≡ l.plp;
  fed : Below (λ j i. IsFed i l.plan j (record { packets = []; ended = false; frame = 0 }) []) l.inputs.items l.plp;
  most : Below (λ j i. most i ≡ (plp_at l.plan.plps j).blocks) l.inputs.items l.plp;
}
