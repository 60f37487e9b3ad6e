use Rattle.gateway_core.specs.InputsStandFor.{CutUntil, SameMost}
use Rattle.gateway_core.specs.Lists.{AllShort}
use Rattle.gateway_core.proofs.inputs.cut.Given as goal

abbrev pub invariant-loop-plp : goal.invariant-loop-plp
invariant-loop-plp l = record {
  cut : CutUntil l.plan l.frame l.initial.inputs l.inputs l.initial.pool l.pool l.initial.counts l.counts l.plp;
  most : SameMost l.initial.inputs l.inputs;
  short : AllShort l.initial.pool → AllShort l.pool;
}
