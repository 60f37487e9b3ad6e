use Rattle.std.proofs.Common.{◌≡◌, ◌≤◌, ◌∙◌, ◌*◌, ℕ, length, ap, arith}
use Rattle.std.proofs.lemmas.List.FromFn.{length-map-range_with_len}
use Rattle.plp_config.specs.declared.config.Config.{Config}
use Rattle.scheduler.specs.Shape.{FrameShape}
use Rattle.l1_signal.specs.L1Dynamic.{dyn_bits, DynFits}
use Rattle.l1_signal.specs.L1Of.{dyn_of}
use Rattle.l1_signal.specs.Laws.{DynWritten, DynLength}
use Rattle.l1_signal.specs.Lengths.{dyn_len}
use Rattle.l1_signal.specs.declared.dynamic.L1Dyn.{L1Dyn}
use Rattle.l1_signal.specs.declared.lengths.TheConstants.{MOST_DYN_BYTES}
use Rattle.gateway_core.proofs.SignalLemmas.{takes_all, written_whole}
use Rattle.gateway_core.proofs.dynamic.write_dynamic.Goals as goal

rows : (c : Config) (frame : ℕ) (shape : FrameShape) (dynamic : L1Dyn) → dynamic ≡ dyn_of c frame shape
    → length dynamic.plps ≡ length c.plps
unfolding dyn_of
rows c frame shape dynamic is = ap (λ (d : L1Dyn). length d.plps) is ∙ length-map-range_with_len _ 0 (length c.plps)

size : DynWritten → DynLength → (c : Config) (dynamic : L1Dyn) → DynFits dynamic → length dynamic.plps ≡ length c.plps
    → length (dyn_bits dynamic) ≡ dyn_len (length c.plps)
size written len c dynamic fits rows = omega (arith, len dynamic (dyn_bits dynamic) (written dynamic fits), rows)

pub unwrap-requires : goal.unwrap-requires
unwrap-requires c =
    let same = rows c.args.plan.now c.args.frame c.args.shape.now c.dyn_of.new.out c.dyn_of.ensures.value in
    let bits = size c.dyn_law.ensures.written c.dyn_law.ensures.len c.args.plan.now c.dyn_of.new.out
    (c.dyn_of.ensures.fits c.requires.fits) same in
    let few = c.rules_law.ensures.ranges.plps.1 in
    let room : length (dyn_bits c.dyn_of.new.out) ≤ 8 * MOST_DYN_BYTES = omega (arith, bits, few) in
    takes_all c.write_dyn.result MOST_DYN_BYTES c.clear.new.self c.write_dyn.new.sink (dyn_bits c.dyn_of.new.out)
    c.clear.ensures
    room c.write_dyn.ensures.fault

pub returns : goal.returns
returns c =
    let same = rows c.args.plan.now c.args.frame c.args.shape.now c.dyn_of.new.out c.dyn_of.ensures.value in
    let bits = size c.dyn_law.ensures.written c.dyn_law.ensures.len c.args.plan.now c.dyn_of.new.out
    (c.dyn_of.ensures.fits c.requires.fits) same in
    let few = c.rules_law.ensures.ranges.plps.1 in
    let room : length (dyn_bits c.dyn_of.new.out) ≤ 8 * MOST_DYN_BYTES = omega (arith, bits, few) in
    let all = written_whole c.write_dyn.result MOST_DYN_BYTES c.clear.new.self c.write_dyn.new.sink
    (dyn_bits c.dyn_of.new.out) c.clear.ensures room c.write_dyn.ensures.ok c.write_dyn.ensures.fault in
    record {
      value = all ∙ ap dyn_bits c.dyn_of.ensures.value;
      size = ap length all ∙ bits;
      short = omega (arith, bits, few, ap length all);
      rows = same;
    }
