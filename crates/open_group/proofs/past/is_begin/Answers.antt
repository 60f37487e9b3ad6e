use Rattle.std.proofs.Common.{ℕ, ◌==◌, length, ap, sym, ◌∙◌, arith}
use Rattle.std.proofs.lemmas.Bool.{eq-eqb}
use Rattle.plp_config.specs.InterleavingFrames.{begin_of}
use Rattle.plp_config.specs.declared.config.Config.{Config}
use Rattle.open_group.proofs.CountLemmas.{one_place, no_place}
use Rattle.open_group.proofs.past.is_begin.Goals as goal

pub returns-then-begin_of-begin : goal.returns-then-begin_of-begin
returns-then-begin_of-begin c =
    let plps = ap (λ (k : Config). length k.plps) c.config.ensures.value in
    sym (one_place c.args.plan.now (λ plp. begin_of c.args.plan.now plp c.args.number == c.args.begin) c.loop-plp.plp
    (omega (arith, plps))
    (ap (λ (k : ℕ). k == c.args.begin) (sym c.begin_of.ensures)
    ∙ eq-eqb c.begin_of.result c.args.begin c.if-begin_of-begin.true))

pub returns : goal.returns
returns c =
    let plps = ap (λ (k : Config). length k.plps) c.config.ensures.value in
    sym (no_place c.args.plan.now (λ plp. begin_of c.args.plan.now plp c.args.number == c.args.begin)
    (λ k l. c.loop-plp.invariant k (omega (arith, l, plps))))
