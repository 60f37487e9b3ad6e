use Rattle.std.proofs.Common.{◌≡◌, ◌∙◌, length, arith, refl}
use Rattle.gateway_core.proofs.InputsLemmas.{cut_step, cut_none, cut_fed, cut_blocks, cut_counts, counts_stay, cut_fit}
use Rattle.gateway_core.proofs.InputsLemmas.{cut_within, cut_supplied, same_wanted}
use Rattle.std.proofs.Math.Logic.{∥∥₁_map}
use Rattle.gateway_core.specs.InputsStandFor.{AreSupplied}
use Rattle.gateway_core.specs.Lists.{bits_in}
use Rattle.gateway_core.proofs.inputs.cut.Goals as goal

pub cut_one-requires-clause-none : goal.cut_one-requires-clause-none
cut_one-requires-clause-none c =
    same_wanted c.loop-plp.inputs c.args.inputs.now c.loop-plp.plp c.loop-plp.auto.inputs (omega arith)
    (λ d. c.loop-plp.invariant.cut.rest c.loop-plp.plp d (omega arith))
    ∙ c.requires.none c.loop-plp.plp c.loop-plp-test.true

pub cut_one-requires-clause-ready : goal.cut_one-requires-clause-ready
cut_one-requires-clause-ready c = λ d. ∥∥₁_map c.requires.ready
    (λ (s : AreSupplied c.args.plan.now c.args.frame c.args.inputs.now (bits_in c.args.pool.now)).
    cut_supplied c.loop-plp.invariant.cut c.requires.whole c.requires.frame c.early_fits_law.ensures.early
    c.early_fits_law.ensures.blocks c.rules_law.ensures.plan d (omega (arith, c.loop-plp-test.true)) s)

pub loop-plp-init : goal.loop-plp-init
loop-plp-init c = record { cut = cut_none _ _ _ _ _; most = λ j d. refl; short = λ short. short }

pub loop-plp-preserved : goal.loop-plp-preserved
loop-plp-preserved c = record {
  cut = cut_step c.early_fits_law.ensures.early c.early_fits_law.ensures.blocks _ _ _ _ _ _ _ _ _ _ c.loop-plp.plp _
      c.rules_law.ensures.plan c.requires.whole c.loop-plp-test.true (omega arith)
      c.loop-plp.invariant.cut c.cut_one.ensures.cuts;
  most = λ j d. c.cut_one.ensures.most j d ∙ c.loop-plp.invariant.most j d;
  short = λ short. c.cut_one.ensures.short (c.loop-plp.invariant.short short);
}

pub returns : goal.returns
returns c =
    let all : c.loop-plp.plp ≡ length c.args.inputs.now = omega arith in
    let cut = c.loop-plp.invariant.cut in
    let len = c.loop-plp.auto.counts ∙ c.requires.counts in
    let whole = c.requires.whole in
    let has = c.requires.frame in
    record {
      fed = λ events e was. cut_fed cut whole has all events c.loop-plp.auto.inputs e was;
      blocks = λ events e was inputs more. cut_blocks cut whole has all events inputs e was more;
      counts = λ events e was stay inputs more. cut_counts cut whole has all events inputs len e was stay more;
      stay = λ events e was stay. counts_stay c.spread_law.ensures.frames _ _ _ events c.rules_law.ensures.plan
          (λ inputs more. cut_counts cut whole has all events inputs len e was stay more);
      fit = λ are fit. cut_fit cut whole has all len are fit;
      within = λ plp lt. cut_within cut whole has all c.early_fits_law.ensures.early c.early_fits_law.ensures.blocks
          c.rules_law.ensures.plan plp lt c.requires.ready;
      len = c.loop-plp.auto.counts;
      most = c.loop-plp.invariant.most;
      short = c.loop-plp.invariant.short;
      lists = cut.lists_count;
      opened = cut.opened;
      whole = c.is_whole_law.ensures;
    }
