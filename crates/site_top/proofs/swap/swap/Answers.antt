use Rattle.std.proofs.Common.{inr}
use Rattle.feed_merge.specs.Fed.{names_of}
use Rattle.swap_run.specs.SwapRun.{swap_work}
use Rattle.site_top.specs.Outcomes.{swap_cause}
use Rattle.site_top.specs.SwapCommand.{Ends, StopsSo, swap_line}
use Rattle.site_top.proofs.GatewayLemmas.{other_name}
use Rattle.site_top.proofs.PlanCommandLemmas.{run_told}
use Rattle.site_top.proofs.SwapLemmas.{holds_swapped}
use Rattle.site_top.proofs.swap.swap.Goals as goal

pub run-end-requires : goal.run-end-requires
run-end-requires g c = record {
  place = c.in-Some.ensures.some.inside;
  apart_t2mi = other_name c.args.t2mi.now c.args.out.now c.requires.apart_t2mi;
  apart_input = other_name c.args.input.now c.args.out.now c.requires.apart_input;
}

pub returns : goal.returns
returns g c =
    let plan = c.in-Ok.plan in
    let t2mi = c.args.t2mi.now in
    let file = c.args.input.now in
    let out = c.args.out.now in
    let at = c.in-Some.ensures.some in
    inr (
      _,
      _,
      c.in-Ok.ensures.ok.0,
      c.in-Ok.ensures.ok.1,
      inr (
        _,
        at,
        run_told (swap_work plan _) out (names_of t2mi file) (Ends t2mi file out plan _) (StopsSo t2mi file out plan _)
            swap_line swap_cause _ _ _ _ _
            (λ ran r. (r, holds_swapped plan _ _ _ t2mi file out ran at.inside c.swapped_law.ensures r)) (λ stop s. s)
            c.run-end.ensures.ends c.tell_run.ensures.ok c.tell_run.ensures.err,
      ),
    )
