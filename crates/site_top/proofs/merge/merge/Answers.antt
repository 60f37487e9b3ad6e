use Rattle.std.proofs.Common.{inr}
use Rattle.feed_merge.specs.Fed.{names_of}
use Rattle.merge_run.specs.MergeRun.{merge_work}
use Rattle.site_top.specs.MergeCommand.{Ends, StopsSo, merge_line}
use Rattle.site_top.specs.Outcomes.{merge_cause}
use Rattle.site_top.proofs.GatewayLemmas.{other_name}
use Rattle.site_top.proofs.MergeLemmas.{holds_merged}
use Rattle.site_top.proofs.PlanCommandLemmas.{run_told}
use Rattle.site_top.proofs.merge.merge.Goals as goal

pub run-end-requires : goal.run-end-requires
run-end-requires g c = record {
  apart_a = other_name c.args.a.now c.args.out.now c.requires.apart_a;
  apart_b = other_name c.args.b.now c.args.out.now c.requires.apart_b;
}

pub returns : goal.returns
returns g c =
    let plan = c.in-Ok.plan in
    let a = c.args.a.now in
    let b = c.args.b.now in
    let out = c.args.out.now in
    inr (
      _,
      _,
      c.in-Ok.ensures.ok.0,
      c.in-Ok.ensures.ok.1,
      run_told (merge_work plan) out (names_of a b) (Ends a b out plan) (StopsSo a b out plan) merge_line merge_cause
          _ _ _ _ _ (λ ran r. (r, holds_merged plan _ _ a b out ran c.merged_law.ensures r)) (λ stop s. s)
          c.run-end.ensures.ends c.tell_run.ensures.ok c.tell_run.ensures.err,
    )
