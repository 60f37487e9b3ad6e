use Rattle.std.proofs.Common.{◌+◌, ◌*◌, ◌≤◌, length}
use Rattle.file_run.specs.declared.line.TheConstants.{ROOM}
use Rattle.site_top.specs.PlanLines.{PlanLines}
use Rattle.site_top.proofs.plan_lines.push_lines.Given as goal

-- the lines of so many PLPs are on the page
abbrev pub invariant-loop-plp : goal.invariant-loop-plp
invariant-loop-plp l = record {
  lines : PlanLines l.plan l.plp l.page;
  room : length l.page ≤ ROOM * l.plp + ROOM;
}
