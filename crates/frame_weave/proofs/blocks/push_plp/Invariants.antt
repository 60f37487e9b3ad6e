use Rattle.std.proofs.Common.{◌≡◌, ◌≤◌, ◌-◌, ◌++◌, List}
use Rattle.t2mi_packet.specs.declared.packet.Body.{Body}
use Rattle.frame_weave.specs.Made.{IsAlone, HoldsMade, slot_bodies}
use Rattle.frame_weave.proofs.blocks.push_plp.Given as goal

abbrev pub invariant-loop-place : goal.invariant-loop-place
invariant-loop-place l = record {
  holds : (bodies : List Body) → HoldsMade l.fn.made.plan.now l.number l.fn.made bodies
      → HoldsMade l.fn.made.plan.now l.number l.made
      (bodies ++ slot_bodies l.fn.made.plan.now l.number l.slots.pool l.plp l.start (l.place - l.start));
  none : l.end ≤ l.start → l.place ≡ l.start;
  alone : IsAlone l.fn.made.group → IsAlone l.made.group;
  plan : l.made.plan.now ≡ l.fn.made.plan.now;
}
