use Rattle.std.proofs.Common.{◌≡◌, ◌++◌, List}
use Rattle.t2mi_packet.specs.declared.packet.Body.{Body}
use Rattle.frame_weave.specs.Made.{IsAlone, HoldsMade, all_bodies}
use Rattle.frame_weave.proofs.blocks.push_blocks.Given as goal

abbrev pub invariant-loop-plp : goal.invariant-loop-plp
invariant-loop-plp l = record {
  holds : (bodies : List Body) → HoldsMade l.plan l.number l.fn.made bodies → HoldsMade l.plan l.number l.made
      (bodies ++ all_bodies l.plan l.number l.slots.pool l.layout.starts.items l.plp);
  alone : IsAlone l.fn.made.group → IsAlone l.made.group;
  plan : l.made.plan.now ≡ l.fn.made.plan.now;
}
