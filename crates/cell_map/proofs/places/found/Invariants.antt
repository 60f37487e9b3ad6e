use Rattle.std.proofs.Common.{ℕ, ◌≡◌, ◌*◌, ◌<◌, ◌≤◌, take, sum}
use Rattle.cell_map.specs.Address.{IsCarried, address_of}
use Rattle.cell_map.proofs.places.found.Given as goal

abbrev pub invariant-loop-plp : goal.invariant-loop-plp
invariant-loop-plp l =
    record {
      before : l.before ≡ sum (take l.plp l.shape.counts);
      small : l.before ≤ 1023 * l.plp;
      none : (k b q : ℕ) → k < l.plp → IsCarried l.plan l.shape l.frame_idx k b q
          → ¬ (address_of l.plan l.shape l.frame_idx k b q
          ≡ l.address);
    }
