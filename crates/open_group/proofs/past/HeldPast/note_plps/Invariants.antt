use Rattle.std.proofs.Common.{◌≡◌, ◌<◌, ◌≤◌, ℕ}
use Rattle.open_group.specs.HoldsPast.{begun_at, noted, AreSized}
use Rattle.open_group.proofs.past.HeldPast.note_plps.Given as goal

abbrev pub invariant-loop-plp : goal.invariant-loop-plp
invariant-loop-plp l = record {
  begun : (k : ℕ) → k < l.plp → begun_at l.self k ≡ noted l.plan l.number l.blocks k (begun_at l.fn.self k);
  others : (k : ℕ) → l.plp ≤ k → begun_at l.self k ≡ begun_at l.fn.self k;
  needs : l.self.needs ≡ l.fn.self.needs;
  sized : AreSized l.plan l.self;
}
