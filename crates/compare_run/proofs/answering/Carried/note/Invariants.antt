use Rattle.std.proofs.Common.{◌≡◌, ◌≤◌, ◌<◌, ◌+◌, ℕ, length, slice_index_or, List, None}
use Rattle.std.specs.Option.{option_copied}
use Rattle.frame_groups.specs.Modulated.{Numbered}
use Rattle.compare_run.specs.TallyStandsFor.{lists_in, Brings, NothingBetween, CarriedStandsFor, IsOther}
use Rattle.compare_run.proofs.answering.Carried.note.Given as goal

abbrev pub invariant-loop-plp : goal.invariant-loop-plp
invariant-loop-plp l = record {
  noted : (ga gb : List Numbered) → CarriedStandsFor l.fn.self l.plan l.next ga gb
      → Brings l.plan ga l.number (lists_in (option_copied l.a))
      → Brings l.plan gb l.number (lists_in (option_copied l.b)) → NothingBetween ga l.next l.number
      → NothingBetween gb l.next l.number
      → (k : ℕ) → k < l.plp → IsOther l.plan k (l.number + 1) ga gb (slice_index_or l.self.others.items k None);
  left : (k : ℕ) → l.plp ≤ k → slice_index_or l.self.others.items k None ≡ slice_index_or l.fn.self.others.items k None;
  plps : length l.self.others.items ≡ length l.plan.plps;
}
