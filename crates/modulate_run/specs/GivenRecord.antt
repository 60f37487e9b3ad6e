-- A record that was given. Of public clauses none cites this module.
use Rattle.std.specs.Prelude.{ℕ, ◌+◌, ◌-◌, ◌^◌, ◌==◌, min, is_some, if◌then◌else◌}
use Rattle.frame_groups.specs.declared.waiting.Waiting.{Waiting}
use Rattle.modulate_run.specs.declared.stop.ModulateRan.{ModulateRan}

-- a number as it is held: it has 64 bits, and stands still at the greatest
abbrev pub held : ℕ → ℕ
held n = min n (2 ^ 64 - 1)

abbrev pub added : ModulateRan → Waiting → ModulateRan
added ran w = record {
  first = if ran.records == 0 then w.frame else ran.first;
  records = held (ran.records + 1);
  muted = if is_some w.mute then held (ran.muted + 1) else ran.muted;
}
