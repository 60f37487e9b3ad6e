use Rattle.std.proofs.Common.{◌≡◌, ◌-◌, take, length, replicate}
use Rattle.l1_signal.specs.Fields.{each_read, behind}
use Rattle.l1_signal.specs.L1Configurable.{conf_plp_read}
use Rattle.l1_signal.proofs.comparing.has_plps.Given as goal

-- the PLPs so far in front of what those left give
abbrev pub invariant-loop-i : goal.invariant-loop-i
invariant-loop-i g l =
    each_read (replicate (length l.plps) conf_plp_read) (g.R.BitSource.left l.initial.source)
    ≡ behind (take l.i l.plps) (each_read (replicate (length l.plps - l.i) conf_plp_read) (g.R.BitSource.left l.source))
