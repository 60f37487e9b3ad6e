-- What a trial tells of a run that stopped.
use Rattle.file_run.specs.declared.stop.RunFault.TheVariants.{TooLong, ReadFault, WriteFault}
use Rattle.file_run.specs.declared.stop.RunStop.{RunStop}
use Rattle.file_run.specs.declared.stop.RunStop.TheVariants as run
use Rattle.trial_run.specs.declared.stop.TrialStop.{TrialStop}
use Rattle.trial_run.specs.declared.stop.TrialStop.TheVariants as trial

-- a defect if the run was refused, or made a file that is too long; else want of memory, for which alone a desk in
-- memory fails
abbrev pub told_of : {E : Type 0} → RunStop E → TrialStop
told_of (run.Refused e) = trial.Broken
told_of (run.Files (TooLong input)) = trial.Broken
told_of (run.Files (ReadFault input)) = trial.OutOfMemory
told_of (run.Files WriteFault) = trial.OutOfMemory
told_of run.OutOfMemory = trial.OutOfMemory
