use Rattle.std.proofs.Common.{◌≡◌, ◌≤◌, ◌-◌, length, take}
use Rattle.config_text.specs.ConfigText.{text_of}
use Rattle.config_text.specs.Rows.{rows_of}
use Rattle.config_text.specs.Words.{FitLines}
use Rattle.config_text.proofs.writing.write.Given as goal

abbrev pub invariant-loop-values : goal.invariant-loop-values
invariant-loop-values l = record {
  within : l.due ≤ length (rows_of 2 l.config);
  written : l.text.items ≡ text_of (take l.due (rows_of 2 l.config));
  fits : FitLines 0 (take l.due (rows_of 2 l.config));
}

abbrev pub decreases-loop-values : goal.decreases-loop-values
decreases-loop-values l = length (rows_of 2 l.config) - l.due
