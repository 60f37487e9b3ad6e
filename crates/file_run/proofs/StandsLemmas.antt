-- What was fed of the files of a run. Owners of machines cite this.
use Rattle.std.proofs.Common.{ℕ, List, ◌++◌, length, ap, sym, ◌∙◌, arith}
use Rattle.file_run.specs.Events.{Event, OnlyGave}
use Rattle.file_run.specs.FileRun.{AreFed}
use Rattle.file_run.proofs.EventLemmas.{gave_more}

-- what was fed is the same if a machine gave since
pub fed_since : (inputs : ℕ) (files : ℕ → List ℕ) (places : List ℕ) (events late : List Event) → OnlyGave late
    → AreFed inputs files places events → AreFed inputs files places (events ++ late)
fed_since inputs files places events late only are input lt =
    let f = are input lt in
    let m = gave_more events late only in
    record {
      more = f.more;
      parts = f.parts ∙ ap (λ (l : List ℕ). l ++ f.more) (sym (m.fed input));
      ahead = (let n = ap length (m.fed input) in let a = f.ahead in omega (arith, n, a));
      within = f.within;
      end = λ on. f.end (sym (m.ended input) ∙ on);
    }
