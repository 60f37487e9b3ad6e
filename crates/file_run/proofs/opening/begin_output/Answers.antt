use Rattle.file_run.proofs.OpenLemmas.{creating_failed}
use Rattle.file_run.proofs.opening.begin_output.Goals as goal

pub returns-in-Err-clause-err : goal.returns-in-Err-clause-err
returns-in-Err-clause-err g c = λ start ins readings a.
    let f = c.create.ensures.counts in
    rw c.in-File.is (creating_failed start _ _ c.in-File.name.now ins readings c.in-Err.ensures.err
    (record {
      rose = c.in-Err.ensures.counts.err;
      first = c.in-Err.ensures.counts.first;
      later = f.later;
      others = f.others;
    }) a)
