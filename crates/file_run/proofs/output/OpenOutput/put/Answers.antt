use Rattle.std.proofs.lemmas.Result.{on_ok_weaker}
use Rattle.file_run.proofs.SayLemmas.{says_page}
use Rattle.file_run.proofs.output.OpenOutput.put.Goals as goal

pub returns-in-Standard-clause-ok : goal.returns-in-Standard-clause-ok
returns-in-Standard-clause-ok g c =
    rw c.in-Standard.is (on_ok_weaker c.say_all.result (λ a. says_page _ _ _ a) c.say_all.ensures.ok)
