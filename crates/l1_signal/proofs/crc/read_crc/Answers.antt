use Rattle.std.proofs.Common.{Ok, ap, sym, ◌∙◌, take, List, Bool}
use Rattle.std.proofs.lemmas.List.{take-append-drop}
use Rattle.l1_signal.proofs.CrcLemmas.{crc_short, crc_differs, crc_done}
use Rattle.l1_signal.proofs.crc.read_crc.Goals as goal

pub returns-in-Err-clause-fault : goal.returns-in-Err-clause-fault
returns-in-Err-clause-fault g c = crc_short _ _ _ c.in-Err.ensures.short.0 c.in-Err.ensures.short.1

pub returns-then-read-counted-clause-fault : goal.returns-then-read-counted-clause-fault
returns-then-read-counted-clause-fault g c =
    crc_differs _ _ c.in-Ok.read c.in-Ok.ensures.ok.inside c.in-Ok.ensures.value c.if-read-counted.true

pub returns-then-read-counted-clause-given : goal.returns-then-read-counted-clause-given
returns-then-read-counted-clause-given g c =
    (take 32 (g.R.BitSource.left c.args.source.now), rw c.in-Ok.ensures.ok.left (sym (take-append-drop 32 _)))

pub returns-clause-ok : goal.returns-clause-ok
returns-clause-ok g c =
    crc_done _ _ c.in-Ok.read c.in-Ok.ensures.ok.inside c.in-Ok.ensures.value c.if-read-counted.false
    ∙ ap (λ (l : List Bool). Ok (c.args.counted, l)) (sym c.in-Ok.ensures.ok.left)

pub returns-clause-given : goal.returns-clause-given
returns-clause-given g c =
    (take 32 (g.R.BitSource.left c.args.source.now), rw c.in-Ok.ensures.ok.left (sym (take-append-drop 32 _)))
