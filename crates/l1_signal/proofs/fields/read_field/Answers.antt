use Rattle.std.proofs.Common.{Ok, ap, sym, ◌∙◌, take, List, Bool}
use Rattle.std.proofs.lemmas.List.{take-append-drop}
use Rattle.l1_signal.proofs.ReadLemmas.{field_short, field_refused, field_done}
use Rattle.l1_signal.proofs.fields.read_field.Goals as goal

pub returns-in-Err-clause-fault : goal.returns-in-Err-clause-fault
returns-in-Err-clause-fault g c = field_short _ _ _ c.in-Err.ensures.short.0 c.in-Err.ensures.short.1

pub returns-then-not-is_met-clause-fault : goal.returns-then-not-is_met-clause-fault
returns-then-not-is_met-clause-fault g c = field_refused _ _ c.in-Ok.value c.in-Ok.ensures.ok.inside
    c.in-Ok.ensures.value
    (sym c.is_met.ensures ∙ c.if-not-is_met.true)

pub returns-then-not-is_met-clause-given : goal.returns-then-not-is_met-clause-given
returns-then-not-is_met-clause-given g c = (
  take c.args.field.width (g.R.BitSource.left c.args.source.now),
  rw c.in-Ok.ensures.ok.left
      (sym (take-append-drop _ _)),
)

pub returns-clause-ok : goal.returns-clause-ok
returns-clause-ok g c =
    field_done _ _ c.in-Ok.value c.in-Ok.ensures.ok.inside c.in-Ok.ensures.value (sym c.is_met.ensures
    ∙ c.if-not-is_met.false)
    ∙ ap (λ (l : List Bool). Ok (c.in-Ok.value, l)) (sym c.in-Ok.ensures.ok.left)

pub returns-clause-given : goal.returns-clause-given
returns-clause-given g c = (
  take c.args.field.width (g.R.BitSource.left c.args.source.now),
  rw c.in-Ok.ensures.ok.left
      (sym (take-append-drop _ _)),
)
