use Rattle.std.proofs.Common.{◌∙◌, sym}
use Rattle.l1_signal.proofs.CompareLemmas.{no_front, other_front, other_plps, no_back, other_back, more_left}
use Rattle.l1_signal.proofs.CompareLemmas.{is_spelled, holds}
use Rattle.l1_signal.proofs.CompareLemmas.{fails, refuted, ends}
use Rattle.l1_signal.proofs.comparing.is_conf.Goals as goal

pub returns-in_default : goal.returns-in_default
returns-in_default c = refuted (no_front _ _ _ (rw c.new-source.ensures at c.in_default.ensures.fault))

pub returns-then-not-is_front : goal.returns-then-not-is_front
returns-then-not-is_front c =
    refuted (other_front _ _ _ _ (rw c.new-source.ensures at c.in-Ok.ensures.ok)
    (fails _ c.is_front.ensures c.if-not-is_front.true))

pub returns-then-not-has_plps : goal.returns-then-not-has_plps
returns-then-not-has_plps c =
    let none = rw c.as_slice.ensures at (c.has_plps.ensures.no c.if-not-has_plps.true) in
    refuted (other_plps _ _ _ _ (rw c.new-source.ensures at c.in-Ok.ensures.ok) none)

pub returns-in_default-read_back : goal.returns-in_default-read_back
returns-in_default-read_back c =
    let plps = rw c.as_slice.ensures at (c.has_plps.ensures.yes c.if-not-has_plps.false) in
    refuted (no_back _ _ _ _ _ _ (rw c.new-source.ensures at c.in-Ok.ensures.ok) plps
    c.in_default-read_back.ensures.fault)

pub returns-then-back-from : goal.returns-then-back-from
returns-then-back-from c =
    let plps = rw c.as_slice.ensures at (c.has_plps.ensures.yes c.if-not-has_plps.false) in
    refuted (other_back _ _ _ _ _ _ c.in-Ok-read_back.back (rw c.new-source.ensures at c.in-Ok.ensures.ok) plps
    c.in-Ok-read_back.ensures.ok (rw (← c.from-2.ensures) c.if-back-from.true))

pub returns : goal.returns
returns c =
    let read = rw c.new-source.ensures at c.in-Ok.ensures.ok in
    let plps = rw c.as_slice.ensures at (c.has_plps.ensures.yes c.if-not-has_plps.false) in
    let count = sym c.from.ensures ∙ c.if-from-len.false ∙ c.len.ensures in
    ends _ _ _ _ c.is_err.ensures.value c.take.ensures.ok c.take.ensures.short
    (is_spelled _ _ _ _ _ _ c.in-Ok-read_back.back count read (holds _ c.is_front.ensures c.if-not-is_front.false) plps
    c.in-Ok-read_back.ensures.ok (c.if-back-from.false ∙ c.from-2.ensures))
    (more_left _ _ _ _ _ _ c.in-Ok-read_back.back read plps c.in-Ok-read_back.ensures.ok)
