use Rattle.std.proofs.Common.{◌≡◌, ◌∙◌, sym, false, true, List, ℕ, subst, arith, rules, []}
use Rattle.std.proofs.lemmas.Result.{err_from_is_err_and}
use Rattle.config_text.specs.ConfigText.{is_skipped}
use Rattle.config_text.specs.Drafts.{Stands}
use Rattle.config_text.proofs.TextLemmas.{stands_first, stands_skipped, stands_taken, stands_whole, stands_fault}
use Rattle.config_text.proofs.reading.read_lines.Goals as goal

pub loop-line-init : goal.loop-line-init
loop-line-init c =
    stands_first c.args.text.now c.of-lines.result 2 c.empty-config.result c.requires c.of-lines.ensures
    c.empty-config.ensures

pub returns-in_err-version-clause-err : goal.returns-in_err-version-clause-err
returns-in_err-version-clause-err c =
    let stays : is_skipped c.in-Some.line.now ≡ false = sym c.is_skipped.ensures ∙ c.if-not-is_skipped.true in
    let p = err_from_is_err_and c.from_residual.result c.from_residual.ensures.1 in
    rw (p.1, p.2)
    (stands_fault c.args.text.now c.loop-line.lines c.next.new.self c.in-Some.line.now c.loop-line.number
    c.loop-line.due
    c.loop-line.version c.loop-line.config c.in_err-version.field-0.0 c.requires
    c.loop-line.invariant
    c.in-Some.ensures.some
    stays
    c.in_err-version.ensures.err)

pub loop-line-preserved-then-not-is_skipped : goal.loop-line-preserved-then-not-is_skipped
loop-line-preserved-then-not-is_skipped c =
    let stays : is_skipped c.in-Some.line.now ≡ false = sym c.is_skipped.ensures ∙ c.if-not-is_skipped.true in
    stands_taken c.args.text.now c.loop-line.lines c.next.new.self c.in-Some.line.now c.loop-line.number c.loop-line.due
    c.loop-line.version _ c.loop-line.config c.take_line.new.config c.loop-line.invariant
    c.in-Some.ensures.some
    stays
    c.in_ok-version.ensures.ok

pub loop-line-preserved : goal.loop-line-preserved
loop-line-preserved c =
    let skips : is_skipped c.in-Some.line.now ≡ true = sym c.is_skipped.ensures ∙ c.if-not-is_skipped.false in
    stands_skipped c.args.text.now c.loop-line.lines c.next.new.self c.in-Some.line.now c.loop-line.number
    c.loop-line.due
    c.loop-line.version c.loop-line.config c.loop-line.invariant c.in-Some.ensures.some
    skips

pub returns-clause-ok : goal.returns-clause-ok
returns-clause-ok c =
    let end : c.loop-line.lines ≡ [] = search rules in
    stands_whole c.args.text.now c.loop-line.number c.loop-line.due c.loop-line.version c.loop-line.config c.requires
    (subst (λ (left : List (List ℕ)). Stands c.args.text.now left c.loop-line.number c.loop-line.due
    c.loop-line.version c.loop-line.config) end
    c.loop-line.invariant)
    (omega arith)
