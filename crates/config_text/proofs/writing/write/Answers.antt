use Rattle.std.proofs.Common.{arith, ◌≡◌, ◌+◌, List, ℕ, subst, get_or, []}
use Rattle.std.proofs.lemmas.List.{take_all}
use Rattle.config_text.specs.ConfigText.{canonical_text}
use Rattle.config_text.specs.Fields.{fields_at}
use Rattle.config_text.specs.Rows.{rows_of}
use Rattle.config_text.specs.Words.{row_of, FitFields, FitLines}
use Rattle.config_text.proofs.CanonicalLemmas.{canonical_spells, fit_more}
use Rattle.config_text.proofs.WriteLemmas.{text_more, text_whole}
use Rattle.config_text.proofs.writing.write.Goals as goal

pub loop-values-preserved : goal.loop-values-preserved
loop-values-preserved c =
    let due = c.loop-values.due in
    let e : due ≡ 0 + due = omega arith in
    let row : FitFields (fields_at due) (get_or (rows_of 2 c.args.config.now) due []) =
    subst (λ (r : List ℕ). FitFields (fields_at due) r) c.in-Some.ensures.row c.in-Some.ensures.fits in
    record {
      within = omega (arith, c.in-Some.ensures.some);
      written = text_more (rows_of 2 c.args.config.now) due c.loop-values.text.items c.push_line.new.text.items
          (row_of due c.in-Some.values) c.in-Some.ensures.some
          c.loop-values.invariant.written
          c.in-Some.ensures.row
          c.in_ok-push_line.ensures.ok;
      fits = fit_more 0 (rows_of 2 c.args.config.now) due c.loop-values.invariant.fits c.in-Some.ensures.some
          (subst (λ (d : ℕ). FitFields (fields_at d) (get_or (rows_of 2 c.args.config.now) due [])) e row);
    }

pub returns-clause-text : goal.returns-clause-text
unfolding canonical_text
returns-clause-text c =
    text_whole (rows_of 2 c.args.config.now) c.loop-values.due c.loop-values.text.items c.in_default.ensures.none
    c.loop-values.invariant.written

pub returns-clause-spells : goal.returns-clause-spells
unfolding canonical_text
returns-clause-spells c =
    let rows : List (List ℕ) = rows_of 2 c.args.config.now in
    let fits : FitLines 0 (rows_of 2 c.args.config.now) =
    subst (λ (l : List (List ℕ)). FitLines 0 l) (take_all c.loop-values.due rows c.in_default.ensures.none)
    c.loop-values.invariant.fits in
    canonical_spells c.args.config.now c.loop-values.text.items fits c.requires
    (text_whole (rows_of 2 c.args.config.now) c.loop-values.due c.loop-values.text.items c.in_default.ensures.none
    c.loop-values.invariant.written)
