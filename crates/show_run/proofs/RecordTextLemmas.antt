-- The lines of records, one behind another.
use Rattle.std.proofs.Common.{◌≡◌, ℕ, suc, ◌+◌, List, [], ◌∷◌, ◌++◌, length, ap, sym, ◌∙◌, arith, append_assoc}
use Rattle.site_frame.specs.declared.reading.RecordView.{RecordView}
use Rattle.show_run.specs.SaidLines.{record_line, record_lines}

pub record_lines-append : (number : ℕ) (vs ws : List RecordView) → record_lines number (vs ++ ws) ≡ record_lines
    number vs
    ++ record_lines (number + length vs) ws
record_lines-append number [] ws = let e : number ≡ number + 0 = omega arith in ap (λ (k : ℕ). record_lines k ws) e
record_lines-append number (v ∷ vs) ws =
    let e : number + 1 + length vs ≡ number + suc (length vs) = omega arith in
    ap (λ (text : List ℕ). record_line number v ++ text) (record_lines-append (number + 1) vs ws
    ∙ ap (λ (k : ℕ). record_lines (number + 1) vs ++ record_lines k ws) e)
    ∙ sym (append_assoc (record_line number v) (record_lines (number + 1) vs)
    (record_lines (number + suc (length vs)) ws))
