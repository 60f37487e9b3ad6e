-- The bytes of a file of records decide how a run over it must end.
use Rattle.std.proofs.Common.{◌≡◌, ℕ, ⊎_elim, List, [], length, refl, ap, sym, subst, ◌∙◌, arith}
use Rattle.std.specs.Prelude.{Result, Ok, Err}
use Rattle.site_frame.specs.Laws.{OneRecord, NoRefusal, SpelledOrRefused, OneRefusal}
use Rattle.site_frame.specs.RecordFile.{AreRecords, IsNoRecord}
use Rattle.site_frame.specs.Whole.{Refuses}
use Rattle.site_frame.specs.declared.fault.RecordWhy.{RecordWhy}
use Rattle.site_frame.specs.declared.reading.RecordView.{RecordView}
use Rattle.site_frame.proofs.RecordSplitLemmas.{stuck_nil, same_records, Stops, stops}
use Rattle.show_run.specs.Laws.{RecordsEnd, OneRecordsEnd, EachRecordsEnd}
use Rattle.show_run.specs.declared.stop.ShowStop.{ShowStop}
use Rattle.show_run.specs.declared.stop.ShowStop.TheVariants.{RecordRefused}

pub ends_once : OneRecord → NoRefusal → OneRefusal → OneRecordsEnd
ends_once one never refusal file (Ok count) (Ok number) a b =
    let same = same_records one never file [] [] a.0 b.0 a.1 b.1 stuck_nil stuck_nil in
    ap Ok (a.2 ∙ ap (λ (vs : List RecordView). length vs) same.0 ∙ sym b.2)
ends_once one never refusal file (Ok count) (Err (RecordRefused number why)) a b =
    let same = same_records one never file [] b.1 a.0 b.0 a.1 b.2 stuck_nil (why, b.3.1) in absurd (b.3.0 (sym same.1))
ends_once one never refusal file (Err (RecordRefused number why)) (Ok count) a b =
    let same = same_records one never file a.1 [] a.0 b.0 a.2 b.1 (why, a.3.1) stuck_nil in absurd (a.3.0 same.1)
ends_once one never refusal file (Err (RecordRefused number why)) (Err (RecordRefused count other)) a b =
    let same = same_records one never file a.1 b.1 a.0 b.0 a.2 b.2 (why, a.3.1) (other, b.3.1) in
    let number_is : number ≡ count = a.4 ∙ ap (λ (vs : List RecordView). length vs) same.0 ∙ sym b.4 in
    let why_is : why ≡ other = refusal b.1 why other (subst (λ (bytes : List ℕ). Refuses bytes why) same.1 a.3.1)
    b.3.1 in
    λ i. Err (RecordRefused (number_is i) (why_is i))
ends_once one never refusal file (Ok count) (Err other) a b = absurd b
ends_once one never refusal file (Err (RecordRefused number why)) (Err other) a b = absurd b
ends_once one never refusal file (Err stop) other a b = absurd a

ending : (file : List ℕ) → Stops file → (result : Result ℕ ShowStop) × RecordsEnd file result
ending file s =
    ⊎_elim
    (λ (none : s.rest ≡ []).
    (Ok (length s.views), (s.views, subst (λ (bytes : List ℕ). AreRecords file s.views bytes) none s.records, refl)))
    (λ (r : (why : RecordWhy) × IsNoRecord s.rest why).
    (Err (RecordRefused (length s.views) r.0), (s.views, s.rest, s.records, r.1, refl)))
    s.stuck

pub each_ends : NoRefusal → SpelledOrRefused → EachRecordsEnd
each_ends never decides file bytes = ending file (stops never decides (length file) file bytes (omega arith))
