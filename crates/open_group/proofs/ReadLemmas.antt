-- A dynamic part that reads has the length that its PLPs ask for.
use Rattle.std.proofs.Common.{◌≡◌, ℕ, ◌==◌, Bool, true, false, cond, List, length, Option, Some, None, refl, ap, sym}
use Rattle.std.proofs.Common.{◌∙◌, arith, length-append}
use Rattle.std.specs.Prelude.{is_some, Ok, Err}
use Rattle.std.specs.Option.{unwrap_or}
use Rattle.std.proofs.lemmas.Bool.{true≢false, eqb-true}
use Rattle.l1_signal.specs.Fields.{Reading}
use Rattle.l1_signal.specs.L1Dynamic.{dyn_read}
use Rattle.l1_signal.specs.Laws.{DynReadSpelled, DynLength}
use Rattle.l1_signal.specs.Lengths.{dyn_len}
use Rattle.l1_signal.specs.declared.dynamic.L1Dyn.{L1Dyn}
use Rattle.frame_groups.specs.Tests.{read_whole}

-- how long it is, and how many PLPs it tells
record IsRead (plps : ℕ) (bits : List Bool) (d : L1Dyn) : Type 0 where
  pub len : length bits ≡ dyn_len plps
  pub rows : length d.plps ≡ plps

is_read : DynReadSpelled → DynLength → (plps : ℕ) (bits : List Bool) (d : L1Dyn)
    → read_whole (dyn_read plps bits) ≡ Some d
    → IsRead plps bits d
is_read spelled len plps bits d e = go (dyn_read plps bits) refl e
  where
    none : {P : Type 0} → ◌≡◌ {A = Option L1Dyn} None (Some d) → P
    none z = absurd (true≢false (sym (ap is_some z)))

    whole : (r : L1Dyn × List Bool) → dyn_read plps bits ≡ Ok r → (t : Bool) → (length r.1 == 0) ≡ t
        → cond t (Some r.0) None
        ≡ Some d → IsRead plps bits d
    whole r is true t e =
        let s = spelled plps bits r.0 r.1 is in
        let n = len r.0 s.front s.spells in
        let all = ap length s.whole ∙ length-append s.front r.1 in
        let rest : length r.1 ≡ 0 = eqb-true (length r.1) 0 t in
        let count = s.count in
        record {
          len = omega (arith, n, all, rest, count);
          rows = ap (λ (o : Option L1Dyn). length (unwrap_or o d).plps) (sym e)
              ∙ count;
        }
    whole r is false t e = none e

    go : (reading : Reading L1Dyn) → dyn_read plps bits ≡ reading → read_whole reading ≡ Some d → IsRead plps bits d
    go (Ok r) is e = whole r is (length r.1 == 0) refl e
    go (Err fault) is e = none e

pub read_len : DynReadSpelled → DynLength → (plps : ℕ) (bits : List Bool) (d : L1Dyn)
    → read_whole (dyn_read plps bits) ≡ Some d
    → length bits ≡ dyn_len plps
read_len spelled len plps bits d e = (is_read spelled len plps bits d e).len

pub read_rows : DynReadSpelled → DynLength → (plps : ℕ) (bits : List Bool) (d : L1Dyn)
    → read_whole (dyn_read plps bits) ≡ Some d
    → length d.plps ≡ plps
read_rows spelled len plps bits d e = (is_read spelled len plps bits d e).rows
