-- The dynamic part: its reading step by step, and its laws.
use Rattle.std.proofs.Common.{◌≡◌, ℕ, ◌+◌, ◌*◌, Bool, List, [], ◌∷◌, ◌++◌, length, get_or, replicate, Ok, Err, refl, ap}
use Rattle.std.proofs.Common.{sym}
use Rattle.std.proofs.Common.{subst, ◌∙◌, arith, append_assoc, length-append}
use Rattle.std.specs.Prelude.{slice_index}
use Rattle.std.specs.List.{flat_map}
use Rattle.std.proofs.lemmas.List.FromFn.{fill_by_all}
use Rattle.terms.proofs.RangeLemmas.{one_listed}
use Rattle.l1_signal.specs.declared.fault.L1Fault.{L1Fault}
use Rattle.l1_signal.specs.declared.dyn_plp.DynPlp.{DynPlp}
use Rattle.l1_signal.specs.declared.dynamic.L1Dyn.{L1Dyn}
use Rattle.l1_signal.specs.Fields.{values, Reading, after, values_of, each_read, Fits, Spells, row_bits, RowsFit}
use Rattle.l1_signal.specs.Fields.{EachSpells}
use Rattle.l1_signal.specs.L1Dynamic.{dyn_front_rows, dyn_plp_rows, dyn_back_rows, dyn_front, dyn_back, dyn_plp_at}
use Rattle.l1_signal.specs.L1Dynamic.{dyn_at}
use Rattle.l1_signal.specs.L1Dynamic.{dyn_plp_read, dyn_end, dyn_plps, dyn_read, DynSpells, dyn_bits, DynFits}
use Rattle.l1_signal.specs.Laws.{DynReadBack, DynIsSpelled, DynReadSpelled}
use Rattle.l1_signal.proofs.ReadLemmas.{went, fits_len, pow_pos}
use Rattle.l1_signal.proofs.RowLemmas.{length-spells, length-each, Front, was_spelled, spelled_values, spelled_back}
use Rattle.l1_signal.proofs.RowLemmas.{values_spelled, read_fits, spells_fits, each_back, each_spelled, each_fits}
use Rattle.l1_signal.proofs.RowLemmas.{written_spells}
use Rattle.l1_signal.proofs.RowLemmas.{written_each}

pub back_fits : (dynamic : L1Dyn) → RowsFit dyn_back_rows dynamic
unfolding RowsFit Fits
back_fits dynamic = (pow_pos 8, refl, tt)

-- ---- one PLP
plp_listed : (vs : List ℕ) → length vs ≡ 4 → vs ≡ values dyn_plp_rows (dyn_plp_at vs) (slice_index vs 3 ∷ [])
plp_listed vs e = fill_by_all (λ (k : ℕ). get_or vs k 0) vs 4 0 e (λ k lt. refl)

plp_back : (plp : DynPlp) (bits rest : List Bool) → Spells dyn_plp_rows plp bits
    → dyn_plp_read (bits ++ rest) ≡ Ok (plp, rest)
unfolding dyn_plp_read
plp_back plp bits rest s = spelled_back dyn_plp_rows dyn_plp_at (λ x ignored. refl) plp bits rest s

plp_front : (all : List Bool) (plp : DynPlp) (rest : List Bool) → dyn_plp_read all ≡ Ok (plp, rest)
    → Front dyn_plp_rows plp all rest
unfolding dyn_plp_read
plp_front all plp rest e = was_spelled dyn_plp_rows dyn_plp_at (λ vs. slice_index vs 3 ∷ []) plp_listed all plp rest e

-- ---- the steps of the reading
pub front_refused : (count : ℕ) (a : List Bool) (fault : L1Fault) → values_of dyn_front a ≡ Err fault
    → dyn_read count a ≡ Err fault
unfolding dyn_read
front_refused count a fault f = rw f refl

front_done : (count : ℕ) (a b : List Bool) (front : List ℕ) → values_of dyn_front a ≡ Ok (front, b)
    → dyn_read count a ≡ dyn_plps count front b
unfolding dyn_read
front_done count a b front f = rw f refl

pub plps_refused : (count : ℕ) (a b : List Bool) (front : List ℕ) (fault : L1Fault)
    → values_of dyn_front a ≡ Ok (front, b)
    → each_read (replicate count dyn_plp_read) b ≡ Err fault → dyn_read count a ≡ Err fault
plps_refused count a b front fault f p = front_done count a b front f
    ∙ ap (λ (r : Reading (List DynPlp)). after r (dyn_end front)) p

plps_done : (count : ℕ) (a b c : List Bool) (front : List ℕ) (plps : List DynPlp)
    → values_of dyn_front a ≡ Ok (front, b)
    → each_read (replicate count dyn_plp_read) b ≡ Ok (plps, c) → dyn_read count a ≡ dyn_end front plps c
plps_done count a b c front plps f p = front_done count a b front f
    ∙ ap (λ (r : Reading (List DynPlp)). after r (dyn_end front)) p

pub back_refused : (count : ℕ) (a b c : List Bool) (front : List ℕ) (plps : List DynPlp) (fault : L1Fault)
    → values_of dyn_front a
    ≡ Ok (front, b) → each_read (replicate count dyn_plp_read) b ≡ Ok (plps, c) →
    values_of dyn_back c ≡ Err fault → dyn_read count a ≡ Err fault
back_refused count a b c front plps fault f p l = plps_done count a b c front plps f p ∙ rw l refl

pub dyn_done : (count : ℕ) (a b c rest : List Bool) (front : List ℕ) (plps : List DynPlp) (back : List ℕ)
    (dynamic : L1Dyn)
    → values_of dyn_front a ≡ Ok (front, b) →
    each_read (replicate count dyn_plp_read) b ≡ Ok (plps, c) → values_of dyn_back c ≡ Ok (back, rest)
    → dynamic ≡ dyn_at front plps → dyn_read count a ≡ Ok (dynamic, rest)
dyn_done count a b c rest front plps back dynamic f p l at = plps_done count a b c front plps f p ∙ rw (l, at) refl

-- ---- what is spelled is read
three_parts : (f p b rest : List Bool) → (f ++ p ++ b) ++ rest ≡ f ++ (p ++ (b ++ rest))
three_parts f p b rest = simp append_assoc

pub dyn_read_back : DynReadBack
dyn_read_back dynamic front rest s =
    let all : front ++ rest ≡ s.front ++ (s.plps ++ (s.back ++ rest)) = ap (λ (l : List Bool). l ++ rest) s.whole
    ∙ three_parts s.front s.plps s.back rest in
    ap (dyn_read (length dynamic.plps)) all
    ∙ dyn_done (length dynamic.plps) (s.front ++ (s.plps ++ (s.back ++ rest))) (s.plps ++ (s.back ++ rest))
    (s.back ++ rest) rest
    (values dyn_front_rows dynamic s.front_spells.ignored) dynamic.plps (values dyn_back_rows dynamic
    s.back_spells.ignored)
    dynamic
    (spelled_values dyn_front_rows dynamic s.front (s.plps ++ (s.back ++ rest)) s.front_spells)
    (each_back dyn_plp_rows dyn_plp_read plp_back dynamic.plps s.plps (s.back ++ rest) s.plps_spell)
    (spelled_values dyn_back_rows dynamic s.back rest s.back_spells) refl

-- ---- what is read is spelled so
front_listed : (vs : List ℕ) (plps : List DynPlp) → length vs ≡ 6
    → vs ≡ values dyn_front_rows (dyn_at vs plps) (slice_index vs 5 ∷ [])
front_listed vs plps e = fill_by_all (λ (k : ℕ). get_or vs k 0) vs 6 0 e (λ k lt. refl)

in_order : (all b c rest f p k : List Bool) → all ≡ f ++ b → b ≡ p ++ c → c ≡ k ++ rest → all ≡ (f ++ p ++ k) ++ rest
in_order all b c rest f p k x y z = x ∙ ap (λ (l : List Bool). f ++ l) (y ∙ ap (λ (l : List Bool). p ++ l) z)
    ∙ sym (three_parts f p k rest)

-- the parts that were read
record Parts (count : ℕ) (all : List Bool) (dynamic : L1Dyn) (rest : List Bool) : Type 0 where
  pub front : List ℕ
  pub plps : List DynPlp
  pub back : List ℕ
  pub b : List Bool
  pub c : List Bool
  pub front_read : values_of dyn_front all ≡ Ok (front, b)
  pub plps_read : each_read (replicate count dyn_plp_read) b ≡ Ok (plps, c)
  pub back_read : values_of dyn_back c ≡ Ok (back, rest)
  pub at : dyn_at front plps ≡ dynamic

parts_of : (count : ℕ) (all : List Bool) (dynamic : L1Dyn) (rest : List Bool) → dyn_read count all ≡ Ok (dynamic, rest)
    → Parts count all dynamic rest
unfolding dyn_read
parts_of count all dynamic rest e =
    let f = went (values_of dyn_front all) (dyn_plps count) (dynamic, rest) e in
    let p = went (each_read (replicate count dyn_plp_read) f.rest) (dyn_end f.first) (dynamic, rest) f.more in
    let l = went (values_of dyn_back p.rest) (λ back more. Ok (dyn_at f.first p.first, more)) (dynamic, rest) p.more in
    let t : (dyn_at f.first p.first, l.rest) ≡ (dynamic, rest) = cc in
    let end : l.rest ≡ rest = ap (λ (x : L1Dyn × List Bool). x.1) t in
    record {
      front = f.first;
      plps = p.first;
      back = l.first;
      b = f.rest;
      c = p.rest;
      front_read = f.read;
      plps_read = p.read;
      back_read = l.read ∙ ap (λ (x : List Bool). Ok (l.first, x)) end;
      at = ap (λ (x : L1Dyn × List Bool). x.0) t;
    }

spelled_at : (count : ℕ) (all : List Bool) (dynamic : L1Dyn) (rest : List Bool) → Parts count all dynamic rest
    → DynIsSpelled count all dynamic rest
spelled_at count all dynamic rest r =
    let front_len = fits_len dyn_front r.front (read_fits dyn_front all r.front r.b r.front_read) in
    let back_len = fits_len dyn_back r.back (read_fits dyn_back r.c r.back rest r.back_read) in
    let plps_is : r.plps ≡ dynamic.plps = ap (λ (x : L1Dyn). x.plps) r.at in
    let f = values_spelled dyn_front_rows dynamic (slice_index r.front 5 ∷ []) all r.front r.b r.front_read
    (front_listed r.front r.plps front_len ∙ ap (λ (x : L1Dyn). values dyn_front_rows x (slice_index r.front 5 ∷ []))
    r.at) in
    let p = each_spelled dyn_plp_rows dyn_plp_read plp_front count r.b r.plps r.c r.plps_read in
    let k = values_spelled dyn_back_rows dynamic (slice_index r.back 0 ∷ []) r.c r.back rest r.back_read
    (one_listed r.back back_len) in
    record {
      count = sym (ap length plps_is) ∙ p.count;
      front = f.bits ++ p.bits ++ k.bits;
      spells = record {
        front = f.bits;
        plps = p.bits;
        back = k.bits;
        front_spells = f.spells;
        plps_spell = subst (λ (l : List DynPlp). EachSpells dyn_plp_rows l p.bits) plps_is p.spell;
        back_spells = k.spells;
        whole = refl;
      };
      whole = in_order all r.b r.c rest f.bits p.bits k.bits f.whole p.whole k.whole;
    }

pub dyn_was_spelled : DynReadSpelled
dyn_was_spelled count all dynamic rest e = spelled_at count all dynamic rest (parts_of count all dynamic rest e)

-- what was read can be written, and what is written spells it
pub read_dyn_fits : (count : ℕ) (all : List Bool) (dynamic : L1Dyn) (rest : List Bool)
    → dyn_read count all ≡ Ok (dynamic, rest)
    → DynFits dynamic
read_dyn_fits count all dynamic rest e =
    let s = (dyn_was_spelled count all dynamic rest e).spells in
    record {
      front = spells_fits dyn_front_rows dynamic s.front s.front_spells;
      plps = each_fits dyn_plp_rows dynamic.plps s.plps s.plps_spell;
    }

pub dyn_written : (dynamic : L1Dyn) → DynFits dynamic → DynSpells dynamic (dyn_bits dynamic)
unfolding dyn_bits
dyn_written dynamic h = record {
  front = row_bits dyn_front_rows dynamic;
  plps = flat_map (row_bits dyn_plp_rows) dynamic.plps;
  back = row_bits dyn_back_rows dynamic;
  front_spells = written_spells dyn_front_rows dynamic h.front;
  plps_spell = written_each dyn_plp_rows dynamic.plps h.plps;
  back_spells = written_spells dyn_back_rows dynamic (back_fits dynamic);
  whole = refl;
}

pub dyn_length : (dynamic : L1Dyn) (bits : List Bool) → DynSpells dynamic bits
    → length bits ≡ 79 + 48 * length dynamic.plps
dyn_length dynamic bits s =
    let f = length-spells dyn_front_rows dynamic s.front s.front_spells in
    let p = length-each dyn_plp_rows dynamic.plps s.plps s.plps_spell in
    let b = length-spells dyn_back_rows dynamic s.back s.back_spells in
    let all = ap length s.whole ∙ length-append (s.front ++ s.plps) s.back in
    omega (arith, f, p, b, all, length-append s.front s.plps)
