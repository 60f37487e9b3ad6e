-- The configurable part: its reading step by step, and its laws.
use Rattle.std.proofs.Common.{◌≡◌, ◌≢◌, ℕ, ◌+◌, ◌*◌, ◌==◌, Bool, true, false, List, [], ◌∷◌, ◌++◌, length, get_or}
use Rattle.std.proofs.Common.{replicate, Ok}
use Rattle.std.proofs.Common.{Err, refl, ap, sym, subst, ◌∙◌, arith, append_assoc, length-append}
use Rattle.std.specs.Prelude.{slice_index}
use Rattle.std.specs.List.{flat_map}
use Rattle.std.proofs.lemmas.Bool.{eq-eqb, ne_eqb, eqb-true}
use Rattle.std.proofs.lemmas.List.FromFn.{fill_by_all}
use Rattle.l1_signal.specs.declared.fault.L1Fault.{L1Fault}
use Rattle.l1_signal.specs.declared.fault.L1Fault.TheVariants.{Size}
use Rattle.l1_signal.specs.declared.conf.L1Conf.{L1Conf}
use Rattle.l1_signal.specs.declared.conf_plp.ConfPlp.{ConfPlp}
use Rattle.l1_signal.specs.Fields.{values, Reading, after, values_of, each_read, Spells, row_bits, EachSpells}
use Rattle.l1_signal.specs.L1Configurable.{conf_first_rows, conf_more_rows, conf_plp_rows, conf_back_rows, conf_first}
use Rattle.l1_signal.specs.L1Configurable.{conf_more}
use Rattle.l1_signal.specs.L1Configurable.{conf_back, conf_plp_at, conf_at, info_size, conf_plp_read, conf_end}
use Rattle.l1_signal.specs.L1Configurable.{conf_plps}
use Rattle.l1_signal.specs.L1Configurable.{conf_sized, conf_read, ConfSpells, conf_bits, ConfFits}
use Rattle.l1_signal.specs.Laws.{ConfReadBack, ConfIsSpelled, ConfReadSpelled}
use Rattle.l1_signal.proofs.ReadLemmas.{went, fits_len}
use Rattle.l1_signal.proofs.RowLemmas.{length-spells, length-each, Front, was_spelled, spelled_values, spelled_back}
use Rattle.l1_signal.proofs.RowLemmas.{values_spelled, read_fits, spells_fits, each_back, each_spelled, each_fits}
use Rattle.l1_signal.proofs.RowLemmas.{written_spells}
use Rattle.l1_signal.proofs.RowLemmas.{written_each}

-- ---- one PLP
plp_listed : (vs : List ℕ) → length vs ≡ 21 → vs ≡ values conf_plp_rows (conf_plp_at vs) (slice_index vs 17 ∷ [])
plp_listed vs e = fill_by_all (λ (k : ℕ). get_or vs k 0) vs 21 0 e (λ k lt. refl)

pub plp_back : (plp : ConfPlp) (bits rest : List Bool) → Spells conf_plp_rows plp bits → conf_plp_read (bits ++ rest)
    ≡ Ok (plp, rest)
unfolding conf_plp_read
plp_back plp bits rest s = spelled_back conf_plp_rows conf_plp_at (λ x ignored. refl) plp bits rest s

pub plp_front : (all : List Bool) (plp : ConfPlp) (rest : List Bool) → conf_plp_read all ≡ Ok (plp, rest)
    → Front conf_plp_rows plp all rest
unfolding conf_plp_read
plp_front all plp rest e = was_spelled conf_plp_rows conf_plp_at (λ vs. slice_index vs 17 ∷ []) plp_listed
    all plp rest e

-- ---- the steps of the reading
pub first_refused : (told : ℕ) (a : List Bool) (fault : L1Fault) → values_of conf_first a ≡ Err fault
    → conf_read told a ≡ Err fault
unfolding conf_read
first_refused told a fault f = rw f refl

first_done : (told : ℕ) (a b : List Bool) (first : List ℕ) → values_of conf_first a ≡ Ok (first, b)
    → conf_read told a ≡ conf_sized told first b
unfolding conf_read
first_done told a b first f = rw f refl

pub size_refused : (told counted : ℕ) (a b : List Bool) (first : List ℕ) → values_of conf_first a ≡ Ok (first, b)
    → counted ≡ info_size (slice_index first 1) → told ≢ counted → conf_read told a ≡ Err (Size told counted)
size_refused told counted a b first f e ne = first_done told a b first f ∙ rw (← e, ne_eqb told counted ne) refl

size_done : (told : ℕ) (a b : List Bool) (first : List ℕ) → values_of conf_first a ≡ Ok (first, b)
    → told ≡ info_size (slice_index first 1) → conf_read told a ≡ after (values_of conf_more b) (conf_plps first)
size_done told a b first f e = first_done told a b first f ∙ rw (eq-eqb told (info_size (slice_index first 1)) e) refl

pub more_refused : (told : ℕ) (a b : List Bool) (first : List ℕ) (fault : L1Fault)
    → values_of conf_first a ≡ Ok (first, b)
    → told ≡ info_size (slice_index first 1) → values_of conf_more b ≡ Err fault → conf_read told a ≡ Err fault
more_refused told a b first fault f e m = size_done told a b first f e ∙ rw m refl

more_done : (told : ℕ) (a b c : List Bool) (first more : List ℕ) → values_of conf_first a ≡ Ok (first, b)
    → told ≡ info_size (slice_index first 1) → values_of conf_more b ≡ Ok (more, c)
    → conf_read told a ≡ conf_plps first more c
more_done told a b c first more f e m = size_done told a b first f e ∙ rw m refl

pub plps_refused : (told count : ℕ) (a b c : List Bool) (first more : List ℕ) (fault : L1Fault) → values_of conf_first a
    ≡ Ok (first, b) → told ≡ info_size (slice_index first 1) → values_of conf_more b ≡ Ok (more, c) →
    count ≡ slice_index first 1 → each_read (replicate count conf_plp_read) c ≡ Err fault → conf_read told a ≡ Err fault
plps_refused told count a b c first more fault f e m is p =
    more_done told a b c first more f e m ∙ ap (λ (n : ℕ). after (each_read (replicate n conf_plp_read) c)
    (conf_end first more))
    (sym is)
    ∙ ap (λ (r : Reading (List ConfPlp)). after r (conf_end first more)) p

plps_done : (told count : ℕ) (a b c d : List Bool) (first more : List ℕ) (plps : List ConfPlp) → values_of conf_first a
    ≡ Ok (first, b) → told ≡ info_size (slice_index first 1) → values_of conf_more b ≡ Ok (more, c) →
    count ≡ slice_index first 1 → each_read (replicate count conf_plp_read) c ≡ Ok (plps, d)
    → conf_read told a ≡ conf_end first more plps d
plps_done told count a b c d first more plps f e m is p =
    more_done told a b c first more f e m ∙ ap (λ (n : ℕ). after (each_read (replicate n conf_plp_read) c)
    (conf_end first more))
    (sym is)
    ∙ ap (λ (r : Reading (List ConfPlp)). after r (conf_end first more)) p

pub back_refused : (told count : ℕ) (a b c d : List Bool) (first more : List ℕ) (plps : List ConfPlp) (fault : L1Fault)
    → values_of conf_first a ≡ Ok (first, b) → told ≡ info_size (slice_index first 1) →
    values_of conf_more b ≡ Ok (more, c) → count ≡ slice_index first 1 → each_read (replicate count conf_plp_read) c
    ≡ Ok (plps, d) → values_of conf_back d ≡ Err fault → conf_read told a ≡ Err fault
back_refused told count a b c d first more plps fault f e m is p l = plps_done told count a b c d first
    more plps f e m is p
    ∙ rw l refl

pub conf_done : (told count : ℕ) (a b c d rest : List Bool) (first more : List ℕ) (plps : List ConfPlp) (back : List ℕ)
    (conf : L1Conf) → values_of conf_first a ≡ Ok (first, b) → told ≡ info_size (slice_index first 1) →
    values_of conf_more b ≡ Ok (more, c) → count ≡ slice_index first 1 → each_read (replicate count conf_plp_read) c
    ≡ Ok (plps, d) → values_of conf_back d ≡ Ok (back, rest) → conf ≡ conf_at first more plps back →
    conf_read told a ≡ Ok (conf, rest)
conf_done told count a b c d rest first more plps back conf f e m is p l at =
    plps_done told count a b c d first more plps f e m is p ∙ rw (l, at) refl

-- ---- what is spelled is read
pub four_parts : (f m p b rest : List Bool) → (f ++ m ++ p ++ b) ++ rest ≡ f ++ (m ++ (p ++ (b ++ rest)))
four_parts f m p b rest = simp append_assoc

pub conf_read_back : ConfReadBack
conf_read_back conf front rest s =
    let all : front ++ rest ≡ s.first ++ (s.more ++ (s.plps ++ (s.back ++ rest))) = ap (λ (l : List Bool). l ++ rest)
    s.whole
    ∙ four_parts s.first s.more s.plps s.back rest in
    let told = info_size (length conf.plps) in
    ap (conf_read told) all
    ∙ conf_done told (length conf.plps) (s.first ++ (s.more ++ (s.plps ++ (s.back ++ rest))))
    (s.more ++ (s.plps ++ (s.back ++ rest))) (s.plps ++ (s.back ++ rest)) (s.back ++ rest) rest
    (values conf_first_rows conf s.first_spells.ignored) (values conf_more_rows conf s.more_spells.ignored) conf.plps
    (values conf_back_rows conf s.back_spells.ignored) conf
    (spelled_values conf_first_rows conf s.first (s.more ++ (s.plps ++ (s.back ++ rest))) s.first_spells)
    (ap info_size (sym s.count))
    (spelled_values conf_more_rows conf s.more (s.plps ++ (s.back ++ rest)) s.more_spells) (sym s.count)
    (each_back conf_plp_rows conf_plp_read plp_back conf.plps s.plps (s.back ++ rest) s.plps_spell)
    (spelled_values conf_back_rows conf s.back rest s.back_spells) refl

-- ---- what is read is spelled so
two_listed : (vs : List ℕ) → length vs ≡ 2 → vs ≡ slice_index vs 0 ∷ slice_index vs 1 ∷ []
two_listed vs e = fill_by_all (λ (k : ℕ). get_or vs k 0) vs 2 0 e (λ k lt. refl)

four_listed : (vs : List ℕ) → length vs ≡ 4 → vs ≡ slice_index vs 0 ∷ slice_index vs 1 ∷ slice_index
    vs 2 ∷ slice_index vs 3 ∷ []
four_listed vs e = fill_by_all (λ (k : ℕ). get_or vs k 0) vs 4 0 e (λ k lt. refl)

-- the parts that were read
pub record Parts (told : ℕ) (all : List Bool) (conf : L1Conf) (rest : List Bool) : Type 0 where
  pub first : List ℕ
  pub more : List ℕ
  pub plps : List ConfPlp
  pub back : List ℕ
  pub b : List Bool
  pub c : List Bool
  pub d : List Bool
  pub first_read : values_of conf_first all ≡ Ok (first, b)
  pub size : told ≡ info_size (slice_index first 1)
  pub more_read : values_of conf_more b ≡ Ok (more, c)
  pub plps_read : each_read (replicate (slice_index first 1) conf_plp_read) c ≡ Ok (plps, d)
  pub back_read : values_of conf_back d ≡ Ok (back, rest)
  pub at : conf_at first more plps back ≡ conf

sized : (told : ℕ) (same : Bool) (first : List ℕ) (b : List Bool) (y : L1Conf × List Bool)
    → (told == info_size (slice_index first 1)) ≡ same → conf_sized told first b ≡ Ok y →
    (told ≡ info_size (slice_index first 1)) × (after (values_of conf_more b) (conf_plps first) ≡ Ok y)
sized told true first b y t e = (eqb-true told (info_size (slice_index first 1)) t, rw t at e)
sized told false first b y t e = absurd (let h = rw t at e in cc)

pub parts_of : (told : ℕ) (all : List Bool) (conf : L1Conf) (rest : List Bool) → conf_read told all ≡ Ok (conf, rest)
    → Parts told all conf rest
unfolding conf_read
parts_of told all conf rest e =
    let f = went (values_of conf_first all) (conf_sized told) (conf, rest) e in
    let s = sized told _ f.first f.rest (conf, rest) refl f.more in
    let m = went (values_of conf_more f.rest) (conf_plps f.first) (conf, rest) s.1 in
    let p = went (each_read (replicate (slice_index f.first 1) conf_plp_read) m.rest) (conf_end f.first m.first)
    (conf, rest) m.more in
    let l = went (values_of conf_back p.rest) (λ back more. Ok (conf_at f.first m.first p.first back, more))
    (conf, rest) p.more in
    let t : (conf_at f.first m.first p.first l.first, l.rest) ≡ (conf, rest) = cc in
    let end : l.rest ≡ rest = ap (λ (x : L1Conf × List Bool). x.1) t in
    record {
      first = f.first;
      more = m.first;
      plps = p.first;
      back = l.first;
      b = f.rest;
      c = m.rest;
      d = p.rest;
      first_read = f.read;
      size = s.0;
      more_read = m.read;
      plps_read = p.read;
      back_read = l.read ∙ ap (λ (x : List Bool). Ok (l.first, x)) end;
      at = ap (λ (x : L1Conf × List Bool). x.0) t;
    }

in_order : (all b c d rest f m p k : List Bool) → all ≡ f ++ b → b ≡ m ++ c → c ≡ p ++ d → d ≡ k ++ rest
    → all ≡ (f ++ m ++ p ++ k) ++ rest
in_order all b c d rest f m p k x y z w = grind (arith, four_parts)

pub spelled_at : (told : ℕ) (all : List Bool) (conf : L1Conf) (rest : List Bool) → Parts told all conf rest
    → ConfIsSpelled told all conf rest
spelled_at told all conf rest r =
    let first_len = fits_len conf_first r.first (read_fits conf_first all r.first r.b r.first_read) in
    let more_len = fits_len conf_more r.more (read_fits conf_more r.b r.more r.c r.more_read) in
    let back_len = fits_len conf_back r.back (read_fits conf_back r.d r.back rest r.back_read) in
    let zero_is : slice_index r.first 0 ≡ conf.sub_slices_per_frame = ap (λ (x : L1Conf). x.sub_slices_per_frame)
    r.at in
    let one_is : slice_index r.first 1 ≡ conf.num_plp = ap (λ (x : L1Conf). x.num_plp) r.at in
    let aux_is : slice_index r.more 0 ≡ conf.num_aux = ap (λ (x : L1Conf). x.num_aux) r.at in
    let rf_is : slice_index r.more 2 ≡ conf.rf_idx = ap (λ (x : L1Conf). x.rf_idx) r.at in
    let frequency_is : slice_index r.more 3 ≡ conf.frequency = ap (λ (x : L1Conf). x.frequency) r.at in
    let plps_is : r.plps ≡ conf.plps = ap (λ (x : L1Conf). x.plps) r.at in
    let fef_is : slice_index r.back 0 ≡ conf.fef_length_msb = ap (λ (x : L1Conf). x.fef_length_msb) r.at in
    let f = values_spelled conf_first_rows conf [] all r.first r.b r.first_read
    (two_listed r.first first_len ∙ rw (zero_is, one_is) refl) in
    let m = values_spelled conf_more_rows conf (slice_index r.more 1 ∷ []) r.b r.more r.c r.more_read
    (four_listed r.more more_len ∙ rw (aux_is, rf_is, frequency_is) refl) in
    let p = each_spelled conf_plp_rows conf_plp_read plp_front (slice_index r.first 1) r.c r.plps r.d r.plps_read in
    let k = values_spelled conf_back_rows conf (slice_index r.back 1 ∷ []) r.d r.back rest r.back_read
    (two_listed r.back back_len ∙ rw fef_is refl) in
    let count : conf.num_plp ≡ length conf.plps = sym one_is ∙ sym p.count ∙ ap length plps_is in
    record {
      size = r.size ∙ ap info_size (one_is ∙ count);
      front = f.bits ++ m.bits ++ p.bits ++ k.bits;
      spells = record {
        first = f.bits;
        more = m.bits;
        plps = p.bits;
        back = k.bits;
        first_spells = f.spells;
        more_spells = m.spells;
        plps_spell = subst (λ (l : List ConfPlp). EachSpells conf_plp_rows l p.bits) plps_is p.spell;
        back_spells = k.spells;
        whole = refl;
        count = count;
      };
      whole = in_order all r.b r.c r.d rest f.bits m.bits p.bits k.bits f.whole m.whole p.whole k.whole;
    }

pub conf_was_spelled : ConfReadSpelled
conf_was_spelled told all conf rest e = spelled_at told all conf rest (parts_of told all conf rest e)

-- what was read can be written, and what is written spells it
pub spelled_fits : (conf : L1Conf) (bits : List Bool) → ConfSpells conf bits → ConfFits conf
spelled_fits conf bits s = record {
  first = spells_fits conf_first_rows conf s.first s.first_spells;
  more = spells_fits conf_more_rows conf s.more s.more_spells;
  plps = each_fits conf_plp_rows conf.plps s.plps s.plps_spell;
  back = spells_fits conf_back_rows conf s.back s.back_spells;
  count = s.count;
}

pub read_conf_fits : (told : ℕ) (all : List Bool) (conf : L1Conf) (rest : List Bool)
    → conf_read told all ≡ Ok (conf, rest)
    → ConfFits conf
read_conf_fits told all conf rest e = let s = conf_was_spelled told all conf rest e in spelled_fits conf
    s.front s.spells

pub conf_written : (conf : L1Conf) → ConfFits conf → ConfSpells conf (conf_bits conf)
unfolding conf_bits
conf_written conf h = record {
  first = row_bits conf_first_rows conf;
  more = row_bits conf_more_rows conf;
  plps = flat_map (row_bits conf_plp_rows) conf.plps;
  back = row_bits conf_back_rows conf;
  first_spells = written_spells conf_first_rows conf h.first;
  more_spells = written_spells conf_more_rows conf h.more;
  plps_spell = written_each conf_plp_rows conf.plps h.plps;
  back_spells = written_spells conf_back_rows conf h.back;
  whole = refl;
  count = h.count;
}

pub conf_length : (conf : L1Conf) (bits : List Bool) → ConfSpells conf bits → length bits ≡ 102 + 89 * length conf.plps
conf_length conf bits s =
    let f = length-spells conf_first_rows conf s.first s.first_spells in
    let m = length-spells conf_more_rows conf s.more s.more_spells in
    let p = length-each conf_plp_rows conf.plps s.plps s.plps_spell in
    let b = length-spells conf_back_rows conf s.back s.back_spells in
    let all = ap length s.whole ∙ length-append (s.first ++ s.more ++ s.plps) s.back in
    omega (arith, f, m, p, b, all, length-append (s.first ++ s.more) s.plps, length-append s.first s.more)
