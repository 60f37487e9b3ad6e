-- A configuration is told by its rows.
use Rattle.std.proofs.Common.{◌+◌, ◌<◌, ◌≤◌, length, subst, arith, ℕ, suc, ◌≡◌, ◌∷◌, ◌∙◌, List, [], Bool, true, false}
use Rattle.std.proofs.Common.{ap, sym, refl, map, drop, get_or}
use Rattle.config_text.specs.Fields.{frame_fields, start_fields, network_fields, l1_fields, plp_fields}
use Rattle.config_text.specs.Words.{first_values, FitFields, FitLines}
use Rattle.config_text.specs.declared.field.Field.{Field}
use Rattle.config_text.specs.declared.field.Field.TheVariants.{Bandwidth, Number16}
use Rattle.config_text.proofs.DraftLemmas.{fields_later}
use Rattle.config_text.proofs.FieldLemmas.{first_values-take}
use Rattle.std.proofs.lemmas.List.{get_or-map, take_all}
use Rattle.std.proofs.lemmas.List.FromFn.{get_or-range_with_len}
use Rattle.std.specs.List.{range_with_len}
use Rattle.std.specs.Prelude.{slice_index_or}
use Rattle.plp_config.specs.declared.band.Band.{Band}
use Rattle.plp_config.specs.declared.band.Band.TheVariants.{Mhz1_7, Mhz5, Mhz6, Mhz7, Mhz8, Mhz10}
use Rattle.plp_config.specs.declared.config.Config.{Config}
use Rattle.plp_config.specs.declared.plp.Plp.{Plp}
use Rattle.plp_config.specs.Plps.{type_number}
use Rattle.plp_config.specs.declared.plp.PlpType.{PlpType}
use Rattle.plp_config.specs.declared.plp.PlpType.TheVariants.{Common, Type1, Type2}
use Rattle.plp_config.specs.declared.plp.FecSize.{FecSize}
use Rattle.plp_config.specs.declared.plp.FecSize.TheVariants.{Short, Normal}
use Rattle.plp_config.specs.declared.plp.Rate.{Rate}
use Rattle.plp_config.specs.declared.plp.Rate.TheVariants.{R1_2, R3_5, R2_3, R3_4, R4_5, R5_6}
use Rattle.plp_config.specs.declared.plp.Modulation.{Modulation}
use Rattle.plp_config.specs.declared.plp.Modulation.TheVariants.{Qpsk, Qam16, Qam64, Qam256}
use Rattle.config_text.specs.Rows.{rows_of, plp_row, bit_place, deletion_place}
use Rattle.plp_config.specs.Tables.{bw, plp_cod, plp_mod, plp_fec_type}

-- ---- all values of a type, in the order of their places: each is found at its place

-- what stands at a place has that place, if the places of all count from 0
put : {A : Type 0} (place : A → ℕ) (all : List A) (d : A) → map place all ≡ range_with_len 0 (length all)
    → (n : ℕ) → n < length all → place (get_or all n d) ≡ n
put place all d counted n inside =
    let start : 0 + n ≡ n = omega arith in
    sym (get_or-map place all n d 0 inside) ∙ ap (λ (places : List ℕ). get_or places n 0) counted
    ∙ get_or-range_with_len 0 (length all) n 0 inside
    ∙ start

abbrev all_bands : List Band
all_bands = Mhz1_7 ∷ Mhz5 ∷ Mhz6 ∷ Mhz7 ∷ Mhz8 ∷ Mhz10 ∷ []

band_found : (x : Band) → get_or all_bands (bw x) Mhz1_7 ≡ x
band_found Mhz1_7 = refl
band_found Mhz5 = refl
band_found Mhz6 = refl
band_found Mhz7 = refl
band_found Mhz8 = refl
band_found Mhz10 = refl

abbrev all_types : List PlpType
all_types = Common ∷ Type1 ∷ Type2 ∷ []

type_found : (x : PlpType) → get_or all_types (type_number x) Type1 ≡ x
type_found Common = refl
type_found Type1 = refl
type_found Type2 = refl

abbrev all_rates : List Rate
all_rates = R1_2 ∷ R3_5 ∷ R2_3 ∷ R3_4 ∷ R4_5 ∷ R5_6 ∷ []

rate_found : (x : Rate) → get_or all_rates (plp_cod x) R1_2 ≡ x
rate_found R1_2 = refl
rate_found R3_5 = refl
rate_found R2_3 = refl
rate_found R3_4 = refl
rate_found R4_5 = refl
rate_found R5_6 = refl

abbrev all_modulations : List Modulation
all_modulations = Qpsk ∷ Qam16 ∷ Qam64 ∷ Qam256 ∷ []

modulation_found : (x : Modulation) → get_or all_modulations (plp_mod x) Qpsk ≡ x
modulation_found Qpsk = refl
modulation_found Qam16 = refl
modulation_found Qam64 = refl
modulation_found Qam256 = refl

abbrev all_sizes : List FecSize
all_sizes = Short ∷ Normal ∷ []

size_found : (x : FecSize) → get_or all_sizes (plp_fec_type x) Short ≡ x
size_found Short = refl
size_found Normal = refl

abbrev all_bits : List Bool
all_bits = false ∷ true ∷ []

bit_found : (x : Bool) → get_or all_bits (bit_place x) false ≡ x
bit_found false = refl
bit_found true = refl

abbrev all_deletions : List Bool
all_deletions = true ∷ false ∷ []

deletion_found : (x : Bool) → get_or all_deletions (deletion_place x) true ≡ x
deletion_found true = refl
deletion_found false = refl

-- ---- rows that fit

row_count : (fs : List Field) (ns : List ℕ) → FitFields fs ns → length ns ≡ length fs
row_count [] [] fits = refl
row_count [] (n ∷ ns) fits = absurd fits
row_count (f ∷ fs) [] fits = absurd fits
row_count (f ∷ fs) (n ∷ ns) fits = ap (λ (k : ℕ). suc k) (row_count fs ns fits.1)

row_values : (fs : List Field) (ns : List ℕ) → FitFields fs ns → first_values (length fs) ns ≡ ns
row_values fs ns fits = first_values-take (length fs) ns (omega (arith, row_count fs ns fits))
    ∙ take_all (length fs) ns (omega (arith, row_count fs ns fits))

-- a fact of the values in their places
placed : (fs : List Field) (ns : List ℕ) → FitFields fs ns → FitFields fs (first_values (length fs) ns)
placed fs ns fits = subst (λ (l : List ℕ). FitFields fs l) (sym (row_values fs ns fits)) fits

abbrev pub plp_from : List ℕ → Plp
plp_from row = record {
  id = get_or row 0 0;
  plp_type = get_or all_types (get_or row 1 0) Type1;
  group = get_or row 2 0;
  rate = get_or all_rates (get_or row 3 0) R1_2;
  modulation = get_or all_modulations (get_or row 4 0) Qpsk;
  fec = get_or all_sizes (get_or row 5 0) Short;
  rotation = get_or all_bits (get_or row 6 0) false;
  blocks = get_or row 7 0;
  interleave = get_or row 8 0;
  delete = get_or all_deletions (get_or row 9 0) true;
  bits_per_second = get_or row 10 0;
  spread = get_or row 11 0;
}

-- a PLP is told by its row
plp_found : (p : Plp) → plp_from (plp_row p) ≡ p
plp_found p = λ i. record p {
  plp_type = type_found p.plp_type i;
  rate = rate_found p.rate i;
  modulation = modulation_found p.modulation i;
  fec = size_found p.fec i;
  rotation = bit_found p.rotation i;
  delete = deletion_found p.delete i;
}

-- and PLPs by their rows
plps_found : (ps : List Plp) → map plp_from (map plp_row ps) ≡ ps
plps_found [] = refl
plps_found (p ∷ ps) = λ i. plp_found p i ∷ plps_found ps i

-- a row that fits is that of a PLP
pub plp_put : (row : List ℕ) → FitFields plp_fields row → plp_row (plp_from row) ≡ row
plp_put row fits =
    let at : FitFields plp_fields (first_values 12 row) = placed plp_fields row fits in
    let type_is = put type_number all_types Type1 refl (get_or row 1 0) at.1.0 in
    let rate_is = put plp_cod all_rates R1_2 refl (get_or row 3 0) at.1.1.1.0 in
    let modulation_is = put plp_mod all_modulations Qpsk refl (get_or row 4 0) at.1.1.1.1.0 in
    let size_is = put plp_fec_type all_sizes Short refl (get_or row 5 0) at.1.1.1.1.1.0 in
    let bit_is = put bit_place all_bits false refl (get_or row 6 0) at.1.1.1.1.1.1.0 in
    let deletion_is = put deletion_place all_deletions true refl (get_or row 9 0) at.1.1.1.1.1.1.1.1.1.0 in
    (λ i. get_or row 0 0 ∷ type_is i ∷ get_or row 2 0 ∷ rate_is i ∷ modulation_is i ∷ size_is i ∷ bit_is
    i ∷ get_or row 7 0
    ∷ get_or row 8 0 ∷ deletion_is i ∷ get_or row 10 0 ∷ get_or row 11 0 ∷ [])
    ∙ row_values plp_fields row fits

-- and rows those of PLPs
plps_put : (due : ℕ) (rows : List (List ℕ)) → 8 ≤ due → FitLines due rows → map plp_row (map plp_from rows) ≡ rows
plps_put due [] later fits = refl
plps_put due (row ∷ rows) later fits =
    let first : plp_row (plp_from row) ≡ row =
    plp_put row (subst (λ (fs : List Field). FitFields fs row) (fields_later due later) fits.0) in
    let rest : map plp_row (map plp_from rows) ≡ rows = plps_put (suc due) rows (omega arith) fits.1 in
    λ i. first i ∷ rest i

abbrev at_row : List (List ℕ) → ℕ → ℕ → ℕ
at_row rows line place = get_or (slice_index_or rows line []) place 0

abbrev pub config_from : List (List ℕ) → Config
config_from rows = record {
  band = get_or all_bands (at_row rows 1 0) Mhz1_7;
  ticks = at_row rows 2 0;
  frames = at_row rows 2 1;
  cells = at_row rows 2 2;
  seconds = at_row rows 3 0;
  subseconds = at_row rows 3 1;
  utco = at_row rows 3 2;
  pid = at_row rows 4 0;
  cell_id = at_row rows 5 0;
  network_id = at_row rows 5 1;
  system_id = at_row rows 5 2;
  frequency = at_row rows 5 3;
  l1 = record {
    bwt_ext = at_row rows 6 0;
    s2 = at_row rows 6 1;
    guard = at_row rows 6 2;
    papr = at_row rows 6 3;
    l1_mod = at_row rows 6 4;
    l1_cod = at_row rows 6 5;
    l1_fec = at_row rows 6 6;
    post_size = at_row rows 6 7;
    pilot = at_row rows 6 8;
    tx_id = at_row rows 6 9;
    symbols = at_row rows 6 10;
    regen = at_row rows 6 11;
  };
  sub_slices = at_row rows 7 0;
  plps = map plp_from (drop 8 rows);
}

-- a configuration is told by its rows
config_found : (v : ℕ) (c : Config) → config_from (rows_of v c) ≡ c
config_found v c = λ i. record c { band = band_found c.band i; plps = plps_found c.plps i }

-- two configurations with the same rows are one
pub config_once : (v : ℕ) (c d : Config) → rows_of v c ≡ rows_of v d → c ≡ d
config_once v c d e = sym (config_found v c) ∙ ap config_from e ∙ config_found v d

-- rows that fit are those of a configuration
pub config_rows : (v : ℕ) (rows : List (List ℕ)) → FitLines 0 rows → 8 ≤ length rows → slice_index_or rows 0 [] ≡ v ∷ []
    → rows_of v (config_from rows) ≡ rows
config_rows v [] fits enough version = absurd (omega arith)
config_rows v (r0 ∷ []) fits enough version = absurd (omega arith)
config_rows v (r0 ∷ r1 ∷ []) fits enough version = absurd (omega arith)
config_rows v (r0 ∷ r1 ∷ r2 ∷ []) fits enough version = absurd (omega arith)
config_rows v (r0 ∷ r1 ∷ r2 ∷ r3 ∷ []) fits enough version = absurd (omega arith)
config_rows v (r0 ∷ r1 ∷ r2 ∷ r3 ∷ r4 ∷ []) fits enough version = absurd (omega arith)
config_rows v (r0 ∷ r1 ∷ r2 ∷ r3 ∷ r4 ∷ r5 ∷ []) fits enough version = absurd (omega arith)
config_rows v (r0 ∷ r1 ∷ r2 ∷ r3 ∷ r4 ∷ r5 ∷ r6 ∷ []) fits enough version = absurd (omega arith)
config_rows v (r0 ∷ r1 ∷ r2 ∷ r3 ∷ r4 ∷ r5 ∷ r6 ∷ r7 ∷ rest) fits enough version =
    let version_is : v ∷ [] ≡ r0 = sym version in
    let place : FitFields (Bandwidth ∷ []) (first_values 1 r1) = placed (Bandwidth ∷ []) r1 fits.1.0 in
    let band_is = put bw all_bands Mhz1_7 refl (get_or r1 0 0) place.0 in
    let bands_are : bw (get_or all_bands (get_or r1 0 0) Mhz1_7) ∷ [] ≡ r1 =
    ap (λ (n : ℕ). n ∷ []) band_is ∙ row_values (Bandwidth ∷ []) r1 fits.1.0 in
    let frame_is : first_values 3 r2 ≡ r2 = row_values frame_fields r2 fits.1.1.0 in
    let start_is : first_values 3 r3 ≡ r3 = row_values start_fields r3 fits.1.1.1.0 in
    let pid_is : first_values 1 r4 ≡ r4 = row_values (Number16 ∷ []) r4 fits.1.1.1.1.0 in
    let network_is : first_values 4 r5 ≡ r5 = row_values network_fields r5 fits.1.1.1.1.1.0 in
    let l1_is : first_values 12 r6 ≡ r6 = row_values l1_fields r6 fits.1.1.1.1.1.1.0 in
    let sub_slices_is : first_values 1 r7 ≡ r7 = row_values (Number16 ∷ []) r7 fits.1.1.1.1.1.1.1.0 in
    let plps_is : map plp_row (map plp_from rest) ≡ rest = plps_put 8 rest (omega arith) fits.1.1.1.1.1.1.1.1 in
    λ i. version_is i ∷ bands_are i ∷ frame_is i ∷ start_is i ∷ pid_is i ∷ network_is i ∷ l1_is i ∷ sub_slices_is
    i ∷ plps_is i
