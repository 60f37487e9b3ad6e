-- Bits are a spelling of a configurable part exactly if what is read of them is that part, and nothing is left.
use Rattle.std.proofs.Common.{◌≡◌, ◌≢◌, ℕ, suc, ◌+◌, ◌-◌, ◌≤◌, ◌<◌, Bool, List, [], ◌∷◌, ◌++◌, length, take, drop}
use Rattle.std.proofs.Common.{get_or}
use Rattle.std.proofs.Common.{replicate, Ok, Err, refl, ap, sym, subst, ◌∙◌, arith, append-nil, rules}
use Rattle.std.specs.Prelude.{slice_index, Result, OnOk, IfErr, IsTrue, ◌↔◌, true, false}
use Rattle.std.specs.Result.{is_err}
use Rattle.std.proofs.lemmas.List.{take_more, drop_more, drop_at, length-take-le}
use Rattle.bit_slice.specs.declared.source.Short.{Short}
use Rattle.bit_slice.specs.Source.{Takes}
use Rattle.l1_signal.specs.declared.fault.L1Fault.{L1Fault}
use Rattle.l1_signal.specs.declared.conf.L1Conf.{L1Conf}
use Rattle.l1_signal.specs.declared.conf_plp.ConfPlp.{ConfPlp}
use Rattle.l1_signal.specs.Comparing.{front_told, front_of, front_read, back_read}
use Rattle.l1_signal.specs.Fields.{Reading, after, behind, values_of, each_read}
use Rattle.l1_signal.specs.L1Configurable.{conf_first_rows, conf_more_rows, conf_plp_rows, conf_back_rows, conf_first}
use Rattle.l1_signal.specs.L1Configurable.{conf_more}
use Rattle.l1_signal.specs.L1Configurable.{conf_back, info_size, conf_plp_read, ConfSpells}
use Rattle.l1_signal.proofs.ReadLemmas.{went, was_behind, next_read}
use Rattle.l1_signal.proofs.RowLemmas.{spelled_values, each_back, stopped_each}
use Rattle.l1_signal.proofs.ConfLemmas.{plp_back, four_parts, Parts, spelled_at}

-- what is read of a spelling
pub record Told (conf : L1Conf) (bits : List Bool) : Type 0 where
  pub b : List Bool
  pub c : List Bool
  pub front : front_read bits ≡ Ok (front_told conf, b)
  pub plps : each_read (replicate (length conf.plps) conf_plp_read) b ≡ Ok (conf.plps, c)
  pub back : back_read c ≡ Ok (conf.fef_length_msb, [])

pub told : (conf : L1Conf) (bits : List Bool) → ConfSpells conf bits → Told conf bits
unfolding front_read back_read
told conf bits s =
    let all : bits ≡ s.first ++ (s.more ++ (s.plps ++ (s.back ++ []))) = sym (append-nil bits)
    ∙ ap (λ (l : List Bool). l ++ []) s.whole ∙ four_parts s.first s.more s.plps s.back [] in
    let first = spelled_values conf_first_rows conf s.first (s.more ++ (s.plps ++ (s.back ++ []))) s.first_spells in
    let more = spelled_values conf_more_rows conf s.more (s.plps ++ (s.back ++ [])) s.more_spells in
    record {
      b = s.plps ++ (s.back ++ []);
      c = s.back ++ [];
      front = ap front_read all ∙ rw (first, more) refl;
      plps = each_back conf_plp_rows conf_plp_read plp_back conf.plps s.plps (s.back ++ []) s.plps_spell;
      back = rw (spelled_values conf_back_rows conf s.back [] s.back_spells) refl;
    }

pub no_front : (conf : L1Conf) (bits : List Bool) (e : L1Fault) → front_read bits ≡ Err e → ConfSpells conf bits → ⊥
no_front conf bits e read s = let t = (told conf bits s).front in absurd (cc)

pub other_front : (conf : L1Conf) (bits b : List Bool) (front : List ℕ) → front_read bits ≡ Ok (front, b)
    → front ≢ front_told conf → ConfSpells conf bits → ⊥
other_front conf bits b front read ne s =
    let t = (told conf bits s).front in
    let same : (front, b) ≡ (front_told conf, (told conf bits s).b) = cc in
    ne (ap (λ (x : List ℕ × List Bool). x.0) same)

pub front_rest : (conf : L1Conf) (bits b : List Bool) (front : List ℕ) (s : ConfSpells conf bits)
    → front_read bits ≡ Ok (front, b) → (told conf bits s).b ≡ b
front_rest conf bits b front s read = grind (arith, told)

pub other_plps : (conf : L1Conf) (bits b : List Bool) (front : List ℕ) → front_read bits ≡ Ok (front, b)
    → ((rest : List Bool) → each_read (replicate (length conf.plps) conf_plp_read) b ≢ Ok (conf.plps, rest)) →
    ConfSpells conf bits → ⊥
other_plps conf bits b front read none s =
    let t = told conf bits s in
    none t.c (ap (each_read (replicate (length conf.plps) conf_plp_read)) (sym (front_rest conf bits b front s read))
    ∙ t.plps)

pub plps_rest : (conf : L1Conf) (bits b c : List Bool) (front : List ℕ) (s : ConfSpells conf bits)
    → front_read bits ≡ Ok (front, b) → each_read (replicate (length conf.plps) conf_plp_read) b ≡ Ok (conf.plps, c) →
    back_read c ≡ Ok (conf.fef_length_msb, [])
plps_rest conf bits b c front s read plps =
    let t = told conf bits s in
    let there = ap (each_read (replicate (length conf.plps) conf_plp_read)) (sym (front_rest conf bits b front s read))
    ∙ t.plps in
    let same : (conf.plps, t.c) ≡ (conf.plps, c) = cc in
    ap back_read (sym (ap (λ (x : List ConfPlp × List Bool). x.1) same)) ∙ t.back

pub no_back : (conf : L1Conf) (bits b c : List Bool) (front : List ℕ) (e : L1Fault) → front_read bits ≡ Ok (front, b)
    → each_read (replicate (length conf.plps) conf_plp_read) b ≡ Ok (conf.plps, c) →
    back_read c ≡ Err e → ConfSpells conf bits → ⊥
no_back conf bits b c front e read plps back s = let t = plps_rest conf bits b c front s read plps in absurd (cc)

pub other_back : (conf : L1Conf) (bits b c rest : List Bool) (front : List ℕ) (back : ℕ)
    → front_read bits ≡ Ok (front, b)
    → each_read (replicate (length conf.plps) conf_plp_read) b ≡ Ok (conf.plps, c) →
    back_read c ≡ Ok (back, rest) → back ≢ conf.fef_length_msb → ConfSpells conf bits → ⊥
other_back conf bits b c rest front back read plps end ne s =
    let t = plps_rest conf bits b c front s read plps in
    let same : (back, rest) ≡ (conf.fef_length_msb, []) = cc in
    ne (ap (λ (x : ℕ × List Bool). x.0) same)

pub more_left : (conf : L1Conf) (bits b c rest : List Bool) (front : List ℕ) (back : ℕ)
    → front_read bits ≡ Ok (front, b)
    → each_read (replicate (length conf.plps) conf_plp_read) b ≡ Ok (conf.plps, c) →
    back_read c ≡ Ok (back, rest) → 1 ≤ length rest → ConfSpells conf bits → ⊥
more_left conf bits b c rest front back read plps end left s =
    let t = plps_rest conf bits b c front s read plps in
    let same : (back, rest) ≡ (conf.fef_length_msb, []) = cc in
    let none : length rest ≡ 0 = ap (λ (x : ℕ × List Bool). length x.1) same in
    omega (arith, none, left)

nothing_left : (rest : List Bool) → length rest < 1 → rest ≡ []
nothing_left [] less = refl
nothing_left (b ∷ rest) less = absurd (omega (arith, less))

conf_is : (conf : L1Conf) (a b c d e f : ℕ) → a ≡ conf.sub_slices_per_frame → b ≡ conf.num_plp → c ≡ conf.num_aux
    → d ≡ conf.rf_idx → e ≡ conf.frequency → f ≡ conf.fef_length_msb →
    record {
      sub_slices_per_frame = a;
      num_plp = b;
      num_aux = c;
      rf_idx = d;
      frequency = e;
      plps = conf.plps;
      fef_length_msb = f;
    }
    ≡ conf
conf_is conf a b c d e f p q r s t u = rw (p, q, r, s, t, u) refl

pub is_spelled : (conf : L1Conf) (bits b c rest : List Bool) (front : List ℕ) (back : ℕ)
    → conf.num_plp ≡ length conf.plps
    → front_read bits ≡ Ok (front, b) → front ≡ front_told conf →
    each_read (replicate (length conf.plps) conf_plp_read) b ≡ Ok (conf.plps, c) → back_read c ≡ Ok (back, rest)
    → back ≡ conf.fef_length_msb → length rest < 1 → ConfSpells conf bits
unfolding front_read back_read
is_spelled conf bits b c rest front back count read is plps end same none =
    let f = went (values_of conf_first bits) (λ first b. after (values_of conf_more b)
    (λ more c. Ok (front_of first more, c)))
    (front, b) read in
    let m = went (values_of conf_more f.rest) (λ more c. Ok (front_of f.first more, c)) (front, b) f.more in
    let k = went (values_of conf_back c) (λ back rest. Ok (slice_index back 0, rest)) (back, rest) end in
    let t : (front_of f.first m.first, m.rest) ≡ (front, b) = cc in
    let u : (slice_index k.first 0, k.rest) ≡ (back, rest) = cc in
    let fronts : front_of f.first m.first ≡ front_told conf = ap (λ (x : List ℕ × List Bool). x.0) t ∙ is in
    let sub : slice_index f.first 0 ≡ conf.sub_slices_per_frame = ap (λ (l : List ℕ). slice_index l 0) fronts in
    let num : slice_index f.first 1 ≡ conf.num_plp = ap (λ (l : List ℕ). slice_index l 1) fronts in
    let aux : slice_index m.first 0 ≡ conf.num_aux = ap (λ (l : List ℕ). slice_index l 2) fronts in
    let rf : slice_index m.first 2 ≡ conf.rf_idx = ap (λ (l : List ℕ). slice_index l 3) fronts in
    let frequency : slice_index m.first 3 ≡ conf.frequency = ap (λ (l : List ℕ). slice_index l 4) fronts in
    let fef : slice_index k.first 0 ≡ conf.fef_length_msb = ap (λ (x : ℕ × List Bool). x.0) u ∙ same in
    let behind : m.rest ≡ b = ap (λ (x : List ℕ × List Bool). x.1) t in
    let empty : k.rest ≡ [] = ap (λ (x : ℕ × List Bool). x.1) u ∙ nothing_left rest none in
    let parts : Parts (info_size (length conf.plps)) bits conf [] = record {
      first = f.first;
      more = m.first;
      plps = conf.plps;
      back = k.first;
      b = f.rest;
      c = b;
      d = c;
      first_read = f.read;
      size = ap info_size (sym (num ∙ count));
      more_read = m.read ∙ ap (λ (l : List Bool). Ok (m.first, l)) behind;
      plps_read = ap (λ (n : ℕ). each_read (replicate n conf_plp_read) b) (num ∙ count) ∙ plps;
      back_read = k.read ∙ ap (λ (l : List Bool). Ok (k.first, l)) empty;
      at = conf_is conf (slice_index f.first 0) (slice_index f.first 1) (slice_index m.first 0) (slice_index m.first 2)
          (slice_index m.first 3) (slice_index k.first 0) sub num aux rf frequency fef;
    } in
    let s = spelled_at (info_size (length conf.plps)) bits conf [] parts in
    subst (ConfSpells conf) (sym (s.whole ∙ append-nil s.front)) s.spells

-- ---- the PLPs, one after another
pub same_plp : (plps : List ConfPlp) (i : ℕ) (d x : ConfPlp) (bits rest : List Bool) → i < length plps
    → conf_plp_read bits
    ≡ Ok (x, rest) → x ≡ get_or plps i d →
    behind (take i plps) (each_read (replicate (length plps - i) conf_plp_read) bits)
    ≡ behind (take (i + 1) plps) (each_read (replicate (length plps - (i + 1)) conf_plp_read) rest)
same_plp plps i d x bits rest lt read same =
    let k : length plps - i ≡ suc (length plps - (i + 1)) = omega arith in
    next_read (replicate (length plps - i) conf_plp_read) (replicate (length plps - (i + 1)) conf_plp_read)
    conf_plp_read
    (take i plps) bits rest x (ap (λ (m : ℕ). replicate m conf_plp_read) k) read
    ∙ ap (λ (y : ConfPlp). behind (take i plps ++ y ∷ []) (each_read (replicate (length plps - (i + 1)) conf_plp_read)
    rest)) same
    ∙ ap (λ (l : List ConfPlp). behind l (each_read (replicate (length plps - (i + 1)) conf_plp_read) rest))
    (sym (take_more plps i d lt))

pub cut_plp : (plps : List ConfPlp) (i : ℕ) (all : Reading (List ConfPlp)) (bits rest : List Bool) (e : L1Fault)
    → all ≡ behind (take i plps) (each_read (replicate (length plps - i) conf_plp_read) bits) → i < length plps →
    conf_plp_read bits ≡ Err e → all ≡ Ok (plps, rest) → ⊥
cut_plp plps i all bits rest e is lt read ok = let h =
    is ∙ stopped_each (length plps) i conf_plp_read (take i plps) bits e lt read in absurd (cc)

first_is : (reads : List (List Bool → Reading ConfPlp)) (bits rest more : List Bool) (x d : ConfPlp) (xs : List ConfPlp)
    → each_read (conf_plp_read ∷ reads) bits ≡ Ok (xs, rest) → conf_plp_read bits ≡ Ok (x, more) → get_or xs 0 d ≡ x
unfolding each_read
first_is reads bits rest more x d xs e read =
    let w = went (conf_plp_read bits) (λ y l. behind (y ∷ []) (each_read reads l)) (xs, rest) e in
    let b = was_behind (w.first ∷ []) (each_read reads w.rest) xs rest w.more in
    let h = w.read in
    let t : (w.first, w.rest) ≡ (x, more) = cc in
    ap (λ (l : List ConfPlp). get_or l 0 d) b.all ∙ ap (λ (p : ConfPlp × List Bool). p.0) t

pub other_plp : (plps : List ConfPlp) (i : ℕ) (d x : ConfPlp) (all : Reading (List ConfPlp))
    (bits more rest : List Bool)
    → all ≡ behind (take i plps) (each_read (replicate (length plps - i) conf_plp_read) bits) →
    i < length plps → conf_plp_read bits ≡ Ok (x, more) → x ≢ get_or plps i d → all ≡ Ok (plps, rest) → ⊥
other_plp plps i d x all bits more rest is lt read ne ok =
    let k : length plps - i ≡ suc (length plps - (i + 1)) = omega arith in
    let b = was_behind (take i plps) (each_read (replicate (length plps - i) conf_plp_read) bits) plps rest (sym is
    ∙ ok) in
    let left : drop i plps ≡ b.more = ap (drop i) b.all ∙ drop_at (take i plps) b.more i
    (length-take-le i plps (omega arith)) in
    let here : get_or b.more 0 d ≡ get_or plps i d = ap (λ (l : List ConfPlp). get_or l 0 d) (sym left
    ∙ drop_more plps i d lt) in
    let first = first_is (replicate (length plps - (i + 1)) conf_plp_read) bits rest more x d b.more
    (ap (λ (m : ℕ). each_read (replicate m conf_plp_read) bits) (sym k) ∙ b.read) read in
    ne (sym first ∙ here)

-- ---- what a test says
is_true : IsTrue true
is_true = search rules

not_true : IsTrue false → ⊥
not_true t = search rules

pub holds : {P : Type 0} (b : Bool) → IsTrue b ↔ P → b ≡ true → P
holds b iff e = iff.0 (subst IsTrue (sym e) is_true)

pub fails : {P : Type 0} (b : Bool) → IsTrue b ↔ P → b ≡ false → P → ⊥
fails b iff e p = not_true (subst IsTrue e (iff.1 p))

pub refuted : {P : Type 0} → (P → ⊥) → IsTrue false ↔ P
refuted none = (λ t. absurd (not_true t), λ p. absurd (none p))

-- the last test: nothing is left
pub ends : {T P : Type 0} (r : Result T Short) (b : Bool) (left new : List Bool) → b ≡ is_err r
    → OnOk r (Takes left new 1)
    → IfErr r (λ e. (e.left ≡ length left) × (e.left < 1)) →
    (length left < 1 → P) → (1 ≤ length left → P → ⊥) → IsTrue b ↔ P
ends (Ok x) b left new is takes short none some = (
  λ t. absurd (not_true (subst IsTrue is t)),
  λ p. absurd
      (some takes.inside p),
)
ends (Err e) b left new is takes short none some =
    (λ t. none (omega (arith, short.0, short.1)), λ p. subst IsTrue (sym is) is_true)
