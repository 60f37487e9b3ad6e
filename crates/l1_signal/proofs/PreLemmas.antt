-- L1-pre: its reading step by step, and its laws.
use Rattle.std.proofs.Common.{◌≡◌, ℕ, Bool, true, false, List, [], ◌∷◌, ◌++◌, length, take, get_or, Ok, Err, refl, ap}
use Rattle.std.proofs.Common.{sym, ◌∙◌}
use Rattle.std.proofs.Common.{append_assoc}
use Rattle.std.specs.Prelude.{slice_index}
use Rattle.std.proofs.lemmas.List.{take_at}
use Rattle.std.proofs.lemmas.List.FromFn.{fill_by_all}
use Rattle.terms.specs.Bits.{field}
use Rattle.bit_slice.specs.Crc.{crc32_of}
use Rattle.bit_slice.specs.Laws.{CrcIsRemainder}
use Rattle.l1_signal.specs.declared.fault.L1Fault.{L1Fault}
use Rattle.l1_signal.specs.declared.pre.L1Pre.{L1Pre}
use Rattle.l1_signal.specs.CrcField.{crc_read}
use Rattle.l1_signal.specs.Fields.{values, after, made, values_of, spelling}
use Rattle.l1_signal.specs.L1Pre.{pre_rows, pre_table, pre_at, pre_read, pre_reading, PreFits, PreSpells}
use Rattle.l1_signal.specs.Laws.{PreReadBack, PreReadSpelled}
use Rattle.l1_signal.proofs.CrcLemmas.{crc_back, crc_spelled}
use Rattle.l1_signal.proofs.ReadLemmas.{went, was_read}
use Rattle.l1_signal.proofs.RowLemmas.{length-fit, length-spells, Front, was_spelled, spelled_back, spells_fits}

-- the values of L1-pre are those of what is made of them
pre_listed : (vs : List ℕ) → length vs ≡ 27 → vs ≡ values pre_rows (pre_at vs) (slice_index vs 26 ∷ [])
pre_listed vs e = fill_by_all (λ (k : ℕ). get_or vs k 0) vs 27 0 e (λ k lt. refl)

-- the bits that CRC_32 is counted of
front_is : (vs : List ℕ) (bits rest : List Bool) → values_of pre_table bits ≡ Ok (vs, rest)
    → take 168 bits ≡ spelling pre_table vs
front_is vs bits rest e =
    let s = was_read pre_table bits vs rest e in
    ap (take 168) s.spelled ∙ take_at (spelling pre_table vs) rest 168 (length-fit pre_table vs s.fits)

pre_at_done : (vs : List ℕ) (bits rest : List Bool) → values_of pre_table bits ≡ Ok (vs, rest)
    → pre_read bits ≡ Ok (pre_at vs, rest)
unfolding pre_read
pre_at_done vs bits rest e = ap (made pre_at) e

pub pre_refused : (with_crc : Bool) (bits : List Bool) (fault : L1Fault) → values_of pre_table bits ≡ Err fault
    → pre_reading with_crc bits ≡ Err fault
unfolding pre_reading pre_read
pre_refused with_crc bits fault e = rw e refl

pub pre_done : (with_crc : Bool) (vs : List ℕ) (bits rest : List Bool) (pre : L1Pre) → with_crc ≡ false
    → values_of pre_table bits
    ≡ Ok (vs, rest) → pre ≡ pre_at vs → pre_reading with_crc bits ≡ Ok (pre, rest)
unfolding pre_reading
pre_done with_crc vs bits rest pre without e is = rw (without, pre_at_done vs bits rest e, is) refl

pub pre_crc_refused : (with_crc : Bool) (vs : List ℕ) (bits rest : List Bool) (counted : ℕ) (fault : L1Fault)
    → with_crc ≡ true
    → values_of pre_table bits ≡ Ok (vs, rest) →
    counted ≡ crc32_of (spelling pre_table vs) → crc_read counted rest ≡ Err fault
    → pre_reading with_crc bits ≡ Err fault
unfolding pre_reading
pre_crc_refused with_crc vs bits rest counted fault with e crc refused =
    rw (with, pre_at_done vs bits rest e, front_is vs bits rest e, ← crc, refused) refl

pub pre_crc_done : (with_crc : Bool) (vs : List ℕ) (bits rest more : List Bool) (pre : L1Pre) (counted : ℕ)
    → with_crc ≡ true
    → values_of pre_table bits ≡ Ok (vs, rest) →
    pre ≡ pre_at vs → counted ≡ crc32_of (spelling pre_table vs) → crc_read counted rest ≡ Ok (counted, more)
    → pre_reading with_crc bits ≡ Ok (pre, more)
unfolding pre_reading
pre_crc_done with_crc vs bits rest more pre counted with e is crc read =
    rw (with, pre_at_done vs bits rest e, front_is vs bits rest e, is, ← crc, read) refl

pre_front : (bits : List Bool) (pre : L1Pre) (rest : List Bool) → pre_read bits ≡ Ok (pre, rest)
    → Front pre_rows pre bits rest
unfolding pre_read
pre_front bits pre rest e = was_spelled pre_rows pre_at (λ vs. slice_index vs 26 ∷ []) pre_listed bits pre rest e

-- what was read can be written
pub pre_fits : (vs : List ℕ) (bits rest : List Bool) (pre : L1Pre) → values_of pre_table bits ≡ Ok (vs, rest)
    → pre ≡ pre_at vs
    → PreFits pre
unfolding PreFits
pre_fits vs bits rest pre e is = let f = pre_front bits pre rest (rw is (pre_at_done vs bits rest e)) in
    spells_fits pre_rows pre f.bits f.spells

-- ---- the laws
pub pre_read_back : CrcIsRemainder → PreReadBack
unfolding pre_reading pre_read PreSpells
pre_read_back crc false pre front rest s = rw (spelled_back pre_rows pre_at (λ x ignored. refl) pre front rest s) refl
pre_read_back crc true pre front rest s =
    let counted = crc32_of front in
    let size : length front ≡ 168 = length-spells pre_rows pre front s in
    let cut : take 168 (front ++ (field 32 counted ++ rest)) ≡ front = take_at front (field 32 counted ++ rest)
    168 size in
    rw (
      append_assoc front (field 32 counted) rest,
      spelled_back pre_rows pre_at (λ x ignored. refl) pre front
          (field 32 counted ++ rest) s,
      cut,
      crc_back counted rest (crc front).0,
    ) refl

joined : (all front more crc rest : List Bool) → all ≡ front ++ more → more ≡ crc ++ rest → all ≡ (front ++ crc) ++ rest
joined all front more crc rest p q = p ∙ ap (λ (l : List Bool). front ++ l) q ∙ sym (append_assoc front crc rest)

pub pre_was_spelled : PreReadSpelled
unfolding pre_reading PreSpells
pre_was_spelled false bits pre rest e =
    let w = went (pre_read bits) (λ x more. Ok (x, more)) (pre, rest) e in
    let t : (w.first, w.rest) ≡ (pre, rest) = cc in
    let read : pre_read bits ≡ Ok (pre, rest) = w.read ∙ ap (λ (p : L1Pre × List Bool). Ok p) t in
    let f = pre_front bits pre rest read in
    record { front = f.bits; spells = f.spells; whole = f.whole }
pre_was_spelled true bits pre rest e =
    let w = went (pre_read bits) (λ x rest. after (crc_read (crc32_of (take 168 bits)) rest) (λ crc more. Ok (x, more)))
    (pre, rest) e in
    let v = went (crc_read (crc32_of (take 168 bits)) w.rest) (λ crc more. Ok (w.first, more)) (pre, rest) w.more in
    let t : (w.first, v.rest) ≡ (pre, rest) = cc in
    let first : w.first ≡ pre = ap (λ (p : L1Pre × List Bool). p.0) t in
    let end : v.rest ≡ rest = ap (λ (p : L1Pre × List Bool). p.1) t in
    let f = pre_front bits pre w.rest (w.read ∙ ap (λ (x : L1Pre). Ok (x, w.rest)) first) in
    let size : length f.bits ≡ 168 = length-spells pre_rows pre f.bits f.spells in
    let cut : take 168 bits ≡ f.bits = ap (take 168) f.whole ∙ take_at f.bits w.rest 168 size in
    let crc : w.rest ≡ field 32 (crc32_of f.bits) ++ rest = crc_spelled (crc32_of (take 168 bits)) w.rest
    v.first v.rest v.read
    ∙ ap (λ (l : List Bool). field 32 (crc32_of l) ++ v.rest) cut
    ∙ ap (λ (l : List Bool). field 32 (crc32_of f.bits) ++ l) end in
    record {
      front = f.bits;
      spells = f.spells;
      whole = joined bits f.bits w.rest (field 32 (crc32_of f.bits))
          rest f.whole crc;
    }
