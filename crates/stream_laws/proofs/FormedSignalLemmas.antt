-- The L1 signalling of a record that is written with the dynamic part of an L1-current agrees.
use Rattle.std.proofs.Common.{◌≡◌, ℕ, ◌-◌, ◌==◌, Bool, true, List, [], ◌++◌, length, take, Some, ap}
use Rattle.std.proofs.Common.{◌∙◌, sym, refl, arith, append-nil, append_assoc, length-append, eq-eqb}
use Rattle.std.specs.Bool.{beq}
use Rattle.std.specs.Cmp.{bool_eq_equiv}
use Rattle.std.specs.Cmp.Lexicographic.{pointwise}
use Rattle.std.proofs.lemmas.Bool.{and_from, and_parts}
use Rattle.std.proofs.lemmas.Cmp.{lists_equiv}
use Rattle.std.proofs.lemmas.List.{take_all, take-append-le, length-map}
use Rattle.terms.specs.Bits.{field, part}
use Rattle.terms.proofs.BitLemmas.{length-field}
use Rattle.terms.proofs.PartLemmas.{part-middle}
use Rattle.bit_slice.specs.Crc.{crc32_of}
use Rattle.plp_config.specs.declared.config.Config.{Config}
use Rattle.l1_signal.specs.L1Configurable.{conf_bits, conf_read, info_size, ConfSpells}
use Rattle.l1_signal.specs.L1Dynamic.{dyn_read}
use Rattle.l1_signal.specs.L1Of.{pre_of, conf_of}
use Rattle.l1_signal.specs.L1Pre.{pre_rows, pre_bits, pre_reading, PreSpells, PreFits}
use Rattle.l1_signal.specs.Laws.{PreReadBack, PreWritten, ConfWritten, ConfPartLength, DynReadBack, DynLength}
use Rattle.l1_signal.specs.Laws.{crc_behind}
use Rattle.l1_signal.specs.Lengths.{conf_len, dyn_len, post_len}
use Rattle.l1_signal.specs.declared.lengths.TheConstants.{CRC_BITS}
use Rattle.l1_signal.specs.declared.pre.L1Pre.{L1Pre}
use Rattle.l1_signal.proofs.ConfLemmas.{spelled_fits}
use Rattle.l1_signal.proofs.RowLemmas.{spells_fits}
use Rattle.record_laws.specs.Frames.{l1_pre}
use Rattle.open_group.specs.Front.{post_with}
use Rattle.frame_groups.specs.Carried.{L1Parts}
use Rattle.frame_groups.specs.TestLaws.{PreValues, ConfTold, PartsTold, IsOfFrame}
use Rattle.frame_groups.specs.Readable.{told_dynamic, post_agrees}
use Rattle.frame_groups.specs.Tests.{read_whole, pre_agrees, conf_agrees, dyn_agrees, read_dynamic, parts_agree}

-- What the laws of the crates below say.
pub record Knows : Type 0 where
  pub told : PartsTold
  pub conf_told : ConfTold
  pub pre_values : PreValues
  pub pre_back : PreReadBack
  pub pre_written : PreWritten
  pub conf_written : ConfWritten
  pub conf_size : ConfPartLength
  pub dyn_back : DynReadBack
  pub dyn_size : DynLength

-- what some bits spell fits its rows
pre_fits : (pre : L1Pre) (bits : List Bool) → PreSpells pre bits → PreFits pre
unfolding PreSpells PreFits
pre_fits pre bits s = spells_fits pre_rows pre bits s

-- the first of some bits, which have others behind them
pub front_of : {X : Type 0} (xs ys : List X) (n : ℕ) → length xs ≡ n → take n (xs ++ ys) ≡ xs
front_of xs ys n e = take-append-le n xs ys (omega (arith, e)) ∙ take_all n xs (omega (arith, e))

-- ---- L1-post with a dynamic part of the right length

module _ (c : Config) (dynamic : List Bool) (conf_size : ConfPartLength) (dyn_size : length dynamic ≡ dyn_len
    (length c.plps)) where
  abbrev pub conf_bits_of : List Bool
  conf_bits_of = conf_bits (conf_of c)

  abbrev pub both_parts : List Bool
  both_parts = conf_bits_of ++ dynamic

  abbrev pub whole_post : List Bool
  whole_post = post_with c dynamic

  pub post_long : length whole_post ≡ post_len (length c.plps)
  post_long = grind (arith, conf_size, length-append, length-field, dyn_size)

  pub parts_long : length both_parts ≡ length whole_post - CRC_BITS
  parts_long = grind (arith, length-append, length-field)

  -- the parts stand in it at their places
  pub conf_there : take (conf_len (length c.plps)) whole_post ≡ conf_bits_of
  conf_there = grind (arith, append_assoc, front_of, conf_size)

  pub dynamic_there : part whole_post (conf_len (length c.plps)) (dyn_len (length c.plps)) ≡ dynamic
  dynamic_there = grind (arith, part-middle, conf_size, dyn_size)

  pub crc_there : crc_behind true (take (length whole_post - CRC_BITS) whole_post) ≡ whole_post
  crc_there = ap (crc_behind true) (front_of both_parts (field 32 (crc32_of both_parts)) (length whole_post - CRC_BITS)
      parts_long)

-- ---- the dynamic part of an L1-current

module _ (knows : Knows) (c : Config) (n : ℕ) (l1 : L1Parts) (is : IsOfFrame c n l1) where
  abbrev pub plps : ℕ
  plps = length c.plps

  -- ---- L1-pre

  pub pre_spelled : PreSpells (pre_of c) (pre_bits (pre_of c))
  pre_spelled = knows.pre_written (pre_of c) (pre_fits (pre_of c) l1.pre is.pre)

  pub pre_is : pre_agrees c (read_whole (pre_reading true (l1_pre c))) ≡ true
  pre_is =
      let read : read_whole (pre_reading true (l1_pre c)) ≡ Some (pre_of c) =
      ap read_whole (ap (pre_reading true) (sym (append-nil _))
      ∙ knows.pre_back true (pre_of c) (pre_bits (pre_of c)) [] pre_spelled) in
      ap (pre_agrees c) read ∙ (knows.pre_values (pre_of c) (pre_of c)).1 refl

  -- ---- L1-post

  abbrev pub conf : List Bool
  conf = conf_bits (conf_of c)

  abbrev pub dynamic : List Bool
  dynamic = l1.dynamic

  abbrev pub post : List Bool
  post = post_with c dynamic

  pub conf_spelled : ConfSpells (conf_of c) conf
  conf_spelled = knows.conf_written (conf_of c) (spelled_fits (conf_of c) l1.conf is.conf)

  pub plps_told : length is.dynamic.plps ≡ plps
  plps_told = grind (arith, length-map)

  pub dyn_size : length dynamic ≡ dyn_len plps
  dyn_size = knows.dyn_size is.dynamic dynamic is.spells ∙ ap dyn_len plps_told

  -- what the dynamic part tells
  pub told_is : told_dynamic c post ≡ read_dynamic c l1
  told_is = ap (λ (bits : List Bool). read_whole (dyn_read (length c.plps) bits))
      (dynamic_there c dynamic knows.conf_size dyn_size)

  pub dynamic_read : read_dynamic c l1 ≡ Some is.dynamic
  dynamic_read =
      ap read_whole (ap (λ (k : ℕ). dyn_read k dynamic) (sym plps_told)
      ∙ ap (dyn_read (length is.dynamic.plps)) (sym (append-nil _))
      ∙ knows.dyn_back is.dynamic dynamic [] is.spells)

  dyn_agree : dyn_agrees c n (read_dynamic c l1) ≡ true
  unfolding parts_agree
  dyn_agree =
      (and_parts _ _ ((knows.told c n l1).1 is)).1

  conf_is : conf_agrees c (read_whole (conf_read (info_size (length c.plps)) (take (conf_len plps) post))) ≡ true
  conf_is = grind (arith, conf_there, dyn_size, conf_spelled)

  pub post_is : post_agrees c n post ≡ true
  post_is =
      let len : Bool = length post == post_len plps in
      let crc : Bool = pointwise beq post (crc_behind true (take (length post - CRC_BITS) post)) in
      let right : Bool = conf_agrees c
      (read_whole (conf_read (info_size (length c.plps)) (take (conf_len plps) post))) in
      and_from _ _ (and_from _ _ (and_from _ _ (eq-eqb _ _ (post_long c dynamic knows.conf_size dyn_size))
      (ap (pointwise beq post) (crc_there c dynamic knows.conf_size dyn_size)
      ∙ (lists_equiv bool_eq_equiv).refl post))
      conf_is)
      (ap (dyn_agrees c n) told_is ∙ dyn_agree)
