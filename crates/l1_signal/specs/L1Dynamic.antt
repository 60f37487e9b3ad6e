-- The dynamic part of L1-post (EN 302 755, clause 7.2.3.2).
use Rattle.std.specs.Prelude.{◌≡◌, ℕ, Bool, List, [], ◌∷◌, ◌++◌, replicate, slice_index, Ok}
use Rattle.std.specs.List.{All, flat_map}
use Rattle.l1_signal.specs.declared.fields.Demand.TheVariants.{Any}
use Rattle.l1_signal.specs.declared.fields.Field.{Field}
use Rattle.l1_signal.specs.declared.dyn_plp.DynPlp.{DynPlp}
use Rattle.l1_signal.specs.declared.dynamic.L1Dyn.{L1Dyn}
use Rattle.l1_signal.specs.Fields.{Row, Told, Ignored, fields, Reading, after, made, values_of, each_read, Spells}
use Rattle.l1_signal.specs.Fields.{row_bits}
use Rattle.l1_signal.specs.Fields.{RowsFit, EachSpells}

-- the rows before those of the PLPs: number, width in bits, which values are read, and what is told
abbrev pub dyn_front_rows : List (Row L1Dyn)
dyn_front_rows =
    Told 61 8 Any (λ x. x.frame_idx)
    ∷ Told 62 22 Any (λ x. x.sub_slice_interval)
    ∷ Told 63 22 Any (λ x. x.type_2_start)
    ∷ Told 64 8 Any (λ x. x.l1_change_counter)
    ∷ Told 65 3 Any (λ x. x.start_rf_idx)
    ∷ Ignored 66 8  -- RESERVED_1
    ∷ []

-- the rows of each PLP
abbrev pub dyn_plp_rows : List (Row DynPlp)
dyn_plp_rows =
    Told 67 8 Any (λ x. x.plp_id)
    ∷ Told 68 22 Any (λ x. x.plp_start)
    ∷ Told 69 10 Any (λ x. x.plp_num_blocks)
    ∷ Ignored 70 8  -- RESERVED_2
    ∷ []

-- the row behind them
abbrev pub dyn_back_rows : List (Row L1Dyn)
dyn_back_rows =
    Ignored 71 8  -- RESERVED_3
    ∷ []

abbrev pub dyn_front : List Field
dyn_front = fields dyn_front_rows

abbrev pub dyn_plp : List Field
dyn_plp = fields dyn_plp_rows

abbrev pub dyn_back : List Field
dyn_back = fields dyn_back_rows

-- the value whose rows have these values, by place
abbrev pub dyn_plp_at : List ℕ → DynPlp
dyn_plp_at vs = record {
  plp_id = slice_index vs 0;
  plp_start = slice_index vs 1;
  plp_num_blocks = slice_index vs 2;
}

abbrev pub dyn_at : List ℕ → List DynPlp → L1Dyn
dyn_at front plps = record {
  frame_idx = slice_index front 0;
  sub_slice_interval = slice_index front 1;
  type_2_start = slice_index front 2;
  l1_change_counter = slice_index front 3;
  start_rf_idx = slice_index front 4;
  plps = plps;
}

-- reading the rows of one PLP
unfoldable pub dyn_plp_read : List Bool → Reading DynPlp
dyn_plp_read bits = made dyn_plp_at (values_of dyn_plp bits)

-- reading from behind the PLPs on, and from the PLPs on
abbrev pub dyn_end : List ℕ → List DynPlp → List Bool → Reading L1Dyn
dyn_end front plps bits = after (values_of dyn_back bits) (λ back rest. Ok (dyn_at front plps, rest))

abbrev pub dyn_plps : ℕ → List ℕ → List Bool → Reading L1Dyn
dyn_plps count front bits = after (each_read (replicate count dyn_plp_read) bits) (dyn_end front)

-- what reading gives, for so many PLPs
unfoldable pub dyn_read : ℕ → List Bool → Reading L1Dyn
dyn_read count bits = after (values_of dyn_front bits) (dyn_plps count)

-- The bits spell a dynamic part, with any values in the rows that are ignored.
pub record DynSpells (dynamic : L1Dyn) (bits : List Bool) : Type 0 where
  pub front : List Bool
  pub plps : List Bool
  pub back : List Bool
  pub front_spells : Spells dyn_front_rows dynamic front
  pub plps_spell : EachSpells dyn_plp_rows dynamic.plps plps
  pub back_spells : Spells dyn_back_rows dynamic back
  pub whole : bits ≡ front ++ plps ++ back

-- what is written
unfoldable pub dyn_bits : L1Dyn → List Bool
dyn_bits dynamic = row_bits dyn_front_rows dynamic ++ flat_map (row_bits dyn_plp_rows) dynamic.plps
    ++ row_bits dyn_back_rows dynamic

-- Each field fits its width.
pub record DynFits (dynamic : L1Dyn) : Type 0 where
  pub front : RowsFit dyn_front_rows dynamic
  pub plps : All (RowsFit dyn_plp_rows) dynamic.plps

-- all fields are 0
abbrev pub no_dyn_plp : DynPlp
no_dyn_plp = record { plp_id = 0; plp_start = 0; plp_num_blocks = 0 }

abbrev pub dyn_blank : ℕ → L1Dyn
dyn_blank plps = record {
  frame_idx = 0;
  sub_slice_interval = 0;
  type_2_start = 0;
  l1_change_counter = 0;
  start_rf_idx = 0;
  plps = replicate plps no_dyn_plp;
}
