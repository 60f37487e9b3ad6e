-- The values of a configuration, line by line.
use Rattle.std.specs.Prelude.{ℕ, Bool, true, false, List, [], ◌∷◌, ◌++◌, map, slice_index_or}
use Rattle.plp_config.specs.declared.band.Band.{Band}
use Rattle.plp_config.specs.declared.config.Config.{Config}
use Rattle.plp_config.specs.declared.config.L1Numbers.{L1Numbers}
use Rattle.plp_config.specs.declared.plp.Plp.{Plp}
use Rattle.plp_config.specs.Plps.{type_number}
use Rattle.plp_config.specs.Tables.{bw, plp_cod, plp_mod, plp_fec_type}
use Rattle.config_text.specs.Fields.{bands}

-- The places of the values in their lists of words: those of bandwidth, type, rate, constellation and size are bw,
-- PLP_TYPE, PLP_COD, PLP_MOD and PLP_FEC_TYPE, and these are the others.
abbrev pub bit_place : Bool → ℕ
bit_place false = 0
bit_place true = 1

-- null packets are deleted, or kept
abbrev pub deletion_place : Bool → ℕ
deletion_place true = 0
deletion_place false = 1

-- the word of a bandwidth
abbrev pub band_word : Band → List ℕ
band_word band = slice_index_or bands (bw band) []

-- the values of a PLP, in the order of its line
abbrev pub plp_row : Plp → List ℕ
plp_row p =
    p.id ∷ type_number p.plp_type ∷ p.group ∷ plp_cod p.rate ∷ plp_mod p.modulation ∷ plp_fec_type p.fec
    ∷ bit_place p.rotation
    ∷ p.blocks ∷ p.interleave
    ∷ deletion_place p.delete ∷ p.bits_per_second ∷ p.spread ∷ []

-- the configured numbers of L1-pre, in the order of their line
abbrev pub l1_row : L1Numbers → List ℕ
l1_row l1 =
    l1.bwt_ext ∷ l1.s2 ∷ l1.guard ∷ l1.papr ∷ l1.l1_mod ∷ l1.l1_cod ∷ l1.l1_fec ∷ l1.post_size ∷ l1.pilot
    ∷ l1.tx_id ∷ l1.symbols
    ∷ l1.regen ∷ []

-- the values of a configuration in a version of the text, line by line
abbrev pub first_rows : ℕ → Config → List (List ℕ)
first_rows version c =
    (version ∷ []) ∷ (bw c.band ∷ []) ∷ (c.ticks ∷ c.frames ∷ c.cells ∷ []) ∷ (c.seconds ∷ c.subseconds ∷ c.utco ∷ [])
    ∷ (c.pid ∷ [])
    ∷ (c.cell_id ∷ c.network_id ∷ c.system_id ∷ c.frequency ∷ []) ∷ l1_row c.l1 ∷ (c.sub_slices ∷ []) ∷ []

abbrev pub rows_of : ℕ → Config → List (List ℕ)
rows_of version c = first_rows version c ++ map plp_row c.plps
