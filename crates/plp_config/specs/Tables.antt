-- The tables of bandwidths and of blocks.
use Rattle.std.specs.Prelude.{ℕ}
use Rattle.plp_config.specs.declared.band.Band.{Band}
use Rattle.plp_config.specs.declared.band.Band.TheVariants.{Mhz1_7, Mhz5, Mhz6, Mhz7, Mhz8, Mhz10}
use Rattle.plp_config.specs.declared.plp.FecSize.{FecSize}
use Rattle.plp_config.specs.declared.plp.FecSize.TheVariants.{Short, Normal}
use Rattle.plp_config.specs.declared.plp.Rate.{Rate}
use Rattle.plp_config.specs.declared.plp.Rate.TheVariants.{R1_2, R3_5, R2_3, R3_4, R4_5, R5_6}
use Rattle.plp_config.specs.declared.plp.Modulation.{Modulation}
use Rattle.plp_config.specs.declared.plp.Modulation.TheVariants.{Qpsk, Qam16, Qam64, Qam256}

-- subseconds in a second (TS 102 773, clause 5.2.7)
abbrev pub subseconds_per_second : Band → ℕ
subseconds_per_second Mhz1_7 = 131_000_000
subseconds_per_second Mhz5 = 40_000_000
subseconds_per_second Mhz6 = 48_000_000
subseconds_per_second Mhz7 = 56_000_000
subseconds_per_second Mhz8 = 64_000_000
subseconds_per_second Mhz10 = 80_000_000

-- subseconds in an elementary period T: T is 71/131 of a microsecond at 1.7 MHz, 7/40 at 5 MHz (EN 302 755, clause 9.5)
abbrev pub subseconds_per_tick : Band → ℕ
subseconds_per_tick Mhz1_7 = 71
subseconds_per_tick Mhz5 = 7
subseconds_per_tick Mhz6 = 7
subseconds_per_tick Mhz7 = 7
subseconds_per_tick Mhz8 = 7
subseconds_per_tick Mhz10 = 7

-- whole elementary periods in 250 ms, the longest frame (EN 302 755, clause 8.3)
abbrev pub greatest_ticks : Band → ℕ
greatest_ticks Mhz1_7 = 461_267
greatest_ticks Mhz5 = 1_428_571
greatest_ticks Mhz6 = 1_714_285
greatest_ticks Mhz7 = 2_000_000
greatest_ticks Mhz8 = 2_285_714
greatest_ticks Mhz10 = 2_857_142

-- bw, the bandwidth in a timestamp (TS 102 773, clause 5.2.7)
abbrev pub bw : Band → ℕ
bw Mhz1_7 = 0
bw Mhz5 = 1
bw Mhz6 = 2
bw Mhz7 = 3
bw Mhz8 = 4
bw Mhz10 = 5

-- PLP_COD (EN 302 755, clause 7.2.3.1)
abbrev pub plp_cod : Rate → ℕ
plp_cod R1_2 = 0
plp_cod R3_5 = 1
plp_cod R2_3 = 2
plp_cod R3_4 = 3
plp_cod R4_5 = 4
plp_cod R5_6 = 5

-- PLP_MOD (EN 302 755, clause 7.2.3.1)
abbrev pub plp_mod : Modulation → ℕ
plp_mod Qpsk = 0
plp_mod Qam16 = 1
plp_mod Qam64 = 2
plp_mod Qam256 = 3

-- PLP_FEC_TYPE (EN 302 755, clause 7.2.3.1)
abbrev pub plp_fec_type : FecSize → ℕ
plp_fec_type Short = 0
plp_fec_type Normal = 1

-- bits of a baseband frame, Kbch (EN 302 755, clause 6.1)
abbrev pub info_bits : FecSize → Rate → ℕ
info_bits Normal R1_2 = 32208
info_bits Normal R3_5 = 38688
info_bits Normal R2_3 = 43040
info_bits Normal R3_4 = 48408
info_bits Normal R4_5 = 51648
info_bits Normal R5_6 = 53840
info_bits Short R1_2 = 7032
info_bits Short R3_5 = 9552
info_bits Short R2_3 = 10632
info_bits Short R3_4 = 11712
info_bits Short R4_5 = 12432
info_bits Short R5_6 = 13152

-- cells of a block: its coded bits, by the bits of a cell (EN 302 755, clause 6.2)
abbrev pub cells_per_block : FecSize → Modulation → ℕ
cells_per_block Normal Qpsk = 32400
cells_per_block Normal Qam16 = 16200
cells_per_block Normal Qam64 = 10800
cells_per_block Normal Qam256 = 8100
cells_per_block Short Qpsk = 8100
cells_per_block Short Qam16 = 4050
cells_per_block Short Qam64 = 2700
cells_per_block Short Qam256 = 2025
