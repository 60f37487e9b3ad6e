-- Three networks whose numbers were counted apart.
use Rattle.std.specs.Prelude.{ℕ, true, false, List, [], ◌∷◌, replicate}
use Rattle.plp_config.specs.declared.band.Band.TheVariants.{Mhz8}
use Rattle.plp_config.specs.declared.config.Config.{Config}
use Rattle.plp_config.specs.declared.config.L1Numbers.{L1Numbers}
use Rattle.plp_config.specs.declared.plp.FecSize.TheVariants.{Short, Normal}
use Rattle.plp_config.specs.declared.plp.Modulation.TheVariants.{Qpsk, Qam256}
use Rattle.plp_config.specs.declared.plp.Plp.{Plp}
use Rattle.plp_config.specs.declared.plp.PlpType.TheVariants.{Type1}
use Rattle.plp_config.specs.declared.plp.Rate.TheVariants.{R1_2, R2_3}
use Rattle.ts_packet.specs.declared.sizes.TheConstants.{SYNC}

abbrev pub l1_numbers : L1Numbers
l1_numbers = record {
  bwt_ext = 0;
  s2 = 6;
  guard = 1;
  papr = 0;
  l1_mod = 1;
  l1_cod = 0;
  l1_fec = 0;
  post_size = 1000;
  pilot = 6;
  tx_id = 0;
  symbols = 59;
  regen = 0;
}

-- a network of 8 MHz with one PLP
abbrev pub network : ℕ → ℕ → Plp → Config
network ticks cells plp = record {
  band = Mhz8;
  ticks = ticks;
  frames = 2;
  cells = cells;
  seconds = 700000000;
  subseconds = 0;
  utco = 5;
  pid = 256;
  cell_id = 1;
  network_id = 2;
  system_id = 3;
  frequency = 474000000;
  l1 = l1_numbers;
  sub_slices = 1;
  plps = plp ∷ [];
}

abbrev pub small_plp : ℕ → ℕ → Plp
small_plp blocks rate = record {
  id = 0;
  plp_type = Type1;
  group = 1;
  rate = R1_2;
  modulation = Qpsk;
  fec = Short;
  rotation = false;
  blocks = blocks;
  interleave = 1;
  delete = true;
  bits_per_second = rate;
  spread = 1;
}

-- short blocks of rate 1/2 in QPSK: 2 Mbit/s in four blocks, or somewhat less in three
abbrev pub small_network : Config
small_network = network 100000 40000 (small_plp 4 2000000)

abbrev pub narrow_network : Config
narrow_network = network 100000 40000 (small_plp 3 1906000)

-- normal blocks of rate 2/3 in 256-QAM: 40 Mbit/s in 209 blocks
abbrev pub large_network : Config
large_network = network 2049536 1700000 (record {
  id = 0;
  plp_type = Type1;
  group = 1;
  rate = R2_3;
  modulation = Qam256;
  fec = Normal;
  rotation = false;
  blocks = 209;
  interleave = 4;
  delete = true;
  bits_per_second = 40000000;
  spread = 1;
})

-- a packet that is not null, of PID 0
abbrev pub data_packet : List ℕ
data_packet = SYNC ∷ replicate 187 0

-- so many of them
abbrev pub data_packets : ℕ → List (List ℕ)
data_packets n = replicate n data_packet

-- L1-pre of the small network, with its CRC_32
abbrev pub small_pre : List ℕ
small_pre =
    0x00 ∷ 0x06 ∷ 0x10 ∷ 0x10 ∷ 0x00 ∷ 0xFA ∷ 0x00 ∷ 0x13 ∷ 0xE6 ∷ 0x00 ∷ 0x00 ∷ 0x01 ∷ 0x00
    ∷ 0x02 ∷ 0x00 ∷ 0x03 ∷ 0x02 ∷ 0x03 ∷ 0xB0 ∷ 0x20 ∷ 0x80 ∷ 0xD2 ∷ 0x90 ∷ 0x4B ∷ 0x05 ∷ []

-- L1-post of its frame 1, which has four blocks, with its CRC_32 and two zero bits
abbrev pub small_post : List ℕ
small_post =
    0x00 ∷ 0x02 ∷ 0x02 ∷ 0x00 ∷ 0x00 ∷ 0x71 ∷ 0x02 ∷ 0xAA ∷ 0x00 ∷ 0x00 ∷ 0x8C ∷ 0x00 ∷ 0x00 ∷ 0x40 ∷ 0x00
    ∷ 0x20 ∷ 0x08 ∷ 0x08 ∷ 0x00 ∷ 0x10 ∷ 0x00 ∷ 0x00 ∷ 0x00 ∷ 0x00 ∷ 0x02 ∷ 0x00 ∷ 0x00 ∷ 0x00 ∷ 0x00 ∷ 0x00
    ∷ 0x00 ∷ 0x00 ∷ 0x00 ∷ 0x00 ∷ 0x00 ∷ 0x00 ∷ 0x00 ∷ 0x10 ∷ 0x00 ∷ 0x01 ∷ 0xAB ∷ 0x8F ∷ 0x16 ∷ 0x98 ∷ []
