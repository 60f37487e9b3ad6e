-- The network of a trial.
use Rattle.std.specs.Prelude.{List, [], ◌∷◌, true, false}
use Rattle.plp_config.specs.declared.band.Band.TheVariants.{Mhz8}
use Rattle.plp_config.specs.declared.config.Config.{Config}
use Rattle.plp_config.specs.declared.plp.Plp.{Plp}
use Rattle.plp_config.specs.declared.plp.PlpType.TheVariants.{Type1, Type2}
use Rattle.plp_config.specs.declared.plp.FecSize.TheVariants.{Short}
use Rattle.plp_config.specs.declared.plp.Rate.TheVariants.{R1_2, R2_3, R3_5}
use Rattle.plp_config.specs.declared.plp.Modulation.TheVariants.{Qpsk, Qam16, Qam64}

-- three PLPs in short blocks: one of type 1 that is full, one that keeps its null packets, and one of type 2
abbrev pub trial_plps : List Plp
trial_plps =
    record {
      id = 1;
      plp_type = Type1;
      group = 1;
      rate = R1_2;
      modulation = Qpsk;
      fec = Short;
      rotation = false;
      blocks = 3;
      interleave = 1;
      delete = true;
      bits_per_second = 1906000;
      spread = 1;
    }
    ∷ record {
      id = 2;
      plp_type = Type1;
      group = 1;
      rate = R2_3;
      modulation = Qam16;
      fec = Short;
      rotation = false;
      blocks = 2;
      interleave = 2;
      delete = false;
      bits_per_second = 1500000;
      spread = 1;
    }
    ∷ record {
      id = 3;
      plp_type = Type2;
      group = 2;
      rate = R3_5;
      modulation = Qam64;
      fec = Short;
      rotation = false;
      blocks = 2;
      interleave = 1;
      delete = true;
      bits_per_second = 1600000;
      spread = 1;
    }
    ∷ []

-- 8 MHz, frames of 100,000 ticks, two of them a superframe, 60,000 cells in five sub-slices
abbrev pub trial_config : Config
trial_config = record {
  band = Mhz8;
  ticks = 100000;
  frames = 2;
  cells = 60000;
  seconds = 700000000;
  subseconds = 0;
  utco = 5;
  pid = 256;
  cell_id = 1;
  network_id = 2;
  system_id = 3;
  frequency = 474000000;
  l1 = record {
    bwt_ext = 0;
    s2 = 6;
    guard = 1;
    papr = 0;
    l1_mod = 1;
    l1_cod = 0;
    l1_fec = 0;
    post_size = 1000;
    pilot = 6;
    tx_id = 0;
    symbols = 59;
    regen = 0;
  };
  sub_slices = 5;
  plps = trial_plps;
}
