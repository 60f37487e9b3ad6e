-- A trial of a whole network: one gateway, a modulator that reads all of its stream, one that loses units, and the
-- receivers of what both make.
use Rattle.std.specs.Prelude.{◌≡◌, ℕ, ◌<◌, List, [], ◌++◌, length, codes, slice_index_or}
use Rattle.std.specs.List.{concat}
use Rattle.std.specs.Fmt.{decimal}
use Rattle.std.specs.Int.{w32, to_be_bytes}
use Rattle.hex.specs.Hex.{encode_lower}
use Rattle.terms.specs.Bits.{bits_of}
use Rattle.modulator.specs.StandsFor.{records_of}
use Rattle.bit_slice.specs.Crc.{crc32_of}
use Rattle.plp_config.specs.Plps.{plp_at}
use Rattle.plp_config.specs.declared.config.Config.{Config}
use Rattle.ts_packet.specs.TsFile.{joined}
use Rattle.common_plp.specs.Sharing.{Apart}
use Rattle.gateway_run.specs.GatewayRun.{frames_of, units_of}
use Rattle.modulate_run.specs.Counted.{counted}
use Rattle.modulate_run.specs.ModulateRun.{output_of}
use Rattle.modulate_run.specs.declared.stop.ModulateRan.{ModulateRan}
use Rattle.receive_run.specs.ReceiveRun.{HasAll}
use Rattle.receive_run.specs.declared.stop.ReceiveRan.{ReceiveRan}
use Rattle.trial_run.specs.Counts.{AreCut, filled_packets, same_count}
use Rattle.trial_run.specs.Losses.{kept_from}
use Rattle.trial_run.specs.TrialInput.{input_of, start_of}
use Rattle.trial_run.specs.declared.counts.Piece.{Piece}

-- the stream of the gateway over the inputs that are drawn
unfoldable pub stream_of : Config → ℕ → ℕ → List ℕ
stream_of c frames seed = joined (units_of Apart c (input_of c frames seed))

-- what the second modulator reads of it, by the draws behind those of the inputs
unfoldable pub lossy_of : Config → ℕ → ℕ → List ℕ
lossy_of c frames seed = kept_from (start_of c frames (length c.plps) seed) (stream_of c frames seed)

-- the CRC-32 of bytes in eight hexadecimal digits
abbrev pub crc_word : List ℕ → List ℕ
crc_word bytes = encode_lower (to_be_bytes w32 (crc32_of (bits_of bytes)))

-- the first line: how many frames the gateway sent in how many units, and the CRC-32 of all of these
abbrev pub stream_line : ℕ → ℕ → List ℕ → List ℕ
stream_line frames units stream = codes "frames=" ++ decimal frames ++ codes " units=" ++ decimal units ++ codes " crc="
    ++ crc_word stream ++ codes "\n"

-- of a modulator: the number of its first record, how many there are, and how many of them are muted
abbrev pub records_part : ModulateRan → List ℕ
records_part ran = codes " first=" ++ decimal ran.first ++ codes " records=" ++ decimal ran.records ++ codes " muted="
    ++ decimal ran.muted

-- the line of the one that reads all, with the CRC-32 of its records
abbrev pub whole_line : ModulateRan → List ℕ → List ℕ
whole_line ran records = codes "a" ++ records_part ran ++ codes " crc=" ++ crc_word records ++ codes "\n"

-- the line of the one that loses units, which tells how many of its records of frames are also among those of the other
-- one
abbrev pub lossy_line : ModulateRan → ℕ → List ℕ → List ℕ
lossy_line ran same records = codes "b" ++ records_part ran ++ codes " same=" ++ decimal same ++ codes " crc="
    ++ crc_word records
    ++ codes "\n"

-- the line of a PLP: how many packets that are not null its input has, how many it is given back of either file of
-- records, and the CRC-32 of all that it is given back of the one with losses
abbrev pub plp_line : ℕ → List ℕ → List ℕ → List ℕ → List ℕ
plp_line id input whole lossy = codes "plp=" ++ decimal id ++ codes " packets=" ++ decimal (filled_packets input)
    ++ codes " a="
    ++ decimal (filled_packets whole)
    ++ codes " b=" ++ decimal (filled_packets lossy) ++ codes " crc=" ++ crc_word lossy ++ codes "\n"

-- These bytes are what a PLP is given back of a file of records.
abbrev pub ComesOf : Config → ℕ → List ℕ → List ℕ → Type 0
ComesOf c plp records bytes = (ran : ReceiveRan) × HasAll c plp ran records bytes

-- This is the line of the PLP at a place.
pub record IsPlpLine (c : Config) (frames seed plp : ℕ) (line : List ℕ) : Type 0 where
  pub whole : List ℕ
  pub lossy : List ℕ
  pub comes : ComesOf c plp (output_of c (stream_of c frames seed)) whole
  pub comes_lossy : ComesOf c plp (output_of c (lossy_of c frames seed)) lossy
  pub line_is : line ≡ plp_line (plp_at c.plps plp).id (input_of c frames seed plp) whole lossy

-- Of the records of frames in the file with losses so many stand in the whole one.
pub record IsSameCount (whole lossy : List ℕ) (same : ℕ) : Type 0 where
  pub records : List Piece
  pub lossy_records : List Piece
  pub are : AreCut whole records []
  pub are_lossy : AreCut lossy lossy_records []
  pub count : same ≡ same_count records lossy_records

-- These are the lines of so many first PLPs.
pub record ArePlpLines (c : Config) (frames seed plps : ℕ) (text : List ℕ) : Type 0 where
  pub lines : List (List ℕ)
  pub count : length lines ≡ plps
  pub each : (plp : ℕ) → plp < plps → IsPlpLine c frames seed plp (slice_index_or lines plp [])
  pub text_is : text ≡ concat lines

-- The text tells of the stream and of what both modulators make of it.
pub record IsNetworkText (c : Config) (frames seed : ℕ) (text : List ℕ) : Type 0 where
  pub same : ℕ
  pub is_same : IsSameCount (output_of c (stream_of c frames seed)) (output_of c (lossy_of c frames seed)) same
  pub text_is : text ≡ stream_line (frames_of Apart c (input_of c frames seed))
      (length (units_of Apart c (input_of c frames seed)))
      (stream_of c frames seed)
      ++ whole_line (counted (records_of c (stream_of c frames seed))) (output_of c (stream_of c frames seed))
      ++ lossy_line (counted (records_of c (lossy_of c frames seed))) same (output_of c (lossy_of c frames seed))

-- The text is what is said of a trial: first of the network, then of each PLP.
pub record IsTrialText (c : Config) (frames seed : ℕ) (text : List ℕ) : Type 0 where
  pub network : List ℕ
  pub plps : List ℕ
  pub of_network : IsNetworkText c frames seed network
  pub of_plps : ArePlpLines c frames seed (length c.plps) plps
  pub text_is : text ≡ network ++ plps
