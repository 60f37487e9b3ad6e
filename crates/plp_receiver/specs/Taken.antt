-- What is taken of a block.
use Rattle.std.specs.Prelude.{◌≡◌, ℕ, ◌/◌, ◌%◌, ◌^◌, ◌==◌, Bool, true, false, List, [], slice_get, Option, Some, None}
use Rattle.std.specs.Prelude.{if◌then◌else◌}
use Rattle.std.specs.Option.{option_map_or}
use Rattle.terms.specs.Bits.{bits_of, bytes_of}
use Rattle.bb_frame.specs.BasebandFrame.{Spells}
use Rattle.bb_frame.specs.Scrambled.{scrambled}
use Rattle.bb_frame.specs.declared.header.Header.{Header}
use Rattle.bb_frame.specs.declared.header.TheConstants.{NO_START}
use Rattle.site_frame.specs.Record as frame
use Rattle.plp_receiver.specs.Strings.{Block}

-- TS/GS is 11, ISSYI is 1, and NPD says whether null packets are deleted (EN 302 755, clause 5.1.7).
pub record IsOfStream (deletes : Bool) (matype1 : ℕ) : Type 0 where
  pub stream : matype1 / 2 ^ 6 ≡ 3
  pub issyi : matype1 / 2 ^ 3 % 2 ≡ 1
  pub npd : matype1 / 2 ^ 2 % 2 ≡ (if deletes then 1 else 0)

-- what a header and a data field tell
abbrev pub block_read : Header → List ℕ → Block
block_read h field = record {
  first = if h.syncd == NO_START then None else Some (h.syncd / 8);
  issy =
      h.issy;
  field = field;
}

-- The bits spell a baseband frame that is taken, and this is what it tells.
pub record IsTaken (deletes : Bool) (bits : List Bool) (b : Block) : Type 0 where
  pub header : Header
  pub body : List Bool
  pub spelled : Spells header body bits
  pub stream : IsOfStream deletes header.matype1
  pub block : b ≡ block_read header (bytes_of body)

-- What is told of a block by its bytes as they are sent, scrambled: nothing if it is not taken.
abbrev pub IsTold : Bool → List ℕ → Option Block → Type 0
IsTold deletes bytes None = (b : Block) → ¬ (IsTaken deletes (scrambled (bits_of bytes)) b)
IsTold deletes bytes (Some b) = IsTaken deletes (scrambled (bits_of bytes)) b

-- Of a block whose cells do not all stand at their addresses, nothing is.
abbrev pub IsGiven : Bool → Bool → List ℕ → Option Block → Type 0
IsGiven deletes true bytes told = IsTold deletes bytes told
IsGiven deletes false bytes told = told ≡ None

-- the bytes of the block at a place
abbrev pub bytes_at : List frame.Block → ℕ → List ℕ
bytes_at blocks place = option_map_or (λ b. b.bytes) (slice_get blocks place) []
