-- Laws of records.
use Rattle.std.specs.Prelude.{◌≡◌, ◌⊎◌, ℕ, ◌+◌, ◌<◌, List, [], ◌++◌, length, slice_index}
use Rattle.std.specs.List.{concat, flat_map}
use Rattle.plp_config.specs.Rules.{AllRules}
use Rattle.plp_config.specs.declared.config.Config.{Config}
use Rattle.plp_config.specs.declared.moment.Moment.{Moment}
use Rattle.site_frame.specs.Record.{Block, head_len, head_bytes, block_bytes, blocks_bytes}
use Rattle.site_frame.specs.Placing.{IsFrameOf}
use Rattle.site_frame.specs.Whole.{Spells, BeginsWith, Refuses, written_rest, record_bytes, record_len, FitsRest}
use Rattle.site_frame.specs.Whole.{FitsRecord}
use Rattle.site_frame.specs.declared.fault.RecordWhy.{RecordWhy}
use Rattle.site_frame.specs.declared.reading.RecordView.{RecordView}

-- What was written is read, whatever follows.
abbrev pub WrittenIsRead : Type 0
WrittenIsRead = (view : RecordView) (front more : List ℕ) → Spells view front
    → BeginsWith (front ++ more) view (length front)

-- Bytes begin with one record at most: none is a proper prefix of another, and none is spelled like another.
abbrev pub OneRecord : Type 0
OneRecord = (v w : RecordView) (front other more rest : List ℕ) → Spells v front → Spells w other
    → front ++ more ≡ other ++ rest
    → (v ≡ w) × (front ≡ other)

-- What begins with a record is not refused, whatever follows.
abbrev pub NoRefusal : Type 0
NoRefusal = (view : RecordView) (front more : List ℕ) (why : RecordWhy) → Spells view front
    → ¬ (Refuses (front ++ more) why)

-- Bytes begin with a record or are refused.
abbrev pub SpelledOrRefused : Type 0
SpelledOrRefused = (bytes : List ℕ) → ((k : ℕ) → slice_index bytes k < 256)
    → ((view : RecordView) × ((len : ℕ) × BeginsWith bytes view len)) ⊎ ((why : RecordWhy) × Refuses bytes why)

-- Bytes have one refusal at most.
abbrev pub OneRefusal : Type 0
OneRefusal = (bytes : List ℕ) (why other : RecordWhy) → Refuses bytes why → Refuses bytes other → why ≡ other

-- A record has as many bytes as its sections together.
abbrev pub SpelledLength : Type 0
SpelledLength = (view : RecordView) (bytes : List ℕ) → Spells view bytes → length bytes ≡ record_len view

-- The record as it is written spells it.
abbrev pub WrittenSpells : Type 0
WrittenSpells = (view : RecordView) → FitsRecord view → Spells view (record_bytes view)

-- Its head and its rest have so many bytes.
abbrev pub HeadLength : Type 0
HeadLength = (kind : ℕ) (moment : Moment) (rest : ℕ) → length (head_bytes kind moment rest) ≡ head_len

abbrev pub WrittenLength : Type 0
WrittenLength = (view : RecordView) → FitsRest view → head_len + length (concat (written_rest view)) ≡ record_len view

-- Blocks are written one behind another.
abbrev pub BlocksInOrder : Type 0
BlocksInOrder = (blocks : List Block) → blocks_bytes blocks [] ≡ flat_map (λ b. block_bytes b 0) blocks

-- A moment is the emission of one frame at most.
abbrev pub OneFrame : Type 0
OneFrame = (c : Config) (moment : Moment) (frame other : ℕ) → AllRules c → IsFrameOf c moment frame
    → IsFrameOf c moment other
    → frame ≡ other
