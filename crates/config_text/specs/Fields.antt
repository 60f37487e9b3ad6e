-- The lines of a configuration text: their keys and fields, and how words spell values.
use Rattle.std.specs.Prelude.{◌≡◌, ◌⊎◌, ℕ, ◌+◌, ◌-◌, ◌≤◌, ◌^◌, List, [], ◌∷◌, ◌++◌, codes, slice_index_or, Option, Some}
use Rattle.std.specs.Prelude.{None}
use Rattle.std.specs.Prelude.{if◌then◌else◌, bytes_eq}
use Rattle.std.specs.Fmt.{decimal}
use Rattle.config_text.specs.declared.fault.TextWhy.{TextWhy}
use Rattle.config_text.specs.declared.fault.TextWhy.TheVariants.{BadWord, BadNumber}
use Rattle.config_text.specs.declared.field.Field.{Field}
use Rattle.config_text.specs.declared.field.Field.TheVariants.{Version, Number8, Number16, Number32, Number64}
use Rattle.config_text.specs.declared.field.Field.TheVariants.{Bandwidth, PlpType}
use Rattle.config_text.specs.declared.field.Field.TheVariants.{CodeRate, Constellation, BlockSize, Bit, Deletion}

abbrev pub bands : List (List ℕ)
bands = codes "1.7" ∷ codes "5" ∷ codes "6" ∷ codes "7" ∷ codes "8" ∷ codes "10" ∷ []

abbrev pub plp_types : List (List ℕ)
plp_types = codes "common" ∷ codes "type1" ∷ codes "type2" ∷ []

abbrev pub rates : List (List ℕ)
rates = codes "1/2" ∷ codes "3/5" ∷ codes "2/3" ∷ codes "3/4" ∷ codes "4/5" ∷ codes "5/6" ∷ []

abbrev pub modulations : List (List ℕ)
modulations = codes "qpsk" ∷ codes "16qam" ∷ codes "64qam" ∷ codes "256qam" ∷ []

abbrev pub sizes : List (List ℕ)
sizes = codes "short" ∷ codes "normal" ∷ []

abbrev pub bits : List (List ℕ)
bits = codes "0" ∷ codes "1" ∷ []

abbrev pub deletions : List (List ℕ)
deletions = codes "delete" ∷ codes "keep" ∷ []

-- how a value is spelled: a number from the least to the greatest, or one of some words, whose place it is
pub data Spelling : Type 0 where
  Number : ℕ → ℕ → Spelling
  Word : List (List ℕ) → Spelling

-- the spelling of each kind of field
abbrev pub spelling_of : Field → Spelling
spelling_of Version = Number 1 2
spelling_of Number8 = Number 0 (2 ^ 8 - 1)
spelling_of Number16 = Number 0 (2 ^ 16 - 1)
spelling_of Number32 = Number 0 (2 ^ 32 - 1)
spelling_of Number64 = Number 0 (2 ^ 64 - 1)
spelling_of Bandwidth = Word bands
spelling_of PlpType = Word plp_types
spelling_of CodeRate = Word rates
spelling_of Constellation = Word modulations
spelling_of BlockSize = Word sizes
spelling_of Bit = Word bits
spelling_of Deletion = Word deletions

-- the key of the line that is due behind so many; behind the first eight a PLP is
abbrev pub key_at : ℕ → List ℕ
key_at due =
    slice_index_or (codes "t2-gateway" ∷ codes "bandwidth" ∷ codes "frame" ∷ codes "start" ∷ codes "pid"
    ∷ codes "network"
    ∷ codes "l1" ∷ codes "subslices" ∷ []) due (codes "plp")

-- ticks of a frame, frames of a superframe, cells of a frame
abbrev pub frame_fields : List Field
frame_fields = Number32 ∷ Number16 ∷ Number32 ∷ []

-- seconds since 2000, subseconds, utco
abbrev pub start_fields : List Field
start_fields = Number64 ∷ Number32 ∷ Number16 ∷ []

-- CELL_ID, NETWORK_ID, T2_SYSTEM_ID, FREQUENCY
abbrev pub network_fields : List Field
network_fields = Number16 ∷ Number16 ∷ Number16 ∷ Number32 ∷ []

-- BWT_EXT, S2, GUARD_INTERVAL, PAPR, L1_MOD, L1_COD, L1_FEC_TYPE, L1_POST_SIZE, PILOT_PATTERN, TX_ID_AVAILABILITY,
-- NUM_DATA_SYMBOLS, REGEN_FLAG
abbrev pub l1_fields : List Field
l1_fields = Number8 ∷ Number8 ∷ Number8 ∷ Number8 ∷ Number8 ∷ Number8 ∷ Number8 ∷ Number32 ∷ Number8
    ∷ Number8 ∷ Number16
    ∷ Number8 ∷ []

-- identifier, type, group, rate, modulation, block size, rotation, blocks, interleaver length, null packets, bit/s,
-- spread
abbrev pub plp_fields : List Field
plp_fields = Number8 ∷ PlpType ∷ Number8 ∷ CodeRate ∷ Constellation ∷ BlockSize ∷ Bit ∷ Number16 ∷ Number16
    ∷ Deletion ∷ Number32
    ∷ Number8 ∷ []

-- the fields of the line that is due behind so many: version, bandwidth, frame, start, PID, network, L1, sub-slices,
-- and PLPs
abbrev pub fields_at : ℕ → List Field
fields_at due =
    slice_index_or
    ((Version ∷ []) ∷ (Bandwidth ∷ []) ∷ frame_fields ∷ start_fields ∷ (Number16 ∷ []) ∷ network_fields ∷ l1_fields
    ∷ (Number16 ∷ []) ∷ [])
    due
    plp_fields

-- the place of a word in a list of words, counted from a number
abbrev pub place_from : ℕ → List ℕ → List (List ℕ) → Option ℕ
place_from place word [] = None
place_from place word (w ∷ ws) = if bytes_eq word w then Some place else place_from (place + 1) word ws

-- The word spells the value.
abbrev pub SpellsValue : Spelling → ℕ → List ℕ → Type 0
SpellsValue (Number least greatest) n word = (word ≡ decimal n) × (least ≤ n) × (n ≤ greatest)
SpellsValue (Word words) n word = place_from 0 word words ≡ Some n

-- The word spells the value of the field.
abbrev pub SpellsField : Field → ℕ → List ℕ → Type 0
SpellsField field n word = SpellsValue (spelling_of field) n word

-- The words spell the values of the fields, one by one.
abbrev pub SpellsFields : List Field → List ℕ → List (List ℕ) → Type 0
SpellsFields [] [] [] = Unit {0}
SpellsFields (f ∷ fs) (n ∷ ns) (w ∷ ws) = SpellsField f n w × SpellsFields fs ns ws
SpellsFields fs ns ws = ⊥

-- why a word is refused that spells no value
abbrev pub why_of : Spelling → TextWhy
why_of (Number least greatest) = BadNumber
why_of (Word words) = BadWord

-- The first of the words that spells no value of its field is refused for this reason.
abbrev pub FailsFirst : List Field → List (List ℕ) → TextWhy → Type 0
FailsFirst (f ∷ fs) (w ∷ ws) why =
    (((n : ℕ) → SpellsField f n w → ⊥) × (why ≡ why_of (spelling_of f))) ⊎ ((n : ℕ) × SpellsField f n w
    × FailsFirst fs ws why)
FailsFirst fs ws why = ⊥

-- the word that spells a value
abbrev pub word_of : Spelling → ℕ → List ℕ
word_of (Number least greatest) n = decimal n
word_of (Word words) n = slice_index_or words n []

-- the values of a line in words, each behind a space
abbrev pub words_after : List Field → List ℕ → List ℕ
words_after [] ns = []
words_after (f ∷ fs) [] = []
words_after (f ∷ fs) (n ∷ ns) = 32 ∷ (word_of (spelling_of f) n ++ words_after fs ns)
