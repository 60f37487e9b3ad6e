-- What is said on standard output.
use Rattle.std.specs.Prelude.{ℕ, ◌+◌, Bool, List, [], ◌∷◌, ◌++◌, length, take, codes}
use Rattle.std.specs.Fmt.{decimal}
use Rattle.hex.specs.Hex.{encode_lower}
use Rattle.terms.specs.Bits.{bytes_of}
use Rattle.t2mi_packet.specs.declared.packet_view.PacketView.{PacketView}
use Rattle.t2mi_packet.specs.T2miPacket.{view_of}
use Rattle.site_frame.specs.declared.reading.RecordView.{RecordView}
use Rattle.site_frame.specs.declared.reading.RecordView.TheVariants.{Frame, Muted}

-- the first 8 bytes of a payload, or all
abbrev pub head_of : List Bool → List ℕ
head_of bits = take 8 (bytes_of bits)

-- the line of what is seen of a packet that stands at a place of a file, which a key names: its packet_type and the
-- head of its payload in hexadecimal, packet_count, superframe_idx, t2mi_stream_id and payload_len in decimal
unfoldable pub view_line : List ℕ → ℕ → PacketView → List ℕ
view_line key at v =
    key ++ decimal at ++ codes " type=" ++ encode_lower (v.packet_type ∷ []) ++ codes " count="
    ++ decimal v.packet_count
    ++ codes " superframe=" ++ decimal v.superframe ++ codes " stream=" ++ decimal v.stream
    ++ codes " bits=" ++ decimal (length v.payload) ++ codes " head=" ++ encode_lower (head_of v.payload) ++ codes "\n"

-- the line of a packet among others that stand back to back, by the fields of its bytes
abbrev pub line_of : ℕ → List ℕ → List ℕ
line_of at packet = view_line (codes "offset=") at (view_of packet)

-- the lines of packets that stand back to back, the first of them at this place
abbrev pub lines_of : ℕ → List (List ℕ) → List ℕ
lines_of at [] = []
lines_of at (p ∷ ps) = line_of at p ++ lines_of (at + length p) ps

-- the line that ends the lines of packets
abbrev pub count_line : ℕ → List ℕ
count_line count = codes "packets=" ++ decimal count ++ codes "\n"

-- the line of a record, which is the number-th of its file, counted from 0: its kind, its emission, and the numbers of
-- a frame's blocks and cells
unfoldable pub record_line : ℕ → RecordView → List ℕ
record_line number (Frame moment pre post blocks cells) =
    codes "record=" ++ decimal number ++ codes " kind=frame seconds=" ++ decimal moment.seconds ++ codes " subseconds="
    ++ decimal moment.subseconds
    ++ codes " blocks=" ++ decimal (length blocks) ++ codes " cells=" ++ decimal (length cells) ++ codes "\n"
record_line number (Muted moment) =
    codes "record=" ++ decimal number ++ codes " kind=muted seconds=" ++ decimal moment.seconds ++ codes " subseconds="
    ++ decimal moment.subseconds ++ codes "\n"

-- the lines of records, the first of them with this number
abbrev pub record_lines : ℕ → List RecordView → List ℕ
record_lines number [] = []
record_lines number (view ∷ views) = record_line number view ++ record_lines (number + 1) views

-- the line that ends the lines of records
abbrev pub records_line : ℕ → List ℕ
records_line count = codes "records=" ++ decimal count ++ codes "\n"
