-- Null-packet deletion (EN 302 755, clause 5.1.5): which packets are kept, and with which dnp. Each packet has a slot,
-- from 0 on.
use Rattle.std.specs.Prelude.{ℕ, ◌+◌, ◌%◌, ◌==◌, Bool, true, not, ◌||◌, if◌then◌else◌, List, [], ◌∷◌, ◌++◌, length}
use Rattle.std.specs.Prelude.{filter}
use Rattle.std.specs.Prelude.{take_while, reverse, sum_by, slice_index_or, Option, Some, None}
use Rattle.std.specs.List.{range_with_len}
use Rattle.ts_packet.specs.Null.{is_null, null_packet}

-- the longest run of slots that pass a test and that ends directly before slot k, the last of them first
unfoldable pub run_before : (ℕ → Bool) → ℕ → List ℕ
run_before passes k = take_while passes (reverse (range_with_len 0 k))

-- whether the packet in slot k is kept: each one if nothing is deleted, else one that is not null, and one if the
-- longest run of null packets directly before it has a length that is 255 modulo 256
abbrev pub is_kept : Bool → (ℕ → Bool) → ℕ → Bool
is_kept deletes nulls k = if deletes then not (nulls k) || (length (run_before nulls k) % 256 == 255) else true

-- the number of slots between slot k and the last kept slot before it, or before slot 0
abbrev pub dnp : (ℕ → Bool) → ℕ → ℕ
dnp keeps k = length (run_before (λ j. not (keeps j)) k)

-- the kept slots below n, in order
abbrev pub kept_slots : (ℕ → Bool) → ℕ → List ℕ
kept_slots keeps n = filter keeps (range_with_len 0 n)

-- the answer to slot k: its dnp, if it is kept
abbrev pub answer_at : Bool → (ℕ → Bool) → ℕ → Option ℕ
answer_at deletes nulls k = if is_kept deletes nulls k then Some (dnp (is_kept deletes nulls) k) else None

-- the packet in slot k of those that begin at slot 0: from their end on null packets
abbrev pub packet_at : List (List ℕ) → ℕ → List ℕ
packet_at packets k = slice_index_or packets k null_packet

-- which slots hold null packets
abbrev pub nulls_of : List (List ℕ) → ℕ → Bool
nulls_of packets k = is_null (packet_at packets k)

-- the answer to a packet behind others
abbrev pub answer_of : Bool → List (List ℕ) → List ℕ → Option ℕ
answer_of deletes packets packet = answer_at deletes (nulls_of (packets ++ packet ∷ [])) (length packets)

-- the slot to which dnps lead from a slot: each kept packet lies its dnp and 1 behind the one before it
abbrev pub slot_after : ℕ → List ℕ → ℕ
slot_after first dnps = first + sum_by (λ dnp. 1 + dnp) dnps
