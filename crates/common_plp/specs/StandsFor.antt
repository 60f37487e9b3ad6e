-- What a `Splitter` stands for.
use Rattle.std.specs.Prelude.{◌≡◌, ℕ, List, [], ◌∷◌, Some, None, if◌then◌else◌}
use Rattle.std.specs.List.{list_all}
use Rattle.std.specs.declared.option.Option.{Option}
use Rattle.ts_packet.specs.Null.{is_null}
use Rattle.common_plp.specs.Shared.{is_packet}
use Rattle.common_plp.specs.declared.splitter.Seen.{Seen}
use Rattle.common_plp.specs.declared.splitter.Seen.TheVariants.{Nothing, Equal, Apart}
use Rattle.common_plp.specs.declared.splitter.Splitter.{Splitter}

-- how it holds what the streams have in the slot
abbrev pub seen_of : List (Option (List ℕ)) → Seen
seen_of [] = Nothing
seen_of (None ∷ others) = Apart
seen_of (Some packet ∷ others) = if list_all (is_packet packet) others then Equal packet else Apart

-- the packet that was seen of each stream, if it is not null
abbrev pub seen_shared : Seen → Option (List ℕ)
seen_shared Nothing = None
seen_shared (Equal packet) = if is_null packet then None else Some packet
seen_shared Apart = None

-- Of the slot under way this was seen, and the streams shared this packet in the slot before.
unfoldable pub SplitterStandsFor : Splitter → List (Option (List ℕ)) → Option (List ℕ) → Type 0
SplitterStandsFor s slot shared = (s.seen ≡ seen_of slot) × (s.shared ≡ shared)

-- the packet that the streams shared in the slot before
abbrev pub shared_of : Splitter → Option (List ℕ)
shared_of s = s.shared
