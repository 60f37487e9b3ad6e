-- Packets that all streams of a group share in a slot, and what comes of a slot's packets (EN 302 755, clause 5.2 and
-- annex D).
use Rattle.std.specs.Prelude.{ℕ, ◌&&◌, not, Bool, false, List, [], ◌∷◌, bytes_eq, is_some, unwrap_or, Some, None}
use Rattle.std.specs.Prelude.{if◌then◌else◌}
use Rattle.std.specs.List.{list_all}
use Rattle.std.specs.declared.option.Option.{Option}
use Rattle.ts_packet.specs.Null.{is_null, null_packet}

-- A stream has this packet, and not another, or none.
abbrev pub is_packet : List ℕ → Option (List ℕ) → Bool
is_packet packet None = false
is_packet packet (Some other) = bytes_eq packet other

-- the packet that streams share in a slot, by what each has in it: all have it, and it is not null
abbrev pub shared_packet : List (Option (List ℕ)) → Option (List ℕ)
shared_packet [] = None
shared_packet (None ∷ others) = None
shared_packet (Some packet ∷ others) =
    if not (is_null packet) && list_all (is_packet packet) others then Some packet else None

-- They share one.
abbrev pub is_shared : List (Option (List ℕ)) → Bool
is_shared slot = is_some (shared_packet slot)

-- what goes in the common PLP, and what stays of a stream's packet
abbrev pub common_packet : List (Option (List ℕ)) → List ℕ
common_packet slot = unwrap_or (shared_packet slot) null_packet

abbrev pub own_packet : List (Option (List ℕ)) → List ℕ → List ℕ
own_packet slot packet = if is_shared slot then null_packet else packet

-- the packet of a stream again, from the common PLP's and its own
abbrev pub joined_packet : List ℕ → List ℕ → List ℕ
joined_packet common own = if not (is_null own) then own else if not (is_null common) then common else null_packet
