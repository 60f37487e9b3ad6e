-- A data field in pieces: a user packet may begin at the first byte of a piece, and at no other. No public clause cites
-- this module.
use Rattle.std.specs.Prelude.{ℕ, nat_lt, Bool, true, false, List, [], ◌∷◌, ◌++◌, length, Option, None, if◌then◌else◌}
use Rattle.plp_receiver.specs.declared.mark.Mark.{Mark}
use Rattle.plp_receiver.specs.declared.slot_rule.SlotRule.{SlotRule}
use Rattle.plp_receiver.specs.Strings.{Item}
use Rattle.plp_receiver.specs.declared.mark.Mark.TheVariants.{Gap, Inside, Next, Timed}
use Rattle.plp_receiver.specs.Machine.{State, Turn, state_of, turn_of, before_next, ended}

abbrev pub item : Mark → ℕ → ℕ → Bool → Item
item mark value epoch can_end = record { mark = mark; value = value; epoch = epoch; can_end = can_end }

-- the items of a piece: a user packet can end where the piece ends
abbrev pub piece_items : Mark → ℕ → List ℕ → List Item
piece_items mark epoch [] = []
piece_items mark epoch (v ∷ []) = item mark v epoch true ∷ []
piece_items mark epoch (v ∷ u ∷ us) = item mark v epoch false ∷ piece_items Inside epoch (u ∷ us)

-- the bytes of a user packet go on with those of a piece
abbrev pub piece_grown : SlotRule → List Item → Option ℕ → Turn
piece_grown r w before =
    if nat_lt (length w) r.up_len then turn_of (state_of w before) []
    else (if nat_lt r.up_len (length w) then turn_of (state_of [] None) [] else ended r w before)

abbrev pub piece_inside : SlotRule → List Item → Option ℕ → List Item → Turn
piece_inside r [] before piece = turn_of (state_of [] None) []
piece_inside r (y ∷ ys) before piece = piece_grown r (y ∷ ys ++ piece) before

-- what a piece does
abbrev pub piece_turn : SlotRule → State → Mark → List Item → Turn
piece_turn r s Gap piece = turn_of (state_of [] None) []
piece_turn r s Inside piece = piece_inside r s.held s.before piece
piece_turn r s Next piece = piece_grown r piece (before_next s.held s.before)
piece_turn r s (Timed iscr) piece = piece_grown r piece (before_next s.held s.before)
