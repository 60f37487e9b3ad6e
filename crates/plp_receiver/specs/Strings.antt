-- The joined data fields of taken blocks, byte by byte (EN 302 755, clause 5.1). A byte tells where user packets begin
-- and may end.
use Rattle.std.specs.Prelude.{ℕ, ◌+◌, ◌-◌, ◌/◌, ◌%◌, ◌==◌, ◌||◌, nat_lt, Bool, true, false, List, [], ◌∷◌, length, map}
use Rattle.std.specs.Prelude.{Option, Some, None, if◌then◌else◌}
use Rattle.plp_config.specs.declared.moment.TheConstants.{ISCR_TICKS}
use Rattle.plp_receiver.specs.declared.mark.Mark.{Mark}
use Rattle.plp_receiver.specs.declared.mark.Mark.TheVariants.{Gap, Inside, Next, Timed}

-- a byte of the string, or a gap; epoch is the number of the interleaving frame whose block it stands in. A user packet
-- can end at the last byte of a block, and at each byte behind which one begins
pub record Item : Type 0 where
  pub mark : Mark
  pub value : ℕ
  pub epoch : ℕ
  pub can_end : Bool

-- a taken block: the place in its data field where the first user packet begins, if one does; its ISSY; its data field
pub record Block : Type 0 where
  pub first : Option ℕ
  pub issy : ℕ
  pub field : List ℕ

abbrev pub is_start : Mark → Bool
is_start Gap = false
is_start Inside = false
is_start Next = true
is_start (Timed iscr) = true

abbrev pub is_inside : Mark → Bool
is_inside Gap = false
is_inside Inside = true
is_inside Next = false
is_inside (Timed iscr) = false

-- ISSY tells the ISCR of the first user packet if its 24 bits begin with 10
abbrev pub first_mark : ℕ → Mark
first_mark issy = if issy / ISCR_TICKS == 2 then Timed (issy % ISCR_TICKS) else Next

-- user packets begin at the first place and at every further len bytes
abbrev pub mark_from : ℕ → ℕ → ℕ → ℕ → Mark
mark_from len issy s i = if i == s then first_mark issy
    else (if nat_lt i s then Inside else (if (i - s) % len == 0 then Next else Inside))

abbrev pub mark_in : ℕ → ℕ → Option ℕ → ℕ → Mark
mark_in len issy None i = Inside
mark_in len issy (Some s) i = mark_from len issy s i

unfoldable pub mark_at : ℕ → Block → ℕ → Mark
mark_at len b i = mark_in len b.issy b.first i

abbrev pub item_at : ℕ → ℕ → Block → ℕ → ℕ → Item
item_at len epoch b i value =
    record {
      mark = mark_at len b i;
      value = value;
      epoch = epoch;
      can_end = (i + 1 == length b.field) || is_start
          (mark_at len b (i + 1));
    }

-- some bytes of the data field, from place i on
abbrev pub items_from : ℕ → ℕ → Block → ℕ → List ℕ → List Item
items_from len epoch b i [] = []
items_from len epoch b i (value ∷ values) = item_at len epoch b i value ∷ items_from len epoch b (i + 1) values

abbrev pub block_items : ℕ → ℕ → Block → List Item
block_items len epoch b = items_from len epoch b 0 b.field

abbrev pub gap : ℕ → Item
gap epoch = record { mark = Gap; value = 0; epoch = epoch; can_end = false }

abbrev pub item_values : List Item → List ℕ
item_values xs = map (λ x. x.value) xs
