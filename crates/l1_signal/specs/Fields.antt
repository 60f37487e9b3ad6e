-- Fields one behind another, by a table: how they are read and spelled (EN 302 755, clause 7.2).
use Rattle.std.specs.Prelude.{◌≡◌, ◌<◌, ℕ, ◌%◌, ◌^◌, ◌==◌, Bool, true, nat_lt, nat_le, List, [], ◌∷◌, ◌++◌, length}
use Rattle.std.specs.Prelude.{take, drop}
use Rattle.std.specs.Prelude.{map, slice_index, if◌then◌else◌, Result, Ok, Err}
use Rattle.terms.specs.Bits.{field, number_of}
use Rattle.l1_signal.specs.declared.fault.L1Fault.{L1Fault}
use Rattle.l1_signal.specs.declared.fault.L1Fault.TheVariants.{Short, Unsupported}
use Rattle.l1_signal.specs.declared.fields.Demand.{Demand}
use Rattle.l1_signal.specs.declared.fields.Demand.TheVariants.{Any, Only, AtMost, Positive, Even}
use Rattle.l1_signal.specs.declared.fields.Field.{Field}

-- whether a value is read
abbrev pub meets : Demand → ℕ → Bool
meets Any value = true
meets (Only one) value = value == one
meets (AtMost most) value = nat_le value most
meets Positive value = nat_le 1 value
meets Even value = value % 2 == 0

-- A row of a table, by its number and its width in bits. It tells a field of what the table spells, and has the values
-- that are read; or it is ignored, and has any value.
pub data Row (A : Type 0) : Type 0 where
  Told : ℕ → ℕ → Demand → (A → ℕ) → Row A
  Ignored : ℕ → ℕ → Row A

-- the fields of a table
abbrev pub field_of : {A : Type 0} → Row A → Field
field_of (Told number width demand value) = record { number = number; width = width; demand = demand }
field_of (Ignored number width) = record { number = number; width = width; demand = Any }

abbrev pub fields : {A : Type 0} → List (Row A) → List Field
fields rows = map field_of rows

-- their values in order, those of the ignored rows given beside; if none is given, it is 0
abbrev pub values : {A : Type 0} → List (Row A) → A → List ℕ → List ℕ
values [] x ignored = []
values (Told number width demand value ∷ rows) x ignored = value x ∷ values rows x ignored
values (Ignored number width ∷ rows) x ignored = slice_index ignored 0 ∷ values rows x (drop 1 ignored)

-- What reading gives: what was read and the bits behind it, or the first refusal.
abbrev pub Reading : Type 0 → Type 0
Reading A = Result (A × List Bool) L1Fault

-- one reading, and then more
abbrev pub after : {A B : Type 0} → Reading A → (A → List Bool → Reading B) → Reading B
after (Ok r) next = next r.0 r.1
after (Err e) next = Err e

-- the same behind what was read before
abbrev pub behind : {A : Type 0} → List A → Reading (List A) → Reading (List A)
behind front (Ok r) = Ok (front ++ r.0, r.1)
behind front (Err e) = Err e

-- readings in order
unfoldable pub each_read : {A : Type 0} → List (List Bool → Reading A) → List Bool → Reading (List A)
each_read [] bits = Ok ([], bits)
each_read (read ∷ more) bits = after (read bits) (λ x rest. behind (x ∷ []) (each_read more rest))

-- one field: it is there in full, and its value is met
unfoldable pub field_read : Field → List Bool → Reading ℕ
field_read f bits =
    if nat_lt (length bits) f.width then Err (Short (length bits))
    else if meets f.demand (number_of (take f.width bits)) then Ok (number_of (take f.width bits), drop f.width bits)
    else Err (Unsupported f.number)

-- the fields of a table
unfoldable pub values_of : List Field → List Bool → Reading (List ℕ)
values_of table bits = each_read (map field_read table) bits

-- what is made of them
abbrev pub made : {A : Type 0} → (List ℕ → A) → Reading (List ℕ) → Reading A
made f reading = after reading (λ vs rest. Ok (f vs, rest))

-- the bits of the fields with these values
unfoldable pub spelling : List Field → List ℕ → List Bool
spelling [] vs = []
spelling (f ∷ fs) [] = []
spelling (f ∷ fs) (v ∷ vs) = field f.width v ++ spelling fs vs

-- each value fits its field's width, and is read
unfoldable pub Fits : List Field → List ℕ → Type 0
Fits [] [] = Unit {0}
Fits [] (v ∷ vs) = ⊥
Fits (f ∷ fs) [] = ⊥
Fits (f ∷ fs) (v ∷ vs) = (v < 2 ^ f.width) × (meets f.demand v ≡ true) × Fits fs vs

-- bits were given from the front, or none
abbrev pub HasGiven : List Bool → List Bool → Type 0
HasGiven old new = (given : List Bool) × (old ≡ given ++ new)

-- Some bits spell what the rows tell, with any values in those that are ignored.
pub record Spells {A : Type 0} (rows : List (Row A)) (x : A) (bits : List Bool) : Type 0 where
  pub ignored : List ℕ
  pub fits : Fits (fields rows) (values rows x ignored)
  pub spelled : bits ≡ spelling (fields rows) (values rows x ignored)

-- what is written: the bits with zeros in the rows that are ignored
unfoldable pub row_bits : {A : Type 0} → List (Row A) → A → List Bool
row_bits rows x = spelling (fields rows) (values rows x [])

-- each row's value fits its width, and is read
unfoldable pub RowsFit : {A : Type 0} → List (Row A) → A → Type 0
RowsFit rows x = Fits (fields rows) (values rows x [])

-- Bits spell several things with such rows, one behind another.
abbrev pub EachSpells : {A : Type 0} → List (Row A) → List A → List Bool → Type 0
EachSpells rows [] bits = bits ≡ []
EachSpells rows (x ∷ xs) bits = (first : List Bool) × (more : List Bool) × Spells rows x first × EachSpells rows xs more
    × (bits ≡ first ++ more)
