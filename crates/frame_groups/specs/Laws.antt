-- Laws of groups, numbers and records.
use Rattle.std.specs.Prelude.{◌≡◌, ℕ, ◌+◌, ◌*◌, ◌<◌, false, List, [], ◌∷◌, ◌++◌, flat_map}
use Rattle.std.specs.List.{filter}
use Rattle.terms.specs.Lists.{IsPrefix}
use Rattle.t2mi_packet.specs.declared.packet.Packet.{Packet}
use Rattle.frame_groups.specs.Groups.{is_same, is_counted, Group, groups}
use Rattle.frame_groups.specs.declared.key.Key.{Key}
use Rattle.frame_groups.specs.Numbers.{superframe_period, frame_key, next_number, next_by, IsKey, IsNext}
use Rattle.frame_groups.specs.Modulated.{Rules, FrameRecord, modulated}

-- a list without its last element
abbrev pub without_last : {X : Type 0} → List X → List X
without_last [] = []
without_last (x ∷ []) = []
without_last (x ∷ y ∷ xs) = x ∷ without_last (y ∷ xs)

-- Two groups one behind the other have different keys.
abbrev pub AreApart : List Group → Type 0
AreApart [] = Unit {0}
AreApart (g ∷ []) = Unit {0}
AreApart (g ∷ h ∷ gs) = (is_same g.key h.key ≡ false) × AreApart (h ∷ gs)

-- The groups are all packets that belong to a frame, cut exactly at the changes of the key.
pub record AreRuns (frames : ℕ) (ps : List Packet) : Type 0 where
  pub all : flat_map (λ g. g.packets) (groups frames ps) ≡ filter (is_counted frames) ps
  pub apart : AreApart (groups frames ps)

abbrev pub GroupsAreRuns : Type 0
GroupsAreRuns = (frames : ℕ) (ps : List Packet) → AreRuns frames ps

-- The next number is the least above that has the key.
abbrev pub NextIsLeast : Type 0
NextIsLeast = (frames n : ℕ) (k : Key) → IsKey frames k → IsNext frames n k (next_number frames n k)
    × (next_number frames n k ≡ next_by frames n k)

-- It finds each later frame by its key, if that is nearer than keys come again.
abbrev pub NextIsFound : Type 0
NextIsFound = (frames n m : ℕ) → 0 < frames → n < m → m < n + superframe_period * frames
    → next_number frames n (frame_key frames m) ≡ m

-- Records have one number after another.
abbrev pub AreFrom : ℕ → List FrameRecord → Type 0
AreFrom n [] = Unit {0}
AreFrom n (x ∷ xs) = (x.number ≡ n) × AreFrom (n + 1) xs

abbrev pub NumbersFollow : Type 0
NumbersFollow = (r : Rules) (ps : List Packet) → (n : ℕ) × AreFrom n (modulated r ps)

-- What follows adds records, and changes none but the last.
abbrev pub ModulatedFront : Type 0
ModulatedFront = (r : Rules) (ps qs : List Packet)
    → IsPrefix (without_last (modulated r ps)) (without_last (modulated r (ps ++ qs)))
