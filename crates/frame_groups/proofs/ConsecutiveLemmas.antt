-- One number after another.
use Rattle.std.proofs.Common.{◌≡◌, ℕ, zero, suc, ◌+◌, ◌-◌, ◌*◌, ◌≤◌, Bool, true, false, cond, List, [], ◌∷◌, ◌++◌, map}
use Rattle.std.proofs.Common.{length, Option, Some, None, refl, subst, ◌∙◌, arith}
use Rattle.std.specs.List.{range_with_len}
use Rattle.std.proofs.lemmas.List.{length-map, length_push}
use Rattle.std.proofs.lemmas.List.FromFn.{length-range_with_len}
use Rattle.t2mi_packet.specs.declared.packet.Packet.{Packet}
use Rattle.frame_groups.specs.Groups.{Group, groups, is_same}
use Rattle.frame_groups.specs.Numbers.{frame_key, first_from, next_number}
use Rattle.frame_groups.specs.Modulated.{Numbered, Rules, FrameRecord, gap_record, group_record, join_number, past_with}
use Rattle.frame_groups.specs.Modulated.{gaps_between, gaps_behind, own_record, records_from, modulated}
use Rattle.frame_groups.specs.Laws.{AreFrom}

first_above : (f : ℕ → Bool) (steps n : ℕ) → n ≤ first_from f steps n
first_above f zero n = omega arith
first_above f (suc steps) n = go (f n) (first_above f steps (n + 1))
  where
    go : (t : Bool) → n + 1 ≤ first_from f steps (n + 1) → n ≤ cond t n (first_from f steps (n + 1))
    go true h = omega arith
    go false h = omega (arith, h)

pub next_above : (r : Rules) (m : ℕ) (g : Group) → m + 1 ≤ next_number r.frames m g.key
unfolding next_number
next_above r m g = first_above (λ i. is_same (frame_key r.frames i) g.key) (16 * r.frames) (m + 1)

from_append : (xs ys : List FrameRecord) (n m : ℕ) → AreFrom n xs → n + length xs ≡ m → AreFrom m ys
    → AreFrom n (xs ++ ys)
from_append [] ys n m a e b = let k : m ≡ n = omega (arith, e) in subst (λ (n : ℕ). AreFrom n ys) k b
from_append (x ∷ xs) ys n m a e b = (a.0, from_append xs ys (n + 1) m a.1 (omega (arith, e)) b)

gaps_from : (k n : ℕ) → AreFrom n (map gap_record (range_with_len n k))
gaps_from zero n = tt
gaps_from (suc k) n = (refl, gaps_from k (n + 1))

behind : (r : Rules) (gs : List Group) (b : Numbered) (past : List Numbered) → AreFrom (b.number + 1)
    (records_from r (b ∷ past) gs)
behind r [] b past = tt
behind r (g ∷ gs) b past =
    let m : ℕ = b.number in
    let n : ℕ = next_number r.frames m g.key in
    let up : m + 1 ≤ n = next_above r m g in
    let l : length (gaps_between m n) ≡ n - (m + 1) = length-map (range_with_len (m + 1) (n - (m + 1))) gap_record
    ∙ length-range_with_len (m + 1) (n - (m + 1)) in
    let both : AreFrom (m + 1) (gaps_between m n ++ group_record r (b ∷ past) g n ∷ []) =
    from_append (gaps_between m n) (group_record r (b ∷ past) g n ∷ []) (m + 1) n (gaps_from (n - (m + 1)) (m + 1))
    (omega (arith, l, up)) (refl, tt) in
    let all : length (gaps_between m n ++ group_record r (b ∷ past) g n ∷ []) ≡ length (gaps_between m n) + 1 =
    length_push (gaps_between m n) (group_record r (b ∷ past) g n) in
    from_append (gaps_between m n ++ group_record r (b ∷ past) g n ∷ [])
    (records_from r (record { number = n; group = g } ∷ b ∷ past) gs) (m + 1) (n + 1) both
    (omega (arith, l, all, up)) (behind r gs (record { number = n; group = g }) (b ∷ past))

first : (r : Rules) (gs : List Group) → (n : ℕ) × AreFrom n (records_from r [] gs)
first r [] = (0, tt)
first r (g ∷ gs) = go (first r gs) (λ n. behind r gs (record { number = n; group = g }) []) (join_number r g)
  where
    go : ((n : ℕ) × AreFrom n (records_from r [] gs))
        → ((n : ℕ) → AreFrom (n + 1) (records_from r (record { number = n; group = g } ∷ []) gs))
        → (o : Option ℕ)
        → (n : ℕ) × AreFrom n ((gaps_behind [] o ++ own_record r [] g o) ++ records_from r (past_with [] g o) gs)
    go none some None = none
    go none some (Some n) = (n, (refl, some n))

pub follow : (r : Rules) (ps : List Packet) → (n : ℕ) × AreFrom n (modulated r ps)
unfolding modulated
follow r ps = first r (groups r.frames ps)
