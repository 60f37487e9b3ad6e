-- From the join on, each group has the number of its frame.
use Rattle.std.proofs.Common.{◌≡◌, ◌≢◌, ℕ, zero, suc, ◌+◌, ◌<◌, ◌≤◌, cond, List, [], ◌∷◌, ◌++◌, map, length, Option}
use Rattle.std.proofs.Common.{Some, None, refl, ap, ap₂, sym, ◌∙◌, ⊎_elim, arith}
use Rattle.std.specs.Prelude.{nat_lt}
use Rattle.std.specs.List.{filter, items_where_true, range_with_len}
use Rattle.std.proofs.lemmas.Bool.{cases_eq, cond-true, cond-false, false_from_ne_true, leb-true, le-leb, lt-ltb}
use Rattle.std.proofs.lemmas.Simd.{map-map}
use Rattle.t2mi_packet.specs.declared.packet.Packet.{Packet}
use Rattle.frame_groups.specs.Laws.{NextIsFound}
use Rattle.frame_groups.specs.Groups.{Group}
use Rattle.frame_groups.specs.Modulated.{Numbered, Rules, join_number, past_with}
use Rattle.frame_groups.specs.Numbers.{frame_key, next_number}
use Rattle.stream_laws.specs.SentPackets.{Sent, frame_packets, frame_group}
use Rattle.stream_laws.specs.GroupNumbers.{numbers_behind, is_met, number_from, JoinsAt, GroupsNumbered}
use Rattle.stream_laws.proofs.GroupLemmas.{not_empty, Met, group_as, key_groups, some_met, frames_met, groups_are_met}
use Rattle.stream_laws.proofs.GroupLemmas.{Steps, StepsIn, steps_met, steps_behind}

-- the frames of which a packet survives, from one on
met_frames : (ss : List Sent) (from count : ℕ) → map (λ (g : Met). g.frame) (frames_met from count ss)
    ≡ filter (is_met ss) (range_with_len from count)
met_frames ss from zero = refl
met_frames ss from (suc count) = go (frame_packets from ss) (met_frames ss (from + 1) count)
  where
    gs : List Met
    gs = frames_met (from + 1) count ss

    rest : List ℕ
    rest = filter (is_met ss) (range_with_len (from + 1) count)

    go : (ps : List Packet) → map (λ (g : Met). g.frame) gs ≡ rest
        → map (λ (g : Met). g.frame) (some_met from ps ++ gs) ≡ cond (nat_lt 0 (length ps)) (from ∷ rest) rest
    go [] ih = ih
    go (p ∷ ps) ih =
        ap (λ (l : List ℕ). from ∷ l) ih ∙ sym (cond-true _ _ _ (lt-ltb 0 (length (p ∷ ps)) (omega arith)))

-- behind a number each group gets that of its frame, if no loss is so long that keys come again
found_behind : NextIsFound → (r : Rules) (b : Numbered) (past : List Numbered) (gs : List Met) → 0 < r.frames
    → Steps r.frames b.number gs
    → numbers_behind r (b ∷ past) (key_groups r.frames gs) ≡ map (λ (g : Met). Some g.frame) gs
found_behind found r b past [] some steps = refl
found_behind found r b past (g ∷ gs) some steps =
    let next : next_number r.frames b.number (frame_key r.frames g.frame) ≡ g.frame =
    found r.frames b.number g.frame some steps.0 steps.1 in
    let group : Group = group_as r.frames g.frame g.packets in
    ap (λ (k : ℕ). Some k
    ∷ numbers_behind r (record { number = k; group = group } ∷ b ∷ past) (key_groups r.frames gs)) next
    ∙ ap (λ (l : List (Option ℕ)). Some g.frame ∷ l)
    (found_behind found r (record { number = g.frame; group = group }) (b ∷ past) gs some steps.2)

-- these frames are later ones
number_at : (first n : ℕ) → first ≤ n → number_from first n ≡ Some n
number_at first n l = cond-true _ _ _ (le-leb _ _ l)

number_before : (first n : ℕ) → n < first → number_from first n ≡ None
number_before first n l = grind (arith, cond-false, false_from_ne_true, leb-true)

all_later : (frames first n : ℕ) (gs : List Met) → first ≤ n → Steps frames n gs
    → map (λ (g : Met). Some g.frame) gs ≡ map (λ (g : Met). number_from first g.frame) gs
all_later frames first n [] l steps = refl
all_later frames first n (g ∷ gs) l steps =
    ap₂ (λ (x : Option ℕ) (xs : List (Option ℕ)). x ∷ xs) (sym (number_at first g.frame (omega (arith, l, steps.0))))
    (all_later frames first g.frame gs (omega (arith, l, steps.0)) steps.2)

module _ (found : NextIsFound) (r : Rules) (count : ℕ) (ss : List Sent) (first : ℕ) (some : 0 < r.frames)
    (joins : JoinsAt r ss first) where
  -- the groups of frames up to the join, and behind it
  numbers_are : (more from : ℕ) → from ≤ first → StepsIn r.frames (frames_met from more ss)
      → numbers_behind r [] (key_groups r.frames (frames_met from more ss))
      ≡ map (λ (g : Met). number_from first g.frame) (frames_met from more ss)
  numbers_are zero from l steps = refl
  numbers_are (suc more) from l steps = go (frame_packets from ss) refl (numbers_are more (from + 1)) steps
    where
      gs : List Met
      gs = frames_met (from + 1) more ss

      go : (ps : List Packet) → frame_packets from ss ≡ ps
          → (from + 1 ≤ first → StepsIn r.frames gs
          → numbers_behind r [] (key_groups r.frames gs) ≡ map (λ (g : Met). number_from first g.frame) gs)
          → StepsIn r.frames (some_met from ps ++ gs)
          → numbers_behind r [] (key_groups r.frames (some_met from ps ++ gs))
          ≡ map (λ (g : Met). number_from first g.frame) (some_met from ps ++ gs)
      go [] is ih steps =
          let later : from ≢ first = λ e. joins.some (ap (λ (n : ℕ). frame_packets n ss) (sym e) ∙ is) in
          ih (omega (arith, l, later)) steps
      go (p ∷ ps) is ih steps = ⊎_elim
          (λ (e : from ≡ first).
          let number : join_number r (group_as r.frames from (p ∷ ps)) ≡ Some from =
          ap (λ (qs : List Packet). join_number r (group_as r.frames from qs)) (sym is)
          ∙ ap (λ (n : ℕ). join_number r (frame_group r.frames ss n)) e ∙ joins.number ∙ ap Some (sym e) in
          ap (λ (o : Option ℕ). o ∷ numbers_behind r (past_with [] (group_as r.frames from (p ∷ ps)) o)
          (key_groups r.frames gs))
          number
          ∙ ap₂ (λ (x : Option ℕ) (xs : List (Option ℕ)). x ∷ xs) (sym (number_at first from (omega (arith, e))))
          (found_behind found r (record { number = from; group = group_as r.frames from (p ∷ ps) }) [] gs some steps
          ∙ all_later r.frames first from gs (omega (arith, e)) steps))
          (λ (e : from ≢ first).
          let low : from < first = omega (arith, l, e) in
          let number : join_number r (group_as r.frames from (p ∷ ps)) ≡ None =
          ap (λ (qs : List Packet). join_number r (group_as r.frames from qs)) (sym is)
          ∙ joins.before from low (not_empty p ps (frame_packets from ss) is) in
          ap (λ (o : Option ℕ). o ∷ numbers_behind r (past_with [] (group_as r.frames from (p ∷ ps)) o)
          (key_groups r.frames gs))
          number
          ∙ ap₂ (λ (x : Option ℕ) (xs : List (Option ℕ)). x ∷ xs) (sym (number_before first from low))
          (ih (omega (arith, low)) (steps_behind r.frames from gs steps)))
          (cases_eq from first)

pub groups_numbered : NextIsFound → GroupsNumbered
groups_numbered found r count sent survival first h joins =
    let ss : List Sent = items_where_true survival sent in
    ap (numbers_behind r []) (groups_are_met r.frames count sent survival h)
    ∙ numbers_are found r count ss first h.some joins count 0 (omega arith) (steps_met r.frames count sent survival h)
    ∙ sym (map-map (number_from first) (λ (g : Met). g.frame) (frames_met 0 count ss))
    ∙ ap (map (number_from first)) (met_frames ss 0 count)
