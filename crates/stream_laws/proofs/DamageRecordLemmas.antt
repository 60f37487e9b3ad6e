-- The records of survivors are those that must come.
use Rattle.std.proofs.Common.{◌≡◌, ◌≢◌, ℕ, zero, suc, ◌+◌, ◌-◌, ◌%◌, ◌<◌, ◌≤◌, ◌==◌, ◌&&◌, Bool, true, false, List, []}
use Rattle.std.proofs.Common.{◌∷◌, ◌++◌, map, find, Option, Some, None, is_some, refl, ap, ap₂, sym, ◌∙◌, ⊎_elim, arith}
use Rattle.std.proofs.Common.{append_assoc, true≢false}
use Rattle.std.specs.List.{items_where_true, last_or, range_with_len}
use Rattle.std.specs.Option.{option_map_or}
use Rattle.std.proofs.lemmas.Bool.{cases_eq, cases_Bool, cond_both, cond-true, cond-false, and_parts, and_cases}
use Rattle.std.proofs.lemmas.Bool.{and_left, false_from_ne_true, eqb-true}
use Rattle.std.proofs.lemmas.List.{map-append}
use Rattle.t2mi_packet.specs.declared.packet.Packet.{Packet}
use Rattle.frame_groups.specs.Groups.{Group}
use Rattle.frame_groups.specs.Laws.{NextIsFound}
use Rattle.frame_groups.specs.Modulated.{FrameRecord, Numbered, Rules, group_record, gap_record}
use Rattle.frame_groups.specs.Modulated.{unless_fault, passing, join_number, past_with, gaps_between, gaps_behind}
use Rattle.frame_groups.specs.Modulated.{own_record, records_from, modulated}
use Rattle.frame_groups.specs.Modulated.Content.{Whole, Muted}
use Rattle.frame_groups.specs.Numbers.{frame_key, next_number}
use Rattle.frame_groups.specs.declared.cause.MuteCause.{MuteCause}
use Rattle.frame_groups.specs.declared.cause.MuteCause.TheVariants.{PacketMissing}
use Rattle.record_laws.specs.Records.{numbers_from}
use Rattle.stream_laws.specs.SentPackets.{Sent, packets_of, frame_packets, frame_group}
use Rattle.frame_groups.proofs.BegunLemmas.{at_own, at_other}
use Rattle.plp_config.specs.declared.config.Config.{Config}
use Rattle.stream_laws.specs.Survivors.{carries, is_whole, loss_of, sent_content, sent_record, end_of, survivor_records}
use Rattle.stream_laws.specs.DamageLaws.{Survive, AreMet, IsMet, RulesMeet, ModulatedIsRecords}
use Rattle.terms.proofs.RangeLemmas.{range_append, map_same}
use Rattle.stream_laws.proofs.GroupLemmas.{not_empty, Met, group_as, key_groups, with_sent, frame_runs, some_met}
use Rattle.stream_laws.proofs.GroupLemmas.{frames_met, order_survivors, below_survivors, runs_met, groups_are_met}
use Rattle.stream_laws.proofs.GroupLemmas.{Steps, StepsIn, steps_met, steps_behind}
use Rattle.stream_laws.proofs.WholeLemmas.{whole_is_all}

-- the first number that passes
find_later : (test : ℕ → Bool) (from end : ℕ) → test from ≡ false → find test (range_with_len from (end - from))
    ≡ find test (range_with_len (from + 1) (end - (from + 1)))
find_later test from end e = grind (arith, find, cond-false)

find_here : (test : ℕ → Bool) (from end : ℕ) → from < end → test from ≡ true
    → find test (range_with_len from (end - from))
    ≡ Some from
find_here test from end l e = grind (arith, find, cond-true)

-- the number behind the last frame of some
abbrev end_met : ℕ → List Met → ℕ
end_met end [] = end
end_met end (g ∷ gs) = end_met (g.frame + 1) gs

end_most : (frames n : ℕ) (gs : List Met) → Steps frames n gs → n + 1 ≤ end_met (n + 1) gs
end_most frames n [] h = omega arith
end_most frames n (g ∷ gs) h = let l = end_most frames g.frame gs h.2 in omega (arith, l, h.0)

end_with : (end : ℕ) (s : Sent) (gs : List Met) → end_met end (with_sent s gs) ≡ end_met (s.frame + 1) gs
end_with end s [] = refl
end_with end s (g ∷ gs) = cond_both (s.frame == g.frame) _ _ (λ l. end_met end l ≡ end_met (g.frame + 1) gs)
    (λ e. ap (λ (k : ℕ). end_met (k + 1) gs) (eqb-true _ _ e)) (λ e. refl)

end_runs : (ss : List Sent) (last : Option Sent) (end : ℕ) → option_map_or (λ s. s.frame + 1) last 0 ≡ end
    → option_map_or (λ s. s.frame + 1) (last_or last ss) 0 ≡ end_met end (frame_runs ss)
end_runs [] last end e = e
end_runs (s ∷ ss) last end e = end_runs ss (Some s) (s.frame + 1) refl ∙ sym (end_with end s (frame_runs ss))

-- a loss with survivors
loss_some : (ps : List Packet) → ps ≢ [] → loss_of ps ≡ PacketMissing
loss_some [] h = absurd (h refl)
loss_some (p ∷ ps) h = refl

-- a fault is no number
pub none_with : (n : ℕ) (fault : Option MuteCause) → is_some fault ≡ true → unless_fault n fault ≡ None
none_with n None e = absurd (true≢false (sym e))
none_with n (Some cause) e = refl

-- what is sent in a frame is carried in it
pub own_carried : (c : Config) (n : ℕ) (s : Sent) → (s.frame == n) ≡ true → carries c n s ≡ true
own_carried c n s e = rw e refl

-- groups that are met, and the next frame
met_none : (first n : ℕ) (survivors : List Sent) (past : List Numbered) → AreMet first n survivors past
    → frame_packets n survivors ≡ [] → AreMet first (n + 1) survivors past
met_none first n survivors past h none = grind (arith, cases_eq)

met_one : (first n : ℕ) (survivors : List Sent) (past : List Numbered) (g : Group) → AreMet first n survivors past
    → g.packets ≡ frame_packets n survivors
    → AreMet first (n + 1) survivors (record { number = n; group = g } ∷ past)
met_one first n survivors past g h is = grind (arith, at_own, at_other, cases_eq)

pub met_first : (n : ℕ) (survivors : List Sent) → AreMet n n survivors []
met_first n survivors = record { there = λ b low high. absurd (omega (arith, low, high)); none = λ b l. refl }

-- a run of frames, of which some packets survive
module _ (found : NextIsFound) (r : Rules) (count : ℕ) (sent : List Sent) (survival : List Bool)
    (h : Survive r.frames count sent survival) (meet : RulesMeet r count sent survival) where
  abbrev ss : List Sent
  ss = items_where_true survival sent

  abbrev whole : ℕ → Bool
  whole n = is_whole r.network sent survival n

  abbrev there : ℕ → FrameRecord
  there n = sent_record r.network sent survival n

  abbrev joins : ℕ → Bool
  joins n = whole n && (n % r.frames == 0)

  own_left : (n : ℕ) → whole n ≡ true → frame_packets n ss ≡ frame_packets n sent
  own_left n w = ap packets_of
      (whole_is_all r.network sent survival n (λ s. s.frame == n) h.told w (own_carried r.network n))

  -- A frame without a survivor is not whole.
  not_whole : (n : ℕ) → n < count → frame_packets n ss ≡ [] → whole n ≡ false
  not_whole n l none = false_from_ne_true _ (λ w. h.sent_are.some n l (sym (own_left n w) ∙ none))

  same_group : (n : ℕ) → whole n ≡ true → frame_group r.frames ss n ≡ frame_group r.frames sent n
  same_group n w = ap (group_as r.frames n) (own_left n w)

  whole_content : (n : ℕ) → whole n ≡ true → sent_content r.network sent survival n ≡ Whole
      (frame_group r.frames sent n)
  whole_content n w = cond-true _ _ _ w ∙ ap (λ (k : ℕ). Whole (frame_group k sent n)) meet.network

  lost_content : (n : ℕ) → whole n ≡ false → sent_content r.network sent survival n ≡ Muted
      (loss_of (frame_packets n ss))
  lost_content n w = cond-false _ _ _ w

  -- the record of a frame without a survivor
  gone : (n : ℕ) → n < count → frame_packets n ss ≡ [] → gap_record n ≡ there n
  gone n l none = grind (arith, lost_content, not_whole)

  -- the record of a frame with a survivor
  met : (first n : ℕ) (past : List Numbered) → n < count → IsMet r.frames first n ss past
      → group_record r past (frame_group r.frames ss n) n ≡ there n
  met first n past l is = grind (arith, same_group, Option, whole_content, lost_content, loss_some, cases_Bool)

  met_as : (first n : ℕ) (past : List Numbered) (p : Packet) (ps : List Packet) → n < count → first ≤ n
      → first % r.frames ≡ 0
      → AreMet first n ss past → frame_packets n ss ≡ p ∷ ps → group_record r past (group_as r.frames n (p ∷ ps))
      n ≡ there n
  met_as first n past p ps l low begins groups is = grind (arith, group_as, met, not_empty)

  -- The records behind frame n, if none of the frames up to another has a survivor.
  after_is : (first : ℕ) → first % r.frames ≡ 0 → (more from : ℕ) (b : Numbered) (past : List Numbered)
      → from + more ≡ count → first ≤ b.number → b.number < from
      → ((m : ℕ) → b.number < m → m < from → frame_packets m ss ≡ []) → AreMet first from ss (b ∷ past)
      → Steps r.frames b.number (frames_met from more ss)
      → records_from r (b ∷ past) (key_groups r.frames (frames_met from more ss))
      ≡ map there
      (range_with_len (b.number + 1) (end_met (b.number + 1) (frames_met from more ss) - (b.number + 1)))
  after_is first begins zero from b past all_is low l gap are steps =
      let e : 0 ≡ b.number + 1 - (b.number + 1) = omega arith in
      ap (λ (k : ℕ). map there (range_with_len (b.number + 1) k)) e
  after_is first begins (suc more) from b past all_is low l gap are steps =
      go (frame_packets from ss) refl (after_is first begins more (from + 1)) steps
    where
      gs : List Met
      gs = frames_met (from + 1) more ss

      go : (ps : List Packet) → frame_packets from ss ≡ ps
          → ((b : Numbered) (past : List Numbered) → from + 1 + more ≡ count → first ≤ b.number → b.number < from + 1
          → ((m : ℕ) → b.number < m → m < from + 1 → frame_packets m ss ≡ []) → AreMet first (from + 1) ss (b ∷ past)
          → Steps r.frames b.number gs
          → records_from r (b ∷ past) (key_groups r.frames gs)
          ≡ map there (range_with_len (b.number + 1) (end_met (b.number + 1) gs - (b.number + 1))))
          → Steps r.frames b.number (some_met from ps ++ gs)
          → records_from r (b ∷ past) (key_groups r.frames (some_met from ps ++ gs))
          ≡ map there
          (range_with_len (b.number + 1) (end_met (b.number + 1) (some_met from ps ++ gs) - (b.number + 1)))
      go [] is ih steps = ih b past (omega (arith, all_is)) low (omega (arith, l)) (λ m x y. ⊎_elim
          (λ (e : m ≡ from). ap (λ (k : ℕ). frame_packets k ss) e ∙ is)
          (λ (e : m ≡ from → ⊥). gap m x (omega (arith, y, e)))
          (cases_eq m from)) (met_none first from ss (b ∷ past) are is) steps
      go (p ∷ ps) is ih steps =
          let n : ℕ = b.number in
          let g : Group = group_as r.frames from (p ∷ ps) in
          let number : next_number r.frames n (frame_key r.frames from) ≡ from = found r.frames n from
          h.some l steps.1 in
          let rest = ih (record { number = from; group = g }) (b ∷ past) (omega (arith, all_is)) (omega (arith, low, l))
          (omega arith) (λ m x y. absurd (omega (arith, x, y))) (met_one first from ss (b ∷ past) g are (sym is))
          steps.2 in
          let end : ℕ = end_met (from + 1) gs in
          let most : from + 1 ≤ end = end_most r.frames from gs steps.2 in
          let size : end - (n + 1) ≡ from - (n + 1) + suc (end - (from + 1)) = omega (arith, most, l) in
          let at : n + 1 + (from - (n + 1)) ≡ from = omega (arith, l) in
          let gaps : gaps_between n from ≡ map there (range_with_len (n + 1) (from - (n + 1))) =
          map_same gap_record there (n + 1) (from - (n + 1))
          (λ k x y. gone k (omega (arith, x, y, l, all_is)) (gap k (omega (arith, x)) (omega (arith, y, l)))) in
          ap (λ (k : ℕ). (gaps_between n k ++ group_record r (b ∷ past) g k ∷ [])
          ++ records_from r (record { number = k; group = g } ∷ b ∷ past) (key_groups r.frames gs)) number
          ∙ append_assoc (gaps_between n from) (group_record r (b ∷ past) g from ∷ [])
          (records_from r (record { number = from; group = g } ∷ b ∷ past) (key_groups r.frames gs))
          ∙ ap₂ (λ (a b : List FrameRecord). a ++ b) gaps
          (ap₂ (λ (x : FrameRecord) (l : List FrameRecord). x ∷ l)
          (met_as first from (b ∷ past) p ps (omega (arith, all_is)) (omega (arith, low, l)) begins are is) rest)
          ∙ ap (λ (k : ℕ). map there (range_with_len (n + 1) (from - (n + 1)))
          ++ map there (range_with_len k (suc (end - (from + 1))))) (sym at)
          ∙ sym (map-append there (range_with_len (n + 1) (from - (n + 1)))
          (range_with_len (n + 1 + (from - (n + 1))) (suc (end - (from + 1)))))
          ∙ ap (map there) (sym (range_append (n + 1) (from - (n + 1)) (suc (end - (from + 1)))))
          ∙ ap (λ (k : ℕ). map there (range_with_len (n + 1) k)) (sym size)

  -- a group that is the join
  is_join : (n : ℕ) (p : Packet) (ps : List Packet) → n < count → frame_packets n ss ≡ p ∷ ps → joins n ≡ true
      → join_number r (group_as r.frames n (p ∷ ps)) ≡ Some n
  is_join n p ps l is t =
      let parts = and_parts _ _ t in
      let g : Group = group_as r.frames n (p ∷ ps) in
      let begins : n % r.frames ≡ 0 = eqb-true _ _ parts.1 in
      let same : g ≡ frame_group r.frames sent n = ap (group_as r.frames n) (sym is) ∙ same_group n parts.0 in
      cond-true _ _ _ parts.1
      ∙ ap (λ (g : Group). passing r g (r.named g)) same
      ∙ ap (passing r (frame_group r.frames sent n)) (meet.names n l begins parts.0)
      ∙ ap (unless_fault n)
      (meet.passes n n [] l
      (record {
        before = omega arith;
        begins = begins;
        groups = met_first n ss;
        some = not_empty p ps (frame_packets n ss) is;
      }) parts.0)

  -- what a group that is not whole passes as
  passes_not : (n : ℕ) → n < count → n % r.frames ≡ 0 → frame_packets n ss ≢ [] → whole n ≡ false → (o : Option ℕ)
      → r.named (frame_group r.frames ss n) ≡ o → passing r (frame_group r.frames ss n) o ≡ None
  passes_not n l begins some w None e = refl
  passes_not n l begins some w (Some m) e =
      none_with m (r.fault [] (frame_group r.frames ss n) m)
      (meet.fails n m l begins (meet.key (frame_group r.frames ss n) m e) w some)

  is_no_join : (n : ℕ) (p : Packet) (ps : List Packet) → n < count → frame_packets n ss ≡ p ∷ ps → joins n ≡ false
      → join_number r (group_as r.frames n (p ∷ ps)) ≡ None
  is_no_join n p ps l is t =
      grind (arith, group_as, cond_both, passes_not, eqb-true, not_empty, cond-false, and_cases)

  -- The records of frames from one on, up to which there is no join.
  join_is : (more from end : ℕ) → from + more ≡ count → end ≤ from → StepsIn r.frames (frames_met from more ss)
      → records_from r [] (key_groups r.frames (frames_met from more ss))
      ≡ map there
      (numbers_from (end_met end (frames_met from more ss))
      (find joins (range_with_len from (end_met end (frames_met from more ss) - from))))
  join_is zero from end all_is low steps = let z : 0 ≡ end - from = omega (arith, low) in
      ap (λ (k : ℕ). map there (numbers_from end (find joins (range_with_len from k)))) z
  join_is (suc more) from end all_is low steps = go (frame_packets from ss) refl (join_is more (from + 1)) steps
    where
      gs : List Met
      gs = frames_met (from + 1) more ss

      go : (ps : List Packet) → frame_packets from ss ≡ ps
          → ((end : ℕ) → from + 1 + more ≡ count → end ≤ from + 1 → StepsIn r.frames gs
          → records_from r [] (key_groups r.frames gs)
          ≡ map there (numbers_from (end_met end gs)
          (find joins (range_with_len (from + 1) (end_met end gs - (from + 1))))))
          → StepsIn r.frames (some_met from ps ++ gs)
          → records_from r [] (key_groups r.frames (some_met from ps ++ gs))
          ≡ map there
          (numbers_from (end_met end (some_met from ps ++ gs))
          (find joins (range_with_len from (end_met end (some_met from ps ++ gs) - from))))
      go [] is ih steps =
          let t : joins from ≡ false = and_left _ _ (not_whole from (omega (arith, all_is)) is) in
          ih end (omega (arith, all_is)) (omega (arith, low)) steps
          ∙ ap (λ (o : Option ℕ). map there (numbers_from (end_met end gs) o))
          (sym (find_later joins from (end_met end gs) t))
      go (p ∷ ps) is ih steps =
          let g : Group = group_as r.frames from (p ∷ ps) in
          let inside : from < count = omega (arith, all_is) in
          let last : ℕ = end_met (from + 1) gs in
          ⊎_elim
          (λ (t : joins from ≡ true).
          let begins : from % r.frames ≡ 0 = eqb-true _ _ (and_parts _ _
          t).1 in
          let most : from + 1 ≤ last = end_most r.frames from gs steps in
          let size : last - from ≡ suc (last - (from + 1)) = omega (arith, most) in
          let rest = after_is from begins more (from + 1) (record { number = from; group = g }) []
          (omega (arith, all_is))
          (omega arith) (omega arith) (λ m a b. absurd (omega (arith, a, b)))
          (met_one from from ss [] g (met_first from ss) (sym is)) steps in
          ap (λ (o : Option ℕ). (gaps_behind [] o ++ own_record r [] g o) ++ records_from r (past_with [] g o)
          (key_groups r.frames gs))
          (is_join from p ps inside is t)
          ∙ ap₂ (λ (x : FrameRecord) (l : List FrameRecord). x ∷ l)
          (met_as from from [] p ps inside (omega arith) begins (met_first from ss) is) rest
          ∙ ap (λ (k : ℕ). map there (range_with_len from k)) (sym size)
          ∙ ap (λ (o : Option ℕ). map there (numbers_from last o))
          (sym (find_here joins from last (omega (arith, most)) t)))
          (λ (t : joins from ≡ false).
          ap (λ (o : Option ℕ). (gaps_behind [] o ++ own_record r [] g o) ++ records_from r (past_with [] g o)
          (key_groups r.frames gs))
          (is_no_join from p ps inside is t)
          ∙ ih (from + 1) (omega (arith, all_is)) (omega arith) (steps_behind r.frames from gs steps)
          ∙ ap (λ (o : Option ℕ). map there (numbers_from last o)) (sym (find_later joins from last t)))
          (cases_Bool (joins from))

  end_is : end_met 0 (frames_met 0 count ss) ≡ end_of ss
  end_is =
      let o = order_survivors r.frames None sent survival h.sent_are.order in
      sym (end_runs ss None 0 refl
      ∙ ap (end_met 0) (runs_met r.frames count None ss o (below_survivors count sent survival h.sent_are.below)))

  abbrev records_to : ℕ → ℕ → ℕ → List FrameRecord
  records_to frames end len =
      map there (numbers_from end (find (λ n. whole n && (n % frames == 0)) (range_with_len 0 len)))

  pub records_are : modulated r (packets_of ss) ≡ survivor_records r.network sent survival
  unfolding modulated
  records_are =
      let end : ℕ = end_met 0 (frames_met 0 count ss) in
      let z : end - 0 ≡ end = omega arith in
      ap (records_from r []) (groups_are_met r.frames count sent survival h)
      ∙ join_is count 0 0 (omega arith) (omega arith) (steps_met r.frames count sent survival h)
      ∙ ap (records_to r.frames end) z
      ∙ ap (λ (k : ℕ). records_to r.frames k k) end_is
      ∙ ap (λ (frames : ℕ). records_to frames (end_of ss) (end_of ss)) (sym meet.network)

pub modulated_is_records : NextIsFound → ModulatedIsRecords
modulated_is_records found r count sent survival h meet = records_are found r count sent survival h meet
