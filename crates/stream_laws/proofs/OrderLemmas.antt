-- The order of these packets, and how near they are.
use Rattle.std.proofs.Common.{◌≡◌, ◌≢◌, ℕ, zero, suc, ◌+◌, ◌-◌, ◌%◌, ◌<◌, ◌≤◌, Bool, true, false, List, [], ◌∷◌}
use Rattle.std.proofs.Common.{◌++◌, length, Option, Some, None, refl, ap, sym, subst, ◌∙◌, ⊎_elim, arith}
use Rattle.std.specs.List.{AllByRecursion}
use Rattle.std.proofs.lemmas.Bool.{cases_eq, cases_lt, cond_both, eqb-true}
use Rattle.terms.proofs.AllLemmas.{all_append}
use Rattle.plp_config.specs.declared.config.Config.{Config}
use Rattle.t2mi_packet.specs.declared.packet.Body.{Body}
use Rattle.gateway_core.specs.Packets.{plp_bodies}
use Rattle.stream_laws.specs.SentPackets.{Sent, frame_packets, IsTimestamp, InFrameOrder, IsNearSome, AreNear}
use Rattle.stream_laws.specs.SentFrames.{sent_from}
use Rattle.stream_laws.proofs.SentLemmas.{Earlier, plain_follows, not_later, order_frame, below_own, some_front}
use Rattle.l1_signal.specs.L1Configurable.{conf_bits}
use Rattle.l1_signal.specs.L1Of.{pre_of, conf_of}
use Rattle.l1_signal.specs.L1Pre.{pre_bits}
use Rattle.t2mi_packet.specs.declared.packet.Packet.{Packet}
use Rattle.stream_laws.specs.Remade.{NumberedView, view_bodies, frame_pairs, remade_bodies, IsSpaced, AreSpacedFrom}
use Rattle.stream_laws.proofs.MadeLemmas.{all_bodies, made_l1, made_bodies}
use Rattle.stream_laws.specs.Coming.{end_after, is_complete}
use Rattle.stream_laws.proofs.FullLemmas.{packets_here, packets_other, pairs, sent_append, stand_in, stand_ins, lost_by}
use Rattle.stream_laws.proofs.FullLemmas.{lost, full, RisesFrom, own, own_here, parts_packets}

-- The packets of a frame carry what a written frame has.
pub record Made (c : Config) (f : NumberedView) : Type 0 where
  pub dynamic : List Bool
  pub blocks : ℕ → List (List Bool)
  pub is : view_bodies c f.number f.view ≡ made_bodies c f.number dynamic blocks

abbrev pub AllMade : Config → List NumberedView → Type 0
AllMade c fs = AllByRecursion (Made c) fs

-- ---- order

earlier_as : (before : Option ℕ) (m n : ℕ) → m ≡ n → Earlier before m → Earlier before n
earlier_as before m n e l = subst (Earlier before) e l

order_stand : (c : Config) (from k : ℕ) (before : Option ℕ) (rest : List Sent) → Earlier before from
    → ((b : Option ℕ) → Earlier b (from + k) → InFrameOrder c.frames b rest)
    → InFrameOrder c.frames before (stand_ins c from k ++ rest)
order_stand c from zero before rest e h = h before (earlier_as before from (from + 0) (omega arith) e)
order_stand c from (suc k) before rest e h = (
  record { superframe = refl; frame = refl },
  plain_follows before (stand_in c from) (λ t. t) (not_later before from e),
  order_stand c (from + 1) k (Some from) rest (omega arith)
      (λ b l. h b (earlier_as b (from + 1 + k) (from + suc k) (omega arith) l)),
)

-- what is lost of a frame is behind its packets
order_lost : (c : Config) (n : ℕ) (t : Bool) (rest : List Sent) → InFrameOrder c.frames (Some n) rest
    → InFrameOrder c.frames (Some n) (lost_by c n t ++ rest)
order_lost c n true rest o = o
order_lost c n false rest o = (
  record { superframe = refl; frame = refl },
  plain_follows (Some n) (stand_in c n) (λ t. t) (omega arith),
  o,
)

pub order_full : (c : Config) (all fs : List NumberedView) (from number : ℕ) (before : Option ℕ) → RisesFrom from fs
    → AllMade c fs
    → Earlier before from → InFrameOrder c.frames before (full c all from number fs)
order_full c all [] from number before r m e = tt
order_full c all (f ∷ fs) from number before r m e =
    let low = r.0 in
    let made = m.0 in
    let rest : List Sent = full c all (f.number + 1) (number + length (frame_pairs c f)) fs in
    let more : InFrameOrder c.frames (Some f.number) (lost c all f ++ rest) =
    order_lost c f.number (is_complete c all f) rest
    (order_full c all fs (f.number + 1) (number + length (frame_pairs c f)) (Some f.number) r.1 m.1 (omega arith)) in
    order_stand c from (f.number - from) before (own c number f ++ (lost c all f ++ rest)) e
    (λ b l.
    subst (λ (bodies : List Body). InFrameOrder c.frames b (sent_from c number (pairs f.number bodies)
    ++ (lost c all f ++ rest)))
    (sym made.is)
    (order_frame c f.number (pre_bits (pre_of c)) (conf_bits (conf_of c)) made.dynamic made.blocks
    (lost c all f ++ rest) more b number
    (earlier_as b (from + (f.number - from)) f.number (omega (arith, low)) l)))

-- ---- below the end

below_stand : (c : Config) (count from k : ℕ) → from + k ≤ count → AllByRecursion (λ s. s.frame < count)
    (stand_ins c from k)
below_stand c count from zero l = tt
below_stand c count from (suc k) l = (omega (arith, l), below_stand c count (from + 1) k (omega (arith, l)))

below_lost : (c : Config) (count n : ℕ) (t : Bool) → n < count → AllByRecursion (λ s. s.frame < count) (lost_by c n t)
below_lost c count n true l = tt
below_lost c count n false l = (l, tt)

pub end_above : (from : ℕ) (fs : List NumberedView) → RisesFrom from fs → from ≤ end_after from fs
end_above from [] r = omega arith
end_above from (f ∷ fs) r = let low = r.0 in let l = end_above (f.number + 1) fs r.1 in omega (arith, low, l)

pub below_full : (c : Config) (all fs : List NumberedView) (from number count : ℕ) → RisesFrom from fs
    → end_after from fs ≤ count
    → AllByRecursion (λ s. s.frame < count) (full c all from number fs)
below_full c all [] from number count r l = tt
below_full c all (f ∷ fs) from number count r l =
    let low = r.0 in
    let above = end_above (f.number + 1) fs r.1 in
    let under : f.number < count = omega (arith, above, l) in
    let rest : List Sent = full c all (f.number + 1) (number + length (frame_pairs c f)) fs in
    all_append (λ s. s.frame < count) (stand_ins c from (f.number - from)) (own c number f ++ (lost c all f ++ rest))
    (below_stand c count from (f.number - from) (omega (arith, low, under)))
    (all_append (λ s. s.frame < count) (own c number f) (lost c all f ++ rest)
    (below_own c count f.number number (view_bodies c f.number f.view) under)
    (all_append (λ s. s.frame < count) (lost c all f) rest (below_lost c count f.number (is_complete c all f) under)
    (below_full c all fs (f.number + 1) (number + length (frame_pairs c f)) count r.1 l)))

-- ---- each frame has a packet

parts_none : (x y z w : List Packet) → x ++ (y ++ (z ++ w)) ≡ [] → (x ≡ []) × (y ≡ []) × (w ≡ [])
parts_none [] [] [] w e = (refl, refl, e)
parts_none [] [] (p ∷ z) w e = absurd cc
parts_none [] (p ∷ y) z w e = absurd cc
parts_none (p ∷ x) y z w e = absurd cc

pub some_bodies : (c : Config) (f : NumberedView) → Made c f → view_bodies c f.number f.view ≡ [] → ⊥
some_bodies c f made e = some_front c f.number (made_l1 c f.number made.dynamic)
    (plp_bodies c f.number made.blocks 0) (sym made.is ∙ e)

stand_some : (c : Config) (n from k : ℕ) → from ≤ n → n < from + k → frame_packets n (stand_ins c from k) ≡ [] → ⊥
stand_some c n from zero a b e = omega (arith, a, b)
stand_some c n from (suc k) a b e = ⊎_elim
    (λ (s : from ≡ n).
    let z = ap length (sym (packets_here n (stand_in c from) (stand_ins c (from + 1) k) s) ∙ e) in
    absurd (omega (arith, z)))
    (λ (s : from ≡ n → ⊥).
    stand_some c n (from + 1) k (omega (arith, a, s)) (omega (arith, b))
    (sym (packets_other n (stand_in c from) (stand_ins c (from + 1) k) s) ∙ e))
    (cases_eq from n)

pub some_full : (c : Config) (all : List NumberedView) (n : ℕ) (fs : List NumberedView) (from number : ℕ)
    → RisesFrom from fs
    → AllMade c fs → from ≤ n → n < end_after from fs → frame_packets n (full c all from number fs) ≢ []
some_full c all n [] from number r m a b e = omega (arith, a, b)
some_full c all n (f ∷ fs) from number r m a b e =
    let low = r.0 in
    let own_packets : List Packet = frame_packets n (own c number f) in
    let rest : List Sent = full c all (f.number + 1) (number + length (frame_pairs c f)) fs in
    let none = parts_none (frame_packets n (stand_ins c from (f.number - from))) own_packets
    (frame_packets n (lost c all f)) (frame_packets n rest) (sym (parts_packets c all n from number f rest) ∙ e) in
    ⊎_elim
    (λ (less : n < f.number). stand_some c n from (f.number - from) a (omega (arith, less, low)) none.0)
    (λ (more : f.number ≤ n).
    ⊎_elim
    (λ (s : f.number ≡ n).
    some_bodies c f m.0
    (sym (subst (λ (j : ℕ). all_bodies (frame_packets j (own c number f)) ≡ view_bodies c f.number f.view) s
    (own_here c f.number number (view_bodies c f.number f.view))) ∙ ap all_bodies none.1))
    (λ (s : f.number ≡ n → ⊥).
    some_full c all n fs (f.number + 1) (number + length (frame_pairs c f)) r.1 m.1 (omega (arith, more, s)) b none.2)
    (cases_eq f.number n))
    (cases_lt n f.number)

-- ---- near

near_rest : (c : Config) (n : ℕ) (bodies : List Body) (rest : List Sent) (number : ℕ) → 0 < c.frames
    → AreNear c.frames (Some n) rest → AreNear c.frames (Some n) (sent_from c number (pairs n bodies) ++ rest)
near_rest c n [] rest number some h = h
near_rest c n (b ∷ bodies) rest number some h =
    (record { frame = omega (arith, some); stamp = λ t. omega arith }, near_rest c n bodies rest (number + 1) some h)

abbrev SpacedSome : Config → Option ℕ → ℕ → Type 0
SpacedSome c None n = Unit {0}
SpacedSome c (Some m) n = IsSpaced c m n

near_some : (c : Config) (before : Option ℕ) (s : Sent) → SpacedSome c before s.frame
    → (IsTimestamp s.packet.body → s.frame % c.frames ≡ 0) → IsNearSome c.frames before s
near_some c None s h t = tt
near_some c (Some m) s h t = record { frame = h.frames; stamp = λ e. h.superframes (t e) }

near_made : (c : Config) (n : ℕ) (before : Option ℕ) (dynamic : List Bool) (blocks : ℕ → List (List Bool))
    (rest : List Sent)
    (number : ℕ) → 0 < c.frames → SpacedSome c before n → AreNear c.frames (Some n) rest
    → AreNear c.frames before (sent_from c number (pairs n (made_bodies c n dynamic blocks)) ++ rest)
near_made c n before dynamic blocks rest number some spaced h =
    grind (arith, cond_both, pairs, near_some, eqb-true, near_rest, made_l1)

near_from : (c : Config) (f : NumberedView) (fs : List NumberedView) (before : Option ℕ) (number : ℕ) → 0 < c.frames
    → SpacedSome c before f.number → AreSpacedFrom c f.number fs → AllMade c (f ∷ fs)
    → AreNear c.frames before (sent_from c number (remade_bodies c (f ∷ fs)))
near_from c f [] before number some spaced chain made =
    rw (sent_append, made.0.is) (near_made c f.number before made.0.dynamic made.0.blocks _ number some spaced tt)
near_from c f (g ∷ fs) before number some spaced chain made =
    let rest : List Sent = sent_from c (number + length (frame_pairs c f)) (remade_bodies c (g ∷ fs)) in
    let more : AreNear c.frames (Some f.number) rest =
    near_from c g fs (Some f.number) (number + length (frame_pairs c f)) some chain.0 chain.1 made.1 in
    rw sent_append
    (subst (λ (bodies : List Body). AreNear c.frames before (sent_from c number (pairs f.number bodies) ++ rest))
    (sym made.0.is) (near_made c f.number before made.0.dynamic made.0.blocks rest number some spaced more))

pub near_all : (c : Config) (f : NumberedView) (fs : List NumberedView) → 0 < c.frames → AreSpacedFrom c f.number fs
    → AllMade c (f ∷ fs) → AreNear c.frames None (sent_from c 0 (remade_bodies c (f ∷ fs)))
near_all c f fs some chain made = near_from c f fs None 0 some tt chain made
