-- Packets of which only those at the front are lost.
use Rattle.std.proofs.Common.{◌≡◌, ◌≢◌, ℕ, zero, suc, ◌+◌, ◌*◌, ◌/◌, ◌%◌, ◌<◌, ◌≤◌, true, List, [], ◌∷◌, replicate}
use Rattle.std.proofs.Common.{Option, Some, None, refl, ap, ◌∙◌, ⊎_elim, arith, div-lt_iff_lt-mul, add-mul}
use Rattle.std.specs.List.{items_where_true}
use Rattle.std.specs.Prelude.{slice_get}
use Rattle.std.proofs.lemmas.Bool.{cases_lt}
use Rattle.std.proofs.lemmas.Nat.{div-add-mod', mod_below}
use Rattle.stream_laws.specs.SentPackets.{Sent, IsTimestamp, frame_packets, FollowsSome, InFrameOrder, IsNearSome}
use Rattle.stream_laws.specs.SentPackets.{AreNear}
use Rattle.stream_laws.specs.Survivors.{later_only}
use Rattle.stream_laws.specs.DamageLaws.{LaterNear, NearTold}
use Rattle.stream_laws.proofs.FullLemmas.{packets_other}
use Rattle.stream_laws.proofs.GroupLemmas.{AreBelow, all_from, no_packets}

-- Each packet is in the frame of the one before it, or in the next one.
abbrev NextSome : Option ℕ → Sent → Type 0
NextSome None s = Unit {0}
NextSome (Some m) s = s.frame ≤ m + 1

abbrev AreNext : Option ℕ → List Sent → Type 0
AreNext before [] = Unit {0}
AreNext before (s ∷ ss) = NextSome before s × AreNext (Some s.frame) ss

-- The frames behind one have packets.
abbrev Behind : Option ℕ → ℕ → List Sent → Type 0
Behind None count ss = (n : ℕ) → n < count → frame_packets n ss ≢ []
Behind (Some m) count ss = (n : ℕ) → m < n → n < count → frame_packets n ss ≢ []

behind_on : (before : Option ℕ) (count : ℕ) (s : Sent) (ss : List Sent) → FollowsSome before s
    → Behind before count (s ∷ ss)
    → Behind (Some s.frame) count ss
behind_on None count s ss f h n l m none = h n m (packets_other n s ss (λ e. omega (arith, e, l)) ∙ none)
behind_on (Some k) count s ss f h n l m none =
    h n (let o = f.frame in omega (arith, o, l)) m (packets_other n s ss (λ e. omega (arith, e, l)) ∙ none)

next_some : (frames : ℕ) (before : Option ℕ) (count : ℕ) (s : Sent) (ss : List Sent)
    → InFrameOrder frames (Some s.frame) ss
    → s.frame < count → Behind before count (s ∷ ss) → NextSome before s
next_some frames None count s ss o b h = tt
next_some frames (Some m) count s ss o b h = ⊎_elim
    (λ (l : m + 1 < s.frame).
    absurd (h (m + 1) (omega arith) (omega (arith, l, b))
    (no_packets (m + 1) s.frame (s ∷ ss) l (
      let e : s.frame ≤ s.frame = omega arith in e,
      all_from frames
          s.frame ss o,
    ))))
    (λ (l : s.frame ≤ m + 1). l)
    (cases_lt (m + 1) s.frame)

are_next : (frames count : ℕ) (before : Option ℕ) (ss : List Sent) → InFrameOrder frames before ss → AreBelow count ss
    → Behind before count ss → AreNext before ss
are_next frames count before [] o b h = tt
are_next frames count before (s ∷ ss) o b h = (
  next_some frames before count s ss o.2 b.0 h,
  are_next frames count (Some s.frame) ss o.2 b.1
      (behind_on before count s ss o.1 h),
)

next_near : (frames : ℕ) (before : Option ℕ) (s : Sent) → 0 < frames → NextSome before s → IsNearSome frames before s
next_near frames None s some h = tt
next_near frames (Some m) s some h = record {
  frame = omega (arith, h, some);
  stamp = λ e.
      let parts : m / frames * frames + m % frames ≡ m = div-add-mod' m frames in
      let below : m % frames < frames = mod_below m frames some in
      let spread : (m / frames + 16) * frames ≡ m / frames * frames + 16 * frames = add-mul (m / frames) 16 frames in
      (div-lt_iff_lt-mul {k = frames} some).1 (omega (arith, parts, below, spread, h, some));
}

kept_near : (frames : ℕ) (before : Option ℕ) (ss : List Sent) (left : ℕ) → 0 < frames → AreNext before ss
    → AreNear frames before (items_where_true (replicate left true) ss)
kept_near frames before ss zero some n = tt
kept_near frames before [] (suc left) some n = tt
kept_near frames before (s ∷ ss) (suc left) some n =
    (next_near frames before s some n.0, kept_near frames (Some s.frame) ss left some n.1)

near_later : (frames : ℕ) (before : Option ℕ) (ss : List Sent) (lost left : ℕ) → 0 < frames → AreNext before ss
    → AreNear frames None (items_where_true (later_only lost left) ss)
near_later frames before ss zero zero some n = tt
near_later frames before [] zero (suc left) some n = tt
near_later frames before (s ∷ ss) zero (suc left) some n = (tt, kept_near frames (Some s.frame) ss left some n.1)
near_later frames before [] (suc lost) left some n = tt
near_later frames before (s ∷ ss) (suc lost) left some n = near_later frames (Some s.frame) ss lost left some n.1

pub later_near : LaterNear
later_near frames count sent lost left some all =
    near_later frames None sent lost left some (are_next frames count None sent all.order all.below all.some)

-- Packets that are near one another two by two are so behind the first.
near_behind : (frames : ℕ) (s : Sent) (ss : List Sent)
    → ((i : ℕ) (t next : Sent) → slice_get (s ∷ ss) i ≡ Some t → slice_get (s ∷ ss) (i + 1) ≡ Some next
    → (next.frame < t.frame + 16 * frames) × (IsTimestamp next.packet.body
    → next.frame / frames < t.frame / frames + 16))
    → AreNear frames (Some s.frame) ss
near_behind frames s [] h = tt
near_behind frames s (t ∷ ss) h =
    let p = h 0 s t refl refl in (
      record { frame = p.0; stamp = p.1 },
      near_behind frames t ss
          (λ i u next at behind.
          h (suc i) u next at (ap (slice_get (s ∷ t ∷ ss)) (let e : suc i + 1 ≡ suc (i + 1) = omega arith in e)
          ∙ behind)),
    )

pub near_told : NearTold
near_told frames [] h = tt
near_told frames (s ∷ ss) h = (tt, near_behind frames s ss h)
