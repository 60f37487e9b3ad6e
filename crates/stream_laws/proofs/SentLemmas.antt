-- The packets of a run, frame by frame.
use Rattle.stream_laws.proofs.FullLemmas.{pairs, sent_append}
use Rattle.std.proofs.Common.{◌≡◌, ℕ, zero, suc, ◌+◌, ◌-◌, ◌%◌, ◌<◌, ◌≤◌, ◌==◌, Bool, true, false, List, [], ◌∷◌, ◌++◌}
use Rattle.std.proofs.Common.{map, length, Option, Some, None, refl, ap, ap₂, sym, ◌∙◌, ⊎_elim, arith, append-nil}
use Rattle.std.specs.List.{filter, flat_map, range_with_len, AllByRecursion}
use Rattle.std.proofs.lemmas.Bool.{cases_eq, cond_both, eqb-true, eq-eqb, ne_eqb}
use Rattle.std.proofs.lemmas.List.{map-append}
use Rattle.std.proofs.lemmas.List.Elements.{filter-append}
use Rattle.terms.proofs.AllLemmas.{all_append}
use Rattle.stream_laws.proofs.MadeLemmas.{all_bodies}
use Rattle.plp_config.specs.Plps.{plp_at}
use Rattle.plp_config.specs.declared.config.Config.{Config}
use Rattle.t2mi_packet.specs.declared.packet.Body.{Body}
use Rattle.mode_adapt.specs.Blocks.{own_blocks, told_counts}
use Rattle.frame_writer.specs.Carried.{of_frame}
use Rattle.frame_writer.specs.FramePackets.{l1_body, with_stamp}
use Rattle.gateway_core.specs.Packets.{block_bodies, plp_bodies, frame_bodies, bodies_before}
use Rattle.frame_writer.specs.Signalling.{pre_part, conf_part}
use Rattle.gateway_core.specs.Signalling.{dyn_part}
use Rattle.stream_laws.specs.SentPackets.{Sent, frame_packets, IsTimestamp, TellsFrame, FollowsSome, InFrameOrder}
use Rattle.stream_laws.specs.SentFrames.{sent_from}
use Rattle.stream_laws.specs.FrameLaws.{SentAreFrames, FrameCarries}

-- ---- what the packets of a frame carry

-- bodies of so many frames from one on, each with its number
abbrev of_frames : (ℕ → List Body) → ℕ → ℕ → List (ℕ × Body)
of_frames bodies from count = flat_map (λ n. of_frame n (bodies n)) (range_with_len from count)

-- the bodies of one frame among them
abbrev own_bodies : ℕ → List (ℕ × Body) → List Body
own_bodies m bodies = map (λ (b : ℕ × Body). b.1) (filter (λ (b : ℕ × Body). b.0 == m) bodies)

carried_own : (c : Config) (m number : ℕ) (bodies : List (ℕ × Body))
    → all_bodies (frame_packets m (sent_from c number bodies))
    ≡ own_bodies m bodies
carried_own c m number [] = refl
carried_own c m number (b ∷ bodies) = ⊎_elim
    (λ (e : b.0 ≡ m).
    rw (eq-eqb b.0 m e) (ap (λ (l : List Body). b.1 ∷ l) (carried_own c m (number + 1) bodies)))
    (λ (e : b.0 ≡ m → ⊥). rw (ne_eqb b.0 m e) (carried_own c m (number + 1) bodies))
    (cases_eq b.0 m)

own_append : (m : ℕ) (xs ys : List (ℕ × Body)) → own_bodies m (xs ++ ys) ≡ own_bodies m xs ++ own_bodies m ys
own_append m xs ys = simp (filter-append, map-append)

same_frame : (m : ℕ) (bodies : List Body) → own_bodies m (of_frame m bodies) ≡ bodies
same_frame m [] = refl
same_frame m (b ∷ bodies) = rw (eq-eqb m m refl) (ap (λ (l : List Body). b ∷ l) (same_frame m bodies))

other_frame : (m n : ℕ) (bodies : List Body) → (n ≡ m → ⊥) → own_bodies m (of_frame n bodies) ≡ []
other_frame m n [] apart = refl
other_frame m n (b ∷ bodies) apart = rw (ne_eqb n m apart) (other_frame m n bodies apart)

later_none : (bodies : ℕ → List Body) (m from count : ℕ) → m < from → own_bodies m (of_frames bodies from count) ≡ []
later_none bodies m from zero l = refl
later_none bodies m from (suc count) l =
    own_append m (of_frame from (bodies from)) (of_frames bodies (from + 1) count)
    ∙ ap₂ (λ (x y : List Body). x ++ y) (other_frame m from (bodies from) (λ e. omega (arith, e, l)))
    (later_none bodies m (from + 1) count (omega (arith, l)))

own_there : (bodies : ℕ → List Body) (m from count : ℕ) → from ≤ m → m < from + count
    → own_bodies m (of_frames bodies from count)
    ≡ bodies m
own_there bodies m from zero a b = absurd (omega (arith, a, b))
own_there bodies m from (suc count) a b =
    own_append m (of_frame from (bodies from)) (of_frames bodies (from + 1) count)
    ∙ ⊎_elim
    (λ (e : from ≡ m).
    ap₂ (λ (x y : List Body). x ++ y) (ap (λ (k : ℕ). own_bodies m (of_frame k (bodies k))) e ∙ same_frame m (bodies m))
    (later_none bodies m (from + 1) count (omega (arith, e))) ∙ append-nil _)
    (λ (e : from ≡ m → ⊥).
    ap₂ (λ (x y : List Body). x ++ y) (other_frame m from (bodies from) e)
    (own_there bodies m (from + 1) count (omega (arith, a, e)) (omega (arith, b))))
    (cases_eq from m)

pub frame_carries : FrameCarries
frame_carries c inputs n m l =
    carried_own c m 0 (bodies_before c inputs n)
    ∙ own_there (λ k. frame_bodies c k (told_counts c inputs k) (own_blocks c inputs k)) m 0 n (omega arith)
    (omega (arith, l))

-- ---- their order

-- A body tells frame n, and is no timestamp.
abbrev pub IsPlain : Config → ℕ → Body → Type 0
IsPlain c n b = TellsFrame c.frames n b × (IsTimestamp b → ⊥)

plain_blocks : (c : Config) (n id : ℕ) (first : Bool) (blocks : List (List Bool))
    → AllByRecursion (IsPlain c n) (block_bodies (n % c.frames) id first blocks)
plain_blocks c n id first [] = tt
plain_blocks c n id first (b ∷ blocks) = ((refl, λ t. t), plain_blocks c n id false blocks)

plain_all : (c : Config) (n : ℕ) (bodies : ℕ → List Body) → ((plp : ℕ) → AllByRecursion (IsPlain c n) (bodies plp))
    → (a k : ℕ)
    → AllByRecursion (IsPlain c n) (flat_map bodies (range_with_len a k))
plain_all c n bodies h a zero = tt
plain_all c n bodies h a (suc k) = all_append (IsPlain c n) (bodies a) (flat_map bodies (range_with_len (a + 1) k))
    (h a)
    (plain_all c n bodies h (a + 1) k)

pub plain_plps : (c : Config) (n : ℕ) (blocks : ℕ → List (List Bool))
    → AllByRecursion (IsPlain c n) (plp_bodies c n blocks 0)
plain_plps c n blocks = plain_all c n (λ plp. block_bodies (n % c.frames) (plp_at c.plps plp).id true (blocks plp))
    (λ plp. plain_blocks c n (plp_at c.plps plp).id true (blocks plp)) 0 (length c.plps - 0)

-- Frames come one behind another.
abbrev pub Earlier : Option ℕ → ℕ → Type 0
Earlier None n = Unit {0}
Earlier (Some m) n = m < n

abbrev pub NotLater : Option ℕ → ℕ → Type 0
NotLater None n = Unit {0}
NotLater (Some m) n = m ≤ n

pub earlier_follows : (before : Option ℕ) (s : Sent) → Earlier before s.frame → FollowsSome before s
earlier_follows None s e = tt
earlier_follows (Some m) s e = record { frame = omega (arith, e); stamp = λ t. e }

pub plain_follows : (before : Option ℕ) (s : Sent) → (IsTimestamp s.packet.body → ⊥) → NotLater before s.frame
    → FollowsSome before s
plain_follows None s p e = tt
plain_follows (Some m) s p e = record { frame = e; stamp = λ t. absurd (p t) }

pub not_later : (before : Option ℕ) (n : ℕ) → Earlier before n → NotLater before n
not_later None n e = tt
not_later (Some m) n e = omega (arith, e)

order_rest : (c : Config) (n : ℕ) (before : Option ℕ) (bodies : List Body) (rest : List Sent) (number : ℕ)
    → AllByRecursion (IsPlain c n) bodies → NotLater before n → InFrameOrder c.frames before rest
    → InFrameOrder c.frames (Some n) rest → InFrameOrder c.frames before (sent_from c number (pairs n bodies) ++ rest)
order_rest c n before [] rest number p l o q = o
order_rest c n before (b ∷ bodies) rest number p l o q = (
  record { superframe = refl; frame = p.0.0 },
  plain_follows before _ p.0.1 l,
  order_rest c n (Some n) bodies rest (number + 1) p.1 (omega arith) q q,
)

-- the L1-current of frame n, by the numbers of blocks that it tells
abbrev pub l1_of : Config → ℕ → List ℕ → Body
l1_of c n counts = l1_body c n (pre_part c) (conf_part c) (dyn_part c n counts)

-- the packets of a frame whose L1-current has these parts, and others behind them
module _ (c : Config) (n : ℕ) (pre conf dynamic : List Bool) (blocks : ℕ → List (List Bool)) (rest : List Sent)
    (behind : InFrameOrder c.frames (Some n) rest) where
  abbrev front : List Body
  front = l1_body c n pre conf dynamic ∷ plp_bodies c n blocks 0

  order_l1 : (before : Option ℕ) (number : ℕ) → NotLater before n
      → InFrameOrder c.frames before (sent_from c number (pairs n front) ++ rest)
  order_l1 before number l = grind (arith, plain_follows, order_rest, plain_plps)

  pub order_frame : (before : Option ℕ) (number : ℕ) → Earlier before n
      → InFrameOrder c.frames before (sent_from c number (pairs n (with_stamp c n front)) ++ rest)
  order_frame before number e =
      cond_both {A = List Body} (n % c.frames == 0) _ _
      (λ l. InFrameOrder c.frames before (sent_from c number (pairs n l) ++ rest))
      (λ t. (
        record { superframe = refl; frame = eqb-true _ _ t },
        earlier_follows before _ e,
        order_l1 (Some n) (number + 1) (omega arith),
      ))
      (λ t. order_l1 before number (not_later before n e))

order_frames : (c : Config) (counts : ℕ → List ℕ) (blocks : ℕ → ℕ → List (List Bool)) (from count : ℕ)
    (before : Option ℕ) (number : ℕ) → Earlier before from
    → InFrameOrder c.frames before
    (sent_from c number (of_frames (λ n. frame_bodies c n (counts n) (blocks n)) from count))
order_frames c counts blocks from zero before number e = tt
order_frames c counts blocks from (suc count) before number e =
    rw sent_append
    (order_frame c from (pre_part c) (conf_part c) (dyn_part c from (counts from)) (blocks from) _
    (order_frames c counts blocks (from + 1) count (Some from) _ (omega arith)) before number e)

-- All packets are of the frames below another.
pub below_own : (c : Config) (count n number : ℕ) (bodies : List Body) → n < count
    → AllByRecursion (λ s. s.frame < count) (sent_from c number (pairs n bodies))
below_own c count n number [] l = tt
below_own c count n number (b ∷ bodies) l = (l, below_own c count n (number + 1) bodies l)

below_frames : (c : Config) (bodies : ℕ → List Body) (from more count number : ℕ) → from + more ≤ count
    → AllByRecursion (λ s. s.frame < count) (sent_from c number (of_frames bodies from more))
below_frames c bodies from zero count number l = tt
below_frames c bodies from (suc more) count number l =
    rw sent_append
    (all_append (λ s. s.frame < count) _ _ (below_own c count from number (bodies from) (omega (arith, l)))
    (below_frames c bodies (from + 1) more count _ (omega (arith, l))))

-- a frame has a packet
pub some_front : (c : Config) (n : ℕ) (l1 : Body) (rest : List Body) → with_stamp c n (l1 ∷ rest) ≡ [] → ⊥
some_front c n l1 rest =
    cond_both {A = List Body} (n % c.frames == 0) _ _ (λ l. l ≡ [] → ⊥) (λ t e. absurd cc) (λ t e. absurd cc)

pub sent_are_frames : FrameCarries → SentAreFrames
sent_are_frames carries c inputs n some = record {
  order = order_frames c (told_counts c inputs) (own_blocks c inputs) 0 n None 0 tt;
  below = below_frames c (λ m. frame_bodies c m (told_counts c inputs m) (own_blocks c inputs m)) 0 n n 0 (omega arith);
  some = λ m l none. some_front c m (l1_of c m (told_counts c inputs m)) (plp_bodies c m (own_blocks c inputs m) 0)
      (sym (carries c inputs n m l) ∙ ap all_bodies none);
}
