-- Frames that are made.
use Rattle.std.proofs.Common.{◌≡◌, ◌<◌, ◌≤◌, ℕ, zero, suc, ◌+◌, ◌%◌, ◌==◌, Bool, true, false, cond, List, [], ◌∷◌, ◌++◌}
use Rattle.std.proofs.Common.{length, Option, Some, None, refl, ap, sym, subst, ◌∙◌, arith}
use Rattle.std.specs.Prelude.{nat_lt, find, option_map, option_to_list}
use Rattle.std.specs.List.{AllByRecursion}
use Rattle.std.specs.Option.{option_or}
use Rattle.std.proofs.lemmas.Bool.{ltb-false}
use Rattle.std.proofs.lemmas.Option.{same_Some}
use Rattle.terms.proofs.OptionLemmas.{none_some, none_if_not}
use Rattle.plp_config.specs.declared.config.Config.{Config}
use Rattle.t2mi_packet.specs.declared.packet.Body.{Body}
use Rattle.t2mi_packet.specs.declared.packet.Body.TheVariants.{Timestamp}
use Rattle.frame_writer.specs.FramePackets.{stamp_of, with_stamp}
use Rattle.frame_groups.specs.Groups.{Group}
use Rattle.frame_groups.specs.Modulated.{Numbered}
use Rattle.frame_groups.specs.Tests.{group_fault}
use Rattle.mended_frames.specs.Picks.{Coming, Picked, one_waits, least_next, all_behind, picked_of, pick_next}
use Rattle.mended_frames.specs.Picks.{picked_from, events_in}
use Rattle.spaced_frames.specs.Laws.{Rise, RiseFrom}
use Rattle.spaced_frames.proofs.NearLemmas.{spaced_near}
use Rattle.mended_frames.specs.Feeds.{all_of, made_of_all}
use Rattle.mended_frames.specs.Laws.{PassBehind, MadePass, MadeRise, MadeAreNear}
use Rattle.mended_frames.specs.Mended.{Made, passes, made_as, own_of, woven_of, made_of, with_made, past_with, low_of}
use Rattle.mended_frames.specs.Mended.{taking, mended, frames_of}

-- ---- they pass

found : {X : Type 0} (test : X → Bool) (xs : List X) (x : X) → find test xs ≡ Some x → test x ≡ true
found test [] x e = none_some x e
found test (y ∷ xs) x e = go (test y) refl e (λ r. found test xs x r)
  where
    go : (t : Bool) → test y ≡ t → cond t (Some y) (find test xs) ≡ Some x → (find test xs ≡ Some x → test x ≡ true)
        → test x ≡ true
    go true is e rest = subst (λ (z : _). test z ≡ true) (same_Some y x e) is
    go false is e rest = rest e

-- what is made has the number that was picked, and passes
pub record IsMade (c : Config) (past : List Numbered) (p : Picked) (x : Made) : Type 0 where
  pub number : x.number ≡ p.number
  pub pass : group_fault c past x.group p.number ≡ None

by_one : (c : Config) (past : List Numbered) (p : Picked) (is_woven : Bool) (gs : List Group) (x : Made)
    → option_map (made_as p.number is_woven) (find (passes c past p.number) gs) ≡ Some x → IsMade c past p x
by_one c past p is_woven gs x e = go (find (passes c past p.number) gs) refl e
  where
    go : (o : Option Group) → find (passes c past p.number) gs ≡ o → option_map (made_as p.number is_woven) o ≡ Some x
        → IsMade c past p x
    go None is e = none_some x e
    go (Some g) is e =
        let same = same_Some (made_as p.number is_woven g) x e in
        record {
          number = sym (ap (λ (y : Made). y.number) same);
          pass =
              ap (λ (y : Made). group_fault c past y.group p.number) (sym same)
              ∙ none_if_not (group_fault c past g p.number) (found (passes c past p.number) gs g is);
        }

is_made : (c : Config) (past : List Numbered) (p : Picked) (x : Made) → made_of c past p ≡ Some x → IsMade c past p x
is_made c past p x e = go (option_map (made_as p.number false) (own_of c past p)) refl e
  where
    go : (o : Option Made) → option_map (made_as p.number false) (own_of c past p) ≡ o
        → option_or o (option_map (made_as p.number true) (woven_of c past p)) ≡ Some x → IsMade c past p x
    go None is e = by_one c past p true _ x e
    go (Some y) is e = by_one c past p false p.groups x (is ∙ e)

abbrev Rest : Type 0
Rest = List Numbered → (ℕ → Coming) → List Made

next_pass : (c : Config) (o : Option ℕ) (k : ℕ) (past : List Numbered) (feeds : ℕ → Coming) (rest : Rest)
    → ((past : List Numbered) (feeds : ℕ → Coming) → PassBehind c past (rest past feeds))
    → PassBehind c past (pick_next (taking c) o k past feeds rest)
next_pass c None k past feeds rest h = h past (all_behind None true feeds)
next_pass c (Some n) k past feeds rest h = go (nat_lt n (low_of past))
  where
    made : (o : Option Made) → made_of c past (picked_of n k feeds) ≡ o
        → PassBehind c past (option_to_list o ++ rest (past_with past o) (all_behind (Some n) true feeds))
    made None is = h past (all_behind (Some n) true feeds)
    made (Some x) is =
        let m = is_made c past (picked_of n k feeds) x is in (
          subst (λ (i : ℕ). group_fault c past x.group i ≡ None) (sym m.number) m.pass,
          h (with_made past x) (all_behind (Some n) true feeds),
        )

    go : (t : Bool)
        → PassBehind c past (cond t (rest past (all_behind (Some n) false feeds))
        (option_to_list (made_of c past (picked_of n k feeds))
        ++ rest (past_with past (made_of c past (picked_of n k feeds))) (all_behind (Some n) true feeds)))
    go true = h past (all_behind (Some n) false feeds)
    go false = made (made_of c past (picked_of n k feeds)) refl

pass_from : (c : Config) (steps k : ℕ) (past : List Numbered) (feeds : ℕ → Coming)
    → PassBehind c past (picked_from (taking c) steps k past feeds)
pass_from c zero k past feeds = tt
pass_from c (suc steps) k past feeds = go (one_waits k feeds) (λ past feeds. pass_from c steps k past feeds)
  where
    go : (t : Bool) → ((past : List Numbered) (feeds : ℕ → Coming)
        → PassBehind c past (picked_from (taking c) steps k past feeds))
        → PassBehind c past (cond t [] (pick_next (taking c) (least_next k feeds) k past feeds
        (λ past feeds. picked_from (taking c) steps k past feeds)))
    go true h = tt
    go false h = next_pass c (least_next k feeds) k past feeds (λ past feeds. picked_from (taking c) steps k past feeds)
        h

pub made_pass : MadePass
unfolding mended
made_pass c k streams = pass_from c (events_in k (all_of c streams)) k [] (all_of c streams)

-- ---- their numbers rise

-- Their numbers are not below one, and rise.
abbrev pub RiseOn : ℕ → List Made → Type 0
RiseOn low [] = Unit {0}
RiseOn low (x ∷ made) = (low ≤ x.number) × RiseOn (x.number + 1) made

next_rise : (c : Config) (o : Option ℕ) (k : ℕ) (past : List Numbered) (feeds : ℕ → Coming) (rest : Rest)
    → ((past : List Numbered) (feeds : ℕ → Coming) → RiseOn (low_of past) (rest past feeds))
    → RiseOn (low_of past) (pick_next (taking c) o k past feeds rest)
next_rise c None k past feeds rest h = h past (all_behind None true feeds)
next_rise c (Some n) k past feeds rest h = go (nat_lt n (low_of past)) refl
  where
    made : low_of past ≤ n → (o : Option Made) → made_of c past (picked_of n k feeds) ≡ o
        → RiseOn (low_of past) (option_to_list o ++ rest (past_with past o) (all_behind (Some n) true feeds))
    made l None is = h past (all_behind (Some n) true feeds)
    made l (Some x) is =
        let m = (is_made c past (picked_of n k feeds) x is).number in
        (omega (arith, l, m), h (with_made past x) (all_behind (Some n) true feeds))

    go : (t : Bool) → nat_lt n (low_of past) ≡ t
        → RiseOn (low_of past) (cond t (rest past (all_behind (Some n) false feeds))
        (option_to_list (made_of c past (picked_of n k feeds))
        ++ rest (past_with past (made_of c past (picked_of n k feeds))) (all_behind (Some n) true feeds)))
    go true e = h past (all_behind (Some n) false feeds)
    go false e = made (ltb-false n (low_of past) e) (made_of c past (picked_of n k feeds)) refl

rise_from : (c : Config) (steps k : ℕ) (past : List Numbered) (feeds : ℕ → Coming)
    → RiseOn (low_of past) (picked_from (taking c) steps k past feeds)
rise_from c zero k past feeds = tt
rise_from c (suc steps) k past feeds = go (one_waits k feeds) (λ past feeds. rise_from c steps k past feeds)
  where
    go : (t : Bool) → ((past : List Numbered) (feeds : ℕ → Coming)
        → RiseOn (low_of past) (picked_from (taking c) steps k past feeds))
        → RiseOn (low_of past) (cond t [] (pick_next (taking c) (least_next k feeds) k past feeds
        (λ past feeds. picked_from (taking c) steps k past feeds)))
    go true h = tt
    go false h = next_rise c (least_next k feeds) k past feeds (λ past feeds. picked_from (taking c) steps k past feeds)
        h

frames_rise : (c : Config) (m : ℕ) (made : List Made) → RiseOn (m + 1) made → RiseFrom m (frames_of c made)
frames_rise c m [] h = tt
frames_rise c m (x ∷ made) h = (let a = h.0 in omega (arith, a), frames_rise c x.number made h.1)

first_rise : (c : Config) (low : ℕ) (made : List Made) → RiseOn low made → Rise (frames_of c made)
first_rise c low [] h = tt
first_rise c low (x ∷ made) h = frames_rise c x.number made h.1

pub made_rise : MadeRise
unfolding mended
made_rise c k streams =
    first_rise c 0 (made_of_all c k streams) (rise_from c (events_in k (all_of c streams)) k [] (all_of c streams))

-- ---- and they are near

stamp_some : (c : Config) (n : ℕ) (b : Body) (bodies : List Body) → 0 < length (with_stamp c n (b ∷ bodies))
stamp_some c n b bodies = go (n % c.frames == 0)
  where
    go : (t : Bool) → 0 < length (cond t (Timestamp (stamp_of c n) ∷ b ∷ bodies) (b ∷ bodies))
    go true = omega arith
    go false = omega arith

has_bodies : (c : Config) (made : List Made) → AllByRecursion (λ x. 0 < length x.bodies) (frames_of c made)
has_bodies c [] = tt
has_bodies c (x ∷ made) = (stamp_some c x.number _ _, has_bodies c made)

pub made_near : MadeAreNear
made_near c k streams some = spaced_near c (frames_of c (made_of_all c k streams)) some (made_rise c k streams)
    (has_bodies c (made_of_all c k streams))
