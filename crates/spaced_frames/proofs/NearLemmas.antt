-- Spaced frames are near.
use Rattle.std.proofs.Common.{◌≡◌, ◌<◌, ◌≤◌, ℕ, zero, suc, ◌+◌, ◌*◌, ◌/◌, List, [], ◌∷◌, ◌++◌, length, Some, refl, ap}
use Rattle.std.proofs.Common.{◌∙◌, arith}
use Rattle.std.specs.List.{AllByRecursion}
use Rattle.std.proofs.Math.Nat.{mul-div_cancel, mul-le-mul_right, div-mul-le_self, div-add-mod, add-mul, mul_comm}
use Rattle.std.proofs.lemmas.Nat.{mod_below}
use Rattle.plp_config.specs.declared.config.Config.{Config}
use Rattle.t2mi_packet.specs.declared.packet.Body.{Body}
use Rattle.frame_writer.specs.Carried.{of_frame}
use Rattle.spaced_frames.specs.Laws.{IsNear, AreNearFrom, AreNear, RiseFrom, SpacedAreNear}
use Rattle.spaced_frames.specs.Spaced.{SentFrame, spacers, spacers_behind, spacers_between, spaced, spaced_behind}

same_frame : (c : Config) (n : ℕ) → IsNear c n n
same_frame c n = record { order = omega arith; superframes = omega arith }

-- the packets of one frame, and what is near it
of_one : (c : Config) (n : ℕ) (bodies : List Body) (rest : List (ℕ × Body)) → AreNearFrom c n rest
    → AreNearFrom c n (of_frame n bodies ++ rest)
of_one c n [] rest h = h
of_one c n (b ∷ bodies) rest h = (same_frame c n, of_one c n bodies rest h)

-- the first frame of the superframe 14 further on
further : (c : Config) (m s : ℕ) → 0 < c.frames → m / c.frames ≡ s → IsNear c m ((s + 14) * c.frames)
further c m s some is =
    let f = c.frames in
    let r = mod_below m f some in
    let d = div-add-mod m f in
    let e : f * (m / f) ≡ s * f = ap (λ (x : ℕ). f * x) is ∙ mul_comm f s in
    let a : (s + 14) * f ≡ s * f + 14 * f = add-mul s 14 f in
    record {
      order = omega (arith, r, d, e, a, some);
      superframes = (let q = mul-div_cancel (s + 14) some in omega (arith, q, is));
    }

spacers_near : (c : Config) (k m s n : ℕ) (b : Body) (rest : List (ℕ × Body)) → 0 < c.frames → m / c.frames ≡ s → m ≤ n
    → spacers_between s (n / c.frames) ≡ k → AreNearFrom c n rest
    → AreNearFrom c m (spacers_behind c s k ++ (n, b) ∷ rest)
spacers_near c zero m s n b rest some is le count h =
    (record { order = le; superframes = omega (arith, count, is) }, h)
spacers_near c (suc k) m s n b rest some is le count h =
    let f = c.frames in
    let far : s + 14 < n / f = omega (arith, count) in
    let fewer : spacers_between (s + 14) (n / f) ≡ k = omega (arith, count) in
    let below : (s + 14) * f ≤ n / f * f = mul-le-mul_right f (omega (arith, far)) in
    let within = div-mul-le_self n f in (
      further c m s some is,
      spacers_near c k ((s + 14) * f) (s + 14) n b rest some (mul-div_cancel (s + 14) some)
          (omega (arith, below, within)) fewer h,
    )

near_behind : (c : Config) (m : ℕ) (frames : List SentFrame) → 0 < c.frames → RiseFrom m frames
    → AllByRecursion (λ x. 0 < length x.bodies) frames → AreNearFrom c m (spaced_behind c (Some m) frames)
near_behind c m [] some rise full = tt
near_behind c m (x ∷ frames) some rise full =
    own x.bodies full.0 (near_behind c x.number frames some rise.1 full.1)
  where
    own : (bodies : List Body) → 0 < length bodies → AreNearFrom c x.number (spaced_behind c (Some x.number) frames)
        → AreNearFrom c m (spacers c (Some m) x.number ++ (of_frame x.number bodies ++ spaced_behind
        c (Some x.number) frames))
    own [] l h = absurd (omega (arith, l))
    own (b ∷ bodies) l h =
        spacers_near c (spacers_between (m / c.frames) (x.number / c.frames)) m (m / c.frames) x.number b
        (of_frame x.number bodies ++ spaced_behind c (Some x.number) frames) some refl (omega (arith, rise.0)) refl
        (of_one c x.number bodies (spaced_behind c (Some x.number) frames) h)

pub spaced_near : SpacedAreNear
unfolding spaced
spaced_near c [] some rise full = tt
spaced_near c (x ∷ frames) some rise full = first x.bodies full.0 (near_behind c x.number frames some rise full.1)
  where
    first : (bodies : List Body) → 0 < length bodies → AreNearFrom c x.number (spaced_behind c (Some x.number) frames)
        → AreNear c (of_frame x.number bodies ++ spaced_behind c (Some x.number) frames)
    first [] l h = absurd (omega (arith, l))
    first (b ∷ bodies) l h = of_one c x.number bodies (spaced_behind c (Some x.number) frames) h
