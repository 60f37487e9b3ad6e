-- Each accepted packet stands at a start of a run.
use Rattle.std.proofs.Common.{◌≡◌, ℕ, List, [], ◌∷◌, ◌++◌, length, drop, Option, Some, None, ◌⊎◌, inl, inr, ⊎_elim, ap}
use Rattle.std.proofs.Common.{◌∙◌, refl}
use Rattle.std.specs.Prelude.{option_to_list, flat_map}
use Rattle.t2mi_stream.specs.Accepted.{Byte, AcceptedPacket, front_packet, starts, packets_at, accepted}
use Rattle.t2mi_stream.specs.Units.{runs}
use Rattle.t2mi_stream.specs.Laws.{Among}
use Rattle.t2mi_stream.specs.SurvivorLaws.{StandsAtStart, AcceptedStand}
use Rattle.t2mi_stream.proofs.KeptUnitsLemmas.{among_left, among_right}

among_either : {X : Type 0} (x : X) (xs ys : List X) → Among x (xs ++ ys) → Among x xs ⊎ Among x ys
among_either x [] ys h = inr h
among_either x (y ∷ xs) ys (inl e) = inl (inl e)
among_either x (y ∷ xs) ys (inr h) = ⊎_elim (λ (l : Among x xs). inl (inr l)) (λ (r : Among x ys). inr r)
    (among_either x xs ys h)

-- a packet at one of some starts
pub record AtOne (run : List Byte) (qs : List ℕ) (p : AcceptedPacket) : Type 0 where
  pub start : ℕ
  pub is_one : Among start qs
  pub packet : front_packet (drop start run) ≡ Some p

at_one : (run : List Byte) (qs : List ℕ) (p : AcceptedPacket) → Among p (packets_at run qs) → AtOne run qs p
at_one run [] p h = elim h [ ]
at_one run (q ∷ qs) p h = go (front_packet (drop q run)) refl h (λ k. let r = at_one run qs p k in
    record { start = r.start; is_one = inr r.is_one; packet = r.packet })
  where
    go : (o : Option AcceptedPacket) → front_packet (drop q run) ≡ o → Among p (option_to_list o ++ packets_at run qs)
        → (Among p (packets_at run qs) → AtOne run (q ∷ qs) p) → AtOne run (q ∷ qs) p
    go None e k later = later k
    go (Some x) e (inl same) later = record { start = q; is_one = inl refl; packet = e ∙ ap Some same }
    go (Some x) e (inr k) later = later k

-- a packet of one of some runs
record OfOne (rs : List (List Byte)) (p : AcceptedPacket) : Type 0 where
  pub run : List Byte
  pub is_one : Among run rs
  pub there : Among p (accepted run)

of_one : (rs : List (List Byte)) (p : AcceptedPacket) → Among p (flat_map accepted rs) → OfOne rs p
of_one [] p h = elim h [ ]
of_one (r ∷ rs) p h = ⊎_elim
    (λ (k : Among p (accepted r)). record { run = r; is_one = inl refl; there = k })
    (λ (k : Among p (flat_map accepted rs)). let o = of_one rs p k in
    record { run = o.run; is_one = inr o.is_one; there = o.there })
    (among_either p (accepted r) (flat_map accepted rs) h)

pub at_start : (run : List Byte) (p : AcceptedPacket) → Among p (accepted run) → AtOne run (starts run (length run)) p
unfolding accepted
at_start run p h = at_one run (starts run (length run)) p h

pub accepted_stand : AcceptedStand
accepted_stand pid bytes p h = ⊎_elim
    (λ (k : Among p (flat_map accepted (runs pid bytes).ended)).
    let o = of_one (runs pid bytes).ended p k in
    stands o.run (among_left o.run (runs pid bytes).ended ((runs pid bytes).run ∷ []) o.is_one) o.there)
    (λ (k : Among p (accepted (runs pid bytes).run)).
    stands (runs pid bytes).run (among_right (runs pid bytes).run (runs pid bytes).ended ((runs pid bytes).run ∷ [])
    (inl refl))
    k)
    (among_either p (flat_map accepted (runs pid bytes).ended) (accepted (runs pid bytes).run) h)
  where
    stands : (run : List Byte) → Among run ((runs pid bytes).ended ++ (runs pid bytes).run ∷ [])
        → Among p (accepted run)
        → StandsAtStart pid bytes p
    stands run is k = let a = at_start run p k in
        record { run = run; is_run = is; start = a.start; is_start = a.is_one; packet = a.packet }
