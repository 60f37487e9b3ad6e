-- How many steps are left in a unit.
use Rattle.std.proofs.Common.{◌≡◌, ◌⊎◌, ℕ, ◌+◌, ◌≤◌, ◌<◌, Bool, true, false, cond, ap, ⊎_elim, arith}
use Rattle.ts_packet.specs.declared.sizes.TheConstants.{SIZE}
use Rattle.t2mi_stream.specs.UnpiperStandsFor.{is_ready, unit_place, steps_left}
use Rattle.t2mi_stream.specs.declared.unpiper.Unpiper.{Unpiper}
use Rattle.frame_groups.specs.Waits.{greatest_step}
use Rattle.modulator.specs.Modulating.{most_steps, near_number}

few : (ready : Bool) → cond ready 1 0 ≤ 1
few true = omega arith
few false = omega arith

pub most : (u : Unpiper) → steps_left u ≤ most_steps
most u = let f = few (is_ready u) in omega (arith, f)

-- a packet was given up
pub fewer : (u v : Unpiper) → is_ready u ≡ true
    → ((unit_place u < unit_place v) ⊎ ((unit_place v ≡ unit_place u) × (is_ready v ≡ false))) → unit_place v ≤ SIZE
    → steps_left v < steps_left u
fewer u v ready less inside =
    let one : ◌≡◌ {A = ℕ} (cond (is_ready u) 1 0) 1 = ap (λ (t : Bool). cond t 1 0) ready in
    ⊎_elim
    (λ (on : unit_place u < unit_place v). let f = few (is_ready v) in omega (arith, on, inside, one, f))
    (λ (same : (unit_place v ≡ unit_place u) × (is_ready v ≡ false)).
    let none : ◌≡◌ {A = ℕ} (cond (is_ready v) 1 0) 0 = ap (λ (t : Bool). cond t 1 0) same.1 in
    let e = same.0 in
    omega (arith, one, none, e))
    less

-- the number of a group that began as a packet was given up
pub risen : (u v : Unpiper) (n : ℕ) → steps_left v < steps_left u → n ≤ near_number u + greatest_step
    → n ≤ near_number v
risen u v n less h = let top = most u in omega (arith, less, top, h)
