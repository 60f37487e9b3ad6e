-- How many frames a run has, and what decides their packets.
use Rattle.std.proofs.Common.{◌≡◌, ℕ, zero, suc, ◌+◌, ◌-◌, ◌*◌, ◌%◌, ◌<◌, ◌≤◌, Bool, true, List, [], ◌∷◌, ◌++◌, length}
use Rattle.std.proofs.Common.{max, cond, refl, ap, sym, subst, ◌∙◌, inl, inr, arith, append-nil, append_assoc, add-one}
use Rattle.std.specs.Int.{div_ceil}
use Rattle.std.proofs.lemmas.Bool.{cases_lt}
use Rattle.std.proofs.Math.Nat.{mul-le-mul_right}
use Rattle.terms.proofs.RangeLemmas.{map_same, flat_same}
use Rattle.plp_config.specs.Laws.{CountRises, EndsAfterStart, EpochTicks, FrameCountLeast, NotOverBy, SlotLength}
use Rattle.plp_config.specs.InterleavingFrames.{interleaving_frame, is_first}
use Rattle.plp_config.specs.Plps.{plp_at}
use Rattle.plp_config.specs.RunLength.{frame_count, last_tick}
use Rattle.plp_config.specs.SlotTime.{num, den, start, delay, epoch_ticks}
use Rattle.plp_config.specs.declared.config.Config.{Config}
use Rattle.t2mi_packet.specs.declared.packet.Body.{Body}
use Rattle.mode_adapt.specs.Deletion.{packet_at}
use Rattle.mode_adapt.specs.Laws.{BlocksLaw}
use Rattle.t2mi_stream.specs.CompleteLaws.{CompleteLaw}
use Rattle.t2mi_stream.specs.Pipe.{pipe}
use Rattle.frame_writer.specs.Carried.{of_frame}
use Rattle.gateway_core.specs.Events.{offered}
use Rattle.gateway_core.specs.Laws.{NotYetLast, FrontsGrow, UnitsLaw, FrontsDecided, LastIsAll}
use Rattle.mode_adapt.specs.Blocks.{plp_blocks, own_blocks, told_count, told_counts}
use Rattle.frame_writer.specs.FramePackets.{l1_body, with_stamp, packets_from}
use Rattle.gateway_core.specs.Packets.{block_bodies, plp_bodies, frame_bodies, bodies_before, front_packets}
use Rattle.frame_writer.specs.Signalling.{pre_part, conf_part}
use Rattle.gateway_core.specs.Signalling.{dyn_part}
use Rattle.frame_writer.proofs.CarriedLemmas.{packets_append}
use Rattle.gateway_core.proofs.EpochLemmas.{begins_by}
use Rattle.gateway_core.proofs.HoldsLemmas.{bodies_more}

pub tick_more : (c : Config) (packets : ℕ → ℕ) (plp : ℕ) → last_tick c packets (plp + 1) ≡ max (last_tick c packets plp)
    (start c plp (packets plp) + delay c plp)
unfolding last_tick
tick_more c packets plp = rw (add-one plp) refl

pub tick_none : (c : Config) (packets : ℕ → ℕ) → last_tick c packets 0 ≡ 0
unfolding last_tick
tick_none c packets = refl

-- a product by a positive number is less only if the factor is
less : (a b n : ℕ) → a * n < b * n → a < b
less a b n lt = elim (cases_lt a b) [
  | inl is ↦ is
  | inr ge ↦ absurd (let p = mul-le-mul_right n ge in
      omega (arith, p, lt))
]

pub not_last : FrameCountLeast → EndsAfterStart → NotOverBy → SlotLength → EpochTicks → NotYetLast
not_last least ends over slot epoch c packets plp m plan lt le =
    let s = slot c plp plan.rules lt in
    let long = epoch c plp plan.rules lt in
    let count = least c packets plan.rules in
    let e : start c plp (packets plp) + delay c plp ≤ frame_count c packets * c.ticks = count.enough plp lt in
    let a = ends (num c) (den c plp) (packets plp) (omega (arith, s.0)) in
    let b = (over (num c) (den c plp) (packets plp) (m * c.ticks) (omega (arith, s.0, s.2))).0 le in
    let d : m * c.ticks < start c plp (packets plp) + 1 + div_ceil (num c) (den c plp) =
    less (m * c.ticks) _ (den c plp) (omega (arith, a, b)) in
    less (m + 3) (frame_count c packets) c.ticks (let f : (m + 3) * c.ticks ≡ m * c.ticks + 3 * c.ticks = omega arith in
    omega (arith, e, d, f, long.0))

bodies_split : (c : Config) (all : ℕ → List (List ℕ)) (n k : ℕ) → (rest : List (ℕ × Body))
    × (bodies_before c all (n + k) ≡ bodies_before c all n ++ rest)
bodies_split c all n zero = let z : n + 0 ≡ n = omega arith in ([], rw z (sym (append-nil (bodies_before c all n))))
bodies_split c all n (suc k) =
    let was = bodies_split c all n k in
    let z : n + suc k ≡ (n + k) + 1 = omega arith in
    let last = of_frame (n + k) (frame_bodies c (n + k) (told_counts c all (n + k)) (own_blocks c all (n + k))) in (
      was.0 ++ last,
      ap (bodies_before c all) z ∙ bodies_more c all (n + k) ∙ ap (λ (l : List (ℕ × Body)). l ++ last) was.1
          ∙ append_assoc (bodies_before c all n) was.0 last,
    )

pub fronts_grow : FrontsGrow
unfolding front_packets
fronts_grow c inputs n k =
    let split = bodies_split c inputs n k in (
      packets_from c (0 + length (bodies_before c inputs n)) split.0,
      ap (packets_from c 0) split.1
          ∙ packets_append c 0 (bodies_before c inputs n) split.0,
    )

-- the bodies of a frame of which all interleaving frames that it carries have the same blocks
abbrev bodies_of : Config → (ℕ → List (List ℕ)) → ℕ → List Body
bodies_of c all n = frame_bodies c n (told_counts c all n) (own_blocks c all n)

frame_same : (c : Config) (n : ℕ) (all other : ℕ → List (List ℕ))
    → ((j : ℕ) → j < length c.plps → plp_blocks c all (interleaving_frame c j n) j
    ≡ plp_blocks c other (interleaving_frame c j n) j) → bodies_of c all n ≡ bodies_of c other n
frame_same c n all other h =
    let f : ℕ → List (List Bool) = own_blocks c all n in
    let g : ℕ → List (List Bool) = own_blocks c other n in
    let counts : told_counts c all n ≡ told_counts c other n =
    map_same (told_count c all n) (told_count c other n) 0 (length c.plps) (λ j le lt. ap length (h j (omega arith))) in
    let blocks : plp_bodies c n f 0 ≡ plp_bodies c n g 0 =
    flat_same (λ plp. block_bodies (n % c.frames) (plp_at c.plps plp).id true (f plp))
    (λ plp. block_bodies (n % c.frames) (plp_at c.plps plp).id true (g plp)) 0 (length c.plps - 0)
    (λ j le lt. ap (λ (l : List (List Bool)). block_bodies (n % c.frames) (plp_at c.plps j).id true
    (cond {A = List (List Bool)} (is_first c j n) l [])) (h j (omega arith))) in
    ap (λ (l : List ℕ). frame_bodies c n l f) counts
    ∙ ap (λ (l : List Body). with_stamp c n (l1_body c n (pre_part c) (conf_part c)
    (dyn_part c n (told_counts c other n)) ∷ l))
    blocks

bodies_same : (c : Config) (all other : ℕ → List (List ℕ)) (n : ℕ)
    → ((m : ℕ) → m < n → bodies_of c all m ≡ bodies_of c other m) → bodies_before c all n ≡ bodies_before c other n
bodies_same c all other zero h = refl
bodies_same c all other (suc n) h =
    subst (λ (k : ℕ). bodies_before c all k ≡ bodies_before c other k) (add-one n)
    (bodies_more c all n ∙ ap (λ (l : List (ℕ × Body)). l ++ of_frame n (bodies_of c all n))
    (bodies_same c all other n (λ m lt. h m (omega arith)))
    ∙ ap (λ (l : List Body). bodies_before c other n ++ of_frame n l) (h n (omega arith)) ∙ sym (bodies_more c other n))

pub units_first : CompleteLaw → UnitsLaw
units_first law c inputs k n le =
    let gap : k + (n - k) ≡ n = omega arith in
    let more = fronts_grow c inputs k (n - k) in
    let stays = law c.pid (front_packets c inputs k) more.0 in
    (stays.rest, ap (λ (m : ℕ). pipe c.pid (front_packets c inputs m)) (sym gap) ∙ ap (pipe c.pid) more.1 ∙ stays.units)

pub fronts_decided : BlocksLaw → SlotLength → CountRises → FrontsDecided
unfolding front_packets
fronts_decided blocks slot rises c inputs other n plan h =
    ap (packets_from c 0)
    (bodies_same c inputs other n (λ m lt. frame_same c m inputs other (λ j configured.
    blocks c j (packet_at (inputs j)) (packet_at (other j)) (interleaving_frame c j m) plan configured (λ k inside.
    let s = slot c j plan.rules configured in
    let by = begins_by c j m in
    let up : m * c.ticks ≤ (n - 1) * c.ticks = (let d : m ≤ n - 1 = omega arith in mul-le-mul_right c.ticks d) in
    let le = rises (num c) (den c j) (interleaving_frame c j m * epoch_ticks c j) ((n - 1) * c.ticks)
    (omega (arith, s.0, s.2))
    (omega (arith, by, up)) in
    h j k configured (omega (arith, inside, le))))))

tick_same : (c : Config) (f g : ℕ → ℕ) (n : ℕ) → ((j : ℕ) → j < n → f j ≡ g j) → last_tick c f n ≡ last_tick c g n
tick_same c f g zero h = tick_none c f ∙ sym (tick_none c g)
tick_same c f g (suc n) h =
    subst (λ (k : ℕ). last_tick c f k ≡ last_tick c g k) (add-one n)
    (tick_more c f n ∙ ap (λ (m : ℕ). max m (start c n (f n) + delay c n))
    (tick_same c f g n (λ j lt. h j (omega arith)))
    ∙ ap (λ (k : ℕ). max (last_tick c g n) (start c n k + delay c n)) (h n (omega arith)) ∙ sym (tick_more c g n))

pub frame_count_same : (c : Config) (f g : ℕ → ℕ) → ((j : ℕ) → j < length c.plps → f j ≡ g j)
    → frame_count c f ≡ frame_count c g
unfolding frame_count
frame_count_same c f g h = ap (λ (tick : ℕ). div_ceil tick (c.frames * c.ticks) * c.frames)
    (tick_same c f g (length c.plps) h)

pub last_all : LastIsAll
last_all c events inputs last cont =
    let same : (j : ℕ) → j < length c.plps → length (offered j events) ≡ length (inputs j) =
    λ j lt. let h = cont j lt in
    sym (ap length (h.front ∙ ap (λ (l : List (List ℕ)). offered j events ++ l) (h.whole (last.ended j lt))
    ∙ append-nil (offered j events))) in
    ap (front_packets c inputs) (last.frames ∙ frame_count_same c _ _ same)
