-- What a feed and a swapper want next.
use Rattle.std.proofs.Common.{◌≡◌, ℕ, ◌*◌, ◌<◌, ◌≤◌, ◌==◌, min, Bool, true, false, cond, Option, None, refl, subst}
use Rattle.std.proofs.Common.{arith}
use Rattle.std.proofs.lemmas.Bool.{eqb-false}
use Rattle.frame_groups.specs.declared.waiting.Waiting.{Waiting}
use Rattle.ts_packet.specs.declared.sizes.TheConstants.{SIZE}
use Rattle.file_run.specs.Steps.{Needs, Suffices, FallsShort}
use Rattle.file_run.specs.declared.machine.Step.{Step}
use Rattle.file_run.specs.declared.machine.Step.TheVariants.{Read, Give, End}
use Rattle.feed_merge.specs.FeedStandsFor.{waiting_of, has_ended}
use Rattle.feed_merge.specs.Reading.{is_idle}
use Rattle.feed_merge.proofs.StepLemmas.{idle_is}
use Rattle.region_swap.specs.StandsFor.{wants_of}
use Rattle.swap_run.specs.Steps.{record_step, drain_step, step_in, step_of, most_packets}
use Rattle.swap_run.specs.SwapRun.{least_of}
use Rattle.swap_run.specs.declared.phase.Phase.{Phase}
use Rattle.swap_run.specs.declared.phase.Phase.TheVariants as phase
use Rattle.swap_run.specs.declared.machine.SwapMachine.{SwapMachine}

-- how a step reads: no record waits; packets are wanted; the rest is
pub record ReadsRecord (o : Option Waiting) (e : Bool) (input : ℕ) : Type 0 where
  pub none : o ≡ None
  pub going : e ≡ false
  pub at : 0 ≡ input

pub record ReadsPacket (wants input : ℕ) : Type 0 where
  pub some : 0 < wants
  pub at : 1 ≡ input

pub record ReadsRest (ended : Bool) (input : ℕ) : Type 0 where
  pub going : ended ≡ false
  pub at : 1 ≡ input

-- What a test says of the least that a step wants and of what there is; no step but a reading one asks.
abbrev Asked : (ℕ → ℕ → Type 0) → Step → ℕ → ℕ → Type 0
Asked Test (Read of least most) input count = (of ≡ input) × Test least count
Asked Test Give input count = ⊥
Asked Test End input count = ⊥

-- how it reads in a phase, and what the test says
abbrev pub Reads : (ℕ → ℕ → Type 0) → SwapMachine → ℕ → ℕ → Phase → Type 0
Reads Test m input count phase.Records = ReadsRecord (waiting_of m.feed) (has_ended m.feed) input × Test 1 count
Reads Test m input count phase.Packets = ReadsPacket (wants_of m.swapper) input × Test SIZE count
Reads Test m input count phase.Units = ⊥
Reads Test m input count phase.Drains = ReadsRest m.ended input × Test SIZE count
Reads Test m input count phase.Rests = ⊥
Reads Test m input count phase.Done = ⊥
Reads Test m input count (phase.Stopped why) = ⊥

module _ (Test : ℕ → ℕ → Type 0) (m : SwapMachine) (input count : ℕ) where
  reads_in : (p : Phase)
      → Asked Test (step_in p (is_idle (waiting_of m.feed) (has_ended m.feed)) (wants_of m.swapper) m.ended) input count
      → Reads Test m input count p
  reads_in phase.Records h = go (is_idle (waiting_of m.feed) (has_ended m.feed)) refl h
    where
      go : (b : Bool) → is_idle (waiting_of m.feed) (has_ended m.feed) ≡ b → Asked Test (record_step b) input count
          → Reads Test m input count phase.Records
      go true i h = let p = idle_is _ _ i in (record { none = p.0; going = p.1; at = h.0 }, h.1)
      go false i h = absurd h
  reads_in phase.Packets h = go (wants_of m.swapper == 0) refl h
    where
      go : (b : Bool) → (wants_of m.swapper == 0) ≡ b
          → Asked Test (cond b Give (Read 1 SIZE (SIZE * min (wants_of m.swapper) most_packets))) input count
          → Reads Test m input count phase.Packets
      go true i h = absurd h
      go false i h =
          let n = eqb-false (wants_of m.swapper) 0 i in
          (record { some = omega (arith, n); at = h.0 }, h.1)
  reads_in phase.Units h = absurd h
  reads_in phase.Drains h = go m.ended refl h
    where
      go : (b : Bool) → m.ended ≡ b → Asked Test (drain_step b) input count → Reads Test m input count phase.Drains
      go true i h = absurd h
      go false i h = (record { going = i; at = h.0 }, h.1)
  reads_in phase.Rests h = absurd h
  reads_in phase.Done h = absurd h
  reads_in (phase.Stopped why) h = absurd h

  reads_at : (p : Phase) → m.phase ≡ p → Asked Test (step_of m) input count → Reads Test m input count p
  reads_at p e h = subst (Reads Test m input count) e (reads_in m.phase h)

  -- the test says it of the least that is wanted of the input
  pub of_least : (p : Phase) → Reads Test m input count p → Test (least_of input) count
  of_least phase.Records w = subst (λ (n : ℕ). Test (least_of n) count) w.0.at w.1
  of_least phase.Packets w = subst (λ (n : ℕ). Test (least_of n) count) w.0.at w.1
  of_least phase.Units w = absurd w
  of_least phase.Drains w = subst (λ (n : ℕ). Test (least_of n) count) w.0.at w.1
  of_least phase.Rests w = absurd w
  of_least phase.Done w = absurd w
  of_least (phase.Stopped why) w = absurd w

  -- where no record and no packet is wanted, the rest is
  pub rest_else : (p : Phase) → Reads Test m input count p → (p ≡ phase.Records → ⊥) → (p ≡ phase.Packets → ⊥)
      → p ≡ phase.Drains
  rest_else phase.Records w r q = absurd (r refl)
  rest_else phase.Packets w r q = absurd (q refl)
  rest_else phase.Units w r q = absurd w
  rest_else phase.Drains w r q = refl
  rest_else phase.Rests w r q = absurd w
  rest_else phase.Done w r q = absurd w
  rest_else (phase.Stopped why) w r q = absurd w

-- so many are enough, too few, or no more than are wanted
pub enough : (m : SwapMachine) (input count : ℕ) → Suffices (step_of m) input count → (p : Phase) → m.phase ≡ p
    → Reads (λ least n. least ≤ n) m input count p
enough m input count h p e = reads_at (λ least n. least ≤ n) m input count p e (go (step_of m) h)
  where
    go : (s : Step) → Suffices s input count → Asked (λ least n. least ≤ n) s input count
    go (Read of least most) h = h
    go Give h = h
    go End h = h

pub short : (m : SwapMachine) (input count : ℕ) → FallsShort (step_of m) input count → (p : Phase) → m.phase ≡ p
    → Reads (λ least n. n < least) m input count p
short m input count h p e = reads_at (λ least n. n < least) m input count p e (go (step_of m) h)
  where
    go : (s : Step) → FallsShort s input count → Asked (λ least n. n < least) s input count
    go (Read of least most) h = h
    go Give h = h
    go End h = h

pub needs : (m : SwapMachine) (input count : ℕ) → Needs (step_of m) input count → (p : Phase) → m.phase ≡ p
    → Reads (λ least n. n ≤ least) m input count p
needs m input count h p e = reads_at (λ least n. n ≤ least) m input count p e (go (step_of m) h)
  where
    go : (s : Step) → Needs s input count → Asked (λ least n. n ≤ least) s input count
    go (Read of least most) h = h
    go Give h = h
    go End h = h

pub enough_else : (m : SwapMachine) (input count : ℕ) → Suffices (step_of m) input count → (m.phase ≡ phase.Records → ⊥)
    → (m.phase ≡ phase.Packets → ⊥) → m.phase ≡ phase.Drains
enough_else m input count h = rest_else (λ least n. least ≤ n) m input count m.phase (enough m input count h _ refl)

pub short_else : (m : SwapMachine) (input count : ℕ) → FallsShort (step_of m) input count
    → (m.phase ≡ phase.Records → ⊥) → (m.phase ≡ phase.Packets → ⊥) → m.phase ≡ phase.Drains
short_else m input count h = rest_else (λ least n. n < least) m input count m.phase (short m input count h _ refl)

-- It gives where no frame is looked for or under way only behind the end.
pub rests_at : (m : SwapMachine) → step_of m ≡ Give → (m.phase ≡ phase.Records → ⊥) → (m.phase ≡ phase.Packets → ⊥)
    → (m.phase ≡ phase.Drains → ⊥) → (m.phase ≡ phase.Units → ⊥) → m.phase ≡ phase.Rests
rests_at m h a b d u = go m.phase refl h
  where
    go : (p : Phase) → m.phase ≡ p → step_in p (is_idle (waiting_of m.feed) (has_ended m.feed)) (wants_of m.swapper)
        m.ended ≡ Give
        → m.phase ≡ phase.Rests
    go phase.Records is h = absurd (a is)
    go phase.Packets is h = absurd (b is)
    go phase.Units is h = absurd (u is)
    go phase.Drains is h = absurd (d is)
    go phase.Rests is h = is
    go phase.Done is h = absurd (let z : End ≡ Give = h in cc)
    go (phase.Stopped why) is h = absurd (let z : End ≡ Give = h in cc)

pub packets_apart : phase.Packets ≡ phase.Records → ⊥
packets_apart e = absurd (let z : phase.Packets ≡ phase.Records = e in cc)

-- another input is read where records are not
pub enough_one : (m : SwapMachine) (input count : ℕ) → Suffices (step_of m) input count → (m.phase ≡ phase.Records → ⊥)
    → 1 ≡ input
enough_one m input count h off = go m.phase refl
  where
    go : (p : Phase) → m.phase ≡ p → 1 ≡ input
    go phase.Records is = absurd (off is)
    go phase.Packets is = (enough m input count h phase.Packets is).0.at
    go phase.Units is = absurd (enough m input count h phase.Units is)
    go phase.Drains is = (enough m input count h phase.Drains is).0.at
    go phase.Rests is = absurd (enough m input count h phase.Rests is)
    go phase.Done is = absurd (enough m input count h phase.Done is)
    go (phase.Stopped why) is = absurd (enough m input count h (phase.Stopped why) is)
