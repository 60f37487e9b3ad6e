-- What a feed and a swapper want can be read.
use Rattle.std.proofs.Common.{◌≡◌, ℕ, ◌+◌, ◌-◌, ◌*◌, ◌^◌, ◌<◌, ◌≤◌, ◌==◌, min, Bool, true, false, cond, List, [], ◌++◌}
use Rattle.std.proofs.Common.{length, refl, ap, sym, subst, ◌∙◌, arith, length-append}
use Rattle.std.proofs.lemmas.Bool.{eqb-false}
use Rattle.std.proofs.Math.Nat.{min-le_left, le-min}
use Rattle.plp_config.specs.Laws.{CountRises, SlotLength, NoneAtZero}
use Rattle.plp_config.specs.SlotTime.{slots_by, num, den}
use Rattle.plp_config.specs.declared.config.Config.{Config}
use Rattle.ts_packet.specs.TsFile.{joined}
use Rattle.ts_packet.specs.declared.sizes.TheConstants.{SIZE}
use Rattle.t2mi_stream.specs.Complete.{complete_units, complete_in}
use Rattle.stream_laws.specs.Remade.{remade_packets}
use Rattle.file_run.specs.Reading.{longest_file}
use Rattle.file_run.specs.Events.{Event, fed}
use Rattle.file_run.specs.Steps.{IsWanted, Suffices}
use Rattle.file_run.specs.declared.machine.Step.TheVariants.{Read, Give}
use Rattle.feed_merge.specs.FeedStandsFor.{waiting_of, fed_of}
use Rattle.feed_merge.specs.FeedStandsFor as feed
use Rattle.feed_merge.specs.Picks.{above_all}
use Rattle.gateway_core.specs.InputSoFar.{Told}
use Rattle.ts_packet.proofs.FileLemmas.{joined_length}
use Rattle.feed_merge.specs.Reading.{is_idle}
use Rattle.feed_merge.proofs.StepLemmas.{idle_is}
use Rattle.region_swap.specs.StandsFor.{wants_of}
use Rattle.region_swap.specs.Swapped.{swapped}
use Rattle.swap_run.specs.Shown as shown
use Rattle.swap_run.specs.Shown.{ReadsPackets, Sends, Shown}
use Rattle.t2mi_stream.specs.Pipe.{pipe}
use Rattle.region_swap.specs.StandsFor.{SwapperStandsFor, none_told}
use Rattle.region_swap.specs.declared.swapper.Swapper.{Swapper}
use Rattle.swap_run.specs.Steps.{step_in, step_of, reach_of, record_step, drain_step, drained, most_packets}
use Rattle.swap_run.specs.SwapRun.{slots_of}
use Rattle.swap_run.specs.declared.phase.Phase.{Phase}
use Rattle.swap_run.specs.declared.phase.Phase.TheVariants as phase
use Rattle.swap_run.specs.declared.machine.SwapMachine.{SwapMachine}
use Rattle.swap_run.proofs.GoLemmas.{slots_rise}
use Rattle.swap_run.proofs.NextLemmas.{slots_in, slots_is}
use Rattle.swap_run.proofs.ShownLemmas.{feed_end, feed_count, in_packets, in_drains, has_wanted, wants_is}
use Rattle.swap_run.proofs.StepLemmas.{enough, enough_one}

pub taken_length : (bytes : List ℕ) (ended : Bool) (t : Told) (rest : List (List ℕ)) (tail : List ℕ)
    (taken : ℕ) (over : Bool)
    → ReadsPackets bytes ended t rest tail taken over → length bytes ≡ SIZE * taken + length tail
taken_length bytes ended t rest tail taken over r =
    let a = ap length r.parts in
    let b = length-append (joined (t.packets ++ rest)) tail in
    let d = joined_length (t.packets ++ rest) r.each in
    let n = r.count in
    omega (arith, a, b, d, n)

wants_open : (b : Bool) (x : ℕ) → b ≡ false → cond b 0 x ≡ x
wants_open true x e = absurd (let z : true ≡ false = e in cc)
wants_open false x e = refl

module _ (rises : CountRises) (slot : SlotLength) (c : Config) (plp : ℕ) (events : List Event) (m : SwapMachine)
    (s : Shown c plp events m) where
  records : (b : Bool) → is_idle (waiting_of m.feed) (feed.has_ended m.feed) ≡ b
      → IsWanted 2 events (reach_of m) (record_step b)
  records true on = record {
    place = omega arith;
    is_open = sym (feed_end c plp events m s) ∙ (idle_is (waiting_of m.feed) (feed.has_ended m.feed) on).1;
    some = omega arith;
    few = omega arith;
    order = omega arith;
    near = (let e = feed_count c plp events m s in omega (arith, e));
  }
  records false off = tt

  packets : m.phase ≡ phase.Packets → (b : Bool) → (wants_of m.swapper == 0) ≡ b
      → IsWanted 2 events (reach_of m) (cond b Give (Read 1 SIZE (SIZE * min (wants_of m.swapper) most_packets)))
  packets e true off = tt
  packets e false on =
      let i = in_packets c plp events m s e in
      let k : ℕ = min (wants_of m.swapper) most_packets in
      let differ = eqb-false (wants_of m.swapper) 0 on in
      let some : 0 < wants_of m.swapper = omega (arith, differ) in
      let w = has_wanted c plp events m s some in
      let least : 1 ≤ k = le-min (omega (arith, some)) (omega arith) in
      let most : k ≤ wants_of m.swapper = min-le_left (wants_of m.swapper) most_packets in
      let wants : wants_of m.swapper ≡ slots_by c plp (m.number * c.ticks) - length s.read.told.packets =
      wants_is c plp events m s ∙ wants_open s.read.told.ended _ w.off
      ∙ ap (λ (n : ℕ). slots_by c plp (n * c.ticks) - length s.read.told.packets) s.frame in
      let less = w.less in
      let bytes = taken_length _ _ s.read.told s.read.rest s.read.tail m.taken m.ended s.of_input in
      let count = s.of_input.count in
      let longer = length-append s.read.told.packets s.read.rest in
      let rest = ap length i.quiet.rest_is in
      let tail = ap length i.quiet.tail_is in
      let slots = slots_in m phase.Packets e ∙ slots_is c plp events m s m.number in
      record {
        place = omega arith;
        is_open = s.of_input.end i.quiet.tail_is ∙ i.quiet.ends ∙ w.off;
        some = omega arith;
        few = omega arith;
        order = omega (arith, least);
        near = omega (arith, most, wants, less, bytes, count, longer, rest, tail, slots);
      }

  rest_of : m.phase ≡ phase.Drains → (b : Bool) → m.ended ≡ b → IsWanted 2 events (reach_of m) (drain_step b)
  rest_of e true on = tt
  rest_of e false off =
      let i = in_drains c plp events m s e in
      let bytes = taken_length _ _ s.read.told s.read.rest s.read.tail m.taken m.ended s.of_input in
      let count = s.of_input.count in
      let longer = length-append s.read.told.packets s.read.rest in
      let unsent = s.counted.unsent_is in
      let tail = ap length i.whole in
      let few = i.behind.few in
      let next = i.behind.next in
      let up = slots_rise rises slot c plp (above_all s.read.given - 1) m.number s.base.rules s.base.place
      (omega (arith, next)) in
      let slots = slots_in m phase.Drains e ∙ slots_is c plp events m s m.number in
      let drains = ap (λ (b : Bool). drained b m.ran.unsent) i.drains in
      record {
        place = omega arith;
        is_open = s.of_input.end i.whole ∙ off;
        some = omega arith;
        few = omega arith;
        order = omega arith;
        near = omega (arith, bytes, count, longer, unsent, tail, few, up, slots, drains);
      }

  pub wanted_by : IsWanted 2 events (reach_of m) (step_of m)
  wanted_by = by m.phase refl
    where
      by : (p : Phase) → m.phase ≡ p
          → IsWanted 2 events (reach_of m) (step_in p (is_idle (waiting_of m.feed) (feed.has_ended m.feed))
          (wants_of m.swapper) m.ended)
      by phase.Records e = records (is_idle (waiting_of m.feed) (feed.has_ended m.feed)) refl
      by phase.Packets e = packets e (wants_of m.swapper == 0) refl
      by phase.Units e = tt
      by phase.Drains e = rest_of e m.ended refl
      by phase.Rests e = tt
      by phase.Done e = tt
      by (phase.Stopped why) e = tt

-- so many bytes have room
pub room_of : (c : Config) (plp : ℕ) (events : List Event) (m : SwapMachine) (input count : ℕ) → Shown c plp events m
    → Suffices (step_of m) input count
    → length (fed input events) + count ≤ longest_file → m.phase ≡ phase.Records → fed_of m.feed + count < 2 ^ 60
room_of c plp events m input count s wanted few e =
    let w = (enough m input count wanted phase.Records e).0 in
    let l = subst (λ (k : ℕ). length (fed k events) + count ≤ longest_file) (sym w.at) few in
    let n = feed_count c plp events m s in
    omega (arith, l, n)

pub few_of : (c : Config) (plp : ℕ) (events : List Event) (m : SwapMachine) (input count : ℕ) → Shown c plp events m
    → Suffices (step_of m) input count
    → length (fed input events) + count ≤ longest_file → (m.phase ≡ phase.Records → ⊥) → m.taken < 2 ^ 60
few_of c plp events m input count s wanted few off =
    let at = enough_one m input count wanted off in
    let l = subst (λ (k : ℕ). length (fed k events) + count ≤ longest_file) (sym at) few in
    let bytes = taken_length _ _ s.read.told s.read.rest s.read.tail m.taken m.ended s.of_input in
    omega (arith, l, bytes)

-- ---- at the opening

pub none_complete : (c : Config) (plp : ℕ) (input : List (List ℕ))
    → 0 ≡ length (complete_units c.pid (remade_packets c (swapped c plp input [])))
unfolding remade_packets complete_in
none_complete c plp input = refl

pub none_over : NoneAtZero → SlotLength → (c : Config) (plp : ℕ) → (0 < num c) → slots_of c plp [] ≤ 0
none_over none slot c plp lt =
    let z = none (num c) (den c plp) lt in
    let at : (above_all [] - 1) * c.ticks ≡ 0 = omega arith in
    let e = ap (λ (n : ℕ). slots_by c plp n) at in
    omega (arith, z, e)

abbrev pub none_read : shown.Read
none_read = record { given = []; told = none_told; rest = []; tail = [] }

pub sends_opened : (c : Config) (plp : ℕ) (q : Swapper) → SwapperStandsFor q c plp none_told [] [] 0
    → Sends c plp q none_told [] [] 0 []
sends_opened c plp q stands = record {
  stands = stands;
  units = [];
  gave_is = refl;
  count_is = refl;
  front = λ input cont more over. (pipe c.pid (remade_packets c (swapped c plp input []) ++ more), refl);
  whole = λ _ input cont. omega arith;
}
