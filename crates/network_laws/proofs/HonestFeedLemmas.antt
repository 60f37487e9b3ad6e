-- What is made of packets of one run is its frames, and each of which every packet came is made; of streams that
-- together lost nothing it is the run's stream.
use Rattle.std.proofs.Common.{◌≡◌, ◌⊎◌, inl, inr, ℕ, zero, suc, ◌+◌, ◌-◌, ◌<◌, ◌≤◌, ◌==◌, Bool, true, false, cond, List}
use Rattle.std.proofs.Common.{[], ◌∷◌, length, Some, refl, ap, ap₂, sym, ◌∙◌, ⊎_elim, arith, ◌++◌, Option, None, subst}
use Rattle.std.proofs.Common.{map}
use Rattle.std.specs.List.{filter, range_with_len, AllByRecursion}
use Rattle.std.proofs.lemmas.Bool.{cases_lt, eq-eqb, false_from_ne_true, cond_both, eqb-true, eqb-false}
use Rattle.std.proofs.lemmas.Bool.{cases_eq, ltb-true, lt-ltb, true≢false}
use Rattle.plp_config.specs.declared.config.Config.{Config}
use Rattle.feed_events.specs.FeedEvents.{FeedEvent, feed_events, is_stamp}
use Rattle.feed_events.specs.FeedEvents.FeedEvent.{Has, Silent}
use Rattle.mended_frames.specs.Picks.{Coming, number_next, least_next, group_next, behind, groups_next, all_behind}
use Rattle.mended_frames.specs.Picks.{picked_of, picked_from, events_in}
use Rattle.network_laws.specs.FeedsOfRun.{run_packets, HasCome, BringsPacket, HasNumber, count_between, GoesOn}
use Rattle.network_laws.specs.FeedsOfRun.{CameNear, IsNearOfRun, IsRunFrame, MadeAreOfRun, WholeStreamMended}
use Rattle.network_laws.specs.FeedsOfRun.{DamagedRunsMended, WholeAmongDamaged, AllCame, HaveCome, GoOn, HasRunFrame}
use Rattle.network_laws.specs.FeedsOfRun.{CameAreMade, IsDamagedRun, CameOfDamagedMade, run_frame, SurvivorAlone}
use Rattle.network_laws.specs.FeedsOfRun.{NoneLostMended, SurvivorsMended}
use Rattle.network_laws.proofs.WholeFeedLemmas.{least_most, PastOfRun, BegunMade, passes_behind, step_is, sent_as_run}
use Rattle.network_laws.proofs.WholeFeedLemmas.{run_spaced}
use Rattle.network_laws.proofs.WovenRunLemmas.{Brings, l1_place, l1_is_plain, woven_has, woven_some}
use Rattle.network_laws.proofs.FeedEventLemmas.{least_is, OneOf, one_behind, one_among, behind_all, all_groups}
use Rattle.network_laws.proofs.FeedEventLemmas.{all_made, found}
use Rattle.std.specs.Prelude.{nat_lt, find, option_map, option_to_list, slice_get}
use Rattle.std.specs.Option.{option_or}
use Rattle.std.proofs.lemmas.Option.{same_Some}
use Rattle.terms.proofs.OptionLemmas.{none_some, none_if_not}
use Rattle.plp_config.specs.Capacity.{IsPlan}
use Rattle.t2mi_packet.specs.declared.packet.Packet.{Packet}
use Rattle.frame_groups.specs.Groups.{Group}
use Rattle.frame_groups.specs.Modulated.{Numbered}
use Rattle.frame_groups.specs.Tests.{group_fault, packets_fault, rules}
use Rattle.plp_config.specs.Rules.Rule.{SuperframeLength}
use Rattle.mended_frames.specs.Feeds.{all_of, made_of_all}
use Rattle.stream_laws.specs.SentFrames.{run_length}
use Rattle.stream_laws.specs.Types.{TypesFit}
use Rattle.stream_laws.proofs.CarriedLemmas.{HasFrame}
use Rattle.frame_weave.specs.Woven.{woven}
use Rattle.mended_frames.specs.Mended.{Made, passes, made_as, made_of, past_with, low_of, taking, mended, frames_of}
use Rattle.network_laws.proofs.DamagedFeedLemmas.{damaged_events, of_run, damaged_of, stream_goes, stream_brings}
use Rattle.mended_frames.proofs.PickLemmas.{passes_least}
use Rattle.plp_config.specs.InterleavingFrames.{begin_of}
use Rattle.frame_groups.specs.Begun.{packets_at}
use Rattle.frame_groups.proofs.BegunLemmas.{at_own, at_other}
use Rattle.stream_laws.proofs.BegunLemmas.{begun_before}
use Rattle.network_laws.proofs.HonestGroupLemmas.{RunLaws, run_has, view_is, whole_has}
use Rattle.plp_config.specs.declared.moment.TheConstants.{MOST_FRAMES}
use Rattle.plp_config.specs.Laws.{BeginAlone}
use Rattle.t2mi_stream.specs.Pipe.{pipe}
use Rattle.ts_packet.specs.TsFile.{joined}
use Rattle.frame_writer.specs.FramePackets.{packets_from}
use Rattle.gateway_core.specs.Packets.{front_packets}
use Rattle.spaced_frames.specs.Laws.{Rise, RiseFrom}
use Rattle.spaced_frames.specs.Spaced.{SentFrame, spaced, spaced_behind}
use Rattle.mended_frames.specs.Laws.{MadeRise}
use Rattle.mended_frames.proofs.MendLemmas.{RiseOn}

-- ---- frames between two numbers

some_between : (frames : ℕ → Bool) (k low : ℕ) → 0 < length (filter frames (range_with_len low k))
    → (m : ℕ) × (frames m ≡ true) × (low ≤ m) × (m < low + k)
some_between frames zero low l = absurd (omega arith)
some_between frames (suc k) low l = go (frames low) refl l (some_between frames k (low + 1))
  where
    rest : List ℕ
    rest = filter frames (range_with_len (low + 1) k)

    go : (t : Bool) → frames low ≡ t → 0 < length (cond t (low ∷ rest) rest)
        → (0 < length rest → (m : ℕ) × (frames m ≡ true) × (low + 1 ≤ m) × (m < low + 1 + k))
        → (m : ℕ) × (frames m ≡ true) × (low ≤ m) × (m < low + suc k)
    go true e l more = (low, e, omega arith, omega arith)
    go false e l more =
        let r = more l in (r.0, r.1, omega arith, omega arith)

-- None of some frames is from one number to before another.
abbrev pub NoneIn : (ℕ → Bool) → ℕ → ℕ → Type 0
NoneIn frames low high = (m : ℕ) → frames m ≡ true → low ≤ m → m < high → ⊥

-- so there is one less at most behind that
one_less : (frames : ℕ → Bool) (n d low k : ℕ) → n ≡ d + 1 + k → NoneIn frames low (low + d)
    → length (filter frames (range_with_len low n)) ≤ 1 + length (filter frames (range_with_len (low + d + 1) k))
one_less frames zero d low k e none = absurd (omega arith)
one_less frames (suc n) zero low k e none =
    let rest : List ℕ = filter frames (range_with_len (low + 1) n) in
    let same : length rest ≡ length (filter frames (range_with_len (low + zero + 1) k)) =
    ap₂ (λ (a b : ℕ). length (filter frames (range_with_len a b))) (omega arith) (omega arith) in
    let most : length (cond (frames low) (low ∷ rest) rest) ≤ 1 + length rest = go (frames low) rest in
    omega arith
  where
    go : (t : Bool) (rest : List ℕ) → length (cond t (low ∷ rest) rest) ≤ 1 + length rest
    go true rest = omega arith
    go false rest = omega arith
one_less frames (suc n) (suc d) low k e none =
    let rest : List ℕ = filter frames (range_with_len (low + 1) n) in
    let more = one_less frames n d (low + 1) k (omega arith)
    (λ m t a b. none m t (omega arith) (omega arith)) in
    let same : length (filter frames (range_with_len (low + 1 + d + 1) k))
    ≡ length (filter frames (range_with_len (low + suc d + 1) k)) =
    ap (λ (a : ℕ). length (filter frames (range_with_len a k))) (omega arith) in
    let own : length (cond (frames low) (low ∷ rest) rest) ≡ length rest =
    rw (false_from_ne_true (frames low) (λ t. none low t (omega arith) (omega arith))) in
    omega arith

-- one that is between two numbers
between_some : (frames : ℕ → Bool) (low high : ℕ) → 0 < count_between frames low high
    → (m : ℕ) × (frames m ≡ true) × (low ≤ m) × (m < high)
between_some frames low high l =
    let r = some_between frames (high - low) low l in
    let a = r.2 in
    (r.0, r.1, a, omega arith)

-- behind the first of them there is one less
between_less : (frames : ℕ → Bool) (low n high : ℕ) → low ≤ n → n < high → NoneIn frames low n
    → count_between frames low high ≤ 1 + count_between frames (n + 1) high
between_less frames low n high l h none =
    let less = one_less frames (high - low) (n - low) low (high - (n + 1)) (omega arith)
    (λ m t a b. none m t a (omega arith)) in
    let same : length (filter frames (range_with_len (low + (n - low) + 1) (high - (n + 1))))
    ≡ count_between frames (n + 1) high =
    ap (λ (a : ℕ). length (filter frames (range_with_len a (high - (n + 1))))) (omega arith) in
    omega arith

-- ---- the numbers that are next

module _ (frames : ℕ → Bool) where
  pub least_low : (low k n : ℕ) (feeds : ℕ → Coming) → ((i : ℕ) → i < k → GoesOn frames low 0 (feeds i).events)
      → least_next k feeds ≡ Some n → low ≤ n
  least_low low k n feeds on e =
      least_is (GoesOn frames low 0) (λ i. low ≤ i) (λ x events on. on.0) k n feeds on e

  -- none has a number that is too low
  none_late : (n low silences : ℕ) (events : List FeedEvent) → GoesOn frames low silences events → n < low
      → HasNumber n events → ⊥
  none_late n low silences [] on l h = h
  none_late n low silences (Has x ∷ events) on l h =
      ⊎_elim
      (λ (e : x.number ≡ n). omega arith)
      (λ (more : HasNumber n events). none_late n (x.number + 1) 0 events on.2 (omega arith) more) h
  none_late n low silences (Silent ∷ events) on l h = none_late n low (silences + 1) events on l h

  -- before a number that is behind a silence there is a less one
  silent_less : (n low silences : ℕ) (events : List FeedEvent) → GoesOn frames low silences events → 0 < silences
      → HasNumber n events → (m : ℕ) × (frames m ≡ true) × (low ≤ m) × (m < n)
  silent_less n low silences [] on some h = absurd h
  silent_less n low silences (Has x ∷ events) on some h =
      let r = between_some frames low x.number (omega arith) in
      let least : x.number ≤ n =
      ⊎_elim
      (λ (e : x.number ≡ n). omega arith)
      (λ (more : HasNumber n events). ⊎_elim
      (λ (l : n < x.number + 1). absurd (none_late n (x.number + 1) 0 events on.2 l more))
      (λ (l : x.number + 1 ≤ n). omega arith) (cases_lt n (x.number + 1))) h in
      (r.0, r.1, r.2, omega arith)
  silent_less n low silences (Silent ∷ events) on some h = silent_less n low (silences + 1) events on (omega arith) h

  -- a number that is to come is next, or one before it is, or there is a less one
  abbrev IsClose : ℕ → ℕ → List FeedEvent → Type 0
  IsClose n low events = ((m : ℕ) × (number_next events ≡ Some m) × (m ≤ n))
      ⊎ ((m : ℕ) × (frames m ≡ true) × (low ≤ m) × (m < n))

  near_next : (n low : ℕ) (events : List FeedEvent) → GoesOn frames low 0 events → HasNumber n events
      → IsClose n low events
  near_next n low [] on h = absurd h
  near_next n low (Has x ∷ events) on h = inl (
    x.number,
    refl,
    ⊎_elim
        (λ (e : x.number ≡ n). omega arith)
        (λ (more : HasNumber n events). ⊎_elim
        (λ (l : n < x.number + 1). absurd (none_late n (x.number + 1) 0 events on.2 l more))
        (λ (l : x.number + 1 ≤ n). omega arith) (cases_lt n (x.number + 1))) h,
  )
  near_next n low (Silent ∷ events) on h = inr (silent_less n low 1 events on (omega arith) h)

  -- so one is next that is no more than it
  pub next_most : (d n low k : ℕ) (feeds : ℕ → Coming) → ((i : ℕ) → i < k → GoesOn frames low 0 (feeds i).events)
      → ((m : ℕ) → frames m ≡ true → low ≤ m → (i : ℕ) × (i < k) × HasNumber m (feeds i).events) → n < d
      → (i : ℕ) → i < k → HasNumber n (feeds i).events → (m : ℕ) × (least_next k feeds ≡ Some m) × (m ≤ n)
  next_most zero n low k feeds on there l i within h = absurd (omega arith)
  next_most (suc d) n low k feeds on there l i within h = ⊎_elim
      (λ (next : (m : ℕ) × (number_next (feeds i).events ≡ Some m) × (m ≤ n)).
      let least = least_most k feeds i next.0 within next.1 in
      (least.0, least.1, omega arith))
      (λ (less : (m : ℕ) × (frames m ≡ true) × (low ≤ m) × (m < n)).
      let has = there less.0 less.1 less.2 in
      let next = next_most d less.0 low k feeds on there (omega arith) has.0 has.1 has.2 in
      (next.0, next.1, omega arith)) (near_next n low (feeds i).events (on i within) h)

  -- ---- behind the least

  goes_less : (n low silences : ℕ) (events : List FeedEvent) → GoesOn frames low (silences + 1) events → low ≤ n
      → NoneIn frames low n → GoesOn frames (n + 1) silences events
  goes_less n low silences [] on l none = tt
  goes_less n low silences (Has x ∷ events) on l none =
      let r = between_some frames low x.number (omega arith) in
      let late : n ≤ r.0 =
      ⊎_elim
      (λ (early : r.0 < n). absurd (none r.0 r.1 r.2 early))
      (λ (late : n ≤ r.0). late) (cases_lt r.0 n) in
      let less = between_less frames low n x.number l (omega arith) none in
      (omega arith, omega arith, on.2)
  goes_less n low silences (Silent ∷ events) on l none = goes_less n low (silences + 1) events on l none

  pub goes_behind : (n low : ℕ) (events : List FeedEvent) → GoesOn frames low 0 events → low ≤ n → NoneIn frames low n
      → ((m : ℕ) → number_next events ≡ Some m → n ≤ m) → GoesOn frames (n + 1) 0 (behind (Some n) true events)
  goes_behind n low [] on l none least = tt
  goes_behind n low (Has x ∷ events) on l none least =
      cond_both {A = List FeedEvent} (n == x.number) _ _ (GoesOn frames (n + 1) 0)
      (λ t. rw (eqb-true n x.number t) on.2)
      (λ t. (omega (arith, least x.number refl, eqb-false n x.number t), omega arith, on.2))
  goes_behind n low (Silent ∷ events) on l none least = goes_less n low 0 events on l none

-- what has another number is still there
pub number_behind : (n m : ℕ) (events : List FeedEvent) → (n ≡ m → ⊥) → HasNumber m events
    → HasNumber m (behind (Some n) true events)
number_behind n m [] ne h = h
number_behind n m (Has x ∷ events) ne h =
    cond_both {A = List FeedEvent} (n == x.number) _ _ (HasNumber m)
    (λ t. ⊎_elim (λ (own : x.number ≡ m). absurd (ne (eqb-true n x.number t ∙ own)))
    (λ (more : HasNumber m events). more) h) (λ t. h)
number_behind n m (Silent ∷ events) ne h = h

module _ (c : Config) (inputs : ℕ → List (List ℕ)) where
  pub brings_number : (n place : ℕ) (events : List FeedEvent) → BringsPacket c inputs n place events
      → HasNumber n events
  brings_number n place [] h = h
  brings_number n place (Has x ∷ events) h = ⊎_elim
      (λ (own : (x.number ≡ n) × HasCome (run_packets c inputs n) x.group.packets place). inl own.0)
      (λ (more : BringsPacket c inputs n place events). inr (brings_number n place events more)) h
  brings_number n place (Silent ∷ events) h = brings_number n place events h

  -- what comes of the least number is next
  pub brings_next : (frames : ℕ → Bool) (n low place : ℕ) (events : List FeedEvent) → GoesOn frames low 0 events
      → NoneIn frames low n → ((m : ℕ) → number_next events ≡ Some m → n ≤ m) → BringsPacket c inputs n place events
      → Brings (run_packets c inputs n) place (group_next n events)
  brings_next frames n low place [] on none least h = absurd h
  brings_next frames n low place (Has x ∷ events) on none least h = ⊎_elim
      (λ (own : (x.number ≡ n) × HasCome (run_packets c inputs n) x.group.packets place).
      rw (eq-eqb n x.number (sym own.0)) (inl own.1))
      (λ (more : BringsPacket c inputs n place events).
      absurd (none_late frames n (x.number + 1) 0 events on.2 (omega (arith, least x.number refl))
      (brings_number n place events more)))
      h
  brings_next frames n low place (Silent ∷ events) on none least h =
      let less = silent_less frames n low 1 events on (omega arith) (brings_number n place events h) in
      absurd (none less.0 less.1 less.2 less.3)

  -- what comes of another number still comes
  pub brings_behind : (n m place : ℕ) (events : List FeedEvent) → (n ≡ m → ⊥) → BringsPacket c inputs m place events
      → BringsPacket c inputs m place (behind (Some n) true events)
  brings_behind n m place [] ne h = h
  brings_behind n m place (Has x ∷ events) ne h =
      cond_both {A = List FeedEvent} (n == x.number) _ _ (BringsPacket c inputs m place)
      (λ t. ⊎_elim
      (λ (own : (x.number ≡ m) × HasCome (run_packets c inputs m) x.group.packets place).
      absurd (ne (eqb-true n x.number t ∙ own.0)))
      (λ (more : BringsPacket c inputs m place events). more) h) (λ t. h)
  brings_behind n m place (Silent ∷ events) ne h = h

-- ---- what is made is of the run

-- A frame of this number is one of those that were made.
abbrev IsThere : ℕ → List Made → Type 0
IsThere n made = OneOf (λ (x : Made). x.number ≡ n) made

module _ (laws : RunLaws) (c : Config) (inputs : ℕ → List (List ℕ)) (plan : IsPlan c) (types : TypesFit c) where
  abbrev AllNear : List FeedEvent → Type 0
  AllNear events = AllByRecursion (IsNearOfRun c inputs) events

  abbrev NearFeeds : ℕ → (ℕ → Coming) → Type 0
  NearFeeds k feeds = (i : ℕ) → i < k → AllNear (feeds i).events

  abbrev NearGroup : ℕ → Group → Type 0
  NearGroup n g = CameNear (run_packets c inputs n) g.packets

  groups_near : (n k : ℕ) (feeds : ℕ → Coming) → NearFeeds k feeds → AllByRecursion (NearGroup n)
      (groups_next n k feeds)
  groups_near n k feeds near =
      all_groups AllNear (NearGroup n) n (λ x events h e. rw e h.0.1) k feeds near

  least_inside : (k n : ℕ) (feeds : ℕ → Coming) → NearFeeds k feeds → least_next k feeds ≡ Some n
      → n < run_length c inputs
  least_inside k n feeds near e =
      least_is AllNear (λ i. i < run_length c inputs) (λ x events h. h.0.0) k n feeds near e

  -- ---- one frame

  -- the first that passes is one that does
  found_own : (n : ℕ) (past : List Numbered) (gs : List Group) (g : Group) → n < run_length c inputs
      → AllByRecursion (NearGroup n) gs → find (passes c past n) gs ≡ Some g
      → HasFrame c inputs n g.packets × (packets_fault c past n g.packets ≡ None)
  found_own n past gs g l near e =
      let a = found (NearGroup n) (passes c past n) gs g near e in
      let pass = none_if_not (group_fault c past g n) a.1 in
      (whole_has laws c inputs plan types n g.packets l (record { flags = a.0.flags; are = a.0.are }) past pass, pass)

  found_woven : (n : ℕ) (past : List Numbered) (o : Option Group) (g : Group)
      → find (passes c past n) (option_to_list o) ≡ Some g → (o ≡ Some g) × (packets_fault c past n g.packets ≡ None)
  found_woven n past None g e = none_some g e
  found_woven n past (Some h) g e =
      let a = found (λ x. Some h ≡ Some x) (passes c past n) (h ∷ []) g (refl, tt) e in
      (a.0, none_if_not (group_fault c past g n) a.1)

  is_run : (n : ℕ) (past : List Numbered) (g : Group) (woven : Bool) → n < run_length c inputs
      → HasFrame c inputs n g.packets
      → packets_fault c past n g.packets ≡ None → IsRunFrame c inputs (made_as n woven g)
  is_run n past g woven l has pass = record {
    inside = l;
    sent = sent_as_run laws c inputs plan types n (made_as n woven g) past refl has pass;
    recorded = view_is laws c inputs plan types n g.packets has;
  }

  -- What is made of groups of a number has what the run's frame has, and passes.
  abbrev pub MadeHas : ℕ → List Numbered → Option Made → Type 0
  MadeHas n past None = Unit {0}
  MadeHas n past (Some x) = (x.number ≡ n) × HasFrame c inputs n x.group.packets
      × (packets_fault c past n x.group.packets ≡ None)

  pub made_has : (n : ℕ) (past : List Numbered) (gs : List Group) → n < run_length c inputs
      → AllByRecursion (NearGroup n) gs → MadeHas n past (made_of c past (record { number = n; groups = gs }))
  made_has n past gs l near = go (find (passes c past n) gs) refl
      (find (passes c past n) (option_to_list (woven c n gs))) refl
    where
      go : (a : Option Group) → find (passes c past n) gs ≡ a → (b : Option Group)
          → find (passes c past n) (option_to_list (woven c n gs)) ≡ b
          → MadeHas n past (option_or (option_map (made_as n false) a) (option_map (made_as n true) b))
      go (Some g) e b f = let r = found_own n past gs g l near e in (refl, r.0, r.1)
      go None e (Some g) f =
          let w = found_woven n past (woven c n gs) g f in
          (refl, woven_has laws c inputs plan types n l gs g near w.0, w.1)
      go None e None f = tt

  -- what is made of the least number
  made_of_next : (k n : ℕ) (past : List Numbered) (feeds : ℕ → Coming) → NearFeeds k feeds → least_next k feeds ≡ Some n
      → MadeHas n past (made_of c past (picked_of n k feeds))
  made_of_next k n past feeds near e =
      made_has n past (groups_next n k feeds) (least_inside k n feeds near e) (groups_near n k feeds near)

  run_made : (k n : ℕ) (past : List Numbered) (feeds : ℕ → Coming) → NearFeeds k feeds → least_next k feeds ≡ Some n
      → (x : Made) → made_of c past (picked_of n k feeds) ≡ Some x → IsRunFrame c inputs x
  run_made k n past feeds near e x is =
      let has = subst (MadeHas n past) is (made_of_next k n past feeds near e) in
      rw has.0 (is_run n past x.group x.is_woven (least_inside k n feeds near e) has.1 has.2)

  pub all_run : (k : ℕ) (feeds : ℕ → Coming) → NearFeeds k feeds → AllByRecursion (IsRunFrame c inputs)
      (mended c k feeds)
  unfolding mended
  all_run k feeds near =
      all_made c k (IsNearOfRun c inputs) (IsRunFrame c inputs) (run_made k) (events_in k feeds) [] feeds near

  -- ---- each frame of which every packet came

  abbrev count : ℕ
  count = run_length c inputs

  abbrev PastIs : ℕ → List Numbered → Type 0
  PastIs = PastOfRun laws c inputs plan types

  abbrev BegunIs : ℕ → List Numbered → Type 0
  BegunIs = BegunMade laws c inputs plan types

  abbrev woven_in : ℕ → List Numbered → List Group → Option Group
  woven_in n past gs = find (passes c past n) (option_to_list (woven c n gs))

  abbrev either : ℕ → Option Group → Option Group → Option Made
  either n a b = option_or (option_map (made_as n false) a) (option_map (made_as n true) b)

  -- one is made if each packet came
  made_some : (n : ℕ) (past : List Numbered) (gs : List Group) → n < count → AllByRecursion (NearGroup n) gs
      → ((place : ℕ) (p : Packet) → slice_get (run_packets c inputs n) place ≡ Some p → is_stamp p ≡ false
      → Brings (run_packets c inputs n) place gs) → PastIs n past → BegunIs n past
      → (x : Made) × (made_of c past (record { number = n; groups = gs }) ≡ Some x)
  made_some n past gs l near come of begun =
      let w = woven_some laws c inputs plan types n l gs near come in
      let g : Group = w.0 in
      let made = woven_has laws c inputs plan types n l gs g near w.1 in
      let pass : passes c past n g ≡ true =
      rw (passes_behind laws c inputs plan types n past g.packets of begun made) in
      go (find (passes c past n) gs) (woven_in n past gs) g (rw (w.1, pass))
    where
      go : (a b : Option Group) (g : Group) → b ≡ Some g → (x : Made) × (either n a b ≡ Some x)
      go (Some h) b g e = (made_as n false h, refl)
      go None b g e = (made_as n true g, ap (λ (o : Option Group). option_map (made_as n true) o) e)

  -- ---- all of them

  module _ (k : ℕ) (some : ℕ → Bool) (frames : ℕ → Bool) (inside : (n : ℕ) → frames n ≡ true → n < count)
      (begun : (n plp : ℕ) → frames n ≡ true → plp < length c.plps → frames (begin_of c plp n) ≡ true) where
    -- Below a number each of the frames was made, and from it on all packets of each still come.
    record Reached (low : ℕ) (past : List Numbered) (feeds : ℕ → Coming) : Type 0 where
      low_is : low_of past ≤ low
      of : (b : ℕ) → (packets_at past b ≡ []) ⊎ HasFrame c inputs b (packets_at past b)
      made : (b : ℕ) → frames b ≡ true → b < low → HasFrame c inputs b (packets_at past b)
      near : (i : ℕ) → i < k → AllByRecursion (IsNearOfRun c inputs) (feeds i).events
      there : (m : ℕ) → some m ≡ true → low ≤ m → (i : ℕ) × (i < k) × HasNumber m (feeds i).events
      on : (i : ℕ) → i < k → GoesOn some low 0 (feeds i).events
      over : (i : ℕ) → i < k → (feeds i).over ≡ true
      come : (n : ℕ) → frames n ≡ true → low ≤ n → AllCame c inputs k feeds n

    -- a number that is there holds the least down
    there_most : (low n : ℕ) (past : List Numbered) (feeds : ℕ → Coming) → Reached low past feeds → (i : ℕ) → i < k
        → HasNumber n (feeds i).events → (m : ℕ) × (least_next k feeds ≡ Some m) × (m ≤ n)
    there_most low n past feeds r i within h =
        next_most some (n + 1) n low k feeds r.on r.there (omega arith) i within h

    -- so does a frame of which all comes
    frame_most : (low n : ℕ) (past : List Numbered) (feeds : ℕ → Coming) → Reached low past feeds → frames n ≡ true
        → low ≤ n → (m : ℕ) × (least_next k feeds ≡ Some m) × (m ≤ n)
    frame_most low n past feeds r f l =
        let first = l1_is_plain laws c inputs plan types n (inside n f) in
        let place = l1_place laws c inputs plan types n (inside n f) in
        let come = r.come n f l place first.packet first.is first.plain in
        there_most low n past feeds r come.0 come.1 (brings_number c inputs n place (feeds come.0).events come.2)

    -- so none is below it
    least_none : (low m b : ℕ) (feeds : ℕ → Coming) → least_next k feeds ≡ Some m
        → (n : ℕ) × (least_next k feeds ≡ Some n) × (n ≤ b) → b < m → ⊥
    least_none low m b feeds e next below =
        let s = same_Some next.0 m (sym next.1 ∙ e) in
        omega arith

    none_in : (low m : ℕ) (past : List Numbered) (feeds : ℕ → Coming) → Reached low past feeds
        → least_next k feeds ≡ Some m → NoneIn some low m
    none_in low m past feeds r e b t l below =
        let has = r.there b t l in
        least_none low m b feeds e (there_most low b past feeds r has.0 has.1 has.2) below

    made_before : (low m b : ℕ) (past : List Numbered) (feeds : ℕ → Coming) → Reached low past feeds
        → least_next k feeds ≡ Some m → frames b ≡ true → b < m → HasFrame c inputs b (packets_at past b)
    made_before low m b past feeds r e f below = ⊎_elim
        (λ (l : b < low). r.made b f l)
        (λ (l : low ≤ b). absurd (least_none low m b feeds e (frame_most low b past feeds r f l) below))
        (cases_lt b low)

    -- none is next that is less
    next_late : (m i : ℕ) (feeds : ℕ → Coming) → i < k → least_next k feeds ≡ Some m → (j : ℕ)
        → number_next (feeds i).events ≡ Some j → m ≤ j
    next_late m i feeds within e j next =
        let least = least_most k feeds i j within next in
        let s = same_Some least.0 m (sym least.1 ∙ e) in
        omega arith

    some_of_next : (low m : ℕ) (past : List Numbered) (feeds : ℕ → Coming) → Reached low past feeds
        → least_next k feeds ≡ Some m → frames m ≡ true → (x : Made) × (made_of c past (picked_of m k feeds) ≡ Some x)
    some_of_next low m past feeds r e f =
        let l = least_low some low k m feeds r.on e in
        made_some m past (groups_next m k feeds) (inside m f) (groups_near m k feeds r.near)
        (λ place p is plain.
        let come = r.come m f l place p is plain in
        one_among (λ (g : Group). HasCome (run_packets c inputs m) g.packets place) (λ i. group_next m (feeds i).events)
        come.0 k 0
        (omega arith) (omega (arith, come.1))
        (brings_next c inputs some m low place (feeds come.0).events (r.on come.0 come.1) (none_in low m past feeds r e)
        (next_late m come.0 feeds come.1 e) come.2))
        (λ b below. r.of b)
        (λ plp within later.
        made_before low m (begin_of c plp m) past feeds r e (begun m plp f within) (begun_before c plp m later))

    -- behind the least number
    reached_more : (low m : ℕ) (past : List Numbered) (feeds : ℕ → Coming) → Reached low past feeds
        → least_next k feeds ≡ Some m → (o : Option Made) → MadeHas m past o
        → (frames m ≡ true → (x : Made) × (o ≡ Some x))
        → Reached (m + 1) (past_with past o) (all_behind (Some m) true feeds)
    reached_more low m past feeds r e o has made_if =
        let l = least_low some low k m feeds r.on e in
        let low_is = r.low_is in
        record {
          low_is = low_more o has;
          of = of_more o has;
          made = made_more o has made_if;
          near = λ i within.
              behind_all (IsNearOfRun c inputs) (Some m) true (feeds i).events (r.near i within);
          there = λ n t from.
              let has = r.there n t (omega arith) in (
                has.0,
                has.1,
                number_behind m n (feeds has.0).events (λ same. omega arith) has.2,
              );
          on = λ i within.
              goes_behind some m low (feeds i).events (r.on i within) l (none_in low m past feeds r e)
              (next_late m i feeds within e);
          over = r.over;
          come = λ n f from place p is plain.
              let come = r.come n f (omega arith) place p is plain in (
                come.0,
                come.1,
                brings_behind c inputs m n place (feeds come.0).events (λ same. omega arith) come.2,
              );
        }
      where
        low_more : (o : Option Made) → MadeHas m past o → low_of (past_with past o) ≤ m + 1
        low_more None has = omega (arith, least_low some low k m feeds r.on e)
        low_more (Some x) has = omega arith

        of_more : (o : Option Made) → MadeHas m past o → (b : ℕ)
            → (packets_at (past_with past o) b ≡ []) ⊎ HasFrame c inputs b (packets_at (past_with past o) b)
        of_more None has = r.of
        of_more (Some x) has = λ b.
            let y : Numbered = record { number = x.number; group = x.group } in
            ⊎_elim
            (λ (same : x.number ≡ b). inr (rw (← same) (rw (at_own y past) (rw has.0 has.1))))
            (λ (ne : x.number ≡ b → ⊥). rw (at_other y past b ne) (r.of b)) (cases_eq x.number b)

        made_more : (o : Option Made) → MadeHas m past o → (frames m ≡ true → (x : Made) × (o ≡ Some x)) → (b : ℕ)
            → frames b ≡ true → b < m + 1 → HasFrame c inputs b (packets_at (past_with past o) b)
        made_more None has made_if b f below = ⊎_elim
            (λ (lower : b < m). made_before low m b past feeds r e f lower)
            (λ (higher : m ≤ b).
            let same : b ≡ m = omega arith in
            let x = made_if (rw (← same) f) in
            none_some x.0 x.1) (cases_lt b m)
        made_more (Some x) has made_if b f below =
            let y : Numbered = record { number = x.number; group = x.group } in
            ⊎_elim
            (λ (same : x.number ≡ b). rw (← same) (rw (at_own y past) (rw has.0 has.1)))
            (λ (ne : x.number ≡ b → ⊥).
            rw (at_other y past b ne) (made_before low m b past feeds r e f (omega arith))) (cases_eq x.number b)

    abbrev picks : ℕ → List Numbered → (ℕ → Coming) → List Made
    picks steps past feeds = picked_from (taking c) steps k past feeds

    -- what is picked next
    step_next : (steps low m : ℕ) (past : List Numbered) (feeds : ℕ → Coming) → Reached low past feeds
        → least_next k feeds ≡ Some m → picks (suc steps) past feeds
        ≡ option_to_list (made_of c past (picked_of m k feeds))
        ++ picks steps (past_with past (made_of c past (picked_of m k feeds))) (all_behind (Some m) true feeds)
    step_next steps low m past feeds r e =
        rw (
          step_is laws c inputs plan types steps k past feeds (record {
            events = λ i within. of_run c inputs (feeds
                i).events (r.near i within);
            over = r.over;
          }),
          e,
          false_from_ne_true (nat_lt m (low_of past)) (λ t. omega
              (arith, ltb-true m (low_of past) t, least_low some low k m feeds r.on e)),
        )

    all_there : (steps low n : ℕ) (past : List Numbered) (feeds : ℕ → Coming) → Reached low past feeds
        → frames n ≡ true → low ≤ n → events_in k feeds ≤ steps → IsThere n (picks steps past feeds)
    all_there zero low n past feeds r f l fuel =
        let next = frame_most low n past feeds r f l in
        absurd (omega (arith, passes_least false next.0 k feeds next.1))
    all_there (suc steps) low n past feeds r f l fuel =
        let next = frame_most low n past feeds r f l in
        let m : ℕ = next.0 in
        let e = next.1 in
        let o : Option Made = made_of c past (picked_of m k feeds) in
        let has : MadeHas m past o = made_of_next k m past feeds r.near e in
        let made_if : frames m ≡ true → (x : Made) × (o ≡ Some x) = some_of_next low m past feeds r e in
        let more : Reached (m + 1) (past_with past o) (all_behind (Some m) true feeds) =
        reached_more low m past feeds r e o has made_if in
        rw (step_next steps low m past feeds r e) (⊎_elim
        (λ (below : m < n).
        one_behind (λ (x : Made). x.number ≡ n) (option_to_list o)
        (picks steps (past_with past o) (all_behind (Some m) true feeds))
        (all_there steps (m + 1) n (past_with past o) (all_behind (Some m) true feeds) more f (omega arith)
        (omega (arith, passes_least true m k feeds e))))
        (λ (not_below : n ≤ m).
        let same : m ≡ n = omega arith in
        is_first_made n m o (picks steps (past_with past o) (all_behind (Some m) true feeds)) same has
        (made_if (rw same f))) (cases_lt m n))
      where
        is_first_made : (n m : ℕ) (o : Option Made) (rest : List Made) → m ≡ n → MadeHas m past o
            → (x : Made) × (o ≡ Some x) → IsThere n (option_to_list o ++ rest)
        is_first_made n m None rest same has some = none_some some.0 some.1
        is_first_made n m (Some x) rest same has some = inl (has.0 ∙ same)

  has_run_frame : (n : ℕ) (made : List Made) → AllByRecursion (IsRunFrame c inputs) made → IsThere n made
      → HasRunFrame c inputs n made
  has_run_frame n [] all h = absurd h
  has_run_frame n (x ∷ made) all h = ⊎_elim (λ (is : x.number ≡ n). inl (is, all.0))
      (λ (more : IsThere n made). inr (has_run_frame n made all.1 more)) h

  is_there : (k : ℕ) (feeds : ℕ → Coming) (frames : ℕ → Bool) → NearFeeds k feeds → GoOn k feeds
      → HaveCome c inputs (AllCame c inputs k feeds) frames → (n : ℕ) → frames n ≡ true → IsThere n (mended c k feeds)
  unfolding mended
  is_there k feeds frames near on whole n f =
      all_there k on.frames frames whole.inside whole.begun (events_in k feeds) 0 n [] feeds
      (record {
        low_is = omega arith;
        of = λ b. inl refl;
        made = λ b h below. absurd (omega arith);
        near = near;
        there = λ m t from. on.there m t;
        on = on.on;
        over = on.over;
        come = λ m h from. whole.came m h;
      }) f (omega arith) (omega arith)

  pub came_made : (k : ℕ) (feeds : ℕ → Coming) (frames : ℕ → Bool) → NearFeeds k feeds → GoOn k feeds
      → HaveCome c inputs (AllCame c inputs k feeds) frames → (n : ℕ) → frames n ≡ true
      → HasRunFrame c inputs n (mended c k feeds)
  came_made k feeds frames near on whole n f =
      has_run_frame n (mended c k feeds) (all_run k feeds near) (is_there k feeds frames near on whole n f)

pub made_are_of_run : RunLaws → MadeAreOfRun
made_are_of_run laws c inputs k feeds plan types near = all_run laws c inputs plan types k feeds near

pub came_are_made : RunLaws → CameAreMade
came_are_made laws c inputs k feeds frames plan types near on whole n f =
    came_made laws c inputs plan types k feeds frames near on whole n f

-- ---- damaged streams

pub some_frames : (c : Config) → IsPlan c → 0 < c.frames
some_frames c plan = let r : (2 ≤ c.frames) × (c.frames ≤ 255) = plan.rules SuperframeLength in omega arith

pub near_events : RunLaws → (c : Config) (inputs : ℕ → List (List ℕ)) → IsPlan c → TypesFit c
    → run_length c inputs ≤ MOST_FRAMES → (bytes : List ℕ) → IsDamagedRun c inputs bytes
    → AllByRecursion (IsNearOfRun c inputs) (feed_events (rules c) true bytes)
near_events laws c inputs plan types most bytes damaged =
    damaged_events laws.named laws.frames laws.groups c inputs plan (some_frames c plan) most
    (run_has laws c inputs plan types) bytes damaged

pub damaged_runs_mended : RunLaws → DamagedRunsMended
damaged_runs_mended laws c inputs k streams plan types most damaged =
    all_run laws c inputs plan types k (all_of c streams)
    (λ i l. near_events laws c inputs plan types most (streams i) (damaged i l))

-- with idle units
pub came_of_damaged : RunLaws → CameOfDamagedMade
came_of_damaged laws c inputs k streams frames plan types most damaged on whole n f =
    came_made laws c inputs plan types k (all_of c streams) frames
    (λ i l. near_events laws c inputs plan types most (streams i) (damaged i l)) on whole n f

pub whole_among_damaged : RunLaws → WholeStreamMended → WholeAmongDamaged
whole_among_damaged laws whole_law c inputs k whole streams plan types most inside is damaged =
    whole_law c inputs k whole streams plan types most inside is
    (λ i l ne. of_run c inputs (feed_events (rules c) true (streams i))
    (near_events laws c inputs plan types most (streams i) (damaged i l ne)))

rise_from : (c : Config) (m : ℕ) (made : List Made) → RiseFrom m (frames_of c made) → RiseOn (m + 1) made
rise_from c m [] h = tt
rise_from c m (x ∷ made) h = (omega arith, rise_from c x.number made h.1)

rise_on : (c : Config) (made : List Made) → Rise (frames_of c made) → RiseOn 0 made
rise_on c [] h = tt
rise_on c (x ∷ made) h = (omega arith, rise_from c x.number made h)

module _ (c : Config) (inputs : ℕ → List (List ℕ)) where
  none_later : (n low : ℕ) (made : List Made) → RiseOn low made → n < low → HasRunFrame c inputs n made → ⊥
  none_later n low [] r l h = h
  none_later n low (x ∷ made) r l h =
      ⊎_elim
      (λ (own : (x.number ≡ n) × IsRunFrame c inputs x). omega arith)
      (λ (more : HasRunFrame c inputs n made). none_later n (x.number + 1) made r.1 (omega arith) more) h

  -- if each is there, they are all frames of the run
  all_frames : (j m : ℕ) (made : List Made) → m + j ≡ run_length c inputs → AllByRecursion (IsRunFrame c inputs) made
      → RiseOn m made → ((n : ℕ) → m ≤ n → n < run_length c inputs → HasRunFrame c inputs n made)
      → frames_of c made ≡ map (run_frame c inputs) (range_with_len m j)
  all_frames zero m [] e all rise there = refl
  all_frames zero m (x ∷ made) e all rise there =
      absurd (omega arith)
  all_frames (suc j) m [] e all rise there = absurd (there m (omega arith) (omega arith))
  all_frames (suc j) m (x ∷ made) e all rise there =
      let is : x.number ≡ m =
      ⊎_elim
      (λ (own : (x.number ≡ m) × IsRunFrame c inputs x). own.0)
      (λ (more : HasRunFrame c inputs m made). absurd (none_later m (x.number + 1) made rise.1 (omega arith) more))
      (there m (omega arith) (omega arith)) in
      ap₂ (λ (y : SentFrame) (l : List SentFrame). y ∷ l) (all.0.sent ∙ ap (run_frame c inputs) is)
      (all_frames j (m + 1) made (omega arith) all.1 (rw (← is) rise.1)
      (λ n low high. ⊎_elim
      (λ (own : (x.number ≡ n) × IsRunFrame c inputs x). absurd (omega arith))
      (λ (more : HasRunFrame c inputs n made). more) (there n (omega arith) high)))

pub survivors_mended : RunLaws → SurvivorsMended
survivors_mended laws c inputs k streams survivals frames plan types most lossy whole n f =
    let some = some_frames c plan in
    let has = run_has laws c inputs plan types in
    came_made laws c inputs plan types k (all_of c streams) frames
    (λ i l. near_events laws c inputs plan types most (streams i)
    (damaged_of c inputs (survivals i) (streams i) (lossy i l)))
    (record {
      frames = λ m. false;
      there = λ m t. absurd (true≢false (sym t));
      on = λ i l.
          stream_goes laws.named laws.frames laws.groups c inputs plan some most has (survivals i) (streams i)
          (lossy i l) (λ m. false);
      over = λ i l. refl;
    })
    (record {
      inside = whole.inside;
      came = λ m h place p is plain.
          let come = whole.came m h place p is plain in (
            come.0,
            come.1,
            stream_brings laws.named laws.frames laws.groups c inputs plan some most has (survivals come.0)
                (streams come.0) (lossy come.0 come.1) m place (whole.inside m h) come.2 come.3,
          );
      begun = whole.begun;
    }) n f

pub none_lost_mended : RunLaws → MadeRise → NoneLostMended
unfolding spaced front_packets
none_lost_mended laws rise c inputs k streams survivals plan types most lossy come =
    let n : ℕ = run_length c inputs in
    let made : List Made = made_of_all c k streams in
    let all : AllByRecursion (IsRunFrame c inputs) made =
    damaged_runs_mended laws c inputs k streams plan types most
    (λ i l. damaged_of c inputs (survivals i) (streams i) (lossy i l)) in
    let there : (m : ℕ) → m < n → HasRunFrame c inputs m made =
    λ m l. survivors_mended laws c inputs k streams survivals (λ i. nat_lt i n) plan types most lossy
    (record {
      inside = λ i f. ltb-true i n f;
      came = λ i f. come i (ltb-true i n f);
      begun = λ i plp f within. lt-ltb (begin_of c plp i) n (let b = ltb-true i n f in omega arith);
    }) m (lt-ltb m n l) in
    ap (λ (packets : List (List ℕ)). joined (pipe c.pid packets))
    (ap (λ (frames : List SentFrame). packets_from c 0 (spaced_behind c None frames))
    (all_frames c inputs n 0 made (omega arith) all (rise_on c made (rise c k streams)) (λ m low l. there m l))
    ∙ ap (packets_from c 0) (run_spaced laws c inputs plan types None n 0 tt))

-- where one frame carries each interleaving frame
pub survivor_alone : RunLaws → BeginAlone → SurvivorAlone
survivor_alone laws begins c inputs k streams survivals plan types alone most lossy n inside come =
    survivors_mended laws c inputs k streams survivals (λ i. i == n) plan types most lossy
    (record {
      inside = λ i f. rw (eqb-true i n f) inside;
      came = λ i f. rw (eqb-true i n f) come;
      begun = λ i plp f within. eq-eqb (begin_of c plp i) n ((begins c plp i (alone plp within)).2 ∙ eqb-true i n f);
    }) n (eq-eqb n n refl)
