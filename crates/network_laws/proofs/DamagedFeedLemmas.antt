-- The events of a damaged stream of a run: each has packets of the frame of its number, and where numbers are known all
-- that survives of a frame comes.
use Rattle.std.proofs.Common.{◌≡◌, ◌≢◌, ◌⊎◌, ℕ, zero, suc, ◌+◌, ◌<◌, ◌≤◌, ◌==◌, ◌&&◌, Bool, true, false, cond, List, []}
use Rattle.std.proofs.Common.{◌∷◌, length, map, Option, Some, None, refl, ap, sym, subst, ◌∙◌, ⊎_elim, arith, inl, inr}
use Rattle.std.proofs.Common.{◌++◌}
use Rattle.std.specs.Prelude.{nat_lt, slice_get, slice_index_or}
use Rattle.std.specs.List.{filter, items_where_true, range_with_len, AllByRecursion}
use Rattle.std.proofs.lemmas.Bool.{cases_eq, and_parts, ltb-true, true≢false, cases_lt, and_from}
use Rattle.std.proofs.lemmas.Bool.{eq-eqb, lt-ltb, ne_eqb, cases_Bool, cond_both, both_ways}
use Rattle.std.proofs.lemmas.Option.{same_Some}
use Rattle.terms.proofs.AllLemmas.{all_append}
use Rattle.terms.proofs.OptionLemmas.{none_some}
use Rattle.plp_config.specs.Capacity.{IsPlan}
use Rattle.plp_config.specs.declared.config.Config.{Config}
use Rattle.plp_config.specs.declared.moment.TheConstants.{MOST_FRAMES}
use Rattle.t2mi_packet.specs.declared.packet.Packet.{Packet}
use Rattle.t2mi_packet.specs.declared.packet.Stamp.{Stamp}
use Rattle.frame_groups.specs.Groups.{is_same, Group, groups}
use Rattle.frame_groups.specs.Numbers.{frame_key}
use Rattle.frame_groups.proofs.NumberLemmas.{same_key}
use Rattle.frame_groups.specs.Carried.{stamps_of}
use Rattle.frame_groups.specs.TestLaws.{FrameNamed}
use Rattle.frame_groups.specs.Tests.{named_frame, rules}
use Rattle.frame_writer.specs.FramePackets.{stamp_of}
use Rattle.stream_laws.specs.DamageLaws.{GroupsAreFrames}
use Rattle.stream_laws.specs.SentPackets.{Sent, frame_packets, frame_group}
use Rattle.stream_laws.specs.Survivors.{has_packets}
use Rattle.stream_laws.specs.FrameLaws.{SentAreFrames}
use Rattle.stream_laws.specs.SentFrames.{sent_frames, run_length}
use Rattle.stream_laws.proofs.CarriedLemmas.{HasFrame}
use Rattle.stream_laws.proofs.LossLemmas.{is_left}
use Rattle.feed_events.specs.FeedEvents.{FeedEvent, has_stamp, number_after, number_of, event_of, numbered_from}
use Rattle.feed_events.specs.FeedEvents.{events_between, feed_events}
use Rattle.feed_events.specs.FeedEvents.FeedEvent.{Has, Silent}
use Rattle.network_laws.specs.FeedsOfRun.{run_packets, FewLack, IsOfRun, IsNearOfRun, frame_survival}
use Rattle.network_laws.specs.FeedsOfRun.{SurvivesOfRun, NextIsTold, left_of, surviving, IsDamagedRun}
use Rattle.network_laws.specs.FeedsOfRun.{BringsPacket, GoesOn, IsNumbered, IsLossyRun}
use Rattle.network_laws.proofs.RunEventLemmas.{stamp_told}
use Rattle.network_laws.proofs.RowGroupLemmas.{own_key}

-- ---- what survives of a frame

pub frame_left : (n : ℕ) (sent : List Sent) (survival : List Bool)
    → frame_packets n (items_where_true survival sent)
    ≡ items_where_true (frame_survival n sent survival) (frame_packets n sent)
frame_left n [] [] = refl
frame_left n [] (t ∷ survival) = refl
frame_left n (s ∷ sent) [] = refl
frame_left n (s ∷ sent) (true ∷ survival) = elim (cases_Bool (s.frame == n)) [
  | inl e ↦ rw e (ap (λ (l : List Packet). s.packet ∷ l) (frame_left n sent survival))
  | inr e ↦ rw e (frame_left n sent survival)
]
frame_left n (s ∷ sent) (false ∷ survival) = elim (cases_Bool (s.frame == n)) [
  | inl e ↦ rw e (frame_left n sent survival)
  | inr e ↦ rw e (frame_left n sent survival)
]

-- ---- events

-- A feed is never silent, and its numbers rise, from one on.
abbrev Rises : ℕ → List FeedEvent → Type 0
Rises low [] = Unit {0}
Rises low (Has x ∷ events) = (low ≤ x.number) × Rises (x.number + 1) events
Rises low (Silent ∷ events) = ⊥

rises_later : (low high : ℕ) (events : List FeedEvent) → low ≤ high → Rises high events → Rises low events
rises_later low high [] l h = tt
rises_later low high (Has x ∷ events) l h = (omega arith, h.1)
rises_later low high (Silent ∷ events) l h = h

rises_on : (frames : ℕ → Bool) (low : ℕ) (events : List FeedEvent) → Rises low events → GoesOn frames low 0 events
rises_on frames low [] h = tt
rises_on frames low (Has x ∷ events) h = (h.0, omega arith, rises_on frames (x.number + 1) events h.1)
rises_on frames low (Silent ∷ events) h = absurd h

brings_later : (c : Config) (inputs : ℕ → List (List ℕ)) (n place : ℕ) (xs ys : List FeedEvent)
    → BringsPacket c inputs n place ys → BringsPacket c inputs n place (xs ++ ys)
brings_later c inputs n place [] ys h = h
brings_later c inputs n place (Has x ∷ xs) ys h = inr (brings_later c inputs n place xs ys h)
brings_later c inputs n place (Silent ∷ xs) ys h = brings_later c inputs n place xs ys h

no_length : (ps : List Packet) → length ps ≡ 0 → ps ≡ []
no_length [] e = refl
no_length (p ∷ ps) e = absurd (omega arith)

some_or_none : (ps : List Packet) → (ps ≡ []) ⊎ (ps ≢ [])
some_or_none [] = inl refl
some_or_none (p ∷ ps) = inr (λ e. absurd cc)

-- ---- its number

-- It is that of the frame, or none.
abbrev pub IsNumber : Option ℕ → ℕ → Type 0
IsNumber None n = Unit {0}
IsNumber (Some k) n = k ≡ n

module _ (named : FrameNamed) (c : Config) (inputs : ℕ → List (List ℕ)) (plan : IsPlan c)
    (some : 0 < c.frames) (most : run_length c inputs ≤ MOST_FRAMES) (survival : List Bool)
    (has : (n : ℕ) → n < run_length c inputs → HasFrame c inputs n (run_packets c inputs n))
    (few : (n : ℕ) → n < run_length c inputs
    → FewLack 0 (frame_survival n (sent_frames c inputs (run_length c inputs)) survival)) where
  abbrev count : ℕ
  count = run_length c inputs

  abbrev sent : List Sent
  sent = sent_frames c inputs count

  abbrev left : List Sent
  left = items_where_true survival sent

  abbrev group_at : ℕ → Group
  group_at n = frame_group c.frames left n

  -- It seems to follow a frame only if it does.
  abbrev FollowsLast : Option ℕ → ℕ → Type 0
  FollowsLast last n = (m : ℕ) → last ≡ Some m → frame_key c.frames n ≡ frame_key c.frames (m + 1) → n ≡ m + 1

  after_is : (last : Option ℕ) (n : ℕ) → FollowsLast last n
      → IsNumber (number_after c.frames last (frame_key c.frames n)) n
  after_is None n follows = tt
  after_is (Some m) n follows =
      let same : Bool = is_same (frame_key c.frames (m + 1)) (frame_key c.frames n) in
      cond_both {A = Option ℕ} (nat_lt (m + 1) MOST_FRAMES && same) _ _ (λ o. IsNumber o n)
      (λ e. sym (follows m refl (sym (same_key (frame_key c.frames (m + 1)) (frame_key c.frames n)
      (and_parts (nat_lt (m + 1) MOST_FRAMES) same e).1)))) (λ e. tt)

  -- a timestamp names it
  pub stamp_names : (n : ℕ) → n < count → has_stamp (frame_packets n left) ≡ true → named_frame c (group_at n) ≡ Some n
  stamp_names n inside e =
      let there = ltb-true 0 (length (stamps_of (frame_packets n left)))
      (sym (stamp_told (frame_packets n left)) ∙ e) in
      (named c (group_at n) n plan.rules).1 (record {
        stamp = stamp_of c n;
        first = first_stamp (stamps_of (frame_packets n left)) there all_stamps;
        small = omega arith;
        emission-is = refl;
        key = refl;
      })
    where
      all_stamps : AllByRecursion (λ (s : Stamp). s ≡ stamp_of c n) (stamps_of (frame_packets n left))
      all_stamps = (is_left c inputs n (run_packets c inputs n) (frame_packets n left) (has n inside)
          (record { flags = frame_survival n sent survival; are = frame_left n sent survival })).stamps

      first_stamp : (stamps : List Stamp) → 0 < length stamps → AllByRecursion (λ (s : Stamp). s ≡ stamp_of c n) stamps
          → slice_get stamps 0 ≡ Some (stamp_of c n)
      first_stamp [] l h = absurd (omega arith)
      first_stamp (s ∷ stamps) l h = ap (λ (x : Stamp). Some x) h.0

  -- a frame behind the last one, as told
  abbrev pub IsTold : Option ℕ → ℕ → Type 0
  IsTold last n = (m : ℕ) → last ≡ Some m → frame_key c.frames n ≡ frame_key c.frames (m + 1)
      → (n ≡ m + 1) ⊎ (has_stamp (frame_packets n left) ≡ true)

  pub number_is : (last : Option ℕ) (n : ℕ) → n < count → IsTold last n
      → IsNumber (number_of (rules c) last (group_at n)) n
  number_is last n inside told =
      cond_both {A = Option ℕ} (has_stamp (frame_packets n left)) _ _ (λ o. IsNumber o n)
      (λ e. rw (stamp_names n inside e) refl)
      (λ e. after_is last n (λ m is same. ⊎_elim
      (λ (next : n ≡ m + 1). next)
      (λ (stamp : has_stamp (frame_packets n left) ≡ true). absurd (both_ways _ e stamp)) (told m is same)))

  -- ---- all groups

  one_event : (o : Option ℕ) (n : ℕ) → n < count → IsNumber o n
      → AllByRecursion (IsNearOfRun c inputs) (event_of o (group_at n))
  one_event None n l is = tt
  one_event (Some k) n l is = (
    rw is (l, record { flags = frame_survival n sent survival; are = frame_left n sent survival; few = few n l }),
    tt,
  )

  -- the last frame that has a number is before one, and nothing survives of those between
  abbrev pub LastBefore : Option ℕ → ℕ → Type 0
  LastBefore None a = Unit {0}
  LastBefore (Some m) a = (m < a) × (frame_packets m left ≢ []) × ((b : ℕ) → m < b → b < a → frame_packets b left ≡ [])

  abbrev groups_from : ℕ → ℕ → List Group
  groups_from a j = filter has_packets (map (frame_group c.frames left) (range_with_len a j))

  abbrev events_from : Option ℕ → ℕ → ℕ → List FeedEvent
  events_from last a j = numbered_from (rules c) last (groups_from a j)

  -- a frame of which nothing survives has no group
  none_left : (last : Option ℕ) (a j : ℕ) → frame_packets a left ≡ [] → events_from last a (suc j)
      ≡ events_from last (a + 1) j
  none_left last a j is =
      rw (eq-eqb (length (frame_packets a left)) 0 (ap length is))

  some_left : (last : Option ℕ) (a j : ℕ) → frame_packets a left ≢ [] → events_from last a (suc j)
      ≡ event_of (number_of (rules c) last (group_at a)) (group_at a)
      ++ events_from (number_of (rules c) last (group_at a)) (a + 1) j
  some_left last a j is =
      rw (ne_eqb (length (frame_packets a left)) 0 (λ z. is (no_length (frame_packets a left) z)))

  -- a frame has the key of another
  abbrev has_key : ℕ → ℕ → Bool
  has_key n i = nat_lt i MOST_FRAMES && is_same (frame_key c.frames i) (frame_key c.frames n)

  -- its number is known by a timestamp, or by that of the frame before
  number_known : (last : Option ℕ) (n : ℕ) → n < count
      → (has_stamp (frame_packets n left) ≡ true) ⊎ ((m : ℕ) × (last ≡ Some m) × (m + 1 ≡ n))
      → number_of (rules c) last (group_at n) ≡ Some n
  number_known last n inside known = go (has_stamp (frame_packets n left)) refl
    where
      after : (m : ℕ) → last ≡ Some m → m + 1 ≡ n → number_after c.frames last (frame_key c.frames n) ≡ Some n
      after m is next =
          rw (
            is,
            next,
            and_from (nat_lt n MOST_FRAMES) (is_same (frame_key c.frames n) (frame_key c.frames n))
                (lt-ltb n MOST_FRAMES (omega arith)) (own_key c some n),
          )

      go : (t : Bool) → has_stamp (frame_packets n left) ≡ t
          → cond t (named_frame c (group_at n)) (number_after c.frames last (frame_key c.frames n)) ≡ Some n
      go true e = stamp_names n inside e
      go false e = ⊎_elim
          (λ (t : has_stamp (frame_packets n left) ≡ true). absurd (true≢false (sym t ∙ e)))
          (λ (h : (m : ℕ) × (last ≡ Some m) × (m + 1 ≡ n)). after h.0 h.1 h.2) known

  module _ (next : NextIsTold c.frames (left_of c inputs survival)) where
    pub last_told : (last : Option ℕ) (a : ℕ) → LastBefore last a → frame_packets a left ≢ [] → IsTold last a
    last_told None a h own m e = none_some m e
    last_told (Some k) a h own m e = subst
        (λ (i : ℕ). frame_key c.frames a ≡ frame_key c.frames (i + 1)
        → (a ≡ i + 1) ⊎ (has_stamp (frame_packets a left) ≡ true))
        (same_Some k m e) (next k a (record { later = h.0; from = h.1; to = own; between = h.2 }))

    pub last_skipped : (last : Option ℕ) (a : ℕ) → LastBefore last a → frame_packets a left ≡ []
        → LastBefore last (a + 1)
    last_skipped None a h none = tt
    last_skipped (Some m) a h none = (
      omega arith,
      h.1,
      λ b low high. ⊎_elim
          (λ (e : b ≡ a). ap (λ (i : ℕ). frame_packets i left) e ∙ none)
          (λ (ne : b ≡ a → ⊥). h.2 b low (omega arith)) (cases_eq b a),
    )

    pub last_own : (o : Option ℕ) (a : ℕ) → IsNumber o a → frame_packets a left ≢ [] → LastBefore o (a + 1)
    last_own None a is own = tt
    last_own (Some k) a is own =
        rw is (omega arith, own, λ b low high. absurd (omega arith))

    number_own : (last : Option ℕ) (a : ℕ) → a < count → LastBefore last a → frame_packets a left ≢ []
        → IsNumber (number_of (rules c) last (group_at a)) a
    number_own last a inside h own =
        number_is last a inside (last_told last a h own)

    all_events : (j a : ℕ) (last : Option ℕ) → a + j ≤ count → LastBefore last a
        → AllByRecursion (IsNearOfRun c inputs) (events_from last a j)
    all_events zero a last l h = tt
    all_events (suc j) a last l h = elim (some_or_none (frame_packets a left)) [
      | inl none ↦
          rw (none_left last a j none) (all_events j (a + 1) last (omega arith) (last_skipped last a h none))
      | inr own ↦
          let o : Option ℕ = number_of (rules c) last (group_at a) in
          let is : IsNumber o a = number_own last a (omega arith) h own in
          rw (some_left last a j own)
          (all_append (IsNearOfRun c inputs) (event_of o (group_at a)) (events_from o (a + 1) j)
          (one_event o a (omega arith) is) (all_events j (a + 1) o (omega arith) (last_own o a is own)))
    ]

    -- ---- their numbers rise

    event_goes : (a : ℕ) (o : Option ℕ) (rest : List FeedEvent) → IsNumber o a → Rises (a + 1) rest
        → Rises a (event_of o (group_at a) ++ rest)
    event_goes a None rest is h = rises_later a (a + 1) rest (omega arith) h
    event_goes a (Some k) rest is h = (omega arith, rw is h)

    all_go : (j a : ℕ) (last : Option ℕ) → a + j ≤ count → LastBefore last a → Rises a (events_from last a j)
    all_go zero a last l h = tt
    all_go (suc j) a last l h = elim (some_or_none (frame_packets a left)) [
      | inl none ↦
          rw (none_left last a j none)
          (rises_later a (a + 1) (events_from last (a + 1) j) (omega arith)
          (all_go j (a + 1) last (omega arith) (last_skipped last a h none)))
      | inr own ↦
          let o : Option ℕ = number_of (rules c) last (group_at a) in
          let is : IsNumber o a = number_own last a (omega arith) h own in
          rw (some_left last a j own)
          (event_goes a o (events_from o (a + 1) j) is (all_go j (a + 1) o (omega arith) (last_own o a is own)))
    ]

  -- ---- what survives of a frame whose number is known comes

  -- The number of the frame before one is known, if it is behind the timestamp.
  abbrev IsKnown : ℕ → Option ℕ → ℕ → Type 0
  IsKnown from last a = (a ≤ from) ⊎ ((m : ℕ) × (last ≡ Some m) × (m + 1 ≡ a))

  module _ (n place : ℕ) (numbered : IsNumbered c inputs survival n) (inside : n < count)
      (there : slice_index_or (frame_survival n sent survival) place false ≡ true) where
    -- behind the timestamp something is left of each frame
    some_left_of : (a : ℕ) → numbered.from ≤ a → a ≤ n → frame_packets a left ≢ []
    some_left_of a low high z = ⊎_elim
        (λ (e : numbered.from ≡ a).
        true≢false (sym numbered.stamp ∙ ap (λ (i : ℕ). has_stamp (frame_packets i left)) e ∙ ap has_stamp z))
        (λ (ne : numbered.from ≡ a → ⊥). numbered.each a (omega arith) high z) (cases_eq numbered.from a)

    known_at : (a : ℕ) (last : Option ℕ) → numbered.from ≤ a → a < count → IsKnown numbered.from last a
        → number_of (rules c) last (group_at a) ≡ Some a
    known_at a last low within known =
        number_known last a within
        (⊎_elim
        (λ (l : a ≤ numbered.from).
        let e : numbered.from ≡ a = omega arith in
        inl (rw (← e) numbered.stamp))
        (λ (h : (m : ℕ) × (last ≡ Some m) × (m + 1 ≡ a)). inr h) known)

    knows_more : (a : ℕ) (last : Option ℕ) → a < count → IsKnown numbered.from last a
        → IsKnown numbered.from (number_of (rules c) last (group_at a)) (a + 1)
    knows_more a last within known = ⊎_elim
        (λ (l : a < numbered.from). inl (omega arith))
        (λ (l : numbered.from ≤ a). inr (a, known_at a last l within known, refl)) (cases_lt a numbered.from)

    comes_there : (j a : ℕ) (last : Option ℕ) → a ≤ n → n < a + j → a + j ≤ count → IsKnown numbered.from last a
        → BringsPacket c inputs n place (events_from last a j)
    comes_there zero a last low high l known = absurd (omega arith)
    comes_there (suc j) a last low high l known = elim (some_or_none (frame_packets a left)) [
      | inl none ↦ elim (cases_lt a numbered.from) [
        | inl early ↦
            rw (none_left last a j none)
            (comes_there j (a + 1) last (omega arith) (omega arith) (omega arith) (inl (omega arith)))
        | inr late ↦ absurd (some_left_of a late low none)
      ]
      | inr some ↦
          let o : Option ℕ = number_of (rules c) last (group_at a) in
          rw (some_left last a j some)
          (elim (cases_eq a n) [
            | inl e ↦
                rw (known_at a last (omega arith) (omega arith) known)
                (inl (
                  e,
                  rw e (
                    record {
                      flags = frame_survival n sent survival;
                      are = frame_left n sent survival;
                      few = few n inside;
                    },
                    there,
                  ),
                ))
            | inr ne ↦
                brings_later c inputs n place (event_of o (group_at a)) (events_from o (a + 1) j)
                (comes_there j (a + 1) o (omega arith) (omega arith) (omega arith)
                (knows_more a last (omega arith) known))
          ])
    ]

-- The events of a damaged stream are of the run.
module _ (named : FrameNamed) (are : SentAreFrames) (law : GroupsAreFrames) (c : Config)
    (inputs : ℕ → List (List ℕ)) (plan : IsPlan c) (some : 0 < c.frames) (most : run_length c inputs ≤ MOST_FRAMES)
    (has : (n : ℕ) → n < run_length c inputs → HasFrame c inputs n (run_packets c inputs n)) where
  part_events : (survival : List Bool) → SurvivesOfRun c inputs survival
      → AllByRecursion (IsNearOfRun c inputs)
      (numbered_from (rules c) None (groups c.frames (surviving c inputs survival)))
  part_events survival d =
      let n : ℕ = run_length c inputs in
      let sent : List Sent = sent_frames c inputs n in
      rw (law c.frames n sent survival some (are c inputs n some) d.apart)
      (all_events named c inputs plan some most survival has d.few d.next n 0 None (omega arith) tt)

  parts_events : (survivals : List (List Bool)) → AllByRecursion (SurvivesOfRun c inputs) survivals
      → AllByRecursion (IsNearOfRun c inputs) (events_between (rules c) true (map (surviving c inputs) survivals))
  parts_events [] d = tt
  parts_events (survival ∷ []) d = part_events survival d.0
  parts_events (survival ∷ next ∷ more) d =
      all_append (IsNearOfRun c inputs) (numbered_from (rules c) None (groups c.frames (surviving c inputs survival)))
      (Silent ∷ events_between (rules c) true (map (surviving c inputs) (next ∷ more))) (part_events survival d.0)
      (tt, parts_events (next ∷ more) d.1)

  pub damaged_events : (bytes : List ℕ) → IsDamagedRun c inputs bytes
      → AllByRecursion (IsNearOfRun c inputs) (feed_events (rules c) true bytes)
  unfolding feed_events
  damaged_events bytes d =
      rw (ap (events_between (rules c) true) d.arrive) (parts_events d.survivals d.parts)

-- so they are of it without what they say of what lacks
pub of_run : (c : Config) (inputs : ℕ → List (List ℕ)) (events : List FeedEvent)
    → AllByRecursion (IsNearOfRun c inputs) events → AllByRecursion (IsOfRun c inputs) events
of_run c inputs [] h = tt
of_run c inputs (Has x ∷ events) h =
    ((h.0.0, record { flags = h.0.1.flags; are = h.0.1.are }), of_run c inputs events h.1)
of_run c inputs (Silent ∷ events) h = (tt, of_run c inputs events h.1)

-- ---- streams

module _ (named : FrameNamed) (are : SentAreFrames) (law : GroupsAreFrames) (c : Config)
    (inputs : ℕ → List (List ℕ)) (plan : IsPlan c) (some : 0 < c.frames) (most : run_length c inputs ≤ MOST_FRAMES)
    (has : (n : ℕ) → n < run_length c inputs → HasFrame c inputs n (run_packets c inputs n)) (survival : List Bool)
    (bytes : List ℕ) (lossy : IsLossyRun c inputs survival bytes) where
  abbrev survives : SurvivesOfRun c inputs survival
  survives = lossy.survives

  abbrev arrived : List Sent
  arrived = items_where_true survival (sent_frames c inputs (run_length c inputs))

  stream_events : feed_events (rules c) true bytes
      ≡ numbered_from (rules c) None
      (filter has_packets (map (frame_group c.frames arrived) (range_with_len 0 (run_length c inputs))))
  unfolding feed_events
  stream_events =
      let n : ℕ = run_length c inputs in
      ap (events_between (rules c) true) lossy.arrive
      ∙ ap (numbered_from (rules c) None)
      (law c.frames n (sent_frames c inputs n) survival some (are c inputs n some) survives.apart)

  pub stream_goes : (frames : ℕ → Bool) → GoesOn frames 0 0 (feed_events (rules c) true bytes)
  stream_goes frames =
      rises_on frames 0 (feed_events (rules c) true bytes)
      (rw stream_events
      (all_go named c inputs plan some most survival has survives.few survives.next (run_length c inputs) 0 None
      (omega arith) tt))

  pub stream_brings : (n place : ℕ) → n < run_length c inputs → IsNumbered c inputs survival n
      → slice_index_or (frame_survival n (sent_frames c inputs (run_length c inputs)) survival) place false ≡ true
      → BringsPacket c inputs n place (feed_events (rules c) true bytes)
  stream_brings n place inside numbered there =
      rw stream_events
      (comes_there named c inputs plan some most survival has survives.few n place numbered inside there
      (run_length c inputs) 0 None (omega arith) (omega arith) (omega arith) (inl (omega arith)))

pub damaged_of : (c : Config) (inputs : ℕ → List (List ℕ)) (survival : List Bool) (bytes : List ℕ)
    → IsLossyRun c inputs survival bytes → IsDamagedRun c inputs bytes
damaged_of c inputs survival bytes lossy =
    record { survivals = survival ∷ []; arrive = lossy.arrive; parts = (lossy.survives, tt) }
