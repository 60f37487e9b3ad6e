-- Of feeds of one run, of which one is whole, all frames are made.
use Rattle.std.proofs.Common.{◌≡◌, ◌⊎◌, inl, inr, ℕ, zero, suc, ◌+◌, ◌*◌, ◌/◌, ◌%◌, ◌<◌, ◌≤◌, ◌==◌, Bool, true}
use Rattle.std.proofs.Common.{false, List, [], ◌∷◌, ◌++◌, length, map, replicate, Option, Some, None, refl, ap}
use Rattle.std.proofs.Common.{sym, ◌∙◌, ⊎_elim, arith, mul-le-mul_right, add-mul}
use Rattle.std.specs.Prelude.{not, min, nat_lt, find, option_to_list}
use Rattle.std.specs.List.{flat_map, range_with_len, AllByRecursion}
use Rattle.std.proofs.lemmas.Bool.{cases_Bool, cases_eq, cases_lt, cond-true, cond-false, eq-eqb, ne_eqb, lt-ltb}
use Rattle.std.proofs.lemmas.Bool.{true≢false, false_from_ne_true, ltb-true}
use Rattle.std.proofs.lemmas.List.FromFn.{get_or-map-range_with_len, length-map-range_with_len}
use Rattle.std.proofs.lemmas.Nat.{div-add-mod', mod_below}
use Rattle.std.proofs.lemmas.Option.{same_Some}
use Rattle.plp_config.specs.Places.{places}
use Rattle.plp_config.specs.Rules.Rule.{SuperframeLength}
use Rattle.t2mi_packet.specs.declared.packet.Body.{Body}
use Rattle.open_group.specs.Sent.{held_bytes}
use Rattle.open_group.specs.Written.{dynamic_in}
use Rattle.frame_writer.specs.Carried.{of_frame}
use Rattle.frame_writer.specs.FramePackets.{packets_from}
use Rattle.gateway_core.specs.Packets.{frame_bodies, front_packets, packets_of as run_packets_of}
use Rattle.stream_laws.specs.Remade.{view_bodies}
use Rattle.stream_laws.proofs.AgainLemmas.{frame_again}
use Rattle.spaced_frames.specs.Spaced.{SentFrame, spacers, spacers_behind, spacers_between, spaced, spaced_behind}
use Rattle.terms.proofs.OptionLemmas.{none_some, none_if_not}
use Rattle.plp_config.specs.Capacity.{IsPlan}
use Rattle.plp_config.specs.InterleavingFrames.{is_first, begin_of}
use Rattle.plp_config.specs.declared.config.Config.{Config}
use Rattle.mode_adapt.specs.Blocks.{own_blocks, told_counts}
use Rattle.t2mi_packet.specs.declared.packet.Packet.{Packet}
use Rattle.frame_groups.specs.Groups.{Group}
use Rattle.frame_groups.specs.Modulated.{Numbered}
use Rattle.frame_groups.specs.Begun.{packets_at}
use Rattle.frame_groups.specs.Carried.{right_blocks}
use Rattle.frame_groups.specs.Tests.{packets_fault, group_fault, rules}
use Rattle.frame_groups.proofs.BegunLemmas.{at_own, at_other}
use Rattle.stream_laws.specs.SentFrames.{run_length}
use Rattle.stream_laws.specs.FrameLaws.{FramesAreStream}
use Rattle.stream_laws.specs.DamageLaws.{LaterNear}
use Rattle.t2mi_stream.specs.Laws.{AcceptedFront, UnitReads}
use Rattle.t2mi_stream.specs.Pipe.{pipe}
use Rattle.t2mi_stream.specs.SurvivorLaws.{AcceptedSurvive, KeptUndamaged}
use Rattle.ts_packet.specs.TsFile.{joined}
use Rattle.mended_frames.specs.Feeds.{all_of}
use Rattle.stream_laws.specs.Types.{TypesFit}
use Rattle.stream_laws.proofs.BegunLemmas.{begun_before, begun_own}
use Rattle.stream_laws.proofs.CarriedLemmas.{HasFrame}
use Rattle.stream_laws.proofs.PassLemmas.{own_few, passes}
use Rattle.stream_laws.proofs.ArriveLemmas.{all_left}
use Rattle.feed_events.specs.FeedEvents.{FeedEvent, feed_events}
use Rattle.mended_frames.specs.Picks.{Coming, Picked, waits_by, one_waits, number_next, lesser, least_next, group_next}
use Rattle.mended_frames.specs.Picks.{groups_next, all_behind, picked_of, pick_next, picked_from, events_in}
use Rattle.mended_frames.specs.Mended.{Made, passes as test_passes, made_as, made_of, past_with, low_of}
use Rattle.mended_frames.specs.Mended.{taking, mended, frame_of, frames_of, packets_of}
use Rattle.network_laws.specs.FeedsOfRun.{run_packets, CameOf, IsOfRun, AreOfRun, run_event, run_events, WholeFeedMade}
use Rattle.network_laws.specs.FeedsOfRun.{WholeStreamMended, run_frame}
use Rattle.network_laws.proofs.RunEventLemmas.{run_stream_events}
use Rattle.mended_frames.proofs.PickLemmas.{passes_least}
use Rattle.network_laws.proofs.FeedEventLemmas.{OneOf, one_among, behind_all, least_is, all_groups}
use Rattle.network_laws.proofs.HonestGroupLemmas.{RunLaws, view_is, whole_has, run_has}

-- ---- the least of the numbers that are next

lesser_most : (a b : Option ℕ) (m : ℕ) → (a ≡ Some m) ⊎ (b ≡ Some m) → (n : ℕ) × (lesser a b ≡ Some n) × (n ≤ m)
lesser_most None b m w = ⊎_elim (λ (e : None ≡ Some m). none_some m e) (λ (e : b ≡ Some m). (m, e, omega arith)) w
lesser_most (Some x) None m w = ⊎_elim
    (λ (e : Some x ≡ Some m). (x, refl, (omega (arith, same_Some x m e))))
    (λ (e : None ≡ Some m). none_some m e) w
lesser_most (Some x) (Some y) m w = (
  min x y,
  refl,
  ⊎_elim
      (λ (e : Some x ≡ Some m). omega (arith, same_Some x m e))
      (λ (e : Some y ≡ Some m). omega (arith, same_Some y m e)) w,
)

-- it is no more than that of each feed
pub least_most : (k : ℕ) (feeds : ℕ → Coming) (i m : ℕ) → i < k → number_next (feeds i).events ≡ Some m
    → (n : ℕ) × (least_next k feeds ≡ Some n) × (n ≤ m)
least_most zero feeds i m l e = absurd (omega arith)
least_most (suc k) feeds i m l e = ⊎_elim
    (λ (s : i < k).
    let r = least_most k feeds i m s e in
    let t = lesser_most (least_next k feeds) (number_next (feeds k).events) r.0 (inl r.1) in
    (t.0, t.1, omega arith))
    (λ (s : k ≤ i).
    let same : i ≡ k = omega arith in
    lesser_most (least_next k feeds) (number_next (feeds k).events) m
    (inr (ap (λ (j : ℕ). number_next (feeds j).events) (sym same) ∙ e))) (cases_lt i k)

-- ---- what is left is of the run

module _ (laws : RunLaws) (c : Config) (inputs : ℕ → List (List ℕ)) (plan : IsPlan c) (types : TypesFit c) where
  abbrev count : ℕ
  count = run_length c inputs

  feeds_behind : (number : Option ℕ) (silent : Bool) (k : ℕ) (feeds : ℕ → Coming) → AreOfRun c inputs k feeds
      → AreOfRun c inputs k (all_behind number silent feeds)
  feeds_behind number silent k feeds h = record {
    events = λ i l. behind_all (IsOfRun c inputs) number silent (feeds i).events (h.events i l);
    over = h.over;
  }

  none_waits : (k j : ℕ) (feeds : ℕ → Coming) → j ≤ k → AreOfRun c inputs k feeds → one_waits j feeds ≡ false
  none_waits k zero feeds l h = refl
  none_waits k (suc j) feeds l h =
      rw (none_waits k j feeds (omega arith) h, go (feeds j).events (h.over j (omega arith)))
    where
      go : (es : List FeedEvent) → (feeds j).over ≡ true → waits_by es (feeds j).over ≡ false
      go [] e = ap not e
      go (x ∷ es) e = refl

  -- ---- frames of the run one behind another, spaced

  -- the last frame is the one before
  abbrev IsBefore : Option ℕ → ℕ → Type 0
  IsBefore None m = Unit {0}
  IsBefore (Some b) m = b + 1 ≡ m

  no_spacers : (last : Option ℕ) (m : ℕ) → IsBefore last m → spacers c last m ≡ []
  no_spacers None m h = refl
  no_spacers (Some b) m h =
      ap (spacers_behind c (b / c.frames))
      (let l = next_superframe b m h in let e : spacers_between (b / c.frames) (m / c.frames)
      ≡ 0 = omega arith in e)
    where
      next_superframe : (b m : ℕ) → b + 1 ≡ m → m / c.frames ≤ b / c.frames + 1
      next_superframe b m h = ⊎_elim
          (λ (far : b / c.frames + 1 < m / c.frames).
          let f : ℕ = c.frames in
          let some : (2 ≤ f) × (f ≤ 255) = plan.rules SuperframeLength in
          let x : b / f * f + b % f ≡ b = div-add-mod' b f in
          let y : m / f * f + m % f ≡ m = div-add-mod' m f in
          let r = mod_below b f (omega arith) in
          let g : (b / f + 2) * f ≤ m / f * f = mul-le-mul_right f (omega arith) in
          let d : (b / f + 2) * f ≡ b / f * f + 2 * f = add-mul (b / f) 2 f in
          absurd (omega arith))
          (λ (near : m / c.frames ≤ b / c.frames + 1). near) (cases_lt (b / c.frames + 1) (m / c.frames))

  pub run_spaced : (last : Option ℕ) (j m : ℕ) → IsBefore last m
      → spaced_behind c last (map (run_frame c inputs) (range_with_len m j))
      ≡ flat_map (λ i. map (λ (body : Body). (i, body))
      (frame_bodies c i (told_counts c inputs i) (own_blocks c inputs i))) (range_with_len m j)
  run_spaced last zero m h = refl
  run_spaced last (suc j) m h =
      let own : List (ℕ × Body) = of_frame m (run_frame c inputs m).bodies in
      ap (λ (l : List (ℕ × Body)). l ++ (own ++ spaced_behind c (Some m)
      (map (run_frame c inputs) (range_with_len (m + 1) j))))
      (no_spacers last m h)
      ∙ ap (λ (l : List (ℕ × Body)). own ++ l) (run_spaced (Some m) j (m + 1) refl)

  -- ---- what is made

  -- Of each frame below one it was made, and none is above.
  pub record Gone (m : ℕ) (past : List Numbered) : Type 0 where
    pub low : low_of past ≡ m
    pub frames : (b : ℕ) → b < m → HasFrame c inputs b (packets_at past b)

  -- Of the frames that were made before one each has what the run's frame has.
  abbrev pub PastOfRun : ℕ → List Numbered → Type 0
  PastOfRun n past = (b : ℕ) → b < n → (packets_at past b ≡ []) ⊎ HasFrame c inputs b (packets_at past b)

  -- Those were made in which an interleaving frame began that it carries.
  abbrev pub BegunMade : ℕ → List Numbered → Type 0
  BegunMade n past = (plp : ℕ) → plp < length c.plps → is_first c plp n ≡ false
      → HasFrame c inputs (begin_of c plp n) (packets_at past (begin_of c plp n))

  -- what has the frame passes behind them
  pub passes_behind : (n : ℕ) (past : List Numbered) (packets : List Packet) → PastOfRun n past → BegunMade n past
      → HasFrame c inputs n packets → packets_fault c past n packets ≡ None
  passes_behind n past packets of begun has =
      passes laws.given c inputs n plan types past
      (λ b below is plp inside. ⊎_elim
      (λ (none : packets_at past b ≡ []).
      let e : length (right_blocks c plp (packets_at past b)) ≡ 0 =
      ap (λ (l : List Packet). length (right_blocks c plp l)) none in
      omega arith)
      (λ (h : HasFrame c inputs b (packets_at past b)).
      let e = ap length (h.right plp inside) in
      omega (arith, own_few laws.given c inputs b plan types plp inside)) (of b below))
      (λ plp inside later.
      let h = begun plp inside later in
      let is = begun_own laws.given.laws c inputs plp n plan.rules inside in
      (h.blocks plp inside ∙ is, h.right plp inside ∙ is)) packets has

  -- so it does behind all frames before it
  frame_passes : (m : ℕ) (past : List Numbered) (packets : List Packet) → Gone m past → HasFrame c inputs m packets
      → packets_fault c past m packets ≡ None
  frame_passes m past packets gone has =
      passes_behind m past packets (λ b below. inr (gone.frames b below))
      (λ plp inside later. gone.frames (begin_of c plp m) (begun_before c plp m later)) has

  -- what is so of all groups of a number
  abbrev GroupOf : ℕ → Group → Type 0
  GroupOf n g = CameOf (run_packets c inputs n) g.packets

  groups_of : (n k : ℕ) (feeds : ℕ → Coming) → AreOfRun c inputs k feeds
      → AllByRecursion (GroupOf n) (groups_next n k feeds)
  groups_of n k feeds h = all_groups (AllByRecursion (IsOfRun c inputs)) (GroupOf n) n
      (λ x events h e. rw e h.0.1) k feeds h.events

  -- a group that passes is found among groups of which one does
  pub data Finds (m : ℕ) (past : List Numbered) (gs : List Group) : Type 0 where
    Found : (g : Group) → find (test_passes c past m) gs ≡ Some g → HasFrame c inputs m g.packets → Finds m past gs

  finds_first : (m : ℕ) (past : List Numbered) (g : Group) (gs : List Group) → m < count → GroupOf m g
      → (test_passes c past m g ≡ false → Finds m past gs) → Finds m past (g ∷ gs)
  finds_first m past g gs l own rest = ⊎_elim
      (λ (t : test_passes c past m g ≡ true).
      Found g (cond-true (test_passes c past m g) (Some g) (find (test_passes c past m) gs) t)
      (whole_has laws c inputs plan types m g.packets l own past (none_if_not (group_fault c past g m) t)))
      (λ (t : test_passes c past m g ≡ false). later t (rest t)) (cases_Bool (test_passes c past m g))
    where
      later : test_passes c past m g ≡ false → Finds m past gs → Finds m past (g ∷ gs)
      later t (Found h e has) = Found h
          (cond-false (test_passes c past m g) (Some g) (find (test_passes c past m) gs) t ∙ e) has

  -- a group with all packets of the frame passes
  whole_passes : (m : ℕ) (past : List Numbered) (g : Group) → m < count → Gone m past → g.packets
      ≡ run_packets c inputs m
      → test_passes c past m g ≡ true
  whole_passes m past g l gone is =
      rw (frame_passes m past g.packets gone (rw is (run_has laws c inputs plan types m l)))

  -- so one is found among groups of which one has all
  abbrev HasWhole : ℕ → List Group → Type 0
  HasWhole m gs = OneOf (λ (g : Group). g.packets ≡ run_packets c inputs m) gs

  finds : (m : ℕ) (past : List Numbered) (gs : List Group) → m < count → Gone m past → AllByRecursion (GroupOf m) gs
      → HasWhole m gs → Finds m past gs
  finds m past [] l gone all h = absurd h
  finds m past (g ∷ gs) l gone all h =
      finds_first m past g gs l all.0
      (λ t. ⊎_elim
      (λ (is : g.packets ≡ run_packets c inputs m). absurd (true≢false (sym (whole_passes m past g l gone is) ∙ t)))
      (λ (more : HasWhole m gs). finds m past gs l gone all.1 more) h)

  -- the events of the whole feed from one frame on
  abbrev rest_events : ℕ → ℕ → List FeedEvent
  rest_events m j = map (run_event c inputs) (range_with_len m j)

  whole_next : (m j : ℕ) (events : List FeedEvent) → events ≡ rest_events m (suc j) → HasWhole m (group_next m events)
  whole_next m j events e =
      rw e (rw (cond-true {A = List Group} (m == m) (_ ∷ []) [] (eq-eqb m m refl)) (inl refl))

  -- ---- all frames are made

  -- Frames one behind another that have what the run's frames have.
  abbrev pub AreRunFrames : ℕ → ℕ → List Made → Type 0
  AreRunFrames m zero made = made ≡ []
  AreRunFrames m (suc j) [] = ⊥
  AreRunFrames m (suc j) (x ∷ made) = (x.number ≡ m) × HasFrame c inputs m x.group.packets
      × ((past : List Numbered) × (packets_fault c past m x.group.packets ≡ None)) × AreRunFrames (m + 1) j made

  abbrev picks : ℕ → ℕ → List Numbered → (ℕ → Coming) → List Made
  picks steps k past feeds = picked_from (taking c) steps k past feeds

  abbrev next_step : Option ℕ → ℕ → ℕ → List Numbered → (ℕ → Coming) → List Made
  next_step o steps k past feeds = pick_next (taking c) o k past feeds (λ past feeds. picks steps k past feeds)

  pub step_is : (steps k : ℕ) (past : List Numbered) (feeds : ℕ → Coming) → AreOfRun c inputs k feeds
      → picks (suc steps) k past feeds ≡ next_step (least_next k feeds) steps k past feeds
  step_is steps k past feeds h =
      rw (none_waits k k feeds (omega arith) h)

  late : (n steps k m : ℕ) (past : List Numbered) (feeds : ℕ → Coming) → low_of past ≡ m → n < m
      → next_step (Some n) steps k past feeds ≡ picks steps k past (all_behind (Some n) false feeds)
  late n steps k m past feeds e l =
      rw (lt-ltb n (low_of past) (omega arith))

  -- none behind the last
  none_more : (steps k : ℕ) (past : List Numbered) (feeds : ℕ → Coming) → low_of past ≡ count
      → AreOfRun c inputs k feeds → picks steps k past feeds ≡ []
  none_more zero k past feeds low h = refl
  none_more (suc steps) k past feeds low h =
      step_is steps k past feeds h ∙ go (least_next k feeds) refl (λ feeds h. none_more steps k past feeds low h)
    where
      go : (o : Option ℕ) → least_next k feeds ≡ o
          → ((feeds : ℕ → Coming) → AreOfRun c inputs k feeds → picks steps k past feeds ≡ [])
          → next_step o steps k past feeds ≡ []
      go None e rest = rest (all_behind None true feeds) (feeds_behind None true k feeds h)
      go (Some n) e rest =
          late n steps k count past feeds low
          (least_is (AllByRecursion (IsOfRun c inputs)) (λ i. i < count) (λ x es h. h.0.0) k n feeds h.events e)
          ∙ rest (all_behind (Some n) false feeds) (feeds_behind (Some n) false k feeds h)

  gone_more : (m : ℕ) (past : List Numbered) (g : Group) → Gone m past → HasFrame c inputs m g.packets
      → Gone (m + 1) (record { number = m; group = g } ∷ past)
  gone_more m past g gone has =
      let x : Numbered = record { number = m; group = g } in
      record {
        low = refl;
        frames = λ b l. ⊎_elim
            (λ (e : m ≡ b). rw (← e) (rw (at_own x past) has))
            (λ (ne : m ≡ b → ⊥). rw (at_other x past b ne) (gone.frames b (omega arith))) (cases_eq m b);
      }

  -- one is made of those that are next
  made_now : (m j steps k : ℕ) (past : List Numbered) (feeds : ℕ → Coming) → Gone m past
      → Finds m past (groups_next m k feeds)
      → ((g : Group) → HasFrame c inputs m g.packets
      → AreRunFrames (m + 1) j (picks steps k (record { number = m; group = g } ∷ past)
      (all_behind (Some m) true feeds)))
      → AreRunFrames m (suc j) (next_step (Some m) steps k past feeds)
  made_now m j steps k past feeds gone (Found g e has) rest =
      let p : Picked = picked_of m k feeds in
      let x : Made = made_as m false g in
      let is : made_of c past p ≡ Some x = rw e in
      let more : Option Made → List Made =
      λ o. option_to_list o ++ picks steps k (past_with past o) (all_behind (Some m) true feeds) in
      let step : next_step (Some m) steps k past feeds ≡ more (Some x) =
      rw (false_from_ne_true (nat_lt m (low_of past)) (λ t. omega (arith, ltb-true m (low_of past) t)), is) in
      rw step (refl, has, (past, frame_passes m past g.packets gone has), rest g has)

  all_made : (steps j k w m : ℕ) (past : List Numbered) (feeds : ℕ → Coming) → m + j ≡ count → w < k → Gone m past
      → AreOfRun c inputs k feeds → (feeds w).events ≡ rest_events m j → events_in k feeds ≤ steps
      → AreRunFrames m j (picks steps k past feeds)
  all_made steps zero k w m past feeds end l gone h e fuel =
      none_more steps k past feeds (omega arith) h
  all_made zero (suc j) k w m past feeds end l gone h e fuel =
      let least = least_most k feeds w m l (ap number_next e) in
      absurd (omega (arith, passes_least false least.0 k feeds least.1))
  all_made (suc steps) (suc j) k w m past feeds end l gone h e fuel =
      let low = gone.low in
      let least = least_most k feeds w m l (ap number_next e) in
      let n : ℕ = least.0 in
      let next = least.1 in
      rw (step_is steps k past feeds h ∙ ap (λ (o : Option ℕ). next_step o steps k past feeds) next) (⊎_elim
      (λ (s : n < m). rw (late n steps k m past feeds low s)
      (all_made steps (suc j) k w m past (all_behind (Some n) false feeds) end l gone
      (feeds_behind (Some n) false k feeds h) (simp (e, ne_eqb n m (λ same. omega arith)))
      (omega (arith, passes_least false n k feeds next))))
      (λ (s : m ≤ n).
      let same : n ≡ m = omega arith in
      let here : least_next k feeds ≡ Some m = next ∙ ap (λ (i : ℕ). Some i) same in
      let inside : m < count = omega arith in
      rw same (made_now m j steps k past feeds gone
      (finds m past (groups_next m k feeds) inside gone (groups_of m k feeds h)
      (one_among (λ (g : Group). g.packets ≡ run_packets c inputs m) (λ i. group_next m (feeds i).events) w k 0
      (omega arith)
      (omega arith) (whole_next m j (feeds w).events e)))
      (λ g has.
      all_made steps j k w (m + 1) (record { number = m; group = g } ∷ past) (all_behind (Some m) true feeds)
      (omega arith) l (gone_more m past g gone has) (feeds_behind (Some m) true k feeds h) (rw (e, eq-eqb m m refl))
      (omega (arith, passes_least true m k feeds here))))) (cases_lt n m))

  -- ---- and sent

  pub sent_as_run : (m : ℕ) (x : Made) (past : List Numbered) → x.number ≡ m → HasFrame c inputs m x.group.packets
      → packets_fault c past m x.group.packets ≡ None → frame_of c x ≡ run_frame c inputs m
  sent_as_run m x past is has pass =
      let packets : List Packet = x.group.packets in
      let lists : List (List (List ℕ)) = map (λ plp. map held_bytes (right_blocks c plp packets)) (places c) in
      ap (λ (i : ℕ). frame_of c (record { number = i; group = x.group; is_woven = x.is_woven })) is
      ∙ ap (λ (l : List Body). record { number = m; bodies = l })
      (laws.shown c past m packets (dynamic_in packets) lists plan pass (record {
        dynamic_is = refl;
        plps = length-map-range_with_len (λ plp. map held_bytes (right_blocks c plp packets)) 0 (length c.plps);
        blocks = λ plp inside.
            get_or-map-range_with_len (λ j. map held_bytes (right_blocks c j packets)) 0 (length c.plps) plp plp []
            inside (omega arith);
      })
      ∙ ap (view_bodies c m) (view_is laws c inputs plan types m packets has)
      ∙ frame_again laws.given.numbers laws.scrambles laws.given.field laws.bits laws.post laws.size c inputs plan m)

  frames_are : (j m : ℕ) (made : List Made) → AreRunFrames m j made → frames_of c made
      ≡ map (run_frame c inputs) (range_with_len m j)
  frames_are zero m made h = ap (frames_of c) h
  frames_are (suc j) m [] h = absurd h
  frames_are (suc j) m (x ∷ made) h =
      rw (sent_as_run m x h.2.0 h.0 h.1 h.2.1, frames_are j (m + 1) made h.3)

  pub whole_made : (k w : ℕ) (feeds : ℕ → Coming) → w < k → AreOfRun c inputs k feeds → (feeds w).events
      ≡ run_events c inputs
      → packets_of c (mended c k feeds) ≡ run_packets_of c inputs
  unfolding mended spaced front_packets
  whole_made k w feeds l h e =
      ap (λ (frames : List SentFrame). packets_from c 0 (spaced_behind c None frames))
      (frames_are count 0 (picks (events_in k feeds) k [] feeds)
      (all_made (events_in k feeds) count k w 0 [] feeds (omega arith) l
      (record { low = refl; frames = λ b less. absurd (omega arith) }) h e (omega arith)))
      ∙ ap (packets_from c 0) (run_spaced None count 0 tt)

pub whole_feed_made : RunLaws → WholeFeedMade
whole_feed_made laws c inputs k whole feeds plan types of inside is =
    whole_made laws c inputs plan types k whole feeds inside of is

-- ---- streams

-- all packets of the run's frames are of the run
own_events : (c : Config) (inputs : ℕ → List (List ℕ)) (j m : ℕ) → m + j ≤ run_length c inputs
    → AllByRecursion (IsOfRun c inputs) (map (run_event c inputs) (range_with_len m j))
own_events c inputs zero m l = tt
own_events c inputs (suc j) m l = (
  (
    omega arith,
    record {
      flags = replicate (length (run_packets c inputs m)) true;
      are = sym (all_left (run_packets c inputs m));
    },
  ),
  own_events c inputs j (m + 1) (omega arith),
)

pub whole_stream_mended : RunLaws → AcceptedFront → UnitReads → AcceptedSurvive → KeptUndamaged → LaterNear
    → FramesAreStream → WholeStreamMended
whole_stream_mended laws front reads survive undamaged near stream c inputs k whole streams plan types most inside is
    others =
    let own : feed_events (rules c) true (streams whole) ≡ run_events c inputs =
    rw (
      is,
      run_stream_events front reads survive undamaged laws.groups near stream laws.named c inputs plan
          types.ids most (run_has laws c inputs plan types),
    ) in
    ap (λ (packets : List (List ℕ)). joined (pipe c.pid packets))
    (whole_made laws c inputs plan types k whole (all_of c streams) inside
    (record {
      events = λ i l. ⊎_elim
          (λ (e : i ≡ whole). rw (ap (λ (j : ℕ). feed_events (rules c) true (streams j)) e ∙ own)
          (own_events c inputs (run_length c inputs) 0 (omega arith)))
          (λ (e : i ≡ whole → ⊥). others i l e) (cases_eq i whole);
      over = λ i l. refl;
    }) own)
