-- Frames that were made: their numbers are small, each passes, as it is sent, behind what was sent, and the records
-- that come of them are those of the frames.
use Rattle.std.proofs.Common.{◌≡◌, ℕ, ◌+◌, ◌<◌, ◌&&◌, Bool, true, false, List, [], ◌∷◌, Option, Some, None, refl, ◌%◌}
use Rattle.std.proofs.Common.{◌≤◌, ◌==◌, length, map, get_or, ap, sym, subst, ◌∙◌, ⊎_elim, arith, zero, suc, ◌-◌, ◌*◌}
use Rattle.std.proofs.Common.{◌/◌, cond, ◌++◌, ap₂, append_assoc, mul-le-mul_right, add-mul, ◌^◌}
use Rattle.std.specs.Prelude.{IfSome, nat_lt, option_map, slice_index, is_some}
use Rattle.std.specs.Option.{option_or, option_map_or}
use Rattle.std.specs.List.{AllByRecursion, list_all, range_with_len}
use Rattle.std.proofs.lemmas.Bool.{and_parts, ltb-true, cond_both, cases_eq, cond-false, eq-eqb, eqb-true, le-leb}
use Rattle.std.proofs.lemmas.Bool.{cases_Bool, cond-true, true≢false}
use Rattle.terms.proofs.AllLemmas.{all_append}
use Rattle.plp_config.specs.Rules.{AllRules}
use Rattle.plp_config.specs.declared.config.Config.{Config}
use Rattle.plp_config.specs.declared.moment.TheConstants.{MOST_FRAMES}
use Rattle.t2mi_packet.specs.declared.packet.Packet.{Packet}
use Rattle.frame_groups.specs.Groups.{Group, groups, is_same}
use Rattle.frame_groups.specs.Numbers.{frame_key, next_number}
use Rattle.frame_groups.specs.declared.key.Key.{Key}
use Rattle.frame_groups.specs.TestLaws.{FrameNamed}
use Rattle.frame_groups.specs.Tests.{named_frame, rules, room_test, pool_chunks, pool_test}
use Rattle.frame_groups.specs.Tests.{missing_test, l1_test, time_test, first_shape, has_begun, has_count, has_counts}
use Rattle.frame_groups.specs.Tests.{is_known, blocks_test, map_test, packets_fault, group_fault}
use Rattle.feed_events.specs.Arrivals.{arrivals}
use Rattle.feed_events.specs.FeedEvents.{FeedEvent, has_stamp, number_after, number_of, event_of, numbered_from}
use Rattle.feed_events.specs.FeedEvents.{between_idle, closed_of, events_between, feed_events}
use Rattle.feed_events.specs.FeedEvents.FeedEvent.{Has, Silent}
use Rattle.mended_frames.specs.Picks.{picked_of, events_in}
use Rattle.mended_frames.specs.Feeds.{all_of, made_of_all}
use Rattle.mended_frames.specs.Mended.{Made, made_as, own_of, woven_of, mended, frame_of, with_made, frames_of}
use Rattle.network_laws.proofs.FeedEventLemmas.{least_is, all_made}
use Rattle.std.proofs.lemmas.Option.{same_Some}
use Rattle.terms.proofs.OptionLemmas.{none_some, none_if}
use Rattle.std.proofs.lemmas.List.FromFn.{length-range_with_len, get_or-range_with_len, get_or-map-range_with_len}
use Rattle.std.proofs.lemmas.List.FromFn.{length-map-range_with_len}
use Rattle.std.proofs.lemmas.List.Sums.{AllPass-from_list_all}
use Rattle.bb_frame.specs.Laws.{BitCounts, ScramblesBack}
use Rattle.plp_config.specs.Capacity.{IsPlan}
use Rattle.plp_config.specs.InterleavingFrames.{is_first, begin_of}
use Rattle.plp_config.specs.Places.{places}
use Rattle.scheduler.specs.Shape.{FrameShape}
use Rattle.l1_signal.specs.L1Of.{told_shape}
use Rattle.l1_signal.specs.Laws.{PreBitsLength}
use Rattle.l1_signal.specs.declared.dynamic.L1Dyn.{L1Dyn}
use Rattle.frame_groups.specs.Modulated.{Numbered, FrameRecord, content_of, group_record, gap_record, gaps_between}
use Rattle.frame_groups.specs.Modulated.{passing, join_number, past_with, own_record, records_from}
use Rattle.frame_groups.specs.Modulated.{modulated, unless_fault}
use Rattle.frame_groups.specs.declared.cause.MuteCause.{MuteCause}
use Rattle.frame_groups.specs.declared.cause.MuteCause.TheVariants.{PacketMissing}
use Rattle.frame_groups.specs.Begun.{packets_at}
use Rattle.frame_groups.specs.Carried.{blocks_of, right_blocks}
use Rattle.frame_groups.specs.Readable.{told_dynamic}
use Rattle.frame_groups.proofs.BegunLemmas.{no_need, at_own, at_other}
use Rattle.open_group.specs.Front.{post_with}
use Rattle.open_group.specs.Sent.{held_bytes}
use Rattle.open_group.specs.Written.{dynamic_in, packets_view}
use Rattle.open_group.proofs.RoomLemmas.{none_first, none_behind}
use Rattle.stream_laws.specs.Carrying.{blocks_in, plp_num_blocks, ComesBack, FrameComesBack}
use Rattle.stream_laws.specs.FormedLaws.{ShownIsSent}
use Rattle.stream_laws.specs.Remade.{view_bodies, NumberedView}
use Rattle.stream_laws.proofs.BackLemmas.{view_carries, counted_view}
use Rattle.stream_laws.proofs.FormedLemmas.{told, shape_is, first_is, dynamic_is}
use Rattle.stream_laws.proofs.MadeLemmas.{frame_blocks}
use Rattle.stream_laws.proofs.PassedLemmas.{Passed, passed}
use Rattle.stream_laws.proofs.FormedSignalLemmas.{Knows, told_is, dynamic_read}
use Rattle.stream_laws.proofs.BegunLemmas.{Interleaving, begun_late}
use Rattle.network_laws.proofs.RowGroupLemmas.{row_packets, row_carries, IsStep, AreSteps, row_group, row_groups}
use Rattle.network_laws.proofs.RowGroupLemmas.{rows_grouped, stamp_row, stamp_rows, rows_between, made_rows}
use Rattle.network_laws.proofs.RowGroupLemmas.{spaced_rows, all_rows, all_steps, RiseSome, rows_bodies}
use Rattle.std.proofs.lemmas.List.{map-append}
use Rattle.std.proofs.lemmas.Nat.{mod_below}
use Rattle.terms.proofs.RangeLemmas.{range_append}
use Rattle.plp_config.specs.Rules.Rule.{SuperframeLength, UtcOffset}
use Rattle.t2mi_packet.specs.declared.packet.Body.{Body}
use Rattle.frame_groups.specs.Laws.{NextIsFound}
use Rattle.stream_laws.specs.SentPackets.{packets_of}
use Rattle.stream_laws.specs.SentFrames.{sent_from}
use Rattle.stream_laws.proofs.SentLemmas.{Earlier}
use Rattle.spaced_frames.specs.Spaced.{SentFrame, first_frame, spacers_between, spaced}
use Rattle.mended_frames.specs.Laws.{PassBehind, MadePass, MadeRise}
use Rattle.network_laws.specs.MendedRun.{made_record, muted_record, muted_between, records_behind, mended_records}
use Rattle.network_laws.specs.MendedRun.{due_record, MendedComesBack}
use Rattle.std.proofs.Math.Nat.{div-mul-le_self, mul-le-mul_right}
use Rattle.std.proofs.lemmas.Simd.{map-map}
use Rattle.bit_slice.specs.Crc.{crc32_of}
use Rattle.plp_config.specs.Laws.{EmissionFits, FieldRange}
use Rattle.ts_packet.specs.TsFile.{joined}
use Rattle.t2mi_packet.specs.Laws.{WrittenIsRead, WrittenLength, SpellIs}
use Rattle.t2mi_stream.specs.Accepted.{AcceptedPacket}
use Rattle.t2mi_stream.specs.Laws.{ArePackets}
use Rattle.t2mi_stream.specs.Pipe.{pipe}
use Rattle.t2mi_stream.specs.SurvivorLaws.{AcceptedSurvive, KeptUndamaged}
use Rattle.t2mi_stream.specs.Units.{accepted_of}
use Rattle.record_laws.specs.Frames.{HasByteIds}
use Rattle.modulator.specs.Modulating.{packet_of}
use Rattle.modulator.specs.StandsFor.{records_of}
use Rattle.frame_writer.specs.Carried.{of_frame}
use Rattle.frame_writer.specs.FramePackets.{packets_from}
use Rattle.stream_laws.proofs.FitLemmas.{IsFit, PairFits, bw_fits, pairs_fit, plan_range}
use Rattle.stream_laws.proofs.ReadLemmas.{spelled_from, reads_from}
use Rattle.stream_laws.proofs.ByteLemmas.{fit_frame, accepted_are}
use Rattle.spaced_frames.specs.Laws.{Rise, RiseFrom}

-- ---- the events of a feed

abbrev pub IsSmall : FeedEvent → Type 0
IsSmall (Has x) = x.number < MOST_FRAMES
IsSmall Silent = Unit {0}

abbrev pub AreSmall : List FeedEvent → Type 0
AreSmall events = AllByRecursion IsSmall events

abbrev Below : Option ℕ → Type 0
Below o = IfSome o (λ n. n < MOST_FRAMES)

after_small : (frames : ℕ) (last : Option ℕ) (key : Key) → Below (number_after frames last key)
after_small frames None key = tt
after_small frames (Some n) key =
    cond_both {A = Option ℕ} (nat_lt (n + 1) MOST_FRAMES && is_same (frame_key frames (n + 1)) key) _ _ Below
    (λ e. ltb-true (n + 1) MOST_FRAMES
    (and_parts (nat_lt (n + 1) MOST_FRAMES) (is_same (frame_key frames (n + 1)) key) e).0) (λ e. tt)

module _ (named : FrameNamed) (c : Config) (all : AllRules c) where
  named_small : (g : Group) → Below (named_frame c g)
  named_small g = go (named_frame c g) refl
    where
      go : (o : Option ℕ) → named_frame c g ≡ o → Below o
      go None e = tt
      go (Some n) e = ((named c g n all).0 e).small

  number_small : (last : Option ℕ) (g : Group) → Below (number_of (rules c) last g)
  number_small last g =
      cond_both {A = Option ℕ} (has_stamp g.packets) _ _ Below (λ t. named_small g)
      (λ t. after_small c.frames last g.key)

  event_small : (o : Option ℕ) (g : Group) → Below o → AreSmall (event_of o g)
  event_small None g h = tt
  event_small (Some n) g h = (h, tt)

  numbered_small : (last : Option ℕ) (gs : List Group) → AreSmall (numbered_from (rules c) last gs)
  numbered_small last [] = tt
  numbered_small last (g ∷ gs) =
      let o : Option ℕ = number_of (rules c) last g in
      all_append IsSmall (event_of o g) (numbered_from (rules c) o gs) (event_small o g (number_small last g))
      (numbered_small o gs)

  between_small : (ended : Bool) (parts : List (List Packet)) → AreSmall (events_between (rules c) ended parts)
  between_small ended [] = tt
  between_small ended (ps ∷ []) = numbered_small None (closed_of ended (groups c.frames ps))
  between_small ended (ps ∷ qs ∷ more) =
      all_append IsSmall (numbered_from (rules c) None (groups c.frames ps))
      (Silent ∷ events_between (rules c) ended (qs ∷ more)) (numbered_small None (groups c.frames ps))
      (tt, between_small ended (qs ∷ more))

  pub events_small : (ended : Bool) (bytes : List ℕ) → AreSmall (feed_events (rules c) ended bytes)
  unfolding feed_events
  events_small ended bytes = between_small ended (between_idle (arrivals c.pid bytes))

-- ---- what is picked and made

abbrev pub AllBelow : List Made → Type 0
AllBelow made = AllByRecursion (λ x. x.number < MOST_FRAMES) made

made_small : (n : ℕ) (a b : Option Group) (x : Made) → n < MOST_FRAMES
    → option_or (option_map (made_as n false) a) (option_map (made_as n true) b) ≡ Some x → x.number < MOST_FRAMES
made_small n (Some g) b x l e = rw (← same_Some (made_as n false g) x e) l
made_small n None (Some g) x l e = rw (← same_Some (made_as n true g) x e) l
made_small n None None x l e = none_some x e

pub all_below : FrameNamed → (c : Config) (k : ℕ) (streams : ℕ → List ℕ) → AllRules c
    → AllBelow (made_of_all c k streams)
unfolding mended
all_below named c k streams all =
    all_made c k IsSmall (λ x. x.number < MOST_FRAMES)
    (λ n past feeds small e x is.
    made_small n (own_of c past (picked_of n k feeds)) (woven_of c past (picked_of n k feeds)) x
    (least_is AreSmall (λ i. i < MOST_FRAMES) (λ x events h. h.0) k n feeds small e) is)
    (events_in k (all_of c streams)) [] (all_of c streams) (λ i l. events_small named c all true (streams i))

-- no packets have room
pub room_none : (c : Config) → room_test c [] ≡ None
unfolding room_test
room_none c =
    rw (no_need c, le-leb 0 (pool_chunks c) (omega arith))

-- What was sent is behind what was made: all has room, and each frame from one on has the blocks that were made of it.
pub record Follows (c : Config) (from : ℕ) (made sent : List Numbered) : Type 0 where
  pub room : (b : ℕ) → room_test c (packets_at sent b) ≡ None
  pub blocks : (b plp count : ℕ) → from ≤ b → plp < length c.plps → has_begun c plp (packets_at made b) count ≡ true
      → has_begun c plp (packets_at sent b) count ≡ true

-- None has a number from one on.
abbrev pub EndsBelow : ℕ → List Numbered → Type 0
EndsBelow low past = (b : ℕ) → low ≤ b → packets_at past b ≡ []

pub ends_with : (low : ℕ) (past : List Numbered) (x : Numbered) → EndsBelow low past → low ≤ x.number
    → EndsBelow (x.number + 1) (x ∷ past)
ends_with low past x h l b k = at_other x past b (λ e. omega arith) ∙ h b (omega arith)

-- ---- with another

-- nothing was made of what begins
pub follows_none : (c : Config) (from : ℕ) (made : List Numbered) → EndsBelow from made → Follows c from made []
follows_none c from made ends = record {
  room = λ b. room_none c;
  blocks = λ b plp count low inside h. subst (λ (l : List Packet). has_begun c plp l count ≡ true) (ends b low) h;
}

-- packets that were made of nothing, and have no blocks
pub follows_stamp : (c : Config) (from low : ℕ) (made sent : List Numbered) (x : Numbered) → Follows c from made sent
    → EndsBelow low made → low ≤ x.number → room_test c x.group.packets ≡ None
    → ((plp count : ℕ) → has_begun c plp [] count ≡ true → has_begun c plp x.group.packets count ≡ true)
    → Follows c from made (x ∷ sent)
follows_stamp c from low made sent x f ends l room blocks = record {
  room = λ b. ⊎_elim
      (λ (e : x.number ≡ b). ap (room_test c) (ap (packets_at (x ∷ sent)) (sym e) ∙ at_own x sent) ∙ room)
      (λ (ne : x.number ≡ b → ⊥). ap (room_test c) (at_other x sent b ne) ∙ f.room b) (cases_eq x.number b);
  blocks = λ b plp count low inside h. ⊎_elim
      (λ (e : x.number ≡ b). rw (ap (packets_at (x ∷ sent)) (sym e) ∙ at_own x sent)
      (blocks plp count (subst (λ (l : List Packet). has_begun c plp l count ≡ true) (ends b (omega arith)) h)))
      (λ (ne : x.number ≡ b → ⊥). rw (at_other x sent b ne) (f.blocks b plp count low inside h))
      (cases_eq x.number b);
}

-- a frame, as it was made and as it is sent
pub follows_frame : (c : Config) (from : ℕ) (made sent : List Numbered) (x y : Numbered) → Follows c from made sent
    → x.number ≡ y.number → room_test c y.group.packets ≡ None
    → ((plp count : ℕ) → plp < length c.plps → has_begun c plp x.group.packets count ≡ true
    → has_begun c plp y.group.packets count ≡ true) → Follows c from (x ∷ made) (y ∷ sent)
follows_frame c from made sent x y f same room blocks = record {
  room = λ b. ⊎_elim
      (λ (e : y.number ≡ b). ap (room_test c) (ap (packets_at (y ∷ sent)) (sym e) ∙ at_own y sent) ∙ room)
      (λ (ne : y.number ≡ b → ⊥). ap (room_test c) (at_other y sent b ne) ∙ f.room b) (cases_eq y.number b);
  blocks = λ b plp count low inside h. ⊎_elim
      (λ (e : y.number ≡ b).
      rw (ap (packets_at (y ∷ sent)) (sym e) ∙ at_own y sent) (blocks plp count inside
      (rw (← (ap (packets_at (x ∷ made)) (sym (same ∙ e)) ∙ at_own x made)) h)))
      (λ (ne : y.number ≡ b → ⊥).
      rw (at_other y sent b ne) (f.blocks b plp count low inside
      (rw (← (at_other x made b (λ e. ne (sym same ∙ e)))) h))) (cases_eq y.number b);
}

-- ---- a frame that passes

and_last : (t u : Bool) → (t && u) ≡ true → u ≡ true
and_last t u e = (and_parts t u e).1

-- ---- muted numbers

-- those between two frames, with one of them between
between_split : (c : Config) (m k n : ℕ) → m < k → k < n
    → muted_between c m n ≡ muted_between c m k ++ (muted_record c k ∷ muted_between c k n)
between_split c m k n l r =
    let whole : n - (m + 1) ≡ k - (m + 1) + suc (n - (k + 1)) = omega arith in
    let at : m + 1 + (k - (m + 1)) ≡ k = omega arith in
    ap (λ (j : ℕ). map (muted_record c) (range_with_len (m + 1) j)) whole
    ∙ ap (map (muted_record c)) (range_append (m + 1) (k - (m + 1)) (suc (n - (k + 1))))
    ∙ map-append (muted_record c) (range_with_len (m + 1) (k - (m + 1)))
    (range_with_len (m + 1 + (k - (m + 1))) (suc (n - (k + 1))))
    ∙ ap (λ (a : ℕ). muted_between c m k ++ map (muted_record c) (range_with_len a (suc (n - (k + 1))))) at

gaps_muted : (c : Config) (a k : ℕ) → map (due_record c) (map gap_record (range_with_len a k))
    ≡ map (muted_record c) (range_with_len a k)
gaps_muted c a zero = refl
gaps_muted c a (suc k) = ap (λ (l : List NumberedView). muted_record c a ∷ l) (gaps_muted c (a + 1) k)

fault_muted : (c : Config) (g : Group) (n : ℕ) (o : Option MuteCause) → is_some o ≡ true
    → due_record c (record { number = n; content = content_of g o }) ≡ muted_record c n
fault_muted c g n None e = absurd (true≢false (sym e))
fault_muted c g n (Some cause) e = refl

-- ---- a superframe of a timestamp alone

second_some : (a b d : Option MuteCause) → is_some b ≡ true → is_some (option_or a (option_or b d)) ≡ true
second_some None None d e = absurd (true≢false (sym e))
second_some None (Some y) d e = refl
second_some (Some x) b d e = refl

stamp_fails : (c : Config) (past : List Numbered) (k m n : ℕ)
    → is_some (packets_fault c past m (row_packets c k n (stamp_row c n).bodies)) ≡ true
unfolding packets_fault missing_test
stamp_fails c past k m n =
    let packets : List Packet = row_packets c k n (stamp_row c n).bodies in
    second_some (pool_test c past m packets) (missing_test c m packets)
    (option_or (l1_test c m packets)
    (option_or (time_test c m packets) (option_or (blocks_test c past m packets) (map_test c packets)))) refl

stamp_room : (c : Config) (k n : ℕ) → room_test c (row_packets c k n (stamp_row c n).bodies) ≡ None
unfolding room_test
stamp_room c k n = room_none c

passing_none : (c : Config) (g : Group) (o : Option ℕ) → ((m : ℕ) → is_some (group_fault c [] g m) ≡ true)
    → passing (rules c) g o ≡ None
passing_none c g None h = refl
passing_none c g (Some n) h = go (group_fault c [] g n) (h n)
  where
    go : (f : Option MuteCause) → is_some f ≡ true → unless_fault n f ≡ None
    go None e = absurd (true≢false (sym e))
    go (Some cause) e = refl

join_none : (c : Config) (g : Group) → ((m : ℕ) → is_some (group_fault c [] g m) ≡ true) → join_number (rules c) g
    ≡ None
join_none c g h = go (g.key.frame == 0)
  where
    go : (t : Bool) → ◌≡◌ {A = Option ℕ} (cond t (passing (rules c) g (named_frame c g)) None) None
    go true = passing_none c g (named_frame c g) h
    go false = refl

-- ---- rows with numbers

-- one group more, behind one that has a number
one_behind : NextIsFound → (c : Config) (b : Numbered) (past : List Numbered) (g : Group) (gs : List Group) (n : ℕ)
    → 0 < c.frames → g.key ≡ frame_key c.frames n → IsStep c b.number n → n < b.number + 16 * c.frames
    → records_from (rules c) (b ∷ past) (g ∷ gs)
    ≡ (gaps_between b.number n ++ (group_record (rules c) (b ∷ past) g n ∷ []))
    ++ records_from (rules c) (record { number = n; group = g } ∷ b ∷ past) gs
one_behind found c b past g gs n some key step near =
    let number : next_number c.frames b.number g.key ≡ n =
    ap (next_number c.frames b.number) key ∙ found c.frames b.number n some step.later near in
    ap (λ (k : ℕ). (gaps_between b.number k ++ (group_record (rules c) (b ∷ past) g k ∷ []))
    ++ records_from (rules c) (record { number = k; group = g } ∷ b ∷ past) gs) number

near_enough : (c : Config) (m n : ℕ) → 0 < c.frames → IsStep c m n → n < m + 16 * c.frames
near_enough c m n some s =
    let f : ℕ = c.frames in
    let near = s.near in
    let g : n / f * f ≤ (m / f + 14) * f = mul-le-mul_right f near in
    let h : (m / f + 14) * f ≡ m / f * f + 14 * f = add-mul (m / f) 14 f in
    omega (arith, mod_below n f some)

-- what is made of the records of one group and of those behind it
put_together : (c : Config) (m n : ℕ) (x : FrameRecord) (rest : List FrameRecord) (v : NumberedView)
    (views : List NumberedView)
    → due_record c x ≡ v → map (due_record c) rest ≡ views
    → map (due_record c) ((gaps_between m n ++ (x ∷ [])) ++ rest) ≡ muted_between c m n ++ (v ∷ views)
put_together c m n x rest v views e f =
    rw (
      append_assoc (gaps_between m n) (x ∷ []) rest,
      map-append (due_record c) (gaps_between m n) (x ∷ rest),
      gaps_muted c (m + 1) (n - (m + 1)),
      e,
      f,
    )

-- Each packet of a row fits its fields.
abbrev RowFits : SentFrame → Type 0
RowFits x = AllByRecursion IsFit x.bodies

rows_fit : (rows : List SentFrame) → AllByRecursion RowFits rows → AllByRecursion PairFits (rows_bodies rows)
rows_fit [] h = tt
rows_fit (x ∷ rows) h =
    all_append PairFits (of_frame x.number x.bodies) (rows_bodies rows) (pairs_fit x.number x.bodies h.0)
    (rows_fit rows h.1)

rise_behind : (c : Config) (m : ℕ) (made : List Made) → RiseFrom m (frames_of c made) → RiseSome (Some m) made
rise_behind c m [] r = tt
rise_behind c m (x ∷ made) r = (r.0, rise_behind c x.number made r.1)

rise_some : (c : Config) (made : List Made) → Rise (frames_of c made) → RiseSome None made
rise_some c [] r = tt
rise_some c (x ∷ made) r = (tt, rise_behind c x.number made r)

-- What the laws of the crates below say of frames that were made, are sent, and are received.
pub record MendLaws : Type 0 where
  pub numbers : BitCounts
  pub scrambles : ScramblesBack
  pub bits : PreBitsLength
  pub knows : Knows
  pub back : FrameComesBack
  pub shown : ShownIsSent
  pub interleaving : Interleaving
  pub found : NextIsFound
  pub named : FrameNamed
  pub bounded : (w : List Bool) → crc32_of w < 2 ^ 32
  pub spelled : SpellIs
  pub read : WrittenIsRead
  pub len : WrittenLength
  pub survive : AcceptedSurvive
  pub undamaged : KeptUndamaged
  pub emits : EmissionFits
  pub range : FieldRange
  pub passes : MadePass
  pub rises : MadeRise

module _ (laws : MendLaws) (c : Config) (plan : IsPlan c) where
  module _ (past : List Numbered) (n : ℕ) (packets : List Packet) (pass : packets_fault c past n packets ≡ None) where
    p : Passed c n packets
    p = passed c past n packets pass

    -- test e of it
    counts_pass : has_counts c past n packets (first_shape c packets) ≡ true
    unfolding packets_fault blocks_test
    counts_pass =
        let d : Option MuteCause = option_or (blocks_test c past n packets) (map_test c packets) in
        let k : Option MuteCause = option_or (time_test c n packets) d in
        let b : Option MuteCause = option_or (l1_test c n packets) k in
        let a : Option MuteCause = option_or (missing_test c n packets) b in
        let e = none_first (blocks_test c past n packets) (map_test c packets)
        (none_behind (time_test c n packets) d (none_behind (l1_test c n packets) k
        (none_behind (missing_test c n packets) b (none_behind (pool_test c past n packets) a pass)))) in
        (and_parts (has_counts c past n packets (first_shape c packets)) (list_all (is_known c) packets)
        (none_if (has_counts c past n packets (first_shape c packets) && list_all (is_known c) packets) PacketMissing
        e)).0

    -- what its record tells
    num_blocks : (plp : ℕ) → plp_num_blocks c plp (packets_view c n packets) ≡ slice_index p.l1.shape.counts plp
    num_blocks plp =
        let mine = told laws.knows c n packets p in
        ap (λ (o : Option L1Dyn). slice_index (option_map_or (λ d. (told_shape d).counts) o []) plp)
        (ap (λ (l : List Bool). told_dynamic c (post_with c l)) (dynamic_is laws.knows c n packets p)
        ∙ told_is laws.knows c n p.l1.first mine ∙ dynamic_read laws.knows c n p.l1.first mine)
        ∙ ap (λ (s : FrameShape). slice_index s.counts plp) (shape_is laws.knows c n packets p)

    -- the group in which an interleaving frame began that it carries has the blocks that it tells
    pub told_begun : (plp : ℕ) → plp < length c.plps → is_first c plp n ≡ false
        → has_begun c plp (packets_at past (begin_of c plp n)) (plp_num_blocks c plp (packets_view c n packets)) ≡ true
    told_begun plp inside later =
        let shape : FrameShape = p.l1.shape in
        let test : ℕ → Bool = λ j. has_count c past n j (length (blocks_of c j packets)) (slice_index shape.counts j) in
        let all : list_all test (places c)
        ≡ true = subst (λ (o : Option FrameShape). has_counts c past n packets o ≡ true)
        (first_is laws.knows c n packets p) counts_pass in
        let there : get_or (places c) plp 0 ≡ plp = let e = get_or-range_with_len 0 (length c.plps) plp 0 inside in
        omega arith in
        let within : plp < length (places c) = let size = length-range_with_len 0 (length c.plps) in omega
        (arith, size, inside) in
        let one : test plp ≡ true = rw (← there) (AllPass-from_list_all test (places c) all plp 0 within) in
        let t : ℕ = slice_index shape.counts plp in
        let own : ℕ = length (blocks_of c plp packets) in
        let begun : Bool = has_begun c plp (packets_at past (begin_of c plp n)) t in
        ap (has_begun c plp (packets_at past (begin_of c plp n))) (num_blocks plp)
        ∙ and_last (own == 0) begun
        (sym (cond-false {A = Bool} (is_first c plp n) (own == t) ((own == 0) && begun) later) ∙ one)

    -- its record has its blocks
    pub blocks_are : (plp : ℕ) → plp < length c.plps → blocks_in c plp (packets_view c n packets)
        ≡ length (right_blocks c plp packets)
    blocks_are plp inside =
        rw (
          ← (counted_view c n plp (packets_view c n packets)),
          view_carries laws.numbers laws.scrambles laws.bits laws.knows c n plan packets p,
          frame_blocks c n p.l1.first.dynamic (λ j. right_blocks c j packets) plan plp inside,
        )

  -- ---- as it is sent

  pub sent_carries : (past : List Numbered) (x : Made) (k : ℕ) → packets_fault c past x.number x.group.packets ≡ None
      → map (λ (q : Packet). q.body) (row_packets c k x.number (frame_of c x).bodies)
      ≡ view_bodies c x.number (packets_view c x.number x.group.packets)
  sent_carries past x k pass =
      let lists : List (List (List ℕ)) = map (λ plp. map held_bytes (right_blocks c plp x.group.packets)) (places c) in
      row_carries c k x.number (frame_of c x).bodies
      ∙ laws.shown c past x.number x.group.packets (dynamic_in x.group.packets) lists plan pass (record {
        dynamic_is = refl;
        plps = length-map-range_with_len (λ plp. map held_bytes (right_blocks c plp x.group.packets)) 0 (length c.plps);
        blocks = λ plp inside.
            get_or-map-range_with_len (λ j. map held_bytes (right_blocks c j x.group.packets)) 0 (length c.plps) plp
            plp [] inside (omega arith);
      })

  pub comes : (past : List Numbered) (x : Made) (k : ℕ) → packets_fault c past x.number x.group.packets ≡ None
      → ComesBack c x.number (packets_view c x.number x.group.packets) (row_packets c k x.number (frame_of c x).bodies)
  comes past x k pass =
      laws.back c x.number (packets_view c x.number x.group.packets) (row_packets c k x.number (frame_of c x).bodies)
      plan
      (record { packets = x.group.packets; past = past; pass = pass; is = refl }) (sent_carries past x k pass)

  -- its blocks
  pub sent_blocks : (past : List Numbered) (x : Made) (k plp count : ℕ)
      → packets_fault c past x.number x.group.packets ≡ None → plp < length c.plps
      → has_begun c plp x.group.packets count ≡ true
      → has_begun c plp (row_packets c k x.number (frame_of c x).bodies) count ≡ true
  sent_blocks past x k plp count pass inside h =
      let size : length (right_blocks c plp x.group.packets) ≡ count =
      eqb-true (length (right_blocks c plp x.group.packets)) count
      (and_last (length (blocks_of c plp x.group.packets) == count)
      (length (right_blocks c plp x.group.packets) == count) h) in
      (comes past x k pass).blocks plp count inside
      ∙ eq-eqb (blocks_in c plp (packets_view c x.number x.group.packets)) count
      (blocks_are past x.number x.group.packets pass plp inside ∙ size)

  -- it passes behind what was sent, from the first frame of a superframe on
  pub passes_behind : (from : ℕ) (made sent : List Numbered) (x : Made) (k : ℕ)
      → packets_fault c made x.number x.group.packets ≡ None → Follows c from made sent → from % c.frames ≡ 0
      → from ≤ x.number → packets_fault c sent x.number (row_packets c k x.number (frame_of c x).bodies) ≡ None
  passes_behind from made sent x k pass f begins low =
      (comes made x k pass).pass sent (λ b less is. f.room b)
      (λ plp inside later.
      f.blocks (begin_of c plp x.number) plp (plp_num_blocks c plp (packets_view c x.number x.group.packets))
      (begun_late laws.interleaving c plp from x.number plan.rules inside begins low) inside
      (told_begun made x.number x.group.packets pass plp inside later))

  some_frames : 0 < c.frames
  some_frames = let r : (2 ≤ c.frames) × (c.frames ≤ 255) = plan.rules SuperframeLength in omega arith

  -- what comes of rows behind a group with a number
  abbrev came : Numbered → List Numbered → ℕ → List SentFrame → List NumberedView
  came b past k rows = map (due_record c) (records_from (rules c) (b ∷ past) (row_groups c k rows))

  -- the next row that has something is near
  abbrev Then : ℕ → ℕ → List Numbered → List SentFrame → ℕ → List NumberedView → Type 0
  Then from low made rows n views = (b : Numbered) (past : List Numbered) (k : ℕ) → AreSteps c (Some b.number) rows
      → Follows c from made (b ∷ past) → low ≤ b.number + 1 → b.number < n → came b past k rows
      ≡ muted_between c b.number n ++ views

  through : (from low n : ℕ) (made : List Numbered) (views : List NumberedView) (x : SentFrame) (tail : List SentFrame)
      → EndsBelow low made → x.number ≡ n → Then from low made (x ∷ tail) n views
      → (count superframe : ℕ) (b : Numbered) (past : List Numbered) (k : ℕ)
      → AreSteps c (Some b.number) (stamp_rows c superframe count ++ (x ∷ tail)) → Follows c from made (b ∷ past)
      → low ≤ b.number + 1
      → came b past k (stamp_rows c superframe count ++ (x ∷ tail)) ≡ muted_between c b.number n ++ views
  through from low n made views x tail ends is next zero superframe b past k steps f l =
      next b past k steps f l (omega arith)
  through from low n made views x tail ends is next (suc count) superframe b past k steps f l =
      let m : ℕ = first_frame c (superframe + 14) in
      let row : SentFrame = stamp_row c m in
      let g : Group = row_group c k row in
      let rows : List SentFrame = stamp_rows c (superframe + 14) count ++ (x ∷ tail) in
      let new : Numbered = record { number = m; group = g } in
      let s = steps.0 in
      let later = s.later in
      let above : m < n = last_above count m (superframe + 14) steps.1 in
      let follows : Follows c from made (new ∷ b ∷ past) =
      follows_stamp c from low made (b ∷ past) new f ends (omega arith) (stamp_room c k m)
      (λ plp told h. h) in
      ap (map (due_record c)) (one_behind laws.found c b past g (row_groups c (k + 1) rows) m some_frames refl s
      (near_enough c b.number m some_frames s))
      ∙ put_together c b.number m (group_record (rules c) (b ∷ past) g m)
      (records_from (rules c) (new ∷ b ∷ past) (row_groups c (k + 1) rows)) (muted_record c m)
      (muted_between c m n ++ views)
      (fault_muted c g m (packets_fault c (b ∷ past) m g.packets) (stamp_fails c (b ∷ past) k m m))
      (through from low n made views x tail ends is next count (superframe + 14) new (b ∷ past) (k + 1) steps.1 follows
      (omega arith))
      ∙ sym (append_assoc (muted_between c b.number m) (muted_record c m ∷ muted_between c m n) views)
      ∙ ap (λ (v : List NumberedView). v ++ views) (sym (between_split c b.number m n later above))
    where
      last_above : (count m superframe : ℕ) → AreSteps c (Some m) (stamp_rows c superframe count ++ (x ∷ tail)) → m < n
      last_above zero m superframe s = omega arith
      last_above (suc count) m superframe s =
          omega (arith, last_above count (first_frame c (superframe + 14)) (superframe + 14) s.1)

  -- the records behind a frame
  behind : (from : ℕ) → from % c.frames ≡ 0 → (made : List Made) (b : Numbered) (pm past : List Numbered) (k : ℕ)
      → from ≤ b.number → PassBehind c pm made → AreSteps c (Some b.number) (made_rows c (Some b.number) made)
      → Follows c from pm (b ∷ past) → EndsBelow (b.number + 1) pm
      → came b past k (made_rows c (Some b.number) made) ≡ records_behind c b.number made
  behind from begins [] b pm past k low pass steps f ends = refl
  behind from begins (x ∷ made) b pm past k low pass steps f ends =
      let n : ℕ = x.number in
      let tail : List SentFrame = made_rows c (Some n) made in
      let views : List NumberedView = made_record c x ∷ records_behind c n made in
      through from (b.number + 1) n pm views (frame_of c x) tail ends refl
      (λ b' past' k' steps' f' l' above.
      let row : SentFrame = frame_of c x in
      let g : Group = row_group c k' row in
      let new : Numbered = record { number = n; group = g } in
      let j : ℕ = k' + length row.bodies in
      let gs : List Group = row_groups c j tail in
      let s = steps'.0 in
      let back_is = comes pm x k' pass.0 in
      let none : packets_fault c (b' ∷ past') n g.packets ≡ None =
      passes_behind from pm (b' ∷ past') x k' pass.0 f' begins (omega arith) in
      ap (map (due_record c)) (one_behind laws.found c b' past' g gs n some_frames refl s
      (near_enough c b'.number n some_frames s))
      ∙ put_together c b'.number n (group_record (rules c) (b' ∷ past') g n)
      (records_from (rules c) (new ∷ b' ∷ past') gs) (made_record c x) (records_behind c n made)
      (rw (none, back_is.is))
      (behind from begins made new (with_made pm x) (b' ∷ past') j (omega arith) pass.1 steps'.1
      (follows_frame c from pm (b' ∷ past') (record { number = n; group = x.group }) new f' refl back_is.room
      (λ plp count inside h. sent_blocks pm x k' plp count pass.0 inside h))
      (ends_with (b.number + 1) pm (record { number = n; group = x.group }) ends (omega arith))))
      (spacers_between (b.number / c.frames) (n / c.frames)) (b.number / c.frames) b past k steps f (omega arith)

  -- ---- before the first frame of a superframe

  abbrev came_first : ℕ → List SentFrame → List NumberedView
  came_first k rows = map (due_record c) (records_from (rules c) [] (row_groups c k rows))

  one_first : (g : Group) (gs : List Group) (o : Option ℕ) → join_number (rules c) g ≡ o
      → records_from (rules c) [] (g ∷ gs) ≡ own_record (rules c) [] g o ++ records_from (rules c) (past_with [] g o) gs
  one_first g gs o e =
      rw e

  stamps_first : (count superframe k : ℕ) (tail : List SentFrame)
      → (j : ℕ) × (came_first k (stamp_rows c superframe count ++ tail) ≡ came_first j tail)
  stamps_first zero superframe k tail = (k, refl)
  stamps_first (suc count) superframe k tail =
      let m : ℕ = first_frame c (superframe + 14) in
      let g : Group = row_group c k (stamp_row c m) in
      let rows : List SentFrame = stamp_rows c (superframe + 14) count ++ tail in
      let rest = stamps_first count (superframe + 14) (k + 1) tail in (
        rest.0,
        ap (map (due_record c))
            (one_first g (row_groups c (k + 1) rows) None (join_none c g (λ n. stamp_fails c [] k n m))) ∙ rest.1,
      )

  between_first : (last : Option ℕ) (n k : ℕ) (tail : List SentFrame)
      → (j : ℕ) × (came_first k (rows_between c last n ++ tail) ≡ came_first j tail)
  between_first None n k tail = (k, refl)
  between_first (Some m) n k tail = stamps_first (spacers_between (m / c.frames) (n / c.frames)) (m / c.frames) k tail

  steps_last : (last : Option ℕ) (n : ℕ) (x : SentFrame) (tail : List SentFrame)
      → AreSteps c last (rows_between c last n ++ (x ∷ tail)) → AreSteps c (Some x.number) tail
  steps_last None n x tail s = s.1
  steps_last (Some m) n x tail s = go (spacers_between (m / c.frames) (n / c.frames)) m (m / c.frames) s
    where
      go : (count m superframe : ℕ) → AreSteps c (Some m) (stamp_rows c superframe count ++ (x ∷ tail))
          → AreSteps c (Some x.number) tail
      go zero m superframe s = s.1
      go (suc count) m superframe s = go count (first_frame c (superframe + 14)) (superframe + 14) s.1

  -- the first number behind the last frame
  abbrev low_behind : Option ℕ → ℕ
  low_behind None = 0
  low_behind (Some m) = m + 1

  low_is : (last : Option ℕ) (n : ℕ) → Earlier last n → low_behind last ≤ n
  low_is None n e = omega arith
  low_is (Some m) n e = omega arith

  -- a frame that begins a superframe is the join
  joins : (pm : List Numbered) (x : Made) (k : ℕ) → packets_fault c pm x.number x.group.packets ≡ None
      → x.number < MOST_FRAMES → EndsBelow x.number pm → x.number % c.frames ≡ 0
      → (join_number (rules c) (row_group c k (frame_of c x)) ≡ Some x.number)
      × (packets_fault c [] x.number (row_packets c k x.number (frame_of c x).bodies) ≡ None)
  joins pm x k pass small ends begins =
      let n : ℕ = x.number in
      let g : Group = row_group c k (frame_of c x) in
      let none : packets_fault c [] n g.packets ≡ None =
      passes_behind n pm [] x k pass (follows_none c n pm ends) begins (omega arith) in
      let named : named_frame c g ≡ Some n =
      (comes pm x k pass).names begins small in (
        ap (λ (i : ℕ). if_zero i (passing (rules c) g (named_frame c g))) begins
            ∙ ap (passing (rules c) g) named
            ∙ ap (unless_fault n) none,
        none,
      )
    where
      if_zero : ℕ → Option ℕ → Option ℕ
      if_zero i o = cond (i == 0) o None

  first_records : (made : List Made) (last : Option ℕ) (k : ℕ) (pm : List Numbered) → PassBehind c pm made
      → AllBelow made → AreSteps c last (made_rows c last made) → EndsBelow (low_behind last) pm → RiseSome last made
      → came_first k (made_rows c last made) ≡ mended_records c made
  first_records [] last k pm pass small steps ends rise = refl
  first_records (x ∷ made) last k pm pass small steps ends rise =
      let n : ℕ = x.number in
      let row : SentFrame = frame_of c x in
      let tail : List SentFrame = made_rows c (Some n) made in
      let at = between_first last n k (row ∷ tail) in
      let i : ℕ = at.0 in
      let g : Group = row_group c i row in
      let j : ℕ = i + length row.bodies in
      let gs : List Group = row_groups c j tail in
      let above = low_is last n rise.0 in
      let ends_here : EndsBelow n pm = λ b l. ends b (omega arith) in
      let own : Numbered = record { number = n; group = x.group } in
      let new : Numbered = record { number = n; group = g } in
      let more : EndsBelow (n + 1) (own ∷ pm) = ends_with (low_behind last) pm own ends above in
      let steps_on = steps_last last n row tail steps in
      let records : List NumberedView = made_record c x ∷ records_behind c n made in
      let back_is = comes pm x i pass.0 in
      at.1 ∙ ⊎_elim
      (λ (t : (n % c.frames == 0) ≡ true).
      let begins = eqb-true (n % c.frames) 0 t in
      let join = joins pm x i pass.0 small.0 ends_here begins in
      ap (map (due_record c)) (one_first g gs (Some n) join.0)
      ∙ ap₂ (λ (v : NumberedView) (l : List NumberedView). v ∷ l) (rw (join.1, back_is.is))
      (behind n begins made new (own ∷ pm) [] j (omega arith) pass.1 steps_on
      (follows_frame c n pm [] own new (follows_none c n pm ends_here) refl back_is.room
      (λ plp count inside h. sent_blocks pm x i plp count pass.0 inside h)) more)
      ∙ sym (cond-true (n % c.frames == 0) records (mended_records c made) t))
      (λ (t : (n % c.frames == 0) ≡ false).
      ap (map (due_record c)) (one_first g gs None
      (cond-false {A = Option ℕ} (n % c.frames == 0) (passing (rules c) g (named_frame c g)) None t))
      ∙ first_records made (Some n) j (own ∷ pm) pass.1 small.1 steps_on more rise.1
      ∙ sym (cond-false (n % c.frames == 0) records (mended_records c made) t)) (cases_Bool (n % c.frames == 0))

  mended_come : (made : List Made) → PassBehind c [] made → AllBelow made → RiseSome None made
      → map (due_record c) (modulated (rules c) (packets_of (sent_from c 0 (spaced c (frames_of c made)))))
      ≡ mended_records c made
  unfolding modulated
  mended_come made pass small rise =
      let steps = all_steps c None made some_frames rise in
      ap (λ (l : List (ℕ × Body)). map (due_record c)
      (records_from (rules c) [] (groups c.frames (packets_of (sent_from c 0 l))))) (spaced_rows c made)
      ∙ ap (λ (l : List Group). map (due_record c) (records_from (rules c) [] l))
      (rows_grouped c some_frames (made_rows c None made) (all_rows c None made) steps)
      ∙ first_records made None 0 [] pass small steps (λ b l. refl) rise

  -- ---- each packet fits its fields

  stamp_fits : (n : ℕ) → n < MOST_FRAMES → RowFits (stamp_row c n)
  stamp_fits n l =
      let e = laws.emits c n plan.rules (omega arith) in
      let utco : c.utco < 8192 = plan.rules UtcOffset in
      (((bw_fits c.band, omega arith, e.2, utco), omega arith), tt)

  stamps_fit : (count superframe n : ℕ) → n < MOST_FRAMES → superframe + 14 * count ≤ n / c.frames
      → AllByRecursion RowFits (stamp_rows c superframe count)
  stamps_fit zero superframe n l low = tt
  stamps_fit (suc count) superframe n l low =
      let most : (superframe + 14) * c.frames ≤ n / c.frames * c.frames = mul-le-mul_right c.frames
      (omega arith) in (
        stamp_fits (first_frame c (superframe + 14)) (omega (arith, div-mul-le_self n c.frames)),
        stamps_fit count (superframe + 14) n l (omega arith),
      )

  between_fit : (last : Option ℕ) (n : ℕ) → n < MOST_FRAMES → AllByRecursion RowFits (rows_between c last n)
  between_fit None n l = tt
  between_fit (Some m) n l = go (spacers_between (m / c.frames) (n / c.frames)) refl
    where
      go : (count : ℕ) → spacers_between (m / c.frames) (n / c.frames) ≡ count
          → AllByRecursion RowFits (stamp_rows c (m / c.frames) count)
      go zero e = tt
      go (suc count) e = stamps_fit (suc count) (m / c.frames) n l (omega arith)

  module _ (ids : HasByteIds c) where
    all_fit : (last : Option ℕ) (past : List Numbered) (made : List Made) → PassBehind c past made → AllBelow made
        → AllByRecursion RowFits (made_rows c last made)
    all_fit last past [] pass small = tt
    all_fit last past (x ∷ made) pass small =
        let own : RowFits (frame_of c x) =
        rw (sym (row_carries c 0 x.number (frame_of c x).bodies) ∙ sent_carries past x 0 pass.0)
        (fit_frame laws.emits laws.bits laws.range laws.knows laws.numbers laws.scrambles c plan ids
        (record { number = x.number; view = packets_view c x.number x.group.packets })
        (record { packets = x.group.packets; past = past; pass = pass.0; is = refl }, small.0)) in
        all_append RowFits (rows_between c last x.number) (frame_of c x ∷ made_rows c (Some x.number) made)
        (between_fit last x.number small.0) (own, all_fit (Some x.number) (with_made past x) made pass.1 small.1)

    -- the bytes of frames that were made read as their packets
    mended_arrives : (made : List Made) → PassBehind c [] made → AllBelow made
        → records_of c (joined (pipe c.pid (packets_from c 0 (spaced c (frames_of c made)))))
        ≡ modulated (rules c) (packets_of (sent_from c 0 (spaced c (frames_of c made))))
    mended_arrives made pass small =
        let bodies : List (ℕ × Body) = spaced c (frames_of c made) in
        let fit : AllByRecursion PairFits bodies =
        rw (spaced_rows c made) (rows_fit (made_rows c None made) (all_fit None [] made pass small)) in
        let packets : List (List ℕ) = packets_from c 0 bodies in
        let are : ArePackets packets = spelled_from laws.bounded laws.spelled laws.read laws.len c 0 bodies fit in
        ap (modulated (rules c))
        (sym (map-map packet_of (λ (a : AcceptedPacket). a.bytes) (accepted_of c.pid (joined (pipe c.pid packets))))
        ∙ ap (map packet_of) (accepted_are laws.survive laws.undamaged c.pid packets (plan_range c plan).1 are)
        ∙ reads_from laws.bounded laws.spelled laws.read laws.len c 0 bodies fit)

pub mended_comes_back : MendLaws → MendedComesBack
mended_comes_back laws c k streams plan ids =
    let made : List Made = made_of_all c k streams in
    let small = all_below laws.named c k streams plan.rules in
    ap (map (due_record c)) (mended_arrives laws c plan ids made (laws.passes c k streams) small)
    ∙ mended_come laws c plan made (laws.passes c k streams) small (rise_some c made (laws.rises c k streams))
