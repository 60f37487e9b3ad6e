-- A frame that passes the tests is formed.
use Rattle.std.proofs.Common.{◌≡◌, ℕ, ◌<◌, Bool, List, [], ◌∷◌, length, map, Option, Some, None, refl, ap, ◌∙◌, sym}
use Rattle.std.proofs.Common.{subst, arith}
use Rattle.std.specs.Prelude.{option_map, slice_index}
use Rattle.std.specs.List.{AllByRecursion}
use Rattle.std.specs.Option.{option_map_or, option_and_then, unwrap_or}
use Rattle.std.proofs.lemmas.List.{length-map}
use Rattle.std.proofs.lemmas.List.FromFn.{get_or-map-range_with_len, length-map-range_with_len}
use Rattle.std.proofs.lemmas.Option.{same_Some}
use Rattle.bb_frame.specs.Laws.{BitCounts}
use Rattle.plp_config.specs.Capacity.{IsPlan}
use Rattle.plp_config.specs.Emission.{emission}
use Rattle.plp_config.specs.Places.{places}
use Rattle.plp_config.specs.declared.config.Config.{Config}
use Rattle.scheduler.specs.Shape.{FrameShape, blank}
use Rattle.l1_signal.specs.L1Of.{told_shape}
use Rattle.t2mi_packet.specs.declared.packet.Packet.{Packet}
use Rattle.frame_groups.specs.Groups.{Group}
use Rattle.frame_groups.specs.Modulated.{Numbered, FrameRecord, Content, past_after}
use Rattle.frame_groups.specs.Carried.{L1Parts, right_blocks}
use Rattle.frame_groups.specs.TestLaws.{MapPasses, IsOfFrame}
use Rattle.frame_groups.specs.Readable.{coming}
use Rattle.frame_groups.specs.Tests.{l1_shape, first_shape, packets_fault, rules}
use Rattle.record_laws.specs.Frames.{sent_blocks, l1_pre}
use Rattle.open_group.specs.Front.{post_with}
use Rattle.open_group.specs.RecordBytes.{own_count, list_at}
use Rattle.open_group.specs.Sent.{held_bytes}
use Rattle.open_group.specs.Written.{dynamic_in, shape_in, packets_view, content_view}
use Rattle.open_group.proofs.GivenLemmas.{has_blocks}
use Rattle.modulator.specs.Laws.{DuePass, IsRight}
use Rattle.stream_laws.specs.Formed.{Forms, IsFormed}
use Rattle.stream_laws.specs.FormedLaws.{FramesAreFormed, IsFormedRecord}
use Rattle.stream_laws.proofs.PassedLemmas.{Passed, passed}
use Rattle.stream_laws.proofs.FormedSignalLemmas.{Knows, pre_is, post_is, told_is, dynamic_read, plps_told}
use Rattle.stream_laws.proofs.SizeLemmas.{all_sizes, right_long}

-- how many blocks of a PLP come with a frame
coming_is : (c : Config) (n : ℕ) (shape : FrameShape) (plp : ℕ) → plp < length c.plps
    → slice_index (coming c n shape) plp ≡ own_count c n shape plp
coming_is c n shape plp inside =
    get_or-map-range_with_len (own_count c n shape) 0 (length c.plps) plp plp 0 inside (omega arith)

-- ---- packets that pass

module _ (knows : Knows) (c : Config) (n : ℕ) (packets : List Packet) (p : Passed c n packets) where
  abbrev pub first : L1Parts
  first = p.l1.first

  pub told : IsOfFrame c n first
  told = (knows.told c n first).0 p.l1.agrees

  abbrev pub shape : FrameShape
  shape = p.l1.shape

  pub shape_is : told_shape told.dynamic ≡ shape
  shape_is = same_Some (told_shape told.dynamic) shape
      (sym (ap (option_map told_shape) (dynamic_read knows c n first told)) ∙ p.l1.told)

  pub counts_len : length shape.counts ≡ length c.plps
  unfolding told_shape
  counts_len = grind (arith, shape_is, length-map, told, plps_told)

  pub first_is : first_shape c packets ≡ Some shape
  first_is = ap (option_and_then (l1_shape c)) p.l1.is ∙ p.l1.told

  pub dynamic_is : dynamic_in packets ≡ first.dynamic
  dynamic_is = ap (λ (o : Option L1Parts). option_map_or (λ l1. l1.dynamic) o []) p.l1.is

  pub view_shape : shape_in c packets ≡ shape
  view_shape = ap (λ (o : Option FrameShape). unwrap_or o (blank (length c.plps))) first_is

  abbrev pub right : ℕ → List (List Bool)
  right plp = right_blocks c plp packets

  abbrev lists : List (List (List ℕ))
  lists = map (λ plp. map held_bytes (right plp)) (places c)

  module _ (numbers : BitCounts) (past : List Numbered) (plan : IsPlan c) (pass : packets_fault c past
      n packets ≡ None) where
    pub right_counts : (plp : ℕ) → plp < length c.plps → own_count c n shape plp ≡ length (right plp)
    right_counts plp inside =
        let size : length lists ≡ length c.plps =
        length-map-range_with_len (λ plp. map held_bytes (right plp)) 0 (length c.plps) in
        let at : (j : ℕ) → j < length c.plps → list_at lists j ≡ map held_bytes (right j) =
        λ j l. get_or-map-range_with_len (λ plp. map held_bytes (right plp)) 0 (length c.plps) j j [] l (omega arith) in
        let has = has_blocks numbers c past n packets shape lists plan pass first_is counts_len size at in
        sym (has.counts plp (omega (arith, size, inside))) ∙ ap (λ (l : List (List ℕ)). length l) (at plp inside)
        ∙ length-map (right plp) held_bytes

    pub forms : MapPasses → Forms c n (emission c n) (l1_pre c) (post_with c first.dynamic) (sent_blocks c right)
    forms map_test = record {
      leaves = refl;
      pre_is = pre_is knows c n first told;
      post_is = post_is knows c n first told;
      shape = shape;
      told = ap (option_map told_shape) (told_is knows c n first told) ∙ p.l1.told;
      sizes = all_sizes numbers c (coming c n shape) right (λ plp. right_long c plp packets) (length c.plps) 0
          (λ plp from below. let inside : plp < length c.plps = omega (arith, below) in
          coming_is c n shape plp inside ∙ right_counts plp inside);
      map = (map_test c shape plan).0 p.l1.map;
    }

pub passes_formed : Knows → BitCounts → MapPasses → (c : Config) (past : List Numbered) (n : ℕ) (packets : List Packet)
    → IsPlan c
    → packets_fault c past n packets ≡ None → IsFormed c n (packets_view c n packets)
passes_formed knows numbers map_test c past n packets plan pass =
    let p = passed c past n packets pass in
    subst (λ (bits : List Bool). Forms c n (emission c n) (l1_pre c) (post_with c bits)
    (sent_blocks c (λ plp. right_blocks c plp packets)))
    (sym (dynamic_is knows c n packets p)) (forms knows c n packets p numbers past plan pass map_test)

-- ---- the records that are due

module _ (knows : Knows) (numbers : BitCounts) (map_test : MapPasses) (c : Config) (plan : IsPlan c)
    (gs : List Group) where
  right_formed : (x : FrameRecord) → IsRight c gs x → IsFormedRecord c x
  right_formed x right g whole =
      let among = right g whole in
      subst (λ (content : Content). IsFormed c x.number (content_view c x.number content)) (sym whole)
      (passes_formed knows numbers map_test c (past_after (rules c) [] among.before) x.number g.packets plan among.none)

  all_formed : (xs : List FrameRecord) → AllByRecursion (IsRight c gs) xs → AllByRecursion (IsFormedRecord c) xs
  all_formed [] h = tt
  all_formed (x ∷ xs) h = (right_formed x h.0, all_formed xs h.1)

pub frames_are_formed : Knows → BitCounts → MapPasses → DuePass → FramesAreFormed
frames_are_formed knows numbers map_test pass c finished bytes plan = grind (arith, all_formed)
