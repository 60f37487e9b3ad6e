-- A group that passes makes a frame that fits a record.
use Rattle.std.proofs.Common.{◌≡◌, ℕ, ◌%◌, ◌<◌, ◌≤◌, ◌^◌, true, List, [], map, length, get_or, Option, Some, None, refl}
use Rattle.std.proofs.Common.{ap, sym, subst, ◌∙◌, arith}
use Rattle.std.specs.Prelude.{slice_get}
use Rattle.std.specs.Option.{option_map, option_map_or, option_and_then}
use Rattle.std.proofs.lemmas.Bool.{false≢true}
use Rattle.std.proofs.lemmas.List.{get_or-map, length-map}
use Rattle.std.proofs.lemmas.List.FromFn.{length-range_with_len, get_or-range_with_len}
use Rattle.terms.proofs.OptionLemmas.{none_if}
use Rattle.plp_config.specs.Places.{places}
use Rattle.bb_frame.specs.Laws.{BitCounts}
use Rattle.cell_map.specs.CellMap.{Passes}
use Rattle.frame_groups.specs.Groups.{Group}
use Rattle.frame_groups.specs.Modulated.{Content, Numbered}
use Rattle.frame_groups.specs.Modulated.Content.{Whole, Muted}
use Rattle.frame_groups.specs.declared.cause.MuteCause.TheVariants.{MapRefused}
use Rattle.record_laws.specs.Frames.{HasByteIds}
use Rattle.record_laws.specs.Laws.{MutedFits}
use Rattle.frame_groups.specs.Carried.{right_blocks, L1Parts, l1s_of}
use Rattle.frame_groups.specs.TestLaws.{MapPasses}
use Rattle.frame_groups.specs.Tests.{has_map, l1_shape, first_shape, read_dynamic, map_test, packets_fault, group_fault}
use Rattle.l1_signal.specs.L1Of.{told_shape}
use Rattle.l1_signal.specs.Laws.{DynReadSpelled, DynLength}
use Rattle.l1_signal.specs.declared.dynamic.L1Dyn.{L1Dyn}
use Rattle.open_group.specs.RecordBytes.{list_at}
use Rattle.plp_config.specs.Capacity.{IsPlan}
use Rattle.plp_config.specs.declared.config.Config.{Config}
use Rattle.l1_signal.specs.Lengths.{dyn_len}
use Rattle.open_group.specs.WriterLaws.{RecordFits}
use Rattle.scheduler.specs.Shape.{FrameShape}
use Rattle.site_frame.specs.Whole.{FitsRecord}
use Rattle.t2mi_packet.specs.declared.packet.Packet.{Packet}
use Rattle.open_group.specs.Sent.{held_bytes}
use Rattle.open_group.specs.Written.{dynamic_in, packets_view, content_view}
use Rattle.open_group.proofs.GivenLemmas.{map_none, has_blocks, same_view}
use Rattle.open_group.proofs.ReadLemmas.{read_len, read_rows}

shape_rows : (d : L1Dyn) → length (told_shape d).counts ≡ length d.plps
unfolding told_shape
shape_rows d = length-map d.plps (λ plp. plp.plp_num_blocks)

map_holds : (c : Config) (past : List Numbered) (n : ℕ) (packets : List Packet) → packets_fault c past n packets ≡ None
    → has_map c (first_shape c packets) ≡ true
unfolding map_test
map_holds c past n packets e = none_if (has_map c (first_shape c packets)) MapRefused (map_none c past n packets e)

-- the blocks of packets, in lists
abbrev lists_of : Config → List Packet → List (List (List ℕ))
lists_of c packets = map (λ plp. map held_bytes (right_blocks c plp packets)) (places c)

lists_long : (c : Config) (packets : List Packet) → length (lists_of c packets) ≡ length c.plps
lists_long c packets = length-map (places c) (λ plp. map held_bytes (right_blocks c plp packets))
    ∙ length-range_with_len 0 (length c.plps)

lists_held : (c : Config) (packets : List Packet) (plp : ℕ) → plp < length c.plps → list_at (lists_of c packets) plp
    ≡ map held_bytes (right_blocks c plp packets)
lists_held c packets plp inside =
    let size = length-range_with_len 0 (length c.plps) in
    let there : get_or (places c) plp 0 ≡ plp = let e = get_or-range_with_len 0 (length c.plps) plp 0 inside in
    omega (arith, e) in
    get_or-map (λ plp. map held_bytes (right_blocks c plp packets)) (places c) plp 0 [] (omega (arith, size, inside))
    ∙ ap (λ (j : ℕ). map held_bytes (right_blocks c j packets)) there

module _ (fits : RecordFits) (passing : MapPasses) (spelled : DynReadSpelled) (len : DynLength) (sizes : BitCounts)
    (c : Config)
    (past : List Numbered) (n : ℕ) (packets : List Packet)
    (plan : IsPlan c) (ids : HasByteIds c) (small : n < 2 ^ 32) (none : packets_fault c past n packets ≡ None) where
  has : has_map c (first_shape c packets) ≡ true
  has = map_holds c past n packets none

  by_parts : (l1 : L1Parts) → slice_get (l1s_of packets) 0 ≡ Some l1 → (o : Option L1Dyn) → read_dynamic c l1 ≡ o
      → FitsRecord (packets_view c n packets)
  by_parts l1 e None k =
      absurd (false≢true
      (sym (ap (λ (p : Option L1Parts). has_map c (option_and_then (l1_shape c) p)) e
      ∙ ap (λ (d : Option L1Dyn). has_map c (option_map told_shape d)) k) ∙ has))
  by_parts l1 e (Some d) k =
      let shape : FrameShape = told_shape d in
      let first : first_shape c packets ≡ Some shape = ap (option_and_then (l1_shape c)) e
      ∙ ap (option_map told_shape) k in
      let passes : Passes c shape = (passing c shape plan).0 (sym (ap (has_map c) first) ∙ has) in
      let told : length shape.counts ≡ length c.plps = shape_rows d ∙ read_rows spelled len (length c.plps)
      l1.dynamic d k in
      let dynamic : dynamic_in packets ≡ l1.dynamic = ap (λ (o : Option L1Parts). option_map_or (λ l1. l1.dynamic) o [])
      e in
      let size = ap length dynamic ∙ read_len spelled len (length c.plps) l1.dynamic d k in
      let short : length (dynamic_in packets) ≤ dyn_len (length c.plps) = omega (arith, size) in
      let long = lists_long c packets in
      let held = lists_held c packets in
      subst FitsRecord (same_view sizes c past n packets shape (lists_of c packets) plan none first told long held
      (dynamic_in packets) refl)
      (fits c n (n % c.frames) (dynamic_in packets) shape (lists_of c packets) plan ids small short told passes
      (has_blocks sizes c past n packets shape (lists_of c packets) plan none first told long held))

  pub packets_fit : FitsRecord (packets_view c n packets)
  packets_fit = go (slice_get (l1s_of packets) 0) refl
    where
      go : (o : Option L1Parts) → slice_get (l1s_of packets) 0 ≡ o → FitsRecord (packets_view c n packets)
      go None e = absurd (false≢true (sym (ap (λ (p : Option L1Parts). has_map c (option_and_then (l1_shape c) p)) e)
          ∙ has))
      go (Some l1) e = by_parts l1 e (read_dynamic c l1) refl

pub content_fits : RecordFits → MutedFits → MapPasses → DynReadSpelled → DynLength → BitCounts
    → (c : Config) (n : ℕ) (content : Content) → IsPlan c → HasByteIds c → n < 2 ^ 32
    → ((g : Group) → content ≡ Whole g → (past : List Numbered) × (group_fault c past g n ≡ None))
    → FitsRecord (content_view c n content)
content_fits fits muted passing spelled len sizes c n (Whole g) plan ids small none =
    let passes = none g refl in
    packets_fit fits passing spelled len sizes c passes.0 n g.packets plan ids small passes.1
content_fits fits muted passing spelled len sizes c n (Muted cause) plan ids small none = muted c n plan small
