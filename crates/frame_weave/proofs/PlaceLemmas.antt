-- One block more has a place.
use Rattle.std.proofs.Common.{◌≡◌, ℕ, ◌+◌, ◌<◌, ◌≤◌, Bool, true, List, [], ◌∷◌, ◌++◌, map, length, max, ap, sym, subst}
use Rattle.std.proofs.Common.{◌∙◌, arith, drop, append_assoc, append-nil}
use Rattle.std.specs.Prelude.{slice_index_or, if◌then◌else◌}
use Rattle.std.proofs.lemmas.Bool.{lt-ltb}
use Rattle.std.proofs.lemmas.List.{length-map, drop_more, drop_all}
use Rattle.plp_config.specs.declared.config.Config.{Config}
use Rattle.t2mi_packet.specs.declared.packet.Packet.{Packet}
use Rattle.frame_groups.specs.Carried.{right_blocks}
use Rattle.open_group.specs.Sent.{held_bytes}
use Rattle.open_group.specs.Shown.{AreBlocks}
use Rattle.frame_weave.specs.Holds.{Marks, no_block}
use Rattle.frame_weave.specs.Marked.{MarkedBlock}
use Rattle.frame_weave.specs.declared.marks.Mark.{Mark}
use Rattle.frame_weave.proofs.SlotLemmas.{at, filled}
use Rattle.frame_weave.specs.Placed.{Placed, next_place, place_of, has_place, one_placed, first_behind, placed_from}
use Rattle.frame_weave.specs.Places.{start_of, has_room}
use Rattle.frame_weave.specs.Slots.{IsLaid, Puts, Fills}
use Rattle.frame_weave.specs.declared.layout.Layout.{Layout}
use Rattle.frame_weave.specs.declared.slots.Slots.{Slots}

next_least : (origin count first : ℕ) → first ≤ next_place origin count first
next_least origin count first = omega arith

pub placed_there : (c : Config) (counts : List ℕ) (packets : List Packet) (layout : Layout) (mark : Mark)
    (b : MarkedBlock)
    (lists : List (List (List ℕ))) (placed : List Placed) (old new : Slots) (origin first place : ℕ)
    → IsLaid c counts layout
    → has_room c counts ≡ true → Marks c packets mark b → AreBlocks c packets lists → Fills c counts old placed
    → place ≡ next_place origin mark.count (max first (slice_index_or layout.starts.items mark.plp 0))
    → place < slice_index_or layout.starts.items (mark.plp + 1) 0
    → (mark.place < length (slice_index_or lists mark.plp [])
    → Puts old new place (slice_index_or (slice_index_or lists mark.plp []) mark.place []))
    → Fills c counts new (placed ++ one_placed counts origin first b) × (place + 1 ≡ first_behind counts origin first b)
placed_there c counts packets layout mark b lists placed old new origin first place laid room m blocks
    fills is less puts =
    let inside = m.inside in
    let starts = layout.starts.items in
    let start : slice_index_or starts mark.plp 0 ≡ start_of counts b.plp = ap (λ (k : ℕ). slice_index_or starts k 0)
    m.plp
    ∙ laid.starts b.plp (omega (arith, inside)) in
    let end : slice_index_or starts (mark.plp + 1) 0 ≡ start_of counts (b.plp + 1) =
    ap (λ (k : ℕ). slice_index_or starts (k + 1) 0) m.plp ∙ laid.starts (b.plp + 1) (omega (arith, inside)) in
    let there : place ≡ place_of counts origin first b = is
    ∙ ap (λ (k : ℕ). next_place origin k (max first (slice_index_or starts mark.plp 0))) m.count
    ∙ ap (λ (k : ℕ). next_place origin b.count (max first k)) start in
    let high : place < start_of counts (b.plp + 1) = omega (arith, less, end) in
    let low : start_of counts b.plp ≤ place = let least = next_least origin b.count
    (max first (start_of counts b.plp)) in
    omega (arith, least, there) in
    let has : has_place counts origin first b ≡ true = lt-ltb (place_of counts origin first b)
    (start_of counts (b.plp + 1))
    (subst (λ (k : ℕ). k < start_of counts (b.plp + 1)) there high) in
    let list : slice_index_or lists mark.plp [] ≡ map held_bytes (right_blocks c b.plp packets) =
    ap (λ (k : ℕ). slice_index_or lists k []) m.plp ∙ blocks b.plp inside in
    let size = ap length list in
    let same = length-map (right_blocks c b.plp packets) held_bytes in
    let stands = m.there in
    let bytes : slice_index_or (slice_index_or lists mark.plp []) mark.place [] ≡ b.bytes =
    ap (λ (l : List (List ℕ)). slice_index_or l mark.place []) list ∙ m.bytes in
    let put : Puts old new place b.bytes = subst (Puts old new place) bytes
    (puts (omega (arith, size, same, stands))) in
    let all = filled c counts b.plp place b.bytes inside low high m.len room old new placed put fills in (
      subst (λ (l : List Placed). Fills c counts new (placed ++ l))
          (ap (λ (k : ℕ). at k b.bytes ∷ []) there
          ∙ sym (ap (λ (t : Bool). if t then at (place_of counts origin first b) b.bytes ∷ [] else []) has)) all,
      ap (λ (k : ℕ). k + 1) there
          ∙ sym (ap (λ (t : Bool). if t then place_of counts origin first b + 1 else first) has),
    )

-- the blocks from one on are that one and those behind it
pub placed_step : (counts : List ℕ) (origin first next k : ℕ) (blocks : List MarkedBlock) (done all : List Placed)
    → k < length blocks
    → next ≡ first_behind counts origin first (slice_index_or blocks k no_block)
    → done ++ placed_from counts origin first (drop k blocks) ≡ all
    → (done ++ one_placed counts origin first (slice_index_or blocks k no_block))
    ++ placed_from counts origin next (drop (k + 1) blocks) ≡ all
placed_step counts origin first next k blocks done all inside is e =
    let b = slice_index_or blocks k no_block in
    append_assoc done (one_placed counts origin first b) (placed_from counts origin next (drop (k + 1) blocks))
    ∙ ap (λ (n : ℕ). done ++ (one_placed counts origin first b ++ placed_from counts origin n (drop (k + 1) blocks))) is
    ∙ ap (λ (l : List MarkedBlock). done ++ placed_from counts origin first l)
    (sym (drop_more blocks k no_block inside))
    ∙ e

pub placed_all : (counts : List ℕ) (origin first k : ℕ) (blocks : List MarkedBlock) (done all : List Placed)
    → length blocks ≤ k
    → done ++ placed_from counts origin first (drop k blocks) ≡ all → done ≡ all
placed_all counts origin first k blocks done all over e =
    sym (ap (λ (l : List MarkedBlock). done ++ placed_from counts origin first l) (drop_all k blocks over)
    ∙ append-nil done) ∙ e
