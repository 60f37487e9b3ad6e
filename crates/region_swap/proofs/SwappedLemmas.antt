-- A frame that is held is sent with a PLP replaced as its record says.
use Rattle.std.proofs.Common.{◌≡◌, ℕ, suc, ◌+◌, ◌-◌, ◌%◌, ◌<◌, ◌==◌, Bool, true, false, List, [], ◌∷◌, ◌++◌, length}
use Rattle.std.proofs.Common.{map, None, refl, ap, ap₂, sym, subst, ◌∙◌, ⊎_elim, arith}
use Rattle.std.specs.Prelude.{slice_index_or, slice_set, if◌then◌else◌}
use Rattle.std.specs.List.{flat_map, range_with_len}
use Rattle.std.proofs.lemmas.Bool.{cases_eq, cond-true, cond-false, eq-eqb, ne_eqb}
use Rattle.std.proofs.lemmas.List.{get_or-set_same, get_or-set_other, length-set}
use Rattle.terms.specs.Bits.{bits_of}
use Rattle.terms.proofs.BitLemmas.{bits_of-bytes_of}
use Rattle.bb_frame.specs.Laws.{BitCounts, ScramblesBack}
use Rattle.plp_config.specs.Capacity.{IsPlan, block_bytes}
use Rattle.plp_config.specs.Laws.{FieldRange}
use Rattle.plp_config.specs.Plps.{plp_at}
use Rattle.plp_config.specs.declared.config.Config.{Config}
use Rattle.mode_adapt.specs.Blocks.{own_blocks, told_count}
use Rattle.l1_signal.specs.Laws.{PreBitsLength, crc_behind}
use Rattle.l1_signal.specs.Lengths.{dyn_len}
use Rattle.t2mi_packet.specs.declared.packet.Body.{Body}
use Rattle.t2mi_packet.specs.declared.packet.Body.TheVariants.{Block as BlockBody}
use Rattle.site_frame.specs.Record.{Block}
use Rattle.site_frame.specs.declared.reading.RecordView.{RecordView}
use Rattle.frame_groups.specs.Carried.{right_blocks}
use Rattle.frame_writer.specs.FramePackets.{l1_body, with_stamp}
use Rattle.gateway_core.specs.Packets.{block_bodies as sent_bodies}
use Rattle.gateway_core.specs.Signalling.{dyn_part}
use Rattle.record_laws.specs.Frames.{sent_block, sent_blocks, l1_pre}
use Rattle.open_group.specs.Front.{post_with}
use Rattle.open_group.specs.Sent.{held_bytes}
use Rattle.frame_writer.specs.Bodies.{block_bodies, list_bodies, pool_bodies}
use Rattle.frame_writer.specs.Signalling.{pre_part, conf_part}
use Rattle.frame_writer.specs.declared.frame.PoolFrame.{PoolFrame}
use Rattle.stream_laws.specs.Remade.{signal_of, record_bodies, view_bodies}
use Rattle.stream_laws.proofs.BackLemmas.{made_carries}
use Rattle.stream_laws.proofs.FormedLemmas.{told, dynamic_is}
use Rattle.stream_laws.proofs.MadeLemmas.{made_l1, made_bodies}
use Rattle.stream_laws.proofs.PassedLemmas.{Passed, passed}
use Rattle.stream_laws.proofs.FormedSignalLemmas.{Knows, conf_there, dynamic_there, dyn_size}
use Rattle.stream_laws.proofs.SizeLemmas.{AreLong, right_long}
use Rattle.stream_laws.proofs.BlockLemmas.{own_long}
use Rattle.region_swap.specs.Held.{IsHeld}
use Rattle.region_swap.specs.Laws.{HeldIsSwapped}
use Rattle.region_swap.specs.Making.{IsMade}
use Rattle.region_swap.specs.Telling.{counts_told}
use Rattle.region_swap.specs.Swapped.{counts_in, swapped_counts, post_with_counts, input_blocks, replaced, swapped_view}
use Rattle.region_swap.proofs.BlockLemmas.{replaced_is}

-- ---- blocks as bytes and as bits

sent_so : (frame_idx id : ℕ) (first : Bool) (blocks : List (List ℕ))
    → block_bodies frame_idx id first blocks ≡ sent_bodies frame_idx id first (map bits_of blocks)
sent_so frame_idx id first [] = refl
sent_so frame_idx id first (b ∷ blocks) =
    ap (λ (l : List Body). BlockBody frame_idx id first (bits_of b) ∷ l) (sent_so frame_idx id false blocks)

all_sent : (c : Config) (frame_idx : ℕ) (blocks : ℕ → List (List Bool)) (a : ℕ) (lists : List (List (List ℕ)))
    → ((j : ℕ) → j < length lists → map bits_of (slice_index_or lists j []) ≡ blocks (a + j))
    → list_bodies c frame_idx a lists
    ≡ flat_map (λ plp. sent_bodies frame_idx (plp_at c.plps plp).id true (blocks plp)) (range_with_len a (length lists))
all_sent c frame_idx blocks a [] h = refl
all_sent c frame_idx blocks a (l ∷ lists) h =
    let here : a + 0 ≡ a = omega arith in
    ap₂ (λ (x y : List Body). x ++ y)
    (sent_so frame_idx (plp_at c.plps a).id true l
    ∙ ap (sent_bodies frame_idx (plp_at c.plps a).id true) (h 0 (omega arith) ∙ ap blocks here))
    (all_sent c frame_idx blocks (a + 1) lists (λ j lt.
    let there : a + suc j ≡ a + 1 + j = omega arith in h (suc j) (omega (arith, lt)) ∙ ap blocks there))

held_back : (c : Config) (plp : ℕ) (blocks : List (List Bool)) → AreLong c plp blocks
    → map bits_of (map held_bytes blocks) ≡ blocks
held_back c plp [] long = refl
held_back c plp (b ∷ blocks) long =
    ap₂ (λ (x : List Bool) (l : List (List Bool)). x ∷ l) (bits_of-bytes_of b (block_bytes c plp) long.0)
    (held_back c plp blocks long.1)

-- ---- the L1-current

signal_sent : (c : Config) (n : ℕ) (pre conf dynamic : List Bool) → pre ≡ pre_part c → conf ≡ conf_part c
    → l1_body c n pre conf dynamic ≡ made_l1 c n dynamic
unfolding pre_part conf_part
signal_sent c n pre conf dynamic p q = ap₂ (λ (x y : List Bool). l1_body c n x y dynamic) p q

module _ (numbers : BitCounts) (back : ScramblesBack) (law : PreBitsLength) (field : FieldRange) (knows : Knows)
    (c : Config) (plp n : ℕ)
    (view : RecordView) (f : PoolFrame) (input : List (List ℕ)) (dynamic : List Bool) (own : List (List ℕ))
    (plan : IsPlan c)
    (inside : plp < length c.plps) (h : IsHeld c n view f) (made : IsMade c n plp (told_count c (λ _. input) n plp)
    f.dynamic dynamic)
    (same : map bits_of own ≡ own_blocks c (λ _. input) n plp) where
  abbrev right : ℕ → List (List Bool)
  right j = right_blocks c j h.packets

  -- the blocks of each PLP, one of which is replaced
  abbrev now : ℕ → List (List Bool)
  now j = if j == plp then own_blocks c (λ _. input) n plp else right j

  now_own : now plp ≡ own_blocks c (λ _. input) n plp
  now_own = cond-true {A = List (List Bool)} (plp == plp) _ _ (eq-eqb plp plp refl)

  now_other : (j : ℕ) → (j ≡ plp → ⊥) → now j ≡ right j
  now_other j differ = cond-false {A = List (List Bool)} (j == plp) _ _ (ne_eqb j plp differ)

  now_long : (j : ℕ) → AreLong c j (now j)
  now_long j = ⊎_elim
      (λ (e : j ≡ plp). subst (λ (k : ℕ). AreLong c k (now k)) (sym e)
      (subst (AreLong c plp) (sym now_own) (own_long numbers field c (λ _. input) n plp)))
      (λ (e : j ≡ plp → ⊥). subst (AreLong c j) (sym (now_other j e)) (right_long c j h.packets))
      (cases_eq j plp)

  abbrev lists : List (List (List ℕ))
  lists = slice_set f.blocks.now.lists plp own

  count : length lists ≡ length c.plps
  count = length-set f.blocks.now.lists plp own ∙ h.shows.plps

  lists_are : (j : ℕ) → j < length lists → map bits_of (slice_index_or lists j []) ≡ now j
  lists_are j lt = ⊎_elim
      (λ (e : j ≡ plp). subst (λ (k : ℕ). map bits_of (slice_index_or lists k []) ≡ now k) (sym e)
      (ap (map bits_of) (get_or-set_same f.blocks.now.lists plp own [] (let k = h.shows.plps in omega
      (arith, k, inside)))
      ∙ same ∙ sym now_own))
      (λ (e : j ≡ plp → ⊥). ap (map bits_of) (get_or-set_other f.blocks.now.lists plp j own [] e
      ∙ h.shows.blocks j (let k = count in omega (arith, lt, k))) ∙ held_back c j (right j) (right_long c j h.packets)
      ∙ sym (now_other j e))
      (cases_eq j plp)

  -- what is sent of the frame
  sent : pool_bodies c n f.pre f.conf dynamic lists ≡ made_bodies c n dynamic now
  sent =
      let whole : length lists ≡ length c.plps - 0 = (let k = count in omega (arith, k)) in
      ap₂ (λ (l1 : Body) (l : List Body). with_stamp c n (l1 ∷ l)) (signal_sent c n f.pre f.conf dynamic h.pre h.conf)
      (all_sent c (n % c.frames) now 0 lists (λ j lt. let e : j ≡ 0 + j = omega arith in lists_are j lt ∙ ap now e)
      ∙ ap (λ (k : ℕ). flat_map (λ j. sent_bodies (n % c.frames) (plp_at c.plps j).id true (now j))
      (range_with_len 0 k)) whole)

  -- its record
  abbrev passes : Passed c n h.packets
  passes = passed c h.past n h.packets h.pass

  own_is : f.dynamic ≡ passes.l1.first.dynamic
  own_is = h.shows.dynamic_is ∙ dynamic_is knows c n h.packets passes

  own_size : length f.dynamic ≡ dyn_len (length c.plps)
  own_size = ap length own_is ∙ dyn_size knows c n passes.l1.first (told knows c n h.packets passes)

  abbrev post : List Bool
  post = post_with c f.dynamic

  counts_same : counts_in c post ≡ counts_told c f.dynamic
  counts_same = ap (counts_told c) (dynamic_there c f.dynamic knows.conf_size own_size)

  dynamic_made : dyn_part c n (swapped_counts c plp input n post) ≡ dynamic
  dynamic_made = ap (λ (l : List ℕ). dyn_part c n (slice_set l plp (told_count c (λ _. input) n plp))) counts_same
      ∙ sym made.is

  post_made : post_with_counts c n (swapped_counts c plp input n post) post ≡ post_with c dynamic
  post_made = ap₂ (λ (x y : List Bool). crc_behind true (x ++ y)) (conf_there c f.dynamic knows.conf_size own_size)
      dynamic_made

  blocks_made : replaced c plp (input_blocks c plp input n) (sent_blocks c right) ≡ sent_blocks c now
  blocks_made =
      ap (λ (l : List (List Bool)). replaced c plp (map (sent_block c plp) l) (sent_blocks c right)) (sym now_own)
      ∙ replaced_is c plan plp inside right now now_other

  view_is : view_bodies c n (swapped_view c plp input n view) ≡ made_bodies c n dynamic now
  view_is =
      ap (λ (v : RecordView). view_bodies c n (swapped_view c plp input n v)) h.is
      ∙ ap (λ (d : List Bool). with_stamp c n (signal_of c n (l1_pre c)
      (post_with_counts c n (swapped_counts c plp input n (post_with c d)) (post_with c d))
      ∷ record_bodies (n % c.frames) None (replaced c plp (input_blocks c plp input n) (sent_blocks c right))))
      (sym h.shows.dynamic_is)
      ∙ ap₂ (λ (x : List Bool) (l : List Block). with_stamp c n (signal_of c n (l1_pre c) x ∷ record_bodies
      (n % c.frames) None l))
      post_made blocks_made
      ∙ made_carries numbers back law knows.conf_size c n plan dynamic now made.size now_long

pub held_is_swapped : BitCounts → ScramblesBack → PreBitsLength → FieldRange → Knows → HeldIsSwapped
held_is_swapped numbers back law field knows c plp n view f input dynamic own plan inside h made same =
    sent numbers back law field knows c plp n view f input dynamic own plan inside h made same
    ∙ sym (view_is numbers back law field knows c plp n view f input dynamic own plan inside h made same)
