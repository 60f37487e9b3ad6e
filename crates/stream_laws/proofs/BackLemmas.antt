-- What the packets of a written frame carry.
use Rattle.std.proofs.Common.{◌≡◌, ℕ, zero, suc, ◌+◌, ◌-◌, ◌*◌, ◌%◌, ◌<◌, ◌≤◌, ◌==◌, not, Bool, true, false, List, []}
use Rattle.std.proofs.Common.{◌∷◌, ◌++◌, length, map, take, count_by, Option, Some, None, refl, ap, ap₂, sym, ◌∙◌}
use Rattle.std.proofs.Common.{arith, cond}
use Rattle.std.specs.List.{filter_map, cons_option, flat_map, range_with_len}
use Rattle.std.proofs.lemmas.Bool.{cond_both, eq-eqb, ne_eqb}
use Rattle.std.proofs.lemmas.List.Sums.{sum_by-cons}
use Rattle.terms.specs.Bits.{field, bits_of}
use Rattle.terms.proofs.BitLemmas.{bits_of-bytes_of}
use Rattle.bit_slice.specs.Crc.{crc32_of}
use Rattle.bb_frame.specs.Laws.{BitCounts, ScramblesBack}
use Rattle.bb_frame.specs.Scrambled.{scrambled}
use Rattle.plp_config.specs.Capacity.{IsPlan, block_bytes}
use Rattle.plp_config.specs.Plps.{plp_at}
use Rattle.plp_config.specs.declared.config.Config.{Config}
use Rattle.l1_signal.specs.L1Of.{pre_of}
use Rattle.l1_signal.specs.L1Pre.{pre_bits}
use Rattle.l1_signal.specs.Laws.{PreBitsLength, ConfPartLength}
use Rattle.l1_signal.specs.Lengths.{dyn_len}
use Rattle.l1_signal.specs.declared.lengths.TheConstants.{PRE_BITS}
use Rattle.t2mi_packet.specs.declared.packet.Body.{Body}
use Rattle.t2mi_packet.specs.declared.packet.Body.TheVariants.{Block as BlockBody}
use Rattle.t2mi_packet.specs.declared.packet.Packet.{Packet}
use Rattle.frame_groups.specs.Carried.{body_block, right_blocks}
use Rattle.site_frame.specs.Record.{Block}
use Rattle.site_frame.specs.declared.reading.RecordView.{RecordView}
use Rattle.site_frame.specs.declared.reading.RecordView.TheVariants.{Frame, Muted}
use Rattle.record_laws.specs.Frames.{sent_block, sent_blocks, l1_pre}
use Rattle.open_group.specs.Front.{post_with}
use Rattle.open_group.specs.Written.{packets_view}
use Rattle.frame_writer.specs.FramePackets.{l1_body, with_stamp}
use Rattle.gateway_core.specs.Packets.{block_bodies}
use Rattle.stream_laws.specs.Carrying.{blocks_in}
use Rattle.stream_laws.specs.Remade.{intl_frame_start, record_bodies, signal_of, view_bodies}
use Rattle.stream_laws.proofs.FormedLemmas.{told, dynamic_is}
use Rattle.stream_laws.proofs.MadeLemmas.{ids_differ, made_l1, made_bodies}
use Rattle.stream_laws.proofs.PassedLemmas.{Passed, passed}
use Rattle.stream_laws.proofs.FormedSignalLemmas.{Knows, front_of, conf_there, dynamic_there, dyn_size}
use Rattle.stream_laws.proofs.SizeLemmas.{AreLong, right_long}
use Rattle.std.proofs.lemmas.List.FromFn.{fill_by_all}
use Rattle.frame_writer.specs.Bodies.{block_bodies as held_bodies, list_bodies}
use Rattle.frame_writer.specs.Signalling.{pre_part, conf_part}
use Rattle.open_group.specs.Sent.{held_bytes}
use Rattle.stream_laws.specs.FormedLaws.{ShownIsSent}

-- ---- the blocks

block_back : BitCounts → ScramblesBack → (c : Config) (plp : ℕ) (bits : List Bool) → length bits ≡ 8 * block_bytes c plp
    → scrambled (bits_of (sent_block c plp bits).bytes) ≡ bits
block_back numbers back c plp bits e =
    ap scrambled (bits_of-bytes_of (scrambled bits) (block_bytes c plp) (numbers.scrambled bits ∙ e)) ∙ back bits

-- the PLP of the last block
abbrev after : Option ℕ → ℕ → List (List Bool) → Option ℕ
after before id [] = before
after before id (b ∷ blocks) = Some id

after_own : (id : ℕ) (blocks : List (List Bool)) → after (Some id) id blocks ≡ Some id
after_own id [] = refl
after_own id (b ∷ blocks) = refl

own_not_first : (id : ℕ) → intl_frame_start (Some id) id ≡ false
own_not_first id = ap not (eq-eqb id id refl)

module _ (numbers : BitCounts) (back : ScramblesBack) (c : Config) (plan : IsPlan c) (frame_idx : ℕ) where
  abbrev pub id_of : ℕ → ℕ
  id_of plp = (plp_at c.plps plp).id

  one_plp : (plp : ℕ) (before : Option ℕ) (blocks : List (List Bool)) (rest : List Block) → AreLong c plp blocks
      → record_bodies frame_idx before (map (sent_block c plp) blocks ++ rest)
      ≡ block_bodies frame_idx (id_of plp) (intl_frame_start before (id_of plp)) blocks
      ++ record_bodies frame_idx (after before (id_of plp) blocks) rest
  one_plp plp before [] rest h = refl
  one_plp plp before (b ∷ blocks) rest h =
      let id : ℕ = id_of plp in
      let more = one_plp plp (Some id) blocks rest h.1 in
      let own : block_bodies frame_idx id (intl_frame_start (Some id) id) blocks
      ++ record_bodies frame_idx (after (Some id) id blocks) rest
      ≡ block_bodies frame_idx id false blocks ++ record_bodies frame_idx (Some id) rest =
      ap₂ (λ (t : Bool) (o : Option ℕ). block_bodies frame_idx id t blocks ++ record_bodies frame_idx o rest)
      (own_not_first id) (after_own id blocks) in
      ap₂ (λ (bits : List Bool) (l : List Body). BlockBody frame_idx id (intl_frame_start before id) bits ∷ l)
      (block_back numbers back c plp b h.0) (more ∙ own)

  -- the last block was of an earlier PLP
  abbrev Earlier : ℕ → Option ℕ → Type 0
  Earlier a None = Unit {0}
  Earlier a (Some id) = (j : ℕ) × (j < a) × (id ≡ id_of j)

  new_first : (a : ℕ) (before : Option ℕ) → a < length c.plps → Earlier a before
      → intl_frame_start before (id_of a) ≡ true
  new_first a None l e = refl
  new_first a (Some id) l e =
      let j = e.0 in
      let less = e.1 in
      ap not (ne_eqb _ _ (λ same. ids_differ c plan j a (omega (arith, less, l)) l
      (λ is. omega (arith, is, less))
      (sym e.2 ∙ same)))

  later : (a : ℕ) (before : Option ℕ) (blocks : List (List Bool)) → Earlier a before
      → Earlier (a + 1) (after before (id_of a) blocks)
  later a None [] e = tt
  later a (Some id) [] e = let less = e.1 in (e.0, omega (arith, less), e.2)
  later a before (b ∷ blocks) e = (a, omega arith, refl)

  module _ (blocks : ℕ → List (List Bool)) (long : (plp : ℕ) → AreLong c plp (blocks plp)) where
    all_plps : (k a : ℕ) (before : Option ℕ) → a + k ≤ length c.plps → Earlier a before
        → record_bodies frame_idx before (flat_map (λ plp. map (sent_block c plp) (blocks plp)) (range_with_len a k))
        ≡ flat_map (λ plp. block_bodies frame_idx (id_of plp) true (blocks plp)) (range_with_len a k)
    all_plps zero a before l e = refl
    all_plps (suc k) a before l e =
        let rest : List Block = flat_map (λ plp. map (sent_block c plp) (blocks plp)) (range_with_len (a + 1) k) in
        one_plp a before (blocks a) rest (long a)
        ∙ ap₂ (λ (t : Bool) (l : List Body). block_bodies frame_idx (id_of a) t (blocks a) ++ l)
        (new_first a before (omega (arith, l)) e)
        (all_plps k (a + 1) (after before (id_of a) (blocks a)) (omega (arith, l)) (later a before (blocks a) e))

    pub blocks_back : record_bodies frame_idx None (sent_blocks c blocks)
        ≡ flat_map (λ plp. block_bodies frame_idx (id_of plp) true (blocks plp)) (range_with_len 0 (length c.plps))
    blocks_back = all_plps (length c.plps) 0 None (omega arith) tt

-- ---- the L1-current

pub pre_there : PreBitsLength → (c : Config) → take PRE_BITS (l1_pre c) ≡ pre_bits (pre_of c)
pre_there law c = front_of (pre_bits (pre_of c)) (field 32 (crc32_of (pre_bits (pre_of c)))) PRE_BITS (law (pre_of c))

pub signal_is : PreBitsLength → ConfPartLength → (c : Config) (n : ℕ) (dynamic : List Bool)
    → length dynamic ≡ dyn_len (length c.plps)
    → signal_of c n (l1_pre c) (post_with c dynamic) ≡ made_l1 c n dynamic
signal_is law size c n dynamic e = grind (arith, pre_there, conf_there, made_l1, dynamic_there)

-- what is sent of a frame with this dynamic part and these blocks
pub made_carries : BitCounts → ScramblesBack → PreBitsLength → ConfPartLength → (c : Config) (n : ℕ) → IsPlan c
    → (dynamic : List Bool) (blocks : ℕ → List (List Bool)) → length dynamic ≡ dyn_len (length c.plps)
    → ((plp : ℕ) → AreLong c plp (blocks plp))
    → with_stamp c n (signal_of c n (l1_pre c) (post_with c dynamic) ∷ record_bodies (n % c.frames) None
    (sent_blocks c blocks))
    ≡ made_bodies c n dynamic blocks
made_carries numbers back law size c n plan dynamic blocks e long =
    let none : length c.plps ≡ length c.plps - 0 = omega arith in
    ap₂ (λ (l1 : Body) (l : List Body). with_stamp c n (l1 ∷ l)) (signal_is law size c n dynamic e)
    (blocks_back numbers back c plan (n % c.frames) blocks long
    ∙ ap (λ (k : ℕ). flat_map (λ plp. block_bodies (n % c.frames) (plp_at c.plps plp).id true (blocks plp))
    (range_with_len 0 k))
    none)

-- what is sent of the frame that packets make which pass
pub view_carries : BitCounts → ScramblesBack → PreBitsLength → (knows : Knows) (c : Config) (n : ℕ) (plan : IsPlan c)
    (packets : List Packet) (p : Passed c n packets) → view_bodies c n (packets_view c n packets)
    ≡ made_bodies c n p.l1.first.dynamic (λ plp. right_blocks c plp packets)
view_carries numbers back law knows c n plan packets p =
    let right : ℕ → List (List Bool) = λ plp. right_blocks c plp packets in
    ap (λ (bits : List Bool). with_stamp c n (signal_of c n (l1_pre c) (post_with c bits)
    ∷ record_bodies (n % c.frames) None (sent_blocks c right)))
    (dynamic_is knows c n packets p)
    ∙ made_carries numbers back law knows.conf_size c n plan p.l1.first.dynamic right
    (dyn_size knows c n p.l1.first (told knows c n packets p)) (λ plp. right_long c plp packets)

-- ---- how many blocks of a PLP are sent of a record

counted_one : (bits : List Bool) (rest : List (List Bool)) (t : Bool) (k : ℕ) → length rest ≡ k
    → length (cons_option (cond t (Some bits) None) rest) ≡ cond {A = ℕ} t 1 0 + k
counted_one bits rest true k e = omega (arith, e)
counted_one bits rest false k e = omega (arith, e)

counted_bodies : (id frame_idx : ℕ) (before : Option ℕ) (blocks : List Block)
    → length (filter_map (body_block id) (record_bodies frame_idx before blocks)) ≡ count_by (λ b. b.plp_id == id)
    blocks
counted_bodies id frame_idx before [] = refl
counted_bodies id frame_idx before (b ∷ blocks) =
    counted_one (scrambled (bits_of b.bytes)) (filter_map (body_block id) (record_bodies frame_idx (Some b.plp_id)
    blocks))
    (b.plp_id == id) (count_by (λ x. x.plp_id == id) blocks) (counted_bodies id frame_idx (Some b.plp_id) blocks)
    ∙ sym (sum_by-cons (λ (x : Block). cond {A = ℕ} (x.plp_id == id) 1 0) b blocks)

pub counted_view : (c : Config) (n plp : ℕ) (view : RecordView)
    → length (filter_map (body_block (plp_at c.plps plp).id) (view_bodies c n view)) ≡ blocks_in c plp view
counted_view c n plp (Frame moment pre post blocks cells) =
    let id : ℕ = (plp_at c.plps plp).id in
    let is = counted_bodies id (n % c.frames) None blocks in
    cond_both {A = List Body} (n % c.frames == 0) _ _
    (λ l. length (filter_map (body_block id) l) ≡ count_by (λ b. b.plp_id == id) blocks) (λ t. is) (λ t. is)
counted_view c n plp (Muted moment) = refl

-- ---- what is shown of packets that pass is what is sent of their record

-- the blocks of a PLP
plp_shown : (c : Config) (frame_idx id plp : ℕ) (first : Bool) (blocks : List (List Bool)) → AreLong c plp blocks
    → held_bodies frame_idx id first (map held_bytes blocks) ≡ block_bodies frame_idx id first blocks
plp_shown c frame_idx id plp first [] long = refl
plp_shown c frame_idx id plp first (b ∷ blocks) long =
    ap₂ (λ (bits : List Bool) (l : List Body). BlockBody frame_idx id first bits ∷ l)
    (bits_of-bytes_of b (block_bytes c plp) long.0)
    (plp_shown c frame_idx id plp false blocks long.1)

-- those of all
all_shown : (c : Config) (frame_idx : ℕ) (blocks : ℕ → List (List Bool)) → ((plp : ℕ) → AreLong c plp (blocks plp))
    → (k a : ℕ)
    → list_bodies c frame_idx a (map (λ plp. map held_bytes (blocks plp)) (range_with_len a k))
    ≡ flat_map (λ plp. block_bodies frame_idx (plp_at c.plps plp).id true (blocks plp)) (range_with_len a k)
all_shown c frame_idx blocks long zero a = refl
all_shown c frame_idx blocks long (suc k) a =
    ap₂ (λ (x y : List Body). x ++ y) (plp_shown c frame_idx (plp_at c.plps a).id a true (blocks a) (long a))
    (all_shown c frame_idx blocks long k (a + 1))

-- the L1-current
signal_shown : (c : Config) (n : ℕ) (dynamic : List Bool) → l1_body c n (pre_part c) (conf_part c) dynamic ≡ made_l1
    c n dynamic
unfolding pre_part conf_part
signal_shown c n dynamic = refl

pub shown_is_sent : BitCounts → ScramblesBack → PreBitsLength → Knows → ShownIsSent
shown_is_sent numbers back law knows c past n packets dynamic lists plan none s =
    let p = passed c past n packets none in
    let right : ℕ → List (List Bool) = λ plp. right_blocks c plp packets in
    let whole : length c.plps ≡ length c.plps - 0 = omega arith in
    let told : dynamic ≡ p.l1.first.dynamic = s.dynamic_is ∙ dynamic_is knows c n packets p in
    let held : list_bodies c (n % c.frames) 0 lists
    ≡ flat_map (λ plp. block_bodies (n % c.frames) (plp_at c.plps plp).id true (right plp))
    (range_with_len 0 (length c.plps - 0)) =
    ap (list_bodies c (n % c.frames) 0) (fill_by_all (λ plp. map held_bytes (right plp)) lists (length c.plps)
    [] s.plps s.blocks)
    ∙ all_shown c (n % c.frames) right (λ plp. right_long c plp packets) (length c.plps) 0
    ∙ ap (λ (k : ℕ). flat_map (λ plp. block_bodies (n % c.frames) (plp_at c.plps plp).id true (right plp))
    (range_with_len 0 k)) whole
    in
    ap₂ (λ (l1 : Body) (l : List Body). with_stamp c n (l1 ∷ l))
    (signal_shown c n dynamic ∙ ap (made_l1 c n) told) held
    ∙ sym (view_carries numbers back law knows c n plan packets p)
