-- What the records of a gateway's frames tell of the interleaving frames of a PLP.
use Rattle.std.proofs.Common.{◌%◌, ◌≡◌, ℕ, ◌<◌, ◌==◌, ◌&&◌, Bool, true, false, List, [], length, Option, Some, None}
use Rattle.std.proofs.Common.{refl, ap, ◌∙◌, subst, arith, cond, eq-eqb, zero, suc, ◌+◌, ◌-◌, ◌*◌, ◌/◌, ◌≤◌, ◌∷◌, map}
use Rattle.std.proofs.Common.{take, drop, get_or, ap₂, sym, inl, inr, eqb-true, sum}
use Rattle.std.specs.Prelude.{option_map, slice_index, not, ◌||◌, nat_le, nat_lt, slice_get, if◌then◌else◌}
use Rattle.std.specs.Cmp.Lexicographic.{pointwise}
use Rattle.std.proofs.lemmas.Bool.{and_from, cases_lt, le-leb, lt-leb, lt-ltb}
use Rattle.std.proofs.lemmas.List.FromFn.{get_or-map-range_with_len, length-map-range_with_len, take-map-range_with_len}
use Rattle.std.specs.FinMap.{get}
use Rattle.plp_config.specs.Capacity.{IsPlan, block_bytes, block_cells}
use Rattle.plp_config.specs.InterleavingFrames.{interleaving_frame, is_first}
use Rattle.plp_config.specs.declared.config.Config.{Config}
use Rattle.scheduler.specs.Shape.{FrameShape}
use Rattle.cell_map.specs.CellMap.{cell_map, ordinal_of, is_carried}
use Rattle.cell_map.specs.declared.places.Cell.{Cell}
use Rattle.l1_signal.specs.L1Of.{post_bits, told_shape}
use Rattle.l1_signal.specs.L1Pre.{pre_reading}
use Rattle.frame_groups.specs.TestLaws.{IsOfFrame}
use Rattle.frame_groups.specs.MapTest.{map_passes}
use Rattle.frame_groups.specs.Readable.{told_dynamic, post_agrees, coming, block_sizes, has_size, shape_agrees}
use Rattle.frame_groups.specs.Readable.{readable}
use Rattle.frame_groups.specs.Tests.{read_whole, pre_agrees}
use Rattle.mode_adapt.specs.Blocks.{plp_blocks, own_blocks, told_count, told_counts}
use Rattle.record_laws.specs.Frames.{frame_shape, sent_blocks, frame_cells, l1_pre, sent_block, frame_of}
use Rattle.open_group.specs.Front.{post_with}
use Rattle.gateway_core.specs.Signalling.{dyn_part}
use Rattle.stream_laws.proofs.FormedSignalLemmas.{Knows, pre_is, post_is, told_is}
use Rattle.stream_laws.proofs.SizeLemmas.{all_sizes}
use Rattle.stream_laws.specs.Types.{TypesFit}
use Rattle.stream_laws.proofs.BlockLemmas.{own_long, count_at, blocks_long}
use Rattle.stream_laws.proofs.PassLemmas.{Given, parts_tell}
use Rattle.stream_laws.proofs.FrameSignalLemmas.{frame_parts, parts_pass}
use Rattle.stream_laws.proofs.WrittenLemmas.{post_is as post_of}
use Rattle.std.specs.List.{AllZip, AllByRecursion, range_with_len, list_all}
use Rattle.std.specs.Option.{option_map_or}
use Rattle.std.proofs.lemmas.List.Folds.{list_all-map}
use Rattle.std.proofs.lemmas.List.Sums.{sum-map}
use Rattle.std.proofs.lemmas.Nat.{mod-mul-add}
use Rattle.std.proofs.lemmas.Option.{slice_get-get_or}
use Rattle.std.proofs.Math.Nat.{mul-le-mul_right, div-mul-le_self}
use Rattle.terms.specs.Bits.{bits_of, bytes_of}
use Rattle.terms.proofs.BitLemmas.{bits_of-bytes_of}
use Rattle.terms.proofs.CaseLemmas.{bool_cases}
use Rattle.bb_frame.specs.Laws.{ScramblesBack}
use Rattle.bb_frame.specs.Scrambled.{scrambled}
use Rattle.plp_config.specs.Emission.{emission}
use Rattle.plp_config.specs.Plps.{plp_at, spread}
use Rattle.cell_map.specs.Address.{IsCarried, address_of}
use Rattle.null_delete.specs.Deletion.{packet_at}
use Rattle.site_frame.specs.declared.reading.RecordView.{RecordView}
use Rattle.site_frame.specs.declared.reading.RecordView.TheVariants.{Muted}
use Rattle.record_laws.specs.Laws.{BlockStands, CellStands, blocks_before}
use Rattle.record_laws.specs.Records.{record_of}
use Rattle.record_laws.specs.Recover.{is_there}
use Rattle.plp_receiver.specs.SlotEpochs.{Epoch, lost_epoch, epoch_with}
use Rattle.plp_receiver.specs.Strings.{Block}
use Rattle.terms.proofs.RangeLemmas.{map_same}
use Rattle.plp_receiver.proofs.TimeLemmas.{epoch_at}
use Rattle.plp_receiver.specs.Parts.{Part, part_with, count_of, is_cell, stands, all_stand}
use Rattle.plp_receiver.specs.Taken.{IsTaken, IsGiven, bytes_at}
use Rattle.plp_receiver.specs.Epochs.{part_of, with_part, parts_of, agree, agreeing, epoch_parts, cells_stand, place_of}
use Rattle.plp_receiver.specs.Epochs.{TellsBlocks, Tells, TellAll}
use Rattle.network_laws.specs.ToldEpochs.{ArePackets, told_blocks, told_epoch, is_lost, ended_epochs}
use Rattle.network_laws.specs.RecoverLaws.{BlocksTaken}
use Rattle.site_frame.specs.Record as frame

-- What the laws of the crates below say besides.
pub record Reads : Type 0 where
  pub given : Given
  pub signal : Knows

-- ---- tests of numbers in a row

pub each_passes : (test : ℕ → Bool) (n a : ℕ) → ((k : ℕ) → a ≤ k → k < a + n → test k ≡ true)
    → list_all test (range_with_len a n)
    ≡ true
each_passes test zero a h = refl
each_passes test (suc n) a h =
    and_from (test a) (list_all test (range_with_len (a + 1) n)) (h a (omega arith) (omega arith))
    (each_passes test n (a + 1) (λ k from below. h k (omega arith) (omega arith)))

same_tests : (f g : ℕ → Bool) (n a : ℕ) → ((k : ℕ) → a ≤ k → k < a + n → f k ≡ g k) → list_all f (range_with_len a n)
    ≡ list_all g (range_with_len a n)
same_tests f g zero a h = refl
same_tests f g (suc n) a h =
    rw (h a (omega arith) (omega arith), same_tests f g n (a + 1) (λ k from below. h k (omega arith) (omega arith)))

first_fails : (test : ℕ → Bool) (n a : ℕ) → 1 ≤ n → test a ≡ false → list_all test (range_with_len a n) ≡ false
first_fails test zero a l e = absurd (omega arith)
first_fails test (suc n) a l e = ap (λ (t : Bool). t && list_all test (range_with_len (a + 1) n)) e

not_not : (b : Bool) → not (not b) ≡ b
not_not true = refl
not_not false = refl

-- ---- lists

-- some numbers in a row among more
row_of : {X : Type 0} (f : ℕ → X) (d n a count : ℕ) → d + n ≤ count → take n (drop d (map f (range_with_len a count)))
    ≡ map f (range_with_len (a + d) n)
row_of f zero n a count l =
    let e : a ≡ a + 0 = omega arith in
    take-map-range_with_len f a count n (omega arith) ∙ ap (λ (k : ℕ). map f (range_with_len k n)) e
row_of f (suc d) n a zero l = absurd (omega arith)
row_of f (suc d) n a (suc count) l =
    let e : a + 1 + d ≡ a + suc d = omega arith in
    row_of f d n (a + 1) count (omega arith) ∙ ap (λ (k : ℕ). map f (range_with_len k n)) e

zip_row : {X : Type 0} (G : ℕ → X → Type 0) (f : ℕ → X) (n a : ℕ) → ((k : ℕ) → a ≤ k → k < a + n → G k (f k))
    → AllZip G (range_with_len a n) (map f (range_with_len a n))
zip_row G f zero a h = tt
zip_row G f (suc n) a h = (
  h a (omega arith) (omega arith),
  zip_row G f n (a + 1) (λ k from below. h k (omega arith)
      (omega arith)),
)

all_at : {X : Type 0} (P : X → Type 0) (xs : List X) (i : ℕ) (d : X) → AllByRecursion P xs → i < length xs
    → P (get_or xs i d)
all_at P [] i d h l = absurd (omega arith)
all_at P (x ∷ xs) zero d h l = h.0
all_at P (x ∷ xs) (suc i) d h l = all_at P xs i d h.1 (omega arith)

-- what holds of each of some blocks by its number, if all are taken
zip_numbers : (deletes : Bool) (G : ℕ → Option Block → Type 0) (bits : List (List Bool)) (blocks : List Block) (a : ℕ)
    → AllZip (IsTaken deletes) bits blocks
    → ((i : ℕ) (b : Block) → i < length bits → IsTaken deletes (get_or bits i []) b → G (a + i) (Some b))
    → AllZip G (range_with_len a (length bits)) (map Some blocks)
zip_numbers deletes G [] [] a h each = tt
zip_numbers deletes G [] (b ∷ blocks) a h each = absurd h
zip_numbers deletes G (w ∷ bits) [] a h each = absurd h
zip_numbers deletes G (w ∷ bits) (b ∷ blocks) a h each =
    let z : a + 0 ≡ a = omega arith in (
      rw (← z) (each 0 b (omega arith) h.0),
      zip_numbers deletes G bits blocks (a + 1) h.1
          (λ i x l t. let e : a + suc i ≡ a + 1 + i = omega arith in
          rw (← e) (each (suc i) x (omega arith) t)),
    )

-- What the laws of the crates below say besides.
pub record Stand : Type 0 where
  pub block : BlockStands
  pub cell : CellStands
  pub back : ScramblesBack
  pub taken : BlocksTaken

module _ (reads : Reads) (c : Config) (inputs : ℕ → List (List ℕ)) (plan : IsPlan c) (types : TypesFit c) where
  -- ---- the record of a frame is readable, and its shape is that of the frame

  module _ (n : ℕ) where
    abbrev given : Given
    given = reads.given

    abbrev shape : FrameShape
    shape = frame_shape c inputs n

    abbrev pub counts : List ℕ
    counts = told_counts c inputs n

    abbrev post : List Bool
    post = post_bits c n shape

    -- each part of L1 agrees
    is : IsOfFrame c n (frame_parts c inputs n)
    is =
        (given.told c n (frame_parts c inputs n)).0
        (parts_pass c plan types n counts (given.counted c inputs n plan) given.told given.pre_written
        given.conf_written
        given.dyn_written given.fits)

    pre_ok : pre_agrees c (read_whole (pre_reading true (l1_pre c))) ≡ true
    pre_ok = pre_is reads.signal c n (frame_parts c inputs n) is

    written : post_with c (dyn_part c n counts) ≡ post
    written = post_of c n counts

    post_ok : post_agrees c n post ≡ true
    post_ok = rw (← written) (post_is reads.signal c n (frame_parts c inputs n) is)

    shape_told : option_map told_shape (told_dynamic c post) ≡ Some shape
    shape_told =
        rw (← written) (ap (option_map told_shape) (told_is reads.signal c n (frame_parts c inputs n) is)
        ∙ parts_tell given c inputs n plan types)

    -- ---- blocks and cells

    -- how many blocks are told, and how many come with the frame
    pub told_are : (plp : ℕ) → plp < length c.plps → slice_index shape.counts plp ≡ told_count c inputs n plp
    told_are plp inside = ap (λ (l : List ℕ). slice_index l plp) (given.counts c counts) ∙ count_at c inputs n plp
        inside

    pub begun_are : (plp : ℕ) → plp < length c.plps
        → cond {A = ℕ} (is_first c plp n) (slice_index shape.counts plp) 0 ≡ length (own_blocks c inputs n plp)
    begun_are plp inside =
        rw (told_are plp inside, sized (is_first c plp n) (plp_blocks c inputs (interleaving_frame c plp n) plp))
      where
        sized : (b : Bool) (blocks : List (List Bool)) → cond {A = ℕ} b (length blocks) 0
            ≡ length (cond {A = List (List Bool)} b blocks [])
        sized true blocks = refl
        sized false blocks = refl

    abbrev pub blocks : List frame.Block
    blocks = sent_blocks c (own_blocks c inputs n)

    abbrev pub cells : List (Option Cell)
    cells = frame_cells c shape (n % c.frames)

    sizes_agree : pointwise has_size blocks (block_sizes c (coming c n shape)) ≡ true
    sizes_agree =
        all_sizes given.numbers c (coming c n shape) (own_blocks c inputs n)
        (own_long given.numbers given.field c inputs n) (length c.plps) 0
        (λ plp from below. let lt : plp < length c.plps = omega arith in
        get_or-map-range_with_len (λ p. cond {A = ℕ} (is_first c p n) (slice_index shape.counts p) 0) 0
        (length c.plps) plp plp 0 lt (omega arith)
        ∙ begun_are plp lt)

    shape_ok : shape_agrees c n blocks cells shape ≡ true
    shape_ok =
        let sizes : Bool = pointwise has_size blocks (block_sizes c (coming c n shape)) in
        let len : Bool = length cells == c.cells in
        and_from (sizes && len) (map_passes c shape)
        (and_from sizes len sizes_agree
        (eq-eqb (length cells) c.cells (length-map-range_with_len (get (cell_map c shape (n % c.frames))) 0 c.cells)))
        ((given.map c shape plan).1 (given.passes c counts plan (given.counted c inputs n plan)))

    pub is_readable : readable c n (l1_pre c) post blocks cells ≡ Some shape
    unfolding readable
    is_readable =
        rw (
          and_from (pre_agrees c (read_whole (pre_reading true (l1_pre c)))) (post_agrees c n post) pre_ok post_ok,
          shape_told,
          shape_ok,
        )

  module _ (stand : Stand) (plp : ℕ) (inside : plp < length c.plps)
      (packets : ArePackets (packet_at (inputs plp))) where
    abbrev deletes : Bool
    deletes = (plp_at c.plps plp).delete

    abbrev frames : ℕ
    frames = spread c.plps plp

    some : 1 ≤ frames
    some = (reads.given.laws.frames c plp plan.rules inside).0

    -- ---- a frame

    -- what the record of a whole frame tells
    abbrev part_at : ℕ → Part
    part_at n = part_with n (blocks n) (frame_shape c inputs n)
        (cells n)

    part_is : (n : ℕ) (whole : Bool) → part_of c n (cond whole (frame_of c inputs n) (Muted (emission c n)))
        ≡ cond {A = Option Part} whole (Some (part_at n)) None
    part_is n true =
        rw (is_readable n)
    part_is n false = refl

    module _ (n block : ℕ) (there : block < told_count c inputs n plp) where
      cell_is : (cell : ℕ) → cell < block_cells c plp → stands c (part_at n) plp block cell ≡ true
      cell_is cell below =
          let own : ℕ = ordinal_of (shape n) plp block in
          let found : Bool = is_cell own cell (slice_get (part_at n).cells (address_of c (shape n) (n % c.frames)
          plp block cell)) in
          bool_cases (is_carried c (shape n) (n % c.frames) plp block cell)
          (λ yes.
          let is : IsCarried c (shape n) (n % c.frames) plp block cell = record {
            there = record {
              configured = inside;
              sent = omega (arith, told_are n plp inside);
              within = below;
            };
            carried = eqb-true _ _ yes;
          } in
          or_second (not (is_carried c (shape n) (n % c.frames) plp block cell)) found
          (ap (is_cell own cell) (stand.cell c inputs n plp block cell plan is)
          ∙ and_from (own == own) (cell == cell) (eq-eqb own own refl) (eq-eqb cell cell refl)))
          (λ none. ap (λ (t : Bool). not t || found) none)
        where
          or_second : (a b : Bool) → b ≡ true → (a || b) ≡ true
          or_second true b h = refl
          or_second false b h = h

      cells_are : all_stand c plp (part_at n) block ≡ true
      unfolding all_stand
      cells_are =
          each_passes (stands c (part_at n) plp block) (block_cells c plp) 0
          (λ cell from below. cell_is cell (omega arith))

      -- its blocks stand behind those of the PLPs before that come with the frame
      place_is : place_of c plp (part_at n) block ≡ blocks_before (own_blocks c inputs n) plp + block
      place_is =
          let before : ℕ → ℕ = λ other. length (own_blocks c inputs n other) in
          let coming : ℕ → ℕ = λ other. cond {A = ℕ} (is_first c other n) (slice_index (shape n).counts other) 0 in
          ap (λ (l : List ℕ). sum l + block)
          (take-map-range_with_len coming 0 (length c.plps) plp (omega arith)
          ∙ map_same coming before 0 plp
          (λ other from below. begun_are n other (omega arith)))
          ∙ ap (λ (s : ℕ). s + block) (sum-map before (range_with_len 0 plp))

    -- ---- an interleaving frame

    abbrev parts_at : ℕ → ℕ → List Part
    parts_at from n = map part_at (range_with_len from n)

    -- the records of frames in a row tell their parts if all are whole
    parts_are : (whole : ℕ → Bool) (n from : ℕ) → parts_of c from
        (map (record_of c inputs whole) (range_with_len from n))
        ≡ cond {A = Option (List Part)} (list_all whole (range_with_len from n)) (Some (parts_at from n)) None
    unfolding parts_of
    parts_are whole zero from = refl
    parts_are whole (suc n) from =
        ap₂ with_part (part_is from (whole from)) (parts_are whole n (from + 1))
        ∙ joined (whole from) (list_all whole (range_with_len (from + 1) n)) (part_at from) (parts_at (from + 1) n)
      where
        joined : (a b : Bool) (p : Part) (parts : List Part)
            → with_part (cond {A = Option Part} a (Some p) None) (cond {A = Option (List Part)} b (Some parts) None)
            ≡ cond {A = Option (List Part)} (a && b) (Some (p ∷ parts)) None
        joined true true p parts = refl
        joined true false p parts = refl
        joined false b p parts = refl

    module _ (m : ℕ) where
      abbrev bits : List (List Bool)
      bits = plp_blocks c inputs m plp

      abbrev told : List Block
      told = told_blocks c plp (packet_at (inputs plp)) m

      abbrev begin : ℕ
      begin = m * frames

      -- each of its frames tells how many blocks it has
      number_is : (n : ℕ) → begin ≤ n → n < begin + frames → interleaving_frame c plp n ≡ m
      number_is n from below =
          let e : n ≡ begin + (n - begin) = omega arith in
          ap (λ (k : ℕ). k / frames) e ∙ epoch_at frames m (n - begin) (omega arith)

      told_number : (n : ℕ) → begin ≤ n → n < begin + frames → told_count c inputs n plp ≡ length bits
      told_number n from below = ap (λ (k : ℕ). length (plp_blocks c inputs k plp)) (number_is n from below)

      count_is : (n : ℕ) → begin ≤ n → n < begin + frames → count_of plp (part_at n) ≡ length bits
      count_is n from below = told_are n plp inside ∙ told_number n from below

      one_count : (n : ℕ) → n ≤ frames → agree plp (parts_at begin n) ≡ true
      one_count zero l = refl
      one_count (suc n) l =
          let same : Part → Bool = λ q. count_of plp q == count_of plp (part_at begin) in
          list_all-map same part_at (range_with_len (begin + 1) n)
          ∙ each_passes (λ k. same (part_at k)) n (begin + 1)
          (λ k from below. eq-eqb _ _ (count_is k (omega arith) (omega arith)
          ∙ sym (count_is begin (omega arith) (omega arith))))

      -- it begins in the first of them, which has its blocks
      begins : is_first c plp begin ≡ true
      begins =
          let e : begin ≡ m * frames + 0 = omega arith in
          eq-eqb (begin % frames) 0 (ap (λ (k : ℕ). k % frames) e ∙ mod-mul-add m frames 0 (omega (arith, some)))

      own_is : own_blocks c inputs begin plp ≡ bits
      own_is =
          rw (begins, number_is begin (omega arith) (omega (arith, some)))

      module _ (n : ℕ) (l : n ≤ frames) (block : ℕ) (there : block < length bits) where
        all_cells : cells_stand c plp (parts_at begin n) block ≡ true
        all_cells =
            let test : Part → Bool = λ p. all_stand c plp p block in
            list_all-map test part_at (range_with_len begin n)
            ∙ each_passes (λ k. test (part_at k)) n begin
            (λ k from below. cells_are k block (let t = told_number k from (omega arith) in omega (arith, t, there)))

        abbrev own : List Bool
        own = get_or bits block []

        bytes_are : bytes_at (part_at begin).blocks (place_of c plp (part_at begin) block) ≡ bytes_of (scrambled own)
        bytes_are =
            let t = told_number begin (omega arith) (omega (arith, some)) in
            let size = ap length own_is in
            ap (λ (o : Option frame.Block). option_map_or (λ (b : frame.Block). b.bytes) o [])
            (ap (slice_get (part_at begin).blocks) (place_is begin block (omega arith))
            ∙ stand.block c (own_blocks c inputs begin) plp block inside (omega arith)
            ∙ ap (λ (l : List (List Bool)). option_map (sent_block c plp) (slice_get l block)) own_is
            ∙ ap (option_map (sent_block c plp)) (slice_get-get_or bits block [] there))

        -- they are unscrambled to the block
        bits_are : scrambled (bits_of (bytes_at (part_at begin).blocks (place_of c plp (part_at begin) block))) ≡ own
        bits_are =
            let numbers = reads.given.numbers in
            let long = all_at (λ (b : List Bool). length b ≡ 8 * block_bytes c plp) bits block []
            (blocks_long numbers reads.given.field c inputs m plp) there in
            ap (λ (bytes : List ℕ). scrambled (bits_of bytes)) bytes_are
            ∙ ap scrambled (bits_of-bytes_of (scrambled own) (block_bytes c plp) (numbers.scrambled own ∙ long))
            ∙ stand.back own

        is_given : (b : Block) → IsTaken deletes own b → IsGiven deletes (cells_stand c plp (parts_at begin n) block)
            (bytes_at (part_at begin).blocks (place_of c plp (part_at begin) block)) (Some b)
        is_given b taken =
            let bytes : List ℕ = bytes_at (part_at begin).blocks (place_of c plp (part_at begin) block) in
            rw all_cells (rw bits_are taken)

      -- its parts tell its blocks
      tells_whole : (n : ℕ) → 1 ≤ n → n ≤ frames → Tells c plp (Some (parts_at begin n)) (epoch_with (map Some told))
      tells_whole zero l most = absurd (omega arith)
      tells_whole (suc n) l most =
          let G : ℕ → Option Block → Type 0 = λ block b. IsGiven deletes (cells_stand c plp (parts_at begin (suc n))
          block) (bytes_at (part_at begin).blocks (place_of c plp (part_at begin) block)) b in
          let blocks : TellsBlocks c plp (part_at begin) (parts_at begin (suc n)) (map Some told) =
          subst (λ (k : ℕ). AllZip G (range_with_len 0 k) (map Some told))
          (sym (count_is begin (omega arith) (omega (arith, some))))
          (zip_numbers deletes G bits told 0
          (stand.taken c plp (packet_at (inputs plp)) m plan inside (types.ids plp inside) packets)
          (λ i b lt t. let e : i ≡ 0 + i = omega arith in subst (λ (k : ℕ). G k (Some b)) e
          (is_given (suc n) most i lt b t))) in
          (map Some told, blocks, refl)

    -- ---- the records of frames from one on

    module _ (whole : ℕ → Bool) (first count : ℕ) where
      abbrev muted : ℕ → Bool
      muted n = not (whole n)

      abbrev views : List RecordView
      views = map (record_of c inputs whole) (range_with_len first count)

      abbrev is_in : ℕ → Bool
      is_in m = is_there c plp muted first count m

      abbrev there_or : Bool → List Part → Option (List Part)
      there_or there parts = if there then Some parts else None

      agreed : (there : Bool) (parts : List Part) → agree plp parts ≡ true
          → agreeing plp (there_or there parts) ≡ there_or there parts
      agreed true parts e = ap (λ (t : Bool). there_or t parts) e
      agreed false parts e = refl

      -- they tell the parts of an epoch that is there
      parts_there : (m : ℕ) → (m + 1) * frames ≤ first + count
          → epoch_parts c plp first views m ≡ there_or (is_in m) (parts_at (m * frames) frames)
      parts_there m l =
          let begin : ℕ = m * frames in
          let test : ℕ → Bool = λ n. nat_le first n && (nat_lt n (first + count) && not (muted n)) in
          let told : Option (List Part) = agreeing plp (parts_of c begin (take frames (drop (begin - first) views))) in
          elim (cases_lt begin first) [
            | inl lt ↦
                let late = lt-leb first begin lt in
                ap (λ (t : Bool). cond {A = Option (List Part)} t told None) late
                ∙ sym (ap (λ (t : Bool). there_or t (parts_at begin frames)) (first_fails test frames begin some
                (ap (λ (t : Bool). t && (nat_lt begin (first + count) && not (muted begin))) late)))
            | inr ge ↦
                let at : first + (begin - first) ≡ begin = omega arith in
                let rows : take frames (drop (begin - first) views) ≡ map (record_of c inputs whole)
                (range_with_len begin frames) =
                rw (row_of (record_of c inputs whole) (begin - first) frames first count (omega arith), at) in
                let same : is_in m ≡ list_all whole (range_with_len begin frames) =
                same_tests test whole frames begin (λ n from below.
                ap₂ (λ (s t : Bool). s && (t && not (muted n))) (le-leb first n (omega arith))
                (lt-ltb n (first + count) (omega arith)) ∙ not_not (whole n)) in
                ap (λ (t : Bool). cond {A = Option (List Part)} t told None) (le-leb first begin ge)
                ∙ ap (λ (v : List RecordView). agreeing plp (parts_of c begin v)) rows
                ∙ ap (agreeing plp) (parts_are whole frames begin)
                ∙ agreed (list_all whole (range_with_len begin frames)) (parts_at begin frames)
                (one_count m frames (omega arith))
                ∙ sym (ap (λ (t : Bool). there_or t (parts_at begin frames)) same)
          ]

      tells_epoch : (m : ℕ) → (m + 1) * frames ≤ first + count
          → Tells c plp (epoch_parts c plp first views m)
          (told_epoch c plp (packet_at (inputs plp)) (is_lost c plp muted first count) m)
      tells_epoch m l =
          rw (parts_there m l) (go (is_in m))
        where
          go : (b : Bool) → Tells c plp (there_or b (parts_at (m * frames) frames))
              (cond (not b) lost_epoch (epoch_with (map Some (told m))))
          go true = tells_whole m frames some (omega arith)
          go false = refl

      -- so they tell of all epochs that end
      pub tells_all : TellAll c plp first views (ended_epochs c plp (packet_at (inputs plp)) muted first count)
      unfolding TellAll
      tells_all =
          let lost : ℕ → Bool = is_lost c plp muted first count in
          let G : ℕ → Epoch → Type 0 = λ m e. Tells c plp (epoch_parts c plp first views m) e in
          rw (length-map-range_with_len (record_of c inputs whole) first count)
          (zip_row G (told_epoch c plp (packet_at (inputs plp)) lost) ((first + count) / frames - first / frames)
          (first / frames)
          (λ m from below.
          let q : (m + 1) * frames ≤ (first + count) / frames * frames = mul-le-mul_right frames (omega arith) in
          tells_epoch m (omega (arith, div-mul-le_self (first + count) frames))))
