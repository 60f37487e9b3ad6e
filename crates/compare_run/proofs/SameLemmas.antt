-- Whole frames make the same record exactly if their L1 and the blocks that begin there are the same.
use Rattle.std.proofs.Common.{◌≡◌, ℕ, ◌%◌, ◌<◌, ◌^◌, Bool, true, false, List, [], ◌∷◌, ◌++◌, length, map, Option, Some}
use Rattle.std.proofs.Common.{None, refl, ap, ap₂, sym, ◌∙◌, arith}
use Rattle.std.specs.Prelude.{option_map, slice_get, slice_index}
use Rattle.std.specs.List.{filter_map}
use Rattle.std.specs.Option.{option_map_or}
use Rattle.std.proofs.lemmas.Bool.{cond-false}
use Rattle.std.proofs.lemmas.Option.{same_Some}
use Rattle.terms.proofs.CaseLemmas.{bool_cases}
use Rattle.terms.proofs.BitLemmas.{bits_of-bytes_of}
use Rattle.terms.proofs.RangeLemmas.{flat_same}
use Rattle.terms.specs.Bits.{bits_of}
use Rattle.bb_frame.specs.Laws.{BitCounts, ScramblesBack}
use Rattle.plp_config.specs.Capacity.{IsPlan, block_bytes}
use Rattle.plp_config.specs.Emission.{emission}
use Rattle.plp_config.specs.InterleavingFrames.{is_first}
use Rattle.plp_config.specs.Laws.{BeginAlone}
use Rattle.plp_config.specs.Plps.{plp_at}
use Rattle.plp_config.specs.declared.config.Config.{Config}
use Rattle.l1_signal.specs.L1Dynamic.{dyn_read}
use Rattle.l1_signal.specs.L1Of.{told_shape}
use Rattle.l1_signal.specs.Laws.{PreBitsLength}
use Rattle.t2mi_packet.specs.declared.packet.Packet.{Packet}
use Rattle.frame_groups.specs.Modulated.{FrameRecord, Numbered}
use Rattle.site_frame.specs.Laws.{OneRecord}
use Rattle.site_frame.specs.Whole.{Spells, record_bytes}
use Rattle.frame_groups.specs.Begun.{packets_at}
use Rattle.frame_groups.specs.Carried.{body_block, right_blocks, L1Parts, body_l1}
use Rattle.frame_groups.specs.Tests.{read_whole}
use Rattle.record_laws.specs.Frames.{HasByteIds, sent_block, sent_blocks, frame_view}
use Rattle.open_group.specs.Front.{post_with}
use Rattle.open_group.specs.Sent.{held_bytes}
use Rattle.open_group.specs.Written.{dynamic_in, shape_in, packets_view, content_view, spelled}
use Rattle.modulator.specs.Laws.{DueSpelled}
use Rattle.modulator.specs.StandsFor.{records_of}
use Rattle.feed_merge.specs.Groups.{groups_of}
use Rattle.stream_laws.specs.Remade.{view_bodies}
use Rattle.stream_laws.proofs.BackLemmas.{view_carries}
use Rattle.stream_laws.proofs.FormedLemmas.{dynamic_is, view_shape, right_counts}
use Rattle.stream_laws.proofs.MadeLemmas.{made_bodies, frame_l1, frame_blocks}
use Rattle.stream_laws.proofs.PassedLemmas.{Passed, passed}
use Rattle.stream_laws.proofs.FormedSignalLemmas.{Knows}
use Rattle.stream_laws.proofs.SizeLemmas.{AreLong, right_long}
use Rattle.stream_laws.proofs.BegunLemmas.{begun_here}
use Rattle.compare_run.specs.Comparing.{carried, place_of, place_answer, whole_answer, record_at}
use Rattle.compare_run.specs.AnswerLaws.{BothWhole, BeginSame, SameIsWritten, WrittenIsBegun, SameIsExact}
use Rattle.compare_run.specs.declared.answer.Answer.TheVariants.{Same, Differs}
use Rattle.compare_run.specs.declared.answer.Place.{Place}
use Rattle.compare_run.proofs.BlockLemmas.{none_left}
use Rattle.compare_run.proofs.CarriedLemmas.{nothing_differs, same_parts, carries_own}
use Rattle.compare_run.proofs.RecordLemmas.{Passing, IsWhole, whole_record, found}

-- What the laws of the crates below say.
pub record Known : Type 0 where
  pub numbers : BitCounts
  pub back : ScramblesBack
  pub pre_bits : PreBitsLength
  pub signal : Knows

-- ---- packets that pass

module _ (known : Known) (c : Config) (n : ℕ) (plan : IsPlan c) (packets : List Packet) (x : Passing c n packets) where
  abbrev told : Passed c n packets
  told = passed c x.past n packets x.pass

  abbrev dynamic : List Bool
  dynamic = told.l1.first.dynamic

  abbrev right : ℕ → List (List Bool)
  right plp = right_blocks c plp packets

  -- no block comes of an interleaving frame that began before
  none_right : (plp : ℕ) → plp < length c.plps → is_first c plp n ≡ false → right plp ≡ []
  none_right plp inside e =
      none_left (right plp)
      (sym (right_counts known.signal c n packets told known.numbers x.past plan x.pass plp inside)
      ∙ cond-false {A = ℕ} (is_first c plp n) (slice_index told.l1.shape.counts plp) 0 e)

  bodies : view_bodies c n (packets_view c n packets) ≡ made_bodies c n dynamic right
  bodies = view_carries known.numbers known.back known.pre_bits known.signal c n plan packets told

module _ (known : Known) (c : Config) (n : ℕ) (plan : IsPlan c) (pa pb : List Packet) (a : Passing c n pa)
    (b : Passing c n pb) where
  abbrev of_a : Passed c n pa
  of_a = passed c a.past n pa a.pass

  abbrev of_b : Passed c n pb
  of_b = passed c b.past n pb b.pass

  -- the first L1-current of either has the dynamic part
  dynamic_a : dynamic_in pa ≡ of_a.l1.first.dynamic
  dynamic_a = dynamic_is known.signal c n pa of_a

  dynamic_b : dynamic_in pb ≡ of_b.l1.first.dynamic
  dynamic_b = dynamic_is known.signal c n pb of_b

  -- it tells the shape
  same_shape : dynamic_in pa ≡ dynamic_in pb → shape_in c pa ≡ shape_in c pb
  same_shape e =
      view_shape known.signal c n pa of_a
      ∙ same_Some of_a.l1.shape of_b.l1.shape
      (sym of_a.l1.told
      ∙ ap (λ (bits : List Bool). option_map told_shape (read_whole (dyn_read (length c.plps) bits)))
      (sym dynamic_a ∙ e ∙ dynamic_b)
      ∙ of_b.l1.told)
      ∙ sym (view_shape known.signal c n pb of_b)

  same_blocks : BeginSame c n pa pb → (plp : ℕ) → plp < length c.plps → right_blocks c plp pa ≡ right_blocks c plp pb
  same_blocks s plp inside =
      bool_cases (is_first c plp n) (λ t. s.blocks plp inside t)
      (λ f. none_right known c n plan pa a plp inside f ∙ sym (none_right known c n plan pb b plp inside f))

  same_view : BeginSame c n pa pb → packets_view c n pa ≡ packets_view c n pb
  same_view s =
      let view = frame_view c (emission c n) (n % c.frames) in
      let blocks : sent_blocks c (λ plp. right_blocks c plp pa) ≡ sent_blocks c (λ plp. right_blocks c plp pb) =
      flat_same (λ plp. map (sent_block c plp) (right_blocks c plp pa)) (λ plp. map (sent_block c plp)
      (right_blocks c plp pb))
      0 (length c.plps)
      (λ plp low high. ap (map (sent_block c plp)) (same_blocks s plp (omega (arith, high)))) in
      ap (λ (bits : List Bool). view (post_with c bits) (sent_blocks c (λ plp. right_blocks c plp pa)) (shape_in c pa))
      s.dynamic
      ∙ ap₂ (view (post_with c (dynamic_in pb))) blocks (same_shape s.dynamic)

  -- and what packets of the record carry tells them
  same_back : packets_view c n pa ≡ packets_view c n pb → BeginSame c n pa pb
  same_back e =
      let da : List Bool = of_a.l1.first.dynamic in
      let db : List Bool = of_b.l1.first.dynamic in
      let ra : ℕ → List (List Bool) = λ plp. right_blocks c plp pa in
      let rb : ℕ → List (List Bool) = λ plp. right_blocks c plp pb in
      let same : made_bodies c n da ra ≡ made_bodies c n db rb =
      sym (bodies known c n plan pa a) ∙ ap (view_bodies c n) e ∙ bodies known c n plan pb b in
      record {
        dynamic = dynamic_a
            ∙ ap (λ (l : List L1Parts). option_map_or (λ l1. l1.dynamic) (slice_get l 0) [])
            (sym (frame_l1 c n da ra) ∙ ap (filter_map body_l1) same ∙ frame_l1 c n db rb)
            ∙ sym dynamic_b;
        blocks = λ plp inside first.
            sym (frame_blocks c n da ra plan plp inside) ∙ ap (filter_map (body_block (plp_at c.plps plp).id)) same
            ∙ frame_blocks c n db rb plan plp inside;
      }

-- ---- blocks as they are held

held_back : (c : Config) (plp : ℕ) (xs ys : List (List Bool)) → AreLong c plp xs → AreLong c plp ys
    → map held_bytes xs ≡ map held_bytes ys → xs ≡ ys
held_back c plp xs ys a b e = sym (go xs a) ∙ ap (map bits_of) e ∙ go ys b
  where
    go : (zs : List (List Bool)) → AreLong c plp zs → map bits_of (map held_bytes zs) ≡ zs
    go [] h = refl
    go (z ∷ zs) h = ap₂ (λ (x : List Bool) (l : List (List Bool)). x ∷ l) (bits_of-bytes_of z (block_bytes c plp) h.0)
        (go zs h.1)

-- what frames that are called the same have
pub none_placed : (o : Option Place) → place_answer o ≡ Same → o ≡ None
none_placed None e = refl
none_placed (Some at) e = absurd (let z : Differs at ≡ Same = e in cc)

called_same : (c : Config) (n : ℕ) (ga gb : List Numbered) → whole_answer c n ga gb ≡ Same
    → BeginSame c n (packets_at ga n) (packets_at gb n)
called_same c n ga gb e =
    let parts = same_parts c n ga gb (none_placed (place_of c n ga gb) e) in
    record {
      dynamic = parts.0;
      blocks = λ plp inside first.
          let begin = begun_here c plp n first in
          held_back c plp (right_blocks c plp (packets_at ga n)) (right_blocks c plp (packets_at gb n))
          (right_long c plp (packets_at ga n)) (right_long c plp (packets_at gb n))
          (sym (ap (λ (b : ℕ). map held_bytes (right_blocks c plp (packets_at ga b))) begin) ∙ parts.1 plp inside
          ∙ ap (λ (b : ℕ). map held_bytes (right_blocks c plp (packets_at gb b))) begin);
    }

-- ---- the records

module _ (known : Known) (c : Config) (a b : List ℕ) (n : ℕ) (x y : FrameRecord) (plan : IsPlan c)
    (w : BothWhole c a b n x y) where
  abbrev ga : List Numbered
  ga = groups_of c a

  abbrev gb : List Numbered
  gb = groups_of c b

  is_a : IsWhole c n (packets_at ga n) x
  is_a = whole_record c a n x w.first w.whole_first

  is_b : IsWhole c n (packets_at gb n) y
  is_b = whole_record c b n y w.second w.whole_second

  written : BeginSame c n (packets_at ga n) (packets_at gb n) → spelled c x ≡ spelled c y
  written s =
      ap record_bytes (is_a.view ∙ same_view known c n plan (packets_at ga n) (packets_at gb n) is_a.passes
      is_b.passes s
      ∙ sym is_b.view)

  module _ (spell : DueSpelled) (one : OneRecord) (ids : HasByteIds c) (few : n < 2 ^ 32) where
    spells_of : (bytes : List ℕ) (z : FrameRecord) → record_at n (records_of c bytes) ≡ Some z → z.number ≡ n
        → Spells (content_view c z.number z.content) (spelled c z)
    spells_of bytes z e number =
        found (λ z. z.number < 2 ^ 32 → Spells (content_view c z.number z.content) (spelled c z)) n (records_of c bytes)
        z
        (spell c true bytes plan ids) e (omega (arith, number, few))

    read_back : spelled c x ≡ spelled c y → BeginSame c n (packets_at ga n) (packets_at gb n)
    read_back e =
        let same = one (content_view c x.number x.content) (content_view c y.number y.content) (spelled c x)
        (spelled c y) [] []
        (spells_of a x w.first is_a.number) (spells_of b y w.second is_b.number) (ap (λ (l : List ℕ). l ++ []) e) in
        same_back known c n plan (packets_at ga n) (packets_at gb n) is_a.passes is_b.passes
        (sym is_a.view ∙ same.0 ∙ is_b.view)

pub same_is_written : Known → SameIsWritten
same_is_written known c a b n x y plan w e =
    written known c a b n x y plan w (called_same c n (groups_of c a) (groups_of c b) e)

pub written_is_begun : Known → DueSpelled → OneRecord → WrittenIsBegun
written_is_begun known spell one c a b n x y plan ids few w = (
  read_back known c a b n x y plan w spell one ids few,
  written known c a b n x y plan w,
)

pub same_is_exact : Known → DueSpelled → OneRecord → BeginAlone → SameIsExact
same_is_exact known spell one alone c a b n x y plan ids few stand w = (
  same_is_written known c a b n x y plan w,
  λ e.
      let s = read_back known c a b n x y plan w spell one ids few e in
      let own : (gs : List Numbered) (plp : ℕ) → plp < length c.plps → carried c gs plp n
      ≡ map held_bytes (right_blocks c plp (packets_at gs n)) =
      λ gs plp inside. carries_own alone c gs plp n stand inside in
      ap place_answer
      (nothing_differs c n (groups_of c a) (groups_of c b) s.dynamic
      (λ plp inside. own (groups_of c a) plp inside
      ∙ ap (map held_bytes) (s.blocks plp inside (alone c plp n (stand plp inside)).0)
      ∙ sym (own (groups_of c b) plp inside))),
)
