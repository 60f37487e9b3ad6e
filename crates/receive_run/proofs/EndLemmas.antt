-- A file has an ending.
use Rattle.std.proofs.Common.{◌≡◌, ◌≢◌, ◌⊎◌, ℕ, zero, suc, ◌+◌, ◌/◌, ◌%◌, ◌^◌, ◌<◌, ◌≤◌, ◌==◌, Bool, true, false, inl}
use Rattle.std.proofs.Common.{inr, List, [], ◌∷◌, ◌++◌, length, drop, Option, Some, None, refl, ap, sym, subst, ◌∙◌}
use Rattle.std.proofs.Common.{arith, append_assoc, length-append, length-drop, eqb-true}
use Rattle.std.specs.Prelude.{nat_lt, bit_xor, Result, Ok, Err, if◌then◌else◌}
use Rattle.std.specs.List.{AllZip, range_with_len, concat}
use Rattle.std.proofs.lemmas.Bool.{eqb-false, ltb-true, ltb-false}
use Rattle.terms.specs.Bits.{field, number_at, bits_of, bytes_of}
use Rattle.terms.proofs.CaseLemmas.{bool_cases}
use Rattle.terms.proofs.DecisionLemmas.{decide_three, first_other}
use Rattle.terms.proofs.PartLemmas.{number-middle}
use Rattle.bb_frame.specs.BasebandFrame as baseband
use Rattle.bb_frame.specs.BasebandFrame.{fields_bits, mode, header_bits, Spells}
use Rattle.bb_frame.specs.Laws as bb
use Rattle.bb_frame.specs.Scrambled.{scrambled}
use Rattle.bb_frame.specs.declared.fault.BbFault.{BbFault}
use Rattle.bb_frame.specs.declared.header.Header.{Header}
use Rattle.bit_slice.specs.Crc.{crc8_of}
use Rattle.plp_config.specs.Emission.{emission}
use Rattle.plp_config.specs.Plps.{plp_at, spread}
use Rattle.plp_config.specs.Rules.{AllRules}
use Rattle.plp_config.specs.declared.config.Config.{Config}
use Rattle.plp_config.specs.declared.moment.Moment.{Moment}
use Rattle.plp_config.specs.declared.moment.TheConstants.{MOST_FRAMES}
use Rattle.site_frame.specs.Laws.{SpelledOrRefused}
use Rattle.site_frame.specs.Placing.{IsFrameOf, IsOffGrid}
use Rattle.site_frame.specs.RecordFile.{AreRecords, IsOnGrid, AreBytes}
use Rattle.site_frame.specs.Whole.{BeginsWith, Refuses, moment_of}
use Rattle.site_frame.specs.declared.fault.RecordWhy.{RecordWhy}
use Rattle.site_frame.specs.declared.fault.RecordWhy.TheVariants as why
use Rattle.site_frame.specs.declared.reading.RecordView.{RecordView}
use Rattle.plp_receiver.specs.SlotEpochs.{Epoch, lost_epoch, epoch_with, readback}
use Rattle.plp_receiver.specs.Strings.{Block}
use Rattle.common_plp.specs.Laws.{InStep}
use Rattle.common_plp.specs.Split.{joined}
use Rattle.plp_receiver.specs.JoinedBack.{MayJoin, JoinedBackWith}
use Rattle.plp_receiver.proofs.LengthLemmas.{same_length}
use Rattle.plp_receiver.specs.Epochs.{epoch_parts, cells_stand, place_of, Tells, epochs_in, TellAll, slot_rule}
use Rattle.plp_receiver.specs.Epochs.{Readback}
use Rattle.plp_receiver.specs.Parts.{Part, count_of}
use Rattle.plp_receiver.specs.Taken.{IsOfStream, block_read, IsTaken, IsGiven, bytes_at}
use Rattle.receive_run.specs.JoinedLaws.{MustRun, RunEnds}
use Rattle.receive_run.specs.JoinedReceived.{GivesBack, Received}
use Rattle.receive_run.specs.Received.{ran_of, expected_after, RefusesNext}
use Rattle.receive_run.specs.declared.stop.ReceiveRan.{ReceiveRan}
use Rattle.receive_run.specs.declared.stop.ReceiveStop.{ReceiveStop}
use Rattle.receive_run.specs.declared.stop.ReceiveStop.TheVariants.{RecordRefused}
use Rattle.receive_run.proofs.SameLemmas.{successive_join, successive_none}
use Rattle.site_frame.proofs.RecordSplitLemmas.{some_bytes, bytes_behind}

-- ---- decisions

decide_equal : (a b : ℕ) → Dec (a ≡ b)
decide_equal a b = bool_cases (a == b) (λ t. yes (eqb-true a b t)) (λ f. no (eqb-false a b f))

-- ---- what a block tells

-- the first byte of a frame is MATYPE-1
first_byte : (h : Header) (body bits : List Bool) → Spells h body bits → number_at bits 0 8 ≡ h.matype1
first_byte h body bits s =
    let g : List Bool = field 8 (bit_xor (crc8_of (fields_bits h)) mode) in
    let rest : List Bool =
    field 8 h.matype2
    ++ (field 16 (h.issy / 2 ^ 8)
    ++ (field 16 h.dfl ++ (field 8 h.issy ++ (field 16 h.syncd ++ (g ++ (body ++ s.padding)))))) in
    let is : bits ≡ field 8 h.matype1 ++ rest = s.spelled ∙ simp append_assoc in
    ap (λ (xs : List Bool). number_at xs 0 8) is ∙ number-middle [] rest 0 8 h.matype1 refl s.fits.matype1

decide_stream : (deletes : Bool) (matype1 : ℕ) → Dec (IsOfStream deletes matype1)
decide_stream deletes m =
    go (decide_three (decide_equal (m / 2 ^ 6) 3) (decide_equal (m / 2 ^ 3 % 2) 1)
    (decide_equal (m / 2 ^ 2 % 2) (if deletes then 1 else 0)))
  where
    go : Dec ((m / 2 ^ 6 ≡ 3) × (m / 2 ^ 3 % 2 ≡ 1) × (m / 2 ^ 2 % 2 ≡ (if deletes then 1 else 0)))
        → Dec (IsOfStream deletes m)
    go (yes h) = yes (record { stream = h.0; issyi = h.1; npd = h.2 })
    go (no f) = no (λ s. f (s.stream, s.issyi, s.npd))

-- a block tells something or nothing
taken_there : bb.SpelledOrRefused → bb.NoRefusal → bb.BitCounts → (deletes : Bool) (bits : List Bool)
    → ((b : Block) × IsTaken deletes bits b) ⊎ ((b : Block) → ¬ (IsTaken deletes bits b))
taken_there decides never counts deletes bits =
    bool_cases (nat_lt (length bits) 80) (λ less. inr (λ b t. short (ltb-true (length bits) 80 less)
    t.header t.body t.spelled))
    (λ not. long (decides bits (ltb-false (length bits) 80 not)))
  where
    short : length bits < 80 → (h : Header) (body : List Bool) → Spells h body bits → ⊥
    short less h body s =
        let size = ap length s.spelled in
        let all = length-append (header_bits h ++ body) s.padding in
        let front = length-append (header_bits h) body in
        let head = counts.header h in
        absurd (omega (arith, less, size, all, front, head))

    spelled : (h : Header) (body : List Bool) → Spells h body bits → Dec (IsOfStream deletes h.matype1)
        → ((b : Block) × IsTaken deletes bits b) ⊎ ((b : Block) → ¬ (IsTaken deletes bits b))
    spelled h body s (yes stream) =
        inl (
          block_read h (bytes_of body),
          record {
            header = h;
            body = body;
            spelled = s;
            stream = stream;
            block = refl;
          },
        )
    spelled h body s (no f) =
        inr (λ b t.
        f (subst (IsOfStream deletes) (sym (first_byte t.header t.body bits t.spelled) ∙ first_byte h body bits s)
        t.stream))

    long : ((h : Header) × ((body : List Bool) × Spells h body bits))
        ⊎ ((fault : BbFault) × baseband.Refuses bits fault)
        → ((b : Block) × IsTaken deletes bits b) ⊎ ((b : Block) → ¬ (IsTaken deletes bits b))
    long (inl (h, (body, s))) = spelled h body s (decide_stream deletes h.matype1)
    long (inr (fault, r)) = inr (λ b t. never t.header t.body bits fault t.spelled r)

given_there : bb.SpelledOrRefused → bb.NoRefusal → bb.BitCounts → (deletes stands : Bool) (bytes : List ℕ)
    → (b : Option Block)
    × IsGiven deletes stands bytes b
given_there decides never counts deletes false bytes = (None, refl)
given_there decides never counts deletes true bytes = go (taken_there decides never counts deletes
    (scrambled (bits_of bytes)))
  where
    go : ((b : Block) × IsTaken deletes (scrambled (bits_of bytes)) b)
        ⊎ ((b : Block) → ¬ (IsTaken deletes (scrambled (bits_of bytes)) b)) → (b : Option Block)
        × IsGiven deletes true bytes b
    go (inl t) = (Some t.0, t.1)
    go (inr f) = (None, f)

zip_there : {A B : Type 0} (R : A → B → Type 0) → ((x : A) → (y : B) × R x y) → (xs : List A) → (ys : List B)
    × AllZip R xs ys
zip_there R each [] = ([], tt)
zip_there R each (x ∷ xs) = let here = each x in let rest = zip_there R each xs in (here.0 ∷ rest.0, (here.1, rest.1))

-- ---- what records tell

tells_there : bb.SpelledOrRefused → bb.NoRefusal → bb.BitCounts → (c : Config) (plp : ℕ) (parts : Option (List Part))
    → (e : Epoch)
    × Tells c plp parts e
tells_there decides never counts c plp None = (lost_epoch, refl)
tells_there decides never counts c plp (Some []) = (epoch_with [], refl)
tells_there decides never counts c plp (Some (p ∷ parts)) =
    let each =
    zip_there (λ block b. IsGiven (plp_at c.plps plp).delete (cells_stand c plp (p ∷ parts) block)
    (bytes_at p.blocks (place_of c plp p block)) b)
    (λ block. given_there decides never counts (plp_at c.plps plp).delete (cells_stand c plp (p ∷ parts) block)
    (bytes_at p.blocks (place_of c plp p block))) (range_with_len 0 (count_of plp p)) in
    (epoch_with each.0, (each.0, each.1, refl))

told_there : bb.SpelledOrRefused → bb.NoRefusal → bb.BitCounts → (c : Config) (plp first : ℕ) (views : List RecordView)
    → (told : List Epoch) × TellAll c plp first views told
unfolding TellAll
told_there decides never counts c plp first views =
    zip_there (λ m e. Tells c plp (epoch_parts c plp first views m) e)
    (λ m. tells_there decides never counts c plp (epoch_parts c plp first views m))
    (epochs_in (spread c.plps plp) first (length views))

-- ---- what they give back

read_there : bb.SpelledOrRefused → bb.NoRefusal → bb.BitCounts → (c : Config) (plp first : ℕ) (views : List RecordView)
    → (packets : List (List ℕ)) × Readback c plp first views packets
read_there decides never counts c plp first views =
    let t = told_there decides never counts c plp first views in
    (readback (slot_rule c plp) first (length views) t.0, record { told = t.0; tells = t.1; packets_are = refl })

-- what a reader of records knows of blocks, and of groups
record Knows : Type 0 where
  decides : bb.SpelledOrRefused
  never : bb.NoRefusal
  counts : bb.BitCounts
  step : InStep

joined_there : Knows → (joins : Option ℕ) (c : Config) (plp first : ℕ) (views : List RecordView) → AllRules c
    → plp < length c.plps
    → MayJoin c plp joins → (packets : List (List ℕ)) × JoinedBackWith joins c plp first views packets
joined_there k None c plp first views rules inside may = read_there k.decides k.never k.counts c plp first views
joined_there k (Some common) c plp first views rules inside may =
    let shared = read_there k.decides k.never k.counts c common first views in
    let own = read_there k.decides k.never k.counts c plp first views in (
      joined shared.0 own.0,
      record {
        shared = shared.0;
        back_shared = shared.1;
        own = own.0;
        back_own = own.1;
        same_slots = same_length k.step c plp common rules inside (may common refl) first views shared.0
            own.0 shared.1 own.1;
        packets_are = refl;
      },
    )

back_there : Knows → (joins : Option ℕ) (c : Config) (plp first : ℕ) (views : List RecordView) → AllRules c
    → plp < length c.plps
    → MayJoin c plp joins → (packets : List (List ℕ)) × GivesBack joins c plp first views packets
back_there k joins c plp first [] rules inside may = ([], refl)
back_there k joins c plp first (v ∷ views) rules inside may = joined_there k joins c plp first (v ∷ views)
    rules inside may

-- ---- the frame of a moment

decide_moment : (a b : Moment) → Dec (a ≡ b)
decide_moment a b = go (decide_equal a.seconds b.seconds) (decide_equal a.subseconds b.subseconds)
  where
    go : Dec (a.seconds ≡ b.seconds) → Dec (a.subseconds ≡ b.subseconds) → Dec (a ≡ b)
    go (yes s) (yes u) = yes (λ i. record { seconds = s i; subseconds = u i })
    go (yes s) (no f) = no (λ e. f (ap (λ (m : Moment). m.subseconds) e))
    go (no f) d = no (λ e. f (ap (λ (m : Moment). m.seconds) e))

differs : {P : Type 0} → Dec P → (¬ P) ⊎ P
differs (yes p) = inr p
differs (no f) = inl f

frame_there : (c : Config) (moment : Moment) → ((n : ℕ) × IsFrameOf c moment n) ⊎ IsOffGrid c moment
frame_there c moment = go (first_other (λ n. moment ≢ emission c n) (λ n. moment ≡ emission c n) each MOST_FRAMES)
  where
    each : (n : ℕ) → (moment ≢ emission c n) ⊎ (moment ≡ emission c n)
    each n = differs (decide_moment moment (emission c n))

    go : ((n : ℕ) → n < MOST_FRAMES → moment ≢ emission c n)
        ⊎ ((n : ℕ) × (n < MOST_FRAMES) × (moment ≡ emission c n) × ((m : ℕ) → m < n → moment ≢ emission c m))
        → ((n : ℕ) × IsFrameOf c moment n) ⊎ IsOffGrid c moment
    go (inl none) = inr none
    go (inr found) = inl (found.0, record { small = found.1; emission-is = found.2 })

-- ---- records until one is refused

some_left : (x : ℕ) (xs : List ℕ) → x ∷ xs ≢ []
some_left x xs e = let n = ap length e in absurd (omega (arith, n))

-- Records of the frames from one on, and nothing behind them, or what is refused there.
record Tail (c : Config) (n : ℕ) (file : List ℕ) : Type 0 where
  views : List RecordView
  rest : List ℕ
  records : AreRecords file views rest
  successive : IsOnGrid c n views
  stuck : (rest ≡ []) ⊎ ((why : RecordWhy) × RefusesNext c (Some (n + length views)) rest why)

abbrev Reads : List ℕ → Type 0
Reads bytes = ((view : RecordView) × ((len : ℕ) × BeginsWith bytes view len)) ⊎ ((why : RecordWhy) × Refuses bytes why)

stops_here : (c : Config) (n : ℕ) (file : List ℕ) (why : RecordWhy) → n ≤ MOST_FRAMES
    → RefusesNext c (Some (n + 0)) file why
    → Tail c n file
stops_here c n file why few r =
    record { views = []; rest = file; records = refl; successive = successive_none c n few; stuck = inr (why, r) }

goes_on : (c : Config) (n : ℕ) (file : List ℕ) (view : RecordView) (len : ℕ) → IsFrameOf c (moment_of view) n
    → BeginsWith file view len → Tail c (n + 1) (drop len file) → Tail c n file
goes_on c n file view len f begins t = record {
  views = view ∷ t.views;
  rest = t.rest;
  records = (len, begins, t.records);
  successive = successive_join c n view t.views f t.successive;
  stuck = subst (λ (k : ℕ). (t.rest ≡ []) ⊎ ((why : RecordWhy) × RefusesNext c (Some k) t.rest why))
      (let e : n + 1 + length t.views ≡ n + suc (length t.views) = omega arith in e) t.stuck;
}

tail : SpelledOrRefused → (c : Config) (fuel n : ℕ) (file : List ℕ) → n ≤ MOST_FRAMES → AreBytes file
    → length file ≤ fuel
    → Tail c n file
tail decides c fuel n [] few bytes enough =
    record { views = []; rest = []; records = refl; successive = successive_none c n few; stuck = inl refl }
tail decides c zero n (x ∷ file) few bytes enough = absurd (omega (arith, enough))
tail decides c (suc fuel) n (x ∷ file) few bytes enough = go (tail decides c fuel) (decides (x ∷ file) bytes)
  where
    placed : ((n : ℕ) (file : List ℕ) → n ≤ MOST_FRAMES → AreBytes file → length file ≤ fuel → Tail c n file)
        → (view : RecordView) (len : ℕ) → BeginsWith (x ∷ file) view len → (frame : ℕ)
        → IsFrameOf c (moment_of view) frame
        → Dec (n ≡ frame) → Tail c n (x ∷ file)
    placed before view len b frame f (yes same) =
        let here : IsFrameOf c (moment_of view) n = subst (IsFrameOf c (moment_of view)) (sym same) f in
        let some = some_bytes (x ∷ file) view len b in
        let inside = b.inside in
        let small = here.small in
        goes_on c n (x ∷ file) view len here b
        (before (n + 1) (drop len (x ∷ file)) (omega (arith, small)) (bytes_behind len (x ∷ file) bytes)
        (omega (arith, enough, some, inside, length-drop len (x ∷ file))))
    placed before view len b frame f (no other) =
        stops_here c n (x ∷ file) why.Order few
        (inr (view, len, b, record { frame = frame; of = f; order = λ e. other (omega (arith, e)) }))

    found : ((n : ℕ) (file : List ℕ) → n ≤ MOST_FRAMES → AreBytes file → length file ≤ fuel → Tail c n file)
        → (view : RecordView) (len : ℕ) → BeginsWith (x ∷ file) view len → ((k : ℕ) × IsFrameOf c (moment_of view) k)
        ⊎ IsOffGrid c (moment_of view) → Tail c n (x ∷ file)
    found before view len b (inl f) = placed before view len b f.0 f.1 (decide_equal n f.0)
    found before view len b (inr off) = stops_here c n (x ∷ file) why.OffGrid few (inr (view, len, b, off))

    go : ((n : ℕ) (file : List ℕ) → n ≤ MOST_FRAMES → AreBytes file → length file ≤ fuel → Tail c n file)
        → Reads (x ∷ file)
        → Tail c n (x ∷ file)
    go before (inl (view, (len, b))) = found before view len b (frame_there c (moment_of view))
    go before (inr (w, r)) = stops_here c n (x ∷ file) w few (inl (some_left x file, r))

-- ---- endings

abbrev Ends : Option ℕ → Config → ℕ → List ℕ → Type 0
Ends joins c plp file = (result : Result ReceiveRan ReceiveStop) × MustRun joins c plp file result

-- a PLP of a network, and what is joined with it
record IsPlp (joins : Option ℕ) (c : Config) (plp : ℕ) : Type 0 where
  rules : AllRules c
  inside : plp < length c.plps
  may : MayJoin c plp joins

received_there : Knows → (joins : Option ℕ) (c : Config) (plp first : ℕ) (views : List RecordView) → IsPlp joins c plp
    → IsOnGrid c first views → (bytes : List ℕ) × (r : Received joins c plp views bytes) × (r.first ≡ first)
received_there k joins c plp first views p a =
    let b = back_there k joins c plp first views p.rules p.inside p.may in
    (concat b.0, record { first = first; successive = a; packets = b.0; back = b.1; bytes_are = refl }, refl)

-- behind records there is nothing
ends_well : Knows → (joins : Option ℕ) (c : Config) (plp first : ℕ) (file : List ℕ) (views : List RecordView)
    → IsPlp joins c plp
    → AreRecords file views [] → IsOnGrid c first views → Ends joins c plp file
ends_well k joins c plp first file views p records a =
    let r = received_there k joins c plp first views p a in (
      Ok (ran_of c plp r.1.first views r.1.packets),
      (r.0, record { views = views; records = records; received = r.1; ran_is = refl }),
    )

-- or what is refused
ends_refused : Knows → (joins : Option ℕ) (c : Config) (plp first : ℕ) (file rest : List ℕ) (views : List RecordView)
    (why : RecordWhy)
    → IsPlp joins c plp → AreRecords file views rest → IsOnGrid c first views
    → RefusesNext c (expected_after first views) rest why → Ends joins c plp file
ends_refused k joins c plp first file rest views why p records a refused =
    let r = received_there k joins c plp first views p a in (
      Err (RecordRefused (length views) why),
      (
        r.0,
        record {
          views = views;
          rest = rest;
          records = records;
          received = r.1;
          number_is = refl;
          refused = subst (λ (n : ℕ). RefusesNext c (expected_after n views) rest why) (sym r.2) refused;
        },
      ),
    )

ends_file : SpelledOrRefused → Knows → (joins : Option ℕ) (c : Config) (plp : ℕ) (file : List ℕ) → IsPlp joins c plp
    → AreBytes file
    → Ends joins c plp file
ends_file reads k joins c plp [] p bytes = ends_well k joins c plp 0 [] [] p refl (successive_none c 0 (omega arith))
ends_file reads k joins c plp (x ∷ file) p bytes = go (reads (x ∷ file) bytes)
  where
    none : IsOnGrid c 0 []
    none = successive_none c 0 (omega arith)

    first_whole : (first : ℕ) (view : RecordView) (len : ℕ) → BeginsWith (x ∷ file) view len
        → IsFrameOf c (moment_of view) first
        → (t : Tail c (first + 1) (drop len (x ∷ file))) → (t.rest ≡ [])
        ⊎ ((why : RecordWhy) × RefusesNext c (Some (first + 1 + length t.views)) t.rest why)
        → Ends joins c plp (x ∷ file)
    first_whole first view len b f t (inl empty) =
        ends_well k joins c plp first (x ∷ file) (view ∷ t.views) p
        (len, b, subst (λ (l : List ℕ). AreRecords (drop len (x ∷ file)) t.views l) empty t.records)
        (successive_join c first view t.views f t.successive)
    first_whole first view len b f t (inr (w, r)) =
        ends_refused k joins c plp first (x ∷ file) t.rest (view ∷ t.views) w p (len, b, t.records)
        (successive_join c first view t.views f t.successive)
        (subst (λ (k : ℕ). RefusesNext c (Some k) t.rest w) (let e : first + 1 + length t.views ≡ first + suc
        (length t.views) =
        omega arith in e) r)

    found : (view : RecordView) (len : ℕ) → BeginsWith (x ∷ file) view len → ((n : ℕ) × IsFrameOf c (moment_of view) n)
        ⊎ IsOffGrid c (moment_of view) → Ends joins c plp (x ∷ file)
    found view len b (inl f) =
        let small = f.1.small in
        let t = tail reads c (length (drop len (x ∷ file))) (f.0 + 1) (drop len (x ∷ file)) (omega (arith, small))
        (bytes_behind len (x ∷ file) bytes) (omega arith) in
        first_whole f.0 view len b f.1 t t.stuck
    found view len b (inr off) = ends_refused k joins c plp 0 (x ∷ file) (x ∷ file) [] why.OffGrid p refl none
        (inr (view, len, b, off))

    go : Reads (x ∷ file) → Ends joins c plp (x ∷ file)
    go (inl (view, (len, b))) = found view len b (frame_there c (moment_of view))
    go (inr (w, r)) = ends_refused k joins c plp 0 (x ∷ file) (x ∷ file) [] w p refl none (inl (some_left x file, r))

pub run_ends : SpelledOrRefused → bb.SpelledOrRefused → bb.NoRefusal → bb.BitCounts → InStep → RunEnds
run_ends reads decides never counts step joins c plp file plan inside may bytes =
    ends_file reads (record { decides = decides; never = never; counts = counts; step = step }) joins c plp file
    (record { rules = plan.rules; inside = inside; may = may }) bytes
