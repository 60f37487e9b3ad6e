-- Rows of packets, each of one frame and less than 15 superframes behind the one before: each is a group. Spaced frames
-- are such rows: frames, and superframes of a timestamp alone between them.
use Rattle.std.proofs.Common.{◌≡◌, ℕ, ◌+◌, ◌*◌, ◌/◌, ◌%◌, ◌<◌, ◌≤◌, ◌==◌, true, false, List, [], ◌∷◌, ◌++◌, length, map}
use Rattle.std.proofs.Common.{Option, Some, None, option_map, refl, ap, sym, subst, ◌∙◌, ⊎_elim, arith}
use Rattle.std.proofs.Common.{mul-le-mul_right, add-mul, zero, suc, Bool, append_assoc}
use Rattle.std.specs.List.{filter, AllByRecursion}
use Rattle.std.proofs.lemmas.Bool.{cases_eq, cases_lt, and_from, and_left, and_right, eq-eqb}
use Rattle.std.proofs.lemmas.Bool.{ne_eqb, lt-ltb, cond_both, eqb-true}
use Rattle.std.proofs.lemmas.List.{length-map, map-append}
use Rattle.std.proofs.lemmas.Nat.{mod_below}
use Rattle.plp_config.specs.declared.config.Config.{Config}
use Rattle.t2mi_packet.specs.declared.packet.Body.{Body}
use Rattle.t2mi_packet.specs.declared.packet.Body.TheVariants.{Block, L1Current, Timestamp, Other}
use Rattle.t2mi_packet.specs.declared.packet.Packet.{Packet}
use Rattle.frame_groups.specs.declared.key.Key.{Key}
use Rattle.frame_groups.specs.Groups.{is_same, body_counts, is_counted, body_key, Keyed, keyed, Group, in_front}
use Rattle.frame_groups.specs.Groups.{key_runs, groups}
use Rattle.frame_groups.specs.Numbers.{frame_key}
use Rattle.frame_writer.specs.Carried.{of_frame}
use Rattle.frame_writer.specs.FramePackets.{packet_with, stamp_of, l1_body, with_stamp}
use Rattle.stream_laws.specs.SentPackets.{Sent, packets_of, TellsFrame}
use Rattle.stream_laws.specs.SentFrames.{sent_from}
use Rattle.stream_laws.proofs.SentLemmas.{IsPlain, Earlier}
use Rattle.stream_laws.proofs.FullLemmas.{sent_append}
use Rattle.spaced_frames.specs.Spaced.{SentFrame, first_frame, spacers, spacers_behind, spacers_between, spaced}
use Rattle.spaced_frames.specs.Spaced.{spaced_behind}
use Rattle.std.proofs.Math.Nat.{mul-div_cancel, mul-le-mul_right, div-mul-le_self, div-add-mod, mul-mod_left, add-mul}
use Rattle.std.proofs.Math.Nat.{mul_comm}
use Rattle.terms.proofs.AllLemmas.{all_append}
use Rattle.plp_config.specs.Plps.{plp_at}
use Rattle.frame_writer.specs.Bodies.{block_bodies, list_bodies}
use Rattle.mended_frames.specs.Mended.{Made, content_in, frame_of, frames_of}

-- The first packet of a row tells its frame, or as a timestamp its superframe; the others tell it, and none is a
-- timestamp.
pub record IsRow (c : Config) (x : SentFrame) : Type 0 where
  pub first : Body
  pub more : List Body
  pub is : x.bodies ≡ first ∷ more
  pub tells : TellsFrame c.frames x.number first
  pub plain : AllByRecursion (IsPlain c x.number) more

-- A row is behind another, by no more than 14 superframes.
pub record IsStep (c : Config) (m n : ℕ) : Type 0 where
  pub later : m < n
  pub near : n / c.frames ≤ m / c.frames + 14

abbrev pub IsStepSome : Config → Option ℕ → ℕ → Type 0
IsStepSome c None n = Unit {0}
IsStepSome c (Some m) n = IsStep c m n

abbrev pub AreSteps : Config → Option ℕ → List SentFrame → Type 0
AreSteps c before [] = Unit {0}
AreSteps c before (x ∷ rows) = IsStepSome c before x.number × AreSteps c (Some x.number) rows

abbrev pub rows_bodies : List SentFrame → List (ℕ × Body)
rows_bodies [] = []
rows_bodies (x ∷ rows) = of_frame x.number x.bodies ++ rows_bodies rows

-- the packets of a row, by the place of the first among all, and as a group
abbrev pub row_packets : Config → ℕ → ℕ → List Body → List Packet
row_packets c k n bodies = packets_of (sent_from c k (of_frame n bodies))

abbrev pub row_group : Config → ℕ → SentFrame → Group
row_group c k x = record { key = frame_key c.frames x.number; packets = row_packets c k x.number x.bodies }

abbrev pub row_groups : Config → ℕ → List SentFrame → List Group
row_groups c k [] = []
row_groups c k (x ∷ rows) = row_group c k x ∷ row_groups c (k + length x.bodies) rows

-- what the packets of a row carry
pub row_carries : (c : Config) (k n : ℕ) (bodies : List Body)
    → map (λ (p : Packet). p.body) (row_packets c k n bodies) ≡ bodies
row_carries c k n [] = refl
row_carries c k n (b ∷ bodies) = ap (λ (l : List Body). b ∷ l) (row_carries c (k + 1) n bodies)

-- ---- keys

module _ (c : Config) (some : 0 < c.frames) where
  abbrev key : ℕ → Key
  key n = frame_key c.frames n

  superframes_rise : (m n : ℕ) → m ≤ n → m / c.frames ≤ n / c.frames
  superframes_rise m n l = ⊎_elim
      (λ (k : n / c.frames < m / c.frames).
      let f : ℕ = c.frames in
      let g : (n / f + 1) * f ≤ m / f * f = mul-le-mul_right f (omega arith) in
      let h : (n / f + 1) * f ≡ n / f * f + 1 * f = add-mul (n / f) 1 f in
      absurd (omega (arith, mod_below n f some)))
      (λ (k : m / c.frames ≤ n / c.frames). k) (cases_lt (n / c.frames) (m / c.frames))

  -- the first frame of a superframe is in a later one than any frame before it
  superframe_later : (m n : ℕ) → n % c.frames ≡ 0 → m < n → m / c.frames < n / c.frames
  superframe_later m n begins l = ⊎_elim
      (λ (k : m / c.frames < n / c.frames). k)
      (λ (k : n / c.frames ≤ m / c.frames).
      let f : ℕ = c.frames in
      let g : n / f * f ≤ m / f * f = mul-le-mul_right f k in
      absurd (omega arith)) (cases_lt (m / c.frames) (n / c.frames))

  other_superframe : (a b : ℕ) → a < b → b ≤ a + 14 → (a % 16 == b % 16) ≡ false
  other_superframe a b l near = ne_eqb (a % 16) (b % 16) (λ e. omega (arith, near))

  -- two rows have different keys
  other_key : (m n : ℕ) → IsStep c m n → is_same (key m) (key n) ≡ false
  other_key m n s =
      let near = s.near in
      let rise = superframes_rise m n (omega arith) in
      ⊎_elim
      (λ (e : m / c.frames ≡ n / c.frames).
      let f : ℕ = c.frames in
      let g : m / f * f ≡ n / f * f = ap (λ (i : ℕ). i * f) e in
      and_right (m / f % 16 == n / f % 16) (m % f == n % f) (ne_eqb (m % f) (n % f) (λ same. omega arith)))
      (λ (e : m / c.frames ≡ n / c.frames → ⊥).
      and_left (m / c.frames % 16 == n / c.frames % 16) (m % c.frames == n % c.frames)
      (other_superframe (m / c.frames) (n / c.frames) (omega arith) near)) (cases_eq (m / c.frames) (n / c.frames))

  pub own_key : (n : ℕ) → is_same (key n) (key n) ≡ true
  own_key n = and_from (n / c.frames % 16 == n / c.frames % 16) (n % c.frames == n % c.frames)
      (eq-eqb (n / c.frames % 16) (n / c.frames % 16) refl) (eq-eqb (n % c.frames) (n % c.frames) refl)

  abbrev key_with : ℕ → ℕ → Key
  key_with a b = record { superframe = a; frame = b }

  -- each packet has the key of its frame
  first_key : (before : Option ℕ) (n : ℕ) (b : Body) → TellsFrame c.frames n b → IsStepSome c before n
      → body_key (option_map (frame_key c.frames) before) (n / c.frames % 16) b ≡ key n
  first_key before n (Block frame_idx plp_id first bits) t s = ap (key_with (n / c.frames % 16)) t
  first_key before n (L1Current frame_idx pre conf dynamic extension) t s = ap (key_with (n / c.frames % 16)) t
  first_key None n (Timestamp stamp) t s = ap (key_with (n / c.frames % 16)) (sym t)
  first_key (Some m) n (Timestamp stamp) t s =
      rw (other_superframe (m / c.frames) (n / c.frames) (superframe_later m n t s.later) s.near, ← t)
  first_key before n (Other packet_type bits) t s = absurd t

  plain_key : (n : ℕ) (b : Body) → IsPlain c n b → body_key (Some (key n)) (n / c.frames % 16) b ≡ key n
  plain_key n (Block frame_idx plp_id first bits) p = ap (key_with (n / c.frames % 16)) p.0
  plain_key n (L1Current frame_idx pre conf dynamic extension) p = ap (key_with (n / c.frames % 16)) p.0
  plain_key n (Timestamp stamp) p = absurd (p.1 tt)
  plain_key n (Other packet_type bits) p = absurd p.0

  -- ---- each packet counts

  body_told : (n : ℕ) (b : Body) → TellsFrame c.frames n b → body_counts c.frames b ≡ true
  body_told n (Block frame_idx plp_id first bits) t = lt-ltb frame_idx c.frames
      (omega (arith, mod_below n c.frames some))
  body_told n (L1Current frame_idx pre conf dynamic extension) t =
      lt-ltb frame_idx c.frames (omega (arith, mod_below n c.frames some))
  body_told n (Timestamp stamp) t = refl
  body_told n (Other packet_type bits) t = absurd t

  one_counts : (p : Packet) (ps qs : List Packet) → is_counted c.frames p ≡ true → filter (is_counted c.frames) ps ≡ qs
      → filter (is_counted c.frames) (p ∷ ps) ≡ p ∷ qs
  one_counts p ps qs t e =
      rw (t, e)

  plain_count : (k n : ℕ) (bodies : List Body) (rest : List Packet) → AllByRecursion (IsPlain c n) bodies
      → filter (is_counted c.frames) rest ≡ rest
      → filter (is_counted c.frames) (row_packets c k n bodies ++ rest) ≡ row_packets c k n bodies ++ rest
  plain_count k n [] rest p e = e
  plain_count k n (b ∷ bodies) rest p e =
      one_counts (packet_with c k n b) (row_packets c (k + 1) n bodies ++ rest) (row_packets c (k + 1) n bodies ++ rest)
      (body_told n b p.0.0) (plain_count (k + 1) n bodies rest p.1 e)

  -- ---- a row is a run of one key

  abbrev keyed_as : ℕ → Packet → Keyed
  keyed_as n p = record { key = key n; packet = p }

  -- The groups behind a row begin with another key.
  abbrev IsOther : ℕ → List Group → Type 0
  IsOther n [] = Unit {0}
  IsOther n (g ∷ gs) = is_same (key n) g.key ≡ false

  last_front : (n : ℕ) (p : Packet) (gs : List Group) → IsOther n gs → in_front (keyed_as n p) gs
      ≡ record { key = key n; packets = p ∷ [] } ∷ gs
  last_front n p [] o = refl
  last_front n p (g ∷ gs) o =
      rw o

  more_front : (n : ℕ) (p : Packet) (ps : List Packet) (gs : List Group)
      → in_front (keyed_as n p) (record { key = key n; packets = ps } ∷ gs)
      ≡ record { key = key n; packets = p ∷ ps } ∷ gs
  more_front n p ps gs =
      rw (own_key n)

  run_front : (k n : ℕ) (p : Packet) (bodies : List Body) (rest : List Packet) (gs : List Group)
      → AllByRecursion (IsPlain c n) bodies → key_runs (keyed (Some (key n)) rest) ≡ gs → IsOther n gs
      → in_front (keyed_as n p) (key_runs (keyed (Some (key n)) (row_packets c k n bodies ++ rest)))
      ≡ record { key = key n; packets = p ∷ row_packets c k n bodies } ∷ gs
  run_front k n p [] rest gs plain e o = ap (in_front (keyed_as n p)) e ∙ last_front n p gs o
  run_front k n p (b ∷ bodies) rest gs plain e o =
      let q : Packet = packet_with c k n b in
      let more : List Packet = row_packets c (k + 1) n bodies ++ rest in
      ap (λ (x : Key). in_front (keyed_as n p)
      (in_front (record { key = x; packet = q }) (key_runs (keyed (Some x) more)))) (plain_key n b plain.0)
      ∙ ap (in_front (keyed_as n p)) (run_front (k + 1) n q bodies rest gs plain.1 e o)
      ∙ more_front n p (q ∷ row_packets c (k + 1) n bodies) gs

  -- ---- all rows

  -- those of all rows, from a place on
  abbrev all_packets : ℕ → List SentFrame → List Packet
  all_packets k rows = packets_of (sent_from c k (rows_bodies rows))

  row_append : (k : ℕ) (x : SentFrame) (rows : List SentFrame) → all_packets k (x ∷ rows)
      ≡ row_packets c k x.number x.bodies ++ all_packets (k + length x.bodies) rows
  row_append k x rows =
      let own : List (ℕ × Body) = of_frame x.number x.bodies in
      ap packets_of (sent_append c k own (rows_bodies rows))
      ∙ map-append (λ (s : Sent). s.packet) (sent_from c k own) (sent_from c (k + length own) (rows_bodies rows))
      ∙ ap (λ (j : ℕ). row_packets c k x.number x.bodies ++ all_packets (k + j) rows)
      (length-map x.bodies (λ (b : Body). (x.number, b)))

  abbrev AreRows : List SentFrame → Type 0
  AreRows rows = AllByRecursion (IsRow c) rows

  all_count : (k : ℕ) (rows : List SentFrame) → AreRows rows → filter (is_counted c.frames) (all_packets k rows)
      ≡ all_packets k rows
  all_count k [] h = refl
  all_count k (x ∷ rows) h =
      let r = h.0 in
      let rest : List Packet = all_packets (k + length x.bodies) rows in
      let e = all_count (k + length x.bodies) rows h.1 in
      subst (λ (l : List Packet). filter (is_counted c.frames) l ≡ l) (sym (row_append k x rows))
      (subst (λ (bodies : List Body). filter (is_counted c.frames) (row_packets c k x.number bodies ++ rest)
      ≡ row_packets c k x.number bodies ++ rest) (sym r.is)
      (one_counts (packet_with c k x.number r.first) (row_packets c (k + 1) x.number r.more ++ rest)
      (row_packets c (k + 1) x.number r.more ++ rest) (body_told x.number r.first r.tells)
      (plain_count (k + 1) x.number r.more rest r.plain e)))

  other_rows : (k m : ℕ) (rows : List SentFrame) → AreSteps c (Some m) rows → IsOther m (row_groups c k rows)
  other_rows k m [] s = tt
  other_rows k m (x ∷ rows) s = other_key m x.number s.0

  runs : (before : Option ℕ) (k : ℕ) (rows : List SentFrame) → AreRows rows → AreSteps c before rows
      → key_runs (keyed (option_map (frame_key c.frames) before) (all_packets k rows)) ≡ row_groups c k rows
  runs before k [] h s = refl
  runs before k (x ∷ rows) h s =
      let r = h.0 in
      let n : ℕ = x.number in
      let j : ℕ = k + length x.bodies in
      let rest : List Packet = all_packets j rows in
      let gs : List Group = row_groups c j rows in
      let e : key_runs (keyed (Some (key n)) rest) ≡ gs = runs (Some n) j rows h.1 s.1 in
      let p : Packet = packet_with c k n r.first in
      ap (λ (l : List Packet). key_runs (keyed (option_map (frame_key c.frames) before) l)) (row_append k x rows)
      ∙ subst (λ (bodies : List Body). key_runs
      (keyed (option_map (frame_key c.frames) before) (row_packets c k n bodies ++ rest))
      ≡ record { key = key n; packets = row_packets c k n bodies } ∷ gs) (sym r.is)
      (rw (
        first_key before n r.first r.tells s.0,
        run_front (k + 1) n p r.more rest gs r.plain e (other_rows j n rows s.1),
      ))

  pub rows_grouped : (rows : List SentFrame) → AreRows rows → AreSteps c None rows
      → groups c.frames (packets_of (sent_from c 0 (rows_bodies rows))) ≡ row_groups c 0 rows
  unfolding groups
  rows_grouped rows h s = ap (λ (l : List Packet). key_runs (keyed None l)) (all_count 0 rows h) ∙ runs None 0 rows h s

-- a superframe of a timestamp alone, and so many of them
abbrev pub stamp_row : Config → ℕ → SentFrame
stamp_row c n = record { number = n; bodies = Timestamp (stamp_of c n) ∷ [] }

abbrev pub stamp_rows : Config → ℕ → ℕ → List SentFrame
stamp_rows c superframe zero = []
stamp_rows c superframe (suc count) = stamp_row c (first_frame c (superframe + 14)) ∷ stamp_rows c (superframe + 14)
    count

abbrev pub rows_between : Config → Option ℕ → ℕ → List SentFrame
rows_between c None n = []
rows_between c (Some m) n = stamp_rows c (m / c.frames) (spacers_between (m / c.frames) (n / c.frames))

abbrev pub made_rows : Config → Option ℕ → List Made → List SentFrame
made_rows c last [] = []
made_rows c last (x ∷ made) = rows_between c last x.number ++ (frame_of c x ∷ made_rows c (Some x.number) made)

rows_append : (xs ys : List SentFrame) → rows_bodies (xs ++ ys) ≡ rows_bodies xs ++ rows_bodies ys
rows_append [] ys = refl
rows_append (x ∷ xs) ys =
    rw (rows_append xs ys, ← (append_assoc (of_frame x.number x.bodies) (rows_bodies xs) (rows_bodies ys)))

stamps_are : (c : Config) (superframe count : ℕ) → spacers_behind c superframe count
    ≡ rows_bodies (stamp_rows c superframe count)
stamps_are c superframe zero = refl
stamps_are c superframe (suc count) =
    let n : ℕ = first_frame c (superframe + 14) in
    ap (λ (l : List (ℕ × Body)). of_frame n (Timestamp (stamp_of c n) ∷ []) ++ l) (stamps_are c (superframe + 14) count)

between_are : (c : Config) (last : Option ℕ) (n : ℕ) → spacers c last n ≡ rows_bodies (rows_between c last n)
between_are c None n = refl
between_are c (Some m) n = stamps_are c (m / c.frames) (spacers_between (m / c.frames) (n / c.frames))

made_behind : (c : Config) (last : Option ℕ) (made : List Made)
    → spaced_behind c last (frames_of c made) ≡ rows_bodies (made_rows c last made)
made_behind c last [] = refl
made_behind c last (x ∷ made) =
    let own : List (ℕ × Body) = of_frame x.number (frame_of c x).bodies in
    ap (λ (l : List (ℕ × Body)). l ++ (own ++ spaced_behind c (Some x.number) (frames_of c made)))
    (between_are c last x.number)
    ∙ ap (λ (l : List (ℕ × Body)). rows_bodies (rows_between c last x.number) ++ (own ++ l))
    (made_behind c (Some x.number) made)
    ∙ sym (rows_append (rows_between c last x.number) (frame_of c x ∷ made_rows c (Some x.number) made))

pub spaced_rows : (c : Config) (made : List Made) → spaced c (frames_of c made) ≡ rows_bodies (made_rows c None made)
unfolding spaced
spaced_rows c made = made_behind c None made

-- ---- each is a row

plain_list : (c : Config) (n id : ℕ) (first : Bool) (blocks : List (List ℕ))
    → AllByRecursion (IsPlain c n) (block_bodies (n % c.frames) id first blocks)
plain_list c n id first [] = tt
plain_list c n id first (b ∷ blocks) = ((refl, λ t. t), plain_list c n id false blocks)

plain_lists : (c : Config) (n plp : ℕ) (lists : List (List (List ℕ)))
    → AllByRecursion (IsPlain c n) (list_bodies c (n % c.frames) plp lists)
plain_lists c n plp [] = tt
plain_lists c n plp (blocks ∷ lists) =
    all_append (IsPlain c n) (block_bodies (n % c.frames) (plp_at c.plps plp).id true blocks)
    (list_bodies c (n % c.frames) (plp + 1) lists) (plain_list c n (plp_at c.plps plp).id true blocks)
    (plain_lists c n (plp + 1) lists)

row_with : (c : Config) (n : ℕ) (pre conf dynamic : List Bool) (lists : List (List (List ℕ)))
    → IsRow c (record {
      number = n;
      bodies = with_stamp c n (l1_body c n pre conf dynamic ∷ list_bodies c (n % c.frames) 0 lists);
    })
row_with c n pre conf dynamic lists =
    let rest : List Body = list_bodies c (n % c.frames) 0 lists in
    let l1 : Body = l1_body c n pre conf dynamic in
    cond_both {A = List Body} (n % c.frames == 0) _ _ (λ l. IsRow c (record { number = n; bodies = l }))
    (λ t. record {
      first = Timestamp (stamp_of c n);
      more = l1 ∷ rest;
      is = refl;
      tells = eqb-true (n % c.frames) 0 t;
      plain = ((refl, λ t. t), plain_lists c n 0 lists);
    })
    (λ t. record { first = l1; more = rest; is = refl; tells = refl; plain = plain_lists c n 0 lists })

frame_row : (c : Config) (x : Made) → IsRow c (frame_of c x)
frame_row c x =
    let k = content_in c x.group.packets in
    row_with c x.number k.pre k.conf k.dynamic k.lists

pub stamp_is_row : (c : Config) (n : ℕ) → n % c.frames ≡ 0 → IsRow c (stamp_row c n)
stamp_is_row c n e = record { first = Timestamp (stamp_of c n); more = []; is = refl; tells = e; plain = tt }

pub begins_superframe_at : (c : Config) (s : ℕ) → first_frame c s % c.frames ≡ 0
begins_superframe_at c s = mul-mod_left s c.frames

stamps_rows : (c : Config) (superframe count : ℕ) → AllByRecursion (IsRow c) (stamp_rows c superframe count)
stamps_rows c superframe zero = tt
stamps_rows c superframe (suc count) = (
  stamp_is_row c (first_frame c (superframe + 14)) (begins_superframe_at c (superframe + 14)),
  stamps_rows c
      (superframe + 14) count,
)

between_rows : (c : Config) (last : Option ℕ) (n : ℕ) → AllByRecursion (IsRow c) (rows_between c last n)
between_rows c None n = tt
between_rows c (Some m) n = stamps_rows c (m / c.frames) (spacers_between (m / c.frames) (n / c.frames))

pub all_rows : (c : Config) (last : Option ℕ) (made : List Made) → AllByRecursion (IsRow c) (made_rows c last made)
all_rows c last [] = tt
all_rows c last (x ∷ made) =
    all_append (IsRow c) (rows_between c last x.number) (frame_of c x ∷ made_rows c (Some x.number) made)
    (between_rows c last x.number) (frame_row c x, all_rows c (Some x.number) made)

-- ---- each is near the one before

-- The numbers of frames rise behind another.
abbrev pub RiseSome : Option ℕ → List Made → Type 0
RiseSome last [] = Unit {0}
RiseSome last (x ∷ made) = Earlier last x.number × RiseSome (Some x.number) made

-- the first frame of the superframe 14 further on
further : (c : Config) (m s : ℕ) → 0 < c.frames → m / c.frames ≡ s → IsStep c m (first_frame c (s + 14))
further c m s some is =
    let f : ℕ = c.frames in
    let e : f * (m / f) ≡ s * f = ap (λ (x : ℕ). f * x) is ∙ mul_comm f s in
    let a : (s + 14) * f ≡ s * f + 14 * f = add-mul s 14 f in
    record {
      later = omega (arith, mod_below m f some, div-add-mod m f);
      near = (omega (arith, mul-div_cancel (s + 14) some, is));
    }

steps_from : (c : Config) (k m s : ℕ) (x : SentFrame) (rows : List SentFrame) → 0 < c.frames → m / c.frames ≡ s
    → m < x.number → spacers_between s (x.number / c.frames) ≡ k → AreSteps c (Some x.number) rows
    → AreSteps c (Some m) (stamp_rows c s k ++ (x ∷ rows))
steps_from c zero m s x rows some is l count h = (record { later = l; near = omega (arith, is) }, h)
steps_from c (suc k) m s x rows some is l count h =
    let f : ℕ = c.frames in
    let n : ℕ = x.number in
    let fewer : spacers_between (s + 14) (n / f) ≡ k = omega arith in
    let below : (s + 14 + 1) * f ≤ n / f * f = mul-le-mul_right f (omega arith) in
    let one : (s + 14 + 1) * f ≡ (s + 14) * f + 1 * f = add-mul (s + 14) 1 f in (
      further c m s some is,
      steps_from c k ((s + 14) * f) (s + 14) x rows some (mul-div_cancel (s + 14) some)
          (omega (arith, div-mul-le_self n f)) fewer h,
    )

pub all_steps : (c : Config) (last : Option ℕ) (made : List Made) → 0 < c.frames → RiseSome last made
    → AreSteps c last (made_rows c last made)
all_steps c last [] some r = tt
all_steps c None (x ∷ made) some r = (tt, all_steps c (Some x.number) made some r.1)
all_steps c (Some m) (x ∷ made) some r =
    steps_from c (spacers_between (m / c.frames) (x.number / c.frames)) m (m / c.frames) (frame_of c x)
    (made_rows c (Some x.number) made) some refl r.0 refl (all_steps c (Some x.number) made some r.1)
