-- The groups of survivors of which different frames are apart are those of their frames.
use Rattle.std.proofs.Common.{◌≡◌, ◌≢◌, ℕ, zero, suc, ◌+◌, ◌*◌, ◌/◌, ◌%◌, ◌<◌, ◌≤◌, ◌==◌, Bool, true, false, cond}
use Rattle.std.proofs.Common.{if◌then◌else◌, List, [], ◌∷◌, ◌++◌, map, length, Option, Some, None, option_map, refl, ap}
use Rattle.std.proofs.Common.{ap₂, sym, subst, ◌∙◌, ⊎_elim, arith, div-lt_iff_lt-mul, add-mul, mul-le-mul_right}
use Rattle.std.specs.List.{filter, items_where_true, range_with_len, AllByRecursion}
use Rattle.std.proofs.lemmas.Bool.{cases_lt, cases_eq, cond_both, cond-true, cond-false, both_ways, and_from}
use Rattle.std.proofs.lemmas.Bool.{false_from_ne_true, eqb-true, eq-eqb, ne_eqb, lt-ltb}
use Rattle.std.proofs.lemmas.Nat.{div-add-mod', mod_below}
use Rattle.t2mi_packet.specs.declared.packet.Body.{Body}
use Rattle.t2mi_packet.specs.declared.packet.Body.TheVariants.{Block, L1Current, Timestamp, Other}
use Rattle.t2mi_packet.specs.declared.packet.Packet.{Packet}
use Rattle.frame_groups.specs.declared.key.Key.{Key}
use Rattle.frame_groups.specs.Groups.{is_same, body_counts, is_counted, body_key, key_behind, Keyed, keyed, Group}
use Rattle.frame_groups.specs.Groups.{in_front, key_runs, groups}
use Rattle.frame_groups.specs.Numbers.{frame_key}
use Rattle.frame_groups.proofs.NumberLemmas.{same_key}
use Rattle.stream_laws.specs.SentPackets.{Sent, packets_of, frame_packets, frame_group, IsTimestamp, TellsFrame}
use Rattle.stream_laws.specs.SentPackets.{IsOfFrame, Follows, FollowsSome, InFrameOrder, AreFrames, IsNearSome, AreNear}
use Rattle.stream_laws.specs.SentPackets.{IsApart, IsApartSome, AreApart}
use Rattle.stream_laws.specs.Survivors.{has_packets}
use Rattle.stream_laws.specs.DamageLaws.{Survive, GroupsAreFrames}
use Rattle.stream_laws.proofs.FullLemmas.{packets_here, packets_other}

-- Survivors are in the order of their frames.
abbrev Below : Option ℕ → ℕ → Type 0
Below None m = Unit {0}
Below (Some k) m = k ≤ m

follows_below : (before : Option ℕ) (m : ℕ) (s : Sent) → Below before m → Follows m s → FollowsSome before s
follows_below None m s b f = tt
follows_below (Some k) m s b f = record {
  frame = let h = f.frame in omega (arith, b, h);
  stamp = λ e. let h = f.stamp e in
      omega (arith, b, h);
}

follows_frame : (before : Option ℕ) (s : Sent) → FollowsSome before s → Below before s.frame
follows_frame None s f = tt
follows_frame (Some k) s f = f.frame

order_below : (frames : ℕ) (before : Option ℕ) (m : ℕ) (ss : List Sent) → Below before m
    → InFrameOrder frames (Some m) ss
    → InFrameOrder frames before ss
order_below frames before m [] b o = tt
order_below frames before m (s ∷ ss) b o = (o.0, follows_below before m s b o.1, o.2)

pub order_survivors : (frames : ℕ) (before : Option ℕ) (sent : List Sent) (survival : List Bool)
    → InFrameOrder frames before sent
    → InFrameOrder frames before (items_where_true survival sent)
order_survivors frames before sent [] o = tt
order_survivors frames before [] (t ∷ survival) o = tt
order_survivors frames before (s ∷ sent) (true ∷ survival) o = (
  o.0,
  o.1,
  order_survivors frames (Some s.frame)
      sent survival o.2,
)
order_survivors frames before (s ∷ sent) (false ∷ survival) o =
    order_below frames before s.frame (items_where_true survival sent) (follows_frame before s o.1)
    (order_survivors frames (Some s.frame) sent survival o.2)

abbrev pub AreBelow : ℕ → List Sent → Type 0
AreBelow count sent = AllByRecursion (λ s. s.frame < count) sent

pub below_survivors : (count : ℕ) (sent : List Sent) (survival : List Bool) → AreBelow count sent
    → AreBelow count (items_where_true survival sent)
below_survivors count sent [] b = tt
below_survivors count [] (t ∷ survival) b = tt
below_survivors count (s ∷ sent) (true ∷ survival) b = (b.0, below_survivors count sent survival b.1)
below_survivors count (s ∷ sent) (false ∷ survival) b = below_survivors count sent survival b.1

-- Each of them counts.
body_told : (frames n : ℕ) (b : Body) → 0 < frames → TellsFrame frames n b → body_counts frames b ≡ true
body_told frames n (Block frame_idx plp_id first bits) some t =
    lt-ltb _ _ (let h = mod_below n frames some in omega (arith, h, t))
body_told frames n (L1Current frame_idx pre conf dynamic extension) some t =
    lt-ltb _ _ (let h = mod_below n frames some in omega (arith, h, t))
body_told frames n (Timestamp stamp) some t = refl
body_told frames n (Other packet_type bits) some t = absurd t

all_counted : (frames : ℕ) (before : Option ℕ) (ss : List Sent) → 0 < frames → InFrameOrder frames before ss
    → filter (is_counted frames) (packets_of ss) ≡ packets_of ss
all_counted frames before [] some o = refl
all_counted frames before (s ∷ ss) some o =
    let rest : List Packet = filter (is_counted frames) (packets_of ss) in
    cond-true _ _ _ (body_told frames s.frame s.packet.body
    some o.0.frame)
    ∙ ap (λ (l : List Packet). s.packet ∷ l) (all_counted frames (Some s.frame) ss some o.2)

-- Each has the key of its frame.
begins : (frames n : ℕ) (b : Body) → IsTimestamp b → TellsFrame frames n b → n % frames ≡ 0
begins frames n (Block frame_idx plp_id first bits) i t = absurd i
begins frames n (L1Current frame_idx pre conf dynamic extension) i t = absurd i
begins frames n (Timestamp stamp) i t = t
begins frames n (Other packet_type bits) i t = absurd i

-- A frame that begins a superframe is in another superframe than one before it.
superframe_later : (frames m n : ℕ) → 0 < frames → n % frames ≡ 0 → m < n → m / frames < n / frames
superframe_later frames m n some begins l = grind (arith, div-add-mod', div-lt_iff_lt-mul)

other_superframe : (a b : ℕ) → a < b → b < a + 16 → (a % 16 == b % 16) ≡ false
other_superframe a b l m = ne_eqb _ _ (λ e. omega (arith, e, l, m))

abbrev key_with : ℕ → ℕ → Key
key_with a b = record { superframe = a; frame = b }

-- A timestamp does not have the superframe_idx before it.
abbrev Begins : ℕ → Option ℕ → Body → ℕ → Type 0
Begins frames None b n = Unit {0}
Begins frames (Some m) b n = IsTimestamp b → (m / frames % 16 == n / frames % 16) ≡ false

key_told : (frames : ℕ) (before : Option ℕ) (n : ℕ) (b : Body) (superframe : ℕ) → superframe ≡ n / frames % 16
    → TellsFrame frames n b → Begins frames before b n
    → body_key (option_map (frame_key frames) before) superframe b ≡ frame_key frames n
key_told frames before n (Block frame_idx plp_id first bits) s e t new = ap₂ key_with e t
key_told frames before n (L1Current frame_idx pre conf dynamic extension) s e t new = ap₂ key_with e t
key_told frames None n (Timestamp stamp) s e t new = ap₂ key_with e (sym t)
key_told frames (Some m) n (Timestamp stamp) s e t new =
    cond-false (m / frames % 16 == s) (frame_key frames m) (key_with s 0) (ap (λ (k : ℕ). m / frames % 16 == k) e
    ∙ new tt)
    ∙ ap₂ key_with e (sym t)
key_told frames before n (Other packet_type bits) s e t new = absurd t

-- Else it has the key before it.
stamp_has : (frames m n : ℕ) (b : Body) (superframe : ℕ) → superframe ≡ n / frames % 16 → IsTimestamp b
    → (m / frames % 16 == n / frames % 16) ≡ true
    → body_key (Some (frame_key frames m)) superframe b ≡ frame_key frames m
stamp_has frames m n (Block frame_idx plp_id first bits) s e i same = absurd i
stamp_has frames m n (L1Current frame_idx pre conf dynamic extension) s e i same = absurd i
stamp_has frames m n (Timestamp stamp) s e i same =
    cond-true (m / frames % 16 == s) (frame_key frames m) (key_with s 0) (ap (λ (k : ℕ). m / frames % 16 == k) e ∙ same)
stamp_has frames m n (Other packet_type bits) s e i same = absurd i

apart_begins : (frames : ℕ) (before : Option ℕ) (s : Sent) → IsOfFrame frames s → FollowsSome before s
    → IsApartSome frames before s → Begins frames before s.packet.body s.frame
apart_begins frames None s o f a = tt
apart_begins frames (Some m) s o f a = λ i.
    false_from_ne_true _ (λ (same : (m / frames % 16 == s.frame / frames % 16) ≡ true).
    let e = a (stamp_has frames m s.frame s.packet.body s.packet.superframe o.superframe i same) in
    let l = f.stamp i in
    omega (arith, e, l))

abbrev frame_keyed : ℕ → List Sent → List Keyed
frame_keyed frames [] = []
frame_keyed frames (s ∷ ss) = record { key = frame_key frames s.frame; packet = s.packet } ∷ frame_keyed frames ss

keys_told : (frames : ℕ) (before : Option ℕ) (ss : List Sent) → InFrameOrder frames before ss
    → AreApart frames before ss → keyed (option_map (frame_key frames) before) (packets_of ss) ≡ frame_keyed frames ss
keys_told frames before [] o a = refl
keys_told frames before (s ∷ ss) o a =
    let k : key_behind (option_map (frame_key frames) before) s.packet ≡ frame_key frames s.frame =
    key_told frames before s.frame s.packet.body s.packet.superframe o.0.superframe o.0.frame
    (apart_begins frames before s o.0 o.1 a.0) in
    ap (λ (k : Key). record { key = k; packet = s.packet } ∷ keyed (Some k) (packets_of ss)) k
    ∙ ap (λ (l : List Keyed). record { key = frame_key frames s.frame; packet = s.packet } ∷ l)
    (keys_told frames (Some s.frame) ss o.2 a.1)

-- a frame, and packets of it
pub record Met : Type 0 where
  pub frame : ℕ
  pub packets : List Packet

abbrev pub met_of : ℕ → List Packet → Met
met_of n ps = record { frame = n; packets = ps }

abbrev pub group_as : ℕ → ℕ → List Packet → Group
group_as frames n ps = record { key = frame_key frames n; packets = ps }

-- as groups of their keys
abbrev pub key_groups : ℕ → List Met → List Group
key_groups frames [] = []
key_groups frames (g ∷ gs) = group_as frames g.frame g.packets ∷ key_groups frames gs

-- Runs with one frame.
abbrev pub with_sent : Sent → List Met → List Met
with_sent s [] = met_of s.frame (s.packet ∷ []) ∷ []
with_sent s (g ∷ gs) = if s.frame == g.frame then met_of s.frame (s.packet ∷ g.packets) ∷ gs else met_of
    s.frame (s.packet ∷ [])
    ∷ g ∷ gs

abbrev pub frame_runs : List Sent → List Met
frame_runs [] = []
frame_runs (s ∷ ss) = with_sent s (frame_runs ss)

-- The next frame with a packet is nearer than keys come again.
abbrev pub Apart : ℕ → ℕ → List Met → Type 0
Apart frames n [] = Unit {0}
Apart frames n (g ∷ gs) = (n ≤ g.frame) × (g.frame < n + 16 * frames)

apart_with : (frames n : ℕ) (s : Sent) (gs : List Met) → n ≤ s.frame → s.frame < n + 16 * frames
    → Apart frames n (with_sent s gs)
apart_with frames n s [] l m = (l, m)
apart_with frames n s (g ∷ gs) l m = cond_both (s.frame == g.frame) _ _ (Apart frames n) (λ e. (l, m)) (λ e. (l, m))

apart : (frames n : ℕ) (ss : List Sent) → InFrameOrder frames (Some n) ss → AreNear frames (Some n) ss
    → Apart frames n (frame_runs ss)
apart frames n [] o e = tt
apart frames n (s ∷ ss) o e = apart_with frames n s (frame_runs ss) o.1.frame e.0.frame

-- Frames that are nearer than keys come again have one key only if they are one.
one_frame : (frames n m : ℕ) → 0 < frames → n ≤ m → m < n + 16 * frames → n / frames % 16 ≡ m / frames % 16
    → n % frames ≡ m % frames → n ≡ m
one_frame frames n m some l less e f =
    let q : ℕ = n / frames in
    let r : ℕ = m / frames in
    let a : q * frames + n % frames ≡ n = div-add-mod' n frames in
    let b : r * frames + m % frames ≡ m = div-add-mod' m frames in
    ⊎_elim
    (λ (k : q < r).
    ⊎_elim
    (λ (j : r < q + 16). let same : q % 16 ≡ r % 16 = e in absurd (omega (arith, same, k, j)))
    (λ (j : q + 16 ≤ r).
    let g : (q + 16) * frames ≤ r * frames = mul-le-mul_right frames j in
    let h : (q + 16) * frames ≡ q * frames + 16 * frames = add-mul q 16 frames in
    absurd (omega (arith, a, b, f, g, h, less)))
    (cases_lt r (q + 16)))
    (λ (k : r ≤ q).
    ⊎_elim
    (λ (j : r ≡ q). let g : r * frames ≡ q * frames = ap (λ (i : ℕ). i * frames) j in omega (arith, a, b, f, g))
    (λ (j : r ≡ q → ⊥).
    let g : (r + 1) * frames ≤ q * frames = mul-le-mul_right frames (omega (arith, k, j)) in
    let h : (r + 1) * frames ≡ r * frames + 1 * frames = add-mul r 1 frames in
    absurd (omega (arith, a, b, f, g, h, l, some)))
    (cases_eq r q))
    (cases_lt q r)

-- So packets that are near one another are apart.
near_one : (frames : ℕ) (before : Option ℕ) (s : Sent) → 0 < frames → IsOfFrame frames s → FollowsSome before s
    → IsNearSome frames before s → IsApartSome frames before s
near_one frames None s some o f n = tt
near_one frames (Some m) s some o f n = λ e.
    let new : Begins frames (Some m) s.packet.body s.frame =
    λ i. other_superframe (m / frames) (s.frame / frames)
    (superframe_later frames m s.frame some (begins frames s.frame s.packet.body i o.frame) (f.stamp i)) (n.stamp i) in
    let same = sym e ∙ key_told frames (Some m) s.frame s.packet.body s.packet.superframe o.superframe o.frame new in
    sym (one_frame frames m s.frame some f.frame n.frame (ap (λ (k : Key). k.superframe) same)
    (ap (λ (k : Key). k.frame) same))

pub near_apart : (frames : ℕ) (before : Option ℕ) (ss : List Sent) → 0 < frames → InFrameOrder frames before ss
    → AreNear frames before ss → AreApart frames before ss
near_apart frames before [] some o n = tt
near_apart frames before (s ∷ ss) some o n =
    (near_one frames before s some o.0 o.1 n.0, near_apart frames (Some s.frame) ss some o.2 n.1)

-- The next frame with a packet has the key of one only if it is that one.
abbrev Unlike : ℕ → ℕ → List Met → Type 0
Unlike frames n [] = Unit {0}
Unlike frames n (g ∷ gs) = is_same (frame_key frames n) (frame_key frames g.frame) ≡ (n == g.frame)

unlike_with : (frames n : ℕ) (s : Sent) (gs : List Met)
    → is_same (frame_key frames n) (frame_key frames s.frame) ≡ (n == s.frame) → Unlike frames n (with_sent s gs)
unlike_with frames n s [] e = e
unlike_with frames n s (g ∷ gs) e = cond_both (s.frame == g.frame) _ _ (Unlike frames n) (λ t. e) (λ t. e)

unlike_one : (frames n : ℕ) (s : Sent) → IsOfFrame frames s → Follows n s → IsApart frames n s
    → is_same (frame_key frames n) (frame_key frames s.frame) ≡ (n == s.frame)
unlike_one frames n s o f a =
    grind (arith, and_from, eq-eqb, false_from_ne_true, key_told, apart_begins, same_key, ne_eqb, cases_eq)

unlike_runs : (frames n : ℕ) (ss : List Sent) → InFrameOrder frames (Some n) ss → AreApart frames (Some n) ss
    → Unlike frames n (frame_runs ss)
unlike_runs frames n [] o a = tt
unlike_runs frames n (s ∷ ss) o a = unlike_with frames n s (frame_runs ss) (unlike_one frames n s o.0 o.1 a.0)

with_same : (frames : ℕ) (s : Sent) (gs : List Met) → Unlike frames s.frame gs
    → in_front (record { key = frame_key frames s.frame; packet = s.packet }) (key_groups frames gs)
    ≡ key_groups frames (with_sent s gs)
with_same frames s [] a = refl
with_same frames s (g ∷ gs) a = go (is_same (frame_key frames s.frame) (frame_key frames g.frame))
    (s.frame == g.frame) a
  where
    go : (t u : Bool) → t ≡ u → cond t (group_as frames s.frame (s.packet ∷ g.packets) ∷ key_groups frames gs)
        (group_as frames s.frame (s.packet ∷ []) ∷ key_groups frames (g ∷ gs))
        ≡ key_groups frames (cond u (met_of s.frame (s.packet ∷ g.packets) ∷ gs)
        (met_of s.frame (s.packet ∷ []) ∷ g ∷ gs))
    go true true e = refl
    go true false e = absurd (both_ways true e refl)
    go false true e = absurd (both_ways false refl e)
    go false false e = refl

runs_same : (frames : ℕ) (before : Option ℕ) (ss : List Sent) → InFrameOrder frames before ss
    → AreApart frames before ss → key_runs (frame_keyed frames ss) ≡ key_groups frames (frame_runs ss)
runs_same frames before [] o a = refl
runs_same frames before (s ∷ ss) o a =
    ap (in_front (record { key = frame_key frames s.frame; packet = s.packet }))
    (runs_same frames (Some s.frame) ss o.2 a.1)
    ∙ with_same frames s (frame_runs ss) (unlike_runs frames s.frame ss o.2 a.1)

-- Frame by frame.
abbrev pub AllFrom : ℕ → List Sent → Type 0
AllFrom low ss = AllByRecursion (λ s. low ≤ s.frame) ss

all_lower : (low m : ℕ) (ss : List Sent) → low ≤ m → AllFrom m ss → AllFrom low ss
all_lower low m [] l a = tt
all_lower low m (s ∷ ss) l a = (omega (arith, l, a.0), all_lower low m ss l a.1)

pub all_from : (frames m : ℕ) (ss : List Sent) → InFrameOrder frames (Some m) ss → AllFrom m ss
all_from frames m [] o = tt
all_from frames m (s ∷ ss) o = (o.1.frame, all_lower m s.frame ss o.1.frame (all_from frames s.frame ss o.2))

pub no_packets : (n m : ℕ) (ss : List Sent) → n < m → AllFrom m ss → frame_packets n ss ≡ []
no_packets n m [] l a = refl
no_packets n m (s ∷ ss) l a = packets_other n s ss (λ e. omega (arith, e, l, a.0)) ∙ no_packets n m ss l a.1

abbrev pub some_met : ℕ → List Packet → List Met
some_met n [] = []
some_met n (p ∷ ps) = met_of n (p ∷ ps) ∷ []

-- those of so many frames from one on that have packets
abbrev pub frames_met : ℕ → ℕ → List Sent → List Met
frames_met from zero ss = []
frames_met from (suc count) ss = some_met from (frame_packets from ss) ++ frames_met (from + 1) count ss

met_skip : (from count : ℕ) (s : Sent) (ss : List Sent) → s.frame < from → frames_met from count (s ∷ ss)
    ≡ frames_met from count ss
met_skip from zero s ss l = refl
met_skip from (suc count) s ss l =
    ap₂ (λ (ps : List Packet) (gs : List Met). some_met from ps ++ gs)
    (packets_other from s ss (λ e. omega (arith, e, l)))
    (met_skip (from + 1) count s ss (omega (arith, l)))

ahead : (from count : ℕ) (s : Sent) (ss : List Sent) → s.frame < from → with_sent s (frames_met from count ss)
    ≡ met_of s.frame (s.packet ∷ []) ∷ frames_met from count ss
ahead from zero s ss l = refl
ahead from (suc count) s ss l = go (frame_packets from ss) (ahead (from + 1) count s ss (omega (arith, l)))
  where
    go : (ps : List Packet) → with_sent s (frames_met (from + 1) count ss) ≡ met_of s.frame (s.packet ∷ [])
        ∷ frames_met (from + 1) count ss
        → with_sent s (some_met from ps ++ frames_met (from + 1) count ss) ≡ met_of s.frame (s.packet ∷ [])
        ∷ (some_met from ps ++ frames_met (from + 1) count ss)
    go [] ih = ih
    go (p ∷ ps) ih = cond-false _ _ _ (ne_eqb s.frame from (λ e. omega (arith, e, l)))

with_met : (from count : ℕ) (s : Sent) (ss : List Sent) → from ≤ s.frame → s.frame < from + count → AllFrom s.frame ss
    → with_sent s (frames_met from count ss) ≡ frames_met from count (s ∷ ss)
with_met from zero s ss l m a = absurd (omega (arith, l, m))
with_met from (suc count) s ss l m a = ⊎_elim
    (λ (e : s.frame ≡ from).
    here (frame_packets from ss) e (ahead (from + 1) count s ss (omega (arith, e)))
    ∙ ap₂ (λ (ps : List Packet) (gs : List Met). some_met from ps ++ gs) (sym (packets_here from s ss e))
    (sym (met_skip (from + 1) count s ss (omega (arith, e)))))
    (λ (e : s.frame ≡ from → ⊥).
    let none : frame_packets from ss ≡ [] = no_packets from s.frame ss (omega (arith, l, e)) a in
    ap (λ (ps : List Packet). with_sent s (some_met from ps ++ frames_met (from + 1) count ss)) none
    ∙ with_met (from + 1) count s ss (omega (arith, l, e)) (omega (arith, m)) a
    ∙ ap (λ (ps : List Packet). some_met from ps ++ frames_met (from + 1) count (s ∷ ss))
    (sym (packets_other from s ss e ∙ none)))
    (cases_eq s.frame from)
  where
    here : (ps : List Packet) → s.frame ≡ from → with_sent s (frames_met (from + 1) count ss) ≡ met_of
        s.frame (s.packet ∷ [])
        ∷ frames_met (from + 1) count ss
        → with_sent s (some_met from ps ++ frames_met (from + 1) count ss) ≡ some_met from (s.packet ∷ ps)
        ++ frames_met (from + 1) count ss
    here [] e h = h ∙ ap (λ (n : ℕ). met_of n (s.packet ∷ []) ∷ frames_met (from + 1) count ss) e
    here (p ∷ ps) e h = cond-true _ _ _ (eq-eqb _ _ e)
        ∙ ap (λ (n : ℕ). met_of n (s.packet ∷ p ∷ ps) ∷ frames_met (from + 1) count ss) e

none_met : (from count : ℕ) → frames_met from count [] ≡ []
none_met from zero = refl
none_met from (suc count) = none_met (from + 1) count

pub runs_met : (frames count : ℕ) (before : Option ℕ) (ss : List Sent) → InFrameOrder frames before ss
    → AreBelow count ss
    → frame_runs ss ≡ frames_met 0 count ss
runs_met frames count before [] o b = sym (none_met 0 count)
runs_met frames count before (s ∷ ss) o b =
    ap (with_sent s) (runs_met frames count (Some s.frame) ss o.2 b.1)
    ∙ with_met 0 count s ss (omega arith) (omega (arith, b.0)) (all_from frames s.frame ss o.2)

groups_apart : (frames count : ℕ) (sent : List Sent) (survival : List Bool) → 0 < frames → AreFrames frames count sent
    → AreApart frames None (items_where_true survival sent)
    → groups frames (packets_of (items_where_true survival sent))
    ≡ key_groups frames (frames_met 0 count (items_where_true survival sent))
unfolding groups
groups_apart frames count sent survival some are apart =
    let ss : List Sent = items_where_true survival sent in
    let o : InFrameOrder frames None ss = order_survivors frames None sent survival are.order in
    ap (λ (l : List Packet). key_runs (keyed None l)) (all_counted frames None ss some o)
    ∙ ap key_runs (keys_told frames None ss o apart)
    ∙ runs_same frames None ss o apart
    ∙ ap (key_groups frames) (runs_met frames count None ss o (below_survivors count sent survival are.below))

-- survivors that are near one another
pub survive_apart : (frames count : ℕ) (sent : List Sent) (survival : List Bool)
    → Survive frames count sent survival → AreApart frames None (items_where_true survival sent)
survive_apart frames count sent survival h = grind (arith, near_apart, order_survivors)

pub groups_are_met : (frames count : ℕ) (sent : List Sent) (survival : List Bool) → Survive frames count sent survival
    → groups frames (packets_of (items_where_true survival sent))
    ≡ key_groups frames (frames_met 0 count (items_where_true survival sent))
groups_are_met frames count sent survival h =
    groups_apart frames count sent survival h.some h.sent_are (survive_apart frames count sent survival h)

-- the same by std's words
met_filtered : (frames from count : ℕ) (ss : List Sent) → key_groups frames (frames_met from count ss)
    ≡ filter has_packets (map (frame_group frames ss) (range_with_len from count))
met_filtered frames from zero ss = refl
met_filtered frames from (suc count) ss = go (frame_packets from ss) (met_filtered frames (from + 1) count ss)
  where
    rest : List Group
    rest = filter has_packets (map (frame_group frames ss) (range_with_len (from + 1) count))

    go : (ps : List Packet) → key_groups frames (frames_met (from + 1) count ss) ≡ rest
        → key_groups frames (some_met from ps ++ frames_met (from + 1) count ss) ≡ cond
        (has_packets (group_as frames from ps))
        (group_as frames from ps ∷ rest) rest
    go [] ih = ih
    go (p ∷ ps) ih =
        ap (λ (l : List Group). group_as frames from (p ∷ ps) ∷ l) ih
        ∙ sym (cond-true _ _ _ (cond-false _ _ _ (ne_eqb (length (p ∷ ps)) 0 (λ e. omega (arith, e)))))

pub groups_are_frames : GroupsAreFrames
groups_are_frames frames count sent survival some are apart = groups_apart frames count sent survival some are apart
    ∙ met_filtered frames 0 count (items_where_true survival sent)

-- Each frame is nearer behind the one before it than keys come again.
abbrev pub Steps : ℕ → ℕ → List Met → Type 0
Steps frames n [] = Unit {0}
Steps frames n (g ∷ gs) = (n < g.frame) × (g.frame < n + 16 * frames) × Steps frames g.frame gs

abbrev pub StepsIn : ℕ → List Met → Type 0
StepsIn frames [] = Unit {0}
StepsIn frames (g ∷ gs) = Steps frames g.frame gs

pub steps_behind : (frames n : ℕ) (gs : List Met) → Steps frames n gs → StepsIn frames gs
steps_behind frames n [] steps = tt
steps_behind frames n (g ∷ gs) steps = steps.2

steps_with : (frames : ℕ) (s : Sent) (gs : List Met) → Apart frames s.frame gs → StepsIn frames gs
    → StepsIn frames (with_sent s gs)
steps_with frames s [] a h = tt
steps_with frames s (g ∷ gs) a h = cond_both (s.frame == g.frame) _ _ (StepsIn frames)
    (λ e. subst (λ (n : ℕ). Steps frames n gs) (sym (eqb-true _ _ e)) h)
    (λ e. (later e, a.1, h))
  where
    later : (s.frame == g.frame) ≡ false → s.frame < g.frame
    later e =
        ⊎_elim (λ (l : s.frame < g.frame). l)
        (λ (l : g.frame ≤ s.frame). absurd (both_ways (s.frame == g.frame) e
        (eq-eqb _ _ (omega (arith, l, a.0)))))
        (cases_lt s.frame g.frame)

steps_runs : (frames : ℕ) (before : Option ℕ) (ss : List Sent) → InFrameOrder frames before ss
    → AreNear frames before ss
    → StepsIn frames (frame_runs ss)
steps_runs frames before [] o n = tt
steps_runs frames before (s ∷ ss) o n = steps_with frames s (frame_runs ss) (apart frames s.frame ss o.2 n.1)
    (steps_runs frames (Some s.frame) ss o.2 n.1)

pub steps_met : (frames count : ℕ) (sent : List Sent) (survival : List Bool) → Survive frames count sent survival
    → StepsIn frames (frames_met 0 count (items_where_true survival sent))
steps_met frames count sent survival h =
    let o = order_survivors frames None sent survival h.sent_are.order in
    subst (StepsIn frames)
    (runs_met frames count None (items_where_true survival sent) o (below_survivors count sent survival
    h.sent_are.below))
    (steps_runs frames None (items_where_true survival sent) o h.near)

-- packets of which there is a first one
pub not_empty : (p : Packet) (ps qs : List Packet) → qs ≡ p ∷ ps → qs ≢ []
not_empty p ps [] e h = absurd cc
not_empty p ps (q ∷ qs) e h = absurd cc
