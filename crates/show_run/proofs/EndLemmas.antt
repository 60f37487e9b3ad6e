-- The bytes of a file of packets decide how a run over it must end.
use Rattle.std.proofs.Common.{◌≡◌, ◌⊎◌, ℕ, zero, suc, ◌≤◌, inl, inr, ⊎_elim, List, [], ◌∷◌, ◌++◌, length, take, drop}
use Rattle.std.proofs.Common.{refl, ap, sym, subst, ◌∙◌, arith, length-drop}
use Rattle.std.specs.Prelude.{Result, Ok, Err}
use Rattle.std.proofs.lemmas.List.{take-append-drop, length-take-le}
use Rattle.t2mi_packet.specs.declared.fault.PacketFault.{PacketFault}
use Rattle.t2mi_packet.specs.declared.fault.PacketWhy.{PacketWhy}
use Rattle.t2mi_packet.specs.T2miPacket.{BeginsWith, Spells, Refuses}
use Rattle.t2mi_packet.specs.declared.packet.Packet.{Packet}
use Rattle.t2mi_packet.specs.Laws.{OnePacket, NoRefusal, OneRefusal, PacketLength, SpelledOrRefused}
use Rattle.show_run.specs.Laws.{PacketsEnd, OneEnd, EachEnds}
use Rattle.show_run.specs.PacketFile.{Begins, Packs, bytes_in, IsRefused}
use Rattle.show_run.specs.declared.stop.ShowStop.{ShowStop}
use Rattle.show_run.specs.declared.stop.ShowStop.TheVariants.{PacketRefused}
use Rattle.show_run.proofs.PacketFileLemmas.{begins_inside}

packet_has : PacketLength → (bytes : List ℕ) (p : Packet) → Spells p bytes → 10 ≤ length bytes
packet_has sizes bytes p s = let size = (sizes p bytes s).0 in omega (arith, size)

-- No packet begins what is left.
abbrev pub Stuck : List ℕ → Type 0
Stuck rest = (rest ≡ []) ⊎ ((why : PacketWhy) × IsRefused rest why)

stuck_begins : NoRefusal → PacketLength → (rest p : List ℕ) → Stuck rest → Begins rest p → ⊥
stuck_begins law sizes rest p stuck b =
    let whole : p ++ drop (length p) rest ≡ rest = ap (λ (front : List ℕ). front ++ drop (length p) rest) (sym b.there)
    ∙ take-append-drop (length p) rest in
    ⊎_elim
    (λ (none : rest ≡ []).
    let size = (sizes b.is.0 p b.is.1).0 in
    omega (arith, ap length none, size, begins_inside rest p b))
    (λ (r : (why : PacketWhy) × IsRefused rest why). law b.is.0 p (drop (length p) rest) r.1.1.0 b.is.1
    (subst (λ (bytes : List ℕ). Refuses bytes r.1.1.0) (sym whole) r.1.1.1))
    stuck

same_front : OnePacket → (bytes p q : List ℕ) → Begins bytes p → Begins bytes q → p ≡ q
same_front law bytes p q b d =
    let split : (r : List ℕ) → Begins bytes r → r ++ drop (length r) bytes ≡ bytes =
    λ r x. ap (λ (front : List ℕ). front ++ drop (length r) bytes) (sym x.there) ∙ take-append-drop (length r) bytes in
    (law b.is.0 d.is.0 p q (drop (length p) bytes) (drop (length q) bytes) b.is.1 d.is.1 (split p b
    ∙ sym (split q d))).1

-- One list of packets comes before what no packet begins.
pub same_packets : OnePacket → NoRefusal → PacketLength → (file rest more : List ℕ) (ps qs : List (List ℕ))
    → Packs file ps rest
    → Packs file qs more → Stuck rest → Stuck more → (ps ≡ qs) × (rest ≡ more)
same_packets one none sizes file rest more [] [] h k s t = (refl, sym h ∙ k)
same_packets one none sizes file rest more [] (q ∷ qs) h k s t =
    absurd (stuck_begins none sizes rest q s (rw h at k.0))
same_packets one none sizes file rest more (p ∷ ps) [] h k s t =
    absurd (stuck_begins none sizes more p t (rw k at h.0))
same_packets one none sizes file rest more (p ∷ ps) (q ∷ qs) h k s t =
    let same = same_front one file p q h.0 k.0 in
    let others = same_packets one none sizes (drop (length p) file) rest more ps qs h.1
    (rw same k.1) s t in
    (ap (λ (r : List ℕ). r ∷ ps) same ∙ ap (λ (rs : List (List ℕ)). q ∷ rs) others.0, others.1)

-- With packets behind which none begins, a file begins with no others: with the first of these.
pub packs_within : OnePacket → NoRefusal → PacketLength → (file rest more : List ℕ) (ps qs : List (List ℕ))
    → Packs file ps rest
    → Packs file qs more → Stuck rest → (others : List (List ℕ)) × (ps ≡ qs ++ others)
packs_within one none sizes file rest more ps [] h k s = (ps, refl)
packs_within one none sizes file rest more [] (q ∷ qs) h k s =
    absurd (stuck_begins none sizes rest q s (rw h at k.0))
packs_within one none sizes file rest more (p ∷ ps) (q ∷ qs) h k s =
    let same = same_front one file p q h.0 k.0 in
    let others = packs_within one none sizes (drop (length p) file) rest more ps qs h.1
    (rw same k.1) s in
    (others.0, ap (λ (r : List ℕ). r ∷ ps) same ∙ ap (λ (rs : List (List ℕ)). q ∷ rs) others.1)

pub ends_once : OnePacket → NoRefusal → PacketLength → OneRefusal → OneEnd
ends_once one none sizes refusal file (Ok count) (Ok number) a b =
    let same = same_packets one none sizes file [] [] a.0 b.0 a.1 b.1 (inl refl) (inl refl) in
    ap Ok (a.2 ∙ ap (λ (ps : List (List ℕ)). length ps) same.0 ∙ sym b.2)
ends_once one none sizes refusal file (Ok count) (Err (PacketRefused at why)) a b =
    let same = same_packets one none sizes file [] b.1 a.0 b.0 a.1 b.2 (inl refl) (inr (why, b.3)) in
    absurd (b.3.0 (sym same.1))
ends_once one none sizes refusal file (Err (PacketRefused at why)) (Ok count) a b =
    let same = same_packets one none sizes file a.1 [] a.0 b.0 a.2 b.1 (inr (why, a.3)) (inl refl) in
    absurd (a.3.0 same.1)
ends_once one none sizes refusal file (Err (PacketRefused at why)) (Err (PacketRefused place other)) a b =
    let same = same_packets one none sizes file a.1 b.1 a.0 b.0 a.2 b.2 (inr (why, a.3)) (inr (other, b.3)) in
    let faults = refusal b.1 a.3.1.0 b.3.1.0 (subst (λ (bytes : List ℕ). Refuses bytes a.3.1.0) same.1 a.3.1.1)
    b.3.1.1 in
    let place_is : at ≡ place = a.4 ∙ ap bytes_in same.0 ∙ sym b.4 in
    let why_is : why ≡ other = sym a.3.1.2 ∙ ap (λ (f : PacketFault). f.why) faults ∙ b.3.1.2 in
    λ i. Err (PacketRefused (place_is i) (why_is i))
ends_once one none sizes refusal file (Ok count) (Err other) a b = absurd b
ends_once one none sizes refusal file (Err (PacketRefused at why)) (Err other) a b = absurd b
ends_once one none sizes refusal file (Err stop) other a b = absurd a

-- Some packets, and what no packet begins behind them.
record Stops (file : List ℕ) : Type 0 where
  pub packets : List (List ℕ)
  pub rest : List ℕ
  pub packs : Packs file packets rest
  pub stuck : Stuck rest

begins_with : (file : List ℕ) (p : Packet) (len : ℕ) → BeginsWith file p len → Begins file (take len file)
begins_with file p len b = record { is = (p, b.spells); there = rw (length-take-le len file b.inside) refl }

one_more : (file packet : List ℕ) → Begins file packet → Stops (drop (length packet) file) → Stops file
one_more file packet b s = record { packets = packet ∷ s.packets; rest = s.rest; packs = (b, s.packs); stuck = s.stuck }

stops : SpelledOrRefused → PacketLength → (fuel : ℕ) (file : List ℕ) → length file ≤ fuel → Stops file
stops decides sizes fuel [] enough = record { packets = []; rest = []; packs = refl; stuck = inl refl }
stops decides sizes zero (x ∷ file) enough = absurd (omega (arith, enough))
stops decides sizes (suc fuel) (x ∷ file) enough =
    ⊎_elim
    (λ (b : (p : Packet) × ((len : ℕ) × BeginsWith (x ∷ file) p len)).
    let packet = take b.1.0 (x ∷ file) in
    let begins = begins_with (x ∷ file) b.0 b.1.0 b.1.1 in
    let size = packet_has sizes packet begins.is.0 begins.is.1 in
    one_more (x ∷ file) packet begins
    (stops decides sizes fuel (drop (length packet) (x ∷ file))
    (omega (arith, enough, size, begins_inside (x ∷ file) packet begins, length-drop (length packet) (x ∷ file)))))
    (λ (r : (fault : PacketFault) × Refuses (x ∷ file) fault).
    record { packets = []; rest = x ∷ file; packs = refl; stuck = inr (r.0.why, ((λ none. cc), (r.0, r.1, refl))) })
    (decides (x ∷ file))

ending : (file : List ℕ) → Stops file → (result : Result ℕ ShowStop) × PacketsEnd file result
ending file s =
    ⊎_elim
    (λ (none : s.rest ≡ []).
    (Ok (length s.packets), (s.packets, subst (λ (bytes : List ℕ). Packs file s.packets bytes) none s.packs, refl)))
    (λ (r : (why : PacketWhy) × IsRefused s.rest why).
    (Err (PacketRefused (bytes_in s.packets) r.0), (s.packets, s.rest, s.packs, r.1, refl)))
    s.stuck

pub each_ends : SpelledOrRefused → PacketLength → EachEnds
each_ends decides sizes file = ending file (stops decides sizes (length file) file (omega arith))
