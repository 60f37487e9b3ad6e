-- Units that are kept, one behind another, are one run, and each start of it begins a packet.
use Rattle.std.proofs.Common.{◌≡◌, ℕ, zero, suc, ◌+◌, ◌-◌, ◌*◌, ◌%◌, ◌^◌, ◌<◌, ◌≤◌, true, false, List, [], ◌∷◌, ◌++◌}
use Rattle.std.proofs.Common.{length, take, drop, Option, Some, option_map, refl, ap, sym, subst, ◌∙◌, inl, inr, ⊎_elim}
use Rattle.std.proofs.Common.{arith, append_assoc, append-nil, length-append, length-drop, eq-eqb, take-append-drop}
use Rattle.std.specs.Prelude.{flat_map}
use Rattle.std.proofs.lemmas.List.{drop-drop, drop_at, drop_all, length-take-le}
use Rattle.std.proofs.lemmas.List.Concat.{flat_map-append}
use Rattle.std.proofs.lemmas.Bool.{cond-true, cases_lt, both_ways}
use Rattle.std.proofs.lemmas.Option.{none-some, same_Some}
use Rattle.t2mi_packet.specs.Spell.{spell}
use Rattle.t2mi_stream.specs.Accepted.{Byte, AcceptedPacket, values, is_marked, packet_of, accepted_len, front_packet}
use Rattle.t2mi_stream.specs.Accepted.{accepted}
use Rattle.t2mi_stream.specs.Candidate.{placed}
use Rattle.t2mi_stream.specs.Units.{PipedUnit, Cut, goes_on, runs}
use Rattle.t2mi_stream.specs.Pipe.{JoinedByte, values as joined_values, items, joined, part, unit, units_in, carried_in}
use Rattle.t2mi_stream.specs.Pipe.{carried_len, offset_in}
use Rattle.t2mi_stream.specs.Pipes.{is_first}
use Rattle.t2mi_stream.specs.Received.{Fate, left_of, left_number, fate_of}
use Rattle.t2mi_stream.specs.Received.Fate.{Kept}
use Rattle.t2mi_stream.specs.Laws.{Among, ArePackets, IsStart, EndsAt}
use Rattle.t2mi_stream.specs.Survivors.{placed_from, AreKept}
use Rattle.t2mi_stream.specs.SpellLaws.{SpellLaws}
use Rattle.t2mi_stream.proofs.PipeLemmas.{length-values, part_size, length-items}
use Rattle.t2mi_stream.proofs.FitLemmas.{Fits, fits_append, fits_drop, fits_len, There, fits_packet}
use Rattle.t2mi_stream.proofs.ReadsLemmas.{UnitLaws, unit_reads, carried_fits}
use Rattle.t2mi_stream.proofs.RunLemmas.{len_range}
use Rattle.t2mi_stream.proofs.StartsLemmas.{starts_law}
use Rattle.t2mi_stream.proofs.KeptUnitsLemmas.{one_unit, place_at, plain_first}
use Rattle.t2mi_stream.proofs.StandLemmas.{at_start}
use Rattle.t2mi_stream.proofs.SurvivorLemmas.{Carries}

-- what units carry, the first of them with a number
abbrev pub carried_all : ℕ → ℕ → List JoinedByte → List Byte
carried_all zero number xs = []
carried_all (suc steps) number [] = []
carried_all (suc steps) number (x ∷ xs) = carried_in (188 * number) (x ∷ xs) ++ carried_all steps (number + 1)
    (drop (part (x ∷ xs)).size (x ∷ xs))

-- Units one behind another go on with a run.
pub record OneRun (cut old : Cut) (more : List Byte) : Type 0 where
  pub ended : cut.ended ≡ old.ended
  pub run : cut.run ≡ old.run ++ more

same_run : (pid : ℕ) (bytes : List ℕ) → OneRun (runs pid (bytes ++ [])) (runs pid bytes) []
same_run pid bytes =
    record {
      ended = ap (λ (l : List ℕ). (runs pid l).ended) (append-nil bytes);
      run = ap (λ (l : List ℕ). (runs pid l).run)
          (append-nil bytes) ∙ sym (append-nil (runs pid bytes).run);
    }

pub one_run : (w : UnitLaws) (pid steps counter number : ℕ) (bytes : List ℕ) (xs : List JoinedByte) → pid < 2 ^ 13
    → counter < 16
    → length bytes ≡ 188 * number → goes_on (runs pid bytes).last counter ≡ true →
    OneRun (runs pid (bytes ++ flat_map (λ u. u) (units_in pid steps counter xs))) (runs pid bytes)
    (carried_all steps number xs)
unfolding units_in
one_run w pid zero counter number bytes xs p small whole goes = same_run pid bytes
one_run w pid (suc steps) counter number bytes [] p small whole goes = same_run pid bytes
one_run w pid (suc steps) counter number bytes (x ∷ xs) p small whole goes =
    let all : List JoinedByte = x ∷ xs in
    let u : List ℕ = unit pid counter all in
    let rest : List JoinedByte = drop (part all).size all in
    let next : ℕ = (counter + 1) % 16 in
    let r = unit_reads w pid (188 * number) counter all p small (omega arith) in
    let c : PipedUnit = record { counter = counter; bytes = carried_in (188 * number) all } in
    let cut : runs pid (bytes ++ u) ≡ record {
      ended = (runs pid bytes).ended;
      run = (runs pid bytes).run ++ c.bytes;
      last = Some counter;
    } =
    one_unit w pid counter number bytes all p small (omega arith) whole ∙ cond-true _ _ _ goes in
    let h = one_run w pid steps next (number + 1) (bytes ++ u) rest p (omega arith)
    (length-append bytes u ∙ omega (arith, whole, r.whole)) (ap (λ (k : Cut). goes_on k.last next) cut
    ∙ eq-eqb next next refl) in
    let parts : (bytes ++ u) ++ flat_map (λ u. u) (units_in pid steps next rest)
    ≡ bytes ++ (u ++ flat_map (λ u. u) (units_in pid steps next rest)) =
    append_assoc bytes u (flat_map (λ u. u) (units_in pid steps next rest)) in
    record {
      ended = ap (λ (l : List ℕ). (runs pid l).ended) (sym parts) ∙ h.ended ∙ ap (λ (k : Cut). k.ended) cut;
      run = ap (λ (l : List ℕ). (runs pid l).run) (sym parts) ∙ h.run
          ∙ ap (λ (k : Cut). k.run ++ carried_all steps (number + 1) rest) cut
          ∙ append_assoc (runs pid bytes).run c.bytes
          (carried_all steps (number + 1) rest);
    }

pub all_fits : (steps number : ℕ) (xs : List JoinedByte) → length xs ≤ steps → Fits (carried_all steps number xs) xs
all_fits zero number [] l = tt
all_fits zero number (x ∷ xs) l = absurd (omega arith)
all_fits (suc steps) number [] l = tt
all_fits (suc steps) number (x ∷ xs) l =
    let n : ℕ = (part (x ∷ xs)).size in
    let size = part_size (x ∷ xs) (omega arith) in
    subst (Fits (carried_all (suc steps) number (x ∷ xs))) (take-append-drop n (x ∷ xs))
    (fits_append (carried_in (188 * number) (x ∷ xs)) (carried_all steps (number + 1) (drop n (x ∷ xs)))
    (take n (x ∷ xs))
    (drop n (x ∷ xs)) (carried_fits (188 * number) (x ∷ xs) (omega arith))
    (all_fits steps (number + 1) (drop n (x ∷ xs)) (omega (arith, length-drop n (x ∷ xs), size.0, l))))

carried_nil : (n : ℕ) → carried_len n [] ≡ 0
carried_nil zero = refl
carried_nil (suc n) = let h = carried_nil n in omega (arith, h)

-- Each byte has its place.
pub place_in_run : (v steps number : ℕ) (xs : List JoinedByte) (t : ℕ) → length xs ≤ steps → Carries v xs t
    → (packet_of (drop t (carried_all steps number xs))).place ≡ 188 * (number + v) + offset_in v xs t
place_in_run v zero number [] t l h = let n = carried_nil (suc v) in absurd (let w = h.within in omega (arith, n, w))
place_in_run v zero number (x ∷ xs) t l h = absurd (omega arith)
place_in_run v (suc steps) number [] t l h = let n = carried_nil (suc v) in absurd
    (let w = h.within in omega (arith, n, w))
place_in_run zero (suc steps) number (x ∷ xs) t l h =
    let size = part_size (x ∷ xs) (omega arith) in
    let vals : length (joined_values (take (part (x ∷ xs)).size (x ∷ xs))) ≡ (part (x ∷ xs)).size =
    length-values (take (part (x ∷ xs)).size (x ∷ xs)) ∙ length-take-le (part (x ∷ xs)).size (x ∷ xs) size.1 in
    place_at (188 * number) (188 - length (joined_values (take (part (x ∷ xs)).size (x ∷ xs)))) _ t
    (joined_values (take (part (x ∷ xs)).size (x ∷ xs))) (carried_all steps (number + 1)
    (drop (part (x ∷ xs)).size (x ∷ xs)))
    (let w = h.within in omega (arith, vals, w))
    ∙ ap (λ (k : ℕ). 188 * number + (188 - k + t)) vals ∙ omega arith
place_in_run (suc v) (suc steps) number (x ∷ xs) t l h =
    let n : ℕ = (part (x ∷ xs)).size in
    let size = part_size (x ∷ xs) (omega arith) in
    let rest : List JoinedByte = drop n (x ∷ xs) in
    let begins = h.begins in
    let passed : n ≤ t = omega (arith, begins) in
    let count : length (carried_in (188 * number) (x ∷ xs)) ≡ n = fits_len (carried_in (188 * number) (x ∷ xs))
    (take n (x ∷ xs))
    (carried_fits (188 * number) (x ∷ xs) (omega arith)) ∙ length-take-le n (x ∷ xs) size.1 in
    let skip : drop t (carried_in (188 * number) (x ∷ xs) ++ carried_all steps (number + 1) rest)
    ≡ drop (t - n) (carried_all steps (number + 1) rest) =
    ap (λ (k : ℕ). drop k (carried_in (188 * number) (x ∷ xs) ++ carried_all steps (number + 1) rest))
    (let e : t ≡ n + (t - n) = omega (arith, passed) in e)
    ∙ sym (drop-drop (t - n) n (carried_in (188 * number) (x ∷ xs) ++ carried_all steps (number + 1) rest))
    ∙ ap (drop (t - n)) (drop_at (carried_in (188 * number) (x ∷ xs)) (carried_all steps (number + 1) rest) n count) in
    ap (λ (l : List Byte). (packet_of l).place) skip
    ∙ place_in_run v steps (number + 1) rest (t - n) (omega (arith, length-drop n (x ∷ xs), size.0, l))
    (record { begins = omega (arith, begins, passed); within = let w = h.within in omega (arith, w, passed) })
    ∙ omega (arith, passed)

-- all units carry all bytes
pub units_all : (pid steps counter : ℕ) (xs : List JoinedByte) → length xs ≤ steps
    → carried_len (length (units_in pid steps counter xs)) xs
    ≡ length xs
unfolding units_in
units_all pid zero counter [] l = refl
units_all pid zero counter (x ∷ xs) l = absurd (omega arith)
units_all pid (suc steps) counter [] l = refl
units_all pid (suc steps) counter (x ∷ xs) l =
    let n : ℕ = (part (x ∷ xs)).size in
    let size = part_size (x ∷ xs) (omega arith) in
    let d = length-drop n (x ∷ xs) in
    let h = units_all pid steps ((counter + 1) % 16) (drop n (x ∷ xs)) (omega (arith, d, size.0, l)) in
    omega (arith, h, d, size.1)

pub all_left : (units : List (List ℕ)) (fates : List Fate) → AreKept (length units) fates → left_of units fates
    ≡ flat_map (λ u. u) units
all_left [] fates k = refl
all_left (u ∷ units) [] k = absurd (none-some Kept (k 0 (omega arith)))
all_left (u ∷ units) (f ∷ fates) k =
    ap (λ (f : Fate). left_of (u ∷ units) (f ∷ fates)) (same_Some f Kept (k 0 (omega arith)))
    ∙ ap (λ (l : List ℕ). u ++ l) (all_left units fates (λ n l. k (suc n) (omega arith)))

pub kept_number : (n : ℕ) (fates : List Fate) → ((m : ℕ) → m ≤ n → fate_of fates m ≡ Some Kept)
    → left_number fates n ≡ Some n
kept_number n [] k = absurd (none-some Kept (k 0 (omega arith)))
kept_number zero (f ∷ fates) k = ap (λ (f : Fate). left_number (f ∷ fates) 0) (same_Some f Kept (k 0 (omega arith)))
kept_number (suc n) (f ∷ fates) k =
    ap (λ (f : Fate). left_number (f ∷ fates) (suc n)) (same_Some f Kept (k 0 (omega arith)))
    ∙ ap (option_map (λ (m : ℕ). 1 + m)) (kept_number n fates (λ m l. k (suc m) (omega arith)))
    ∙ ap (λ (m : ℕ). Some m) (let e : 1 + n ≡ suc n = omega arith in e)

-- A byte that begins a packet begins one of the packets.
pub record Begins (packets : List (List ℕ)) (t : ℕ) : Type 0 where
  pub before : List (List ℕ)
  pub packet : List ℕ
  pub after : List (List ℕ)
  pub parts : packets ≡ before ++ packet ∷ after
  pub at : length (joined before) ≡ t
  pub spelled : spell packet ≡ Some (length packet)

pub begins : (packets : List (List ℕ)) (t : ℕ) → ArePackets packets → is_first (drop t (joined packets)) ≡ true
    → Begins packets t
begins [] t all first = let none : List JoinedByte = [] in
    absurd (both_ways false refl (ap is_first (sym (drop_all t none (omega arith))) ∙ first))
begins (c ∷ packets) zero all first =
    record { before = []; packet = c; after = packets; parts = refl; at = refl; spelled = all.0 }
begins ([] ∷ packets) (suc t) all first =
    let r = begins packets (suc t) all.1 first in
    record {
      before = [] ∷ r.before;
      packet = r.packet;
      after = r.after;
      parts = ap (λ (l : List (List ℕ)). [] ∷ l) r.parts;
      at = r.at;
      spelled = r.spelled;
    }
begins ((b ∷ c) ∷ packets) (suc t) all first = ⊎_elim
    (λ (l : t < length c). absurd (both_ways _ (plain_first c t (joined packets) l) first))
    (λ (l : length c ≤ t).
    let size = length-items false c in
    let e : drop t (items false c ++ joined packets) ≡ drop (t - length c) (joined packets) =
    ap (λ (k : ℕ). drop k (items false c ++ joined packets)) (let q : t ≡ length c + (t - length c) = omega arith in q)
    ∙ sym (drop-drop (t - length c) (length c) (items false c ++ joined packets))
    ∙ ap (drop (t - length c)) (drop_at (items false c) (joined packets) (length c) size) in
    let r = begins packets (t - length c) all.1 (ap is_first (sym e) ∙ first) in
    let at = r.at in
    record {
      before = (b ∷ c) ∷ r.before;
      packet = r.packet;
      after = r.after;
      parts = ap (λ (l : List (List ℕ)). (b ∷ c) ∷ l) r.parts;
      at = omega (arith, at, l, length-append (items true (b ∷ c)) (joined r.before), size);
      spelled = r.spelled;
    })
    (cases_lt t (length c))

-- what stands from there on
from_there : (packets : List (List ℕ)) (t : ℕ) (h : Begins packets t) → drop t (joined packets) ≡ items true h.packet
    ++ joined h.after
from_there packets t h =
    ap (λ (l : List (List ℕ)). drop t (joined l)) h.parts
    ∙ ap (drop t) (flat_map-append (items true) h.before (h.packet ∷ h.after))
    ∙ drop_at (joined h.before) (items true h.packet ++ joined h.after) t h.at

pub placed_there : (place : ℕ → Option ℕ) (at p : ℕ) (before after : List (List ℕ)) (packet : List ℕ)
    → place (at + length (joined before)) ≡ Some p →
    Among (Some (placed p packet)) (placed_from place at (before ++ packet ∷ after))
placed_there place at p [] after packet e =
    let z : at + 0 ≡ at = omega arith in inl (ap (option_map (λ n. placed n packet)) (sym (ap place z) ∙ e))
placed_there place at p (b ∷ before) after packet e =
    let there : at + length b + length (joined before) ≡ at + length (joined (b ∷ before)) =
    omega (arith, length-append (items true b) (joined before), length-items true b) in
    inr (placed_there place (at + length b) p before after packet (ap place there ∙ e))

-- Each start of the run begins a packet.
module _ (g : SpellLaws) (packets : List (List ℕ)) (all : ArePackets packets) (gone : ℕ) (run : List Byte)
    (fits : Fits run (drop gone (joined packets))) where
  fits_at : (s : ℕ) → Fits (drop s run) (drop (gone + s) (joined packets))
  fits_at s = subst (Fits (drop s run)) (drop-drop s gone (joined packets))
      (fits_drop s run (drop gone (joined packets)) fits)

  marked_first : (xs : List Byte) (ys : List JoinedByte) → Fits xs ys → is_marked xs ≡ true → is_first ys ≡ true
  marked_first [] ys h m = absurd (both_ways false refl m)
  marked_first (x ∷ xs) [] h m = absurd h
  marked_first (x ∷ xs) (y ∷ ys) h m = h.1 m

  first_item : (p : List ℕ) (more : List JoinedByte) → spell p ≡ Some (length p)
      → is_first (items true p ++ more) ≡ true
  first_item [] more s = let r = (g.range [] 0 s).0 in absurd (omega (arith, r))
  first_item (b ∷ p) more s = refl

  -- the packet that begins at a place of the run
  there : (s : ℕ) → (b : Begins packets (gone + s)) → There (drop s run) b.packet
  there s b =
      fits_packet g (drop s run) b.packet (joined b.after)
      (subst (Fits (drop s run)) (from_there packets (gone + s) b) (fits_at s)) b.spelled

  behind_first : (after : List (List ℕ)) → ArePackets after → 0 < length (joined after) → is_first (joined after) ≡ true
  behind_first [] a l = absurd (omega arith)
  behind_first (c ∷ after) a l = first_item c (joined after) a.0

  tail_packets : (before : List (List ℕ)) (packet : List ℕ) (after : List (List ℕ))
      → ArePackets (before ++ packet ∷ after)
      → ArePackets after
  tail_packets [] packet after h = h.1
  tail_packets (c ∷ before) packet after h = tail_packets before packet after h.1

  starts_first : (fuel s : ℕ) → s < fuel → IsStart run s → is_first (drop (gone + s) (joined packets)) ≡ true
  starts_first zero s l start = absurd (omega arith)
  starts_first (suc fuel) s l start =
      let o = (starts_law g run).only s start in
      ⊎_elim
      (λ (m : is_marked (drop s run) ≡ true). marked_first (drop s run) (drop (gone + s) (joined packets))
      (fits_at s) m)
      (λ (e : EndsAt run s).
      let end = e.end in
      let b = begins packets (gone + e.place) all
      (starts_first fuel e.place (omega (arith, end, l, some e.place e.size e.packet)) e.start) in
      let t = there e.place b in
      let size : length b.packet ≡ e.size = same_Some (length b.packet) e.size (sym t.len ∙ e.packet) in
      let next : drop (gone + s) (joined packets) ≡ joined b.after =
      ap (λ (k : ℕ). drop k (joined packets)) (let q : gone + s ≡ gone + e.place + length b.packet =
      omega (arith, end, size) in
      q)
      ∙ sym (drop-drop (length b.packet) (gone + e.place) (joined packets))
      ∙ ap (drop (length b.packet)) (from_there packets (gone + e.place) b)
      ∙ drop_at (items true b.packet) (joined b.after) (length b.packet) (length-items true b.packet) in
      let left = fits_len (drop s run) (drop (gone + s) (joined packets)) (fits_at s) in
      let size_next = ap length next in
      ap is_first next ∙ behind_first b.after (tail_packets b.before b.packet b.after (subst ArePackets b.parts all))
      (omega (arith, left, size_next, length-drop s run, o.0)))
      o.1
    where
      some : (q n : ℕ) → accepted_len (drop q run) ≡ Some n → 0 < n
      some q n h = let r = len_range' q n h in omega (arith, r)
        where
          len_range' : (q n : ℕ) → accepted_len (drop q run) ≡ Some n → 2 ≤ n
          len_range' q n h = (len_range g (drop q run) n h).0

  -- An accepted packet is one of the sent ones, with the place of its first byte.
  pub record IsOne (p : AcceptedPacket) : Type 0 where
    pub start : ℕ
    pub inside : start < length run
    pub packet : Begins packets (gone + start)
    pub is : p ≡ placed (packet_of (drop start run)).place packet.packet

  front_is : (s : ℕ) (b : Begins packets (gone + s)) (p : AcceptedPacket) → front_packet (drop s run) ≡ Some p
      → p ≡ placed (packet_of (drop s run)).place b.packet
  front_is s b p h =
      let t = there s b in
      let ten = (g.range b.packet (length b.packet) b.spelled).0 in
      sym (same_Some _ p (sym (ap (option_map (λ (n : ℕ). packet_of (take n (drop s run)))) t.len) ∙ h))
      ∙ as_placed (drop s run) (length b.packet) (omega (arith, ten)) t.values_are
    where
      as_placed : (xs : List Byte) (n : ℕ) → 0 < n → values (take n xs) ≡ b.packet → packet_of (take n xs)
          ≡ placed (packet_of xs).place b.packet
      as_placed xs zero some v = absurd (omega arith)
      as_placed [] (suc n) some v = ap (placed 0) v
      as_placed (x ∷ xs) (suc n) some v = ap (placed x.place) v

  pub is_one : (p : AcceptedPacket) → Among p (accepted run) → IsOne p
  is_one p h =
      let a = at_start run p h in
      let b = begins packets (gone + a.start) all (starts_first (suc a.start) a.start (omega arith) a.is_one) in
      record {
        start = a.start;
        inside = ((starts_law g run).only a.start a.is_one).0;
        packet = b;
        is = front_is a.start b p a.packet;
      }
