-- If all units from one on are kept, they are one run: every accepted packet is a sent one at its place, and the
-- packets that begin in these units survive.
use Rattle.std.proofs.Common.{◌≡◌, ℕ, suc, ◌+◌, ◌-◌, ◌*◌, ◌^◌, ◌<◌, ◌≤◌, Bool, true, false, nat_le, List, [], ◌∷◌, ◌++◌}
use Rattle.std.proofs.Common.{map, length, drop, Option, Some, None, option_map, replicate, refl, ap, ap₂, sym, subst}
use Rattle.std.proofs.Common.{◌∙◌, ⊎_elim, arith, append_assoc, append-nil, length-append, length-drop}
use Rattle.std.specs.Prelude.{flat_map}
use Rattle.std.proofs.lemmas.List.Concat.{flat_map-append}
use Rattle.std.proofs.lemmas.Bool.{cond-true, cond-false, cases_lt, le-leb, lt-leb}
use Rattle.std.proofs.lemmas.Option.{same_Some}
use Rattle.t2mi_packet.specs.Spell.{spell}
use Rattle.t2mi_stream.specs.Accepted.{Byte, AcceptedPacket, packet_of, accepted}
use Rattle.t2mi_stream.specs.Candidate.{placed}
use Rattle.t2mi_stream.specs.Units.{Cut, goes_on, no_cut, piped_units, runs, accepted_of}
use Rattle.t2mi_stream.specs.Pipe.{JoinedByte, items, joined, pipe, carried_len, offset_in}
use Rattle.t2mi_stream.specs.Received.{Fate, AlteredWhole}
use Rattle.t2mi_stream.specs.Laws.{Among, ArePackets, Survives}
use Rattle.t2mi_stream.specs.Survivors.{unit_number, received_place, placed_from, sent_packets, received_packets}
use Rattle.t2mi_stream.specs.Survivors.{is_accepted, AreSent, begun_from, AreKept}
use Rattle.t2mi_stream.specs.SurvivorLaws.{IsUndamaged, KeptUndamaged, SurvivalTold}
use Rattle.t2mi_stream.specs.SpellLaws.{SpellLaws}
use Rattle.t2mi_stream.proofs.PipeLemmas.{carried_add, carried_mono, length-items}
use Rattle.t2mi_stream.proofs.FitLemmas.{Fits, fits_len}
use Rattle.t2mi_stream.proofs.ReadsLemmas.{UnitLaws}
use Rattle.t2mi_stream.proofs.SurviveLemmas.{Later, later}
use Rattle.t2mi_stream.proofs.SurvivorLemmas.{Carries, carries, flag_at}
use Rattle.t2mi_stream.proofs.OneRunLemmas.{carried_all, one_run, all_fits, place_in_run, units_all, all_left}
use Rattle.t2mi_stream.proofs.OneRunLemmas.{kept_number, placed_there, IsOne, is_one}

-- The place of a byte that is received.
module _ (pid : ℕ) (packets : List (List ℕ)) (from : ℕ) (fates : List Fate) where
  abbrev xs : List JoinedByte
  xs = joined packets

  abbrev gone : ℕ
  gone = carried_len from xs

  abbrev rest : List JoinedByte
  rest = drop gone xs

  unit_from : (u t : ℕ) → Carries u xs t → gone ≤ t → from ≤ u
  unit_from u t h l = ⊎_elim
      (λ (less : u < from). let m = carried_mono (suc u) from xs (omega arith) in let w = h.within in
      absurd (omega (arith, m, w, l)))
      (λ (more : from ≤ u). more)
      (cases_lt u from)

  carries_rest : (u t : ℕ) → Carries u xs t → from ≤ u → gone ≤ t → Carries (u - from) rest (t - gone)
  carries_rest u t h l m =
      let a = carried_add from (u - from) xs in
      let b = carried_add from (suc (u - from)) xs in
      let e : from + (u - from) ≡ u = omega (arith, l) in
      let f : from + suc (u - from) ≡ suc u = omega (arith, l) in
      let c = ap (λ (k : ℕ). carried_len k xs) e in
      let d = ap (λ (k : ℕ). carried_len k xs) f in
      let begins = h.begins in
      let within = h.within in
      record { begins = omega (arith, a, c, begins, m); within = omega (arith, b, d, within, m) }

  same_offset : (u t : ℕ) → Carries u xs t → from ≤ u → gone ≤ t → offset_in (u - from) rest (t - gone) ≡ offset_in
      u xs t
  same_offset u t h l m =
      let a = carried_add from (u - from) xs in
      let b = carried_add from (suc (u - from)) xs in
      let e : from + (u - from) ≡ u = omega (arith, l) in
      let f : from + suc (u - from) ≡ suc u = omega (arith, l) in
      let c = ap (λ (k : ℕ). carried_len k xs) e in
      let d = ap (λ (k : ℕ). carried_len k xs) f in
      let begins = h.begins in
      let within = h.within in
      omega (arith, a, b, c, d, begins, within, m)

  module _ (count : ℕ) (enough : carried_len count rest ≡ length rest) (kept : AreKept count fates) where
    few : (v t : ℕ) → Carries v rest t → t < length rest → v < count
    few v t h l = ⊎_elim
        (λ (less : v < count). less)
        (λ (more : count ≤ v). let m = carried_mono count v rest more in let b = h.begins in
        absurd (omega (arith, m, b, enough, l)))
        (cases_lt v count)

    place_is : (t : ℕ) → gone ≤ t → t < length xs → received_place xs from fates t
        ≡ Some (188 * (unit_number xs t - from) + offset_in (unit_number xs t) xs t)
    unfolding received_place
    place_is t l m =
        let u : ℕ = unit_number xs t in
        let h : Carries u xs t = carries xs t m in
        let f : from ≤ u = unit_from u t h l in
        let inside : t - gone < length rest = omega (arith, length-drop gone xs, l, m) in
        let v : u - from < count = few (u - from) (t - gone) (carries_rest u t h f l) inside in
        cond-true (nat_le from u) _ _ (le-leb from u f)
        ∙ ap (option_map (λ k. 188 * k + offset_in u xs t)) (kept_number (u - from) fates
        (λ n k. kept n (omega (arith, k, v))))

-- A packet survives exactly if it begins in one of the units.
lost_before : (xs : List JoinedByte) (from : ℕ) (fates : List Fate) (t : ℕ) → unit_number xs t < from
    → received_place xs from fates t
    ≡ None
unfolding received_place
lost_before xs from fates t l = cond-false (nat_le from (unit_number xs t)) _ _ (lt-leb from (unit_number xs t) l)

module _ (g : SpellLaws) (survives : Survives) (told : SurvivalTold) (pid : ℕ) (before after : List (List ℕ))
    (packet : List ℕ)
    (from : ℕ) (fates : List Fate) (count : ℕ) (small : pid < 2 ^ 13) (all : ArePackets (before ++ packet ∷ after))
    (altered : AlteredWhole fates) (kept : AreKept count fates)
    (enough : carried_len count (drop (carried_len from (joined (before ++ packet ∷ after)))
    (joined (before ++ packet ∷ after)))
    ≡ length (drop (carried_len from (joined (before ++ packet ∷ after))) (joined (before ++ packet ∷ after)))) where
  abbrev zs : List JoinedByte
  zs = joined (before ++ packet ∷ after)

  abbrev t : ℕ
  t = length (joined before)

  abbrev u : ℕ
  u = unit_number zs t

  inside : (0 < length packet) × (t + length packet ≤ length zs)
  inside =
      let ten = (g.range packet (length packet) (spelled before all)).0 in (
        omega (arith, ten),
        let n = ap length (flat_map-append (items true) before (packet ∷ after)) in
            omega (
              arith,
              n,
              length-append (joined before) (items true packet ++ joined after),
              length-append (items true packet) (joined after),
              length-items true packet,
            ),
      )
    where
      spelled : (before : List (List ℕ)) → ArePackets (before ++ packet ∷ after) → spell packet ≡ Some (length packet)
      spelled [] a = a.0
      spelled (c ∷ before) a = spelled before a.1

  carried : Carries u zs t
  carried = let i = inside in carries zs t (omega (arith, i.0, i.1))

  abbrev accepted_there : List AcceptedPacket
  accepted_there = received_packets pid (before ++ packet ∷ after) from fates

  flag : is_accepted accepted_there (option_map (λ n. placed n packet) (received_place zs from fates t)) ≡ nat_le from u
  flag = ⊎_elim
      (λ (less : u < from).
      ap (λ (o : Option ℕ). is_accepted accepted_there (option_map (λ n. placed n packet) o))
      (lost_before zs from fates t less)
      ∙ sym (lt-leb from u less))
      (λ (more : from ≤ u).
      let e : from + (u - from) ≡ u = omega (arith, more) in
      let ce = ap (λ (k : ℕ). carried_len k zs) e in
      let cf = ap (λ (k : ℕ). carried_len (suc k) zs) e in
      let mono = carried_mono from u zs more in
      let begins = carried.begins in
      let within = carried.within in
      let i = inside in
      let split = carried_add from count zs in
      let s = survives pid before after packet from (u - from) count fates small all altered
      (record {
        begins = omega (arith, ce, begins);
        within = omega (arith, cf, within);
        ends = omega (arith, split, enough, length-drop (carried_len from zs) zs, mono, begins, i.1);
      })
      (λ n a b. kept n b) in
      let z : 0 + t ≡ t = omega arith in
      ap (λ (k : ℕ). is_accepted accepted_there (option_map (λ n. placed n packet) (received_place zs from fates k)))
      (sym z)
      ∙ same_Some _ true (sym (flag_at accepted_there (received_place zs from fates) 0 before after packet)
      ∙ (told pid before after packet from fates all).told s)
      ∙ sym (le-leb from u more))
      (cases_lt u from)

length_push : (before : List (List ℕ)) (packet : List ℕ) → length (joined (before ++ packet ∷ [])) ≡ length
    (joined before)
    + length packet
length_push before packet =
    ap length (flat_map-append (items true) before (packet ∷ [])) ∙ length-append (joined before)
    (items true packet ++ [])
    ∙ let e = ap length (append-nil (items true packet)) in omega (arith, e, length-items true packet)

no_runs : (pid : ℕ) → runs pid [] ≡ no_cut
unfolding runs piped_units
no_runs pid = refl

-- Packets that begin in later units come behind those that begin in earlier ones.
unit_mono : (xs : List JoinedByte) (s t : ℕ) → s ≤ t → t < length xs → unit_number xs s ≤ unit_number xs t
unit_mono xs s t l m = ⊎_elim
    (λ (less : unit_number xs t < unit_number xs s).
    let a = carries xs s (omega (arith, l, m)) in
    let b = carries xs t m in
    let n = carried_mono (suc (unit_number xs t)) (unit_number xs s) xs (omega (arith, less)) in
    let begins = a.begins in
    let within = b.within in
    absurd (omega (arith, n, begins, within, l)))
    (λ (more : unit_number xs s ≤ unit_number xs t). more)
    (cases_lt (unit_number xs t) (unit_number xs s))

-- the rest of packets that are joined
module _ (g : SpellLaws) (xs : List JoinedByte) (from : ℕ) where
  joined_more : (packet : List ℕ) (packets : List (List ℕ)) → length (joined (packet ∷ packets)) ≡ length packet
      + length (joined packets)
  joined_more packet packets = length-append (items true packet) (joined packets) ∙ let e = length-items true packet in
      omega (arith, e)

  all_true : (packets : List (List ℕ)) (s at : ℕ) → ArePackets packets → at + length (joined packets) ≤ length xs
      → s ≤ at
      → from ≤ unit_number xs s → begun_from xs from at packets ≡ replicate (length packets) true
  all_true [] s at a l m f = refl
  all_true (packet ∷ packets) s at a l m f =
      let ten = (g.range packet (length packet) a.0).0 in
      let n = joined_more packet packets in
      let u = unit_mono xs s at m (omega (arith, ten, n, l)) in
      ap₂ (λ (t : Bool) (ts : List Bool). t ∷ ts) (le-leb from (unit_number xs at) (omega (arith, u, f)))
      (all_true packets s (at + length packet) a.1 (omega (arith, n, l)) (omega (arith, m)) f)

  record OnlyLater (flags : List Bool) : Type 0 where
    pub lost : ℕ
    pub left : ℕ
    pub is : flags ≡ replicate lost false ++ replicate left true

  only_later : (packets : List (List ℕ)) (at : ℕ) → ArePackets packets → at + length (joined packets) ≤ length xs
      → OnlyLater (begun_from xs from at packets)
  only_later [] at a l = record { lost = 0; left = 0; is = refl }
  only_later (packet ∷ packets) at a l =
      let n = joined_more packet packets in
      ⊎_elim
      (λ (less : unit_number xs at < from).
      let h = only_later packets (at + length packet) a.1 (omega (arith, n, l)) in
      record {
        lost = suc h.lost;
        left = h.left;
        is = ap₂ (λ (t : Bool) (ts : List Bool). t ∷ ts)
            (lt-leb from (unit_number xs at) less) h.is;
      })
      (λ (more : from ≤ unit_number xs at).
      record {
        lost = 0;
        left = length (packet ∷ packets);
        is = all_true (packet ∷ packets) at at a l
            (omega arith) more;
      })
      (cases_lt (unit_number xs at) from)

-- the units from one on, all kept
module _ (g : SpellLaws) (w : UnitLaws) (survives : Survives) (told : SurvivalTold) (pid : ℕ) (packets : List (List ℕ))
    (from : ℕ)
    (fates : List Fate) (small : pid < 2 ^ 13) (all : ArePackets packets) (altered : AlteredWhole fates)
    (kept : AreKept (length (drop from (pipe pid packets))) fates) where
  abbrev ys : List JoinedByte
  ys = joined packets

  abbrev count : ℕ
  count = length (drop from (pipe pid packets))

  abbrev base : ℕ
  base = carried_len from ys

  units : Later pid (drop from (pipe pid packets)) (drop base ys)
  units = later pid from (length ys) 0 ys (omega arith) (omega arith)

  abbrev run : List Byte
  run = carried_all units.steps 0 (drop base ys)

  enough : carried_len count (drop base ys) ≡ length (drop base ys)
  enough = ap (λ (l : List (List ℕ)). carried_len (length l) (drop base ys)) units.units_are
      ∙ units_all pid units.steps units.counter (drop base ys) units.enough

  accepted_is : received_packets pid packets from fates ≡ accepted run
  accepted_is =
      let one = one_run w pid units.steps units.counter 0 [] (drop base ys) small units.small (omega arith)
      (ap (λ (k : Cut). goes_on k.last units.counter) (no_runs pid)) in
      ap (accepted_of pid) (all_left (drop from (pipe pid packets)) fates kept ∙ ap (flat_map (λ u. u)) units.units_are)
      ∙ ap₂ (λ (e : List (List Byte)) (r : List Byte). flat_map accepted e ++ accepted r)
      (one.ended ∙ ap (λ (k : Cut). k.ended) (no_runs pid)) (one.run ∙ ap (λ (k : Cut). k.run ++ run) (no_runs pid))

  fits : Fits run (drop base ys)
  fits = all_fits units.steps 0 (drop base ys) units.enough

  one_sent : (p : AcceptedPacket) → IsOne g packets all base run fits p
      → Among (Some p) (sent_packets packets from fates)
  one_sent p h =
      let b = h.packet in
      let at = b.at in
      let s : ℕ = h.start in
      let left = fits_len run (drop base ys) fits in
      let d = length-drop base ys in
      let inside : base + s < length ys = let i = h.inside in omega (arith, left, d, i) in
      let u : ℕ = unit_number ys (base + s) in
      let c : Carries u ys (base + s) = carries ys (base + s) inside in
      let f : from ≤ u = unit_from pid packets from fates u (base + s) c (omega arith) in
      let back : base + s - base ≡ s = omega arith in
      let there : Carries (u - from) (drop base ys) s =
      subst (Carries (u - from) (drop base ys)) back (carries_rest pid packets from fates u (base + s)
      c f (omega arith)) in
      let offset : offset_in (u - from) (drop base ys) s ≡ offset_in u ys (base + s) =
      ap (offset_in (u - from) (drop base ys)) (sym back) ∙ same_offset pid packets from fates u (base + s) c f
      (omega arith) in
      let place : (packet_of (drop s run)).place ≡ 188 * (u - from) + offset_in u ys (base + s) =
      place_in_run (u - from) units.steps 0 (drop base ys) s units.enough there ∙ omega (arith, offset) in
      let got : received_place ys from fates (0 + length (joined b.before)) ≡ Some (packet_of (drop s run)).place =
      ap (received_place ys from fates) (let q : 0 + length (joined b.before) ≡ base + s = omega (arith, at) in q)
      ∙ place_is pid packets from fates count enough kept (base + s) (omega arith) inside ∙ ap Some (sym place) in
      subst (λ (q : AcceptedPacket). Among (Some q) (sent_packets packets from fates)) (sym h.is)
      (subst (λ (l : List (List ℕ)). Among (Some (placed (packet_of (drop s run)).place b.packet))
      (placed_from (received_place ys from fates) 0 l)) (sym b.parts)
      (placed_there (received_place ys from fates) 0 (packet_of (drop s run)).place b.before b.after b.packet got))

  are_sent : AreSent (received_packets pid packets from fates) (sent_packets packets from fates)
  are_sent p h = one_sent p (is_one g packets all base run fits p (subst (Among p) accepted_is h))

  flags : (before rest : List (List ℕ)) (at : ℕ) → packets ≡ before ++ rest → length (joined before) ≡ at
      → map (is_accepted (received_packets pid packets from fates)) (placed_from (received_place ys from fates) at rest)
      ≡ begun_from ys from at rest
  flags before [] at e l = refl
  flags before (p ∷ rest) at e l =
      let one : is_accepted (received_packets pid packets from fates)
      (option_map (λ n. placed n p) (received_place ys from fates (length (joined before))))
      ≡ nat_le from (unit_number ys (length (joined before))) =
      subst (λ (l : List (List ℕ)). is_accepted (received_packets pid l from fates)
      (option_map (λ n. placed n p) (received_place (joined l) from fates (length (joined before))))
      ≡ nat_le from (unit_number (joined l) (length (joined before)))) (sym e)
      (flag g survives told pid before rest p from fates count small (subst ArePackets e all) altered kept
      (subst (λ (l : List (List ℕ)). carried_len count (drop (carried_len from (joined l)) (joined l))
      ≡ length (drop (carried_len from (joined l)) (joined l))) e enough)) in
      ap₂ (λ (t : Bool) (ts : List Bool). t ∷ ts)
      (subst (λ (k : ℕ). is_accepted (received_packets pid packets from fates)
      (option_map (λ n. placed n p) (received_place ys from fates k)) ≡ nat_le from (unit_number ys k)) l one)
      (flags (before ++ p ∷ []) rest (at + length p) (e ∙ sym (append_assoc before (p ∷ []) rest))
      (length_push before p ∙ omega (arith, l)))

  undamaged : IsUndamaged pid packets from fates
  undamaged =
      let later = only_later g ys from packets 0 all (omega arith) in
      let flags_are = flags [] packets 0 refl refl in
      record {
        sent = are_sent;
        survive = flags_are;
        lost = later.lost;
        left = later.left;
        later = flags_are
            ∙ later.is;
      }

pub kept_undamaged : (g : SpellLaws) (w : UnitLaws) → Survives → SurvivalTold → KeptUndamaged
kept_undamaged g w survives told pid packets from fates small all altered kept =
    undamaged g w survives told pid packets from fates small all altered kept
