-- A sent packet is accepted at its place if the units that carry it are kept.
use Rattle.std.proofs.Common.{◌≡◌, ℕ, zero, suc, ◌+◌, ◌-◌, ◌*◌, ◌%◌, ◌^◌, ◌<◌, ◌≤◌, true, List, [], ◌∷◌, ◌++◌, length}
use Rattle.std.proofs.Common.{take, drop, Some, refl, ap, sym, subst, ◌∙◌, ⊎_elim, arith, append_assoc, length-append}
use Rattle.std.proofs.Common.{length-drop, take-add}
use Rattle.std.specs.Prelude.{option_map, flat_map}
use Rattle.std.proofs.lemmas.List.{drop-append-le, drop-drop, drop_at, drop_all, length-take-le}
use Rattle.std.proofs.lemmas.List.Concat.{flat_map-append}
use Rattle.std.proofs.lemmas.Bool.{cases_lt}
use Rattle.std.proofs.lemmas.Option.{none-some, same_Some}
use Rattle.t2mi_packet.specs.Spell.{spell}
use Rattle.t2mi_stream.specs.Accepted.{Byte, AcceptedPacket, is_marked, packet_of, accepted}
use Rattle.t2mi_stream.specs.Candidate.{placed}
use Rattle.t2mi_stream.specs.Units.{PipedUnit, Cut, with_piped_unit, runs, accepted_of}
use Rattle.t2mi_stream.specs.Pipe.{JoinedByte, values, items, joined, part, unit, units_in, units_of, carried_in}
use Rattle.t2mi_stream.specs.Pipe.{carried_len, offset_in}
use Rattle.t2mi_stream.specs.Pipes.{is_first}
use Rattle.t2mi_stream.specs.Received.{Fate, left_of, received, left_number, AlteredWhole, fate_of}
use Rattle.t2mi_stream.specs.Received.Fate.{Kept, Lost, Altered}
use Rattle.t2mi_stream.specs.Laws.{AcceptedFront, Among, ArePackets, IsStart, Survives}
use Rattle.t2mi_stream.specs.SpellLaws.{SpellLaws}
use Rattle.t2mi_stream.proofs.PipeLemmas.{length-values, part_size, carried_add, carried_mono, length-items}
use Rattle.t2mi_stream.proofs.StartsLemmas.{starts_law}
use Rattle.t2mi_stream.proofs.FitLemmas.{Fits, fits_append, fits_drop, fits_len, chain, stands_there}
use Rattle.t2mi_stream.proofs.ReadsLemmas.{UnitLaws, unit_reads, carried_fits, carried_mark}
use Rattle.t2mi_stream.proofs.KeptUnitsLemmas.{one_unit, entered, GoesOn, goes_along, kept_front, among_left}
use Rattle.t2mi_stream.proofs.KeptUnitsLemmas.{among_right, Whole, whole_drop, whole_joined, take_over, first_take}
use Rattle.t2mi_stream.proofs.KeptUnitsLemmas.{first_append, Least, least_first, place_at, between}

-- A packet that begins in the first of the units, and whose units are kept.
module _ (g : SpellLaws) (w : UnitLaws) (front : AcceptedFront) (pid : ℕ) (fits_pid : pid < 2 ^ 13) (p : List ℕ)
    (spelled : spell p ≡ Some (length p)) (z : List JoinedByte) where
  ten : 10 ≤ length p
  ten = (g.range p (length p) spelled).0

  first_item : (more : List JoinedByte) → is_first (items true p ++ more) ≡ true
  first_item more = go p ten
    where
      go : (q : List ℕ) → 10 ≤ length q → is_first (items true q ++ more) ≡ true
      go [] l = absurd (omega arith)
      go (b ∷ q) l = refl

  module _ (steps counter number count : ℕ) (bytes : List ℕ) (x : JoinedByte) (xs pre : List JoinedByte)
      (fates : List Fate)
      (small : counter < 16) (units : length bytes ≡ 188 * number) (all_is : x ∷ xs ≡ pre ++ (items true p ++ z))
      (whole : Whole pre) (here : length pre < (part (x ∷ xs)).size)
      (reach : length pre + length p ≤ carried_len (suc count) (x ∷ xs)) (enough : length xs ≤ steps)
      (kept : (n : ℕ) → n < count → fate_of fates n ≡ Some Kept) where
    abbrev all : List JoinedByte
    all = x ∷ xs

    abbrev u : List ℕ
    u = unit pid counter all

    abbrev rest : List JoinedByte
    rest = drop (part all).size all

    abbrev next : ℕ
    next = (counter + 1) % 16

    abbrev c : PipedUnit
    c = record { counter = counter; bytes = carried_in (188 * number) all }

    abbrev s : ℕ
    s = length pre

    size : (0 < (part all).size) × ((part all).size ≤ length all) × ((part all).size ≤ 184)
    size = part_size all (omega arith)

    cut : runs pid (bytes ++ u) ≡ with_piped_unit (runs pid bytes) c
    cut = one_unit w pid counter number bytes all fits_pid small (omega arith) units

    e : (front : List Byte) × ((with_piped_unit (runs pid bytes) c).run ≡ front ++ c.bytes)
        × ((with_piped_unit (runs pid bytes) c).last ≡ Some counter)
    e = entered (runs pid bytes) c

    further : GoesOn pid (bytes ++ u) (take count (units_in pid steps next rest)) rest (carried_len count rest)
    further =
        let r = unit_reads w pid (188 * number) counter all fits_pid small (omega arith) in
        goes_along w pid count steps next counter (number + 1) (bytes ++ u) rest fits_pid
        (length-append bytes u ∙ omega (arith, units, r.whole)) (ap (λ (k : Cut). k.last) cut ∙ e.2) refl
        (let z = size in omega (arith, length-drop (part all).size all, z.0, enough))

    abbrev came : List ℕ
    came = bytes ++ u ++ flat_map (λ u. u) (take count (units_in pid steps next rest))

    abbrev mine : List Byte
    mine = c.bytes ++ further.more

    abbrev base : ℕ
    base = length e.0

    run_is : (runs pid came).run ≡ e.0 ++ mine
    run_is = further.run_is ∙ ap (λ (l : List Byte). l ++ further.more) (ap (λ (k : Cut). k.run) cut ∙ e.1)
        ∙ append_assoc e.0 c.bytes further.more

    abbrev z' : List JoinedByte
    z' = take (carried_len (suc count) all - s - length (items true p)) z

    taken : take (carried_len (suc count) all) all ≡ pre ++ (items true p ++ z')
    taken =
        let n = length-items true p in
        ap (take (carried_len (suc count) all)) all_is
        ∙ take_over pre (items true p ++ z) (carried_len (suc count) all) (omega (arith, reach))
        ∙ ap (λ (l : List JoinedByte). pre ++ l)
        (take_over (items true p) z (carried_len (suc count) all - s) (omega (arith, reach, n)))

    fits : Fits mine (pre ++ (items true p ++ z'))
    fits = subst (Fits mine) (sym (take-add (part all).size (carried_len count rest) all) ∙ taken)
        (fits_append c.bytes further.more (take (part all).size all) (take (carried_len count rest) rest)
        (carried_fits (188 * number) all (omega arith)) further.fits)

    at_run : (t : ℕ) → drop (base + t) (e.0 ++ mine) ≡ drop t mine
    at_run t = sym (drop-drop t base (e.0 ++ mine)) ∙ ap (drop t) (drop_at e.0 mine base refl)

    first_at : is_first (drop s all) ≡ true
    first_at = ap (λ (l : List JoinedByte). is_first (drop s l)) all_is
        ∙ ap is_first (drop_at pre (items true p ++ z) s refl)
        ∙ first_item z

    least : Least (take (part all).size all) s
    least = least_first (take (part all).size all) s (first_take (part all).size s all here ∙ first_at)

    abbrev f : ℕ
    f = least.place

    packets : (packets : List (List ℕ)) × (drop f pre ≡ joined packets) × ArePackets packets
    packets = between pre f whole least.before (λ l.
        sym (first_append f pre (items true p ++ z) l) ∙ ap (λ (l : List JoinedByte). is_first (drop f l)) (sym all_is)
        ∙ sym (first_take (part all).size f all (let b = least.before in omega (arith, b, here))) ∙ least.first)

    vals : length (values (take (part all).size all)) ≡ (part all).size
    vals = length-values (take (part all).size all) ∙ length-take-le (part all).size all size.1

    accepted_there : Among (placed (188 * number + (188 - (part all).size + s)) p) (accepted (e.0 ++ mine))
    accepted_there =
        let n = fits_len mine (pre ++ (items true p ++ z')) fits in
        let m = length-append pre (items true p ++ z') in
        let o = length-append (items true p) z' in
        let q = length-items true p in
        let b = least.before in
        let mark : is_marked (drop (base + f) (e.0 ++ mine)) ≡ true = ap is_marked (at_run f)
        ∙ carried_mark (188 * number) f all further.more (omega arith) least.least in
        let start : IsStart (e.0 ++ mine) (base + f) =
        (starts_law g (e.0 ++ mine)).marked (base + f) (omega (arith, n, m, o, q, b, ten, length-append e.0 mine))
        mark in
        let from_f : Fits (drop (base + f) (e.0 ++ mine)) (joined packets.0 ++ (items true p ++ z')) =
        subst (λ (l : List Byte). Fits l (joined packets.0 ++ (items true p ++ z'))) (sym (at_run f))
        (subst (Fits (drop f mine)) (drop-append-le f pre (items true p ++ z') b
        ∙ ap (λ (l : List JoinedByte). l ++ (items true p ++ z')) packets.1)
        (fits_drop f mine (pre ++ (items true p ++ z')) fits)) in
        let to_p : base + f + length (joined packets.0) ≡ base + s = let k = ap length packets.1 in
        omega (arith, k, length-drop f pre, b) in
        let at_p : IsStart (e.0 ++ mine) (base + s) =
        subst (IsStart (e.0 ++ mine)) to_p (chain g (e.0 ++ mine) (base + f) packets.0 p z' start packets.2
        spelled from_f) in
        let from_p : Fits (drop (base + s) (e.0 ++ mine)) (items true p ++ z') =
        subst (λ (l : List Byte). Fits l (items true p ++ z')) (sym (at_run s))
        (subst (Fits (drop s mine)) (drop_at pre (items true p ++ z') s refl)
        (fits_drop s mine (pre ++ (items true p ++ z')) fits)) in
        let place : (packet_of (drop (base + s) (e.0 ++ mine))).place ≡ 188 * number + (188 - (part all).size + s) =
        ap (λ (l : List Byte). (packet_of l).place) (at_run s)
        ∙ place_at (188 * number) (188 - length (values (take (part all).size all))) _ s
        (values (take (part all).size all)) further.more (omega (arith, vals, here))
        ∙ ap (λ (n : ℕ). 188 * number + (188 - n + s)) vals in
        stands_there g (e.0 ++ mine) (base + s) (188 * number + (188 - (part all).size + s)) p z' at_p
        spelled from_p place

    pub begun_here : Among (placed (188 * number + (188 - (part all).size + s)) p)
        (accepted_of pid (bytes ++ (u ++ left_of (units_in pid steps next rest) fates)))
    begun_here =
        let k = kept_front (units_in pid steps next rest) fates count kept in
        let o = front pid came k.0 in
        let parts : came ++ k.0 ≡ bytes ++ (u ++ left_of (units_in pid steps next rest) fates) =
        append_assoc (bytes ++ u) (flat_map (λ u. u) (take count (units_in pid steps next rest))) k.0
        ∙ append_assoc bytes u (flat_map (λ u. u) (take count (units_in pid steps next rest)) ++ k.0)
        ∙ ap (λ (l : List ℕ). bytes ++ (u ++ l)) (sym k.1) in
        let packet : AcceptedPacket = placed (188 * number + (188 - (part all).size + s)) p in
        let there : Among packet (accepted_of pid came) =
        among_right packet (flat_map accepted (runs pid came).ended) (accepted (runs pid came).run)
        (subst (λ (r : List Byte). Among packet (accepted r)) (sym run_is) accepted_there) in
        subst (Among packet) (ap (accepted_of pid) parts)
        (subst (Among packet) (sym o.1) (among_left packet (accepted_of pid came) o.0 there))

  -- It begins in a later one.
  record Found (i number : ℕ) (bytes : List ℕ) (xs : List JoinedByte) (place : ℕ) (units : List (List ℕ))
      (fates : List Fate) : Type 0 where
    pub left : ℕ
    pub number_is : left_number fates i ≡ Some left
    pub there : Among (placed (188 * (number + left) + offset_in i xs place) p)
        (accepted_of pid (bytes ++ left_of units fates))

  -- by what becomes of the unit before
  behind_unit : (i number : ℕ) (bytes u : List ℕ) (x : JoinedByte) (xs : List JoinedByte) (place : ℕ)
      (units : List (List ℕ))
      (f : Fate)
      (fates : List Fate) → length bytes ≡ 188 * number → length u ≡ 188 →
      (part (x ∷ xs)).size ≤ place → AlteredWhole (f ∷ fates) →
      ((number : ℕ) (bytes : List ℕ) → length bytes ≡ 188 * number → AlteredWhole fates
      → Found i number bytes (drop (part (x ∷ xs)).size (x ∷ xs)) (place - (part (x ∷ xs)).size) units fates) →
      Found (suc i) number bytes (x ∷ xs) place (u ∷ units) (f ∷ fates)
  behind_unit i number bytes u x xs place units f fates whole full l altered ih = go f altered
    where
      size : ℕ
      size = (part (x ∷ xs)).size

      rest : List JoinedByte
      rest = drop size (x ∷ xs)

      same : offset_in i rest (place - size) ≡ offset_in (suc i) (x ∷ xs) place
      same = omega (arith, l)

      one_more : (other : List ℕ) → length other ≡ 188 → Found i (number + 1) (bytes ++ other) rest (place - size)
          units fates →
          (k : ℕ) × (left_number fates i ≡ Some k)
          × Among (placed (188 * (number + (1 + k)) + offset_in (suc i) (x ∷ xs) place) p)
          (accepted_of pid (bytes ++ (other ++ left_of units fates)))
      one_more other n h = (
        h.left,
        h.number_is,
        subst (λ (m : ℕ). Among (placed m p) (accepted_of pid (bytes ++ (other ++ left_of units fates))))
            (ap (λ (m : ℕ). 188 * (number + 1 + h.left) + m) same ∙ omega arith)
            (subst (λ (l : List ℕ). Among (placed (188 * (number + 1 + h.left) + offset_in i rest (place - size)) p)
            (accepted_of pid l)) (append_assoc bytes other (left_of units fates)) h.there),
      )

      grown : (other : List ℕ) → length other ≡ 188 → length (bytes ++ other) ≡ 188 * (number + 1)
      grown other n = length-append bytes other ∙ omega (arith, whole, n)

      go : (f : Fate) → AlteredWhole (f ∷ fates) → Found (suc i) number bytes (x ∷ xs) place (u ∷ units) (f ∷ fates)
      go Kept a = let r = one_more u full (ih (number + 1) (bytes ++ u) (grown u full) a) in
          record { left = 1 + r.0; number_is = ap (option_map (λ (k : ℕ). 1 + k)) r.1; there = r.2 }
      go (Altered other) a = let r = one_more other a.0 (ih (number + 1) (bytes ++ other) (grown other a.0) a.1) in
          record { left = 1 + r.0; number_is = ap (option_map (λ (k : ℕ). 1 + k)) r.1; there = r.2 }
      go Lost a = let h = ih number bytes whole a in
          record {
            left = h.left;
            number_is = h.number_is;
            there = subst
                (λ (m : ℕ). Among (placed (188 * (number + h.left) + m) p)
                (accepted_of pid (bytes ++ left_of units fates))) same
                h.there;
          }

  -- a unit that is kept
  first_kept : (number : ℕ) (bytes u : List ℕ) (xs : List JoinedByte) (place : ℕ) (units : List (List ℕ)) (f : Fate)
      (fates : List Fate)
      → f ≡ Kept →
      Among (placed (188 * (number + 0) + offset_in 0 xs place) p)
      (accepted_of pid (bytes ++ (u ++ left_of units fates)))
      → Found 0 number bytes xs place (u ∷ units) (f ∷ fates)
  first_kept number bytes u xs place units f fates e h =
      subst (λ (f : Fate). Found 0 number bytes xs place (u ∷ units) (f ∷ fates)) (sym e)
      (record { left = 0; number_is = refl; there = h })

  walk : (i steps counter number : ℕ) (bytes : List ℕ) (xs pre : List JoinedByte) (fates : List Fate) (last : ℕ)
      → counter < 16
      → length bytes ≡ 188 * number → xs ≡ pre ++ (items true p ++ z) → Whole pre →
      carried_len i xs ≤ length pre → length pre < carried_len (suc i) xs → length pre + length p ≤ carried_len last xs
      → length xs ≤ steps →
      ((n : ℕ) → i ≤ n → n < last → fate_of fates n ≡ Some Kept) → AlteredWhole fates
      → Found i number bytes xs (length pre) (units_in pid steps counter xs) fates
  unfolding units_in
  walk i steps counter number bytes [] pre fates last small units is whole begins within ends enough kept altered =
      absurd (let n = ap length is in
      omega (arith, n, length-append pre (items true p ++ z), length-append (items true p) z, length-items true p, ten))
  walk i zero counter number bytes (x ∷ xs) pre fates last small units is whole begins within ends enough kept altered =
      absurd (omega arith)
  walk zero (suc steps) counter number bytes (x ∷ xs) pre fates zero small units is whole begins within
      ends enough kept altered =
      absurd (let t = ten in omega arith)
  walk zero (suc steps) counter number bytes (x ∷ xs) pre [] (suc last) small units is whole begins within
      ends enough kept
      altered = absurd (none-some Kept (kept 0 (omega arith) (omega arith)))
  walk zero (suc steps) counter number bytes (x ∷ xs) pre (f ∷ fates) (suc last) small units is whole
      begins within ends enough
      kept altered =
      let here = begun_here steps counter number last bytes x xs pre fates small units is whole (omega (arith, within))
      ends
      (omega (arith, enough)) (λ n l. kept (suc n) (omega arith) (omega arith)) in
      first_kept number bytes (unit pid counter (x ∷ xs)) (x ∷ xs) (length pre)
      (units_in pid steps ((counter + 1) % 16) (drop (part (x ∷ xs)).size (x ∷ xs))) f fates
      (same_Some f Kept (kept 0 (omega arith) (omega arith)))
      (subst (λ (m : ℕ).
      Among (placed m p)
      (accepted_of pid
      (bytes ++ (unit pid counter (x ∷ xs)
      ++ left_of (units_in pid steps ((counter + 1) % 16) (drop (part (x ∷ xs)).size (x ∷ xs))) fates))))
      (omega arith) here)
  walk (suc i) (suc steps) counter number bytes (x ∷ xs) pre fates zero small units is whole begins within
      ends enough kept
      altered = absurd (let t = ten in omega arith)
  walk (suc i) (suc steps) counter number bytes (x ∷ xs) pre [] (suc last) small units is whole begins
      within ends enough kept
      altered = absurd (none-some Kept (kept (suc i) (omega arith)
      (⊎_elim (λ (l : suc i < suc last). l) (λ (l : suc last ≤ suc i). let m = carried_mono (suc last)
      (suc i) (x ∷ xs) l in
      absurd (let t = ten in omega (arith, m, begins, ends, t))) (cases_lt (suc i) (suc last)))))
  walk (suc i) (suc steps) counter number bytes (x ∷ xs) pre (f ∷ fates) (suc last) small units is whole
      begins within ends enough
      kept altered =
      let all : List JoinedByte = x ∷ xs in
      let n : ℕ = (part all).size in
      let size = part_size all (omega arith) in
      let r = unit_reads w pid (188 * number) counter all fits_pid small (omega arith) in
      let passed : n ≤ length pre = omega (arith, begins) in
      let left : length (drop n pre) ≡ length pre - n = length-drop n pre in
      let rest_is : drop n all ≡ drop n pre ++ (items true p ++ z) =
      ap (drop n) is ∙ drop-append-le n pre (items true p ++ z) passed in
      behind_unit i number bytes (unit pid counter all) x xs (length pre) (units_in pid steps ((counter + 1) % 16)
      (drop n all)) f
      fates units r.whole passed altered
      (λ number' bytes' units' altered'.
      subst (λ (m : ℕ). Found i number' bytes' (drop n all) m (units_in pid steps ((counter + 1) % 16) (drop n all))
      fates)
      left
      (walk i steps ((counter + 1) % 16) number' bytes' (drop n all) (drop n pre) fates last (omega arith)
      units' rest_is
      (whole_drop n pre whole)
      (omega (arith, left, begins)) (omega (arith, left, within, passed)) (omega (arith, left, ends, passed))
      (omega (arith, length-drop n all, size.0, enough))
      (λ m a b. kept (suc m) (omega arith) (omega arith)) altered'))

-- later units of the same
pub record Later (pid : ℕ) (units : List (List ℕ)) (xs : List JoinedByte) : Type 0 where
  pub steps : ℕ
  pub counter : ℕ
  pub units_are : units ≡ units_in pid steps counter xs
  pub small : counter < 16
  pub enough : length xs ≤ steps

nothing_later : (pid n counter : ℕ) → counter < 16 → Later pid [] (drop n [])
unfolding units_in
nothing_later pid n counter small =
    let none : List JoinedByte = [] in
    let e = ap length (drop_all n none (omega arith)) in
    record { steps = 0; counter = counter; units_are = refl; small = small; enough = omega (arith, e) }

pub later : (pid from steps counter : ℕ) (xs : List JoinedByte) → counter < 16 → length xs ≤ steps
    → Later pid (drop from (units_in pid steps counter xs)) (drop (carried_len from xs) xs)
unfolding units_in
later pid zero steps counter xs small enough =
    record { steps = steps; counter = counter; units_are = refl; small = small; enough = enough }
later pid (suc from) zero counter [] small enough = nothing_later pid (carried_len (suc from) []) counter small
later pid (suc from) zero counter (x ∷ xs) small enough = absurd (omega arith)
later pid (suc from) (suc steps) counter [] small enough = nothing_later pid (carried_len (suc from) []) counter small
later pid (suc from) (suc steps) counter (x ∷ xs) small enough =
    let all : List JoinedByte = x ∷ xs in
    let n : ℕ = (part all).size in
    let size = part_size all (omega arith) in
    let h = later pid from steps ((counter + 1) % 16) (drop n all) (omega arith)
    (omega (arith, length-drop n all, size.0, enough)) in
    let e : drop (carried_len from (drop n all)) (drop n all) ≡ drop (n + carried_len from (drop n all)) all =
    drop-drop (carried_len from (drop n all)) n all in
    record {
      steps = h.steps;
      counter = h.counter;
      units_are = h.units_are ∙ ap (units_in pid h.steps h.counter) e;
      small = h.small;
      enough = let k = ap length e in omega (arith, k, h.enough);
    }

are_parts : (before : List (List ℕ)) (packet : List ℕ) (after : List (List ℕ)) → ArePackets (before ++ packet ∷ after)
    → ArePackets before × (spell packet ≡ Some (length packet))
are_parts [] packet after h = (tt, h.0)
are_parts (c ∷ before) packet after h = let r = are_parts before packet after h.1 in ((h.0, r.0), r.1)

pub survives : (g : SpellLaws) (w : UnitLaws) → AcceptedFront → Survives
survives g w front pid before after packet from first last fates small packets altered carry kept =
    let all : List JoinedByte = joined (before ++ packet ∷ after) in
    let pre : List JoinedByte = joined before in
    let z : List JoinedByte = joined after in
    let parts = are_parts before packet after packets in
    let all_is : all ≡ pre ++ (items true packet ++ z) = flat_map-append (items true) before (packet ∷ after) in
    let c : ℕ = carried_len from all in
    let s : ℕ = length pre in
    let h = later pid from (length all) 0 all (omega arith) (omega arith) in
    let y : List JoinedByte = drop c all in
    let one = carried_add from first all in
    let two = carried_add from (suc first) all in
    let three = carried_add from last all in
    let e : from + suc first ≡ suc (from + first) = omega arith in
    let within : s < carried_len (from + suc first) all = subst (λ (k : ℕ). s < carried_len k all) (sym e)
    carry.within in
    let passed : c ≤ s = omega (arith, one, carry.begins) in
    let left : length (drop c pre) ≡ s - c = length-drop c pre in
    let y_is : y ≡ drop c pre ++ (items true packet ++ z) =
    ap (drop c) all_is ∙ drop-append-le c pre (items true packet ++ z) passed in
    let found = walk g w front pid small packet parts.1 z first h.steps h.counter 0 [] y (drop c pre)
    fates last h.small refl y_is
    (whole_drop c pre (whole_joined before parts.0))
    (omega (arith, left, one, carry.begins)) (omega (arith, left, two, within, passed))
    (omega (arith, left, three, carry.ends, passed)) h.enough kept altered in
    let off : ℕ = offset_in (from + first) all s in
    let same : 188 * (0 + found.left) + offset_in first y (length (drop c pre)) ≡ 188 * found.left + off =
    omega (arith, left, one, two, passed, ap (λ (k : ℕ). carried_len k all) e) in
    record {
      number = first;
      begins = carry.begins;
      within = carry.within;
      place = 188 * found.left + off;
      place_is = ap (option_map (λ (k : ℕ). 188 * k + off)) found.number_is;
      found = subst (λ (n : ℕ). Among (placed n packet) (accepted_of pid (received (units_of pid all) from fates))) same
          (subst (λ (u : List (List ℕ)). Among
          (placed (188 * (0 + found.left) + offset_in first y (length (drop c pre))) packet)
          (accepted_of pid (left_of u fates))) (sym h.units_are) found.there);
    }
