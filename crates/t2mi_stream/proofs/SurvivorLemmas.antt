-- If every accepted packet is a sent one at its place, the accepted packets are the sent ones that survive.
use Rattle.std.proofs.Common.{◌≡◌, ℕ, zero, suc, ◌+◌, ◌-◌, ◌*◌, ◌<◌, ◌≤◌, ◌==◌, ◌&&◌, ◌||◌, Bool, true, false, cond}
use Rattle.std.proofs.Common.{nat_lt, nat_le, List, [], ◌∷◌, ◌++◌, map, length, drop, Option, Some, None, option_map}
use Rattle.std.proofs.Common.{slice_get, bytes_eq, refl, ap, ap₂, sym, subst, ◌∙◌, inl, inr, ⊎_elim, arith}
use Rattle.std.proofs.Common.{length-append, length-drop}
use Rattle.std.specs.List.{items_where_true, list_any}
use Rattle.std.proofs.lemmas.Bool.{cases_lt, cases_eq, cond_both, cond-true, both_ways, and_parts, and_from, or_left}
use Rattle.std.proofs.lemmas.Bool.{or_right, or_cases, false_from_ne_true, eqb-true, eq-eqb, ltb-true, ltb-false}
use Rattle.std.proofs.lemmas.Bool.{leb-true, le-leb}
use Rattle.std.proofs.lemmas.Option.{none-some, same_Some}
use Rattle.std.proofs.lemmas.Slice.Eq.{bytes_eq-Decides}
use Rattle.t2mi_stream.specs.Accepted.{AcceptedPacket}
use Rattle.t2mi_stream.specs.Pipe.{JoinedByte, items, joined, part, carried_len, offset_in}
use Rattle.t2mi_stream.specs.Received.{Fate, left_number, place_of}
use Rattle.t2mi_stream.specs.Received.Fate.{Kept, Lost, Altered}
use Rattle.t2mi_stream.specs.Laws.{Among, ArePackets, IsSurvivor}
use Rattle.t2mi_stream.specs.Survivors.{unit_within, unit_number, place_in, received_place, placed_from, sent_packets}
use Rattle.t2mi_stream.specs.Survivors.{received_packets, is_same, is_accepted, survival, AreSent}
use Rattle.t2mi_stream.specs.SurvivorLaws.{RiseFrom, PlacesRise, AcceptedSurvive, SurvivalTold}
use Rattle.t2mi_stream.specs.SpellLaws.{SpellLaws}
use Rattle.t2mi_stream.proofs.PipeLemmas.{part_size, carried_mono, length-items}

-- Numbers of units.
size_most : (xs : List JoinedByte) → (part xs).size ≤ 184
size_most [] = omega arith
size_most (x ∷ xs) = (part_size (x ∷ xs) (omega arith)).2

carried_most : (n : ℕ) (xs : List JoinedByte) → carried_len (suc n) xs ≤ carried_len n xs + 184
carried_most zero xs = let h = size_most xs in omega arith
carried_most (suc n) xs = let h = carried_most n (drop (part xs).size xs) in omega arith

-- The unit with a number carries the byte at a place.
pub record Carries (number : ℕ) (xs : List JoinedByte) (place : ℕ) : Type 0 where
  pub begins : carried_len number xs ≤ place
  pub within : place < carried_len (suc number) xs

carries_one : (xs : List JoinedByte) (a b place : ℕ) → Carries a xs place → Carries b xs place → a ≡ b
carries_one xs a b place h k = ⊎_elim
    (λ (l : a < b). let m = carried_mono (suc a) b xs (omega arith) in absurd (omega (arith, m, h.within, k.begins)))
    (λ (l : b ≤ a). ⊎_elim
    (λ (e : a ≡ b). e)
    (λ (e : a ≡ b → ⊥). let m = carried_mono (suc b) a xs (omega (arith, l, e)) in absurd
    (omega (arith, m, k.within, h.begins)))
    (cases_eq a b))
    (cases_lt a b)

carries_within : (steps : ℕ) (xs : List JoinedByte) (place : ℕ) → place < length xs → length xs ≤ steps
    → Carries (unit_within steps xs place) xs place
carries_within zero xs place l m = absurd (omega arith)
carries_within (suc steps) [] place l m = absurd (omega arith)
carries_within (suc steps) (x ∷ xs) place l m =
    let size = part_size (x ∷ xs) (omega arith) in
    let left = length-drop (part (x ∷ xs)).size (x ∷ xs) in
    cond_both (nat_lt place (part (x ∷ xs)).size) 0 _ (λ n. Carries n (x ∷ xs) place)
    (λ t. let h = ltb-true place (part (x ∷ xs)).size t in record { begins = omega arith; within = omega (arith, h) })
    (λ t.
    let h = ltb-false place (part (x ∷ xs)).size t in
    let r = carries_within steps (drop (part (x ∷ xs)).size (x ∷ xs)) (place - (part (x ∷ xs)).size)
    (omega (arith, left, h, l, size.0)) (omega (arith, left, m, size.0)) in
    record { begins = omega (arith, r.begins, h); within = omega (arith, r.within, h) })

pub carries : (xs : List JoinedByte) (place : ℕ) → place < length xs → Carries (unit_number xs place) xs place
carries xs place l = carries_within (length xs) xs place l (omega arith)

-- Places of bytes.
first_left : (o : Option ℕ) (a b : ℕ) → Some 0 ≡ Some a → option_map (λ k. 1 + k) o ≡ Some b → a < b
first_left None a b h k = absurd (none-some b k)
first_left (Some c) a b h k = let e = same_Some 0 a h in let f = same_Some (1 + c) b k in omega (arith, e, f)

both_left : (o p : Option ℕ) (a b : ℕ) → ((c d : ℕ) → o ≡ Some c → p ≡ Some d → c < d)
    → option_map (λ k. 1 + k) o ≡ Some a
    → option_map (λ k. 1 + k) p ≡ Some b → a < b
both_left None p a b f h k = absurd (none-some a h)
both_left (Some c) None a b f h k = absurd (none-some b k)
both_left (Some c) (Some d) a b f h k = let l = f c d refl refl in let e = same_Some (1 + c) a h in let z =
    same_Some (1 + d) b k in omega (arith, l, e, z)

left_rises : (fates : List Fate) (n m a b : ℕ) → n < m → left_number fates n ≡ Some a → left_number fates m ≡ Some b
    → a < b
left_rises [] n m a b l h k = absurd (none-some a h)
left_rises (f ∷ fates) n zero a b l h k = absurd (omega arith)
left_rises (Lost ∷ fates) zero (suc m) a b l h k = absurd (none-some a h)
left_rises (Lost ∷ fates) (suc n) (suc m) a b l h k = left_rises fates n m a b (omega arith) h k
left_rises (Kept ∷ fates) zero (suc m) a b l h k = first_left (left_number fates m) a b h k
left_rises (Kept ∷ fates) (suc n) (suc m) a b l h k =
    both_left (left_number fates n) (left_number fates m) a b (λ c d. left_rises fates n m c d (omega arith)) h k
left_rises (Altered other ∷ fates) zero (suc m) a b l h k = first_left (left_number fates m) a b h k
left_rises (Altered other ∷ fates) (suc n) (suc m) a b l h k =
    both_left (left_number fates n) (left_number fates m) a b (λ c d. left_rises fates n m c d (omega arith)) h k

-- a byte's place, by its unit
record InUnit (xs : List JoinedByte) (from : ℕ) (fates : List Fate) (place number p : ℕ) : Type 0 where
  pub from_on : from ≤ number
  pub left : ℕ
  pub left_is : left_number fates (number - from) ≡ Some left
  pub place_is : 188 * left + offset_in number xs place ≡ p

in_unit : (xs : List JoinedByte) (from : ℕ) (fates : List Fate) (place number p : ℕ)
    → place_in xs from fates place number
    ≡ Some p
    → InUnit xs from fates place number p
in_unit xs from fates place number p h = go (nat_le from number) refl (left_number fates (number - from)) refl h
  where
    go : (t : Bool) → nat_le from number ≡ t → (o : Option ℕ) → left_number fates (number - from) ≡ o
        → cond t (option_map (λ k. 188 * k + offset_in number xs place) o) None ≡ Some p
        → InUnit xs from fates place number p
    go false e o is k = absurd (none-some p k)
    go true e None is k = absurd (none-some p k)
    go true e (Some n) is k =
        record {
          from_on = leb-true from number e;
          left = n;
          left_is = is;
          place_is =
              same_Some (188 * n + offset_in number xs place) p k;
        }

-- A later byte gets a later place.
places_apart : (xs : List JoinedByte) (from : ℕ) (fates : List Fate) (s t a b p q : ℕ) → s < t → Carries a xs s
    → Carries b xs t
    → InUnit xs from fates s a p → InUnit xs from fates t b q → p < q
places_apart xs from fates s t a b p q l ca cb ia ib = ⊎_elim
    (λ (less : a < b).
    let r = left_rises fates (a - from) (b - from) ia.left ib.left (omega (arith, less, ia.from_on))
    ia.left_is ib.left_is in
    let most = carried_most a xs in
    omega (arith, r, most, ca.begins, ca.within, ia.place_is, ib.place_is))
    (λ (more : b ≤ a). ⊎_elim
    (λ (e : a ≡ b).
    let same = same_Some ia.left ib.left (sym ia.left_is ∙ ap (λ (n : ℕ). left_number fates (n - from)) e
    ∙ ib.left_is) in
    let off : offset_in a xs t ≡ offset_in b xs t = ap (λ (n : ℕ). offset_in n xs t) e in
    omega (arith, same, off, l, ca.begins, ca.within, ia.place_is, ib.place_is))
    (λ (e : a ≡ b → ⊥).
    let m = carried_mono (suc b) a xs (omega (arith, more, e)) in absurd (omega (arith, m, cb.within, ca.begins, l)))
    (cases_eq a b))
    (cases_lt a b)

place_rises : (xs : List JoinedByte) (from : ℕ) (fates : List Fate) (s t p q : ℕ) → s < t → t < length xs
    → received_place xs from fates s ≡ Some p → received_place xs from fates t ≡ Some q → p < q
unfolding received_place
place_rises xs from fates s t p q l m h k =
    places_apart xs from fates s t (unit_number xs s) (unit_number xs t) p q l (carries xs s (omega arith))
    (carries xs t m)
    (in_unit xs from fates s (unit_number xs s) p h) (in_unit xs from fates t (unit_number xs t) q k)

-- The places of sent packets rise, from one on.
abbrev SentRise : ℕ → List (Option AcceptedPacket) → Type 0
SentRise low [] = Unit {0}
SentRise low (None ∷ sent) = SentRise low sent
SentRise low (Some p ∷ sent) = (low ≤ p.place) × SentRise (p.place + 1) sent

-- The sent packets are these.
abbrev AreThese : List (Option AcceptedPacket) → List (List ℕ) → Type 0
AreThese [] [] = Unit {0}
AreThese [] (b ∷ packets) = ⊥
AreThese (s ∷ sent) [] = ⊥
AreThese (None ∷ sent) (b ∷ packets) = AreThese sent packets
AreThese (Some p ∷ sent) (b ∷ packets) = (p.bytes ≡ b) × AreThese sent packets

are_these : (place : ℕ → Option ℕ) (at : ℕ) (packets : List (List ℕ)) → AreThese (placed_from place at packets) packets
are_these place at [] = tt
are_these place at (b ∷ packets) = go (place at) (are_these place (at + length b) packets)
  where
    go : (o : Option ℕ) → AreThese (placed_from place (at + length b) packets) packets
        → AreThese (option_map (λ n. record { place = n; bytes = b }) o ∷ placed_from place (at + length b) packets)
        (b ∷ packets)
    go None h = h
    go (Some n) h = (refl, h)

sent_rise : (g : SpellLaws) (place : ℕ → Option ℕ) (end : ℕ)
    → ((s t p q : ℕ) → s < t → t < end → place s ≡ Some p → place t ≡ Some q → p < q) →
    (packets : List (List ℕ)) (low at : ℕ) → ArePackets packets → at + length (joined packets) ≤ end
    → ((t q : ℕ) → at ≤ t → t < end → place t ≡ Some q → low ≤ q) → SentRise low (placed_from place at packets)
sent_rise g place end rises [] low at all l h = tt
sent_rise g place end rises (b ∷ packets) low at all l h =
    let ten = (g.range b (length b) all.0).0 in
    let n = length-append (items true b) (joined packets) in
    let m = length-items true b in
    let next : at + length b + length (joined packets) ≤ end = omega (arith, n, m, l) in
    let here : at < end = omega (arith, next, ten) in
    go (place at) refl here
    (λ low' k. sent_rise g place end rises packets low' (at + length b) all.1 next k)
    (λ t k. omega (arith, k, ten))
  where
    go : (o : Option ℕ) → place at ≡ o → at < end
        → ((low' : ℕ) → ((t q : ℕ) → at + length b ≤ t → t < end → place t ≡ Some q → low' ≤ q)
        → SentRise low' (placed_from place (at + length b) packets)) →
        ((t : ℕ) → at + length b ≤ t → at < t)
        → SentRise low (option_map (λ n. record { place = n; bytes = b }) o ∷ placed_from place (at + length b) packets)
    go None e here ih later = ih low (λ t q k. h t q (let r = later t k in omega arith))
    go (Some p) e here ih later =
        (h at p (omega arith) here e, ih (p + 1) (λ t q k m f. let r = rises at t p q (later t k) m e f in omega arith))

-- The test, and what it decides.
among_told : (p : AcceptedPacket) (qs : List AcceptedPacket) → Among p qs → list_any (is_same p) qs ≡ true
among_told p [] h = elim h [ ]
among_told p (q ∷ qs) (inl e) =
    or_left _ (list_any (is_same p) qs)
    (and_from _ _ (eq-eqb p.place q.place (ap (λ (x : AcceptedPacket). x.place) (sym e)))
    ((bytes_eq-Decides p.bytes q.bytes).1 (ap (λ (x : AcceptedPacket). x.bytes) (sym e))))
among_told p (q ∷ qs) (inr h) = or_right _ (list_any (is_same p) qs) (among_told p qs h)

told_among : (p : AcceptedPacket) (qs : List AcceptedPacket) → list_any (is_same p) qs ≡ true → Among p qs
told_among p [] h = absurd (both_ways false refl h)
told_among p (q ∷ qs) h = ⊎_elim
    (λ (e : ((p.place == q.place) && bytes_eq p.bytes q.bytes) ≡ true).
    let a = and_parts (p.place == q.place) (bytes_eq p.bytes q.bytes) e in
    inl (same (sym (eqb-true p.place q.place a.0)) (sym ((bytes_eq-Decides p.bytes q.bytes).0 a.1))))
    (λ (e : list_any (is_same p) qs ≡ true). inr (told_among p qs e))
    (or_cases _ (list_any (is_same p) qs) h)
  where
    same : q.place ≡ p.place → q.bytes ≡ p.bytes → q ≡ p
    same e f = ap₂ (λ (n : ℕ) (b : List ℕ). record { place = n; bytes = b }) e f

among_from : (low : ℕ) (p : AcceptedPacket) (ps : List AcceptedPacket) → RiseFrom low ps → Among p ps → low ≤ p.place
among_from low p [] r h = elim h [ ]
among_from low p (q ∷ qs) r (inl e) = let f = ap (λ (x : AcceptedPacket). x.place) e in omega (arith, r.0, f)
among_from low p (q ∷ qs) r (inr h) = let k = among_from (q.place + 1) p qs r.1 h in omega (arith, r.0, k)

sent_from : (low : ℕ) (p : AcceptedPacket) (sent : List (Option AcceptedPacket)) → SentRise low sent
    → Among (Some p) sent
    → low ≤ p.place
sent_from low p [] r h = elim h [ ]
sent_from low p (None ∷ sent) r (inl e) = absurd (none-some p e)
sent_from low p (None ∷ sent) r (inr h) = sent_from low p sent r h
sent_from low p (Some q ∷ sent) r (inl e) = let f = ap (λ (x : AcceptedPacket). x.place) (same_Some q p e) in
    omega (arith, r.0, f)
sent_from low p (Some q ∷ sent) r (inr h) = let k = sent_from (q.place + 1) p sent r.1 h in omega (arith, r.0, k)

-- From one place on, the accepted packets are these.
abbrev FromOn : ℕ → List AcceptedPacket → List AcceptedPacket → Type 0
FromOn low all ps = (p : AcceptedPacket) → low ≤ p.place → list_any (is_same p) all ≡ list_any (is_same p) ps

record Survive (all ps : List AcceptedPacket) (sent : List (Option AcceptedPacket)) (packets : List (List ℕ)) :
    Type 0 where
  pub bytes : map (λ p. p.bytes) ps ≡ items_where_true (map (is_accepted all) sent) packets
  pub places : map Some ps ≡ items_where_true (map (is_accepted all) sent) sent

one_lost : {X : Type 0} (t : Bool) (ts : List Bool) (x : X) (xs : List X) → t ≡ false
    → items_where_true (t ∷ ts) (x ∷ xs)
    ≡ items_where_true ts xs
one_lost true ts x xs e = absurd (both_ways true e refl)
one_lost false ts x xs e = refl

one_there : {X : Type 0} (t : Bool) (ts : List Bool) (x : X) (xs : List X) → t ≡ true
    → items_where_true (t ∷ ts) (x ∷ xs)
    ≡ x ∷ items_where_true ts xs
one_there true ts x xs e = refl
one_there false ts x xs e = absurd (both_ways false refl e)

dropped : (all ps : List AcceptedPacket) (s : Option AcceptedPacket) (b : List ℕ) (sent : List (Option AcceptedPacket))
    (packets : List (List ℕ)) → is_accepted all s ≡ false → Survive all ps sent packets
    → Survive all ps (s ∷ sent) (b ∷ packets)
dropped all ps s b sent packets e h = record {
  bytes = h.bytes ∙ sym (one_lost (is_accepted all s) (map (is_accepted all) sent) b packets e);
  places = h.places ∙ sym (one_lost (is_accepted all s) (map (is_accepted all) sent) s sent e);
}

kept_one : (all ps : List AcceptedPacket) (p : AcceptedPacket) (b : List ℕ) (sent : List (Option AcceptedPacket))
    (packets : List (List ℕ)) → p.bytes ≡ b → list_any (is_same p) all ≡ true → Survive all ps sent packets
    → Survive all (p ∷ ps) (Some p ∷ sent) (b ∷ packets)
kept_one all ps p b sent packets same e h = record {
  bytes = ap₂ (λ (x : List ℕ) (l : List (List ℕ)). x ∷ l) same h.bytes
      ∙ sym (one_there (list_any (is_same p) all) (map (is_accepted all) sent) b packets e);
  places = ap (λ (l : List (Option AcceptedPacket)). Some p ∷ l) h.places
      ∙ sym (one_there (list_any (is_same p) all) (map (is_accepted all) sent) (Some p) sent e);
}

kept : (low : ℕ) (all ps : List AcceptedPacket) (sent : List (Option AcceptedPacket)) (packets : List (List ℕ))
    → RiseFrom low ps
    → SentRise low sent → AreThese sent packets → FromOn low all ps → AreSent ps sent → Survive all ps sent packets
kept low all [] [] [] r s c f a = record { bytes = refl; places = refl }
kept low all (p ∷ ps) [] [] r s c f a = elim (a p (inl refl)) [ ]
kept low all ps [] (b ∷ packets) r s c f a = absurd c
kept low all ps (s' ∷ sent) [] r s c f a = absurd c
kept low all ps (None ∷ sent) (b ∷ packets) r s c f a =
    dropped all ps None b sent packets refl
    (kept low all ps sent packets r s c f
    (λ p h. ⊎_elim (λ (e : None ≡ Some p). absurd (none-some p e)) (λ (k : Among (Some p) sent). k) (a p h)))
kept low all [] (Some q ∷ sent) (b ∷ packets) r s c f a =
    dropped all [] (Some q) b sent packets (f q s.0)
    (kept (q.place + 1) all [] sent packets tt s.1 c.1 (λ p l. f p (omega (arith, l, s.0))) (λ p h. elim h [ ]))
kept low all (p ∷ ps) (Some q ∷ sent) (b ∷ packets) r s c f a = ⊎_elim
    (λ (e : Some q ≡ Some p).
    let same : q ≡ p = same_Some q p e in
    let bytes : p.bytes ≡ b = ap (λ (x : AcceptedPacket). x.bytes) (sym same) ∙ c.0 in
    let here : list_any (is_same p) all ≡ true = f p r.0 ∙ among_told p (p ∷ ps) (inl refl) in
    let rise : SentRise (p.place + 1) sent = subst (λ (x : AcceptedPacket). SentRise (x.place + 1) sent) same s.1 in
    subst (λ (x : AcceptedPacket). Survive all (p ∷ ps) (Some x ∷ sent) (b ∷ packets)) (sym same)
    (kept_one all ps p b sent packets bytes here
    (kept (p.place + 1) all ps sent packets r.1 rise c.1
    (λ x l. f x (omega (arith, l, r.0)) ∙ not_first x p ps l)
    (λ x h. ⊎_elim
    (λ (k : Some q ≡ Some x). let le = among_from (p.place + 1) x ps r.1 h in
    let z = ap (λ (y : AcceptedPacket). y.place) (same_Some q x k) in let w = ap (λ (y : AcceptedPacket). y.place)
    same in
    absurd (omega (arith, le, z, w)))
    (λ (k : Among (Some x) sent). k)
    (a x (inr h))))))
    (λ (later : Among (Some p) sent).
    let above : q.place + 1 ≤ p.place = sent_from (q.place + 1) p sent s.1 later in
    let rises : RiseFrom (q.place + 1) (p ∷ ps) = (above, r.1) in
    let not_here : list_any (is_same q) (p ∷ ps) ≡ false =
    false_from_ne_true _ (λ (t : list_any (is_same q) (p ∷ ps) ≡ true). let le = among_from (q.place + 1)
    q (p ∷ ps) rises
    (told_among q (p ∷ ps) t) in absurd (omega (arith, le))) in
    dropped all (p ∷ ps) (Some q) b sent packets (f q s.0 ∙ not_here)
    (kept (q.place + 1) all (p ∷ ps) sent packets rises s.1 c.1 (λ x l. f x (omega (arith, l, s.0)))
    (λ x h. ⊎_elim
    (λ (k : Some q ≡ Some x). let le = among_from (q.place + 1) x (p ∷ ps) rises h in
    let z = ap (λ (y : AcceptedPacket). y.place) (same_Some q x k) in absurd (omega (arith, le, z)))
    (λ (k : Among (Some x) sent). k)
    (a x h))))
    (a p (inl refl))
  where
    not_first : (x p : AcceptedPacket) (ps : List AcceptedPacket) → p.place + 1 ≤ x.place
        → list_any (is_same x) (p ∷ ps)
        ≡ list_any (is_same x) ps
    not_first x p ps l = or_first ((x.place == p.place) && bytes_eq x.bytes p.bytes) (list_any (is_same x) ps)
        (false_from_ne_true _ (λ (t : ((x.place == p.place) && bytes_eq x.bytes p.bytes) ≡ true).
        let e = eqb-true x.place p.place (and_parts (x.place == p.place) (bytes_eq x.bytes p.bytes) t).0 in
        absurd (omega (arith, l, e))))
      where
        or_first : (a b : Bool) → a ≡ false → (a || b) ≡ b
        or_first true b e = absurd (both_ways true e refl)
        or_first false b e = refl

pub accepted_survive : (g : SpellLaws) → PlacesRise → AcceptedSurvive
accepted_survive g rise pid packets from fates all sent =
    let xs : List JoinedByte = joined packets in
    let place : ℕ → Option ℕ = received_place xs from fates in
    let ps : List AcceptedPacket = received_packets pid packets from fates in
    let r = kept 0 ps ps (sent_packets packets from fates) packets (rise pid _)
    (sent_rise g place (length xs) (λ s t p q l m. place_rises xs from fates s t p q l m) packets 0 0 all (omega arith)
    (λ t q k m e. omega arith))
    (are_these place 0 packets) (λ p l. refl) sent in
    record { bytes = r.bytes; places = r.places }

-- A survivor passes the test.
at_number : (xs : List JoinedByte) (from : ℕ) (fates : List Fate) (s number : ℕ) → Carries number xs s → s < length xs
    → place_in xs from fates s number ≡ received_place xs from fates s
unfolding received_place
at_number xs from fates s number h l =
    ap (place_in xs from fates s) (carries_one xs number (unit_number xs s) s h (carries xs s l))

survival_at : (accepted : List AcceptedPacket) (place : ℕ → Option ℕ) (at p : ℕ) (before after : List (List ℕ))
    (packet : List ℕ)
    → place (at + length (joined before)) ≡ Some p → Among (record { place = p; bytes = packet }) accepted →
    slice_get (map (is_accepted accepted) (placed_from place at (before ++ packet ∷ after))) (length before) ≡ Some true
survival_at accepted place at p [] after packet e h =
    let here : place at ≡ Some p = let z : at ≡ at + 0 = omega arith in ap place z ∙ e in
    ap (λ (o : Option ℕ). Some (is_accepted accepted (option_map (λ n. record { place = n; bytes = packet }) o))) here
    ∙ ap Some (among_told (record { place = p; bytes = packet }) accepted h)
survival_at accepted place at p (b ∷ before) after packet e h =
    let there : at + length b + length (joined before) ≡ at + length (joined (b ∷ before)) =
    omega (arith, length-append (items true b) (joined before), length-items true b) in
    survival_at accepted place (at + length b) p before after packet (ap place there ∙ e) h

in_joined : (g : SpellLaws) (before : List (List ℕ)) (packet : List ℕ) (after : List (List ℕ))
    → ArePackets (before ++ packet ∷ after) → length (joined before) < length (joined (before ++ packet ∷ after))
in_joined g [] packet after a = let ten = (g.range packet (length packet) a.0).0 in
    omega (arith, ten, length-append (items true packet) (joined after), length-items true packet)
in_joined g (b ∷ before) packet after a = let r = in_joined g before packet after a.1 in
    omega (
      arith,
      r,
      length-append (items true b) (joined before),
      length-append (items true b) (joined (before ++ packet ∷ after)),
    )

is_told : (g : SpellLaws) (pid : ℕ) (before after : List (List ℕ)) (packet : List ℕ) (from : ℕ) (fates : List Fate)
    → ArePackets (before ++ packet ∷ after) → IsSurvivor pid before packet after from fates →
    slice_get (survival pid (before ++ packet ∷ after) from fates) (length before) ≡ Some true
is_told g pid before after packet from fates all h =
    let xs : List JoinedByte = joined (before ++ packet ∷ after) in
    let s : ℕ = length (joined before) in
    let inside : s < length xs = in_joined g before packet after all in
    let here : place_in xs from fates s (from + h.number) ≡ Some h.place =
    cond-true (nat_le from (from + h.number)) _ _ (le-leb from (from + h.number) (omega arith))
    ∙ ap (λ (n : ℕ). place_of fates n (offset_in (from + h.number) xs s)) (let e : from + h.number - from ≡ h.number =
    omega arith in e) ∙ h.place_is in
    let zero_in : s ≡ 0 + s = omega arith in
    survival_at (received_packets pid (before ++ packet ∷ after) from fates) (received_place xs from fates)
    0 h.place before after
    packet
    (ap (received_place xs from fates) (sym zero_in)
    ∙ sym (at_number xs from fates s (from + h.number) (record { begins = h.begins; within = h.within }) inside)
    ∙ here) h.found

-- And what passes the test is a survivor.
pub flag_at : (accepted : List AcceptedPacket) (place : ℕ → Option ℕ) (at : ℕ) (before after : List (List ℕ))
    (packet : List ℕ) →
    slice_get (map (is_accepted accepted) (placed_from place at (before ++ packet ∷ after))) (length before)
    ≡ Some (is_accepted accepted
    (option_map (λ n. record { place = n; bytes = packet }) (place (at + length (joined before)))))
flag_at accepted place at [] after packet = let z : at ≡ at + 0 = omega arith in
    ap (λ (k : ℕ). Some (is_accepted accepted (option_map (λ n. record { place = n; bytes = packet }) (place k)))) z
flag_at accepted place at (b ∷ before) after packet =
    let there : at + length b + length (joined before) ≡ at + length (joined (b ∷ before)) =
    omega (arith, length-append (items true b) (joined before), length-items true b) in
    flag_at accepted place (at + length b) before after packet
    ∙ ap (λ (k : ℕ). Some (is_accepted accepted (option_map (λ n. record { place = n; bytes = packet }) (place k))))
    there

record AcceptedAt (accepted : List AcceptedPacket) (o : Option ℕ) (packet : List ℕ) : Type 0 where
  pub place : ℕ
  pub is : o ≡ Some place
  pub among : Among (record { place = place; bytes = packet }) accepted

accepted_at : (accepted : List AcceptedPacket) (o : Option ℕ) (packet : List ℕ)
    → is_accepted accepted (option_map (λ n. record { place = n; bytes = packet }) o) ≡ true
    → AcceptedAt accepted o packet
accepted_at accepted None packet h = absurd (both_ways false refl h)
accepted_at accepted (Some n) packet h =
    record { place = n; is = refl; among = told_among (record { place = n; bytes = packet }) accepted h }

received_in : (xs : List JoinedByte) (from : ℕ) (fates : List Fate) (t p : ℕ) → received_place xs from fates t ≡ Some p
    → InUnit xs from fates t (unit_number xs t) p
unfolding received_place
received_in xs from fates t p h = in_unit xs from fates t (unit_number xs t) p h

is_only : (g : SpellLaws) (pid : ℕ) (before after : List (List ℕ)) (packet : List ℕ) (from : ℕ) (fates : List Fate)
    → ArePackets (before ++ packet ∷ after) →
    slice_get (survival pid (before ++ packet ∷ after) from fates) (length before) ≡ Some true
    → IsSurvivor pid before packet after from fates
is_only g pid before after packet from fates all h =
    let xs : List JoinedByte = joined (before ++ packet ∷ after) in
    let s : ℕ = length (joined before) in
    let u : ℕ = unit_number xs s in
    let accepted : List AcceptedPacket = received_packets pid (before ++ packet ∷ after) from fates in
    let zero_in : 0 + s ≡ s = omega arith in
    let a = accepted_at accepted (received_place xs from fates s) packet
    (ap (λ (k : ℕ).
    is_accepted accepted (option_map (λ n. record { place = n; bytes = packet }) (received_place xs from fates k)))
    (sym zero_in)
    ∙ same_Some _ true (sym (flag_at accepted (received_place xs from fates) 0 before after packet) ∙ h)) in
    let c : Carries u xs s = carries xs s (in_joined g before packet after all) in
    let i = received_in xs from fates s a.place a.is in
    let e : from + (u - from) ≡ u = let f = i.from_on in omega (arith, f) in
    record {
      number = u - from;
      begins = subst (λ (k : ℕ). carried_len k xs ≤ s) (sym e) c.begins;
      within = subst (λ (k : ℕ). s < carried_len (suc k) xs) (sym e) c.within;
      place = a.place;
      place_is = ap (λ (k : ℕ). place_of fates (u - from) (offset_in k xs s)) e
          ∙ ap (option_map (λ (k : ℕ). 188 * k + offset_in u xs s)) i.left_is ∙ ap Some i.place_is;
      found = a.among;
    }

pub survival_told : (g : SpellLaws) → SurvivalTold
survival_told g pid before after packet from fates all =
    record {
      told = is_told g pid before after packet from fates all;
      only = is_only g pid before after
          packet from fates all;
    }
