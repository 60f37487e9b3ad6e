-- Frames as packets that are sent frame by frame, of which those of other frames are lost; and one more is lost of each
-- frame that is not complete.
use Rattle.std.proofs.Common.{◌≢◌, ◌≡◌, ℕ, zero, suc, ◌+◌, ◌-◌, ◌%◌, ◌<◌, ◌≤◌, ◌==◌, Bool, true, false, List, [], ◌∷◌}
use Rattle.std.proofs.Common.{◌++◌, cond, length, map, replicate, Some, None, refl, ap, ap₂, sym, subst, ◌∙◌}
use Rattle.std.proofs.Common.{⊎_elim, arith, append-nil, length-append}
use Rattle.std.proofs.lemmas.List.{length-replicate}
use Rattle.std.specs.List.{filter, items_where_true}
use Rattle.std.proofs.lemmas.Bool.{cases_eq, cases_lt, cond-true, cond-false, eq-eqb, ne_eqb}
use Rattle.std.proofs.lemmas.List.Elements.{filter-append}
use Rattle.plp_config.specs.declared.config.Config.{Config}
use Rattle.t2mi_packet.specs.declared.packet.Body.{Body}
use Rattle.t2mi_packet.specs.declared.packet.Body.TheVariants.{L1Current}
use Rattle.t2mi_packet.specs.declared.packet.Packet.{Packet}
use Rattle.frame_writer.specs.FramePackets.{packet_with}
use Rattle.stream_laws.specs.SentPackets.{Sent, packets_of, frame_packets}
use Rattle.stream_laws.specs.SentFrames.{sent_from}
use Rattle.stream_laws.specs.Remade.{NumberedView, view_bodies, frame_pairs, remade_bodies}
use Rattle.stream_laws.proofs.MadeLemmas.{all_bodies}
use Rattle.stream_laws.specs.Coming.{frame_at as at, is_complete}

-- ---- packets of frames

pub packets_step : (n : ℕ) (s : Sent) (sent : List Sent) (here : Bool) → (s.frame == n) ≡ here
    → frame_packets n (s ∷ sent) ≡ cond here (s.packet ∷ frame_packets n sent) (frame_packets n sent)
packets_step n s sent true e = rw e refl
packets_step n s sent false e = rw e refl

pub packets_here : (n : ℕ) (s : Sent) (sent : List Sent) → s.frame ≡ n → frame_packets n (s ∷ sent) ≡ s.packet
    ∷ frame_packets n sent
packets_here n s sent e = rw (eq-eqb s.frame n e) refl

pub packets_other : (n : ℕ) (s : Sent) (sent : List Sent) → s.frame ≢ n
    → frame_packets n (s ∷ sent) ≡ frame_packets n sent
packets_other n s sent e = rw (ne_eqb s.frame n e) refl

-- ---- packets of bodies

abbrev pub pairs : ℕ → List Body → List (ℕ × Body)
pairs n bodies = map (λ (body : Body). (n, body)) bodies

pub sent_append : (c : Config) (number : ℕ) (xs ys : List (ℕ × Body))
    → sent_from c number (xs ++ ys) ≡ sent_from c number xs
    ++ sent_from c (number + length xs) ys
sent_append c number [] ys = ap (λ (k : ℕ). sent_from c k ys) (let e : number ≡ number + 0 = omega arith in e)
sent_append c number (x ∷ xs) ys =
    let e : number + 1 + length xs ≡ number + length (x ∷ xs) = omega arith in
    ap (λ (l : List Sent). record { frame = x.0; packet = packet_with c number x.0 x.1 } ∷ l)
    (sent_append c (number + 1) xs ys ∙ ap (λ (k : ℕ). sent_from c (number + 1) xs ++ sent_from c k ys) e)

pub length-sent : (c : Config) (number : ℕ) (xs : List (ℕ × Body)) → length (sent_from c number xs) ≡ length xs
length-sent c number [] = refl
length-sent c number (x ∷ xs) = let e = length-sent c (number + 1) xs in omega (arith, e)

pub packets_append : (n : ℕ) (xs ys : List Sent) → frame_packets n (xs ++ ys) ≡ frame_packets n xs ++ frame_packets n ys
packets_append n [] ys = refl
packets_append n (x ∷ xs) ys = ⊎_elim
    (λ (e : x.frame ≡ n). rw (eq-eqb x.frame n e) (ap (λ (l : List Packet). x.packet ∷ l) (packets_append n xs ys)))
    (λ (e : x.frame ≡ n → ⊥). rw (ne_eqb x.frame n e) (packets_append n xs ys))
    (cases_eq x.frame n)

-- those of one frame
pub own_here : (c : Config) (n number : ℕ) (bodies : List Body)
    → all_bodies (frame_packets n (sent_from c number (pairs n bodies)))
    ≡ bodies
own_here c n number [] = refl
own_here c n number (b ∷ bodies) =
    rw (eq-eqb n n refl) (ap (λ (l : List Body). b ∷ l) (own_here c n (number + 1) bodies))

own_other : (c : Config) (n m number : ℕ) (bodies : List Body) → (m ≡ n → ⊥)
    → frame_packets n (sent_from c number (pairs m bodies))
    ≡ []
own_other c n m number [] e = refl
own_other c n m number (b ∷ bodies) e = rw (ne_eqb m n e) (own_other c n m (number + 1) bodies e)

-- ---- the list: stand-ins for what is lost

-- an L1-current: nothing that another frame carries
abbrev pub stand_in : Config → ℕ → Sent
stand_in c n = record { frame = n; packet = packet_with c 0 n (L1Current (n % c.frames) [] [] [] []) }

abbrev pub stand_ins : Config → ℕ → ℕ → List Sent
stand_ins c from zero = []
stand_ins c from (suc k) = stand_in c from ∷ stand_ins c (from + 1) k

-- what is lost of a frame that is there
abbrev pub lost_by : Config → ℕ → Bool → List Sent
lost_by c n true = []
lost_by c n false = stand_in c n ∷ []

abbrev pub own : Config → ℕ → NumberedView → List Sent
own c number f = sent_from c number (frame_pairs c f)

-- which frames are complete is told by all of them
abbrev pub lost : Config → List NumberedView → NumberedView → List Sent
lost c all f = lost_by c f.number (is_complete c all f)

abbrev pub full : Config → List NumberedView → ℕ → ℕ → List NumberedView → List Sent
full c all from number [] = []
full c all from number (f ∷ fs) = stand_ins c from (f.number - from)
    ++ (own c number f ++ (lost c all f ++ full c all (f.number + 1) (number + length (frame_pairs c f)) fs))

abbrev pub kept : Config → List NumberedView → ℕ → List NumberedView → List Bool
kept c all from [] = []
kept c all from (f ∷ fs) = replicate (f.number - from) false
    ++ (replicate (length (frame_pairs c f)) true ++ (replicate (length (lost c all f)) false
    ++ kept c all (f.number + 1) fs))

-- the numbers of frames, from one on, rise
abbrev pub RisesFrom : ℕ → List NumberedView → Type 0
RisesFrom from [] = Unit {0}
RisesFrom from (f ∷ fs) = (from ≤ f.number) × RisesFrom (f.number + 1) fs

-- A frame of this number is there: its packets that are left carry what its record says, and one more is lost if it is
-- not complete.
pub record Has (c : Config) (all : List NumberedView) (n from number : ℕ) (fs : List NumberedView) (f : NumberedView) :
    Type 0 where
  pub number_is : f.number ≡ n
  pub found : at n fs ≡ Some f
  pub carried : all_bodies (frame_packets n (sent_from c number (remade_bodies c fs))) ≡ view_bodies c f.number f.view
  pub more : frame_packets n (full c all from number fs)
      ≡ frame_packets n (sent_from c number (remade_bodies c fs)) ++ packets_of (lost c all f)

-- Or there is none, and none of its packets is left.
pub record Lacks (c : Config) (n number : ℕ) (fs : List NumberedView) : Type 0 where
  pub none : at n fs ≡ None
  pub gone : frame_packets n (sent_from c number (remade_bodies c fs)) ≡ []

-- one of the two, for each number from one on
pub data Look (c : Config) (all : List NumberedView) (n from number : ℕ) (fs : List NumberedView) : Type 0 where
  Found : (f : NumberedView) → Has c all n from number fs f → Look c all n from number fs
  Missing : Lacks c n number fs → Look c all n from number fs

module _ (c : Config) (all : List NumberedView) where
  length-stand : (from k : ℕ) → length (stand_ins c from k) ≡ k
  length-stand from zero = refl
  length-stand from (suc k) = let e = length-stand (from + 1) k in omega (arith, e)

  pub length-kept : (from number : ℕ) (fs : List NumberedView) → length (kept c all from fs) ≡ length
      (full c all from number fs)
  length-kept from number [] = refl
  length-kept from number (f ∷ fs) =
      let j : ℕ = length (frame_pairs c f) in
      let more = length-kept (f.number + 1) (number + j) fs in
      simp (length-append, length-replicate, length-stand, length-sent) (omega (arith, more))

  skip_false : (xs ys : List Sent) (ts : List Bool) → items_where_true (replicate (length xs) false ++ ts) (xs ++ ys)
      ≡ items_where_true ts ys
  skip_false [] ys ts = refl
  skip_false (x ∷ xs) ys ts = skip_false xs ys ts

  keep_true : (xs ys : List Sent) (ts : List Bool) → items_where_true (replicate (length xs) true ++ ts) (xs ++ ys)
      ≡ xs ++ items_where_true ts ys
  keep_true [] ys ts = refl
  keep_true (x ∷ xs) ys ts = ap (λ (l : List Sent). x ∷ l) (keep_true xs ys ts)

  pub kept_are : (from number : ℕ) (fs : List NumberedView) → items_where_true (kept c all from fs)
      (full c all from number fs)
      ≡ sent_from c number (remade_bodies c fs)
  kept_are from number [] = refl
  kept_are from number (f ∷ fs) =
      let k : ℕ = f.number - from in
      let j : ℕ = length (frame_pairs c f) in
      let rest : List Sent = full c all (f.number + 1) (number + j) fs in
      let ts : List Bool = kept c all (f.number + 1) fs in
      let more : List Bool = replicate (length (lost c all f)) false ++ ts in
      ap (λ (i : ℕ). items_where_true (replicate i false ++ (replicate j true ++ more))
      (stand_ins c from k ++ (own c number f ++ (lost c all f ++ rest))))
      (sym (length-stand from k))
      ∙ skip_false (stand_ins c from k) (own c number f ++ (lost c all f ++ rest)) (replicate j true ++ more)
      ∙ ap (λ (i : ℕ). items_where_true (replicate i true ++ more) (own c number f ++ (lost c all f ++ rest)))
      (sym (length-sent c number (frame_pairs c f)))
      ∙ keep_true (own c number f) (lost c all f ++ rest) more
      ∙ ap (λ (l : List Sent). own c number f ++ l) (skip_false (lost c all f) rest ts
      ∙ kept_are (f.number + 1) (number + j) fs)
      ∙ sym (sent_append c number (frame_pairs c f) (remade_bodies c fs))

  -- ---- of what no stand-in is, nothing is lost

  module _ (test : Sent → Bool) (none : (n : ℕ) → test (stand_in c n) ≡ false) where
    no_stand : (from k : ℕ) → filter test (stand_ins c from k) ≡ []
    no_stand from zero = refl
    no_stand from (suc k) = cond-false _ _ _ (none from) ∙ no_stand (from + 1) k

    no_lost : (n : ℕ) (t : Bool) → filter test (lost_by c n t) ≡ []
    no_lost n true = refl
    no_lost n false = cond-false {A = List Sent} (test (stand_in c n)) (stand_in c n ∷ []) [] (none n)

    pub filter_full : (from number : ℕ) (fs : List NumberedView) → filter test (full c all from number fs)
        ≡ filter test (sent_from c number (remade_bodies c fs))
    filter_full from number [] = refl
    filter_full from number (f ∷ fs) =
        simp (filter-append, sent_append, no_stand, no_lost)
        (ap (λ (l : List Sent). filter test (own c number f) ++ l)
        (filter_full (f.number + 1) (number + length (frame_pairs c f)) fs))

  -- ---- the packets of a frame among them

  stand_none : (n from k : ℕ) → (from + k ≤ n) → frame_packets n (stand_ins c from k) ≡ []
  stand_none n from zero b = refl
  stand_none n from (suc k) b =
      rw (ne_eqb from n (λ e. omega (arith, e, b))) (stand_none n (from + 1) k (omega (arith, b)))

  stand_before : (n from k : ℕ) → n < from → frame_packets n (stand_ins c from k) ≡ []
  stand_before n from zero l = refl
  stand_before n from (suc k) l =
      rw (ne_eqb from n (λ e. omega (arith, e, l))) (stand_before n (from + 1) k (omega (arith, l)))

  lost_other : (n m : ℕ) (t : Bool) → (m ≡ n → ⊥) → frame_packets n (lost_by c m t) ≡ []
  lost_other n m true e = refl
  lost_other n m false e = rw (ne_eqb m n e) refl

  lost_here : (n m : ℕ) (t : Bool) → m ≡ n → frame_packets n (lost_by c m t) ≡ packets_of (lost_by c m t)
  lost_here n m true e = refl
  lost_here n m false e = rw (eq-eqb m n e) refl

  abbrev bodies_of : NumberedView → List Body
  bodies_of f = view_bodies c f.number f.view

  -- the packets of a frame among those of one that is there, and more
  pub parts_packets : (n from number : ℕ) (f : NumberedView) (rest : List Sent)
      → frame_packets n (stand_ins c from (f.number - from) ++ (own c number f ++ (lost c all f ++ rest)))
      ≡ frame_packets n (stand_ins c from (f.number - from))
      ++ (frame_packets n (own c number f) ++ (frame_packets n (lost c all f) ++ frame_packets n rest))
  parts_packets n from number f rest = simp packets_append

  -- none of a frame before the first
  pub ss_before : (n number from : ℕ) (fs : List NumberedView) → RisesFrom from fs → n < from
      → frame_packets n (sent_from c number (remade_bodies c fs)) ≡ []
  ss_before n number from [] r l = refl
  ss_before n number from (f ∷ fs) r l =
      let low = r.0 in
      rw (sent_append, packets_append n, own_other c n f.number number (bodies_of f) (λ e. omega (arith, e, low, l)))
      (ss_before n (number + length (frame_pairs c f)) (f.number + 1) fs r.1 (omega (arith, low, l)))

  pub full_before : (n from number : ℕ) (fs : List NumberedView) → RisesFrom from fs → n < from
      → frame_packets n (full c all from number fs) ≡ []
  full_before n from number [] r l = refl
  full_before n from number (f ∷ fs) r l =
      let low = r.0 in
      let rest : List Sent = full c all (f.number + 1) (number + length (frame_pairs c f)) fs in
      let other : f.number ≡ n → ⊥ = λ e. omega (arith, e, low, l) in
      parts_packets n from number f rest
      ∙ rw (
        stand_before n from (f.number - from) l,
        own_other c n f.number number (bodies_of f) other,
        lost_other n f.number (is_complete c all f) other,
      )
      (full_before n (f.number + 1) (number + length (frame_pairs c f)) fs r.1 (omega (arith, low, l)))

  here : (n from number : ℕ) (f : NumberedView) (fs : List NumberedView) → from ≤ f.number → RisesFrom (f.number + 1) fs
      → f.number ≡ n → Has c all n from number (f ∷ fs) f
  here n from number f fs low rises e =
      let j : ℕ = length (frame_pairs c f) in
      let later : List Sent = full c all (f.number + 1) (number + j) fs in
      let own_is : all_bodies (frame_packets n (own c number f)) ≡ bodies_of f =
      subst (λ (m : ℕ). all_bodies (frame_packets m (own c number f)) ≡ bodies_of f) e
      (own_here c f.number number (bodies_of f)) in
      let left : frame_packets n (sent_from c number (remade_bodies c (f ∷ fs))) ≡ frame_packets n (own c number f) =
      rw (
        sent_append,
        packets_append n,
        ss_before n (number + j) (f.number + 1) fs rises (omega (arith, e)),
        append-nil (frame_packets n (own c number f)),
      ) refl in
      let whole : frame_packets n (full c all from number (f ∷ fs)) ≡ frame_packets n (own c number f)
      ++ frame_packets n (lost c all f) =
      parts_packets n from number f later
      ∙ rw (
        stand_none n from (f.number - from) (omega (arith, low, e)),
        full_before n (f.number + 1) (number + j) fs rises (omega (arith, e)),
        append-nil (frame_packets n (lost c all f)),
      ) refl in
      record {
        number_is = e;
        found = cond-true _ _ _ (eq-eqb _ _ e);
        carried = ap all_bodies left ∙ own_is;
        more = whole ∙ ap₂ (λ (x y : List Packet). x ++ y) (sym left) (lost_here n f.number (is_complete c all f) e);
      }

  skip_left : (n number : ℕ) (f : NumberedView) (fs : List NumberedView) → (f.number ≡ n → ⊥)
      → frame_packets n (sent_from c number (remade_bodies c (f ∷ fs)))
      ≡ frame_packets n (sent_from c (number + length (frame_pairs c f)) (remade_bodies c fs))
  skip_left n number f fs ne = rw (sent_append, packets_append n, own_other c n f.number number (bodies_of f) ne) refl

  behind : (n from number : ℕ) (f : NumberedView) (fs : List NumberedView) → from ≤ f.number → (f.number ≡ n → ⊥)
      → f.number + 1 ≤ n → Look c all n (f.number + 1) (number + length (frame_pairs c f)) fs
      → Look c all n from number (f ∷ fs)
  behind n from number f fs low ne l (Found g h) =
      let j : ℕ = length (frame_pairs c f) in
      let later : List Sent = full c all (f.number + 1) (number + j) fs in
      let left = skip_left n number f fs ne in
      Found g (record {
        number_is = h.number_is;
        found = cond-false _ _ _ (ne_eqb _ _ ne) ∙ h.found;
        carried = ap all_bodies left ∙ h.carried;
        more =
            parts_packets n from number f later
            ∙ rw (
              stand_none n from (f.number - from) (omega (arith, l, low)),
              own_other c n f.number number (bodies_of f) ne,
              lost_other n f.number (is_complete c all f) ne,
            ) h.more
            ∙ ap (λ (x : List Packet). x ++ packets_of (lost c all g)) (sym left);
      })
  behind n from number f fs low ne l (Missing h) = Missing (record {
    none = cond-false _ _ _ (ne_eqb _ _ ne) ∙ h.none;
    gone = skip_left n number f fs ne ∙ h.gone;
  })

  pub at_before : (n from : ℕ) (fs : List NumberedView) → RisesFrom from fs → n < from → at n fs ≡ None
  at_before n from [] r l = refl
  at_before n from (f ∷ fs) r l =
      let low = r.0 in
      rw (ne_eqb f.number n (λ e. omega (arith, e, low, l)))
      (at_before n (f.number + 1) fs r.1 (omega (arith, low, l)))

  pub look : (n from number : ℕ) (fs : List NumberedView) → RisesFrom from fs → from ≤ n → Look c all n from number fs
  look n from number [] r l = Missing (record { none = refl; gone = refl })
  look n from number (f ∷ fs) r l = ⊎_elim
      (λ (e : f.number ≡ n). Found f (here n from number f fs r.0 r.1 e))
      (λ (e : f.number ≡ n → ⊥).
      ⊎_elim
      (λ (less : f.number < n).
      behind n from number f fs r.0 e (omega (arith, less))
      (look n (f.number + 1) (number + length (frame_pairs c f)) fs r.1 (omega (arith, less))))
      (λ (more : n ≤ f.number).
      Missing (record {
        none = at_before n f.number (f ∷ fs) (omega arith, r.1) (omega (arith, more, e));
        gone = ss_before n number f.number (f ∷ fs) (omega arith, r.1) (omega (arith, more, e));
      }))
      (cases_lt f.number n))
      (cases_eq f.number n)
