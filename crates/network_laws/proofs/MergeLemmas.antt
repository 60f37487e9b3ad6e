-- The frames that are picked of two lists of records: a modulator wrote them, their numbers rise, and the first of them
-- begins a superframe; and what comes of them.
use Rattle.std.proofs.Common.{◌≡◌, ℕ, zero, suc, ◌+◌, ◌<◌, ◌==◌, ◌&&◌, Bool, true, false, List, [], ◌∷◌, ◌++◌, find}
use Rattle.std.proofs.Common.{Option, Some, None, refl, sym, subst, ◌∙◌, ⊎_elim, arith, true≢false, ◌⊎◌, inl, inr, ◌%◌}
use Rattle.std.proofs.Common.{◌≤◌, ap, cond, map}
use Rattle.std.specs.Prelude.{option_map, option_to_list, max}
use Rattle.std.specs.List.{flat_map, range_with_len, AllByRecursion}
use Rattle.std.specs.Option.{option_or}
use Rattle.std.proofs.lemmas.Bool.{and_parts, eqb-true, and_from, eq-eqb, ne_eqb, and_left, cases_lt}
use Rattle.std.proofs.lemmas.Option.{same_Some}
use Rattle.terms.proofs.OptionLemmas.{none_some}
use Rattle.plp_config.specs.declared.config.Config.{Config}
use Rattle.plp_config.specs.declared.moment.TheConstants.{MOST_FRAMES}
use Rattle.frame_groups.specs.Groups.{Group, groups}
use Rattle.frame_groups.specs.Modulated.{Content, FrameRecord, past_after, content_of, gaps_behind, own_record}
use Rattle.frame_groups.specs.Modulated.{join_number, passing, unless_fault, past_with, records_from, modulated}
use Rattle.frame_groups.specs.Modulated.Content.{Whole, Muted}
use Rattle.frame_groups.specs.Tests.{rules, group_fault, named_frame}
use Rattle.open_group.specs.Written.{content_view}
use Rattle.modulator.specs.Laws.{IsRight, DueFollow, DuePass}
use Rattle.stream_laws.specs.Carrying.{IsWritten}
use Rattle.stream_laws.specs.Remade.{RiseFrom, Rise, NumberedView, remade_packets, AreSpaced}
use Rattle.stream_laws.specs.Coming.{IsWrittenFrame, RemadeComesBack, RemadeArrives}
use Rattle.feed_merge.specs.declared.seen.Feed.{Feed}
use Rattle.feed_merge.specs.Picks.{is_frame, Picked, frame_from, frames_of, pick_of, picks, above_all}
use Rattle.network_laws.specs.Merged.{AreNumbered, merged, must_come, MergedComesBack}
use Rattle.plp_config.specs.Capacity.{IsPlan}
use Rattle.t2mi_stream.specs.Units.{accepted_of}
use Rattle.frame_groups.specs.Laws.{AreFrom}
use Rattle.frame_groups.specs.declared.cause.MuteCause.{MuteCause}
use Rattle.frame_groups.specs.declared.key.Key.{Key}
use Rattle.frame_groups.specs.TestLaws.{FrameNamed}
use Rattle.modulator.specs.Modulating.{packets_of}
use Rattle.modulator.specs.StandsFor.{records_due}
use Rattle.std.proofs.Math.Nat.{mod-eq_of_lt}
use Rattle.plp_config.specs.Rules.Rule.{SuperframeLength}
use Rattle.ts_packet.specs.TsFile.{joined}
use Rattle.t2mi_stream.specs.Pipe.{pipe}
use Rattle.record_laws.specs.Frames.{HasByteIds}
use Rattle.feed_merge.specs.declared.seen.Feed.TheVariants.{A, B}
use Rattle.network_laws.proofs.FeedEventLemmas.{found}

-- A frame that is picked has this number, and a modulator wrote it.
pub record IsPick (c : Config) (n : ℕ) (p : Picked) : Type 0 where
  pub number : p.frame.number ≡ n
  pub written : IsWrittenFrame c p.frame

-- one feed
module _ (c : Config) (gs : List Group) where
  content_written : (x : FrameRecord) → IsRight c gs x → (content : Content) → x.content ≡ content
      → is_frame content ≡ true → IsWritten c x.number (content_view c x.number content)
  content_written x right (Whole g) e t =
      let among = right g e in
      record {
        packets = g.packets;
        past = past_after (rules c) [] among.before;
        pass = among.none;
        is = refl;
      }
  content_written x right (Muted cause) e t = absurd (true≢false (sym t))

  record_written : (n : ℕ) (x : FrameRecord) → IsRight c gs x → x.number ≡ n → is_frame x.content ≡ true
      → IsWritten c n (content_view c n x.content)
  record_written n x right e t =
      rw (← e) (content_written x right x.content refl t)

  pub from_feed : (feed : Feed) (n : ℕ) (xs : List FrameRecord) → AllByRecursion (IsRight c gs) xs → AreNumbered xs
      → (p : Picked) → frame_from c feed n xs ≡ Some p → IsPick c n p
  from_feed feed n xs right small p e = go (find (λ x. (x.number == n) && is_frame x.content) xs) refl e
    where
      one : (x : FrameRecord) → find (λ x. (x.number == n) && is_frame x.content) xs ≡ Some x
          → IsPick c n (record { feed = feed; frame = record { number = n; view = content_view c n x.content } })
      one x is =
          let a = found (IsRight c gs) (λ x. (x.number == n) && is_frame x.content) xs x right is in
          let b = found (λ x. x.number < MOST_FRAMES) (λ x. (x.number == n) && is_frame x.content) xs x small is in
          let parts = and_parts (x.number == n) (is_frame x.content) a.1 in
          let same : x.number ≡ n = eqb-true x.number n parts.0 in
          record { number = refl; written = (record_written n x a.0 same parts.1, omega arith) }

      go : (o : Option FrameRecord) → find (λ x. (x.number == n) && is_frame x.content) xs ≡ o
          → option_map (λ (x : FrameRecord). record {
            feed = feed;
            frame =
                record { number = n; view = content_view c n x.content };
          }) o
          ≡ Some p
          → IsPick c n p
      go None is f = none_some p f
      go (Some x) is f = rw (← (same_Some _ p f)) (one x is)

pub either_pick : (c : Config) (n : ℕ) (a b : Option Picked) (p : Picked) → ((p : Picked) → a ≡ Some p → IsPick c n p)
    → ((p : Picked) → b ≡ Some p → IsPick c n p) → option_or a b ≡ Some p → IsPick c n p
either_pick c n None b p f g e = g p e
either_pick c n (Some q) b p f g e = f p e

-- ---- the frames of a range of numbers

one_written : (c : Config) (o : Option Picked) (rest : List Picked) → ((p : Picked) → o ≡ Some p
    → IsWrittenFrame c p.frame)
    → AllByRecursion (IsWrittenFrame c) (frames_of rest) → AllByRecursion (IsWrittenFrame c)
    (frames_of (option_to_list o ++ rest))
one_written c None rest f h = h
one_written c (Some p) rest f h = (f p refl, h)

one_rises : (m a : ℕ) (o : Option Picked) (rest : List Picked) → m < a → ((p : Picked) → o ≡ Some p
    → p.frame.number ≡ a)
    → ((j : ℕ) → j < a + 1 → RiseFrom j (frames_of rest)) → RiseFrom m (frames_of (option_to_list o ++ rest))
one_rises m a None rest l f h = h m (omega arith)
one_rises m a (Some p) rest l f h = (omega (arith, f p refl), h p.frame.number (omega (arith, f p refl)))

first_rises : (a : ℕ) (o : Option Picked) (rest : List Picked) → ((p : Picked) → o ≡ Some p → p.frame.number ≡ a)
    → ((j : ℕ) → j < a + 1 → RiseFrom j (frames_of rest)) → Rise (frames_of rest)
    → Rise (frames_of (option_to_list o ++ rest))
first_rises a None rest f h r = r
first_rises a (Some p) rest f h r = h p.frame.number (omega (arith, f p refl))

module _ (c : Config) (pick : ℕ → Option Picked) (is : (n : ℕ) (p : Picked) → pick n ≡ Some p → IsPick c n p) where
  abbrev pub picked_from : ℕ → ℕ → List Picked
  picked_from a k = flat_map (λ n. option_to_list (pick n)) (range_with_len a k)

  pub all_written : (k a : ℕ) → AllByRecursion (IsWrittenFrame c) (frames_of (picked_from a k))
  all_written zero a = tt
  all_written (suc k) a =
      one_written c (pick a) (picked_from (a + 1) k) (λ p e. (is a p e).written) (all_written k (a + 1))

  rises_from : (k a m : ℕ) → m < a → RiseFrom m (frames_of (picked_from a k))
  rises_from zero a m l = tt
  rises_from (suc k) a m l =
      one_rises m a (pick a) (picked_from (a + 1) k) l (λ p e. (is a p e).number)
      (λ j below. rises_from k (a + 1) j below)

  pub all_rise : (k a : ℕ) → Rise (frames_of (picked_from a k))
  all_rise zero a = tt
  all_rise (suc k) a =
      first_rises a (pick a) (picked_from (a + 1) k) (λ p e. (is a p e).number)
      (λ j below. rises_from k (a + 1) j below) (all_rise k (a + 1))

-- ---- the join

-- A group is the join, with this number.
record IsJoin (c : Config) (g : Group) (n : ℕ) : Type 0 where
  idx : g.key.frame ≡ 0
  named : named_frame c g ≡ Some n
  passes : group_fault c [] g n ≡ None

passing_is : (c : Config) (g : Group) (n m : ℕ) (o : Option MuteCause) → group_fault c [] g m ≡ o
    → unless_fault m o ≡ Some n → named_frame c g ≡ Some m → g.key.frame ≡ 0 → IsJoin c g n
passing_is c g n m None is e named idx =
    let same : m ≡ n = same_Some m n e in
    rw (← same) (record { idx = idx; named = named; passes = is })
passing_is c g n m (Some cause) is e named idx = none_some n e

named_is : (c : Config) (g : Group) (n : ℕ) (o : Option ℕ) → named_frame c g ≡ o → passing (rules c) g o ≡ Some n
    → g.key.frame ≡ 0 → IsJoin c g n
named_is c g n None is e idx = none_some n e
named_is c g n (Some m) is e idx = passing_is c g n m (group_fault c [] g m) refl e is idx

join_is : (c : Config) (g : Group) (n : ℕ) → join_number (rules c) g ≡ Some n → IsJoin c g n
join_is c g n e = go (g.key.frame == 0) refl e
  where
    go : (t : Bool) → (g.key.frame == 0) ≡ t → cond {A = Option ℕ} t (passing (rules c) g (named_frame c g))
        None ≡ Some n
        → IsJoin c g n
    go true is f = named_is c g n (named_frame c g) refl f (eqb-true g.key.frame 0 is)
    go false is f = none_some n f

-- Records begin with a frame that begins a superframe, or there are none.
pub record BeginsWell (c : Config) (xs : List FrameRecord) : Type 0 where
  pub first : FrameRecord
  pub rest : List FrameRecord
  pub are : xs ≡ first ∷ rest
  pub there : is_frame first.content ≡ true
  pub idx : first.number % c.frames ≡ 0

abbrev pub Starts : Config → List FrameRecord → Type 0
Starts c xs = (xs ≡ []) ⊎ BeginsWell c xs

whole_content : (g : Group) (o : Option MuteCause) → o ≡ None → is_frame (content_of g o) ≡ true
whole_content g o e = ap (λ (o : Option MuteCause). is_frame (content_of g o)) e

group_starts : FrameNamed → (c : Config) → IsPlan c → (g : Group) (gs : List Group) (o : Option ℕ)
    → join_number (rules c) g ≡ o → Starts c (records_from (rules c) [] gs)
    → Starts c ((gaps_behind [] o ++ own_record (rules c) [] g o) ++ records_from (rules c) (past_with [] g o) gs)
group_starts named c plan g gs None e more = more
group_starts named c plan g gs (Some n) e more =
    let join = join_is c g n e in
    let key = ap (λ (k : Key). k.frame) ((named c g n plan.rules).0 join.named).key in
    let idx = join.idx in
    inr (record {
      first = record { number = n; content = content_of g (group_fault c [] g n) };
      rest = records_from (rules c) (past_with [] g (Some n)) gs;
      are = refl;
      there = whole_content g (group_fault c [] g n) join.passes;
      idx = key ∙ idx;
    })

starts : FrameNamed → (c : Config) → IsPlan c → (gs : List Group) → Starts c (records_from (rules c) [] gs)
starts named c plan [] = inl refl
starts named c plan (g ∷ gs) = group_starts named c plan g gs (join_number (rules c) g) refl (starts named c plan gs)

pub due_starts : FrameNamed → (c : Config) → IsPlan c → (bytes : List ℕ) → Starts c (records_due c true bytes)
unfolding modulated
due_starts named c plan bytes = starts named c plan (groups c.frames (packets_of (accepted_of c.pid bytes)))

-- ---- the frames of one feed, by their numbers

-- A feed has its first frame at a number that begins a superframe.
pub record BeginsAt (c : Config) (from : ℕ → Option Picked) : Type 0 where
  pub place : ℕ
  pub pick : Picked
  pub there : from place ≡ Some pick
  pub number : pick.frame.number ≡ place
  pub none : (n : ℕ) → n < place → from n ≡ None
  pub idx : place % c.frames ≡ 0

abbrev pub Begins : Config → (ℕ → Option Picked) → Type 0
Begins c from = ((n : ℕ) → from n ≡ None) ⊎ BeginsAt c from

above : (m n : ℕ) (xs : List FrameRecord) → m ≤ n → AreFrom n xs → AllByRecursion (λ x. m ≤ x.number) xs
above m n [] l h = tt
above m n (x ∷ xs) l h = (omega arith, above m (n + 1) xs (omega arith) h.1)

none_found : (n m : ℕ) (xs : List FrameRecord) → n < m → AllByRecursion (λ x. m ≤ x.number) xs
    → find (λ (x : FrameRecord). (x.number == n) && is_frame x.content) xs ≡ None
none_found n m [] l h = refl
none_found n m (x ∷ xs) l h =
    rw (and_left (x.number == n) (is_frame x.content) (ne_eqb x.number n (λ e. omega arith)), none_found n m xs l h.1)

abbrev picked_as : Config → Feed → ℕ → FrameRecord → Picked
picked_as c feed n x = record { feed = feed; frame = record { number = n; view = content_view c n x.content } }

feed_begins_with : (c : Config) (feed : Feed) (first : FrameRecord) (rest : List FrameRecord)
    → is_frame first.content ≡ true → first.number % c.frames ≡ 0 → (n : ℕ) → AreFrom n (first ∷ rest)
    → BeginsAt c (λ m. frame_from c feed m (first ∷ rest))
feed_begins_with c feed first rest whole idx n h =
    let k : ℕ = first.number in
    record {
      place = k;
      pick = picked_as c feed k first;
      there = rw (and_from (k == k) (is_frame first.content) (eq-eqb k k refl) whole);
      number = refl;
      none = λ m l. ap (option_map (picked_as c feed m))
          (none_found m k (first ∷ rest) l (above k n (first ∷ rest) (omega arith) h));
      idx = idx;
    }

pub feed_begins : (c : Config) (feed : Feed) (xs : List FrameRecord) → Starts c xs → (n : ℕ) → AreFrom n xs
    → Begins c (λ m. frame_from c feed m xs)
feed_begins c feed xs s n h = ⊎_elim
    (λ (e : xs ≡ []). inl (λ m. ap (frame_from c feed m) e))
    (λ (b : BeginsWell c xs).
    inr (rw b.are (feed_begins_with c feed b.first b.rest b.there b.idx n (subst (AreFrom n) b.are h)))) s

-- ---- the frames of two

module _ (c : Config) (from other : ℕ → Option Picked) where
  abbrev pub either : ℕ → Option Picked
  either n = option_or (from n) (other n)

  by_first : (x : BeginsAt c from) → ((n : ℕ) → n < x.place → other n ≡ None) → BeginsAt c either
  by_first x none = record {
    place = x.place;
    pick = x.pick;
    there = rw x.there refl;
    number = x.number;
    none = λ n l. rw (x.none n l) (none n l);
    idx = x.idx;
  }

  by_second : (x : BeginsAt c other) → ((n : ℕ) → n ≤ x.place → from n ≡ None) → BeginsAt c either
  by_second x none = record {
    place = x.place;
    pick = x.pick;
    there = rw (none x.place (omega arith)) x.there;
    number = x.number;
    none = λ n l. rw (none n (omega arith)) (x.none n l);
    idx = x.idx;
  }

  both_begin : (x : BeginsAt c from) (y : BeginsAt c other) → BeginsAt c either
  both_begin x y = ⊎_elim
      (λ (l : y.place < x.place). by_second y (λ n m. x.none n (omega arith)))
      (λ (l : x.place ≤ y.place). by_first x (λ n m. y.none n (omega arith))) (cases_lt y.place x.place)

  pub either_begins : Begins c from → Begins c other → Begins c either
  either_begins a b = ⊎_elim
      (λ (none : (n : ℕ) → from n ≡ None).
      ⊎_elim
      (λ (also : (n : ℕ) → other n ≡ None). inl (λ n. rw (none n) (also n)))
      (λ (y : BeginsAt c other). inr (by_second y (λ n l. none n))) b)
      (λ (x : BeginsAt c from).
      ⊎_elim
      (λ (also : (n : ℕ) → other n ≡ None). inr (by_first x (λ n l. also n)))
      (λ (y : BeginsAt c other). inr (both_begin x y)) b) a

-- the number of the first frame
abbrev pub first_number : List NumberedView → ℕ
first_number [] = 0
first_number (f ∷ fs) = f.number

none_first : (n : ℕ) → 0 < n → 0 % n ≡ 0
none_first n l = mod-eq_of_lt l

module _ (c : Config) (some : 0 < c.frames) (pick : ℕ → Option Picked)
    (is : (n : ℕ) (p : Picked) → pick n ≡ Some p → IsPick c n p) where
  abbrev Well : ℕ → ℕ → Type 0
  Well a k = first_number (frames_of (picked_from c pick is a k)) % c.frames ≡ 0

  nothing : ((n : ℕ) → pick n ≡ None) → (k a : ℕ) → Well a k
  nothing none zero a = none_first c.frames some
  nothing none (suc k) a =
      rw (none a) (nothing none k (a + 1))

  from_first : (x : BeginsAt c pick) → (k a : ℕ) → a ≤ x.place → Well a k
  from_first x zero a l = none_first c.frames some
  from_first x (suc k) a l = ⊎_elim
      (λ (less : a < x.place). rw (x.none a less) (from_first x k (a + 1) (omega arith)))
      (λ (more : x.place ≤ a).
      let same : x.place ≡ a = omega arith in
      let there : pick a ≡ Some x.pick = rw (← same) x.there in
      rw (there, x.number) x.idx) (cases_lt a x.place)

  pub begins_well : Begins c pick → (k : ℕ) → Well 0 k
  begins_well b k = ⊎_elim
      (λ (none : (n : ℕ) → pick n ≡ None). nothing none k 0)
      (λ (x : BeginsAt c pick). from_first x k 0 (omega arith)) b

none_come : (c : Config) → modulated (rules c) [] ≡ []
unfolding modulated groups
none_come c = refl

-- what comes of any frames that are such
pub comes : RemadeComesBack → RemadeArrives → (c : Config) → IsPlan c → HasByteIds c → (frames : List NumberedView)
    → AllByRecursion (IsWrittenFrame c) frames → Rise frames → AreSpaced c frames → first_number frames % c.frames ≡ 0
    → map (λ (x : FrameRecord). content_view c x.number x.content)
    (records_due c true (joined (pipe c.pid (remade_packets c frames))))
    ≡ must_come c frames
comes back arrive c plan ids [] written rise spaced begins =
    ap (map (λ (x : FrameRecord). content_view c x.number x.content)) (arrive c [] plan ids written ∙ none_come c)
comes back arrive c plan ids (f ∷ fs) written rise spaced begins =
    rw (arrive c (f ∷ fs) plan ids written, back c f fs plan written rise spaced begins)

pub merged_comes_back : DueFollow → DuePass → FrameNamed → RemadeArrives → RemadeComesBack → MergedComesBack
unfolding picks
merged_comes_back follow pass named arrive back c a b plan ids first second spaced =
    let r : (2 ≤ c.frames) × (c.frames ≤ 255) = plan.rules SuperframeLength in
    let ra : List FrameRecord = records_due c true a in
    let rb : List FrameRecord = records_due c true b in
    let end : ℕ = max (above_all ra) (above_all rb) in
    let is : (n : ℕ) (p : Picked) → pick_of c ra rb n ≡ Some p → IsPick c n p =
    λ n p e. either_pick c n (frame_from c A n ra) (frame_from c B n rb) p
    (λ q. from_feed c (groups c.frames (packets_of (accepted_of c.pid a))) A n ra (pass c true a) first q)
    (λ q. from_feed c (groups c.frames (packets_of (accepted_of c.pid b))) B n rb (pass c true b) second q) e in
    let one = follow c true a in
    let two = follow c true b in
    let begins : Begins c (pick_of c ra rb) =
    either_begins c (λ n. frame_from c A n ra) (λ n. frame_from c B n rb)
    (feed_begins c A ra (due_starts named c plan a) one.0 one.1) (feed_begins c B rb (due_starts named c plan b)
    two.0 two.1) in
    comes back arrive c plan ids (merged c a b) (all_written c (pick_of c ra rb) is end 0)
    (all_rise c (pick_of c ra rb) is end 0) spaced (begins_well c (omega arith) (pick_of c ra rb) is begins end)
