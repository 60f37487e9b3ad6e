-- The record of a frame that is whole: its group is the one of its number, and passes the tests.
use Rattle.std.proofs.Common.{◌≡◌, ℕ, ◌+◌, ◌-◌, ◌==◌, Bool, true, List, [], ◌∷◌, Option, Some, None, refl, ap}
use Rattle.std.proofs.Common.{ap₂, sym, subst, ◌∙◌}
use Rattle.std.specs.List.{AllByRecursion, position_or_len, range_with_len}
use Rattle.std.proofs.lemmas.Bool.{eqb-true, false≢true}
use Rattle.std.proofs.lemmas.List.Folds.{find_at}
use Rattle.std.proofs.lemmas.Option.{same_Some}
use Rattle.terms.proofs.CaseLemmas.{bool_cases}
use Rattle.terms.proofs.AllLemmas.{all_append, all_map}
use Rattle.terms.proofs.ListLemmas.{all_get}
use Rattle.terms.proofs.OptionLemmas.{none_some}
use Rattle.plp_config.specs.declared.config.Config.{Config}
use Rattle.t2mi_packet.specs.declared.packet.Packet.{Packet}
use Rattle.t2mi_stream.specs.Units.{accepted_of}
use Rattle.frame_groups.specs.Groups.{Group, groups}
use Rattle.frame_groups.specs.Modulated.{Content, FrameRecord, Numbered, content_of, gap_record, number_behind}
use Rattle.frame_groups.specs.Modulated.{past_with, past_behind, past_after, gaps_behind, own_record, records_with}
use Rattle.frame_groups.specs.Modulated.{records_from, modulated}
use Rattle.frame_groups.specs.Modulated.Content.{Whole, Muted}
use Rattle.frame_groups.specs.declared.cause.MuteCause.{MuteCause}
use Rattle.frame_groups.specs.Begun.{packets_at}
use Rattle.frame_groups.specs.Tests.{rules, packets_fault}
use Rattle.open_group.specs.Written.{content_view, packets_view}
use Rattle.modulator.specs.Modulating.{packets_of}
use Rattle.modulator.specs.StandsFor.{records_of}
use Rattle.feed_merge.specs.Groups.{groups_of}
use Rattle.feed_merge.proofs.GroupsLemmas.{own_at}
use Rattle.feed_merge.specs.Picks.{is_frame}
use Rattle.compare_run.specs.Comparing.{record_at}

-- The packets of a frame pass, behind some groups.
pub record Passing (c : Config) (n : ℕ) (packets : List Packet) : Type 0 where
  pub past : List Numbered
  pub pass : packets_fault c past n packets ≡ None

-- A group is the one of its number, and passes.
record Came (c : Config) (gs : List Numbered) (n : ℕ) (g : Group) : Type 0 where
  pub own : packets_at gs n ≡ g.packets
  pub passes : Passing c n g.packets

-- So is that of a record that is whole.
abbrev IsCome : Config → List Numbered → FrameRecord → Type 0
IsCome c gs x = (g : Group) → x.content ≡ Whole g → Came c gs x.number g

module _ (c : Config) where
  muted_comes : (gs : List Numbered) (n : ℕ) (cause : MuteCause)
      → IsCome c gs (record { number = n; content = Muted cause })
  muted_comes gs n cause g e = absurd (let z : Muted cause ≡ Whole g = e in cc)

  gaps_come : (gs past : List Numbered) (o : Option ℕ) → AllByRecursion (IsCome c gs) (gaps_behind past o)
  gaps_come gs [] o = tt
  gaps_come gs (b ∷ past) None = tt
  gaps_come gs (b ∷ past) (Some n) =
      all_map (IsCome c gs) gap_record (range_with_len (b.number + 1) (n - (b.number + 1))) (λ m. muted_comes gs m _)

  own_comes : (past : List Numbered) (h : Group) (hs : List Group) (o : Option ℕ)
      → AllByRecursion (IsCome c (past_after (rules c) (past_with past h o) hs)) (own_record (rules c) past h o)
  own_comes past h hs None = tt
  own_comes past h hs (Some n) = (go ((rules c).fault past h n) refl, tt)
    where
      gs : List Numbered
      gs = past_after (rules c) (record { number = n; group = h } ∷ past) hs

      go : (o : Option MuteCause) → (rules c).fault past h n ≡ o → (g : Group) → content_of h o ≡ Whole g
          → Came c gs n g
      go None none g e =
          let z : Whole h ≡ Whole g = e in
          let same : h ≡ g = cc in
          subst (Came c gs n) same
          (record {
            own = own_at (rules c) past h n true gs (record { group = h; rest = hs; are = refl; same = λ _. refl })
                refl;
            passes = record { past = past; pass = none };
          })
      go (Some cause) none g e = muted_comes gs n cause g e

  all_come : (past : List Numbered) (hs : List Group)
      → AllByRecursion (IsCome c (past_after (rules c) past hs)) (records_from (rules c) past hs)
  all_come past [] = tt
  all_come past (h ∷ hs) =
      let o : Option ℕ = number_behind (rules c) past h in
      let gs : List Numbered = past_after (rules c) past (h ∷ hs) in
      all_append (IsCome c gs) (records_with (rules c) past h) (records_from (rules c) (past_behind (rules c) past h)
      hs)
      (all_append (IsCome c gs) (gaps_behind past o) (own_record (rules c) past h o) (gaps_come gs past o)
      (own_comes past h hs o))
      (all_come (past_behind (rules c) past h) hs)

  records_come : (bytes : List ℕ) → AllByRecursion (IsCome c (groups_of c bytes)) (records_of c bytes)
  unfolding modulated
  records_come bytes = all_come [] (groups c.frames (packets_of (accepted_of c.pid bytes)))

-- ---- the record of a number

-- one that is found has the number
number_found : (n : ℕ) (xs : List FrameRecord) (x : FrameRecord) → record_at n xs ≡ Some x → x.number ≡ n
number_found n [] x e = none_some x e
number_found n (y ∷ xs) x e =
    bool_cases (y.number == n)
    (λ t. ap (λ (z : FrameRecord). z.number) (same_Some x y (sym (rw t at e))) ∙ eqb-true y.number n t)
    (λ f. number_found n xs x (rw f at e))

-- and what all have
pub found : (P : FrameRecord → Type 0) (n : ℕ) (xs : List FrameRecord) (x : FrameRecord) → AllByRecursion P xs
    → record_at n xs ≡ Some x → P x
found P n xs x h e =
    let has : FrameRecord → Bool = λ (y : FrameRecord). y.number == n in
    all_get P xs (position_or_len has xs) x h (sym (find_at has xs) ∙ e)

-- The record of frame n of a stream, which is whole: the packets of the group of its number pass, and make it.
pub record IsWhole (c : Config) (n : ℕ) (packets : List Packet) (x : FrameRecord) : Type 0 where
  pub number : x.number ≡ n
  pub view : content_view c x.number x.content ≡ packets_view c n packets
  pub passes : Passing c n packets

pub whole_record : (c : Config) (bytes : List ℕ) (n : ℕ) (x : FrameRecord) → record_at n (records_of c bytes) ≡ Some x
    → is_frame x.content ≡ true → IsWhole c n (packets_at (groups_of c bytes) n) x
whole_record c bytes n x e whole = go x.content refl whole
  where
    gs : List Numbered
    gs = groups_of c bytes

    number : x.number ≡ n
    number = number_found n (records_of c bytes) x e

    go : (s : Content) → x.content ≡ s → is_frame s ≡ true → IsWhole c n (packets_at gs n) x
    go (Whole g) is t =
        let came : Came c gs n g =
        subst (λ (k : ℕ). Came c gs k g) number
        (found (IsCome c gs) n (records_of c bytes) x (records_come c bytes) e g is) in
        record {
          number = number;
          view = ap₂ (content_view c) number is ∙ ap (packets_view c n) (sym came.own);
          passes = subst (Passing c n) (sym came.own) came.passes;
        }
    go (Muted cause) is t = absurd (false≢true t)
