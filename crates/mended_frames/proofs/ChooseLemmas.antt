-- The first feed that has a frame whole.
use Rattle.std.proofs.Common.{◌≡◌, ◌≤◌, ℕ, suc, ◌+◌, ◌&&◌, Bool, true, false, List, [], ◌∷◌, length, drop, Some, None}
use Rattle.std.proofs.Common.{◌++◌, refl, ap, sym, subst, ◌∙◌, arith, append_assoc, append-nil}
use Rattle.std.specs.Prelude.{find, slice_get}
use Rattle.std.proofs.lemmas.Bool.{cond-true, cond-false}
use Rattle.std.proofs.lemmas.List.{drop_all}
use Rattle.terms.proofs.ListLemmas.{drop_some}
use Rattle.plp_config.specs.declared.config.Config.{Config}
use Rattle.frame_groups.specs.Groups.{Group}
use Rattle.frame_groups.specs.Modulated.{Numbered}
use Rattle.feed_events.specs.StandsFor.{head_of, group_of}
use Rattle.frame_weave.specs.Holds.{HoldsMarked}
use Rattle.frame_groups.specs.Sequenced.{IsAbove}
use Rattle.open_group.specs.HoldsPast.{HoldsPast}
use Rattle.open_group.specs.declared.past.HeldPast.{HeldPast}
use Rattle.mended_frames.specs.Choosing.{Chooses}
use Rattle.mended_frames.specs.Mended.{passes}
use Rattle.mended_frames.specs.StandsFor.{Feed, pooled_of, is_at, HasIf, HaveGroups}

-- what is left of the groups behind some feeds, of which none passes
pub record Left (c : Config) (before : List Numbered) (n : ℕ) (feeds : List Feed) (gs : List Group) (i : ℕ) :
    Type 0 where
  pub rest : List Group
  pub have : HaveGroups n (drop i feeds) rest
  pub same : find (passes c before n) gs ≡ find (passes c before n) rest

pub left_first : (c : Config) (before : List Numbered) (n : ℕ) (feeds : List Feed) (gs : List Group)
    → HaveGroups n feeds gs
    → Left c before n feeds gs 0
left_first c before n feeds gs h = record { rest = gs; have = h; same = refl }

-- what a feed tells of its own group
abbrev pub Tells : Config → List Numbered → ℕ → Feed → Bool → Type 0
Tells c before n f t = (own : List Numbered) (h : Group) → HoldsMarked (group_of f) own (Some h)
    → t ≡ (is_at n (head_of f) && passes c before n h)

at_feed : (n : ℕ) (feeds : List Feed) (rest : List Group) (i : ℕ) (f : Feed) → slice_get feeds i ≡ Some f
    → HaveGroups n (drop i feeds) rest → HasIf (is_at n (head_of f)) f (HaveGroups n (drop (suc i) feeds)) rest
at_feed n feeds rest i f e h = subst (λ (l : List Feed). HaveGroups n l rest)
    (drop_some feeds i f e ∙ ap (λ (k : ℕ). f ∷ drop k feeds) (let next : i + 1 ≡ suc i = omega arith in next)) h

pub left_more : (c : Config) (before : List Numbered) (n : ℕ) (feeds : List Feed) (gs : List Group) (i : ℕ) (f : Feed)
    → slice_get feeds i ≡ Some f → Tells c before n f false → Left c before n feeds gs i
    → Left c before n feeds gs (i + 1)
left_more c before n feeds gs i f e tells l =
    subst (λ (j : ℕ). Left c before n feeds gs j) (omega arith) (go (is_at n (head_of f)) refl
    (at_feed n feeds l.rest i f e l.have))
  where
    go : (t : Bool) → is_at n (head_of f) ≡ t → HasIf t f (HaveGroups n (drop (suc i) feeds)) l.rest
        → Left c before n feeds gs (suc i)
    go true is h =
        let no : passes c before n h.group ≡ false =
        sym (tells h.own h.group h.holds ∙ ap (λ (t : Bool). t && passes c before n h.group) is) in
        record {
          rest = h.more;
          have = h.others;
          same =
              l.same
              ∙ ap (find (passes c before n)) h.are
              ∙ cond-false (passes c before n h.group) (Some h.group) (find (passes c before n) h.more) no;
        }
    go false is h = record { rest = l.rest; have = h; same = l.same }

pub chosen : (c : Config) (before : List Numbered) (n : ℕ) (feeds : List Feed) (gs : List Group) (i : ℕ) (f : Feed)
    → slice_get feeds i ≡ Some f → Tells c before n f true → is_at n (head_of f) ≡ true
    → Left c before n feeds gs i → Chooses c before n feeds gs i
chosen c before n feeds gs i f e tells there l =
    let h = subst (λ (t : Bool). HasIf t f (HaveGroups n (drop (suc i) feeds)) l.rest) there
    (at_feed n feeds l.rest i f e l.have) in
    let yes : passes c before n h.group ≡ true =
    sym (tells h.own h.group h.holds ∙ ap (λ (t : Bool). t && passes c before n h.group) there) in
    record {
      feed = f;
      is = e;
      group = h.group;
      own = h.own;
      holds = h.holds.group;
      first =
          l.same
          ∙ ap (find (passes c before n)) h.are
          ∙ cond-true (passes c before n h.group) (Some h.group) (find (passes c before n) h.more) yes;
    }

pub none_left : (c : Config) (before : List Numbered) (n : ℕ) (feeds : List Feed) (gs : List Group) (i : ℕ)
    → length feeds ≤ i
    → Left c before n feeds gs i → find (passes c before n) gs ≡ None
none_left c before n feeds gs i over l =
    l.same ∙ ap (find (passes c before n)) (subst (λ (x : List Feed). HaveGroups n x l.rest) (drop_all i feeds over)
    l.have)

-- what is told of a feed of the network
pub tells_by : (c : Config) (before : List Numbered) (n : ℕ) (f : Feed) (held : HeldPast) (t : Bool)
    → (pooled_of f).network ≡ c
    → ((own : List Numbered) (h : Group) → HoldsMarked (group_of f) own (Some h)
    → HoldsPast (pooled_of f).network held before
    → IsAbove before n → t ≡ (is_at n (head_of f) && passes (pooled_of f).network before n h))
    → HoldsPast c held before → IsAbove before n → Tells c before n f t
tells_by c before n f held t network told past above = λ own h holds.
    told own h holds (subst (λ (k : Config). HoldsPast k held before) (sym network) past) above
    ∙ ap (λ (k : Config). is_at n (head_of f) && passes k before n h) network

-- ---- some feeds after others

-- some groups were seen, and the others are in the feeds behind
pub record Split (n : ℕ) (feeds : List Feed) (gs : List Group) (i : ℕ) (P : List Group → Type 0) : Type 0 where
  pub seen : List Group
  pub rest : List Group
  pub are : gs ≡ seen ++ rest
  pub have : HaveGroups n (drop i feeds) rest
  pub holds : P seen

pub split_first : (n : ℕ) (feeds : List Feed) (gs : List Group) (P : List Group → Type 0) → HaveGroups n feeds gs → P []
    → Split n feeds gs 0 P
split_first n feeds gs P h p = record { seen = []; rest = gs; are = refl; have = h; holds = p }

pub split_past : (n : ℕ) (feeds : List Feed) (gs : List Group) (P Q : List Group → Type 0) (i : ℕ) (f : Feed)
    → slice_get feeds i ≡ Some f → is_at n (head_of f) ≡ false → ((seen : List Group) → P seen → Q seen)
    → Split n feeds gs i P
    → Split n feeds gs (i + 1) Q
split_past n feeds gs P Q i f e off keeps s =
    let next : suc i ≡ i + 1 = omega arith in
    subst (λ (j : ℕ). Split n feeds gs j Q) next (record {
      seen = s.seen;
      rest = s.rest;
      are = s.are;
      have = subst (λ (t : Bool). HasIf t f (HaveGroups n (drop (suc i) feeds)) s.rest) off
          (at_feed n feeds s.rest i f e s.have);
      holds = keeps s.seen s.holds;
    })

pub split_with : (n : ℕ) (feeds : List Feed) (gs : List Group) (P Q : List Group → Type 0) (i : ℕ) (f : Feed)
    → slice_get feeds i ≡ Some f → is_at n (head_of f) ≡ true
    → ((own : List Numbered) (h : Group) (seen : List Group) → HoldsMarked (group_of f) own (Some h)
    → P seen → Q (seen ++ h ∷ []))
    → Split n feeds gs i P → Split n feeds gs (i + 1) Q
split_with n feeds gs P Q i f e on takes s =
    let h = subst (λ (t : Bool). HasIf t f (HaveGroups n (drop (suc i) feeds)) s.rest) on
    (at_feed n feeds s.rest i f e s.have) in
    let next : suc i ≡ i + 1 = omega arith in
    subst (λ (j : ℕ). Split n feeds gs j Q) next (record {
      seen = s.seen ++ h.group ∷ [];
      rest = h.more;
      are = s.are ∙ ap (λ (l : List Group). s.seen ++ l) h.are ∙ sym (append_assoc s.seen (h.group ∷ []) h.more);
      have = h.others;
      holds = takes h.own h.group s.seen h.holds s.holds;
    })

pub split_last : (n : ℕ) (feeds : List Feed) (gs : List Group) (P : List Group → Type 0) (i : ℕ) → length feeds ≤ i
    → Split n feeds gs i P → P gs
split_last n feeds gs P i over s =
    let none : s.rest ≡ [] = subst (λ (x : List Feed). HaveGroups n x s.rest) (drop_all i feeds over) s.have in
    subst P (sym (s.are ∙ ap (λ (l : List Group). s.seen ++ l) none ∙ append-nil s.seen)) s.holds
