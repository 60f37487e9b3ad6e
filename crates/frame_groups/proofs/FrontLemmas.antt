-- What follows changes no record but the last.
use Rattle.std.proofs.Common.{◌≡◌, ℕ, Bool, true, false, cond, List, [], ◌∷◌, ◌++◌, Option, Some, None, refl, ap, sym}
use Rattle.std.proofs.Common.{subst, ◌∙◌, append_assoc, append-nil}
use Rattle.std.specs.List.{filter}
use Rattle.std.proofs.lemmas.List.Elements.{filter-append}
use Rattle.std.proofs.lemmas.Bool.{true≢false}
use Rattle.t2mi_packet.specs.declared.packet.Packet.{Packet}
use Rattle.frame_groups.specs.Groups.{is_counted, is_same, Group, key_behind, groups}
use Rattle.frame_groups.specs.Grouping.{Grouped, one_packet, one_more, grouped_from, no_groups, grouped, all_groups}
use Rattle.frame_groups.specs.declared.key.Key.{Key}
use Rattle.frame_groups.specs.Modulated.{Numbered, Rules, FrameRecord, past_with, past_behind, past_after, join_number}
use Rattle.frame_groups.specs.Modulated.{gaps_behind, gaps_between, own_record, group_record, records_with}
use Rattle.frame_groups.specs.Modulated.{records_from, modulated}
use Rattle.frame_groups.specs.Numbers.{next_number}
use Rattle.frame_groups.specs.Laws.{without_last}
use Rattle.terms.specs.Lists.{IsPrefix}
use Rattle.frame_groups.proofs.GroupLemmas.{grouped_append}
use Rattle.frame_groups.proofs.RunLemmas.{grown}

-- more packets leave the closed groups, and the key of the last one
pub record GoesOn (closed : List Group) (h : Group) (all : List Group) : Type 0 where
  pub group : Group
  pub more : List Group
  pub all_are : all ≡ closed ++ group ∷ more
  pub key : group.key ≡ h.key

pub goes_on : (qs : List Packet) (closed : List Group) (h : Group)
    → GoesOn closed h (all_groups (grouped_from (record { closed = closed; under_way = Some h }) qs))
goes_on [] closed h = record { group = h; more = []; all_are = refl; key = refl }
goes_on (p ∷ qs) closed h = go (λ closed h. goes_on qs closed h) (is_same h.key (key_behind (Some h.key) p))
  where
    go : ((closed : List Group) (h : Group)
        → GoesOn closed h (all_groups (grouped_from (record { closed = closed; under_way = Some h }) qs)))
        → (t : Bool)
        → GoesOn closed h
        (all_groups
        (grouped_from
        (cond t (record { closed = closed; under_way = Some (one_more h p) })
        (record { closed = closed ++ h ∷ []; under_way = Some (one_packet (key_behind (Some h.key) p) p) })) qs))
    go rest true = let r = rest closed (one_more h p) in
        record { group = r.group; more = r.more; all_are = r.all_are; key = r.key }
    go rest false =
        let r = rest (closed ++ h ∷ []) (one_packet (key_behind (Some h.key) p) p) in
        record {
          group = h;
          more = r.group ∷ r.more;
          all_are = r.all_are ∙ append_assoc closed (h ∷ []) (r.group ∷ r.more);
          key = refl;
        }

-- after a packet there is a last group
pub record HasLast (g : Grouped) : Type 0 where
  pub closed : List Group
  pub last : Group
  pub is : g ≡ record { closed = closed; under_way = Some last }

pub has_last : (qs : List Packet) (closed : List Group) (h : Group)
    → HasLast (grouped_from (record { closed = closed; under_way = Some h }) qs)
has_last [] closed h = record { closed = closed; last = h; is = refl }
has_last (p ∷ qs) closed h = go (λ closed h. has_last qs closed h) (is_same h.key (key_behind (Some h.key) p))
  where
    go : ((closed : List Group) (h : Group)
        → HasLast (grouped_from (record { closed = closed; under_way = Some h }) qs))
        → (t : Bool)
        → HasLast
        (grouped_from
        (cond t (record { closed = closed; under_way = Some (one_more h p) })
        (record { closed = closed ++ h ∷ []; under_way = Some (one_packet (key_behind (Some h.key) p) p) })) qs)
    go rest true = rest closed (one_more h p)
    go rest false = rest (closed ++ h ∷ []) (one_packet (key_behind (Some h.key) p) p)

pub records_append : (r : Rules) (past : List Numbered) (gs hs : List Group) → records_from r past (gs ++ hs)
    ≡ records_from r past gs ++ records_from r (past_after r past gs) hs
records_append r past [] hs = refl
records_append r past (g ∷ gs) hs =
    ap (λ (l : List FrameRecord). records_with r past g ++ l) (records_append r (past_behind r past g) gs hs)
    ∙ sym (append_assoc (records_with r past g) (records_from r (past_behind r past g) gs) _)

abbrev has_some : List Numbered → Bool
has_some [] = false
has_some (b ∷ past) = true

-- once joined, there is a group with a number
stays_joined : (r : Rules) (gs : List Group) (b : Numbered) (past : List Numbered)
    → has_some (past_after r (b ∷ past) gs) ≡ true
stays_joined r [] b past = refl
stays_joined r (g ∷ gs) b past = stays_joined r gs _ (b ∷ past)

-- before the join there are no records
pub none_before : (r : Rules) (gs : List Group) → past_after r [] gs ≡ [] → records_from r [] gs ≡ []
none_before r [] e = refl
none_before r (g ∷ gs) e = go (λ e. none_before r gs e) (join_number r g) e
  where
    go : (past_after r [] gs ≡ [] → records_from r [] gs ≡ []) → (o : Option ℕ)
        → past_after r (past_with [] g o) gs ≡ []
        → (gaps_behind [] o ++ own_record r [] g o) ++ records_from r (past_with [] g o) gs ≡ []
    go rest None e = rest e
    go rest (Some n) e = absurd (true≢false (sym (stays_joined r gs _ []) ∙ ap has_some e))

pub without_last-append : {X : Type 0} (xs : List X) (y : X) (ys : List X) → without_last (xs ++ y ∷ ys)
    ≡ xs ++ without_last (y ∷ ys)
without_last-append [] y ys = refl
without_last-append (x ∷ []) y ys = refl
without_last-append (x ∷ z ∷ xs) y ys = ap (λ l. x ∷ l) (without_last-append (z ∷ xs) y ys)

-- two lists begin alike, up to the last record of the one
pub record SameFront (xs ys : List FrameRecord) : Type 0 where
  pub front : List FrameRecord
  pub x : FrameRecord
  pub y : FrameRecord
  pub more : List FrameRecord
  pub one : xs ≡ front ++ x ∷ []
  pub other : ys ≡ front ++ y ∷ more

prefix_of : (before xs ys : List FrameRecord) → SameFront xs ys
    → IsPrefix (without_last (before ++ xs)) (without_last (before ++ ys))
prefix_of before xs ys s =
    let a : without_last (before ++ xs) ≡ before ++ s.front =
    ap (λ (l : List FrameRecord). without_last (before ++ l)) s.one
    ∙ ap without_last (sym (append_assoc before s.front (s.x ∷ [])))
    ∙ without_last-append (before ++ s.front) s.x [] ∙ append-nil (before ++ s.front) in
    let b : without_last (before ++ ys) ≡ (before ++ s.front) ++ without_last (s.y ∷ s.more) =
    ap (λ (l : List FrameRecord). without_last (before ++ l)) s.other
    ∙ ap without_last (sym (append_assoc before s.front (s.y ∷ s.more)))
    ∙ without_last-append (before ++ s.front) s.y s.more in
    (without_last (s.y ∷ s.more), b ∙ ap (λ (l : List FrameRecord). l ++ without_last (s.y ∷ s.more)) (sym a))

-- the records of a last group, and of another with its key and what follows
front_joined : (r : Rules) (b : Numbered) (past : List Numbered) (g h : Group) (more : List Group) → h.key ≡ g.key
    → SameFront (records_from r (b ∷ past) (g ∷ [])) (records_from r (b ∷ past) (h ∷ more))
front_joined r b past g h more key = record {
  front = gaps_between b.number (next_number r.frames b.number g.key);
  x = group_record r (b ∷ past) g (next_number r.frames b.number g.key);
  y = group_record r (b ∷ past) h (next_number r.frames b.number h.key);
  more = records_from r (past_behind r (b ∷ past) h) more;
  one = append-nil _;
  other =
      append_assoc (gaps_between b.number (next_number r.frames b.number h.key))
      (group_record r (b ∷ past) h (next_number r.frames b.number h.key) ∷ []) _
      ∙ ap (λ (k : Key). gaps_between b.number (next_number r.frames b.number k)
      ++ (group_record r (b ∷ past) h (next_number r.frames b.number h.key) ∷ records_from r
      (past_behind r (b ∷ past) h) more))
      key;
}

front_first : (r : Rules) (g : Group) (ys : List FrameRecord) → IsPrefix (without_last (records_from r [] (g ∷ []))) ys
front_first r g ys = go (join_number r g)
  where
    go : (o : Option ℕ) → IsPrefix (without_last ((gaps_behind [] o ++ own_record r [] g o) ++ [])) ys
    go None = (ys, refl)
    go (Some n) = (ys, refl)

front_from : (r : Rules) (closed : List Group) (g h : Group) (more : List Group) → h.key ≡ g.key
    → (past : List Numbered)
    → past_after r [] closed ≡ past
    → IsPrefix (without_last (records_from r [] closed ++ records_from r past (g ∷ [])))
    (without_last (records_from r [] closed ++ records_from r past (h ∷ more)))
front_from r closed g h more key (b ∷ past) e =
    prefix_of (records_from r [] closed) _ _ (front_joined r b past g h more key)
front_from r closed g h more key [] e =
    subst (λ (l : List FrameRecord). IsPrefix (without_last (l ++ records_from r [] (g ∷ [])))
    (without_last (l ++ records_from r [] (h ∷ more)))) (sym (none_before r closed e))
    (front_first r g (without_last (records_from r [] (h ∷ more))))

front_groups : (r : Rules) (closed : List Group) (g h : Group) (more : List Group) → h.key ≡ g.key
    → IsPrefix (without_last (records_from r [] (closed ++ g ∷ [])))
    (without_last (records_from r [] (closed ++ h ∷ more)))
front_groups r closed g h more key =
    subst (λ (l : List FrameRecord). IsPrefix (without_last l) (without_last (records_from r [] (closed ++ h ∷ more))))
    (sym (records_append r [] closed (g ∷ [])))
    (subst (λ (l : List FrameRecord).
    IsPrefix (without_last (records_from r [] closed ++ records_from r (past_after r [] closed) (g ∷ [])))
    (without_last l)) (sym (records_append r [] closed (h ∷ more)))
    (front_from r closed g h more key (past_after r [] closed) refl))

front_kept : (r : Rules) (ps qs : List Packet) → IsPrefix (without_last (records_from r [] (all_groups (grouped ps))))
    (without_last (records_from r [] (all_groups (grouped (ps ++ qs)))))
unfolding grouped
front_kept r [] qs = (without_last (records_from r [] (all_groups (grouped qs))), refl)
front_kept r (p ∷ ps) qs =
    let l = has_last ps [] (one_packet (key_behind None p) p) in
    let e : grouped_from no_groups ((p ∷ ps) ++ qs) ≡ grouped_from
    (record { closed = l.closed; under_way = Some l.last }) qs =
    grouped_append no_groups (p ∷ ps) qs ∙ ap (λ (g : Grouped). grouped_from g qs) l.is in
    let s = goes_on qs l.closed l.last in
    let f = front_groups r l.closed l.last s.group s.more s.key in
    subst (λ (g : Grouped). IsPrefix (without_last (records_from r [] (all_groups g)))
    (without_last (records_from r [] (all_groups (grouped_from no_groups ((p ∷ ps) ++ qs)))))) (sym l.is)
    (subst (λ (gs : List Group). IsPrefix (without_last (records_from r [] (l.closed ++ l.last ∷ [])))
    (without_last (records_from r [] gs))) (sym (ap all_groups e ∙ s.all_are)) f)

pub front_law : (r : Rules) (ps qs : List Packet)
    → IsPrefix (without_last (modulated r ps)) (without_last (modulated r (ps ++ qs)))
unfolding modulated
front_law r ps qs =
    let kept : List Packet → List Packet = filter (is_counted r.frames) in
    let f : IsPrefix (without_last (records_from r [] (all_groups (grouped (kept ps)))))
    (without_last (records_from r [] (all_groups (grouped (kept (ps ++ qs)))))) =
    subst (λ (l : List Packet). IsPrefix (without_last (records_from r [] (all_groups (grouped (kept ps)))))
    (without_last (records_from r [] (all_groups (grouped l))))) (sym (filter-append (is_counted r.frames) ps qs))
    (front_kept r (kept ps) (kept qs)) in
    subst (λ (gs : List Group). IsPrefix (without_last (records_from r [] gs))
    (without_last (records_from r [] (groups r.frames (ps ++ qs))))) (grown r.frames ps)
    (subst (λ (gs : List Group). IsPrefix (without_last (records_from r [] (all_groups (grouped (kept ps)))))
    (without_last (records_from r [] gs))) (grown r.frames (ps ++ qs)) f)
