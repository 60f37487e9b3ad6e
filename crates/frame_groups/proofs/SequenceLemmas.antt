-- Packets one at a time.
use Rattle.std.proofs.Common.{◌≡◌, ℕ, ◌+◌, ◌<◌, ◌==◌, ◌&&◌, Bool, true, false, cond, List, [], ◌∷◌, ◌++◌, Option}
use Rattle.std.proofs.Common.{Some, None, refl, ap, sym, subst, ◌∙◌, arith}
use Rattle.std.specs.Prelude.{is_some, nat_lt}
use Rattle.std.proofs.lemmas.Bool.{true≢false, cond-true, cond-false, ltb-true, ltb-false, eqb-true, eqb-false}
use Rattle.std.proofs.lemmas.List.Elements.{filter-append}
use Rattle.std.proofs.lemmas.Option.{same_Some}
use Rattle.terms.proofs.OptionLemmas.{none_some, neither}
use Rattle.frame_groups.specs.declared.cause.MuteCause.{MuteCause}
use Rattle.t2mi_packet.specs.declared.packet.Body.{Body}
use Rattle.t2mi_packet.specs.declared.packet.Body.TheVariants.{Block, L1Current, Timestamp, Other}
use Rattle.frame_groups.specs.declared.key.Key.{Key}
use Rattle.t2mi_packet.specs.declared.packet.Packet.{Packet}
use Rattle.frame_groups.specs.Groups.{Group, is_counted, body_counts, is_same, key_behind, body_key, stamp_key}
use Rattle.frame_groups.specs.Grouping.{Grouped, grouped, no_groups, with_packet, one_packet, one_more, key_of}
use Rattle.frame_groups.specs.Numbers.{IsKey, next_number}
use Rattle.frame_groups.specs.Modulated.{Numbered, Rules, FrameRecord, past_with, gap_record, group_record, join_number}
use Rattle.frame_groups.proofs.GroupLemmas.{grouped_more}
use Rattle.frame_groups.specs.declared.cause.MuteCause.TheVariants.{Gap}
use Rattle.frame_groups.specs.Sequenced.{IsAbove, past_of, number_now, Follows, kept_groups, Sequenced, record_now}
use Rattle.frame_groups.specs.Waits.{waits_by}
use Rattle.frame_groups.specs.declared.waiting.Waiting.{Waiting}
use Rattle.frame_groups.proofs.FollowLemmas.{known_is, number_above, close_joined, close_first, start_joined}
use Rattle.frame_groups.proofs.FollowLemmas.{start_first, goes_on, begins, gap_given, own_given}

pub kept_more : (r : Rules) (ps : List Packet) (p : Packet) → is_counted r.frames p ≡ true
    → kept_groups r (ps ++ p ∷ [])
    ≡ with_packet (kept_groups r ps) p
kept_more r ps p e = grind (arith, filter-append, cond-true, grouped_more)

-- the key of a packet that is kept fits
stamp_fits : (frames : ℕ) (before : Option Key) (superframe : ℕ) → 0 < frames → superframe < 16
    → ((k : Key) → before ≡ Some k → IsKey frames k) → IsKey frames (stamp_key before superframe)
stamp_fits frames None superframe some s b = record { superframe = s; frame = some }
stamp_fits frames (Some k) superframe some s b = go (k.superframe == superframe)
  where
    go : (t : Bool) → IsKey frames (cond t k (record { superframe = superframe; frame = 0 }))
    go true = b k refl
    go false = record { superframe = s; frame = some }

fits_with : (frames : ℕ) (before : Option Key) (superframe : ℕ) (body : Body) → 0 < frames → superframe < 16
    → body_counts frames body ≡ true → ((k : Key) → before ≡ Some k → IsKey frames k)
    → IsKey frames (body_key before superframe body)
fits_with frames before superframe (Block frame_idx plp_id first bits) some s e b =
    record { superframe = s; frame = ltb-true frame_idx frames e }
fits_with frames before superframe (L1Current frame_idx pre conf dynamic extension) some s e b =
    record { superframe = s; frame = ltb-true frame_idx frames e }
fits_with frames before superframe (Timestamp stamp) some s e b = stamp_fits frames before superframe some s b
fits_with frames before superframe (Other packet_type bits) some s e b = absurd (true≢false (sym e))

pub key_fits : (frames : ℕ) (before : Option Key) (p : Packet) → 0 < frames → p.superframe < 16
    → is_counted frames p ≡ true
    → ((k : Key) → before ≡ Some k → IsKey frames k) → IsKey frames (key_behind before p)
key_fits frames before p some s e b = fits_with frames before p.superframe p.body some s e b

-- the first packet
pub first_packet : (r : Rules) (past : List Numbered) (number : Option ℕ) (next : ℕ) (closing : Bool)
    (old new : Option MuteCause)
    (ps : List Packet) (given : List FrameRecord) (p : Packet)
    → is_counted r.frames p ≡ true → IsKey r.frames (key_behind None p)
    → Sequenced r past None number next closing old ps given
    → Sequenced r past (Some (one_packet (key_behind None p) p)) number next closing new (ps ++ p ∷ []) given
first_packet r past number next closing old new ps given p e key (a, o, b, c, d) =
    subst (λ (o : List Numbered). Sequenced r o (Some (one_packet (key_behind None p) p)) number next
    closing new (ps ++ p ∷ [])
    given) (sym o)
    (subst (λ (n : Option ℕ). Sequenced r [] (Some (one_packet (key_behind None p) p)) n next closing
    new (ps ++ p ∷ []) given)
    (sym b)
    (subst (λ (t : Bool). Sequenced r [] (Some (one_packet (key_behind None p) p)) None next t new (ps ++ p ∷ []) given)
    (sym c)
    (subst (λ (g : List FrameRecord). Sequenced r [] (Some (one_packet (key_behind None p) p)) None next
    false new (ps ++ p ∷ [])
    g) (sym d) (
      [],
      kept_more r ps p e ∙ ap (λ (g : Grouped). with_packet g p) a,
      begins r (one_packet (key_behind None p) p) next new key,
    ))))

-- the groups with one packet more
pub groups_on : (r : Rules) (ps : List Packet) (p : Packet) (closed : List Group) (h : Group)
    → is_counted r.frames p ≡ true
    → kept_groups r ps ≡ record { closed = closed; under_way = Some h }
    → is_same h.key (key_behind (Some h.key) p) ≡ true
    → kept_groups r (ps ++ p ∷ []) ≡ record { closed = closed; under_way = Some (one_more h p) }
groups_on r ps p closed h e a same = grind (arith, kept_more, cond-true)

pub groups_new : (r : Rules) (ps : List Packet) (p : Packet) (closed : List Group) (h : Group)
    → is_counted r.frames p ≡ true
    → kept_groups r ps ≡ record { closed = closed; under_way = Some h }
    → is_same h.key (key_behind (Some h.key) p) ≡ false
    → kept_groups r (ps ++ p ∷ [])
    ≡ record { closed = closed ++ h ∷ []; under_way = Some (one_packet (key_behind (Some h.key) p) p) }
groups_new r ps p closed h e a other = grind (arith, kept_more, cond-false)

pub added : (r : Rules) (past : List Numbered) (h : Group) (number : Option ℕ) (next : ℕ) (old : Option MuteCause)
    (ps : List Packet) (given : List FrameRecord) (p : Packet)
    → is_counted r.frames p ≡ true → is_same h.key (key_behind (Some h.key) p) ≡ true
    → Sequenced r past (Some h) number next false old ps given
    → Sequenced r past (Some (one_more h p)) number next false old (ps ++ p ∷ []) given
added r past h number next old ps given p e same (closed, a, f) =
    (closed, groups_on r ps p closed h e a same, goes_on r closed past h (one_more h p) number next old given f refl)

-- a closed group makes place for the next
pub started_joined : (r : Rules) (past : List Numbered) (h : Group) (n next : ℕ) (old new : Option MuteCause)
    (ps : List Packet)
    (given : List FrameRecord) (p : Packet)
    → is_counted r.frames p ≡ true → is_same h.key (key_behind (Some h.key) p) ≡ false → n < next → 0 < r.frames
    → p.superframe < 16 → Sequenced r past (Some h) (Some n) next true old ps given
    → Sequenced r (past_with past h (Some n)) (Some (one_packet (key_behind (Some h.key) p) p))
    (Some (next_number r.frames n (key_behind (Some h.key) p))) next false new (ps ++ p ∷ []) given
started_joined r past h n next old new ps given p e other up some s (closed, a, f) =
    let most = f.records.most in
    let key =
    key_fits r.frames (Some h.key) p some s e (λ k same. subst (IsKey r.frames) (same_Some h.key k same)
    f.key) in (
      closed ++ h ∷ [],
      groups_new r ps p closed h e a other,
      start_joined r closed past h (one_packet (key_behind (Some h.key) p) p) n next old new given f
          (omega (arith, up, most)) key,
    )

pub started_first : (r : Rules) (past : List Numbered) (h : Group) (next : ℕ) (old new : Option MuteCause)
    (ps : List Packet)
    (given : List FrameRecord) (p : Packet)
    → is_counted r.frames p ≡ true → is_same h.key (key_behind (Some h.key) p) ≡ false → 0 < r.frames
    → p.superframe < 16
    → Sequenced r past (Some h) None next true old ps given
    → Sequenced r past (Some (one_packet (key_behind (Some h.key) p) p)) None next false new (ps ++ p ∷ []) given
started_first r past h next old new ps given p e other some s (closed, a, f) =
    let key =
    key_fits r.frames (Some h.key) p some s e (λ k same. subst (IsKey r.frames) (same_Some h.key k same)
    f.key) in (
      closed ++ h ∷ [],
      groups_new r ps p closed h e a other,
      start_first r closed past h (one_packet (key_behind (Some h.key) p) p) next old new given f key,
    )

-- a group is closed
pub closed_joined : (r : Rules) (past : List Numbered) (g : Option Group) (n next : ℕ) (old new : Option MuteCause)
    (ps : List Packet) (given : List FrameRecord)
    → is_some g ≡ true → ((h : Group) → g ≡ Some h → IsAbove past n → new ≡ r.fault past h n)
    → Sequenced r past g (Some n) next false old ps given → Sequenced r past g (Some n) next true new ps given
closed_joined r past None n next old new ps given some e s = absurd (true≢false (sym some))
closed_joined r past (Some h) n next old new ps given some e (closed, a, f) =
    let above = number_above r past h n f.key (known_is r past h n f.number_is) in
    (closed, a, close_joined r closed past h n next old new given f (e h refl above))

pub closed_first : (r : Rules) (past : List Numbered) (g : Option Group) (number : Option ℕ) (old next : ℕ)
    (fault new : Option MuteCause) (ps : List Packet) (given : List FrameRecord)
    → is_some g ≡ true → ((h : Group) → g ≡ Some h → past ≡ [] → number ≡ join_number r h)
    → ((h : Group) → g ≡ Some h → past ≡ [] → (n : ℕ) → number ≡ Some n → (next ≡ n) × (new ≡ r.fault past h n))
    → Sequenced r past g None old false fault ps given → Sequenced r past g number next true new ps given
closed_first r past None number old next fault new ps given some e at s = absurd (true≢false (sym some))
closed_first r past (Some h) number old next fault new ps given some e at (closed, a, f) =
    let none = f.records.0 in
    (closed, a, close_first r closed past h number old next fault new given f (e h refl none) (at h refl none))

-- the key of a packet behind a group fits
pub group_key_fits : (r : Rules) (past : List Numbered) (h : Group) (number : Option ℕ) (next : ℕ) (closing : Bool)
    (fault : Option MuteCause) (ps : List Packet) (given : List FrameRecord) (p : Packet)
    → is_counted r.frames p ≡ true → 0 < r.frames → p.superframe < 16
    → Sequenced r past (Some h) number next closing fault ps given → IsKey r.frames (key_behind (Some h.key) p)
group_key_fits r past h number next closing fault ps given p e some s (closed, a, f) =
    key_fits r.frames (Some h.key) p some s e (λ k same. subst (IsKey r.frames) (same_Some h.key k same) f.key)

-- the number of a closed group is above those of the groups before it
pub closed_above : (r : Rules) (past : List Numbered) (g : Option Group) (number : Option ℕ) (next : ℕ) (closing : Bool)
    (fault : Option MuteCause) (ps : List Packet) (given : List FrameRecord) (n : ℕ)
    → closing ≡ true → Sequenced r past g number next closing fault ps given → number ≡ Some n → IsAbove past n
closed_above r past None number next closing fault ps given n c (a, o, b, d, e) is = absurd (true≢false (sym c ∙ d))
closed_above r past (Some h) number next closing fault ps given n c (closed, a, f) is =
    number_above r past h n f.key (sym is ∙ f.number_is ∙ ap (λ (t : Bool). number_now r t past h) c)

pub none_came : (r : Rules) → kept_groups r [] ≡ no_groups
unfolding grouped
none_came r = refl

-- nothing waits_by, so the record of the closed group was given
pub own_was_given : (n next : ℕ) (fault : Option MuteCause) → waits_by (Some n) next true fault ≡ false → n < next
own_was_given n next fault e = grind (arith, neither, ltb-false, eqb-false)

pub started : (r s : Rules) (past : List Numbered) (g new : Option Group) (h : Group) (number after : Option ℕ)
    (next : ℕ)
    (closing : Bool) (fault : Option MuteCause) (ps : List Packet) (given : List FrameRecord) (p : Packet)
    (key next_key : Key)
    → g ≡ Some h → closing ≡ true → waits_by number next closing fault ≡ false → is_counted r.frames p ≡ true
    → is_same h.key (key_behind (Some h.key) p) ≡ false → 0 < r.frames → p.superframe < 16
    → key ≡ h.key → next_key ≡ key_behind (Some key) p → new ≡ Some (one_packet next_key p) → s ≡ r
    → (number ≡ None → after ≡ None)
    → ((n : ℕ) → number ≡ Some n → IsKey r.frames next_key → after ≡ Some (next_number r.frames n next_key))
    → Sequenced r past g number next closing fault ps given
    → Sequenced s (past_of past g number) new after next false fault (ps ++ p ∷ []) given
started r s past g new h number after next closing fault ps given p key next_key is c idle e other some
    small k nk ng same none
    joined q =
    subst (λ (s : Rules). Sequenced s (past_of past g number) new after next false fault (ps ++ p ∷ []) given)
    (sym same)
    (subst (λ (g : Option Group). Sequenced r (past_of past g number) new after next false fault (ps ++ p ∷ []) given)
    (sym is)
    (subst (λ (g : Option Group). Sequenced r (past_with past h number) g after next false fault (ps ++ p ∷ []) given)
    (sym (ng ∙ ap (λ (k : Key). Some (one_packet k p)) key_is))
    (go number (subst (λ (t : Bool). waits_by number next t fault ≡ false) c idle) none joined
    (subst (λ (t : Bool). Sequenced r past (Some h) number next t fault ps given) c
    (subst (λ (g : Option Group). Sequenced r past g number next closing fault ps given) is q)))))
  where
    key_is : next_key ≡ key_behind (Some h.key) p
    key_is = nk ∙ ap (λ (k : Key). key_behind (Some k) p) k

    go : (number : Option ℕ) → waits_by number next true fault ≡ false → (number ≡ None → after ≡ None)
        → ((n : ℕ) → number ≡ Some n → IsKey r.frames next_key → after ≡ Some (next_number r.frames n next_key))
        → Sequenced r past (Some h) number next true fault ps given
        → Sequenced r (past_with past h number) (Some (one_packet (key_behind (Some h.key) p) p)) after next false fault
        (ps ++ p ∷ []) given
    go None idle none joined q =
        subst (λ (o : Option ℕ). Sequenced r past (Some (one_packet (key_behind (Some h.key) p) p)) o next false fault
        (ps ++ p ∷ []) given) (sym (none refl))
        (started_first r past h next fault fault ps given p e other some small q)
    go (Some n) idle none joined q =
        let fits = subst (IsKey r.frames) (sym key_is)
        (group_key_fits r past h (Some n) next true fault ps given p e some small q) in
        subst (λ (o : Option ℕ). Sequenced r (past_with past h (Some n))
        (Some (one_packet (key_behind (Some h.key) p) p)) o next
        false fault (ps ++ p ∷ []) given)
        (sym (joined n refl fits ∙ ap (λ (k : Key). Some (next_number r.frames n k)) key_is))
        (started_joined r past h n next fault fault ps given p e other (own_was_given n next fault idle) some small q)

-- the record that waited was given
pub gave : (r : Rules) (past : List Numbered) (g : Option Group) (number : Option ℕ) (next : ℕ) (closing : Bool)
    (fault : Option MuteCause) (ps : List Packet) (given : List FrameRecord) (x : FrameRecord)
    → waits_by number next closing fault ≡ true → record_now r past g number next ≡ Some x
    → Sequenced r past g number next closing fault ps given
    → Sequenced r past g number (next + 1) closing fault ps (given ++ x ∷ [])
gave r past None number next closing fault ps given x w e q = none_some x e
gave r past (Some h) None next closing fault ps given x w e q = none_some x e
gave r past (Some h) (Some n) next closing fault ps given x w e (closed, a, f) = go (nat_lt next n) refl w e
  where
    go : (t : Bool) → nat_lt next n ≡ t
        → is_some {T = Waiting}
        (cond t (Some (record { frame = next; mute = Some Gap }))
        (cond (closing && (next == n)) (Some (record { frame = n; mute = fault })) None)) ≡ true
        → cond t (Some (gap_record next)) (Some (group_record r past h n)) ≡ Some x
        → Sequenced r past (Some h) (Some n) (next + 1) closing fault ps (given ++ x ∷ [])
    go true t w e =
        subst (λ (x : FrameRecord). Sequenced r past (Some h) (Some n) (next + 1) closing fault ps (given ++ x ∷ []))
        (same_Some (gap_record next) x e)
        (closed, a, gap_given r closed past h n next closing fault given f (ltb-true next n t))
    go false t w e = own closing (next == n) refl w (same_Some (group_record r past h n) x e) f
      where
        own : (c u : Bool) → (next == n) ≡ u
            → is_some {T = Waiting} (cond (c && u) (Some (record { frame = n; mute = fault })) None) ≡ true
            → group_record r past h n ≡ x → Follows r closed past h (Some n) next c fault given
            → Sequenced r past (Some h) (Some n) (next + 1) c fault ps (given ++ x ∷ [])
        own false u k w e f = absurd (true≢false (sym w))
        own true false k w e f = absurd (true≢false (sym w))
        own true true k w e f =
            subst (λ (x : FrameRecord). Sequenced r past (Some h) (Some n) (next + 1) true fault ps (given ++ x ∷ [])) e
            (closed, a, own_given r closed past h n next fault given f (eqb-true next n k))

-- the first packet of all
pub begun : (r s : Rules) (past : List Numbered) (g new : Option Group) (number : Option ℕ) (next : ℕ) (closing : Bool)
    (fault : Option MuteCause) (ps : List Packet) (given : List FrameRecord) (p : Packet)
    → key_of g ≡ None → is_counted r.frames p ≡ true → 0 < r.frames → p.superframe < 16
    → new ≡ Some (one_packet (key_behind None p) p) → s ≡ r
    → Sequenced r past g number next closing fault ps given
    → Sequenced s (past_of past g None) new number next false fault (ps ++ p ∷ []) given
begun r s past (Some h) new number next closing fault ps given p none e some small ng same q = none_some
    h.key (sym none)
begun r s past None new number next closing fault ps given p none e some small ng same q =
    subst (λ (s : Rules). Sequenced s past new number next false fault (ps ++ p ∷ []) given) (sym same)
    (subst (λ (g : Option Group). Sequenced r past g number next false fault (ps ++ p ∷ []) given) (sym ng)
    (subst (λ (t : Bool). Sequenced r past (Some (one_packet (key_behind None p) p)) number next t fault
    (ps ++ p ∷ []) given)
    q.3
    (first_packet r past number next closing fault fault ps given p e
    (key_fits r.frames None p some small e (λ k same. none_some k same)) q)))

-- a packet goes on
pub added_on : (r s : Rules) (past : List Numbered) (g new : Option Group) (number : Option ℕ) (next : ℕ)
    (closing : Bool)
    (fault : Option MuteCause) (ps : List Packet) (given : List FrameRecord) (p : Packet) (key : Key)
    → key_of g ≡ Some key → is_counted r.frames p ≡ true → is_same key (key_behind (Some key) p) ≡ true
    → ((h : Group) → g ≡ Some h → new ≡ Some (one_more h p)) → s ≡ r → closing ≡ false
    → Sequenced r past g number next closing fault ps given
    → Sequenced s past new number next closing fault (ps ++ p ∷ []) given
added_on r s past None new number next closing fault ps given p key is e same add rules shut q = none_some key is
added_on r s past (Some h) new number next closing fault ps given p key is e same add rules shut q =
    subst (λ (s : Rules). Sequenced s past new number next closing fault (ps ++ p ∷ []) given) (sym rules)
    (subst (λ (g : Option Group). Sequenced r past g number next closing fault (ps ++ p ∷ []) given) (sym (add h refl))
    (subst (λ (t : Bool). Sequenced r past (Some (one_more h p)) number next t fault (ps ++ p ∷ []) given) (sym shut)
    (added r past h number next fault ps given p e
    (subst (λ (k : Key). is_same k (key_behind (Some k) p) ≡ true) (sym (same_Some h.key key is)) same)
    (subst (λ (t : Bool). Sequenced r past (Some h) number next t fault ps given) shut q))))

pub has_key : (g : Option Group) (key : Option Key) → key_of g ≡ key → is_some key ≡ true → is_some g ≡ true
has_key None key e s = ap is_some e ∙ s
has_key (Some h) key e s = refl

pub record HasGroup (g : Option Group) (key : Key) : Type 0 where
  pub group : Group
  pub is : g ≡ Some group
  pub key_is : key ≡ group.key

pub has_group : (g : Option Group) (key : Key) → key_of g ≡ Some key → HasGroup g key
has_group None key e = none_some key e
has_group (Some h) key e = record { group = h; is = refl; key_is = sym (same_Some h.key key e) }

pub other_key : (h : Group) (key : Key) (p : Packet) → key ≡ h.key → is_same key (key_behind (Some key) p) ≡ false
    → is_same h.key (key_behind (Some h.key) p) ≡ false
other_key h key p e o = subst (λ (k : Key). is_same k (key_behind (Some k) p) ≡ false) e o
