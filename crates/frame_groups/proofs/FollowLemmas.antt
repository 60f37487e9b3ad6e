-- A group after another.
use Rattle.std.proofs.Common.{◌≡◌, ℕ, suc, ◌+◌, ◌-◌, ◌<◌, Bool, true, false, List, [], ◌∷◌, ◌++◌, map, Option}
use Rattle.std.proofs.Common.{Some, None, refl, ap, ap₂, sym, ◌∙◌, arith, append_assoc, append-nil}
use Rattle.std.specs.List.{range_with_len}
use Rattle.std.proofs.lemmas.Bool.{true≢false}
use Rattle.std.proofs.lemmas.Option.{same_Some}
use Rattle.terms.proofs.OptionLemmas.{none_some}
use Rattle.frame_groups.specs.declared.cause.MuteCause.{MuteCause}
use Rattle.frame_groups.specs.Groups.{Group}
use Rattle.frame_groups.specs.Numbers.{IsKey, next_number}
use Rattle.frame_groups.specs.Modulated.{Numbered, Rules, FrameRecord, gap_record, group_record, number_behind}
use Rattle.frame_groups.specs.Modulated.{join_number, past_with, past_behind, records_with}
use Rattle.frame_groups.specs.Modulated.{records_from, past_after}
use Rattle.frame_groups.proofs.FrontLemmas.{none_before, records_append}
use Rattle.frame_groups.proofs.NumberLemmas.{next_law}
use Rattle.frame_groups.specs.Sequenced.{IsAbove, known_number, gaps_from, Follows}

pub past_after_push : (r : Rules) (past : List Numbered) (gs : List Group) (h : Group)
    → past_after r past (gs ++ h ∷ [])
    ≡ past_behind r (past_after r past gs) h
past_after_push r past [] h = refl
past_after_push r past (g ∷ gs) h = past_after_push r (past_behind r past g) gs h

pub records_push : (r : Rules) (gs : List Group) (h : Group) → records_from r [] (gs ++ h ∷ []) ≡ records_from r [] gs
    ++ records_with r (past_after r [] gs) h
records_push r gs h = records_append r [] gs (h ∷ []) ∙ ap (λ (l : List FrameRecord). records_from r [] gs ++ l)
    (append-nil _)

-- a group that is closed has the number that it had, if it had one
pub known_is : (r : Rules) (past : List Numbered) (h : Group) (n : ℕ) → Some n ≡ known_number r past h
    → Some n ≡ number_behind r past h
known_is r [] h n e = none_some n (sym e)
known_is r (b ∷ past) h n e = e

-- the number of a group is above those of the groups before it
pub number_above : (r : Rules) (past : List Numbered) (h : Group) (n : ℕ) → IsKey r.frames h.key
    → Some n ≡ number_behind r past h → IsAbove past n
number_above r [] h n key e = tt
number_above r (b ∷ past) h n key e =
    let up = (next_law r.frames b.number h.key key).0.above in
    let same = same_Some n (next_number r.frames b.number h.key) e in omega (arith, up, same)

above_more : (past : List Numbered) (n : ℕ) → IsAbove past n → IsAbove past (n + 1)
above_more [] n a = tt
above_more (b ∷ past) n a = omega (arith, a)

pub close_joined : (r : Rules) (closed : List Group) (past : List Numbered) (h : Group) (n next : ℕ)
    (old new : Option MuteCause)
    (given : List FrameRecord)
    → Follows r closed past h (Some n) next false old given → new ≡ r.fault past h n
    → Follows r closed past h (Some n) next true new given
close_joined r closed past h n next old new given f e = grind (arith, known_is, true≢false, same_Some)

pub no_gaps : (n : ℕ) → gaps_from n n ≡ []
no_gaps n = let e : n - n ≡ 0 = omega arith in ap (λ (k : ℕ). map gap_record (range_with_len n k)) e

-- a group before the join is closed
pub close_first : (r : Rules) (closed : List Group) (past : List Numbered) (h : Group) (number : Option ℕ)
    (old next : ℕ)
    (fault new : Option MuteCause) (given : List FrameRecord)
    → Follows r closed past h None old false fault given → number ≡ join_number r h
    → ((n : ℕ) → number ≡ Some n → (next ≡ n) × (new ≡ r.fault past h n))
    → Follows r closed past h number next true new given
close_first r closed past h number old next fault new given f e at =
    grind (arith, true≢false, none_before, Option, ap₂, no_gaps)

-- the next group begins
pub start_joined : (r : Rules) (closed : List Group) (past : List Numbered) (h g : Group) (n next : ℕ)
    (old new : Option MuteCause)
    (given : List FrameRecord)
    → Follows r closed past h (Some n) next true old given → next ≡ n + 1 → IsKey r.frames g.key
    → Follows r (closed ++ h ∷ []) (past_with past h (Some n)) g (Some (next_number r.frames n g.key))
    next false new given
start_joined r closed past h g n next old new given f e key =
    grind (arith, same_Some, true≢false, ap₂, records_push, next_law, past_after_push)

pub start_first : (r : Rules) (closed : List Group) (past : List Numbered) (h g : Group) (next : ℕ)
    (old new : Option MuteCause)
    (given : List FrameRecord)
    → Follows r closed past h None next true old given → IsKey r.frames g.key
    → Follows r (closed ++ h ∷ []) past g None next false new given
start_first r closed past h g next old new given f key = grind (arith, past_after_push, none_some, true≢false)

-- a packet goes on with the group
pub goes_on : (r : Rules) (closed : List Group) (past : List Numbered) (h g : Group) (number : Option ℕ) (next : ℕ)
    (fault : Option MuteCause) (given : List FrameRecord)
    → Follows r closed past h number next false fault given → g.key ≡ h.key
    → Follows r closed past g number next false fault given
goes_on r closed past h g number next fault given f same = grind (arith, true≢false, Option)

-- the first group begins
pub begins : (r : Rules) (g : Group) (next : ℕ) (fault : Option MuteCause) → IsKey r.frames g.key
    → Follows r [] [] g None next false fault []
begins r g next fault key = grind (arith, none_some, true≢false)

pub gaps_more : (next n : ℕ) → next < n → gaps_from next n ≡ gap_record next ∷ gaps_from (next + 1) n
gaps_more next n h = let e : n - next ≡ suc (n - (next + 1)) = omega arith in
    ap (λ (k : ℕ). map gap_record (range_with_len next k)) e

-- a record that waited was given
pub gap_given : (r : Rules) (closed : List Group) (past : List Numbered) (h : Group) (n next : ℕ) (closing : Bool)
    (fault : Option MuteCause) (given : List FrameRecord)
    → Follows r closed past h (Some n) next closing fault given → next < n
    → Follows r closed past h (Some n) (next + 1) closing fault (given ++ gap_record next ∷ [])
gap_given r closed past h n next closing fault given f l =
    grind (arith, same_Some, above_more, append_assoc, gaps_more)

pub own_given : (r : Rules) (closed : List Group) (past : List Numbered) (h : Group) (n next : ℕ)
    (fault : Option MuteCause)
    (given : List FrameRecord)
    → Follows r closed past h (Some n) next true fault given → next ≡ n
    → Follows r closed past h (Some n) (next + 1) true fault (given ++ group_record r past h n ∷ [])
own_given r closed past h n next fault given f e =
    grind (arith, true≢false, above_more, append-nil, no_gaps, append_assoc, Option)
