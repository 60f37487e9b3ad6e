-- One packet more is made.
use Rattle.std.proofs.Common.{◌≡◌, ◌≤◌, ◌+◌, ◌-◌, ℕ, Bool, true, List, [], ◌∷◌, ◌++◌, map, Option, Some, None, is_some}
use Rattle.std.proofs.Common.{refl, ap, sym, ◌<◌, subst, ◌∙◌, ⊎_elim, arith, append-nil, append_assoc}
use Rattle.std.specs.Prelude.{slice_index, slice_index_or}
use Rattle.std.specs.List.{flat_map, range_with_len}
use Rattle.std.proofs.lemmas.Grind.{flat_map-append}
use Rattle.terms.proofs.RangeLemmas.{range_more, places_more}
use Rattle.linked_pool.specs.Pool.{State, list_at}
use Rattle.std.proofs.lemmas.Bool.{both_ways, cases_order, true≢false, false≢true}
use Rattle.std.proofs.lemmas.List.{map-append}
use Rattle.plp_config.specs.declared.config.Config.{Config}
use Rattle.t2mi_packet.specs.declared.packet.Body.{Body}
use Rattle.t2mi_packet.specs.declared.packet.Packet.{Packet}
use Rattle.frame_groups.specs.Groups.{Group}
use Rattle.frame_groups.specs.Grouping.{one_more, one_packet}
use Rattle.frame_groups.specs.Sequenced.{IsAbove, past_of}
use Rattle.frame_groups.specs.declared.key.Key.{Key}
use Rattle.frame_groups.specs.Modulated.{Numbered}
use Rattle.frame_groups.specs.Numbers.{frame_key}
use Rattle.frame_writer.specs.FramePackets.{packet_with}
use Rattle.open_group.specs.Holds.{Holds}
use Rattle.open_group.specs.declared.group.PooledGroup.{PooledGroup}
use Rattle.frame_weave.specs.Made.{IsAlone, HoldsBodies, slot_bodies, all_bodies}
use Rattle.frame_weave.specs.Woven.{group_with, block_body}

more_with : (c : Config) (n : ℕ) (bodies : List Body) (body : Body) (packet : Packet) → packet ≡ packet_with c 0 n body
    → one_more (group_with c n bodies) packet ≡ group_with c n (bodies ++ body ∷ [])
more_with c n bodies body packet is =
    ap (λ (packets : List Packet). record { key = frame_key c.frames n; packets = packets })
    (ap (λ (p : Packet). map (packet_with c 0 n) bodies ++ p ∷ []) is
    ∙ sym (map-append (packet_with c 0 n) bodies (body ∷ [])))

pub added_body : (c : Config) (n : ℕ) (begun : Bool) (old new : PooledGroup) (bodies : List Body) (body : Body)
    (packet : Packet)
    → begun ≡ true → packet ≡ packet_with c 0 n body
    → ((past : List Numbered) (h : Group) → Holds old past (Some h) → Holds new past (Some (one_more h packet)))
    → HoldsBodies c n begun old bodies → HoldsBodies c n begun new (bodies ++ body ∷ [])
added_body c n begun old new [] body packet is_begun is added h = absurd (both_ways begun h.0 is_begun)
added_body c n begun old new (b ∷ bodies) body packet is_begun is added h = (
  is_begun,
  subst (λ (g : Group). Holds new [] (Some g)) (more_with c n (b ∷ bodies) body packet is)
      (added [] (group_with c n (b ∷ bodies)) h.1),
)

-- no group is before it with one packet more
pub alone_more : (old new : PooledGroup) (packet : Packet) → is_some old.key ≡ true
    → ((past : List Numbered) (h : Group) → Holds old past (Some h) → Holds new past (Some (one_more h packet)))
    → IsAlone old → IsAlone new
alone_more old new packet some added alone = go alone.0 alone.1
  where
    go : (g : Option Group) → Holds old [] g → IsAlone new
    go None h = absurd (true≢false (sym some ∙ ap is_some h.0))
    go (Some g) h = (Some (one_more g packet), added [] g h)

none_before : (g : Option Group) → past_of [] g None ≡ []
none_before None = refl
none_before (Some g) = refl

-- nor before the first one
pub alone_first : (old new : PooledGroup) (key : Key) (packet : Packet)
    → ((past : List Numbered) (g : Option Group) → Holds old past g → ((n : ℕ) → None ≡ Some n → IsAbove past n)
    → Holds new (past_of past g None) (Some (one_packet key packet))) → IsAlone old → IsAlone new
alone_first old new key packet begun alone = (
  Some (one_packet key packet),
  subst (λ (past : List Numbered). Holds new past (Some (one_packet key packet)))
      (none_before alone.0) (begun [] alone.0 alone.1 (λ n e. absurd (false≢true (ap is_some e)))),
)

-- the block at one place more
slot_more : (c : Config) (n : ℕ) (pool : State) (plp first k : ℕ) → first ≤ k
    → slot_bodies c n pool plp first (k + 1 - first)
    ≡ slot_bodies c n pool plp first (k - first) ++ block_body c n plp (slice_index_or (list_at pool k) 0 []) ∷ []
slot_more c n pool plp first k l =
    let f : ℕ → Body = λ k. block_body c n plp (slice_index_or (list_at pool k) 0 []) in
    let size : k + 1 - first ≡ k - first + 1 = omega (arith, l) in
    let last : first + (k - first) ≡ k = omega (arith, l) in
    ap (λ (m : ℕ). map f (range_with_len first m)) size
    ∙ ap (map f) (range_more first (k - first))
    ∙ map-append f (range_with_len first (k - first)) ((first + (k - first)) ∷ [])
    ∙ ap (λ (m : ℕ). map f (range_with_len first (k - first)) ++ f m ∷ []) last

pub added_slot : (c : Config) (n : ℕ) (begun : Bool) (group : PooledGroup) (bodies : List Body) (pool : State)
    (plp first k : ℕ)
    → first ≤ k → HoldsBodies c n begun group
    ((bodies ++ slot_bodies c n pool plp first (k - first)) ++ block_body c n plp (slice_index_or (list_at pool k) 0 [])
    ∷ [])
    → HoldsBodies c n begun group (bodies ++ slot_bodies c n pool plp first (k + 1 - first))
added_slot c n begun group bodies pool plp first k l =
    subst (HoldsBodies c n begun group)
    (append_assoc bodies (slot_bodies c n pool plp first (k - first))
    (block_body c n plp (slice_index_or (list_at pool k) 0 []) ∷ [])
    ∙ ap (λ (l : List Body). bodies ++ l) (sym (slot_more c n pool plp first k l)))

-- the blocks of one PLP more
pub added_plp : (c : Config) (n : ℕ) (begun : Bool) (group : PooledGroup) (bodies : List Body) (pool : State)
    (starts : List ℕ)
    (plp : ℕ) → HoldsBodies c n begun group
    ((bodies ++ all_bodies c n pool starts plp)
    ++ slot_bodies c n pool plp (slice_index starts plp) (slice_index starts (plp + 1) - slice_index starts plp))
    → HoldsBodies c n begun group (bodies ++ all_bodies c n pool starts (plp + 1))
added_plp c n begun group bodies pool starts plp =
    let f : ℕ → List Body = λ plp. slot_bodies c n pool plp (slice_index starts plp)
    (slice_index starts (plp + 1) - slice_index starts plp) in
    subst (HoldsBodies c n begun group)
    (append_assoc bodies (all_bodies c n pool starts plp) (f plp)
    ∙ ap (λ (l : List Body). bodies ++ l)
    (sym (ap (flat_map f) (places_more plp) ∙ flat_map-append f (range_with_len 0 plp) (plp ∷ [])
    ∙ ap (λ (l : List Body). all_bodies c n pool starts plp ++ l) (append-nil (f plp)))))

-- a loop ends at its end, or where it began
pub same_end : (start end place : ℕ) → start ≤ place → (start ≤ end → place ≤ end) → (end ≤ start → place ≡ start)
    → end ≤ place
    → place - start ≡ end - start
same_end start end place low most none over =
    ⊎_elim (λ (e : start ≡ end). let same = none (omega arith) in omega (arith, e, same))
    (⊎_elim (λ (l : start < end). let high = most (omega arith) in omega (arith, high, over))
    (λ (l : end < start). let same = none (omega arith) in omega (arith, l, same))) (cases_order start end)
