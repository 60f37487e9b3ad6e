-- What the packets of a frame carry, by its dynamic part and the blocks of each PLP.
use Rattle.std.proofs.Common.{◌≡◌, ℕ, zero, suc, ◌+◌, ◌-◌, ◌*◌, ◌%◌, ◌<◌, ◌≤◌, ◌==◌, ◌&&◌, Bool, true, false, List, []}
use Rattle.std.proofs.Common.{◌∷◌, ◌++◌, length, map, Option, None, refl, ap, ap₂, sym, subst, ◌∙◌, ⊎_elim, arith}
use Rattle.std.proofs.Common.{append-nil}
use Rattle.std.specs.Prelude.{slice_index, if◌then◌else◌}
use Rattle.std.specs.List.{filter, filter_map, cons_option, flat_map, range_with_len, list_all}
use Rattle.std.proofs.lemmas.Bool.{cases_eq, cases_lt, and_from, cond_both, cond-true, cond-false, eq-eqb, ne_eqb}
use Rattle.std.proofs.lemmas.List.Elements.{filter_map-append}
use Rattle.std.proofs.lemmas.List.Folds.{list_any_at, list_all-append, list_all-map}
use Rattle.std.proofs.lemmas.List.FromFn.{length-range_with_len, get_or-range_with_len}
use Rattle.plp_config.specs.Capacity.{IsPlan, block_bytes}
use Rattle.plp_config.specs.Places.{places}
use Rattle.plp_config.specs.Plps.{plp_at}
use Rattle.plp_config.specs.Rules.Rule.{DistinctIds}
use Rattle.plp_config.specs.declared.config.Config.{Config}
use Rattle.l1_signal.specs.L1Configurable.{conf_bits}
use Rattle.l1_signal.specs.L1Of.{pre_of, conf_of}
use Rattle.l1_signal.specs.L1Pre.{pre_bits}
use Rattle.t2mi_packet.specs.declared.packet.Body.{Body}
use Rattle.t2mi_packet.specs.declared.packet.Body.TheVariants.{Block}
use Rattle.t2mi_packet.specs.declared.packet.Packet.{Packet}
use Rattle.frame_groups.specs.Carried.{body_block, has_length, L1Parts, body_l1, body_stamp, l1s_of, stamps_of}
use Rattle.frame_groups.specs.Carried.{blocks_of, right_blocks}
use Rattle.frame_groups.specs.Tests.{begins_superframe, body_known, is_known}
use Rattle.frame_writer.specs.FramePackets.{stamp_of, l1_body, with_stamp}
use Rattle.gateway_core.specs.Packets.{block_bodies, plp_bodies}
use Rattle.stream_laws.proofs.SizeLemmas.{AreLong}

abbrev pub all_bodies : List Packet → List Body
all_bodies packets = map (λ (p : Packet). p.body) packets

-- what packets carry is what their bodies do
pub carried_by : {Y : Type 0} (f : Body → Option Y) (packets : List Packet)
    → filter_map (λ (p : Packet). f p.body) packets
    ≡ filter_map f (all_bodies packets)
carried_by f [] = refl
carried_by f (p ∷ packets) = ap (cons_option (f p.body)) (carried_by f packets)

-- ---- the blocks of PLPs

none_blocks : {Y : Type 0} (f : Body → Option Y) (frame_idx id : ℕ)
    → ((first : Bool) (bits : List Bool) → f (Block frame_idx id first bits) ≡ None)
    → (first : Bool) (blocks : List (List Bool))
    → filter_map f (block_bodies frame_idx id first blocks) ≡ []
none_blocks f frame_idx id h first [] = refl
none_blocks f frame_idx id h first (b ∷ blocks) = rw (h first b) (none_blocks f frame_idx id h false blocks)

same_blocks : (frame_idx id : ℕ) (first : Bool) (blocks : List (List Bool))
    → filter_map (body_block id) (block_bodies frame_idx id first blocks) ≡ blocks
same_blocks frame_idx id first [] = refl
same_blocks frame_idx id first (b ∷ blocks) =
    rw (eq-eqb id id refl) (ap (λ (l : List (List Bool)). b ∷ l) (same_blocks frame_idx id false blocks))

-- what one PLP gives among others that give nothing
record Among {Y : Type 0} (f : Body → Option Y) (plp a k : ℕ) (bodies : ℕ → List Body) (own : List Y) : Type 0 where
  pub there : a ≤ plp → plp < a + k → filter_map f (flat_map bodies (range_with_len a k)) ≡ own
  pub behind : plp < a → filter_map f (flat_map bodies (range_with_len a k)) ≡ []

among : {Y : Type 0} (f : Body → Option Y) (count plp : ℕ) (bodies : ℕ → List Body) (own : List Y)
    → filter_map f (bodies plp)
    ≡ own → ((j : ℕ) → j < count → (j ≡ plp → ⊥) → filter_map f (bodies j) ≡ [])
    → (a k : ℕ) → a + k ≤ count → Among f plp a k bodies own
among f count plp bodies own mine others a zero l = record {
  there = λ x y. absurd (omega (arith, x, y));
  behind = λ x. refl;
}
among {Y = Y} f count plp bodies own mine others a (suc k) l =
    let rest = among f count plp bodies own mine others (a + 1) k (omega (arith, l)) in
    let tail : List Body = flat_map bodies (range_with_len (a + 1) k) in
    let split : filter_map f (bodies a ++ tail) ≡ filter_map f (bodies a) ++ filter_map f tail =
    filter_map-append f (bodies a) tail in
    record {
      there = λ x y. ⊎_elim
          (λ (e : a ≡ plp).
          split ∙ ap₂ (λ (u v : List Y). u ++ v) (ap (λ (j : ℕ). filter_map f (bodies j)) e ∙ mine)
          (rest.behind (omega (arith, e))) ∙ append-nil _)
          (λ (e : a ≡ plp → ⊥).
          split ∙ ap (λ (u : List Y). u ++ filter_map f tail) (others a (omega (arith, l)) e)
          ∙ rest.there (omega (arith, x, e)) (omega (arith, y)))
          (cases_eq a plp);
      behind = λ x. split ∙ ap (λ (u : List Y). u ++ filter_map f tail) (others a (omega (arith, l))
          (λ e. omega (arith, e, x)))
          ∙ rest.behind (omega (arith, x));
    }

none_over : {Y : Type 0} (f : Body → Option Y) (bodies : ℕ → List Body) → ((plp : ℕ) → filter_map f (bodies plp) ≡ [])
    → (a k : ℕ)
    → filter_map f (flat_map bodies (range_with_len a k)) ≡ []
none_over f bodies h a zero = refl
none_over f bodies h a (suc k) = rw (filter_map-append, h a) (none_over f bodies h (a + 1) k)

pub ids_differ : (c : Config) → IsPlan c → (i j : ℕ) → i < length c.plps → j < length c.plps → (i ≡ j → ⊥)
    → (plp_at c.plps i).id
    ≡ (plp_at c.plps j).id → ⊥
ids_differ c plan i j a b apart e = ⊎_elim
    (λ (l : i < j). plan.rules DistinctIds j b i l e)
    (λ (l : j ≤ i). plan.rules DistinctIds i a j (omega (arith, l, apart)) (sym e))
    (cases_lt i j)

-- ---- a frame

abbrev pub made_parts : Config → List Bool → L1Parts
made_parts c dynamic = record {
  pre = pre_bits (pre_of c);
  conf = conf_bits (conf_of c);
  dynamic = dynamic;
  extension = [];
}

abbrev pub made_l1 : Config → ℕ → List Bool → Body
made_l1 c n dynamic = l1_body c n (pre_bits (pre_of c)) (conf_bits (conf_of c)) dynamic

-- what its packets carry
abbrev pub made_bodies : Config → ℕ → List Bool → (ℕ → List (List Bool)) → List Body
made_bodies c n dynamic blocks = with_stamp c n (made_l1 c n dynamic ∷ plp_bodies c n blocks 0)

module _ (c : Config) (n : ℕ) (dynamic : List Bool) (blocks : ℕ → List (List Bool)) where
  abbrev of_plp : ℕ → List Body
  of_plp plp = block_bodies (n % c.frames) (plp_at c.plps plp).id true (blocks plp)

  no_blocks : {Y : Type 0} (f : Body → Option Y)
      → ((id : ℕ) (first : Bool) (bits : List Bool) → f (Block (n % c.frames) id first bits) ≡ None)
      → filter_map f (plp_bodies c n blocks 0) ≡ []
  no_blocks f h =
      none_over f of_plp (λ plp. none_blocks f (n % c.frames) (plp_at c.plps plp).id (h (plp_at c.plps plp).id)
      true (blocks plp))
      0 (length c.plps - 0)

  rest_l1 : filter_map body_l1 (made_l1 c n dynamic ∷ plp_bodies c n blocks 0) ≡ made_parts c dynamic ∷ []
  rest_l1 = ap (λ (l : List L1Parts). made_parts c dynamic ∷ l) (no_blocks body_l1 (λ id first bits. refl))

  pub frame_l1 : filter_map body_l1 (made_bodies c n dynamic blocks) ≡ made_parts c dynamic ∷ []
  frame_l1 = cond_both {A = List Body} (n % c.frames == 0) _ _ (λ l. filter_map body_l1 l ≡ made_parts c dynamic ∷ [])
      (λ t. rest_l1) (λ t. rest_l1)

  rest_stamps : filter_map body_stamp (made_l1 c n dynamic ∷ plp_bodies c n blocks 0) ≡ []
  rest_stamps = no_blocks body_stamp (λ id first bits. refl)

  pub frame_stamps : filter_map body_stamp (made_bodies c n dynamic blocks)
      ≡ (if begins_superframe c n then stamp_of c n ∷ [] else [])
  frame_stamps = grind (arith, rest_stamps)

  pub frame_blocks : IsPlan c → (plp : ℕ) → plp < length c.plps
      → filter_map (body_block (plp_at c.plps plp).id) (made_bodies c n dynamic blocks) ≡ blocks plp
  frame_blocks plan plp inside =
      let id : ℕ = (plp_at c.plps plp).id in
      let rest : filter_map (body_block id) (plp_bodies c n blocks 0) ≡ blocks plp =
      (among (body_block id) (length c.plps) plp of_plp (blocks plp) (same_blocks (n % c.frames) id true (blocks plp))
      (λ j l apart.
      none_blocks (body_block id) (n % c.frames) (plp_at c.plps j).id
      (λ first bits. cond-false _ _ _ (ne_eqb _ _ (ids_differ c plan j plp l inside apart))) true (blocks j))
      0 (length c.plps - 0) (omega arith)).there (omega arith) (omega (arith, inside)) in
      cond_both {A = List Body} (n % c.frames == 0) _ _ (λ l. filter_map (body_block id) l ≡ blocks plp)
      (λ t. rest) (λ t. rest)

-- ---- each block is one of a PLP, with its length

known_block : (c : Config) (frame_idx plp : ℕ) (first : Bool) (b : List Bool) → plp < length c.plps
    → length b ≡ 8 * block_bytes c plp → body_known c (Block frame_idx (plp_at c.plps plp).id first b) ≡ true
known_block c frame_idx plp first b inside long =
    let is : ℕ → Bool = λ j. ((plp_at c.plps plp).id == (plp_at c.plps j).id) && has_length c j b in
    let there : is plp ≡ true = and_from _ _ (eq-eqb (plp_at c.plps plp).id (plp_at c.plps plp).id refl)
    (eq-eqb _ _ long) in
    let size = length-range_with_len 0 (length c.plps) in
    let at : slice_index (places c) plp ≡ plp = get_or-range_with_len 0 (length c.plps) plp 0 inside ∙ omega arith in
    list_any_at is (places c) plp 0 (omega (arith, inside, size)) (subst (λ (j : ℕ). is j ≡ true) (sym at) there)

known_blocks : (c : Config) (frame_idx plp : ℕ) (first : Bool) (blocks : List (List Bool)) → plp < length c.plps
    → AreLong c plp blocks
    → list_all (body_known c) (block_bodies frame_idx (plp_at c.plps plp).id first blocks) ≡ true
known_blocks c frame_idx plp first [] inside h = refl
known_blocks c frame_idx plp first (b ∷ blocks) inside h =
    and_from _ _ (known_block c frame_idx plp first b inside h.0) (known_blocks c frame_idx plp false blocks inside h.1)

known_plps : (c : Config) (bodies : ℕ → List Body)
    → ((plp : ℕ) → plp < length c.plps → list_all (body_known c) (bodies plp) ≡ true) → (a k : ℕ)
    → a + k ≤ length c.plps
    → list_all (body_known c) (flat_map bodies (range_with_len a k)) ≡ true
known_plps c bodies h a zero l = refl
known_plps c bodies h a (suc k) l =
    list_all-append (body_known c) (bodies a) (flat_map bodies (range_with_len (a + 1) k))
    ∙ and_from _ _ (h a (omega (arith, l))) (known_plps c bodies h (a + 1) k (omega (arith, l)))

pub known_frame : (c : Config) (n : ℕ) (dynamic : List Bool) (blocks : ℕ → List (List Bool))
    → ((plp : ℕ) → AreLong c plp (blocks plp)) → list_all (body_known c) (made_bodies c n dynamic blocks) ≡ true
known_frame c n dynamic blocks long = grind (arith, known_plps, known_blocks, cond_both)

pub all_right : (c : Config) (plp : ℕ) (blocks : List (List Bool)) → AreLong c plp blocks
    → filter (has_length c plp) blocks ≡ blocks
all_right c plp [] h = refl
all_right c plp (b ∷ blocks) h = cond-true _ _ _ (eq-eqb _ _ h.0)
    ∙ ap (λ (l : List (List Bool)). b ∷ l) (all_right c plp blocks h.1)

-- ---- packets that carry an L1-current, the timestamp of a superframe, and blocks of each PLP

pub record Has (c : Config) (n : ℕ) (l1 : L1Parts) (own : ℕ → List (List Bool)) (packets : List Packet) : Type 0 where
  pub l1s : l1s_of packets ≡ l1 ∷ []
  pub stamps : stamps_of packets ≡ (if begins_superframe c n then stamp_of c n ∷ [] else [])
  pub blocks : (plp : ℕ) → plp < length c.plps → blocks_of c plp packets ≡ own plp
  pub right : (plp : ℕ) → plp < length c.plps → right_blocks c plp packets ≡ own plp
  pub known : list_all (is_known c) packets ≡ true

pub made_has : (c : Config) (n : ℕ) (dynamic : List Bool) (own : ℕ → List (List Bool)) → IsPlan c
    → ((plp : ℕ) → AreLong c plp (own plp)) → (packets : List Packet)
    → all_bodies packets ≡ made_bodies c n dynamic own → Has c n (made_parts c dynamic) own packets
made_has c n dynamic own plan long packets is =
    let each : (plp : ℕ) → plp < length c.plps → blocks_of c plp packets ≡ own plp =
    λ plp inside. carried_by (body_block (plp_at c.plps plp).id) packets
    ∙ ap (filter_map (body_block (plp_at c.plps plp).id)) is ∙ frame_blocks c n dynamic own plan plp inside in
    record {
      l1s = carried_by body_l1 packets ∙ ap (filter_map body_l1) is ∙ frame_l1 c n dynamic own;
      stamps = carried_by body_stamp packets ∙ ap (filter_map body_stamp) is ∙ frame_stamps c n dynamic own;
      blocks = each;
      right = λ plp inside. ap (filter (has_length c plp)) (each plp inside) ∙ all_right c plp (own plp) (long plp);
      known = sym (list_all-map (body_known c) (λ (p : Packet). p.body) packets) ∙ ap (list_all (body_known c)) is
          ∙ known_frame c n dynamic own long;
    }
