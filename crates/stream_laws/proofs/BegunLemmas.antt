-- The interleaving frames that a frame carries and that began before it, and what survives of their blocks.
use Rattle.std.proofs.Common.{◌≡◌, ℕ, ◌/◌, ◌%◌, ◌<◌, ◌≤◌, ◌==◌, ◌&&◌, ◌||◌, Bool, true, false, cond, List, [], ◌∷◌}
use Rattle.std.proofs.Common.{length, get_or, Option, Some, None, refl, ap, sym, subst, ◌∙◌, arith, true≢false}
use Rattle.std.specs.Prelude.{is_some}
use Rattle.std.specs.List.{filter, filter_map, cons_option, items_where_true, list_any}
use Rattle.std.proofs.Math.Nat.{mul-div_cancel, mod-le}
use Rattle.std.proofs.lemmas.Bool.{cond-true, eqb-true, eqb-false}
use Rattle.std.proofs.lemmas.List.Folds.{Any-from_list_any, list_any_at}
use Rattle.std.proofs.lemmas.List.FromFn.{length-range_with_len, get_or-range_with_len}
use Rattle.bb_frame.specs.Laws.{BitCounts}
use Rattle.plp_config.specs.Capacity.{IsPlan}
use Rattle.plp_config.specs.InterleavingFrames.{interleaving_frame, is_first, begin_of}
use Rattle.plp_config.specs.Laws.{SuperframeBegins, BeginIsFirst, BeginIsLast, BeginByNumber, SpreadDividesFrames}
use Rattle.plp_config.specs.Laws.{FieldRange}
use Rattle.plp_config.specs.Places.{places}
use Rattle.plp_config.specs.Plps.{plp_at, spread}
use Rattle.plp_config.specs.Rules.{AllRules}
use Rattle.plp_config.specs.declared.config.Config.{Config}
use Rattle.t2mi_packet.specs.declared.packet.Body.{Body}
use Rattle.t2mi_packet.specs.declared.packet.Body.TheVariants.{Block, L1Current, Timestamp, Other}
use Rattle.mode_adapt.specs.Blocks.{plp_blocks, own_blocks}
use Rattle.frame_groups.specs.Modulated.{Numbered}
use Rattle.frame_groups.specs.Begun.{is_begin, packets_at}
use Rattle.frame_groups.specs.Carried.{body_block, blocks_of, has_length, right_blocks}
use Rattle.stream_laws.specs.DamageLaws.{WholeIsAll, IsMet}
use Rattle.stream_laws.specs.SentPackets.{Sent, packets_of, frame_packets}
use Rattle.stream_laws.specs.Survivors.{is_block_of, is_begun, carries, is_whole}
use Rattle.stream_laws.proofs.MadeLemmas.{all_right}
use Rattle.stream_laws.specs.SentFrames.{sent_frames}
use Rattle.stream_laws.proofs.BlockLemmas.{blocks_long}
use Rattle.stream_laws.proofs.CarriedLemmas.{HasFrame}

-- What the laws of interleaving frames say.
pub record Interleaving : Type 0 where
  pub superframe : SuperframeBegins
  pub first : BeginIsFirst
  pub last : BeginIsLast
  pub number : BeginByNumber
  pub frames : SpreadDividesFrames

-- a PLP that passes a test
pub place_of_any : (c : Config) (test : ℕ → Bool) → list_any test (places c) ≡ true
    → (plp : ℕ) × (plp < length c.plps) × (test plp ≡ true)
place_of_any c test e =
    let found = Any-from_list_any test (places c) e in
    let size = length-range_with_len 0 (length c.plps) in
    let inside : found.0 < length c.plps = let l = found.2 in omega (arith, l, size) in
    let at = get_or-range_with_len 0 (length c.plps) found.0 found.1 inside in
    let is = found.3 in
    (found.1, omega (arith, is, at, inside), found.4)

-- ---- where they begin

-- the interleaving frame that a frame carries is the one that begins where it began
pub same_number : (laws : Interleaving) (c : Config) (plp n : ℕ) → AllRules c → plp < length c.plps
    → interleaving_frame c plp (begin_of c plp n) ≡ interleaving_frame c plp n
same_number laws c plp n rules inside =
    let some = (laws.frames c plp rules inside).0 in
    ap (λ (k : ℕ). k / spread c.plps plp) (laws.number c plp n)
    ∙ mul-div_cancel (n / spread c.plps plp) (omega (arith, some))

pub begun_own : (laws : Interleaving) (c : Config) (inputs : ℕ → List (List ℕ)) (plp n : ℕ) → AllRules c
    → plp < length c.plps
    → own_blocks c inputs (begin_of c plp n) plp ≡ plp_blocks c inputs (interleaving_frame c plp n) plp
begun_own laws c inputs plp n rules inside =
    cond-true {A = List (List Bool)} (is_first c plp (begin_of c plp n))
    (plp_blocks c inputs (interleaving_frame c plp (begin_of c plp n)) plp) [] (laws.first c plp n rules inside)
    ∙ ap (λ (m : ℕ). plp_blocks c inputs m plp) (same_number laws c plp n rules inside)

-- one that does not begin in a frame began before
pub begun_before : (c : Config) (plp n : ℕ) → is_first c plp n ≡ false → begin_of c plp n < n
begun_before c plp n e = grind (arith, eqb-false, mod-le)

pub begun_here : (c : Config) (plp n : ℕ) → is_first c plp n ≡ true → begin_of c plp n ≡ n
begun_here c plp n e = let none = eqb-true _ _ e in omega (arith, none)

-- from the first frame of a superframe on, none began before it
pub begun_late : (laws : Interleaving) (c : Config) (plp first n : ℕ) → AllRules c → plp < length c.plps
    → first % c.frames ≡ 0
    → first ≤ n → first ≤ begin_of c plp n
begun_late laws c plp first n rules inside begins low = laws.last c plp n first rules inside
    (laws.superframe c plp first rules inside begins) low

-- ---- what survives of them

pub block_some : (id : ℕ) (body : Body) → is_some (body_block id body) ≡ is_block_of id body
block_some id (Block frame_idx plp_id first bits) = go (plp_id == id)
  where
    go : (t : Bool) → is_some {T = List Bool} (cond t (Some bits) None) ≡ t
    go true = refl
    go false = refl
block_some id (L1Current frame_idx pre conf dynamic extension) = refl
block_some id (Timestamp stamp) = refl
block_some id (Other packet_type bits) = refl

-- the block that a sent packet carries
abbrev sent_block : Config → ℕ → Sent → Option (List Bool)
sent_block c plp s = body_block (plp_at c.plps plp).id s.packet.body

none_there : {Y : Type 0} (o : Option Y) (xs : List Y) → is_some o ≡ false → cons_option o xs ≡ xs
none_there None xs e = refl
none_there (Some y) xs e = absurd (true≢false e)

-- the blocks of a PLP among the packets of a frame are those of its blocks that are sent there
module _ (c : Config) (plp n : ℕ) where
  abbrev begun : Sent → Bool
  begun s = is_begun c plp n s

  abbrev in_frame : List Sent → List Sent
  in_frame sent = filter (λ (s : Sent). s.frame == begin_of c plp n) sent

  step : (s : Sent) (sent : List Sent) (t u : Bool) → is_some (sent_block c plp s) ≡ u
      → blocks_of c plp (packets_of (in_frame sent)) ≡ filter_map (sent_block c plp) (filter begun sent)
      → blocks_of c plp (packets_of (cond t (s ∷ in_frame sent) (in_frame sent)))
      ≡ filter_map (sent_block c plp) (cond (t && u) (s ∷ filter begun sent) (filter begun sent))
  step s sent false u is e = e
  step s sent true true is e = ap (cons_option (sent_block c plp s)) e
  step s sent true false is e =
      none_there (sent_block c plp s) (blocks_of c plp (packets_of (in_frame sent))) is ∙ e

  pub begun_blocks : (sent : List Sent) → blocks_of c plp (frame_packets (begin_of c plp n) sent)
      ≡ filter_map (sent_block c plp) (filter begun sent)
  begun_blocks [] = refl
  begun_blocks (s ∷ sent) = step s sent (s.frame == begin_of c plp n) (is_block_of (plp_at c.plps plp).id s.packet.body)
      (block_some (plp_at c.plps plp).id s.packet.body) (begun_blocks sent)

  or_second : (t u : Bool) → u ≡ true → (t || u) ≡ true
  or_second true u e = refl
  or_second false u e = e

  -- frame n carries them
  pub begun_carried : (s : Sent) → plp < length c.plps → begun s ≡ true → carries c n s ≡ true
  begun_carried s inside e =
      let size = length-range_with_len 0 (length c.plps) in
      let at : get_or (places c) plp 0 ≡ plp = get_or-range_with_len 0 (length c.plps) plp 0 inside ∙ omega arith in
      or_second (s.frame == n) (list_any (λ plp. is_begun c plp n s) (places c))
      (list_any_at (λ plp. is_begun c plp n s) (places c) plp 0 (omega (arith, inside, size))
      (subst (λ (j : ℕ). is_begun c j n s ≡ true) (sym at) e))

-- If frame n is whole, all blocks survive of the interleaving frames that it carries.
pub begun_survive : WholeIsAll → (c : Config) (sent : List Sent) (survival : List Bool) (plp n : ℕ)
    → length survival ≡ length sent → plp < length c.plps → is_whole c sent survival n ≡ true
    → blocks_of c plp (frame_packets (begin_of c plp n) (items_where_true survival sent))
    ≡ blocks_of c plp (frame_packets (begin_of c plp n) sent)
begun_survive all c sent survival plp n len inside w = grind (arith, begun_blocks, begun_carried)

-- ---- groups that are met

-- The blocks of the interleaving frames that frame n carries and that began before are among groups with numbers.
abbrev pub HaveBegun : Config → (ℕ → List (List ℕ)) → List Numbered → ℕ → Type 0
HaveBegun c inputs past n = (plp : ℕ) → plp < length c.plps → is_first c plp n ≡ false
    → (blocks_of c plp (packets_at past (begin_of c plp n)) ≡ plp_blocks c inputs (interleaving_frame c plp n) plp)
    × (right_blocks c plp (packets_at past (begin_of c plp n)) ≡ plp_blocks c inputs (interleaving_frame c plp n) plp)

module _ (laws : Interleaving) (c : Config) (plan : IsPlan c) (first m : ℕ) (survivors : List Sent)
    (past : List Numbered)
    (met : IsMet c.frames first m survivors past) where
  -- the group in which an interleaving frame began is what survives of that frame
  pub begun_met : (plp : ℕ) → plp < length c.plps → is_first c plp m ≡ false
      → packets_at past (begin_of c plp m) ≡ frame_packets (begin_of c plp m) survivors
  begun_met plp inside e = met.groups.there (begin_of c plp m)
      (begun_late laws c plp first m plan.rules inside met.begins met.before) (begun_before c plp m e)

  -- so is each group in which one begins that frame m carries
  pub begin_met : (b : ℕ) → b < m → is_begin c m b ≡ true → packets_at past b ≡ frame_packets b survivors
  begin_met b below e = grind (arith, place_of_any, eqb-true, begun_late, first)

pub have_begun : BitCounts → FieldRange → WholeIsAll → (laws : Interleaving) (c : Config) (inputs : ℕ → List (List ℕ))
    (plan : IsPlan c) (count first m : ℕ) (survival : List Bool) (past : List Numbered)
    → length survival ≡ length (sent_frames c inputs count)
    → IsMet c.frames first m (items_where_true survival (sent_frames c inputs count)) past
    → is_whole c (sent_frames c inputs count) survival m ≡ true
    → ((b : ℕ) → b < m → HasFrame c inputs b (frame_packets b (sent_frames c inputs count)))
    → HaveBegun c inputs past m
have_begun numbers field all laws c inputs plan count first m survival past len met w has plp inside e =
    let sent : List Sent = sent_frames c inputs count in
    let b : ℕ = begin_of c plp m in
    let k : ℕ = interleaving_frame c plp m in
    let blocks : blocks_of c plp (packets_at past b) ≡ plp_blocks c inputs k plp =
    ap (blocks_of c plp) (begun_met laws c plan first m (items_where_true survival sent) past met plp inside e)
    ∙ begun_survive all c sent survival plp m len inside w
    ∙ (has b (begun_before c plp m e)).blocks plp inside
    ∙ begun_own laws c inputs plp m plan.rules inside in (
      blocks,
      ap (filter (has_length c plp)) blocks ∙ all_right c plp (plp_blocks c inputs k plp)
          (blocks_long numbers field c inputs k plp),
    )
