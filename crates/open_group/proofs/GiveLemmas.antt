-- A group of which a record is given stands for what it stood for.
use Rattle.std.proofs.Common.{◌≡◌, true, List, Option, Some, None, ap, sym, subst, ◌∙◌, arith}
use Rattle.std.specs.Prelude.{slice_index}
use Rattle.frame_groups.specs.Groups.{Group}
use Rattle.frame_groups.specs.Modulated.{Numbered}
use Rattle.linked_pool.specs.Pool.{State, list_at}
use Rattle.plp_config.specs.declared.config.Config.{Config}
use Rattle.t2mi_packet.specs.declared.packet.Packet.{Packet}
use Rattle.frame_groups.specs.Tally.{Tally, tally}
use Rattle.open_group.specs.Holds.{HoldsPackets, Holds}
use Rattle.open_group.specs.HoldsBlocks.{HoldsCounts, HoldsLists, Held, held_of}
use Rattle.open_group.specs.HoldsL1.{HoldsL1}
use Rattle.open_group.specs.HoldsPast.{HoldsPast}
use Rattle.open_group.specs.HoldsStamps.{HoldsStamps}
use Rattle.open_group.specs.declared.blocks.HeldBlocks.{HeldBlocks}
use Rattle.open_group.specs.declared.group.PooledGroup.{PooledGroup}
use Rattle.open_group.specs.declared.l1.HeldL1.{HeldL1}
use Rattle.open_group.specs.declared.past.HeldPast.{HeldPast}
use Rattle.open_group.specs.declared.stamps.HeldStamps.{HeldStamps}

-- Only the pool may differ.
abbrev pub SameNumbers : HeldBlocks → HeldBlocks → Type 0
SameNumbers old new = held_of new ≡ record (held_of old) { pool = new.pool }

counts_still : (c : Config) (old new : HeldBlocks) (t : Tally) → SameNumbers old new → HoldsCounts c old t
    → HoldsCounts c new t
counts_still c old new t same h = record {
  counts = λ plp inside. ap (λ (b : Held). slice_index b.counts plp) same ∙ h.counts plp inside;
  rights = λ plp inside. ap (λ (b : Held). slice_index b.rights plp) same ∙ h.rights plp inside;
  need = ap (λ (b : Held). b.need) same ∙ h.need;
  known = ap (λ (b : Held). b.known) same ∙ h.known;
}

lists_still : (c : Config) (old new : HeldBlocks) (packets : List Packet) → SameNumbers old new → new.pool ≡ old.pool
    → HoldsLists c old packets → HoldsLists c new packets
lists_still c old new packets same pool h few plp inside =
    let need = ap (λ (b : Held). b.need) same in
    let chunks = ap (λ (b : Held). b.chunks) same in
    ap (λ (s : State). list_at s plp) pool ∙ h (omega (arith, need, chunks, few)) plp inside

-- the parts that stay
pub record Stays (old new : PooledGroup) : Type 0 where
  pub network : new.network ≡ old.network
  pub key : new.key ≡ old.key
  pub intact : new.intact ≡ true → old.intact ≡ true
  pub stamps : new.stamps ≡ old.stamps
  pub l1 : new.l1 ≡ old.l1
  pub past : new.past ≡ old.past
  pub numbers : SameNumbers old.blocks new.blocks
  pub pool : new.intact ≡ true → new.blocks.pool ≡ old.blocks.pool

packets_still : (old new : PooledGroup) (packets : List Packet) → Stays old new → new.blocks.pool ≡ old.blocks.pool
    → HoldsPackets old packets → HoldsPackets new packets
packets_still old new packets s pool h =
    let tallied : tally old.network packets ≡ tally new.network packets = ap (λ (c : Config). tally c packets)
    (sym s.network) in
    record {
      stamps =
          subst (HoldsStamps new.stamps) tallied
          (subst (λ (st : HeldStamps). HoldsStamps st (tally old.network packets))
          (sym s.stamps) h.stamps);
      l1 =
          subst (λ (c : Config). HoldsL1 c new.l1 (tally c packets).l1 (tally c packets).alike) (sym s.network)
          (subst (λ (l : HeldL1). HoldsL1 old.network l (tally old.network packets).l1
          (tally old.network packets).alike)
          (sym s.l1) h.l1);
      blocks = subst (λ (c : Config). HoldsCounts c new.blocks (tally c packets)) (sym s.network)
          (counts_still old.network old.blocks new.blocks (tally old.network packets) s.numbers h.blocks);
      lists = subst (λ (c : Config). HoldsLists c new.blocks packets) (sym s.network)
          (lists_still old.network old.blocks new.blocks packets s.numbers pool h.lists);
    }

past_still : (old new : PooledGroup) (past : List Numbered) → Stays old new → HoldsPast old.network old.past past
    → HoldsPast new.network new.past past
past_still old new past s h = subst (λ (c : Config). HoldsPast c new.past past) (sym s.network)
    (subst (λ (p : HeldPast). HoldsPast old.network p past) (sym s.past) h)

pub holds_still : (old new : PooledGroup) → Stays old new → (past : List Numbered) (g : Option Group) → Holds old past g
    → Holds new past g
holds_still old new s past None h = (s.key ∙ h.0, past_still old new past s h.1)
holds_still old new s past (Some g) h = record {
  key = s.key ∙ h.key;
  past-is = past_still old new past s h.past-is;
  counts = subst (λ (c : Config). HoldsCounts c new.blocks (tally c g.packets)) (sym s.network)
      (counts_still old.network old.blocks new.blocks (tally old.network g.packets) s.numbers h.counts);
  packets = λ intact. packets_still old new g.packets s (s.pool intact) (h.packets (s.intact intact));
}
