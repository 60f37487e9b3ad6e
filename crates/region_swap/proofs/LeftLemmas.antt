-- The packets that are left of a frame of which a PLP is replaced, one by one.
use Rattle.std.proofs.Common.{◌≡◌, ℕ, ◌<◌, ◌≤◌, Bool, true, false, List, [], length, ap, sym}
use Rattle.std.proofs.Common.{subst, ◌∙◌, arith, inl, inr}
use Rattle.std.specs.Prelude.{slice_index_or}
use Rattle.std.proofs.lemmas.Bool.{cases_eq, cases_lt}
use Rattle.std.proofs.lemmas.List.{get_or-set_same, get_or-set_other, get_or_past}
use Rattle.std.proofs.lemmas.List.Elements.{All-get_or}
use Rattle.plp_config.specs.declared.config.Config.{Config}
use Rattle.plp_config.specs.declared.moment.TheConstants.{MOST_FRAMES}
use Rattle.plp_config.specs.declared.plp.TheConstants.{MOST_BLOCK_BYTES}
use Rattle.linked_pool.specs.Pool.{list_at}
use Rattle.l1_signal.specs.declared.lengths.TheConstants.{MOST_DYN_BITS}
use Rattle.mode_adapt.specs.Place.{AreShort}
use Rattle.gateway_core.specs.Lists.{AllShort}
use Rattle.frame_writer.specs.Left.{CanBeSent}
use Rattle.region_swap.specs.Left.{own_list, lists_in, HasLists, HasWalks, CanBuild}
use Rattle.region_swap.specs.declared.place.SwapSource.{SwapSource}
use Rattle.region_swap.specs.declared.place.SwappedFrame.{SwappedFrame}

-- ---- the blocks of each PLP

pub list_own : (f : SwappedFrame) (plp : ℕ) → HasLists f → plp ≡ f.list
    → slice_index_or (lists_in f) plp [] ≡ own_list f.sends f.region.now f.list
list_own f plp h e =
    ap (λ (k : ℕ). slice_index_or (lists_in f) k []) e
    ∙ get_or-set_same f.frame.now.blocks.now.lists f.list (own_list f.sends f.region.now f.list) [] h.list

pub list_other : (f : SwappedFrame) (plp : ℕ) → (plp ≡ f.list → ⊥) → slice_index_or (lists_in f) plp
    [] ≡ list_at f.frame.now.blocks.now plp
list_other f plp differ =
    get_or-set_other f.frame.now.blocks.now.lists f.list plp (own_list f.sends f.region.now f.list) [] differ

-- no block of a list of short ones is longer
pub short_at : (blocks : List (List ℕ)) (place : ℕ) → AreShort blocks
    → length (slice_index_or blocks place []) ≤ MOST_BLOCK_BYTES
short_at blocks place short =
    elim (cases_lt place (length blocks)) [
      | inl lt ↦ All-get_or (λ (block : List ℕ). length block ≤ MOST_BLOCK_BYTES) blocks place [] lt short
      | inr le ↦ subst (λ (l : List ℕ). length l ≤ MOST_BLOCK_BYTES) (sym (get_or_past blocks place [] le))
          (omega arith)
    ]

-- nor one that is sent
pub all_short : (c : Config) (f : SwappedFrame) → HasLists f → CanBeSent c f.frame.now
    → AreShort (list_at f.region.now f.list)
    → (plp place : ℕ) → length (slice_index_or (slice_index_or (lists_in f) plp []) place []) ≤ MOST_BLOCK_BYTES
all_short c f h can short plp place =
    elim (cases_eq plp f.list) [
      | inl same ↦ subst (λ (l : List (List ℕ)). length (slice_index_or l place []) ≤ MOST_BLOCK_BYTES)
          (sym (list_own f plp h same))
          (own f.sends)
      | inr differ ↦ subst (λ (l : List (List ℕ)). length (slice_index_or l place []) ≤ MOST_BLOCK_BYTES)
          (sym (list_other f plp differ))
          (can.short plp place)
    ]
  where
    own : (b : Bool) → length (slice_index_or (own_list b f.region.now f.list) place []) ≤ MOST_BLOCK_BYTES
    own true = short_at (list_at f.region.now f.list) place short
    own false = omega arith

-- so it has what its packets carry
pub can_build : (c : Config) (s : SwapSource) (f : SwappedFrame) → s.place.number ≤ MOST_FRAMES
    → s.place.plp ≤ length c.plps
    → CanBeSent c f.frame.now → length f.dynamic.now ≤ MOST_DYN_BITS → f.list < length c.plps
    → length f.region.now.lists ≡ length c.plps
    → AllShort f.region.now → HasWalks s f → CanBuild s f c
can_build c s f early inside can dynamic list region short walks =
    let plps = can.plps in
    let lists : HasLists f = record { list = omega (arith, list, plps); same = omega (arith, region, plps) } in
    record {
      early = early;
      inside = inside;
      can = can;
      dynamic = dynamic;
      lists = lists;
      walks = walks;
      short = all_short c f lists can (short f.list);
    }
