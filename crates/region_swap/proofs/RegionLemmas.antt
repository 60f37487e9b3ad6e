-- A region takes packets, ends frames and leaves their blocks.
use Rattle.std.proofs.Common.{◌≡◌, ◌≢◌, ℕ, zero, suc, inl, inr, ◌+◌, ◌-◌, ◌<◌, ◌≤◌, Bool, true, false, cond, List, []}
use Rattle.std.proofs.Common.{length, is_some, refl, ap, sym, subst, ◌∙◌, arith}
use Rattle.std.proofs.Math.Logic.{∥∥₁_map}
use Rattle.std.proofs.lemmas.Bool.{cases_eq}
use Rattle.std.proofs.lemmas.List.{length-map, get_or-set_same, get_or-set_other, length-set}
use Rattle.std.proofs.lemmas.List.Elements.{All-nil}
use Rattle.terms.specs.Bits.{bits_of}
use Rattle.gateway_core.proofs.InputsLemmas.{cont_next}
use Rattle.gateway_core.proofs.HoldsLemmas.{cont_packet, cont_end}
use Rattle.plp_config.specs.Capacity.{IsPlan}
use Rattle.plp_config.specs.InterleavingFrames.{interleaving_frame, is_first}
use Rattle.plp_config.specs.Laws.{SpreadDividesFrames}
use Rattle.plp_config.specs.Plps.{plp_at, spread}
use Rattle.plp_config.specs.declared.config.Config.{Config}
use Rattle.linked_pool.specs.Fits.{ListFits}
use Rattle.linked_pool.specs.Pool.{State, list_at, Others, cleared, empty}
use Rattle.mode_adapt.specs.Blocks.{plp_blocks, own_blocks, told_count}
use Rattle.mode_adapt.specs.Place.{AreShort, HasPlace}
use Rattle.gateway_core.specs.InputSoFar.{Told, with_packet, at_end, in_next, Continues}
use Rattle.gateway_core.specs.Lists.{bits_in, AllShort}
use Rattle.gateway_core.proofs.EpochLemmas.{begins_at_once, same_number}
use Rattle.gateway_core.proofs.FedLemmas.{wants}
use Rattle.region_swap.specs.RegionFed.{early_in, Supplies, HasTold, Serves, Gives}
use Rattle.gateway_core.specs.IsFed.{IsFed, IsSupplied, most}
use Rattle.gateway_core.specs.InputsStandFor.{HasCut}
use Rattle.gateway_core.specs.declared.input.Input.{Input}

-- ---- inputs that continue

-- an input that wants a packet has not ended
pub still : (i : Input) (c : Config) (plp : ℕ) (t : Told) (early : List (List Bool))
    → 0 < cond (is_some i.total) 0 (i.due - i.slot)
    → IsFed i c plp t early → t.ended ≡ false
still i c plp t early some h = (wants i.total t.ended (length t.packets) (i.due - i.slot) some h.total_is).still

-- ---- its pool

none_fits : (c : Config) (plp : ℕ) (blocks : List (List ℕ)) → blocks ≡ [] → ListFits c plp blocks
none_fits c plp blocks e = subst (ListFits c plp) (sym e) (record { few = omega arith; short = All-nil _ })

pub has_place : {i : Input} {pool : State} {sends : Bool} {next count : ℕ} {c : Config} {plp : ℕ}
    → Serves i pool sends next count c plp → HasPlace c plp pool plp
has_place {i} {pool} {sends} {next} {count} {c} {plp} s = record {
  enough = (let e = s.chunks in omega (arith, e));
  lists = s.lists;
  place = refl;
  others = λ other lt differ. none_fits c other (list_at pool other) (s.alone other differ);
}

-- a region whose list is free is ready for its packets
pub supplied : {i : Input} {pool : State} {sends : Bool} {next count : ℕ} {c : Config} {plp : ℕ} → sends ≡ false
    → Serves i pool sends next count c plp → ∥ IsSupplied i pool plp ∥₁
supplied {i} {pool} {sends} {next} {count} {c} {plp} free s =
    ∥∥₁_map s.told (λ (h : HasTold i pool sends next count c plp). record {
      config = c;
      plp = plp;
      told = h.told;
      place = has_place s;
      fed = rw free at h.stands.fed;
    })

-- the same with one list changed, and with what it was told
pub serves_on : {i j : Input} {was is : State} {sends b : Bool} {next m count n : ℕ} {c : Config} {plp : ℕ}
    → Others was is plp → (AllShort was → AllShort is) → most j ≡ most i → n ≤ (plp_at c.plps plp).blocks
    → (to : Told → Told) → ((t : Told) → Supplies i was sends next count c plp t → Supplies j is b m n c plp (to t))
    → Serves i was sends next count c plp → Serves j is b m n c plp
serves_on {i} {j} {was} {is} {sends} {b} {next} {m} {count} {n} {c} {plp} o short same few to stands s = record {
  place = s.place;
  lists = o.count ∙ s.lists;
  chunks = o.opened ∙ s.chunks;
  alone = λ other differ. o.lists other differ ∙ s.alone other differ;
  short = short s.short;
  most_is = same ∙ s.most_is;
  few = few;
  told = ∥∥₁_map s.told (λ (h : HasTold i was sends next count c plp).
      record { told = to h.told; stands = stands h.told h.stands });
}

pub same_lists : (pool : State) (plp : ℕ) → Others pool pool plp
same_lists pool plp = record { lists = λ other differ. refl; count = refl; opened = refl }

-- ---- one packet more, or the end

pub supplies_offer : (i j : Input) (was is : State) (sends : Bool) (next count : ℕ) (c : Config) (plp : ℕ)
    (t : Told) (packet : List ℕ)
    → sends ≡ false → 0 < cond (is_some i.total) 0 (i.due - i.slot)
    → (IsFed i c plp t (bits_in was plp) → IsFed j c plp (with_packet t packet) (bits_in is plp))
    → Supplies i was sends next count c plp t → Supplies j is sends next count c plp (with_packet t packet)
supplies_offer i j was is sends next count c plp t packet free some fed s =
    let here : IsFed i c plp t (bits_in was plp) = rw free at s.fed in
    record {
      fed = rw free (fed here);
      next_is = s.next_is;
      stays = λ input more off. s.stays input (cont_packet t packet input (still i c plp t (bits_in was plp) some here)
          more) off;
    }

pub supplies_end : (i j : Input) (pool : State) (sends : Bool) (next count : ℕ) (c : Config) (plp : ℕ) (t : Told)
    → (IsFed i c plp t (early_in sends pool plp) → IsFed j c plp (at_end t) (early_in sends pool plp))
    → Supplies i pool sends next count c plp t → Supplies j pool sends next count c plp (at_end t)
supplies_end i j pool sends next count c plp t fed s = record {
  fed = fed s.fed;
  next_is = s.next_is;
  stays = λ input more off. s.stays input (cont_end t input more) off;
}

-- ---- the end of a frame

-- a frame that goes on with an interleaving frame tells its blocks
pub told_same : (c : Config) (plp n : ℕ) (input : List (List ℕ)) → 1 ≤ spread c.plps plp
    → is_first c plp (n + 1) ≡ false
    → told_count c (λ _. input) (n + 1) plp ≡ told_count c (λ _. input) n plp
told_same c plp n input some off =
    ap (λ (m : ℕ). length (plp_blocks c (λ _. input) m plp)) (same_number c plp n some off)

own_here : (c : Config) (plp n : ℕ) (input : List (List ℕ)) → is_first c plp n ≡ true
    → own_blocks c (λ _. input) n plp ≡ plp_blocks c (λ _. input) (interleaving_frame c plp n) plp
own_here c plp n input on = rw on refl

own_none : (c : Config) (plp n : ℕ) (input : List (List ℕ)) → is_first c plp n ≡ false
    → own_blocks c (λ _. input) n plp ≡ []
own_none c plp n input off = rw off refl

pub gives_cut : (j : Input) (pool : State) (c : Config) (plp : ℕ) (t : Told) (count : ℕ) (input : List (List ℕ))
    → is_first c plp t.frame ≡ true → HasCut j c plp t pool count → Continues t input
    → Gives pool true count c plp t.frame input
gives_cut j pool c plp t count input on h more = record {
  blocks = h.blocks input more ∙ sym (own_here c plp t.frame input on);
  count_is = h.count_is ∙ sym (length-map (list_at pool plp) bits_of) ∙ ap length (h.blocks input more);
}

pub gives_pass : (i : Input) (pool : State) (next count : ℕ) (c : Config) (plp : ℕ) (t : Told) (input : List (List ℕ))
    → is_first c plp t.frame ≡ false → Supplies i pool false next count c plp t → Continues t input
    → Gives pool false count c plp t.frame input
gives_pass i pool next count c plp t input off s more = record {
  blocks = sym (own_none c plp t.frame input off);
  count_is = s.stays input more off;
}

pub supplies_cut : SpreadDividesFrames → (j : Input) (pool : State) (next count : ℕ) (c : Config) (plp : ℕ) (t : Told)
    → IsPlan c
    → plp < length c.plps → is_first c plp t.frame ≡ true → next ≡ t.frame → HasCut j c plp t pool count
    → Supplies j pool true (next + 1) count c plp (in_next t)
supplies_cut spreads j pool next count c plp t plan lt on e h = record {
  fed = h.fed;
  next_is = ap (λ (n : ℕ). n + 1) e;
  stays = λ input more off.
      (gives_cut j pool c plp t count input on h (cont_next t input more)).count_is
      ∙ sym (told_same c plp t.frame input (spreads c plp plan.rules lt).0 off);
}

pub supplies_pass : SpreadDividesFrames → (i j : Input) (pool : State) (sends : Bool) (next count : ℕ)
    (c : Config) (plp : ℕ) (t : Told)
    → IsPlan c → plp < length c.plps → is_first c plp t.frame ≡ false
    → (IsFed i c plp t (early_in sends pool plp) → IsFed j c plp (in_next t) (early_in sends pool plp))
    → Supplies i pool sends next count c plp t → Supplies j pool sends (next + 1) count c plp (in_next t)
supplies_pass spreads i j pool sends next count c plp t plan lt off fed s = record {
  fed = fed s.fed;
  next_is = ap (λ (n : ℕ). n + 1) s.next_is;
  stays = λ input more later. s.stays input (cont_next t input more) off
      ∙ sym (told_same c plp t.frame input (spreads c plp plan.rules lt).0 later);
}

-- ---- a list is emptied

pub cleared_here : (pool : State) (plp : ℕ) → plp < length pool.lists → list_at (cleared pool plp) plp ≡ []
cleared_here pool plp lt = get_or-set_same pool.lists plp [] [] lt

cleared_other : (pool : State) (plp other : ℕ) → other ≢ plp → list_at (cleared pool plp) other ≡ list_at pool other
cleared_other pool plp other differ = get_or-set_other pool.lists plp other [] [] differ

pub cleared_others : (pool : State) (plp : ℕ) → Others pool (cleared pool plp) plp
cleared_others pool plp = record {
  lists = λ other differ. cleared_other pool plp other differ;
  count = length-set pool.lists plp [];
  opened = refl;
}

pub cleared_short : (pool : State) (plp : ℕ) → plp < length pool.lists → AllShort pool → AllShort (cleared pool plp)
cleared_short pool plp lt short = λ j.
    elim (cases_eq j plp) [
      | inl same ↦ subst (λ (k : ℕ). AreShort (list_at (cleared pool plp) k)) (sym same)
          (subst AreShort (sym (cleared_here pool plp lt)) (All-nil _))
      | inr differ ↦ subst AreShort (sym (cleared_other pool plp j differ)) (short j)
    ]

pub supplies_leave : (i : Input) (pool is : State) (sends : Bool) (next count : ℕ) (c : Config) (plp : ℕ) (t : Told)
    → is ≡ cleared pool plp → plp < length pool.lists → sends ≡ true → Supplies i pool sends next count c plp t
    → Supplies i is false next count c plp t
supplies_leave i pool is sends next count c plp t e lt on s = record {
  fed = rw (e, cleared_here pool plp lt) (rw on at s.fed);
  next_is = s.next_is;
  stays = s.stays;
}

-- ---- the first frame

pub empty_list : (chunks lists plp : ℕ) → list_at (empty chunks lists) plp ≡ []
empty_list chunks zero plp = refl
empty_list chunks (suc lists) zero = refl
empty_list chunks (suc lists) (suc plp) = empty_list chunks lists plp

pub empty_short : (chunks lists : ℕ) → AllShort (empty chunks lists)
empty_short chunks lists = λ j. subst AreShort (sym (empty_list chunks lists j)) (All-nil _)

pub supplies_open : (i : Input) (pool : State) (c : Config) (plp chunks lists : ℕ) → pool ≡ empty chunks lists
    → IsFed i c plp (record { packets = []; ended = false; frame = 0 }) []
    → Supplies i pool false 0 0 c plp (record { packets = []; ended = false; frame = 0 })
supplies_open i pool c plp chunks lists e fed = record {
  fed = rw (e, empty_list chunks lists plp) fed;
  next_is = refl;
  stays = λ input more off. absurd (let z : true ≡ false = sym (begins_at_once c plp) ∙ off in cc);
}
