-- No packets, and one packet more.
use Rattle.std.proofs.Common.{◌≡◌, ℕ, zero, suc, ◌+◌, ◌*◌, ◌<◌, ◌≤◌, Bool, true, false, List, [], ◌∷◌, ◌++◌, map}
use Rattle.std.proofs.Common.{length, replicate, sum_by, Option, Some, None, refl, ap, ap₂, sym, subst, ◌∙◌, arith}
use Rattle.std.specs.Prelude.{slice_index, slice_get, if◌then◌else◌}
use Rattle.std.specs.List.{range_with_len}
use Rattle.std.specs.Option.{option_or}
use Rattle.std.proofs.lemmas.Bool.{false≢true}
use Rattle.std.proofs.lemmas.List.FromFn.{get_or-map-range_with_len}
use Rattle.std.proofs.lemmas.List.Sums.{sum_by-cons}
use Rattle.plp_config.specs.Places.{places}
use Rattle.linked_pool.specs.Pool.{chunks_for}
use Rattle.plp_config.specs.Capacity.{block_bytes}
use Rattle.plp_config.specs.declared.config.Config.{Config}
use Rattle.t2mi_packet.specs.declared.packet.Packet.{Packet}
use Rattle.t2mi_packet.specs.declared.packet.Stamp.{Stamp}
use Rattle.frame_groups.specs.Carried.{l1s_of, stamps_of}
use Rattle.frame_groups.specs.TestLaws.{TallyGrows}
use Rattle.frame_groups.specs.Tally.{Tally, tally, tally_with, unlike_behind}
use Rattle.frame_groups.specs.Tests.{capped}
use Rattle.open_group.specs.HoldsBlocks.{HoldsCounts, Held, held_of}
use Rattle.open_group.specs.HoldsL1.{HoldsL1, AddsL1}
use Rattle.open_group.specs.HoldsStamps.{AddsStamps, HoldsStamps}
use Rattle.open_group.specs.Parts.{parts_of}
use Rattle.open_group.specs.declared.blocks.HeldBlocks.{HeldBlocks}
use Rattle.open_group.specs.declared.l1.HeldL1.{HeldL1}
use Rattle.open_group.specs.declared.stamps.HeldStamps.{HeldStamps}

-- no packets
pub no_l1 : (c : Config) (held : HeldL1) → held.is_held ≡ false → held.alike ≡ true → HoldsL1 c held None true
no_l1 c held none alike = record {
  is-first = ap (λ (t : Bool). if t then Some (parts_of held.parts) else None) none;
  is-alike = alike;
  reads = λ yes. absurd (false≢true (sym none ∙ yes));
}

none_needed : (f : ℕ → ℕ) (a n : ℕ) → ((j : ℕ) → a ≤ j → j < a + n → f j ≡ 0) → sum_by f (range_with_len a n) ≡ 0
none_needed f a zero h = refl
none_needed f a (suc n) h =
    let x = sum_by-cons f a (range_with_len (a + 1) n) in
    let one = h a (omega arith) (omega arith) in
    let rest = none_needed f (a + 1) n (λ j low high. h j (omega arith) (omega arith)) in
    omega (arith, x, one, rest)

none_at : (c : Config) (plp : ℕ) → plp < length c.plps → slice_index (map (λ plp. 0) (places c)) plp ≡ 0
none_at c plp inside = get_or-map-range_with_len (λ plp. 0) 0 (length c.plps) plp plp 0 inside (omega arith)

zero_at : (n k : ℕ) → slice_index (replicate n 0) k ≡ 0
zero_at zero k = refl
zero_at (suc n) zero = refl
zero_at (suc n) (suc k) = zero_at n k

pub no_blocks : (c : Config) (held : HeldBlocks) (n m chunks : ℕ)
    → held_of held ≡ record {
      pool = held.pool;
      counts = replicate n 0;
      rights = replicate m 0;
      chunks = chunks;
      need = 0;
      known = true;
    }
    → HoldsCounts c held (tally c [])
no_blocks c held n m chunks e = record {
  counts = λ plp inside.
      ap (λ (b : Held). slice_index b.counts plp) e ∙ zero_at n plp ∙ ap capped (sym (none_at c plp inside));
  rights = λ plp inside.
      ap (λ (b : Held). slice_index b.rights plp) e ∙ zero_at m plp ∙ ap capped (sym (none_at c plp inside));
  need = ap (λ (b : Held). b.need) e
      ∙ ap capped
      (sym (none_needed (λ plp. slice_index (map (λ plp. 0) (places c)) plp * chunks_for (block_bytes c plp))
      0 (length c.plps)
      (λ plp low high. ap (λ (k : ℕ). k * chunks_for (block_bytes c plp)) (none_at c plp (omega arith))
      ∙ no_times (chunks_for (block_bytes c plp)))));
  known = ap (λ (b : Held). b.known) e;
}
  where
    no_times : (k : ℕ) → 0 * k ≡ 0
    no_times k = omega arith

-- one packet more
module _ (grows : TallyGrows) (c : Config) (packets : List Packet) (p : Packet) where
  pub stamps_more : (old new : HeldStamps) → AddsStamps old new (stamps_of (p ∷ [])) → HoldsStamps old (tally c packets)
      → HoldsStamps new (tally c (packets ++ p ∷ []))
  stamps_more old new adds h =
      subst (HoldsStamps new) (sym (grows c packets p))
      (record {
        first = adds.first ∙ ap (λ (o : Option Stamp). option_or o (slice_get (stamps_of (p ∷ [])) 0)) h.first;
        unlike = adds.unlike ∙ ap₂ (λ (u o : Option Stamp). option_or u (unlike_behind o (stamps_of (p ∷ []))))
            h.unlike h.first;
      })

  pub l1_more : (old new : HeldL1) → AddsL1 c old new (l1s_of (p ∷ []))
      → HoldsL1 c old (tally c packets).l1 (tally c packets).alike
      → HoldsL1 c new (tally c (packets ++ p ∷ [])).l1 (tally c (packets ++ p ∷ [])).alike
  l1_more old new adds h = subst (λ (t : Tally). HoldsL1 c new t.l1 t.alike) (sym (grows c packets p))
      (adds (tally c packets).l1 (tally c packets).alike h)

  pub blocks_more : (old new : HeldBlocks) → ((t : Tally) → HoldsCounts c old t → HoldsCounts c new (tally_with c t p))
      → HoldsCounts c old (tally c packets) → HoldsCounts c new (tally c (packets ++ p ∷ []))
  blocks_more old new adds h = subst (HoldsCounts c new) (sym (grows c packets p)) (adds (tally c packets) h)
