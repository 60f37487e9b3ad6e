-- Whether the blocks have room, by the numbers that are held.
use Rattle.std.proofs.Common.{◌≡◌, ℕ, ◌<◌, ◌^◌, List, ap, sym, ◌∙◌, ⊎_elim, arith}
use Rattle.std.specs.Prelude.{nat_le}
use Rattle.std.proofs.lemmas.Bool.{cases_order, le-leb, lt-leb}
use Rattle.plp_config.specs.declared.config.Config.{Config}
use Rattle.t2mi_packet.specs.declared.packet.Packet.{Packet}
use Rattle.frame_groups.proofs.TallyLemmas.{need_is}
use Rattle.frame_groups.specs.Tally.{tally}
use Rattle.frame_groups.specs.Tests.{pool_need, pool_chunks, capped}
use Rattle.open_group.specs.HoldsBlocks.{HoldsCounts}
use Rattle.open_group.specs.Signals.{fits_pool}
use Rattle.open_group.specs.declared.blocks.HeldBlocks.{HeldBlocks}

capped_within : (n most : ℕ) → most < 2 ^ 32 → nat_le (capped n) most ≡ nat_le n most
capped_within n most small =
    ⊎_elim
    (λ (e : n ≡ most). le-leb (capped n) most (omega arith) ∙ sym (le-leb n most (omega arith)))
    (⊎_elim (λ (l : n < most). le-leb (capped n) most (omega arith) ∙ sym (le-leb n most (omega arith)))
    (λ (l : most < n). lt-leb (capped n) most (omega arith) ∙ sym (lt-leb n most l))) (cases_order n most)

pub told_fits : (c : Config) (held : HeldBlocks) (packets : List Packet) → HoldsCounts c held (tally c packets)
    → held.chunks ≡ pool_chunks c → held.chunks < 2 ^ 32 → nat_le held.need held.chunks ≡ fits_pool c packets
told_fits c held packets counts chunks small =
    ap (λ (n : ℕ). nat_le n held.chunks) (counts.need ∙ ap capped (sym (need_is c packets)))
    ∙ capped_within (pool_need c packets) held.chunks small
    ∙ ap (nat_le (pool_need c packets)) chunks
