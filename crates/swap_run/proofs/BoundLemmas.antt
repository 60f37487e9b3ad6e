-- How many bytes a frame gives with the PLP replaced.
use Rattle.std.proofs.Common.{◌≡◌, ℕ, ◌+◌, ◌-◌, ◌*◌, ◌%◌, ◌==◌, ◌<◌, ◌≤◌, Bool, true, false, cond, List, [], ◌∷◌, ◌++◌}
use Rattle.std.proofs.Common.{length, None, arith, length-append}
use Rattle.std.specs.Prelude.{nat_le, nat_lt, ◌&&◌}
use Rattle.std.specs.List.{filter}
use Rattle.std.proofs.lemmas.List.{length-map}
use Rattle.terms.proofs.CaseLemmas.{bool_cases}
use Rattle.std.proofs.lemmas.Bool.{or_parts}
use Rattle.plp_config.specs.Capacity.{IsPlan}
use Rattle.plp_config.specs.InterleavingFrames.{interleaving_frame, is_first}
use Rattle.plp_config.specs.Laws.{FieldRange}
use Rattle.plp_config.specs.Rules.{BlockLimit}
use Rattle.plp_config.specs.declared.config.Config.{Config}
use Rattle.record_laws.specs.Frames.{sent_block}
use Rattle.record_laws.specs.Laws.{ToldCountsFit}
use Rattle.mode_adapt.specs.Blocks.{own_blocks, told_count, plp_blocks}
use Rattle.t2mi_packet.specs.declared.packet.Body.{Body}
use Rattle.t2mi_stream.specs.PiperStandsFor.{waiting_of as piper_waiting, is_finished}
use Rattle.ts_packet.specs.declared.sizes.TheConstants.{PAYLOAD}
use Rattle.site_frame.specs.Record.{Block}
use Rattle.site_frame.specs.declared.reading.RecordView.{RecordView}
use Rattle.site_frame.specs.declared.reading.RecordView.TheVariants.{Frame, Muted}
use Rattle.frame_writer.specs.Flowing.{packet_bound, at_hand}
use Rattle.frame_writer.specs.FramePackets.{with_stamp}
use Rattle.stream_laws.specs.Formed.{IsFormed}
use Rattle.stream_laws.specs.Remade.{record_bodies, view_bodies, signal_of}
use Rattle.stream_laws.proofs.BlockLemmas.{count_at}
use Rattle.frame_writer.proofs.CarriedLemmas.{stamp_count}
use Rattle.feed_merge.proofs.BoundLemmas.{few_bodies, bodies_count}
use Rattle.region_swap.specs.StandsFor.{has_unit, bytes_left}
use Rattle.region_swap.specs.Swapped.{swapped_view, swapped_counts, post_with_counts, replaced, blocks_among}
use Rattle.region_swap.specs.Swapped.{input_blocks, is_among}
use Rattle.region_swap.specs.declared.swapper.Swapper.{Swapper}
use Rattle.swap_run.specs.Shown.{frame_bytes}

-- if no unit is complete, fewer bytes wait than one has
pub idle_left : (s : Swapper) → has_unit s ≡ false → bytes_left s [] < 184
idle_left s idle =
    let off = or_parts (nat_le PAYLOAD (at_hand s.flow.outlet)) (is_finished s.flow.outlet.piper
    && nat_lt 0 (piper_waiting s.flow.outlet.piper))
    idle in
    less (at_hand s.flow.outlet) off.0
  where
    less : (n : ℕ) → nat_le PAYLOAD n ≡ false → n + 0 < 184
    less n e = grind (arith)

filter_few : (test : Block → Bool) (blocks : List Block) → length (filter test blocks) ≤ length blocks
filter_few test [] = omega arith
filter_few test (b ∷ blocks) =
    let rest = filter_few test blocks in
    bool_cases (test b) (λ on. rw on (omega (arith, rest))) (λ off. rw off (omega (arith, rest)))

stamp_least : (c : Config) (n : ℕ) (bodies : List Body) → length bodies ≤ length (with_stamp c n bodies)
stamp_least c n bodies = bool_cases (n % c.frames == 0) (λ e. rw e (omega arith)) (λ e. rw e (omega arith))

-- a PLP sends no more blocks in a frame than its interleaving frame has
own_few : ToldCountsFit → (c : Config) (plp n : ℕ) (input : List (List ℕ)) → IsPlan c → plp < length c.plps
    → length (input_blocks c plp input n) ≤ 1023
own_few told c plp n input plan lt =
    let size = length-map (own_blocks c (λ _. input) n plp) (sent_block c plp) in
    let most = (told c (λ _. input) n plan).within plp lt in
    let at = count_at c (λ _. input) n plp lt in
    let limit = plan.rules BlockLimit plp lt in
    let less = fewer (is_first c plp n) in
    omega (arith, size, most, at, limit.1, less)
  where
    fewer : (b : Bool) → length (cond b (plp_blocks c (λ _. input) (interleaving_frame c plp n) plp) []) ≤ told_count
        c (λ _. input) n plp
    fewer true = omega arith
    fewer false = omega arith

-- so a frame has no more packets than so many
pub few_swapped : FieldRange → ToldCountsFit → (c : Config) (plp n : ℕ) (input : List (List ℕ)) (view : RecordView)
    → IsPlan c
    → plp < length c.plps → IsFormed c n view
    → packet_bound * length (view_bodies c n (swapped_view c plp input n view)) + 1000 ≤ frame_bytes
few_swapped field told c plp n input (Muted moment) plan lt formed = absurd formed
few_swapped field told c plp n input (Frame moment pre post blocks cells) plan lt formed =
    let was = few_bodies field c n (Frame moment pre post blocks cells) plan formed in
    let least = stamp_least c n (signal_of c n pre post ∷ record_bodies (n % c.frames) None blocks) in
    let count = bodies_count (n % c.frames) None blocks in
    let own : List Block = input_blocks c plp input n in
    let front : List Block = blocks_among c 0 plp blocks in
    let behind : List Block = blocks_among c (plp + 1) (length c.plps - (plp + 1)) blocks in
    let post_now : List _ = post_with_counts c n (swapped_counts c plp input n post) post in
    let most = stamp_count c n (signal_of c n pre post_now ∷ record_bodies (n % c.frames) None
    (replaced c plp own blocks)) in
    let now = bodies_count (n % c.frames) None (replaced c plp own blocks) in
    let a = length-append front own in
    let b = length-append (front ++ own) behind in
    let x = filter_few (λ (q : Block). is_among c 0 plp q.plp_id) blocks in
    let y = filter_few (λ (q : Block). is_among c (plp + 1) (length c.plps - (plp + 1)) q.plp_id) blocks in
    let few = own_few told c plp n input plan lt in
    omega (arith, was, least, count, most, now, a, b, x, y, few)
