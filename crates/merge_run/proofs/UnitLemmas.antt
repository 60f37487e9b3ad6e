-- A unit was given, or none.
use Rattle.std.proofs.Common.{◌≡◌, ℕ, ◌%◌, Bool, List, length, ap, ap₂, ◌∙◌}
use Rattle.plp_config.specs.declared.config.Config.{Config}
use Rattle.t2mi_packet.specs.declared.packet.Body.{Body}
use Rattle.frame_writer.specs.FirstPacket.{from_step}
use Rattle.frame_writer.specs.FramePackets.{l1_body}
use Rattle.frame_writer.specs.Left.{CanBeSent, blocks_left}
use Rattle.frame_writer.specs.Signalling.{pre_part, conf_part}
use Rattle.frame_writer.specs.declared.frame.PoolFrame.{PoolFrame}
use Rattle.feed_merge.specs.Frames.{IsFrameOf}
use Rattle.feed_merge.specs.FeedStandsFor as feed
use Rattle.feed_merge.specs.declared.feed.FrameFeed.{FrameFeed}
use Rattle.feed_merge.specs.StandsFor.{config_of, left_in}
use Rattle.feed_merge.specs.declared.merger.Merger.{Merger}
use Rattle.merge_run.specs.Sending.{left_for}
use Rattle.feed_merge.proofs.BothCameLemmas.{number_of}

-- what is left of a frame is what is left of it where it waits
pub left_is : (g : Merger) (f : FrameFeed) (frame : PoolFrame) → IsFrameOf f frame → feed.config_of f ≡ config_of g
    → left_in g frame ≡ left_for g f
left_is g f frame is network =
    let pre : frame.pre ≡ pre_part (config_of g) = is.pre ∙ ap pre_part network in
    let conf : frame.conf ≡ conf_part (config_of g) = is.conf ∙ ap conf_part network in
    let n : ℕ = g.place.number in
    let c : Config = config_of g in
    ap₂ (λ (signal : Body) (blocks : List Body). from_step c n g.place.step signal blocks)
    (ap₂ (λ (a b : List Bool). l1_body c n a b frame.dynamic) pre conf
    ∙ ap (λ (d : List Bool). l1_body c n (pre_part c) (conf_part c) d) is.dynamic)
    (ap (blocks_left c (n % c.frames) g.place.plp g.place.place) is.lists)

-- a frame of a network is one of the same network
pub sent_in : {A : Type 0} (c k : Config) (frame : PoolFrame) → ∥ A ∥₁ → (A → c ≡ k) → CanBeSent c frame
    → CanBeSent k frame
sent_in c k frame came same can = record {
  pre = can.pre;
  conf = can.conf;
  dynamic = can.dynamic;
  plps = number_of _ _ came (λ x. can.plps ∙ ap (λ (q : Config). length q.plps) (same x));
  short = can.short;
}
