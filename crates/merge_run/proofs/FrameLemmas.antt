-- What is begun is the frame of the record.
use Rattle.std.proofs.Common.{◌≡◌, ℕ, Bool, List, [], ◌∷◌, ◌++◌, ap, ap₂, sym, subst, ◌∙◌, append-nil}
use Rattle.std.specs.List.{AllByRecursion}
use Rattle.std.proofs.lemmas.Grind.{flat_map-append}
use Rattle.plp_config.specs.Capacity.{IsPlan}
use Rattle.plp_config.specs.declared.config.Config.{Config}
use Rattle.t2mi_packet.specs.declared.packet.Body.{Body}
use Rattle.frame_groups.specs.Groups.{Group, groups}
use Rattle.frame_groups.specs.Modulated.{FrameRecord, Content, past_after}
use Rattle.frame_groups.specs.Modulated.Content.{Whole}
use Rattle.frame_groups.specs.Tests.{rules}
use Rattle.frame_writer.specs.Carried.{of_frame}
use Rattle.t2mi_stream.specs.Units.{accepted_of}
use Rattle.modulator.specs.Laws.{DuePass, IsRight}
use Rattle.modulator.specs.Modulating.{packets_of}
use Rattle.modulator.specs.StandsFor.{records_due}
use Rattle.open_group.specs.Shown.{Shows}
use Rattle.open_group.specs.Written.{content_view}
use Rattle.frame_writer.specs.Bodies.{pool_bodies}
use Rattle.frame_writer.specs.Left.{bodies_of}
use Rattle.frame_writer.specs.Signalling.{pre_part, conf_part}
use Rattle.frame_writer.specs.declared.frame.PoolFrame.{PoolFrame}
use Rattle.feed_merge.specs.Frames.{IsFrameOf, dynamic_of, lists_of}
use Rattle.feed_merge.specs.FeedStandsFor.{config_of}
use Rattle.feed_merge.specs.declared.feed.FrameFeed.{FrameFeed}
use Rattle.stream_laws.specs.FormedLaws.{ShownIsSent}
use Rattle.stream_laws.specs.Remade.{NumberedView, view_bodies, frame_pairs, remade_bodies}
use Rattle.merge_run.specs.Sending.{frame_by}
use Rattle.feed_merge.proofs.BothFeedLemmas.{one_of}

-- one frame more
pub pushed : (c : Config) (frames : List NumberedView) (f : NumberedView) (bodies : List Body)
    → bodies ≡ view_bodies c f.number f.view
    → remade_bodies c frames ++ of_frame f.number bodies ≡ remade_bodies c (frames ++ f ∷ [])
pushed c frames f bodies is =
    ap (λ (l : List Body). remade_bodies c frames ++ of_frame f.number l) is
    ∙ sym (flat_map-append (frame_pairs c) frames (f ∷ [])
    ∙ ap (λ (l : List (ℕ × Body)). remade_bodies c frames ++ l) (append-nil (frame_pairs c f)))

-- what a feed shows of the record that waits is what its packets carry
pub sent : DuePass → ShownIsSent → (c : Config) (ended : Bool) (bytes : List ℕ) (given : List FrameRecord)
    (x : FrameRecord)
    (later : List FrameRecord) (g : Group) (f : PoolFrame) (feed : FrameFeed) → IsPlan c
    → records_due c ended bytes ≡ given ++ x ∷ later
    → x.content ≡ Whole g → Shows c g.packets (dynamic_of feed) (lists_of feed) → config_of feed ≡ c → IsFrameOf feed f
    → bodies_of c x.number f ≡ view_bodies c x.number (frame_by c x).view
sent pass law c ended bytes given x later g f feed plan all content shows network is =
    let gs : List Group = groups c.frames (packets_of (accepted_of c.pid bytes)) in
    let right : AllByRecursion (IsRight c gs) (given ++ x ∷ later) =
    subst (AllByRecursion (IsRight c gs)) all (pass c ended bytes) in
    let p = one_of (IsRight c gs) given x later right g content in
    ap₂ (λ (a b : List Bool). pool_bodies c x.number a b f.dynamic f.blocks.now.lists) (is.pre ∙ ap pre_part network)
    (is.conf ∙ ap conf_part network)
    ∙ ap₂ (pool_bodies c x.number (pre_part c) (conf_part c)) is.dynamic is.lists
    ∙ law c (past_after (rules c) [] p.before) x.number g.packets (dynamic_of feed) (lists_of feed) plan p.none shows
    ∙ ap (λ (k : Content). view_bodies c x.number (content_view c x.number k)) (sym content)
