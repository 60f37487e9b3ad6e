-- What is written of the packets of a frame is the frame.
use Rattle.std.proofs.Common.{◌≡◌, ℕ, List, Option, refl, arith}
use Rattle.terms.proofs.RangeLemmas.{flat_same}
use Rattle.bb_frame.specs.Laws.{BitCounts}
use Rattle.plp_config.specs.Laws.{FieldRange}
use Rattle.scheduler.specs.Laws.{ShapeFitsL1}
use Rattle.l1_signal.specs.Laws.{DynReadBack, DynWritten}
use Rattle.plp_config.specs.declared.config.Config.{Config}
use Rattle.scheduler.specs.Shape.{shape_of}
use Rattle.l1_signal.specs.L1Of.{post_bits}
use Rattle.record_laws.specs.Laws.{ToldCountsFit}
use Rattle.open_group.specs.Front.{post_with}
use Rattle.gateway_core.specs.Signalling.{dyn_part}
use Rattle.stream_laws.specs.FrameLaws.{FrameCarries, WrittenIsFrame}
use Rattle.stream_laws.proofs.CarriedLemmas.{HasFrame, has_frame}
use Rattle.stream_laws.proofs.FrameSignalLemmas.{frame_told}

pub post_is : (c : Config) (n : ℕ) (counts : List ℕ) → post_with c (dyn_part c n counts) ≡ post_bits
    c n (shape_of c counts)
unfolding post_bits dyn_part
post_is c n counts = refl

pub written_is_frame : BitCounts → FieldRange → ToldCountsFit → DynReadBack → DynWritten → ShapeFitsL1 → FrameCarries
    → WrittenIsFrame
written_is_frame numbers field counted back written law carries c inputs n m plan types l =
    grind (arith, HasFrame, has_frame, Option, frame_told, post_is, flat_same)
