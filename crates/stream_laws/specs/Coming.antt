-- What comes of frames that were sent again.
use Rattle.std.specs.Prelude.{◌≡◌, true, ℕ, ◌+◌, ◌-◌, ◌%◌, ◌==◌, ◌||◌, ◌<◌, Bool, List, [], ◌∷◌, map, Option, Some}
use Rattle.std.specs.Prelude.{None, if◌then◌else◌}
use Rattle.std.specs.List.{range_with_len, list_all, AllByRecursion}
use Rattle.std.specs.Option.{option_map_or}
use Rattle.plp_config.specs.Capacity.{IsPlan}
use Rattle.plp_config.specs.Emission.{emission}
use Rattle.plp_config.specs.InterleavingFrames.{is_first, begin_of}
use Rattle.plp_config.specs.Places.{places}
use Rattle.plp_config.specs.declared.config.Config.{Config}
use Rattle.plp_config.specs.declared.moment.TheConstants.{MOST_FRAMES}
use Rattle.ts_packet.specs.TsFile.{joined}
use Rattle.t2mi_stream.specs.Pipe.{pipe}
use Rattle.frame_groups.specs.Modulated.{modulated}
use Rattle.frame_groups.specs.Tests.{rules}
use Rattle.record_laws.specs.Frames.{HasByteIds}
use Rattle.open_group.specs.Written.{content_view}
use Rattle.site_frame.specs.declared.reading.RecordView.{RecordView}
use Rattle.site_frame.specs.declared.reading.RecordView.TheVariants.{Muted}
use Rattle.modulator.specs.StandsFor.{records_due}
use Rattle.stream_laws.specs.Carrying.{IsWritten, blocks_in, plp_num_blocks}
use Rattle.stream_laws.specs.Remade.{NumberedView, remade_bodies, remade_packets, AreSpaced, Rise}
use Rattle.stream_laws.specs.SentPackets.{Sent, packets_of}
use Rattle.stream_laws.specs.SentFrames.{sent_from}

-- the packets of frames, as they are sent frame by frame
abbrev pub remade_sent : Config → List NumberedView → List Sent
remade_sent c frames = sent_from c 0 (remade_bodies c frames)

-- the frame with a number among frames
abbrev pub frame_at : ℕ → List NumberedView → Option NumberedView
frame_at n [] = None
frame_at n (f ∷ frames) = if f.number == n then Some f else frame_at n frames

-- how many blocks of a PLP its record has: none, if it is not among them
abbrev pub blocks_at : Config → ℕ → List NumberedView → ℕ → ℕ
blocks_at c plp frames n = option_map_or (λ f. blocks_in c plp f.view) (frame_at n frames) 0

-- of each PLP whose interleaving frame began in an earlier frame, that one has as many blocks as this one tells
abbrev pub is_complete : Config → List NumberedView → NumberedView → Bool
is_complete c frames f = list_all
    (λ plp. is_first c plp f.number || (blocks_at c plp frames (begin_of c plp f.number) == plp_num_blocks
    c plp f.view)) (places c)

-- the record that must come of number n: that of the frame, if it is there and complete, or a muted one
abbrev pub complete_view : Config → List NumberedView → ℕ → Option NumberedView → RecordView
complete_view c frames n None = Muted (emission c n)
complete_view c frames n (Some f) = if is_complete c frames f then f.view else Muted (emission c n)

abbrev pub view_at : Config → List NumberedView → ℕ → RecordView
view_at c frames n = complete_view c frames n (frame_at n frames)

-- the number behind the last frame
abbrev pub end_after : ℕ → List NumberedView → ℕ
end_after from [] = from
end_after from (f ∷ frames) = end_after (f.number + 1) frames

-- A modulator wrote the frame, whose number one may have.
abbrev pub IsWrittenFrame : Config → NumberedView → Type 0
IsWrittenFrame c f = IsWritten c f.number f.view × (f.number < MOST_FRAMES)

-- If a modulator wrote frames, their numbers rise and are spaced, and the first begins a superframe, then what comes of
-- their packets runs from the first to the last: each of them that is complete, and every other number muted.
abbrev pub RemadeComesBack : Type 0
RemadeComesBack = (c : Config) (f : NumberedView) (fs : List NumberedView) → IsPlan c
    → AllByRecursion (IsWrittenFrame c) (f ∷ fs) → Rise (f ∷ fs) → AreSpaced c (f ∷ fs) → f.number % c.frames ≡ 0
    → map (λ x. content_view c x.number x.content) (modulated (rules c) (packets_of (remade_sent c (f ∷ fs))))
    ≡ map (view_at c (f ∷ fs)) (range_with_len f.number (end_after f.number (f ∷ fs) - f.number))

-- The packets that are accepted of the units of such frames are theirs, so the same comes of the bytes.
abbrev pub RemadeArrives : Type 0
RemadeArrives = (c : Config) (frames : List NumberedView) → IsPlan c → HasByteIds c
    → AllByRecursion (IsWrittenFrame c) frames
    → records_due c true (joined (pipe c.pid (remade_packets c frames))) ≡ modulated (rules c)
    (packets_of (remade_sent c frames))
