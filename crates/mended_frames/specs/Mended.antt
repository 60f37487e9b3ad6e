-- The frames that are made of the groups of several feeds (ETSI TS 102 773, clause 5).
use Rattle.std.specs.Prelude.{ℕ, ◌+◌, not, Bool, true, false, is_some, List, [], ◌∷◌, map, find, Option, Some, None}
use Rattle.std.specs.Prelude.{option_map, option_to_list}
use Rattle.std.specs.Option.{option_or}
use Rattle.plp_config.specs.Places.{places}
use Rattle.plp_config.specs.declared.config.Config.{Config}
use Rattle.t2mi_packet.specs.declared.packet.Packet.{Packet}
use Rattle.frame_groups.specs.Groups.{Group}
use Rattle.frame_groups.specs.Modulated.{Numbered}
use Rattle.frame_groups.specs.Carried.{right_blocks}
use Rattle.frame_groups.specs.Tests.{group_fault}
use Rattle.frame_weave.specs.Woven.{woven}
use Rattle.frame_writer.specs.FramePackets.{packets_from}
use Rattle.open_group.specs.Sent.{held_bytes}
use Rattle.open_group.specs.Written.{dynamic_in}
use Rattle.frame_writer.specs.Signalling.{pre_part, conf_part}
use Rattle.mended_frames.specs.Picks.{Picked, Coming, Taking, picks_from}
use Rattle.spaced_frames.specs.Spaced.{SentFrame, spaced}
use Rattle.spaced_frames.specs.StandsFor.{Content, sent_as}

-- a group is frame n, behind the frames before
abbrev pub passes : Config → List Numbered → ℕ → Group → Bool
passes c past n g = not (is_some (group_fault c past g n))

-- a frame, and whether it was woven: of several groups, or of what one has that is not the frame by itself
pub record Made : Type 0 where
  pub number : ℕ
  pub group : Group
  pub is_woven : Bool

abbrev pub made_as : ℕ → Bool → Group → Made
made_as n is_woven g = record { number = n; group = g; is_woven = is_woven }

-- the first group that is the frame by itself, and the one that all make together if it is
abbrev pub own_of : Config → List Numbered → Picked → Option Group
own_of c past p = find (passes c past p.number) p.groups

abbrev pub woven_of : Config → List Numbered → Picked → Option Group
woven_of c past p = find (passes c past p.number) (option_to_list (woven c p.number p.groups))

abbrev pub made_of : Config → List Numbered → Picked → Option Made
made_of c past p =
    option_or (option_map (made_as p.number false) (own_of c past p)) (option_map (made_as p.number true)
    (woven_of c past p))

-- the frames that were made, the last one in front
abbrev pub with_made : List Numbered → Made → List Numbered
with_made past x = record { number = x.number; group = x.group } ∷ past

abbrev pub past_with : List Numbered → Option Made → List Numbered
past_with past None = past
past_with past (Some x) = with_made past x

-- only a frame behind the last one is made
abbrev pub low_of : List Numbered → ℕ
low_of [] = 0
low_of (b ∷ past) = b.number + 1

abbrev pub taking : Config → Taking (List Numbered) Made
taking c = record {
  low = low_of;
  made = λ past p. option_to_list (made_of c past p);
  behind = λ past p. past_with past (made_of c past p);
}

-- the frames that are made of so many feeds, in order
unfoldable pub mended : Config → ℕ → (ℕ → Coming) → List Made
mended c k feeds = picks_from (taking c) k [] feeds

-- what is sent of a frame: the L1 signalling that all frames share, and of its packets the dynamic part and the blocks
-- of the right length
abbrev pub content_in : Config → List Packet → Content
content_in c packets = record {
  pre = pre_part c;
  conf = conf_part c;
  dynamic = dynamic_in packets;
  lists = map (λ plp. map held_bytes (right_blocks c plp packets)) (places c);
}

abbrev pub frame_of : Config → Made → SentFrame
frame_of c x = sent_as c x.number (content_in c x.group.packets)

abbrev pub frames_of : Config → List Made → List SentFrame
frames_of c made = map (frame_of c) made

-- frames as T2-MI packets, spaced
abbrev pub packets_of : Config → List Made → List (List ℕ)
packets_of c made = packets_from c 0 (spaced c (frames_of c made))
