-- The frames of two lists of records: each comes from the first feed that has it.
use Rattle.std.specs.Prelude.{ℕ, ◌+◌, ◌==◌, ◌&&◌, Bool, true, false, max, List, [], ◌∷◌, map, find, Option, option_map}
use Rattle.std.specs.Prelude.{option_to_list}
use Rattle.std.specs.List.{flat_map, range_with_len}
use Rattle.std.specs.Option.{option_or}
use Rattle.plp_config.specs.declared.config.Config.{Config}
use Rattle.frame_groups.specs.Modulated.{Content, FrameRecord}
use Rattle.frame_groups.specs.Modulated.Content.{Whole, Muted}
use Rattle.open_group.specs.Written.{content_view}
use Rattle.stream_laws.specs.Remade.{NumberedView}
use Rattle.feed_merge.specs.declared.seen.Feed.{Feed}
use Rattle.feed_merge.specs.declared.seen.Feed.TheVariants.{A, B}

-- A record is a frame, and not muted.
abbrev pub is_frame : Content → Bool
is_frame (Whole g) = true
is_frame (Muted cause) = false

-- a frame that was picked, and the feed that it comes from
pub record Picked : Type 0 where
  pub feed : Feed
  pub frame : NumberedView

-- frame n of a feed, if the feed has it
abbrev pub frame_from : Config → Feed → ℕ → List FrameRecord → Option Picked
frame_from c feed n records =
    option_map (λ x. record { feed = feed; frame = record { number = n; view = content_view c n x.content } })
    (find (λ x. (x.number == n) && is_frame x.content) records)

-- frame n from the first feed that has it
abbrev pub pick_of : Config → List FrameRecord → List FrameRecord → ℕ → Option Picked
pick_of c ra rb n = option_or (frame_from c A n ra) (frame_from c B n rb)

-- the frames below a number, in order
abbrev pub picks_below : Config → List FrameRecord → List FrameRecord → ℕ → List Picked
picks_below c ra rb end = flat_map (λ n. option_to_list (pick_of c ra rb n)) (range_with_len 0 end)

-- a number above those of all records
abbrev pub above_all : List FrameRecord → ℕ
above_all [] = 0
above_all (x ∷ xs) = max (x.number + 1) (above_all xs)

-- all of them
unfoldable pub picks : Config → List FrameRecord → List FrameRecord → List Picked
picks c ra rb = picks_below c ra rb (max (above_all ra) (above_all rb))

abbrev pub frames_of : List Picked → List NumberedView
frames_of picked = map (λ p. p.frame) picked
