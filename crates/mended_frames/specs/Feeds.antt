-- The frames that are made of several streams.
use Rattle.std.specs.Prelude.{ℕ, Bool, true, List, take}
use Rattle.plp_config.specs.declared.config.Config.{Config}
use Rattle.t2mi_stream.specs.Pipe.{pipe}
use Rattle.frame_groups.specs.Tests.{rules}
use Rattle.feed_events.specs.FeedEvents.{feed_events}
use Rattle.mended_frames.specs.Picks.{Coming}
use Rattle.mended_frames.specs.Mended.{Made, mended, packets_of}

-- all events of a stream
abbrev pub all_of : Config → (ℕ → List ℕ) → ℕ → Coming
all_of c streams input = record { events = feed_events (rules c) true (streams input); over = true }

-- those that are known by so many bytes of it, at its end or before
abbrev pub known_of : Config → (ℕ → List ℕ) → (ℕ → ℕ) → (ℕ → Bool) → ℕ → Coming
known_of c streams taken ended input = record {
  events = feed_events (rules c) (ended input) (take (taken input) (streams input));
  over = ended input;
}

-- the frames that are made of so many streams, and of what is known of them
abbrev pub made_of_all : Config → ℕ → (ℕ → List ℕ) → List Made
made_of_all c k streams = mended c k (all_of c streams)

abbrev pub made_of_known : Config → ℕ → (ℕ → List ℕ) → (ℕ → ℕ) → (ℕ → Bool) → List Made
made_of_known c k streams taken ended = mended c k (known_of c streams taken ended)

-- all units of all frames
abbrev pub units_of : Config → ℕ → (ℕ → List ℕ) → List (List ℕ)
units_of c k streams = pipe c.pid (packets_of c (made_of_all c k streams))
