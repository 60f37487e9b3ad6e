-- How far the packets of the frames begun have come.
use Rattle.std.specs.Prelude.{◌≡◌, ℕ, ◌%◌, ◌≤◌, Bool, false, List, [], ◌∷◌, ◌++◌, length, map}
use Rattle.plp_config.specs.declared.config.Config.{Config}
use Rattle.t2mi_packet.specs.declared.packet.Body.{Body}
use Rattle.t2mi_stream.specs.Complete.{complete_of}
use Rattle.t2mi_stream.specs.Events.{PiperEvent, Piped, tally}
use Rattle.t2mi_stream.specs.Pipe.{items, joined}
use Rattle.frame_writer.specs.FramePackets.{packets_from}

-- bodies of a frame with its number
abbrev pub of_frame : ℕ → List Body → List (ℕ × Body)
of_frame n bodies = map (λ body. (n, body)) bodies

-- what a piper stands for: a PID and the events so far
abbrev pub Standing : Type 1
Standing = ℕ → List PiperEvent → Type 0

-- the same one piece later
pub record AfterPiece (stands : Standing) (piece : List ℕ) (pid : ℕ) (events : List PiperEvent) : Type 0 where
  pub before : List PiperEvent
  pub stood : stands pid before
  pub events_are : events ≡ before ++ Piped piece ∷ []

-- Of all packets some were built, of which the piper has all bytes but some of the last one; so many bodies are left,
-- of one frame. Before the end no unit was given that was not complete.
pub record Carries (stands : Standing) (finished : Bool) (rest : List ℕ) (number : ℕ) (c : Config) (n : ℕ)
    (left : List Body)
    (all : List (ℕ × Body)) (given : ℕ) : Type 0 where
  pub events : List PiperEvent
  pub stood : stands c.pid events
  pub units : (tally events).given ≡ given
  pub built : List (ℕ × Body)
  pub number_is : number ≡ length built % 256
  pub fed : joined (packets_from c 0 built) ≡ (tally events).fed ++ items (tally events).begun rest
  pub all_are : all ≡ built ++ of_frame n left
  pub were_complete : finished ≡ false → given ≤ length (complete_of c.pid (tally events).fed)

-- Nothing is left to feed, and nothing follows.
pub record AllGone (rest : List ℕ) (left : List Body) (more : List (List ℕ)) : Type 0 where
  pub rest_is : rest ≡ []
  pub left_is : left ≡ []
  pub more_is : more ≡ []
