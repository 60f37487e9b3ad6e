-- When a frame leaves (TS 102 773, clause 5.2.7): seconds since 2000-01-01, and subseconds.
use Rattle.std.specs.Prelude.{◌≡◌, ℕ, ◌+◌, ◌-◌, ◌*◌, ◌/◌, ◌%◌, ◌<◌, ◌≤◌}
use Rattle.plp_config.specs.Tables.{subseconds_per_second, subseconds_per_tick}
use Rattle.plp_config.specs.declared.config.Config.{Config}
use Rattle.plp_config.specs.declared.moment.Moment.{Moment}

-- the subseconds that have passed by a moment
abbrev pub subseconds_by : Config → Moment → ℕ
subseconds_by c moment = moment.seconds * subseconds_per_second c.band + moment.subseconds

-- the subseconds that have passed by the start of frame 0
abbrev pub origin : Config → ℕ
origin c = c.seconds * subseconds_per_second c.band + c.subseconds

-- the subseconds of a frame
abbrev pub frame_subseconds : Config → ℕ
frame_subseconds c = c.ticks * subseconds_per_tick c.band

-- the emission of a frame: so many frames after the start, carried into seconds
unfoldable pub emission : Config → ℕ → Moment
emission c frame = record {
  seconds = (origin c + frame * frame_subseconds c) / subseconds_per_second c.band;
  subseconds = (origin c + frame * frame_subseconds c) % subseconds_per_second c.band;
}

-- a moment lies whole frames after the start: so many
pub record FindsFrame (c : Config) (moment : Moment) (frame : ℕ) : Type 0 where
  pub carried : moment.subseconds < subseconds_per_second c.band
  pub later : origin c ≤ subseconds_by c moment
  pub whole : (subseconds_by c moment - origin c) % frame_subseconds c ≡ 0
  pub frames : (subseconds_by c moment - origin c) / frame_subseconds c ≡ frame
