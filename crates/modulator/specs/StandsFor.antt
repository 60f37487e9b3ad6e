-- What a `Modulator` stands for.
use Rattle.std.specs.Prelude.{◌≡◌, ℕ, ◌+◌, ◌*◌, ◌<◌, ◌≤◌, ◌==◌, Bool, true, false, List, ◌++◌, ◌∷◌, length, Option}
use Rattle.std.specs.Prelude.{Some, None, flat_map, if◌then◌else◌}
use Rattle.plp_config.specs.declared.config.Config.{Config}
use Rattle.t2mi_stream.specs.Units.{accepted_of}
use Rattle.t2mi_stream.specs.UnpiperStandsFor.{fed_len}
use Rattle.frame_groups.specs.Due.{due}
use Rattle.frame_groups.specs.Modulated.{Content, FrameRecord}
use Rattle.frame_groups.specs.Modulated.Content.{Whole, Muted}
use Rattle.frame_groups.specs.declared.cause.MuteCause.{MuteCause}
use Rattle.frame_groups.specs.declared.waiting.Waiting.{Waiting}
use Rattle.frame_groups.specs.Tests.{rules}
use Rattle.open_group.specs.FrameBytes.{bytes_left, most_left}
use Rattle.open_group.specs.Written.{spelled}
use Rattle.modulator.specs.Gives.{Gives}
use Rattle.modulator.specs.Modulating.{packets_of, has_record, records_ahead}
use Rattle.modulator.specs.declared.modulator.Modulator.{Modulator}

-- the records that are due by the bytes of a stream: all but the last one, and at the end all
abbrev pub records_due : Config → Bool → List ℕ → List FrameRecord
records_due c finished bytes = due (rules c) finished (packets_of (accepted_of c.pid bytes))

-- those of a whole stream
abbrev pub records_of : Config → List ℕ → List FrameRecord
records_of c bytes = records_due c true bytes

-- and the bytes of those that are due
abbrev pub bytes_due : Config → Bool → List ℕ → List ℕ
bytes_due c finished bytes = flat_map (spelled c) (records_due c finished bytes)

-- its network, whether the stream has ended, how many bytes were fed, and the number of the next record
abbrev pub config_of : Modulator → Config
config_of m = m.inner.sequence.group.network

abbrev pub is_finished : Modulator → Bool
is_finished m = m.inner.finished

abbrev pub fed_of : Modulator → ℕ
fed_of m = fed_len m.inner.unpiper

abbrev pub next_of : Modulator → ℕ
next_of m = m.inner.sequence.progress.next

-- A record waits.
abbrev pub is_waiting : Modulator → Bool
is_waiting m = has_record m.inner

-- how many bytes are left of the record that waits
abbrev pub waiting_len : Modulator → ℕ
waiting_len m = if is_waiting m then length (bytes_left m.inner.sequence.group) else 0

-- how often bytes can be taken from it at most before it wants bytes
unfoldable pub left_of : Modulator → ℕ
left_of m = records_ahead m.inner * most_left (config_of m) + waiting_len m

-- These bytes were fed, and these bytes of the records were taken.
unfoldable pub ModulatorStandsFor : Modulator → List ℕ → List ℕ → Type 0
ModulatorStandsFor m bytes taken = Gives m.inner bytes taken

-- the record of a frame waits
abbrev pub waits_for : Option Waiting → ℕ → Bool
waits_for (Some w) frame = w.frame == frame
waits_for None frame = false

-- why a record is muted, if it is
abbrev pub mute_of : Content → Option MuteCause
mute_of (Whole g) = None
mute_of (Muted cause) = Some cause

-- A record waits: it is the next of those that are due behind those that were taken whole, and some of its bytes are
-- left.
pub record WaitsAs (c : Config) (finished : Bool) (bytes taken : List ℕ) (w : Waiting) : Type 0 where
  pub before : List FrameRecord
  pub next : FrameRecord
  pub after : List FrameRecord
  pub all : records_due c finished bytes ≡ before ++ next ∷ after
  pub number : next.number ≡ w.frame
  pub mute : mute_of next.content ≡ w.mute
  pub part : List ℕ
  pub rest : List ℕ
  pub cut : spelled c next ≡ part ++ rest
  pub some : 0 < length rest
  pub taken_is : taken ≡ flat_map (spelled c) before ++ part

-- So many bytes are of the record that waits, which has this number: they do not go past its end.
pub record TakesOf (c : Config) (finished : Bool) (bytes taken : List ℕ) (number count : ℕ) : Type 0 where
  pub waiting : Waiting
  pub waits : WaitsAs c finished bytes taken waiting
  pub number_is : waiting.frame ≡ number
  pub within : count ≤ length waits.rest
