-- What an unpiper shows of the packet that waits.
use Rattle.std.proofs.Common.{◌≡◌, ℕ, List, Option, Some, None, refl}
use Rattle.std.specs.Prelude.{option_map}
use Rattle.std.proofs.lemmas.Option.{same_Some}
use Rattle.terms.proofs.OptionLemmas.{none_some}
use Rattle.t2mi_stream.specs.Accepted.{AcceptedPacket}
use Rattle.t2mi_stream.specs.Events.{UnpiperEvent}
use Rattle.t2mi_stream.specs.UnpiperStandsFor.{UnpiperStandsFor, AllReleased}
use Rattle.t2mi_stream.specs.declared.unpiper.Unpiper.{Unpiper}

-- the packet that waits, by its bytes
pub record HasBytes (o : Option AcceptedPacket) (seen : List ℕ) : Type 0 where
  pub packet : AcceptedPacket
  pub is : o ≡ Some packet
  pub bytes : packet.bytes ≡ seen

pub has_bytes : (o : Option AcceptedPacket) (seen : List ℕ) → option_map (λ a. a.bytes) o ≡ Some seen → HasBytes o seen
has_bytes None seen e = none_some seen e
has_bytes (Some a) seen e = record { packet = a; is = refl; bytes = same_Some a.bytes seen e }

-- all that an unpiper accepted was given up
abbrev pub IsIdle : Unpiper → Type 0
IsIdle u = (pid : ℕ) (events : List UnpiperEvent) → UnpiperStandsFor u pid events → AllReleased pid events
