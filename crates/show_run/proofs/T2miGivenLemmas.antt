-- Lines of packets in units are given.
use Rattle.std.proofs.Common.{◌≡◌, ℕ, ◌+◌, ◌-◌, ◌^◌, ◌<◌, ◌≤◌, List, [], ◌∷◌, ◌++◌, length, take, drop, map, min}
use Rattle.std.proofs.Common.{Option, Some, None, refl, ap, ap₂, sym, ◌∙◌, arith, append-nil, length-append}
use Rattle.std.specs.Prelude.{option_map, slice_get, codes}
use Rattle.std.proofs.lemmas.List.{length-map, take_more}
use Rattle.std.proofs.lemmas.List.Concat.{flat_map-append}
use Rattle.std.proofs.lemmas.Option.{slice_get-map, slice_get_within, get_or_from_slice_get}
use Rattle.file_run.specs.Reading.{longest_file}
use Rattle.t2mi_packet.specs.T2miPacket.{view_of}
use Rattle.t2mi_stream.specs.Accepted.{AcceptedPacket}
use Rattle.t2mi_stream.specs.Events as stream
use Rattle.t2mi_stream.specs.Events.UnpiperEvent.{Released}
use Rattle.t2mi_stream.specs.Laws.{EventsPush}
use Rattle.t2mi_stream.specs.Skipping.{further, PacketPlaces, FewPackets}
use Rattle.t2mi_stream.specs.Units.{accepted_of}
use Rattle.t2mi_stream.specs.UnpiperStandsFor.{UnpiperStandsFor, next_packet}
use Rattle.t2mi_stream.specs.declared.unpiper.Unpiper.{Unpiper}
use Rattle.file_run.specs.Events.{Event, Gave}
use Rattle.file_run.specs.Laws.{EventsTell}
use Rattle.show_run.specs.SaidLines.{view_line}
use Rattle.show_run.specs.T2miLines.{packets_from, Unpiped, Comes}
use Rattle.show_run.specs.T2miText.{place_line, place_lines}
use Rattle.show_run.specs.declared.t2mi_lines.T2miLines.{T2miLines}
use Rattle.show_run.specs.declared.t2mi_lines.Search.TheVariants.{Unpipes}
use Rattle.show_run.proofs.T2miLinesLemmas.{Becomes, found_as, found_in}

given_up : EventsPush → (old new : Unpiper) (pid : ℕ) (bytes : List ℕ) (number : ℕ)
    → Becomes old Released new → Unpiped old pid bytes number → Unpiped new pid bytes (number + 1)
given_up law old new pid bytes number f u = record {
  events = u.events ++ Released ∷ [];
  fed_are = (law u.events).fed_same ∙ u.fed_are;
  number = (law u.events).released_more ∙ ap (λ (n : ℕ). n + 1) u.number;
  stands = f pid u.events u.stands;
}

-- the packet that waits, by its number
waiting_packet : (unpiper : Unpiper) (pid : ℕ) (bytes : List ℕ) (number : ℕ) (u : Unpiped unpiper pid bytes number)
    → next_packet pid u.events ≡ slice_get (accepted_of pid bytes) number
waiting_packet unpiper pid bytes number u = ap₂ (λ (l : List ℕ) (n : ℕ). slice_get (accepted_of pid l) n)
    u.fed_are u.number

known : (o : Option AcceptedPacket) (place : ℕ) (bytes : List ℕ) → option_map (λ a. a.place) o ≡ Some place
    → option_map (λ a. a.bytes) o ≡ Some bytes → (packet : AcceptedPacket) × (o ≡ Some packet) × (packet.place ≡ place)
    × (packet.bytes ≡ bytes)
known None place bytes e f = let no : None ≡ Some place = e in cc
known (Some a) place bytes e f = let here : a.place ≡ place = cc in let same : a.bytes ≡ bytes = cc in
    (a, refl, here, same)

-- one packet more was given
one_more : (packets : List AcceptedPacket) (base count : ℕ) (packet : AcceptedPacket)
    → slice_get packets count ≡ Some packet
    → (count < length packets) × (take (count + 1) (map (further base) packets) ≡ take count
    (map (further base) packets)
    ++ further base packet ∷ [])
one_more packets base count packet is =
    let inside : count < length packets = slice_get_within packets count packet is in
    let n = length-map packets (further base) in
    let at : slice_get (map (further base) packets) count ≡ Some (further base packet) =
    slice_get-map (further base) packets count ∙ ap (option_map (further base)) is in (
      inside,
      take_more (map (further base) packets) count (further base packet) (omega (arith, n, inside))
          ∙ ap (λ (p : AcceptedPacket). take count (map (further base) packets) ++ p ∷ [])
          (get_or_from_slice_get (map (further base) packets) count (further base packet) (further base packet) at),
    )

pub gave_packet : EventsTell → EventsPush → PacketPlaces → FewPackets
    → (start m n : T2miLines) (events : List Event) (place at : ℕ) (bytes line : List ℕ) → m.search ≡ Unpipes
    → n.search ≡ m.search → n.at ≡ m.at → m.at ≤ longest_file → n.base ≡ m.base → n.unit ≡ m.unit → n.from ≡ m.from
    → n.count ≡ min (m.count + 1) (2 ^ 64 - 1) → n.line ≡ m.line → at ≡ min (m.base + place) (2 ^ 64 - 1)
    → line ≡ view_line (codes "place=") at (view_of bytes)
    → ((p : ℕ) (events : List stream.UnpiperEvent) → UnpiperStandsFor m.unpiper p events
    → option_map (λ a. a.place) (next_packet p events) ≡ Some place)
    → ((p : ℕ) (events : List stream.UnpiperEvent) → UnpiperStandsFor m.unpiper p events
    → option_map (λ a. a.bytes) (next_packet p events) ≡ Some bytes)
    → Becomes m.unpiper Released n.unpiper → Comes start events m
    → Comes start (events ++ Gave line ∷ []) n
gave_packet law push places few start m n events place at bytes line unpipes same where_ small base unit
    from count idle there
    text first packet released c =
    let f = found_in m _ _ _ Unpipes unpipes c.shown.found in
    let more = law.given line events in
    let u = f.unpiped in
    let w = waiting_packet m.unpiper f.pid f.bytes m.count u in
    let k = known (slice_get (accepted_of f.pid f.bytes) m.count) place bytes (ap (option_map (λ a. a.place)) (sym w)
    ∙ first f.pid u.events u.stands) (ap (option_map (λ a. a.bytes)) (sym w) ∙ packet f.pid u.events u.stands) in
    let one = one_more (accepted_of f.pid f.bytes) (length f.front) m.count k.0 k.1 in
    let inside = places f.pid f.bytes m.count k.0 k.1 in
    let all = few f.pid f.bytes in
    let size = ap length f.parts in
    let parts = length-append f.front (f.bytes ++ drop m.from m.unit) in
    let held = length-append f.bytes (drop m.from m.unit) in
    let p = c.shown.place in
    let b = f.base in
    let kp = k.2 in
    let io = one.0 in
    let count_is : n.count ≡ m.count + 1 = omega (arith, count, io, all, size, parts, held, p, small) in
    let at_is : length f.front + k.0.place ≡ at = omega (arith, there, inside, size, parts, held, p, small, b, kp) in
    let line_is : line ≡ place_line (further (length f.front) k.0) =
    text ∙ ap₂ (λ (j : ℕ) (l : List ℕ). view_line (codes "place=") j (view_of l)) (sym at_is) (sym k.3) in
    record {
      fresh = c.fresh;
      shown = record {
        place = where_ ∙ c.shown.place ∙ ap length (sym (more.fed 0));
        found = found_as n _ _ _ Unpipes (same ∙ unpipes) (record {
          front = f.front;
          bytes = f.bytes;
          pid = f.pid;
          first = f.first;
          more = f.more;
          none = f.none;
          base = base ∙ f.base;
          parts = rw (from, unit) (more.fed 0 ∙ f.parts);
          begins = rw (from, unit) f.begins;
          whole = f.whole;
          tells = f.tells;
          unpiped = rw count_is (given_up push m.unpiper n.unpiper f.pid f.bytes m.count released u);
          few = omega (arith, count_is, io);
          lines = more.gave ∙ ap₂ (λ (x : List ℕ) (y : List ℕ). x ++ y) f.lines line_is
              ∙ sym (ap (λ (j : ℕ). place_lines (take j (packets_from f.pid (length f.front) f.bytes))) count_is
              ∙ ap place_lines one.1
              ∙ flat_map-append place_line (take m.count (packets_from f.pid (length f.front) f.bytes))
              (further (length f.front) k.0 ∷ [])
              ∙ ap (λ (l : List ℕ). place_lines (take m.count (packets_from f.pid (length f.front) f.bytes)) ++ l)
              (append-nil (place_line (further (length f.front) k.0))));
          is_open = more.ended 0 ∙ f.is_open;
          idle = idle ∙ f.idle;
        });
      };
    }
