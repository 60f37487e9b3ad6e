-- The lines of packets in units, step by step.
use Rattle.std.proofs.Common.{◌≡◌, ℕ, ◌+◌, ◌-◌, ◌≤◌, Bool, false, List, [], ◌∷◌, ◌++◌, length, take, drop, map, Some}
use Rattle.std.proofs.Common.{None, refl}
use Rattle.std.proofs.Common.{ap, ap₂, sym, subst, ◌∙◌, arith, append_assoc, append-nil, length-append, length-drop}
use Rattle.std.proofs.lemmas.List.{take_all, take-append-drop, take-append-le, length-map, map-append, drop-drop}
use Rattle.std.proofs.Math.ListN.{drop_of_length-le}
use Rattle.ts_packet.specs.declared.sizes.TheConstants.{SIZE}
use Rattle.ts_packet.specs.FieldsIn.{fields_in}
use Rattle.t2mi_stream.specs.Events.UnpiperEvent.{Fed as Took}
use Rattle.t2mi_stream.specs.Accepted.{AcceptedPacket}
use Rattle.t2mi_stream.specs.Events as stream
use Rattle.t2mi_stream.specs.FirstPid.{pid_of, TellsNone, TellsNoneOn}
use Rattle.t2mi_stream.specs.Laws.{AcceptedFront, EventsPush}
use Rattle.t2mi_stream.specs.Skipping.{further}
use Rattle.t2mi_stream.specs.Units.{accepted_of}
use Rattle.t2mi_stream.specs.UnpiperStandsFor.{UnpiperStandsFor}
use Rattle.t2mi_stream.specs.declared.unpiper.Unpiper.{Unpiper}
use Rattle.file_run.specs.Events.{Event, Fed, Gave, fed, has_ended, gave}
use Rattle.file_run.specs.Laws.{EventsTell}
use Rattle.show_run.specs.T2miLines.{packets_from, Unpiped, Unpiping, Found, IsNew, Comes}
use Rattle.show_run.specs.T2miText.{place_lines}
use Rattle.show_run.specs.declared.t2mi_lines.T2miLines.{T2miLines}
use Rattle.show_run.specs.declared.t2mi_lines.Search.{Search}
use Rattle.show_run.specs.declared.t2mi_lines.Search.TheVariants.{Seeks, Unpipes}

pub found_as : (m : T2miLines) (all text : List ℕ) (ended : Bool) (search : Search) → m.search ≡ search
    → Found search m all text ended → Found m.search m all text ended
found_as m all text ended search is f = subst (λ (s : Search). Found s m all text ended) (sym is) f

pub found_in : (m : T2miLines) (all text : List ℕ) (ended : Bool) (search : Search) → m.search ≡ search
    → Found m.search m all text ended → Found search m all text ended
found_in m all text ended search is f = subst (λ (s : Search). Found s m all text ended) is f

pub comes_first : (m : T2miLines) → IsNew m → Comes m [] m
comes_first m fresh = record {
  fresh = fresh;
  shown = record {
    place = fresh.at;
    found = found_as m [] [] false Seeks fresh.search (record {
      none = record { units = 0; whole = refl; none = λ number lt. absurd (omega (arith, lt)) };
      silent = refl;
      is_open = refl;
      unread = fresh.from;
      number = fresh.count;
      idle = fresh.line;
    });
  };
}

-- a unit that tells no PID
pub passed : EventsTell → TellsNoneOn → (start m n : T2miLines) (events : List Event) (unit : List ℕ) → m.search ≡ Seeks
    → length unit ≡ SIZE → pid_of (fields_in unit) ≡ None → n.search ≡ m.search → n.at ≡ m.at + SIZE → n.from ≡ m.from
    → n.count ≡ m.count
    → n.line ≡ m.line → Comes start events m → Comes start (events ++ Fed 0 unit ∷ []) n
passed law on start m n events unit seeks size silent same at from count line c =
    let f = found_in m _ _ _ Seeks seeks c.shown.found in
    let more = law.fed 0 unit events in
    record {
      fresh = c.fresh;
      shown = record {
        place = (let p = c.shown.place in let l = ap length more.here in let k = length-append (fed 0 events) unit in
            omega (arith, at, p, l, k, size));
        found = found_as n _ _ _ Seeks (same ∙ seeks) (record {
          none = subst TellsNone (sym more.here) (on (fed 0 events) unit f.none size silent);
          silent = more.gave ∙ f.silent;
          is_open = more.ended 0 ∙ f.is_open;
          unread = from ∙ f.unread;
          number = count ∙ f.number;
          idle = line ∙ f.idle;
        });
      };
    }

-- an unpiper becomes another one by something more that is done to it
abbrev pub Becomes : Unpiper → stream.UnpiperEvent → Unpiper → Type 0
Becomes old event new = (p : ℕ) (events : List stream.UnpiperEvent) → UnpiperStandsFor old p events
    → UnpiperStandsFor new p (events ++ event ∷ [])

none_fed : (unpiper : Unpiper) (pid : ℕ) → UnpiperStandsFor unpiper pid [] → Unpiped unpiper pid [] 0
unfolding stream.fed stream.released
none_fed unpiper pid h = record { events = []; fed_are = refl; number = refl; stands = h }

-- the unit that tells the PID
pub found : EventsTell → (start m n : T2miLines) (events : List Event) (pid : ℕ) (unit : List ℕ) → m.search ≡ Seeks
    → length unit ≡ SIZE → pid_of (fields_in unit) ≡ Some pid → n.search ≡ Unpipes → n.at ≡ m.at + SIZE → n.base ≡ m.at
    → n.unit ≡ unit → n.from ≡ 0
    → n.count ≡ m.count → n.line ≡ m.line → UnpiperStandsFor n.unpiper pid [] → Comes start events m
    → Comes start (events ++ Fed 0 unit ∷ []) n
found law start m n events pid unit seeks size tells unpipes at base is from count line stands c =
    let f = found_in m _ _ _ Seeks seeks c.shown.found in
    let more = law.fed 0 unit events in
    let none : n.count ≡ 0 = count ∙ f.number in
    let held : drop n.from n.unit ≡ unit = ap₂ (λ (k : ℕ) (l : List ℕ). drop k l) from is in
    record {
      fresh = c.fresh;
      shown = record {
        place = (let p = c.shown.place in let l = ap length more.here in let k = length-append (fed 0 events) unit in
            omega (arith, at, p, l, k, size));
        found = found_as n _ _ _ Unpipes unpipes (record {
          front = fed 0 events;
          bytes = [];
          pid = pid;
          first = unit;
          more = [];
          none = f.none;
          base = base ∙ c.shown.place;
          parts = more.here ∙ ap (λ (l : List ℕ). fed 0 events ++ l) (sym held);
          begins = held ∙ sym (append-nil unit);
          whole = size;
          tells = tells;
          unpiped = subst (λ (k : ℕ). Unpiped n.unpiper pid [] k) (sym none) (none_fed n.unpiper pid stands);
          few = omega (arith, none);
          lines = more.gave ∙ f.silent ∙ rw none refl;
          is_open = more.ended 0 ∙ f.is_open;
          idle = line ∙ f.idle;
        });
      };
    }

fed_on : EventsPush → (old new : Unpiper) (pid : ℕ) (bytes piece : List ℕ) (number : ℕ)
    → Becomes old (Took piece) new → Unpiped old pid bytes number → Unpiped new pid (bytes ++ piece) number
fed_on law old new pid bytes piece number f u = record {
  events = u.events ++ Took piece ∷ [];
  fed_are = (law u.events).fed_more piece ∙ ap (λ (l : List ℕ). l ++ piece) u.fed_are;
  number = (law u.events).released_same piece ∙ u.number;
  stands = f pid u.events u.stands;
}

-- the packets that were given up are the same, whatever bytes follow
same_given : AcceptedFront → (pid base count : ℕ) (bytes piece : List ℕ) → count ≤ length (accepted_of pid bytes)
    → take count (packets_from pid base (bytes ++ piece)) ≡ take count (packets_from pid base bytes)
same_given law pid base count bytes piece few =
    let more = law pid bytes piece in
    ap (λ (l : List AcceptedPacket). take count (map (further base) l)) more.1
    ∙ ap (take count) (map-append (further base) (accepted_of pid bytes) more.0)
    ∙ take-append-le count (packets_from pid base bytes) (map (further base) more.0)
    (let n = length-map (accepted_of pid bytes) (further base) in omega (arith, n, few))

longer_given : AcceptedFront → (pid count : ℕ) (bytes piece : List ℕ) → count ≤ length (accepted_of pid bytes)
    → count ≤ length (accepted_of pid (bytes ++ piece))
longer_given law pid count bytes piece few =
    let more = law pid bytes piece in
    let n = ap length more.1 in let m = length-append (accepted_of pid bytes) more.0 in omega (arith, n, m, few)

-- The unpiper took more of what it is fed.
unpiping_on : AcceptedFront → EventsPush → (m n : T2miLines) (all now text now_text piece left : List ℕ) (ended : Bool)
    → Becomes m.unpiper (Took piece) n.unpiper → n.base ≡ m.base → n.count ≡ m.count → n.line ≡ m.line
    → now_text ≡ text → (f : Unpiping m all text ended)
    → now ≡ f.front ++ ((f.bytes ++ piece) ++ drop n.from n.unit)
    → (f.bytes ++ piece) ++ drop n.from n.unit ≡ f.first ++ left → Unpiping n now now_text ended
unpiping_on law push m n all now text now_text piece left ended took base count line same f parts begins = record {
  front = f.front;
  bytes = f.bytes ++ piece;
  pid = f.pid;
  first = f.first;
  more = left;
  none = f.none;
  base = base ∙ f.base;
  parts = parts;
  begins = begins;
  whole = f.whole;
  tells = f.tells;
  unpiped = rw count (fed_on push m.unpiper n.unpiper f.pid f.bytes piece m.count took f.unpiped);
  few = (let l = longer_given law f.pid m.count f.bytes piece f.few in omega (arith, l, count));
  lines = same ∙ f.lines ∙ ap place_lines (sym (same_given law f.pid (length f.front) m.count f.bytes piece f.few))
      ∙ ap (λ (k : ℕ). place_lines (take k (packets_from f.pid (length f.front) (f.bytes ++ piece)))) (sym count);
  is_open = f.is_open;
  idle = line ∙ f.idle;
}

-- the unpiper took bytes of the unit that told the PID
pub went_on : EventsTell → AcceptedFront → EventsPush → (start m n : T2miLines) (events : List Event) (k : ℕ)
    → m.search ≡ Unpipes
    → n.search ≡ m.search → n.at ≡ m.at → n.base ≡ m.base → n.unit ≡ m.unit → n.from ≡ m.from + k → n.count ≡ m.count
    → n.line ≡ m.line
    → Becomes m.unpiper (Took (take k (drop m.from m.unit))) n.unpiper → Comes start events m
    → Comes start (events ++ Gave [] ∷ []) n
went_on law front push start m n events k unpipes same at base unit from count line took c =
    let f = found_in m _ _ _ Unpipes unpipes c.shown.found in
    let more = law.given [] events in
    let held = drop m.from m.unit in
    let left : drop n.from n.unit ≡ drop k held = ap₂ (λ (j : ℕ) (l : List ℕ). drop j l) from unit
    ∙ sym (drop-drop k m.from m.unit) in
    let whole : (f.bytes ++ take k held) ++ drop n.from n.unit ≡ f.bytes ++ held =
    ap (λ (l : List ℕ). (f.bytes ++ take k held) ++ l) left ∙ append_assoc f.bytes (take k held) (drop k held)
    ∙ ap (λ (l : List ℕ). f.bytes ++ l) (take-append-drop k held) in
    record {
      fresh = c.fresh;
      shown = record {
        place = at ∙ c.shown.place ∙ ap length (sym (more.fed 0));
        found = found_as n _ _ _ Unpipes (same ∙ unpipes)
            (rw (more.ended 0)
            (unpiping_on front push m n (fed 0 events) (fed 0 (events ++ Gave [] ∷ [])) (gave events)
            (gave (events ++ Gave [] ∷ [])) (take k held) f.more (has_ended 0 events) took base count line
            (more.gave ∙ append-nil (gave events)) f
            (more.fed 0 ∙ f.parts ∙ ap (λ (l : List ℕ). f.front ++ l) (sym whole)) (whole ∙ f.begins)));
      };
    }

-- the unpiper took bytes of the file
pub unpiped : EventsTell → AcceptedFront → EventsPush → (start m n : T2miLines) (events : List Event) (piece : List ℕ)
    → m.search ≡ Unpipes → drop m.from m.unit ≡ [] → n.search ≡ m.search → n.at ≡ m.at + length piece → n.base ≡ m.base
    → n.unit ≡ m.unit → n.from ≡ m.from
    → n.count ≡ m.count → n.line ≡ m.line → Becomes m.unpiper (Took piece) n.unpiper → Comes start events m
    → Comes start (events ++ Fed 0 piece ∷ []) n
unpiped law front push start m n events piece unpipes none same at base unit from count line took c =
    let f = found_in m _ _ _ Unpipes unpipes c.shown.found in
    let more = law.fed 0 piece events in
    let left : drop n.from n.unit ≡ [] = ap₂ (λ (j : ℕ) (l : List ℕ). drop j l) from unit ∙ none in
    let before : f.bytes ++ drop m.from m.unit ≡ f.bytes = ap (λ (l : List ℕ). f.bytes ++ l) none
    ∙ append-nil f.bytes in
    let after : (f.bytes ++ piece) ++ drop n.from n.unit ≡ f.bytes ++ piece = ap (λ (l : List ℕ). (f.bytes ++ piece)
    ++ l) left
    ∙ append-nil (f.bytes ++ piece) in
    record {
      fresh = c.fresh;
      shown = record {
        place = (let p = c.shown.place in let l = ap length more.here in let k = length-append (fed 0 events) piece in
            omega (arith, at, p, l, k));
        found = found_as n _ _ _ Unpipes (same ∙ unpipes)
            (rw (more.ended 0)
            (unpiping_on front push m n (fed 0 events) (fed 0 (events ++ Fed 0 piece ∷ [])) (gave events)
            (gave (events ++ Fed 0 piece ∷ [])) piece (f.more ++ piece) (has_ended 0 events) took base
            count line more.gave f
            (more.here ∙ ap (λ (l : List ℕ). l ++ piece) (f.parts ∙ ap (λ (l : List ℕ). f.front ++ l) before)
            ∙ append_assoc f.front f.bytes piece ∙ ap (λ (l : List ℕ). f.front ++ l) (sym after))
            (after ∙ ap (λ (l : List ℕ). l ++ piece) (sym before ∙ f.begins) ∙ append_assoc f.first f.more piece)));
      };
    }

-- the bytes of the unit that the unpiper did not take
pub held_none : (m : T2miLines) → length m.unit ≡ SIZE → m.from ≡ SIZE → drop m.from m.unit ≡ []
held_none m size all = drop_of_length-le m.unit (omega (arith, size, all))

pub held_all : (m : T2miLines) → length m.unit ≡ SIZE → take (SIZE - m.from) (drop m.from m.unit) ≡ drop m.from m.unit
held_all m size = take_all (SIZE - m.from) (drop m.from m.unit) (let n = length-drop m.from m.unit in
    omega (arith, n, size))
