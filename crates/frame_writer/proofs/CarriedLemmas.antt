-- Packets are built and fed, one by one.
use Rattle.std.proofs.Common.{◌≡◌, ℕ, ◌+◌, ◌%◌, ◌<◌, ◌≤◌, ◌==◌, Bool, true, false, List, [], ◌∷◌, ◌++◌, length, take}
use Rattle.std.proofs.Common.{drop, refl, ap, sym, subst, ◌∙◌, arith, append-nil, append_assoc, Some, inl, inr}
use Rattle.std.specs.Prelude.{slice_get}
use Rattle.std.proofs.lemmas.Bool.{cases_lt}
use Rattle.std.proofs.lemmas.Grind.{flat_map-append}
use Rattle.std.proofs.lemmas.List.{take-append-drop, length_push}
use Rattle.terms.specs.Bits.{bytes_of}
use Rattle.terms.proofs.CaseLemmas.{bool_cases}
use Rattle.plp_config.specs.declared.config.Config.{Config}
use Rattle.t2mi_packet.specs.T2miPacket.{written_bits}
use Rattle.t2mi_packet.specs.declared.packet.Body.{Body}
use Rattle.t2mi_stream.specs.Complete.{complete_of, complete_units}
use Rattle.t2mi_stream.proofs.CompleteLemmas.{complete_grows}
use Rattle.t2mi_stream.specs.Events.{PiperEvent, PiperTally, Begun, Piped, Given, Finished, still_begun, tally}
use Rattle.t2mi_stream.specs.Pipe.{JoinedByte, items, joined, units_of, pipe}
use Rattle.frame_writer.specs.Carried.{Standing, AfterPiece, Carries, AllGone, of_frame}
use Rattle.frame_writer.specs.FramePackets.{packet_with, packets_from, with_stamp}
use Rattle.t2mi_stream.proofs.TallyLemmas.{tally_push, items_append}

-- A timestamp is one packet.
pub stamp_count : (c : Config) (n : ℕ) (bodies : List Body) → length (with_stamp c n bodies) ≤ length bodies + 1
stamp_count c n bodies = bool_cases (n % c.frames == 0) (λ e. rw e (omega arith)) (λ e. rw e (omega arith))

packets_push : (c : Config) (k : ℕ) (bodies : List (ℕ × Body)) (n : ℕ) (body : Body)
    → packets_from c k (bodies ++ (n, body) ∷ []) ≡ packets_from c k bodies
    ++ bytes_of (written_bits (packet_with c (k + length bodies) n body)) ∷ []
packets_push c k [] n body = ap (λ (m : ℕ). bytes_of (written_bits (packet_with c m n body)) ∷ []) (omega arith)
packets_push c k (b ∷ bodies) n body =
    ap (λ (l : List (List ℕ)). bytes_of (written_bits (packet_with c k b.0 b.1)) ∷ l)
    (packets_push c (k + 1) bodies n body
    ∙ ap (λ (m : ℕ). packets_from c (k + 1) bodies ++ bytes_of (written_bits (packet_with c m n body)) ∷ [])
    (omega arith))

pub carries_new : (stands : Standing) (finished : Bool) (c : Config) (n pid : ℕ) → c.pid ≡ pid → stands pid []
    → Carries stands finished [] 0 c n [] [] 0
unfolding tally
carries_new stands finished c n pid e stood = record {
  events = [];
  stood = subst (λ (p : ℕ). stands p []) (sym e) stood;
  units = refl;
  built = [];
  number_is = refl;
  fed = refl;
  all_are = refl;
  were_complete = λ off. omega arith;
}

fed_on : (fed : List JoinedByte) (begun : Bool) (rest : List ℕ) (r : ℕ) → fed ++ items begun rest
    ≡ (fed ++ items begun (take r rest))
    ++ items (still_begun begun (take r rest)) (drop r rest)
fed_on fed begun rest r =
    ap (λ (l : List ℕ). fed ++ items begun l) (sym (take-append-drop r rest))
    ∙ ap (λ (l : List JoinedByte). fed ++ l) (items_append begun (take r rest) (drop r rest))
    ∙ sym (append_assoc fed (items begun (take r rest)) (items (still_begun begun (take r rest)) (drop r rest)))

pub carries_feed : (old new : Standing) (was is : Bool) (rest : List ℕ) (r number : ℕ) (c : Config) (n : ℕ)
    (left : List Body)
    (all : List (ℕ × Body)) (given : ℕ) → was ≡ false
    → ((pid : ℕ) (events : List PiperEvent) → old pid events → new pid (events ++ Piped (take r rest) ∷ []))
    → Carries old was rest number c n left all given → Carries new is (drop r rest) number c n left all given
carries_feed old new was is rest r number c n left all given off step h =
    let piece = take r rest in
    let t = tally_push h.events (Piped piece) in
    record {
      events = h.events ++ Piped piece ∷ [];
      stood = step c.pid h.events h.stood;
      units = ap (λ (t : PiperTally). t.given) t ∙ h.units;
      built = h.built;
      number_is = h.number_is;
      fed = h.fed ∙ fed_on (tally h.events).fed (tally h.events).begun rest r
          ∙ sym (ap (λ (t : PiperTally). t.fed ++ items t.begun (drop r rest)) t);
      all_are = h.all_are;
      were_complete = λ _.
          let few = h.were_complete off in
          let more = complete_grows c.pid (tally h.events).fed (items (tally h.events).begun piece) in
          let now : length (complete_of c.pid (tally (h.events ++ Piped piece ∷ [])).fed)
          ≡ length (complete_of c.pid ((tally h.events).fed ++ items (tally h.events).begun piece)) =
          ap (λ (t : PiperTally). length (complete_of c.pid t.fed)) t in
          omega (arith, few, more, now);
    }

same_packet : (c : Config) (number k n : ℕ) (body : Body) → number ≡ k % 256 → packet_with c number n body
    ≡ packet_with c k n body
same_packet c number k n body e = let m : number % 256 ≡ k % 256 = omega arith in rw m refl

pub carries_build : (old new : Standing) (was now : Bool) (rest bytes : List ℕ) (bits : List Bool) (number : ℕ)
    (c : Config)
    (n : ℕ) (body : Body) (left : List Body) (all : List (ℕ × Body)) (given : ℕ) → was ≡ false → rest ≡ []
    → ((pid : ℕ) (events : List PiperEvent) → old pid events → new pid (events ++ Begun ∷ []))
    → bits ≡ written_bits (packet_with c number n body) → bytes ≡ bytes_of bits
    → Carries old was rest number c n (body ∷ left) all given → Carries new now bytes ((number + 1) % 256)
    c n left all given
carries_build old new was now rest bytes bits number c n body left all given off none step is bytes_are h =
    let t = tally_push h.events Begun in
    let whole : joined (packets_from c 0 h.built) ≡ (tally h.events).fed =
    h.fed ∙ ap (λ (l : List ℕ). (tally h.events).fed ++ items (tally h.events).begun l) none
    ∙ append-nil (tally h.events).fed in
    let same : bytes_of (written_bits (packet_with c (0 + length h.built) n body)) ≡ bytes =
    let z : 0 + length h.built ≡ length h.built = omega arith in
    ap (λ (m : ℕ). bytes_of (written_bits (packet_with c m n body))) z
    ∙ sym (bytes_are ∙ ap bytes_of is
    ∙ ap (λ p. bytes_of (written_bits p)) (same_packet c number (length h.built) n body h.number_is)) in
    let more : joined (packets_from c 0 (h.built ++ (n, body) ∷ [])) ≡ (tally h.events).fed ++ items true bytes =
    ap joined (packets_push c 0 h.built n body) ∙ flat_map-append (items true) (packets_from c 0 h.built) _
    ∙ ap (λ (l : List JoinedByte). joined (packets_from c 0 h.built) ++ l)
    (append-nil (items true (bytes_of (written_bits (packet_with c (0 + length h.built) n body))))
    ∙ ap (items true) same)
    ∙ ap (λ (l : List JoinedByte). l ++ items true bytes) whole in
    record {
      events = h.events ++ Begun ∷ [];
      stood = step c.pid h.events h.stood;
      units = ap (λ (t : PiperTally). t.given) t ∙ h.units;
      built = h.built ++ (n, body) ∷ [];
      number_is = let l = length_push h.built (n, body) in let e = h.number_is in omega (arith, e, l);
      fed = more ∙ sym (ap (λ (t : PiperTally). t.fed ++ items t.begun bytes) t);
      all_are = h.all_are ∙ sym (append_assoc h.built ((n, body) ∷ []) (of_frame n left));
      were_complete = λ _. let few = h.were_complete off in let grown =
          ap (λ (t : PiperTally). length (complete_of c.pid t.fed)) t in omega (arith, few, grown);
    }

pub packets_append : (c : Config) (k : ℕ) (xs ys : List (ℕ × Body)) → packets_from c k (xs ++ ys) ≡ packets_from c k xs
    ++ packets_from c (k + length xs) ys
packets_append c k [] ys = ap (λ (m : ℕ). packets_from c m ys) (omega arith)
packets_append c k (x ∷ xs) ys =
    ap (λ (l : List (List ℕ)). bytes_of (written_bits (packet_with c k x.0 x.1)) ∷ l)
    (packets_append c (k + 1) xs ys ∙ ap (λ (m : ℕ). packets_from c (k + 1) xs ++ packets_from c m ys) (omega arith))

-- the bytes that are not yet fed
abbrev behind : Bool → List ℕ → Config → ℕ → ℕ → List Body → List (List ℕ) → List JoinedByte
behind begun rest c k n left more = items begun rest ++ (joined (packets_from c k (of_frame n left)) ++ joined more)

all_items : (stands : Standing) (finished : Bool) (rest : List ℕ) (number : ℕ) (c : Config) (n : ℕ) (left : List Body)
    (all : List (ℕ × Body)) (given : ℕ) (h : Carries stands finished rest number c n left all given)
    (more : List (List ℕ))
    → joined (packets_from c 0 all ++ more) ≡ (tally h.events).fed ++ behind (tally h.events).begun rest c
    (0 + length h.built) n left more
all_items stands finished rest number c n left all given h more =
    let first = packets_from c 0 h.built in
    let second = packets_from c (0 + length h.built) (of_frame n left) in
    let parts : packets_from c 0 all ≡ first ++ second = ap (packets_from c 0) h.all_are
    ∙ packets_append c 0 h.built (of_frame n left) in
    flat_map-append (items true) (packets_from c 0 all) more
    ∙ ap (λ (l : List (List ℕ)). joined l ++ joined more) parts
    ∙ ap (λ (l : List JoinedByte). l ++ joined more) (flat_map-append (items true) first second)
    ∙ ap (λ (l : List JoinedByte). (l ++ joined second) ++ joined more) h.fed
    ∙ append_assoc ((tally h.events).fed ++ items (tally h.events).begun rest) (joined second) (joined more)
    ∙ append_assoc (tally h.events).fed (items (tally h.events).begun rest) (joined second ++ joined more)

gone_none : (begun : Bool) (rest : List ℕ) (c : Config) (k n : ℕ) (left : List Body) (more : List (List ℕ))
    → AllGone rest left more → behind begun rest c k n left more ≡ []
gone_none begun rest c k n left more g = rw (g.rest_is, g.left_is, g.more_is) refl

pub carries_unit : (old : Standing) (was : Bool) (out rest : List ℕ) (number : ℕ) (c : Config) (n : ℕ)
    (left : List Body)
    (all : List (ℕ × Body)) (given : ℕ)
    → ((pid : ℕ) (events : List PiperEvent) → old pid events → (items : List JoinedByte) → (was ≡ true → items ≡ [])
    → slice_get (units_of pid ((tally events).fed ++ items)) (tally events).given ≡ Some out)
    → Carries old was rest number c n left all given → (more : List (List ℕ)) → (was ≡ true → AllGone rest left more)
    → slice_get (pipe c.pid (packets_from c 0 all ++ more)) given ≡ Some out
carries_unit old was out rest number c n left all given unit h more gone =
    let k = 0 + length h.built in
    let found = unit c.pid h.events h.stood (behind (tally h.events).begun rest c k n left more)
    (λ e. gone_none (tally h.events).begun rest c k n left more (gone e)) in
    ap (λ (l : List JoinedByte). slice_get (units_of c.pid l) given) (all_items old was rest number c
    n left all given h more)
    ∙ ap (λ (g : ℕ). slice_get (units_of c.pid ((tally h.events).fed ++ behind (tally h.events).begun
    rest c k n left more)) g)
    (sym h.units) ∙ found

pub carries_none : (old : Standing) (was : Bool) (rest : List ℕ) (number : ℕ) (c : Config) (n : ℕ) (left : List Body)
    (all : List (ℕ × Body)) (given : ℕ)
    → ((pid : ℕ) (events : List PiperEvent) → old pid events
    → length (units_of pid (tally events).fed) ≡ (tally events).given)
    → Carries old was rest number c n left all given → AllGone rest left []
    → length (pipe c.pid (packets_from c 0 all)) ≡ given
carries_none old was rest number c n left all given none h gone =
    let k = 0 + length h.built in
    let nothing : packets_from c 0 all ++ [] ≡ packets_from c 0 all = append-nil (packets_from c 0 all) in
    let whole : joined (packets_from c 0 all) ≡ (tally h.events).fed =
    ap joined (sym nothing) ∙ all_items old was rest number c n left all given h []
    ∙ ap (λ (l : List JoinedByte). (tally h.events).fed ++ l) (gone_none (tally h.events).begun rest c k n left [] gone)
    ∙ append-nil (tally h.events).fed in
    ap (λ (l : List JoinedByte). length (units_of c.pid l)) whole ∙ none c.pid h.events h.stood ∙ h.units

-- a complete unit of the bytes fed is one of all
pub carries_complete : (old : Standing) (was : Bool) (rest : List ℕ) (number : ℕ) (c : Config) (n : ℕ)
    (left : List Body)
    (all : List (ℕ × Body)) (given : ℕ)
    → ((pid : ℕ) (events : List PiperEvent) → old pid events
    → (tally events).given < length (complete_of pid (tally events).fed))
    → Carries old was rest number c n left all given → given < length (complete_units c.pid (packets_from c 0 all))
carries_complete old was rest number c n left all given complete h =
    let more = behind (tally h.events).begun rest c (0 + length h.built) n left [] in
    let nothing : packets_from c 0 all ++ [] ≡ packets_from c 0 all = append-nil (packets_from c 0 all) in
    let whole : joined (packets_from c 0 all) ≡ (tally h.events).fed ++ more = ap joined (sym nothing)
    ∙ all_items old was rest number c n left all given h [] in
    let same : length (complete_of c.pid (joined (packets_from c 0 all)))
    ≡ length (complete_of c.pid ((tally h.events).fed ++ more)) =
    ap (λ (l : List JoinedByte). length (complete_of c.pid l)) whole in
    let grows = complete_grows c.pid (tally h.events).fed more in
    let lt = complete c.pid h.events h.stood in
    let units = h.units in
    omega (arith, same, grows, lt, units)

-- If all bytes were fed and no unit is complete, all complete units were given.
pub carries_caught_up : (old : Standing) (was : Bool) (rest : List ℕ) (number : ℕ) (c : Config) (n : ℕ)
    (left : List Body)
    (all : List (ℕ × Body)) (given : ℕ) → was ≡ false
    → ((pid : ℕ) (events : List PiperEvent) → old pid events
    → ¬ ((tally events).given < length (complete_of pid (tally events).fed)))
    → Carries old was rest number c n left all given → AllGone rest left []
    → given ≡ length (complete_units c.pid (packets_from c 0 all))
carries_caught_up old was rest number c n left all given off none h gone =
    let k = 0 + length h.built in
    let nothing : packets_from c 0 all ++ [] ≡ packets_from c 0 all = append-nil (packets_from c 0 all) in
    let whole : joined (packets_from c 0 all) ≡ (tally h.events).fed =
    ap joined (sym nothing) ∙ all_items old was rest number c n left all given h []
    ∙ ap (λ (l : List JoinedByte). (tally h.events).fed ++ l) (gone_none (tally h.events).begun rest c k n left [] gone)
    ∙ append-nil (tally h.events).fed in
    let same : length (complete_of c.pid (joined (packets_from c 0 all))) ≡ length
    (complete_of c.pid (tally h.events).fed) =
    ap (λ (l : List JoinedByte). length (complete_of c.pid l)) whole in
    let few = h.were_complete off in
    let units = h.units in
    elim (cases_lt (tally h.events).given (length (complete_of c.pid (tally h.events).fed))) [
      | inl lt ↦ absurd (none c.pid h.events h.stood lt)
      | inr ge ↦ omega (arith, same, few, ge, units)
    ]

pub carries_given : (old new : Standing) (was is : Bool) (rest : List ℕ) (number : ℕ) (c : Config) (n : ℕ)
    (left : List Body)
    (all : List (ℕ × Body)) (given : ℕ)
    → is ≡ was
    → (was ≡ false → (pid : ℕ) (events : List PiperEvent) → old pid events → (tally events).given
    < length (complete_of pid (tally events).fed))
    → ((pid : ℕ) (events : List PiperEvent) → old pid events → new pid (events ++ Given ∷ []))
    → Carries old was rest number c n left all given → Carries new is rest number c n left all (given + 1)
carries_given old new was is rest number c n left all given fin complete step h =
    let t = tally_push h.events Given in
    record {
      events = h.events ++ Given ∷ [];
      stood = step c.pid h.events h.stood;
      units = ap (λ (t : PiperTally). t.given) t ∙ ap (λ (g : ℕ). g + 1) h.units;
      built = h.built;
      number_is = h.number_is;
      fed = h.fed ∙ sym (ap (λ (t : PiperTally). t.fed ++ items t.begun rest) t);
      all_are = h.all_are;
      were_complete = λ off.
          let was = complete (sym fin ∙ off) c.pid h.events h.stood in
          let units = h.units in
          let now = ap (λ (t : PiperTally). length (complete_of c.pid t.fed)) t in
          omega (arith, was, units, now);
    }

pub carries_finish : (old new : Standing) (was is : Bool) (rest : List ℕ) (number : ℕ) (c : Config) (n : ℕ)
    (left : List Body)
    (all : List (ℕ × Body)) (given : ℕ) → is ≡ true
    → ((pid : ℕ) (events : List PiperEvent) → old pid events → new pid (events ++ Finished ∷ []))
    → Carries old was rest number c n left all given → Carries new is rest number c n left all given
carries_finish old new was is rest number c n left all given fin step h =
    let t = tally_push h.events Finished in
    record {
      events = h.events ++ Finished ∷ [];
      stood = step c.pid h.events h.stood;
      units = ap (λ (t : PiperTally). t.given) t ∙ h.units;
      built = h.built;
      number_is = h.number_is;
      fed = h.fed ∙ sym (ap (λ (t : PiperTally). t.fed ++ items t.begun rest) t);
      all_are = h.all_are;
      were_complete = λ off. absurd (let z : true ≡ false = sym fin ∙ off in cc);
    }

-- one frame more
pub carries_more : (stands : Standing) (finished : Bool) (rest : List ℕ) (number : ℕ) (c : Config) (n m : ℕ)
    (left next : List Body) (all : List (ℕ × Body)) (given : ℕ) → left ≡ []
    → Carries stands finished rest number c n left all given
    → Carries stands finished rest number c m next (all ++ of_frame m next) given
carries_more stands finished rest number c n m left next all given none h = record {
  events = h.events;
  stood = h.stood;
  units = h.units;
  built = h.built;
  number_is = h.number_is;
  fed = h.fed;
  all_are = ap (λ (l : List (ℕ × Body)). l ++ of_frame m next) (h.all_are
      ∙ ap (λ (l : List Body). h.built ++ of_frame n l) none
      ∙ append-nil h.built);
  were_complete = h.were_complete;
}

-- a piece more
pub piece_after : (stands : Standing) (piece : List ℕ) (pid : ℕ) (events : List PiperEvent) → stands pid events
    → AfterPiece stands piece pid (events ++ Piped piece ∷ [])
piece_after stands piece pid events h = record { before = events; stood = h; events_are = refl }

-- and then a unit
pub unit_after : (old new : Standing) (piece : List ℕ)
    → ((pid : ℕ) (events : List PiperEvent) → old pid events → new pid (events ++ Piped piece ∷ Given ∷ []))
    → (pid : ℕ) (events : List PiperEvent) → AfterPiece old piece pid events → new pid (events ++ Given ∷ [])
unit_after old new piece step pid events h =
    subst (new pid) (sym (append_assoc h.before (Piped piece ∷ []) (Given ∷ []))
    ∙ ap (λ (l : List PiperEvent). l ++ Given ∷ [])
    (sym h.events_are)) (step pid h.before h.stood)

-- what is known of the units with a piece more is known of those after it
pub known_after : (old : Standing) (piece : List ℕ) (P : ℕ → List JoinedByte → ℕ → Type 0)
    → ((pid : ℕ) (events : List PiperEvent) → old pid events
    → P pid (tally (events ++ Piped piece ∷ [])).fed (tally events).given)
    → (pid : ℕ) (events : List PiperEvent) → AfterPiece old piece pid events
    → P pid (tally events).fed (tally events).given
known_after old piece P known pid events h =
    let same : (tally h.before).given ≡ (tally (h.before ++ Piped piece ∷ [])).given =
    sym (ap (λ (t : PiperTally). t.given) (tally_push h.before (Piped piece))) in
    subst (λ (l : List PiperEvent). P pid (tally l).fed (tally l).given) (sym h.events_are)
    (subst (P pid (tally (h.before ++ Piped piece ∷ [])).fed) same (known pid h.before h.stood))
