-- From the bytes of a stream to its packets.
use Rattle.std.proofs.Common.{◌≡◌, ℕ, suc, ◌+◌, ◌<◌, ◌≤◌, Bool, true, false, List, [], ◌∷◌, ◌++◌, map, length}
use Rattle.std.proofs.Common.{slice_get, Option, Some, None, refl, ap, sym, subst, ◌∙◌}
use Rattle.std.specs.List.{items_where_true}
use Rattle.std.proofs.lemmas.List.{length-map}
use Rattle.std.proofs.lemmas.Simd.{map-map}
use Rattle.frame_groups.specs.Groups.{groups}
use Rattle.frame_groups.specs.Modulated.{modulated}
use Rattle.t2mi_packet.specs.declared.packet.Packet.{Packet}
use Rattle.t2mi_stream.specs.Laws.{ArePackets, Carry, Survives}
use Rattle.t2mi_stream.specs.Received.{Fate, fate_of}
use Rattle.t2mi_stream.specs.Received.Fate.{Kept}
use Rattle.t2mi_stream.specs.Survivors.{placed_from, sent_packets, received_packets, survival}
use Rattle.t2mi_stream.specs.SurvivorLaws.{AcceptedSurvive, SurvivalTold, KeptUndamaged}
use Rattle.modulator.specs.Modulating.{packet_of}
use Rattle.stream_laws.specs.SentPackets.{Sent, AreNear}
use Rattle.stream_laws.proofs.GroupLemmas.{survive_apart}
use Rattle.stream_laws.specs.DamageLaws.{Survive, GroupsAreFrames, ModulatedIsRecords, WholeTold, LaterNear}
use Rattle.stream_laws.specs.Streams.{Stream, IsStream, stream_survival, Honest}
use Rattle.stream_laws.specs.GroupNumbers.{numbers_behind, GroupsNumbered}
use Rattle.stream_laws.specs.UnitLaws.{SurvivalLength, ReadAreSurvivors, HonestGroups, HonestNumbers, HonestRecords}
use Rattle.stream_laws.specs.UnitLaws.{KeptHonest, KeptWhole}

map-items_where_true : {X Y : Type 0} (f : X → Y) (tests : List Bool) (xs : List X) → map f (items_where_true tests xs)
    ≡ items_where_true tests (map f xs)
map-items_where_true f [] xs = refl
map-items_where_true f (test ∷ tests) [] = refl
map-items_where_true f (true ∷ tests) (x ∷ xs) = ap (λ (l : List _). f x ∷ l) (map-items_where_true f tests xs)
map-items_where_true f (false ∷ tests) (x ∷ xs) = map-items_where_true f tests xs

pub read_are_survivors : AcceptedSurvive → ReadAreSurvivors
read_are_survivors survive s from fates is honest =
    let tests : List Bool = stream_survival s from fates in
    sym (map-map packet_of (λ a. a.bytes) (received_packets s.pid s.packets from fates))
    ∙ ap (map packet_of) (survive s.pid s.packets from fates is.spelled honest.sent).bytes
    ∙ map-items_where_true packet_of tests s.packets
    ∙ ap (items_where_true tests) is.reads
    ∙ sym (map-items_where_true (λ (p : Sent). p.packet) tests s.sent)

length-placed_from : (place : ℕ → Option ℕ) (at : ℕ) (packets : List (List ℕ)) → length (placed_from place at packets)
    ≡ length packets
length-placed_from place at [] = refl
length-placed_from place at (b ∷ packets) = ap suc (length-placed_from place (at + length b) packets)

pub length-survival : SurvivalLength
length-survival s from fates is =
    length-map (sent_packets s.packets from fates) _ ∙ length-placed_from _ 0 s.packets
    ∙ sym (length-map s.packets packet_of) ∙ ap length is.reads ∙ length-map s.sent (λ p. p.packet)

honest_survive : (s : Stream) (from : ℕ) (fates : List Fate) → IsStream s → Honest s from fates
    → Survive s.frames s.count s.sent (stream_survival s from fates)
honest_survive s from fates is honest =
    record { some = is.some; sent_are = is.frames; told = length-survival s from fates is; near = honest.near }

pub honest_groups : ReadAreSurvivors → GroupsAreFrames → HonestGroups
honest_groups read law s from fates is honest =
    ap (groups s.frames) (read s from fates is honest)
    ∙ law s.frames s.count s.sent (stream_survival s from fates) is.some is.frames
    (survive_apart s.frames s.count s.sent (stream_survival s from fates) (honest_survive s from fates is honest))

pub honest_numbers : ReadAreSurvivors → GroupsNumbered → HonestNumbers
honest_numbers read law r s from fates first same is honest joins =
    ap (λ (ps : List Packet). numbers_behind r [] (groups r.frames ps)) (read s from fates is honest)
    ∙ law r s.count s.sent (stream_survival s from fates) first
    (subst (λ (frames : ℕ). Survive frames s.count s.sent (stream_survival s from fates)) (sym same)
    (honest_survive s from fates is honest)) joins

pub honest_records : ReadAreSurvivors → ModulatedIsRecords → HonestRecords
honest_records read law r s from fates same is honest meet =
    ap (modulated r) (read s from fates is honest)
    ∙ law r s.count s.sent (stream_survival s from fates)
    (subst (λ (frames : ℕ). Survive frames s.count s.sent (stream_survival s from fates)) (sym same)
    (honest_survive s from fates is honest)) meet

pub kept_honest : KeptUndamaged → LaterNear → KeptHonest
kept_honest undamaged near s from fates is altered kept =
    let u = undamaged s.pid s.packets from fates is.pid is.spelled altered kept in
    record {
      sent = u.sent;
      near = subst (λ (tests : List Bool). AreNear s.frames None (items_where_true tests s.sent)) (sym u.later)
          (near s.frames s.count s.sent u.lost u.left is.some is.frames);
    }

pub kept_whole : Survives → SurvivalTold → WholeTold → KeptWhole
kept_whole survives told whole c s from fates n is altered carried =
    whole c s.sent (stream_survival s from fates) n (λ i p at same.
    let c = carried i p at same in
    one c.before c.after c.packet c.first c.last s.packets i c.parts c.count is.spelled c.carried c.kept)
  where
    one : (before after : List (List ℕ)) (packet : List ℕ) (first last : ℕ) (packets : List (List ℕ)) (i : ℕ)
        → packets ≡ before ++ packet ∷ after → length before ≡ i → ArePackets packets
        → Carry packets before packet (from + first) (from + last)
        → ((n : ℕ) → first ≤ n → n < last → fate_of fates n ≡ Some Kept)
        → slice_get (survival s.pid packets from fates) i
        ≡ Some true
    one before after packet first last packets i parts count spelled carry kept =
        subst (λ (l : List (List ℕ)). slice_get (survival s.pid l from fates) i ≡ Some true) (sym parts)
        (subst (λ (k : ℕ). slice_get (survival s.pid (before ++ packet ∷ after) from fates) k ≡ Some true) count
        ((told s.pid before after packet from fates (subst ArePackets parts spelled)).told
        (survives s.pid before after packet from first last fates is.pid (subst ArePackets parts spelled) altered
        (subst (λ (l : List (List ℕ)). Carry l before packet (from + first) (from + last)) parts carry) kept)))
