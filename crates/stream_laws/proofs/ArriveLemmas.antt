-- What comes of a run of which all units are kept: the bytes that the gateway writes, and the frames of the run.
use Rattle.std.proofs.Common.{◌≡◌, ◌≢◌, ◌⊎◌, inl, ℕ, zero, suc, ◌+◌, ◌<◌, ◌≤◌, Bool, true, List, [], ◌∷◌}
use Rattle.std.proofs.Common.{◌++◌, length, replicate, Some, None, refl, ap, ap₂, sym, subst, ◌∙◌, ⊎_elim, arith}
use Rattle.std.proofs.Math.Path.{fun_ext}
use Rattle.std.specs.List.{items_where_true, last_or, list_all}
use Rattle.std.specs.Option.{option_map_or}
use Rattle.std.proofs.lemmas.Bool.{cases_eq, cond_both, cond-false, ne_eqb, le-leb}
use Rattle.std.proofs.lemmas.List.{length-map}
use Rattle.plp_config.specs.RunLength.{frame_count}
use Rattle.plp_config.specs.declared.config.Config.{Config}
use Rattle.ts_packet.specs.TsFile.{joined}
use Rattle.t2mi_stream.specs.Pipe.{JoinedByte, pipe, joined as joined_items}
use Rattle.t2mi_stream.specs.Received.{Fate, left_of}
use Rattle.t2mi_stream.specs.Received.Fate.{Kept}
use Rattle.t2mi_stream.specs.Survivors.{begun_from}
use Rattle.t2mi_stream.specs.SurvivorLaws.{KeptUndamaged}
use Rattle.record_laws.specs.Laws.{AllWhole}
use Rattle.record_laws.specs.Records.{records}
use Rattle.gateway_core.specs.Packets.{packets_of}
use Rattle.modulator.specs.Modulating.{packet_of}
use Rattle.stream_laws.specs.SentPackets.{Sent, frame_packets, InFrameOrder, AreFrames}
use Rattle.stream_laws.specs.Survivors.{carries, is_whole, end_of}
use Rattle.stream_laws.specs.Streams.{Stream, IsStream, stream_survival}
use Rattle.stream_laws.specs.FrameLaws.{FramesAreStream, WholeArrives, WholeComes}
use Rattle.stream_laws.specs.SentFrames.{run_stream}
use Rattle.stream_laws.proofs.FrameRecordLemmas.{last_below, none_altered, each_kept}

-- ---- the bytes

pub left_all : (units : List (List ℕ)) → left_of units (replicate (length units) Kept) ≡ joined units
left_all [] = refl
left_all (u ∷ units) = ap (λ (bytes : List ℕ). u ++ bytes) (left_all units)

pub whole_arrives : WholeArrives
whole_arrives c inputs = sym (left_all (pipe c.pid (packets_of c inputs)))

-- ---- each packet survives

pub all_begun : (xs : List JoinedByte) (at : ℕ) (packets : List (List ℕ))
    → begun_from xs 0 at packets ≡ replicate (length packets) true
all_begun xs at [] = refl
all_begun xs at (packet ∷ packets) =
    ap₂ (λ (t : Bool) (flags : List Bool). t ∷ flags) (le-leb _ _ (omega arith))
    (all_begun xs (at + length packet) packets)

abbrev all_survive : List Sent → List Bool
all_survive sent = replicate (length sent) true

pub all_left : {X : Type 0} (xs : List X) → items_where_true (replicate (length xs) true) xs ≡ xs
all_left [] = refl
all_left {X = X} (x ∷ xs) = ap (λ (l : List X). x ∷ l) (all_left xs)

each_whole : (c : Config) (sent : List Sent) (n : ℕ) → is_whole c sent (all_survive sent) n ≡ true
each_whole c [] n = refl
each_whole c (s ∷ sent) n =
    cond_both {A = List (Sent × Bool)} (carries c n s) _ _ (λ l. list_all (λ (p : Sent × Bool). p.1) l ≡ true)
    (λ t. each_whole c sent n) (λ t. each_whole c sent n)

-- ---- the last packet is of the last frame

own_or_later : (k : ℕ) (s : Sent) (sent : List Sent) → frame_packets k (s ∷ sent) ≢ [] → (k < s.frame + 1)
    ⊎ (frame_packets k sent ≢ [])
own_or_later k s sent some = grind (arith, cond-false, ne_eqb, cases_eq)

last_above : (frames k : ℕ) (b : Sent) (sent : List Sent) → InFrameOrder frames (Some b.frame) sent → (k < b.frame + 1)
    ⊎ (frame_packets k sent ≢ [])
    → k < option_map_or (λ s. s.frame + 1) (last_or (Some b) sent) 0
last_above frames k b [] o w = ⊎_elim (λ (l : k < b.frame + 1). l) (λ (some : frame_packets k [] ≢ []).
    absurd (some refl)) w
last_above frames k b (s ∷ sent) o w = last_above frames k s sent o.2
    (⊎_elim
    (λ (l : k < b.frame + 1). let f = o.1.frame in inl (omega (arith, l, f)))
    (λ (some : frame_packets k (s ∷ sent) ≢ []). own_or_later k s sent some)
    w)

above_each : (frames k : ℕ) (sent : List Sent) → InFrameOrder frames None sent → frame_packets k sent ≢ []
    → k < end_of sent
above_each frames k [] o some = absurd (some refl)
above_each frames k (s ∷ sent) o some = last_above frames k s sent o.2 (own_or_later k s sent some)

within : (frames n : ℕ) (sent : List Sent) → AreFrames frames n sent → end_of sent ≤ n
within frames n sent are =
    subst (λ (l : List Sent). end_of l ≤ n) (all_left sent) (last_below n sent (all_survive sent) None
    (omega arith) are.below)

end_is : (frames n : ℕ) (sent : List Sent) → AreFrames frames n sent → end_of sent ≡ n
end_is frames zero sent are = let l = within frames 0 sent are in omega (arith, l)
end_is frames (suc k) sent are =
    let l = within frames (suc k) sent are in
    let m = above_each frames k sent are.order (are.some k (omega arith)) in
    omega (arith, l, m)

-- ---- the records are the frames

pub whole_comes : FramesAreStream → KeptUndamaged → AllWhole → WholeComes
whole_comes stream undamaged all c inputs plan ids l =
    let s : Stream = run_stream c inputs in
    let is : IsStream s = stream c inputs (frame_count c (λ plp. length (inputs plp))) plan ids l in
    let count : ℕ = length (pipe s.pid s.packets) in
    let fates : List Fate = replicate count Kept in
    let survive = (undamaged s.pid s.packets 0 fates is.pid is.spelled (none_altered count)
    (each_kept count)).survive in
    let a = length-map s.packets packet_of in
    let b = length-map s.sent (λ (x : Sent). x.packet) in
    let told : stream_survival s 0 fates ≡ all_survive s.sent =
    survive ∙ all_begun (joined_items s.packets) 0 s.packets
    ∙ ap (λ (k : ℕ). replicate k true) (sym a ∙ ap length is.reads ∙ b) in
    ap (λ (flags : List Bool). records c inputs (is_whole c s.sent flags) (end_of (items_where_true flags s.sent))) told
    ∙ ap₂ (λ (whole : ℕ → Bool) (end : ℕ). records c inputs whole end) (fun_ext (each_whole c s.sent))
    (ap end_of (all_left s.sent) ∙ end_is s.frames s.count s.sent is.frames)
    ∙ all c inputs
