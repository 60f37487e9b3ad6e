-- Units that went out, and all units.
use Rattle.std.proofs.Common.{◌≡◌, ℕ, zero, suc, ◌+◌, ◌*◌, ◌/◌, ◌%◌, ◌^◌, ◌<◌, true, List, [], ◌∷◌, ◌++◌, length, drop}
use Rattle.std.proofs.Common.{Option, Some, None, refl, ap, ap₂, sym, ◌∙◌, arith, append_assoc, append-nil}
use Rattle.std.proofs.Common.{length-append}
use Rattle.plp_config.specs.declared.config.Config.{Config}
use Rattle.ts_packet.specs.TsFile.{joined}
use Rattle.ts_packet.specs.declared.sizes.TheConstants.{SIZE}
use Rattle.ts_packet.proofs.JoinedLemmas.{joined_append}
use Rattle.t2mi_packet.specs.declared.packet.Body.{Body}
use Rattle.t2mi_stream.specs.Laws.{UnitReads}
use Rattle.t2mi_stream.specs.Pipe.{JoinedByte, pipe, units_in, part}
use Rattle.t2mi_stream.specs.Pipe as piped
use Rattle.frame_writer.specs.Carried.{of_frame}
use Rattle.frame_writer.specs.FramePackets.{packets_from}
use Rattle.frame_writer.proofs.CarriedLemmas.{packets_append}
use Rattle.spaced_frames.specs.Spaced.{SentFrame, spacers, spaced, spaced_behind, last_behind}
use Rattle.spaced_frames.specs.StandsFor.{SenderStandsFor, Content, is_idle, has_finished, later_in}
use Rattle.spaced_frames.specs.declared.sender.Sender.{Sender}
use Rattle.spaced_frames.specs.declared.stage.Stage.{Stage}

-- ---- how many there are

units_long : UnitReads → (pid steps counter : ℕ) (xs : List JoinedByte) → pid < 2 ^ 13 → counter < 16
    → length (joined (units_in pid steps counter xs)) ≡ SIZE * length (units_in pid steps counter xs)
unfolding units_in
units_long reads pid zero counter xs p n = refl
units_long reads pid (suc steps) counter [] p n = refl
units_long reads pid (suc steps) counter (x ∷ xs) p n =
    let rest = units_long reads pid steps ((counter + 1) % 16) (drop (part (x ∷ xs)).size (x ∷ xs)) p (omega arith) in
    let one = (reads pid 0 counter (x ∷ xs) p n (omega arith)).1 in
    omega (
      arith,
      rest,
      one,
      length-append (piped.unit pid counter (x ∷ xs))
          (joined (units_in pid steps ((counter + 1) % 16) (drop (part (x ∷ xs)).size (x ∷ xs)))),
    )

pub count_is : UnitReads → (pid : ℕ) (packets : List (List ℕ)) → pid < 2 ^ 13
    → length (joined (pipe pid packets)) / SIZE ≡ length (pipe pid packets)
count_is reads pid packets p =
    let xs = piped.joined packets in
    let e = units_long reads pid (length xs) 0 xs p (omega arith) in
    omega (arith, e)

-- ---- more frames

behind_append : (c : Config) (last : Option ℕ) (frames more : List SentFrame)
    → spaced_behind c last (frames ++ more) ≡ spaced_behind c last frames ++ spaced_behind c (last_behind last frames)
    more
behind_append c last [] more = refl
behind_append c last (x ∷ frames) more =
    let first = spacers c last x.number in
    let own = of_frame x.number x.bodies in
    let rest = spaced_behind c (Some x.number) frames in
    let others = spaced_behind c (last_behind (Some x.number) frames) more in
    ap (λ (l : List (ℕ × Body)). first ++ (own ++ l)) (behind_append c (Some x.number) frames more)
    ∙ ap (λ (l : List (ℕ × Body)). first ++ l) (sym (append_assoc own rest others))
    ∙ sym (append_assoc first (own ++ rest) others)

pub spaced_append : (c : Config) (frames more : List SentFrame)
    → spaced c (frames ++ more) ≡ spaced c frames ++ spaced_behind c (last_behind None frames) more
unfolding spaced
spaced_append c frames more = behind_append c None frames more

idle_later : (c : Config) (s : Sender) (x : Content) → is_idle s → later_in c s.stage s x ≡ []
idle_later c s x idle = ap (λ (a : Stage). later_in c a s x) idle

-- what went out is a front of all units, whatever frames follow
pub sent_front : (c : Config) (s : Sender) (x : Content) (frames more : List SentFrame) (gave : List ℕ)
    → SenderStandsFor c s x frames gave
    → (has_finished s ≡ true → is_idle s) → (has_finished s ≡ true → more ≡ [])
    → (tail : List ℕ) × (joined (pipe c.pid (packets_from c 0 (spaced c (frames ++ more)))) ≡ gave ++ tail)
sent_front c s x frames more gave h idle none =
    let later : List (ℕ × Body) = later_in c s.stage s x ++ spaced_behind c (last_behind None frames) more in
    let rest : List (List ℕ) = packets_from c (0 + length h.all) later in
    let total : spaced c (frames ++ more) ≡ h.all ++ later =
    spaced_append c frames more ∙ ap (λ (l : List (ℕ × Body)). l ++ spaced_behind c (last_behind None frames) more)
    h.total
    ∙ append_assoc h.all (later_in c s.stage s x) (spaced_behind c (last_behind None frames) more) in
    let packets : packets_from c 0 (spaced c (frames ++ more)) ≡ packets_from c 0 h.all ++ rest =
    ap (packets_from c 0) total ∙ packets_append c 0 h.all later in
    let over : has_finished s ≡ true → rest ≡ [] =
    λ on. ap₂ (λ (a b : List (ℕ × Body)). packets_from c (0 + length h.all) (a ++ b)) (idle_later c s x (idle on))
    (ap (spaced_behind c (last_behind None frames)) (none on)) in
    let p = h.sends.front rest over in (
      joined p.0,
      ap (λ (l : List (List ℕ)). joined (pipe c.pid l)) packets ∙ ap joined p.1 ∙ joined_append h.sends.units p.0
          ∙ ap (λ (l : List ℕ). l ++ joined p.0) (sym h.sends.gave_is),
    )

-- and so of complete units
pub sent_all : (c : Config) (frames more : List SentFrame) (gave : List ℕ) → more ≡ []
    → gave ≡ joined (pipe c.pid (packets_from c 0 (spaced c frames)))
    → (tail : List ℕ) × (joined (pipe c.pid (packets_from c 0 (spaced c (frames ++ more)))) ≡ gave ++ tail)
sent_all c frames more gave none is = (
  [],
  ap (λ (l : List SentFrame). joined (pipe c.pid (packets_from c 0 (spaced c (frames ++ l))))) none
      ∙ ap (λ (l : List SentFrame). joined (pipe c.pid (packets_from c 0 (spaced c l)))) (append-nil frames) ∙ sym is
      ∙ sym (append-nil gave),
)
