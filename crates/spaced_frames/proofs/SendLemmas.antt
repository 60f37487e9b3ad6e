-- Units of frames.
use Rattle.std.proofs.Common.{◌≡◌, ◌≢◌, ◌⊎◌, ℕ, suc, ◌+◌, ◌*◌, ◌/◌, ◌<◌, ◌≤◌, Option, Some, None, Bool, true, false}
use Rattle.std.proofs.Common.{List, [], ◌∷◌, ◌++◌, length, drop, refl, ap, ap₂, sym, subst, ◌∙◌, inl, inr, ⊎_elim}
use Rattle.std.proofs.Common.{arith, append-nil, append_assoc, length-append}
use Rattle.std.specs.Prelude.{slice_get}
use Rattle.std.proofs.lemmas.Bool.{true≢false}
use Rattle.terms.proofs.ListLemmas.{same_front, next_element, all_of}
use Rattle.ts_packet.proofs.JoinedLemmas.{joined_append, joined_push}
use Rattle.plp_config.specs.declared.config.Config.{Config}
use Rattle.t2mi_packet.specs.declared.packet.Body.{Body}
use Rattle.ts_packet.specs.TsFile.{joined}
use Rattle.t2mi_stream.specs.Complete.{complete_units}
use Rattle.t2mi_stream.specs.Pipe.{pipe}
use Rattle.t2mi_stream.specs.PiperStandsFor.{PiperStandsFor, is_finished}
use Rattle.t2mi_stream.proofs.CompleteLemmas.{complete_law}
use Rattle.frame_writer.specs.Carried.{of_frame}
use Rattle.frame_writer.specs.Flowing.{Flows, Feeds, rest_of, bytes_bound, at_hand, packet_bound}
use Rattle.frame_writer.specs.FramePackets.{packets_from}
use Rattle.frame_writer.specs.Units.{GivesAll, HasCaughtUp}
use Rattle.frame_writer.specs.declared.flow.Flow.{Flow}
use Rattle.frame_writer.proofs.CarriedLemmas.{carries_more, packets_append}
use Rattle.spaced_frames.specs.Spaced.{SentFrame, spacer, spacers, spacers_behind, spacers_between, spaced}
use Rattle.spaced_frames.specs.Spaced.{spaced_behind, last_behind}
use Rattle.spaced_frames.specs.StandsFor.{Sends, Content, SenderStandsFor, Continues, sent_as, bodies_as, left_in}
use Rattle.spaced_frames.specs.StandsFor.{number_in, later_in, HasGiven, stages_in, left_of}
use Rattle.spaced_frames.specs.declared.sender.Sender.{Sender}
use Rattle.spaced_frames.specs.declared.stage.Stage.{Stage}
use Rattle.spaced_frames.specs.declared.stage.Stage.TheVariants as at

drop_front : {X : Type 0} (xs ys : List X) → drop (length xs) (xs ++ ys) ≡ ys
drop_front [] ys = refl
drop_front (x ∷ xs) ys = drop_front xs ys

is_empty : {X : Type 0} (xs : List X) → (xs ≡ []) ⊎ (xs ≢ [])
is_empty [] = inl refl
is_empty (x ∷ xs) = inr (λ e. let n = ap length e in omega (arith, n))

-- units went out
pub sends_more : (c : Config) (old new : Flow) (n : ℕ) (before now : List Body) (full : Bool) (all : List (ℕ × Body))
    (gave bytes : List ℕ) → GivesAll c old new n before now full bytes → Sends c old n before all gave
    → Sends c new n now all (gave ++ bytes)
sends_more c old new n before now full all gave bytes g s =
    let units = s.units ++ g.units in
    let count : length s.units + length g.units ≡ length units = sym (length-append s.units g.units) in
    record {
      units = units;
      gave_is = ap₂ (λ (x y : List ℕ). x ++ y) s.gave_is g.bytes_are ∙ sym (joined_append s.units g.units);
      flows = subst (λ (k : ℕ). Flows new.outlet c n now all k) count (g.gives.flows all (length s.units) s.flows);
      front = λ more over.
          let is_over : old.finished ≡ true → more ≡ [] = λ on. over (g.gives.finished ∙ on) in
          let p = s.front more is_over in
          let q = g.gives.next all (length s.units) s.flows more is_over in
          let rest : p.0 ≡ g.units ++ q.0 =
          sym (drop_front s.units p.0) ∙ ap (λ (l : List (List ℕ)). drop (length s.units) l) (sym p.1) ∙ q.1 in
          (q.0, p.1 ∙ ap (λ (l : List (List ℕ)). s.units ++ l) rest ∙ sym (append_assoc s.units g.units q.0));
      whole = λ off. ⊎_elim
          (λ (none : g.units ≡ []).
          let w = s.whole (sym g.gives.finished ∙ off) in
          let k = ap length none in
          omega (arith, w, count, k))
          (λ (some : g.units ≢ []).
          let w = g.gives.complete (sym g.gives.finished ∙ off) some all (length s.units) s.flows in
          omega (arith, w, count))
          (is_empty g.units);
    }

-- more is begun behind all that was
pub sends_begun : (c : Config) (old new : Flow) (n m : ℕ) (bodies now : List Body) (all : List (ℕ × Body))
    (gave : List ℕ)
    → old.finished ≡ false → new.finished ≡ old.finished → Feeds c old.outlet new.outlet m bodies now
    → Sends c old n [] all gave → Sends c new m now (all ++ of_frame m bodies) gave
sends_begun c old new n m bodies now all gave going same feeds s =
    let next = of_frame m bodies in
    let more = packets_append c 0 all next in
    let l = complete_law c.pid (packets_from c 0 all) (packets_from c (0 + length all) next) in
    record {
      units = s.units;
      gave_is = s.gave_is;
      flows = feeds.flows (all ++ next) (length s.units)
          (carries_more (PiperStandsFor old.outlet.piper) (is_finished old.outlet.piper) (rest_of old.outlet)
          old.outlet.packet_count c n
          m [] bodies all (length s.units) refl s.flows);
      front = λ later _.
          let p = s.front (packets_from c (0 + length all) next ++ later)
          (λ on. absurd (true≢false (sym on ∙ going))) in (
            p.0,
            ap (pipe c.pid) (ap (λ (l : List (List ℕ)). l ++ later) more
                ∙ append_assoc (packets_from c 0 all) (packets_from c (0 + length all) next) later) ∙ p.1,
          );
      whole = λ _.
          let w = s.whole going in
          let e = ap (λ (l : List (List ℕ)). length (complete_units c.pid l)) more in
          let k = ap length l.complete in
          let z = length-append (complete_units c.pid (packets_from c 0 all)) l.others in
          omega (arith, w, e, k, z);
    }

-- the same by other names of the number and the bodies
pub sends_begun_as : (c : Config) (old new : Flow) (n m number now_number : ℕ) (before bodies now : List Body)
    (all : List (ℕ × Body))
    (gave : List ℕ) → old.finished ≡ false → new.finished ≡ old.finished → m ≡ number → before ≡ bodies
    → now_number ≡ number
    → Feeds c old.outlet new.outlet m before now → Sends c old n [] all gave
    → Sends c new now_number now (all ++ of_frame number bodies) gave
sends_begun_as c old new n m number now_number before bodies now all gave going same is_m is_before is_now feeds s =
    subst (λ (k : ℕ). Sends c new k now (all ++ of_frame number bodies) gave) (sym is_now)
    (sends_begun c old new n number bodies now all gave going same
    (subst (λ (k : ℕ). Feeds c old.outlet new.outlet k bodies now) is_m
    (subst (λ (l : List Body). Feeds c old.outlet new.outlet m l now) is_before feeds)) s)

-- ---- spacers, and the frame behind them

no_spacers : (s t : ℕ) → t ≤ s + 14 → spacers_between s t ≡ 0
no_spacers s t l = omega (arith, l)

one_spacer : (s t : ℕ) → s + 14 < t → spacers_between s t ≡ suc (spacers_between (s + 14) t)
one_spacer s t l = omega (arith, l)

-- the frame comes at once
pub frame_next : (c : Config) (new : Sender) (x : Content) (superframe t number : ℕ) (bodies : List Body)
    (all : List (ℕ × Body))
    (gave : List ℕ) → t ≤ superframe + 14 → later_in c new.stage new x ≡ []
    → Sends c new.flow (number_in new.stage new) (left_in c new.stage new x) (all ++ of_frame number bodies) gave
    → Continues c new x (spacers_behind c superframe (spacers_between superframe t) ++ of_frame number bodies) all gave
frame_next c new x superframe t number bodies all gave near none s = record {
  begun = all ++ of_frame number bodies;
  total =
      ap (λ (k : ℕ). all ++ (spacers_behind c superframe k ++ of_frame number bodies)) (no_spacers superframe t near)
      ∙ sym (append-nil (all ++ of_frame number bodies))
      ∙ ap (λ (l : List (ℕ × Body)). (all ++ of_frame number bodies) ++ l) (sym none);
  sends = s;
}

-- a spacer comes first
pub spacer_next : (c : Config) (new : Sender) (x : Content) (superframe t number : ℕ) (bodies : List Body)
    (all : List (ℕ × Body))
    (gave : List ℕ) → superframe + 14 < t
    → later_in c new.stage new x ≡ spacers_behind c (superframe + 14) (spacers_between (superframe + 14) t)
    ++ of_frame number bodies
    → Sends c new.flow (number_in new.stage new) (left_in c new.stage new x) (all ++ spacer c (superframe + 14)) gave
    → Continues c new x (spacers_behind c superframe (spacers_between superframe t) ++ of_frame number bodies) all gave
spacer_next c new x superframe t number bodies all gave far later s =
    let one = spacer c (superframe + 14) in
    let others = spacers_behind c (superframe + 14) (spacers_between (superframe + 14) t) in
    record {
      begun = all ++ one;
      total =
          ap (λ (k : ℕ). all ++ (spacers_behind c superframe k ++ of_frame number bodies)) (one_spacer superframe t far)
          ∙ ap (λ (l : List (ℕ × Body)). all ++ l) (append_assoc one others (of_frame number bodies))
          ∙ sym (append_assoc all one (others ++ of_frame number bodies))
          ∙ ap (λ (l : List (ℕ × Body)). (all ++ one) ++ l) (sym later);
      sends = s;
    }

-- ---- one frame more

behind_push : (c : Config) (last : Option ℕ) (frames : List SentFrame) (x : SentFrame)
    → spaced_behind c last (frames ++ x ∷ [])
    ≡ spaced_behind c last frames ++ (spacers c (last_behind last frames) x.number ++ of_frame x.number x.bodies)
behind_push c last [] x = ap (λ (l : List (ℕ × Body)). spacers c last x.number ++ l)
    (append-nil (of_frame x.number x.bodies))
behind_push c last (y ∷ frames) x =
    let own = of_frame y.number y.bodies in
    let rest = spacers c (last_behind (Some y.number) frames) x.number ++ of_frame x.number x.bodies in
    ap (λ (l : List (ℕ × Body)). spacers c last y.number ++ (own ++ l)) (behind_push c (Some y.number) frames x)
    ∙ ap (λ (l : List (ℕ × Body)). spacers c last y.number ++ l)
    (sym (append_assoc own (spaced_behind c (Some y.number) frames) rest))
    ∙ sym (append_assoc (spacers c last y.number) (own ++ spaced_behind c (Some y.number) frames) rest)

spaced_push : (c : Config) (frames : List SentFrame) (x : SentFrame) → spaced c (frames ++ x ∷ [])
    ≡ spaced c frames ++ (spacers c (last_behind None frames) x.number ++ of_frame x.number x.bodies)
unfolding spaced
spaced_push c frames x = behind_push c None frames x

last_push : (last : Option ℕ) (frames : List SentFrame) (x : SentFrame)
    → last_behind last (frames ++ x ∷ []) ≡ Some x.number
last_push last [] x = refl
last_push last (y ∷ frames) x = last_push (Some y.number) frames x

-- a frame is begun
pub stands_begun : (c : Config) (old new : Sender) (w x : Content) (frames : List SentFrame) (gave : List ℕ)
    (number : ℕ)
    → old.stage ≡ at.Idle → old.plan.now ≡ c → new.plan.now ≡ c → new.number ≡ number → new.stage ≢ at.Idle
    → ((all : List (ℕ × Body)) → Sends c old.flow old.place.number [] all gave
    → Continues c new x (spacers c old.last number ++ of_frame number (bodies_as c number x)) all gave)
    → SenderStandsFor c old w frames gave → SenderStandsFor c new x (frames ++ sent_as c number x ∷ []) gave
stands_begun c old new w x frames gave number idle was is number_is busy goes h =
    let next = spacers c (last_behind None frames) number ++ of_frame number (bodies_as c number x) in
    let sends : Sends c old.flow old.place.number [] h.all gave =
    subst (λ (t : Stage). Sends c old.flow (number_in t old) (left_in c t old w) h.all gave) idle h.sends in
    let total : spaced c frames ≡ h.all =
    h.total ∙ ap (λ (t : Stage). h.all ++ later_in c t old w) idle ∙ append-nil h.all in
    let g : Continues c new x next h.all gave =
    subst (λ (o : Option ℕ). Continues c new x (spacers c o number ++ of_frame number (bodies_as c number x))
    h.all gave) (h.last idle)
    (goes h.all sends) in
    record {
      plan = is;
      all = g.begun;
      total = spaced_push c frames (sent_as c number x) ∙ ap (λ (l : List (ℕ × Body)). l ++ next) total ∙ g.total;
      sends = g.sends;
      last = λ e. absurd (busy e);
      number = λ _. last_push None frames (sent_as c number x) ∙ ap Some (sym number_is);
    }

-- what comes behind a spacer
pub later_spaces : (c : Config) (s : Sender) (x : Content) (superframe number : ℕ) → s.stage ≡ at.Spaces
    → s.superframe ≡ superframe
    → s.number ≡ number → later_in c s.stage s x
    ≡ spacers_behind c superframe (spacers_between superframe (number / c.frames)) ++ of_frame number
    (bodies_as c number x)
later_spaces c s x superframe number stage is_super is_number =
    ap (λ (t : Stage). later_in c t s x) stage
    ∙ ap₂ (λ (m n : ℕ). spacers_behind c m (spacers_between m (n / c.frames)) ++ of_frame n (bodies_as c n x))
    is_super is_number

-- the first frame of all
pub first_continues : (c : Config) (new : Sender) (x : Content) (next all : List (ℕ × Body)) (gave : List ℕ)
    → later_in c new.stage new x ≡ [] → Sends c new.flow (number_in new.stage new) (left_in c new.stage new x)
    (all ++ next) gave
    → Continues c new x next all gave
first_continues c new x next all gave none s = record {
  begun = all ++ next;
  total = sym (append-nil (all ++ next)) ∙ ap (λ (l : List (ℕ × Body)). (all ++ next) ++ l) (sym none);
  sends = s;
}

idle_or_sends : at.Idle ≡ at.Sends → ⊥
idle_or_sends e = let z : Unit {0} = tt in cc

pub sends_is : (s : Sender) → s.stage ≡ at.Sends → s.stage ≢ at.Idle
sends_is s e = λ i. idle_or_sends (sym i ∙ e)

-- ---- units are given

pub spaces_or_idle : at.Spaces ≡ at.Idle → ⊥
spaces_or_idle e = let z : Unit {0} = tt in cc

-- what is under way is still
pub given_on : (c : Config) (old new : Sender) (x : Content) (frames : List SentFrame) (gave bytes : List ℕ)
    (t : Stage) (full : Bool)
    → old.stage ≡ t → new.stage ≡ t → t ≢ at.Idle → new.plan.now ≡ old.plan.now → new.number ≡ old.number
    → later_in c t new x ≡ later_in c t old x → number_in t new ≡ number_in t old
    → GivesAll c old.flow new.flow (number_in t old) (left_in c t old x) (left_in c t new x) full bytes
    → SenderStandsFor c old x frames gave → SenderStandsFor c new x frames (gave ++ bytes)
given_on c old new x frames gave bytes t full was is busy plan number later same gives h =
    let sends : Sends c old.flow (number_in t old) (left_in c t old x) h.all gave =
    subst (λ (t : Stage). Sends c old.flow (number_in t old) (left_in c t old x) h.all gave) was h.sends in
    let more = sends_more c old.flow new.flow (number_in t old) (left_in c t old x) (left_in c t new x)
    full h.all gave bytes gives sends in
    record {
      plan = plan ∙ h.plan;
      all = h.all;
      total =
          h.total
          ∙ ap (λ (t : Stage). h.all ++ later_in c t old x) was
          ∙ ap (λ (l : List (ℕ × Body)). h.all ++ l) (sym later)
          ∙ ap (λ (t : Stage). h.all ++ later_in c t new x) (sym is);
      sends = subst (λ (t : Stage). Sends c new.flow (number_in t new) (left_in c t new x) h.all (gave ++ bytes))
          (sym is)
          (subst (λ (n : ℕ). Sends c new.flow n (left_in c t new x) h.all (gave ++ bytes)) (sym same) more);
      last = λ e. absurd (busy (sym is ∙ e));
      number = λ _. h.number (λ e. busy (sym was ∙ e)) ∙ ap Some (sym number);
    }

-- what units of a frame went out that is over
sent_over : (c : Config) (old : Sender) (new : Flow) (x : Content) (frames : List SentFrame) (gave bytes : List ℕ)
    (now : List Body)
    (full : Bool) → old.stage ≡ at.Sends → now ≡ []
    → GivesAll c old.flow new old.place.number (left_in c at.Sends old x) now full bytes
    → (h : SenderStandsFor c old x frames gave) → Sends c new old.place.number [] h.all (gave ++ bytes)
sent_over c old new x frames gave bytes now full was none gives h =
    subst (λ (l : List Body). Sends c new old.place.number l h.all (gave ++ bytes)) none
    (sends_more c old.flow new old.place.number (left_in c at.Sends old x) now full h.all gave bytes gives
    (subst (λ (t : Stage). Sends c old.flow (number_in t old) (left_in c t old x) h.all gave) was h.sends))

sent_total : (c : Config) (old : Sender) (x : Content) (frames : List SentFrame) (gave : List ℕ) → old.stage ≡ at.Sends
    → (h : SenderStandsFor c old x frames gave) → spaced c frames ≡ h.all
sent_total c old x frames gave was h = h.total ∙ ap (λ (t : Stage). h.all ++ later_in c t old x) was ∙ append-nil h.all

pub given_over : (c : Config) (old new : Sender) (x : Content) (frames : List SentFrame) (gave bytes : List ℕ)
    (now : List Body)
    (full : Bool) → old.stage ≡ at.Sends → new.stage ≡ at.Idle → new.plan.now ≡ old.plan.now
    → new.last ≡ Some old.number
    → new.place.number ≡ old.place.number → now ≡ []
    → GivesAll c old.flow new.flow old.place.number (left_in c at.Sends old x) now full bytes
    → SenderStandsFor c old x frames gave → SenderStandsFor c new x frames (gave ++ bytes)
given_over c old new x frames gave bytes now full was is plan last same none gives h =
    record {
      plan = plan ∙ h.plan;
      all = h.all;
      total =
          sent_total c old x frames gave was h
          ∙ sym (append-nil h.all)
          ∙ ap (λ (t : Stage). h.all ++ later_in c t new x) (sym is);
      sends = subst (λ (t : Stage). Sends c new.flow (number_in t new) (left_in c t new x) h.all (gave ++ bytes))
          (sym is)
          (subst (λ (n : ℕ). Sends c new.flow n [] h.all (gave ++ bytes)) (sym same)
          (sent_over c old new.flow x frames gave bytes now full was none gives h));
      last = λ _. last ∙ sym (h.number (sends_is old was));
      number = λ n. absurd (n is);
    }

-- then all complete units did
pub sent_all : (c : Config) (old : Sender) (new : Flow) (x : Content) (frames : List SentFrame) (gave bytes : List ℕ)
    (now : List Body) (full : Bool) → old.stage ≡ at.Sends → old.flow.finished ≡ false
    → GivesAll c old.flow new old.place.number (left_in c at.Sends old x) now full bytes
    → HasCaughtUp c new old.place.number now → SenderStandsFor c old x frames gave
    → HasGiven complete_units c frames (gave ++ bytes)
sent_all c old new x frames gave bytes now full was going gives caught h =
    let over = sent_over c old new x frames gave bytes now full was caught.spent gives h in
    let open_yet : new.finished ≡ false = gives.gives.finished ∙ going in
    let packets = packets_from c 0 h.all in
    let p = over.front [] (λ _. refl) in
    let q = complete_law c.pid packets [] in
    let count : length over.units ≡ length (complete_units c.pid packets) =
    caught.all open_yet h.all (length over.units)
    (subst (λ (l : List Body). Flows new.outlet c old.place.number l h.all (length over.units)) (sym caught.spent)
    over.flows) in
    over.gave_is
    ∙ ap joined (same_front over.units (complete_units c.pid packets) p.0 q.rest (sym p.1 ∙ q.units) count)
    ∙ ap (λ (l : List (ℕ × Body)). joined (complete_units c.pid (packets_from c 0 l)))
    (sym (sent_total c old x frames gave was h))

-- a spacer is over: what comes behind it is begun
pub spacer_over : (c : Config) (old new : Sender) (mid : Flow) (x : Content) (frames : List SentFrame)
    (gave bytes : List ℕ)
    (now : List Body) (full : Bool) → old.stage ≡ at.Spaces → new.stage ≢ at.Idle → new.plan.now ≡ c
    → new.number ≡ old.number → now ≡ []
    → GivesAll c old.flow mid old.spacer.number (left_in c at.Spaces old x) now full bytes
    → ((n : ℕ) (all : List (ℕ × Body)) (gave : List ℕ) → Sends c mid n [] all gave
    → Continues c new x (later_in c at.Spaces old x) all gave)
    → SenderStandsFor c old x frames gave → SenderStandsFor c new x frames (gave ++ bytes)
spacer_over c old new mid x frames gave bytes now full was busy plan number none gives goes h =
    let sends : Sends c old.flow old.spacer.number (left_in c at.Spaces old x) h.all gave =
    subst (λ (t : Stage). Sends c old.flow (number_in t old) (left_in c t old x) h.all gave) was h.sends in
    let over : Sends c mid old.spacer.number [] h.all (gave ++ bytes) =
    subst (λ (l : List Body). Sends c mid old.spacer.number l h.all (gave ++ bytes)) none
    (sends_more c old.flow mid old.spacer.number (left_in c at.Spaces old x) now full h.all gave bytes gives sends) in
    let g = goes old.spacer.number h.all (gave ++ bytes) over in
    record {
      plan = plan;
      all = g.begun;
      total = h.total ∙ ap (λ (t : Stage). h.all ++ later_in c t old x) was ∙ g.total;
      sends = g.sends;
      last = λ e. absurd (busy e);
      number = λ _. h.number (λ e. spaces_or_idle (sym was ∙ e)) ∙ ap Some (sym number);
    }

-- how often units can be asked for, behind a spacer that was begun
pub spacer_left_of : (c : Config) (old new : Sender) (x : Content) (superframe number : ℕ)
    → superframe + 14 < number / c.frames
    → new.stage ≡ at.Spaces → new.superframe ≡ superframe + 14 → new.number ≡ number
    → bytes_bound new.flow.outlet (left_in c new.stage new x)
    ≤ at_hand old.flow.outlet + packet_bound * length (spacer c (superframe + 14))
    → left_of c new x ≤ at_hand old.flow.outlet + packet_bound * length (spacers_behind c superframe
    (spacers_between superframe (number / c.frames)) ++ of_frame number (bodies_as c number x))
    + 1 + spacers_between superframe (number / c.frames)
spacer_left_of c old new x superframe number far stage is_super is_number bound =
    let t = number / c.frames in
    let one = spacer c (superframe + 14) in
    let others = spacers_behind c (superframe + 14) (spacers_between (superframe + 14) t) in
    let frame = of_frame number (bodies_as c number x) in
    let k = one_spacer superframe t far in
    let later : length (later_in c new.stage new x) ≡ length (others ++ frame) =
    ap length (later_spaces c new x (superframe + 14) number stage is_super is_number) in
    let stages : stages_in c new.stage new ≡ 2 + spacers_between (superframe + 14) t =
    ap (λ (a : Stage). stages_in c a new) stage
    ∙ ap₂ (λ (m n : ℕ). 2 + spacers_between m (n / c.frames)) is_super is_number in
    let all : length (spacers_behind c superframe (spacers_between superframe t) ++ frame)
    ≡ length one + length (others ++ frame) =
    ap (λ (j : ℕ). length (spacers_behind c superframe j ++ frame)) k
    ∙ ap length (append_assoc one others frame)
    ∙ length-append one (others ++ frame) in
    omega (arith, bound, later, stages, all, k)

-- a frame is under way only before the end
pub going : (finished : Bool) (t : Stage) → (finished ≡ true → t ≡ at.Idle) → t ≡ at.Sends → finished ≡ false
going true t idle sends = absurd (idle_or_sends (sym (idle refl) ∙ sends))
going false t idle sends = refl

-- ---- the end

idle_sends : (c : Config) (s : Sender) (x : Content) (frames : List SentFrame) (gave : List ℕ) → s.stage ≡ at.Idle
    → (h : SenderStandsFor c s x frames gave) → Sends c s.flow s.place.number [] h.all gave
idle_sends c s x frames gave idle h = subst (λ (t : Stage). Sends c s.flow (number_in t s) (left_in c t s x) h.all gave)
    idle h.sends

idle_total : (c : Config) (s : Sender) (x : Content) (frames : List SentFrame) (gave : List ℕ) → s.stage ≡ at.Idle
    → (h : SenderStandsFor c s x frames gave) → spaced c frames ≡ h.all
idle_total c s x frames gave idle h = h.total ∙ ap (λ (t : Stage). h.all ++ later_in c t s x) idle ∙ append-nil h.all

-- with other units that went out
idle_stands : (c : Config) (old new : Sender) (x : Content) (frames : List SentFrame) (gave more : List ℕ)
    → old.stage ≡ at.Idle
    → new.stage ≡ at.Idle → new.plan.now ≡ old.plan.now → new.last ≡ old.last
    → (h : SenderStandsFor c old x frames gave) → Sends c new.flow new.place.number [] h.all more
    → SenderStandsFor c new x frames more
idle_stands c old new x frames gave more was is plan last h sends = record {
  plan = plan ∙ h.plan;
  all = h.all;
  total = idle_total c old x frames gave was h ∙ sym (append-nil h.all)
      ∙ ap (λ (t : Stage). h.all ++ later_in c t new x) (sym is);
  sends = subst (λ (t : Stage). Sends c new.flow (number_in t new) (left_in c t new x) h.all more) (sym is) sends;
  last = λ _. last ∙ h.last was;
  number = λ n. absurd (n is);
}

pub finished_stands : (c : Config) (old : Sender) (flow : Flow) (new : Sender) (x : Content) (frames : List SentFrame)
    (gave : List ℕ)
    → new.flow ≡ flow → old.stage ≡ at.Idle → new.stage ≡ at.Idle → new.plan.now ≡ old.plan.now → new.last ≡ old.last
    → new.place.number ≡ old.place.number → old.flow.finished ≡ false → flow.finished ≡ true
    → ((c : Config) (n : ℕ) (left : List Body) (all : List (ℕ × Body)) (given : ℕ)
    → Flows old.flow.outlet c n left all given
    → Flows flow.outlet c n left all given)
    → SenderStandsFor c old x frames gave → SenderStandsFor c new x frames gave
finished_stands c old flow new x frames gave flow_is was is plan last place going over flows h =
    let s = idle_sends c old x frames gave was h in
    idle_stands c old new x frames gave gave was is plan last h
    (subst (λ (f : Flow). Sends c f new.place.number [] h.all gave) (sym flow_is)
    (subst (λ (n : ℕ). Sends c flow n [] h.all gave) (sym place)
    (record {
      units = s.units;
      gave_is = s.gave_is;
      flows = flows c old.place.number [] h.all (length s.units) s.flows;
      front = λ more e. s.front more (λ on. absurd (true≢false (sym on ∙ going)));
      whole = λ off. absurd (true≢false (sym over ∙ off));
    })))

pub rest_stands : (c : Config) (old new : Sender) (x : Content) (frames : List SentFrame) (gave unit : List ℕ)
    → old.stage ≡ at.Idle
    → new.stage ≡ at.Idle → new.plan.now ≡ old.plan.now → new.last ≡ old.last → new.place.number ≡ old.place.number
    → old.flow.finished ≡ true → new.flow.finished ≡ true
    → ((c : Config) (n : ℕ) (all : List (ℕ × Body)) (given : ℕ) → Flows old.flow.outlet c n [] all given
    → (more : List (List ℕ)) → (old.flow.finished ≡ true → more ≡ [])
    → slice_get (pipe c.pid (packets_from c 0 all ++ more)) given ≡ Some unit)
    → ((c : Config) (n : ℕ) (all : List (ℕ × Body)) (given : ℕ) → Flows old.flow.outlet c n [] all given
    → Flows new.flow.outlet c n [] all (given + 1))
    → SenderStandsFor c old x frames gave → SenderStandsFor c new x frames (gave ++ unit)
rest_stands c old new x frames gave unit was is plan last place finished over next flows h =
    let s = idle_sends c old x frames gave was h in
    let count : length s.units + 1 ≡ length (s.units ++ unit ∷ []) = sym (length-append s.units (unit ∷ [])) in
    idle_stands c old new x frames gave (gave ++ unit) was is plan last h
    (subst (λ (n : ℕ). Sends c new.flow n [] h.all (gave ++ unit)) (sym place)
    (record {
      units = s.units ++ unit ∷ [];
      gave_is = ap (λ (l : List ℕ). l ++ unit) s.gave_is ∙ sym (joined_push s.units unit);
      flows = subst (λ (k : ℕ). Flows new.flow.outlet c old.place.number [] h.all k) count
          (flows c old.place.number h.all (length s.units) s.flows);
      front = λ more e.
          let none : more ≡ [] = e over in
          let p = s.front more (λ _. none) in
          let at_end : slice_get (s.units ++ p.0) (length s.units) ≡ Some unit =
          ap (λ (l : List (List ℕ)). slice_get l (length s.units)) (sym p.1)
          ∙ next c old.place.number h.all (length s.units) s.flows more (λ _. none) in
          let r = next_element s.units p.0 unit at_end in
          (r.0, p.1 ∙ ap (λ (l : List (List ℕ)). s.units ++ l) r.1 ∙ sym (append_assoc s.units (unit ∷ []) r.0));
      whole = λ off. absurd (true≢false (sym over ∙ off));
    }))

pub rest_all : (c : Config) (s : Sender) (x : Content) (frames : List SentFrame) (gave : List ℕ) → s.stage ≡ at.Idle
    → ((c : Config) (n : ℕ) (all : List (ℕ × Body)) (given : ℕ) → Flows s.flow.outlet c n [] all given
    → length (pipe c.pid (packets_from c 0 all)) ≡ given)
    → SenderStandsFor c s x frames gave → HasGiven pipe c frames gave
rest_all c s x frames gave idle none h =
    let o = idle_sends c s x frames gave idle h in
    let packets = packets_from c 0 h.all in
    let p = o.front [] (λ _. refl) in
    let units : pipe c.pid packets ≡ o.units ++ p.0 = ap (pipe c.pid) (sym (append-nil packets)) ∙ p.1 in
    let count = none c s.place.number h.all (length o.units) o.flows in
    let over : p.0 ≡ [] = all_of o.units p.0 (ap length (sym units) ∙ count) in
    o.gave_is
    ∙ ap joined (sym (units ∙ ap (λ (l : List (List ℕ)). o.units ++ l) over ∙ append-nil o.units))
    ∙ ap (λ (l : List (ℕ × Body)). joined (pipe c.pid (packets_from c 0 l))) (sym (idle_total c s x frames gave idle h))

pub rest_kept : (c : Config) (old new : Sender) (x : Content) (frames : List SentFrame) (gave : List ℕ)
    → old.stage ≡ at.Idle
    → new.stage ≡ at.Idle → new.plan.now ≡ old.plan.now → new.last ≡ old.last → new.place.number ≡ old.place.number
    → new.flow ≡ old.flow → SenderStandsFor c old x frames gave → SenderStandsFor c new x frames gave
rest_kept c old new x frames gave was is plan last place flow h =
    idle_stands c old new x frames gave gave was is plan last h
    (subst (λ (f : Flow). Sends c f new.place.number [] h.all gave) (sym flow)
    (subst (λ (n : ℕ). Sends c old.flow n [] h.all gave) (sym place) (idle_sends c old x frames gave was h)))
