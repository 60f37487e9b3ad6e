-- The record that waits is begun.
use Rattle.std.proofs.Common.{◌≡◌, ℕ, ◌≤◌, ◌==◌, ◌&&◌, Bool, true, false, cond, List, [], Option, Some, None, refl, ap}
use Rattle.std.proofs.Common.{sym, subst, ◌∙◌, arith, append-nil}
use Rattle.std.specs.Prelude.{is_some, nat_lt, flat_map}
use Rattle.std.proofs.lemmas.Bool.{ltb-true, eqb-true}
use Rattle.std.proofs.lemmas.Option.{same_Some}
use Rattle.terms.proofs.OptionLemmas.{none_some}
use Rattle.t2mi_packet.specs.declared.packet.Packet.{Packet}
use Rattle.frame_groups.specs.Groups.{Group}
use Rattle.frame_groups.specs.Modulated.{Numbered, Rules, FrameRecord}
use Rattle.frame_groups.specs.Records.{record_of}
use Rattle.frame_groups.specs.Sequenced.{Sequenced}
use Rattle.frame_groups.specs.Waits.{waiting_by, waiting_of}
use Rattle.frame_groups.specs.declared.cause.MuteCause.{MuteCause}
use Rattle.frame_groups.specs.declared.cause.MuteCause.TheVariants.{Gap}
use Rattle.frame_groups.specs.declared.waiting.Progress.{Progress}
use Rattle.frame_groups.specs.declared.waiting.Waiting.{Waiting}
use Rattle.frame_groups.specs.Tests.{rules}
use Rattle.open_group.specs.FrameBytes.{bytes_left}
use Rattle.open_group.specs.Holds.{Holds}
use Rattle.open_group.specs.Written.{spelled}
use Rattle.plp_config.specs.declared.config.Config.{Config}
use Rattle.modulator.specs.Modulating.{StandsAt, Course, course_of, HoldsOn}
use Rattle.modulator.specs.declared.modulating.Modulating.{Modulating}
use Rattle.modulator.proofs.StandsLemmas.{moved}
use Rattle.modulator.specs.Gives.{Gives}

-- the own record of a closed group
pub record IsOwn (at : Progress) (w : Waiting) : Type 0 where
  pub number : at.number ≡ Some w.frame
  pub closing : at.closing ≡ true
  pub fault : at.fault ≡ w.mute
  pub next : at.next ≡ w.frame

-- A record that waits is of a frame before the group's, which is muted, or the group's own.
pub record WaitsFor (at : Progress) (w : Waiting) : Type 0 where
  pub below : (n : ℕ) → at.number ≡ Some n → w.frame ≤ n
  pub some : is_some at.number ≡ true
  pub frame : w.frame ≡ at.next
  pub own : w.mute ≡ None → IsOwn at w

own_by : (number : Option ℕ) (next : ℕ) (closing : Bool) (fault : Option MuteCause) (w : Waiting)
    → waiting_by number next closing fault ≡ Some w
    → WaitsFor (record { number = number; next = next; closing = closing; fault = fault }) w
own_by None next closing fault w e = none_some w e
own_by (Some n) next closing fault w e = go closing (nat_lt next n) (next == n) refl refl e
  where
    go : (c t u : Bool) → nat_lt next n ≡ t → (next == n) ≡ u → cond t (Some (record { frame = next; mute = Some Gap }))
        (cond (c && u) (Some (record { frame = n; mute = fault })) None) ≡ Some w
        → WaitsFor (record { number = Some n; next = next; closing = c; fault = fault }) w
    go c true u k l e =
        let same : record { frame = next; mute = Some Gap } ≡ w = same_Some _ w e in
        let less = ltb-true next n k in
        record {
          below = λ m is. let f = ap (λ (w : Waiting). w.frame) same in let i = same_Some n m is in
              omega (arith, less, f, i);
          some = refl;
          frame = sym (ap (λ (w : Waiting). w.frame) same);
          own = λ none. none_some Gap (sym none ∙ sym (ap (λ (w : Waiting). w.mute) same));
        }
    go true false true k l e =
        let same : record { frame = n; mute = fault } ≡ w = same_Some _ w e in
        let here = eqb-true next n l in
        record {
          below = λ m is. let f = ap (λ (w : Waiting). w.frame) same in let i = same_Some n m is in
              omega (arith, f, i);
          some = refl;
          frame = sym (here ∙ ap (λ (w : Waiting). w.frame) same);
          own = λ none. record {
            number = ap (λ (w : Waiting). Some w.frame) same;
            closing = refl;
            fault = ap (λ (w : Waiting). w.mute) same;
            next = here ∙ ap (λ (w : Waiting). w.frame) same;
          };
        }
    go true false false k l e = none_some w e
    go false false u k l e = none_some w e

pub waits_for : (at : Progress) (w : Waiting) → waiting_of at ≡ Some w → WaitsFor at w
waits_for at w e = own_by at.number at.next at.closing at.fault w e

-- the own record of a group is not muted only if the group passes
pub passes : (r : Rules) (past : List Numbered) (g : Option Group) (at : Progress) (ps : List Packet)
    (given : List FrameRecord)
    (h : Group) (w : Waiting)
    → Sequenced r past g at.number at.next at.closing at.fault ps given → g ≡ Some h → IsOwn at w → w.mute ≡ None
    → r.fault past h w.frame ≡ None
passes r past None at ps given h w s e own none = none_some h e
passes r past (Some k) at ps given h w (closed, a, f) e own none =
    subst (λ (k : Group). r.fault past k w.frame ≡ None) (same_Some k h e)
    (sym (f.fault_is own.closing w.frame own.number)
    ∙ own.fault ∙ none)

-- what is begun of the record that waits
pub begun_gives : (old new : Modulating) (bytes : List ℕ) (given : List FrameRecord) (taken : List ℕ)
    → course_of new ≡ course_of old → HoldsOn old new
    → ((w : Waiting) (past : List Numbered) (h : Group) → waiting_of old.sequence.progress ≡ Some w
    → Holds old.sequence.group past (Some h)
    → (w.mute ≡ None → (rules old.sequence.group.network).fault past h w.frame ≡ None)
    → bytes_left new.sequence.group ≡ spelled old.sequence.group.network (record_of h w))
    → StandsAt old bytes given → taken ≡ flat_map (spelled old.sequence.group.network) given → Gives new bytes taken
begun_gives old new bytes given taken same on begun h e =
    let m = moved old new bytes given same on h in
    let net : new.sequence.group.network ≡ old.sequence.group.network = ap (λ (k : Course). k.network) same in
    let at : new.sequence.progress ≡ old.sequence.progress = ap (λ (k : Course). k.progress) same in
    record {
      given = given;
      stands = m.stands;
      took =
          record {
            part = [];
            taken_is = e ∙ ap (λ (c : Config). flat_map (spelled c) given) (sym net)
                ∙ sym (append-nil (flat_map (spelled new.sequence.group.network) given));
            rest = λ w i o k.
                let j : waiting_of old.sequence.progress ≡ Some w = ap waiting_of (sym at) ∙ i in
                let l : h.keeps.group ≡ Some o = sym m.same ∙ k in
                ap (λ (c : Config). spelled c (record_of o w)) net
                ∙ sym (begun w h.keeps.past o j (subst (Holds old.sequence.group h.keeps.past) l h.keeps.holds)
                (λ none. passes (rules old.sequence.group.network) h.keeps.past h.keeps.group old.sequence.progress
                _ given o w
                h.keeps.sequenced l ((waits_for old.sequence.progress w j).own none) none));
            idle = λ _. refl;
          };
    }
