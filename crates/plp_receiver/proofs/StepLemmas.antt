-- What stands for the common PLP's receiver, and what is due of it, as it begins, takes a record and gives a packet.
use Rattle.std.proofs.Common.{◌≡◌, ℕ, ◌-◌, ◌<◌, List, [], ◌∷◌, ◌++◌, length, Option, Some, None, refl, ap}
use Rattle.std.proofs.Common.{sym, ◌∙◌, arith}
use Rattle.plp_config.specs.declared.config.Config.{Config}
use Rattle.std.specs.Prelude.{IfSome}
use Rattle.site_frame.specs.declared.reading.RecordView.{RecordView}
use Rattle.plp_receiver.specs.StandsFor.{Status}
use Rattle.plp_receiver.specs.declared.receiver.Receiver.{Receiver}
use Rattle.common_plp.specs.Laws.{GroupingTold}
use Rattle.plp_receiver.specs.Both.{OnBoth, Begins, Takes, GivesJoined, CommonIs}
use Rattle.plp_receiver.specs.JoinedBack.{MayJoin}
use Rattle.plp_receiver.specs.JointStandsFor.{CommonStandsFor, CommonIsFresh, common_at, common_due}

plp_by : (a b : Status) → a ≡ b → a.plp ≡ b.plp
plp_by a b e = ap (λ (s : Status). s.plp) e

due_by : (a b : Status) → a ≡ b → a.due ≡ b.due
due_by a b e = ap (λ (s : Status). s.due) e

pub begun_stands : (other other_new : Option Receiver) (first : ℕ) → OnBoth (Begins first) other other_new
    → CommonStandsFor other_new first [] 0
begun_stands None None first b = tt
begun_stands None (Some w) first b = absurd b
begun_stands (Some v) None first b = absurd b
begun_stands (Some v) (Some w) first b = b.stands

pub taken_stands : (other other_new : Option Receiver) (view : RecordView) → OnBoth (Takes view) other other_new
    → (first : ℕ)
    (views : List RecordView) (released : ℕ) → CommonStandsFor other first views released
    → CommonStandsFor other_new first (views ++ view ∷ []) released
taken_stands None None view b first views released s = tt
taken_stands None (Some w) view b first views released s = absurd b
taken_stands (Some v) None view b first views released s = absurd b
taken_stands (Some v) (Some w) view b first views released s = b.stands first views released s

pub begun_due : (other other_new : Option Receiver) (first : ℕ) → OnBoth (Begins first) other other_new
    → common_due other_new ≡ 0
begun_due None None first b = refl
begun_due None (Some w) first b = absurd b
begun_due (Some v) None first b = absurd b
begun_due (Some v) (Some w) first b = due_by _ _ b.status

pub given_due : (other other_new : Option Receiver) (packet out : List ℕ) → GivesJoined other other_new packet out
    → common_due other_new ≡ common_due other - 1
given_due None None packet out b = omega arith
given_due None (Some w) packet out b = absurd b
given_due (Some v) None packet out b = absurd b
given_due (Some v) (Some w) packet out b = due_by _ _ b.1.status

pub joins_inside : GroupingTold → (c : Config) (plp : ℕ) (joins : Option ℕ) → MayJoin c plp joins
    → IfSome joins (λ place. place < length c.plps)
joins_inside told c plp None may = tt
joins_inside told c plp (Some common) may = (told c).inside plp common (may common refl)

pub opened_fresh : (other : Option Receiver) (c : Config) (joins : Option ℕ) → CommonIs c joins other
    → CommonIsFresh other
opened_fresh None c joins is = tt
opened_fresh (Some v) c joins is = is.3

pub opened_due : (other : Option Receiver) (c : Config) (joins : Option ℕ) → CommonIs c joins other
    → common_due other ≡ 0
opened_due None c joins is = refl
opened_due (Some v) c joins is = due_by _ _ is.4

pub opened_at : (other : Option Receiver) (c : Config) (joins : Option ℕ) → CommonIs c joins other
    → common_at other ≡ joins
opened_at None c joins is = sym is
opened_at (Some v) c joins is = ap (λ (n : ℕ). Some n) (plp_by _ _ is.4) ∙ sym is.1
