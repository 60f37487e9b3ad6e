-- What goes on of the inputs of a group, one after the other.
use Rattle.std.proofs.Common.{◌≡◌, ◌≢◌, ℕ, ◌+◌, ◌<◌, ◌≤◌, ◌&&◌, Bool, true, false, List, [], ◌∷◌, ◌++◌, Some}
use Rattle.std.proofs.Common.{None, refl, ap, sym, subst, ◌∙◌, inl, inr, arith, append_assoc, append-nil}
use Rattle.std.specs.declared.option.Option.{Option}
use Rattle.std.specs.Prelude.{is_some, if◌then◌else◌}
use Rattle.std.proofs.lemmas.Bool.{cases_eq, true≢false}
use Rattle.plp_config.specs.declared.config.Config.{Config}
use Rattle.common_plp.specs.Groups.{is_common}
use Rattle.common_plp.specs.Shared.{common_packet, is_shared}
use Rattle.gateway_core.specs.Events.{Event, Offered}
use Rattle.gateway_core.specs.StandsFor.{GatewayStandsFor, status_of, wants_of}
use Rattle.gateway_core.specs.declared.gateway.Gateway.{Gateway}
use Rattle.gateway_core.specs.Order.{is_member}
use Rattle.gateway_core.specs.Slots.{held_at, offered_of, kept_of, passed_of, passed, PassesOne, PassesOn, HeldWanted}
use Rattle.gateway_core.specs.Slots.{any_held, is_held_in, slot_in, share_events}
use Rattle.gateway_core.proofs.MemberLemmas.{own_of}
use Rattle.gateway_core.proofs.RangeLemmas.{flat_more, not_found}

-- what was done to a gateway, and what is held, when those of the inputs below a count went on
pub record IsPassing (c : Config) (old now : Gateway) (was is : List (Option (List ℕ))) (turn : ℕ) (shared : Bool)
    (count : ℕ) : Type 0
  where
    pub stands : (d : Config) (done : List Event) → GatewayStandsFor old d done
        → GatewayStandsFor now d (done ++ passed c was turn shared count)
    pub status : status_of now ≡ status_of old
    pub held : PassesOn c was turn count is
    pub behind : (plp : ℕ) → count ≤ plp → wants_of now plp ≡ wants_of old plp
    pub apart : (plp : ℕ) → is_member c turn plp ≡ false → wants_of now plp ≡ wants_of old plp
    pub fewer : (plp : ℕ) → plp < count → is_member c turn plp ≡ true → held_at was plp ≢ None
        → wants_of now plp < wants_of old plp

pub passing_none : (c : Config) (g : Gateway) (held : List (Option (List ℕ))) (turn : ℕ) (shared : Bool)
    → IsPassing c g g held held turn shared 0
passing_none c g held turn shared = record {
  stands = λ d done s. subst (λ (l : List Event). GatewayStandsFor g d l) (sym (append-nil done)) s;
  status = refl;
  held = record { size = refl; below = λ plp lt. absurd (omega (arith, lt)); behind = λ plp le. refl };
  behind = λ plp le. refl;
  apart = λ plp off. refl;
  fewer = λ plp lt. absurd (omega (arith, lt));
}

-- by what is held
abbrev passed_with : Config → ℕ → Bool → ℕ → Option (List ℕ) → List Event
passed_with c turn shared plp held = if is_member c turn plp then offered_of plp shared held else []

abbrev kept_with : Config → ℕ → ℕ → Option (List ℕ) → Option (List ℕ)
kept_with c turn plp held = if is_member c turn plp then None else held

pub passing_more : (c : Config) (old now next : Gateway) (was is after : List (Option (List ℕ))) (turn : ℕ)
    (shared : Bool) (count : ℕ)
    → IsPassing c old now was is turn shared count
    → ((d : Config) (done : List Event) → GatewayStandsFor now d done
    → GatewayStandsFor next d (done ++ passed_of c is turn shared count))
    → ((other : ℕ) → other ≢ count → wants_of next other ≡ wants_of now other)
    → (is_member c turn count ≡ false → wants_of next count ≡ wants_of now count)
    → (is_member c turn count ≡ true → held_at is count ≢ None → wants_of next count < wants_of now count)
    → status_of next ≡ status_of now → PassesOne c is turn count after
    → IsPassing c old next was after turn shared (count + 1)
passing_more c old now next was is after turn shared count p stands others same fewer status one =
    let here : held_at is count ≡ held_at was count = p.held.behind count (omega arith) in
    let go : (plp : ℕ) → (plp ≡ count → wants_of next plp ≡ wants_of now plp) → wants_of next plp ≡ wants_of now plp =
    λ plp at. elim (cases_eq plp count) [ inl e ↦ at e | inr differ ↦ others plp differ ] in
    record {
      stands = λ d done s.
          subst (λ (l : List Event). GatewayStandsFor next d l)
          (append_assoc done (passed c was turn shared count) (passed_of c was turn shared count)
          ∙ ap (λ (l : List Event). done ++ l) (sym (flat_more (passed_of c was turn shared) count)))
          (subst (λ (h : Option (List ℕ)). GatewayStandsFor next d ((done ++ passed c was turn shared count)
          ++ passed_with c turn shared count h)) here
          (stands d (done ++ passed c was turn shared count) (p.stands d done s)));
      status = status ∙ p.status;
      held = record {
        size = one.size ∙ p.held.size;
        below = λ plp lt. elim (cases_eq plp count) [
          | inl e ↦ subst (λ (k : ℕ). held_at after k ≡ kept_of c was turn k) (sym e)
              (one.here ∙ ap (kept_with c turn count) here)
          | inr differ ↦ one.others plp differ ∙ p.held.below plp (omega (arith, lt, differ))
        ];
        behind = λ plp le. one.others plp (λ e. omega (arith, le, e)) ∙ p.held.behind plp (omega (arith, le));
      };
      behind = λ plp le. others plp (λ e. omega (arith, le, e)) ∙ p.behind plp (omega (arith, le));
      apart = λ plp off. go plp (λ e. subst (λ (k : ℕ). wants_of next k ≡ wants_of now k) (sym e)
          (same (subst (λ (k : ℕ). is_member c turn k ≡ false) e off))) ∙ p.apart plp off;
      fewer = λ plp lt on some. elim (cases_eq plp count) [
        | inl e ↦ subst (λ (k : ℕ). wants_of next k < wants_of old k) (sym e)
            (let less = fewer (subst (λ (k : ℕ). is_member c turn k ≡ true) e on)
            (λ z. some (ap (held_at was) e ∙ sym here ∙ z)) in
            let before = p.behind count (omega arith) in omega (arith, less, before))
        | inr differ ↦
            (let less = p.fewer plp (omega (arith, lt, differ)) on some in let now = others plp differ in
            omega (arith, less, now))
      ];
    }

-- ---- a slot of a group

pub members_wanted : (c : Config) (old new : Gateway) (held : List (Option (List ℕ))) (turn : ℕ)
    → is_common c turn ≡ true
    → HeldWanted c old held → ((other : ℕ) → other ≢ turn → wants_of new other ≡ wants_of old other)
    → (plp : ℕ) → is_member c turn plp ≡ true → held_at held plp ≢ None → 0 < wants_of new plp
members_wanted c old new held turn common wanted others plp member some =
    let own = (own_of c turn plp common member).0 in
    let w = wanted plp own some in
    let same = others plp (λ e. true≢false (sym common ∙ ap (is_common c) (sym e) ∙ own)) in
    omega (arith, w, same)

pub shared_stands : (c d : Config) (done : List Event) (held : List (Option (List ℕ))) (turn count : ℕ)
    (packet : List ℕ) (shared : Bool)
    (g : Gateway) → packet ≡ common_packet (slot_in c held turn) → shared ≡ is_shared (slot_in c held turn)
    → GatewayStandsFor g d ((done ++ Offered turn packet ∷ []) ++ passed c held turn shared count)
    → GatewayStandsFor g d (done ++ share_events c held turn count)
shared_stands c d done held turn count packet shared g is on s =
    subst (λ (b : Bool). GatewayStandsFor g d (done ++ Offered turn (common_packet (slot_in c held turn))
    ∷ passed c held turn b count)) on
    (subst (λ (p : List ℕ). GatewayStandsFor g d (done ++ Offered turn p ∷ passed c held turn shared count)) is
    (subst (λ (l : List Event). GatewayStandsFor g d l) (append_assoc done (Offered turn packet ∷ [])
    (passed c held turn shared count)) s))

-- where nothing is held, nothing goes on
pub none_here : (b : Bool) (o : Option (List ℕ)) → (b && is_some o) ≡ false → o ≡ (if b then None else o)
none_here true None e = refl
none_here true (Some p) e = absurd (true≢false e)
none_here false o e = refl

pub none_passes : (c : Config) (held : List (Option (List ℕ))) (turn count : ℕ) → any_held c held turn count ≡ false
    → PassesOn c held turn count held
none_passes c held turn count none = record {
  size = refl;
  below = λ plp lt. none_here (is_member c turn plp) (held_at held plp) (not_found (is_held_in c held turn)
      plp count lt none);
  behind = λ plp le. refl;
}
