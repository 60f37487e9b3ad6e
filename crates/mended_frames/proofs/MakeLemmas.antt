-- A frame is made by one, or of several together.
use Rattle.std.proofs.Common.{◌≡◌, ℕ, Bool, true, false, cond, List, Option, Some, None, refl, ap, sym, ◌∙◌}
use Rattle.std.specs.Prelude.{not, is_some, find, option_map, option_to_list}
use Rattle.std.specs.Option.{option_or}
use Rattle.std.proofs.lemmas.Bool.{true≢false}
use Rattle.terms.proofs.OptionLemmas.{none_some}
use Rattle.plp_config.specs.declared.config.Config.{Config}
use Rattle.frame_groups.specs.Groups.{Group}
use Rattle.frame_groups.specs.Modulated.{Numbered}
use Rattle.mended_frames.specs.Mended.{Made, made_as, made_of, woven_of, passes}
use Rattle.mended_frames.specs.StandsFor.{picked_as}

pub none_told : {X : Type 0} (r : Bool) (o : Option X) → not r ≡ is_some o → r ≡ not (is_some o)
none_told true o e = ap not e
none_told false o e = ap not e

-- of one group
pub one_is : (P : Group → Bool) (o : Option Group) (g : Group) → find P (option_to_list o) ≡ Some g → o ≡ Some g
one_is P None g e = none_some g e
one_is P (Some h) g e = go (P h) e
  where
    go : (t : Bool) → cond t (Some h) None ≡ Some g → Some h ≡ Some g
    go true e = e
    go false e = none_some g e

pub one_told : (P : Group → Bool) (o : Option Group) (r : Bool) → is_some o ≡ true
    → ((g : Group) → o ≡ Some g → r ≡ P g)
    → r ≡ is_some (find P (option_to_list o))
one_told P None r e told = absurd (true≢false (sym e))
one_told P (Some h) r e told = told h refl ∙ go (P h)
  where
    go : (t : Bool) → t ≡ is_some (cond t (Some h) None)
    go true = refl
    go false = refl

pub with_some : {P : Type 0} (o : Option Group) → is_some o ≡ true → ((g : Group) → o ≡ Some g → P) → P
with_some None e p = absurd (true≢false (sym e))
with_some (Some g) e p = p g refl

pub none_of : (o : Option Group) → is_some o ≡ false → o ≡ None
none_of None e = refl
none_of (Some g) e = absurd (true≢false e)

abbrev Sum : Config → List Numbered → ℕ → List Group → Option Group → Option Group → Option Made
Sum c past n gs a b = option_or (option_map (made_as n false) a) (option_map (made_as n true) b)

pub made_own : (c : Config) (past : List Numbered) (n : ℕ) (gs : List Group) (g : Group)
    → find (passes c past n) gs ≡ Some g
    → made_of c past (picked_as n gs) ≡ Some (made_as n false g)
made_own c past n gs g e = ap (λ (a : Option Group). Sum c past n gs a (woven_of c past (picked_as n gs))) e

pub made_woven : (c : Config) (past : List Numbered) (n : ℕ) (gs : List Group) (o : Option Group)
    → find (passes c past n) gs ≡ None
    → woven_of c past (picked_as n gs) ≡ o → made_of c past (picked_as n gs) ≡ option_map (made_as n true) o
made_woven c past n gs o none e =
    ap (λ (a : Option Group). Sum c past n gs a (woven_of c past (picked_as n gs))) none
    ∙ ap (option_map (made_as n true)) e
