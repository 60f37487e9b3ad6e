-- What a dynamic part tells is what was read of it.
use Rattle.std.proofs.Common.{◌≡◌, ℕ, Bool, true, List, [], Option, Some, None, refl, ap, ◌∙◌}
use Rattle.std.proofs.Common.{is_some, arith}
use Rattle.std.specs.Prelude.{option_map, slice_index}
use Rattle.std.specs.Option.{option_map_or}
use Rattle.std.proofs.lemmas.Option.{same_Some}
use Rattle.terms.proofs.OptionLemmas.{none_some}
use Rattle.scheduler.specs.Shape.{FrameShape}
use Rattle.l1_signal.specs.L1Of.{told_shape}
use Rattle.l1_signal.specs.declared.dynamic.L1Dyn.{L1Dyn}
use Rattle.frame_groups.specs.Carried.{L1Parts}
use Rattle.frame_groups.specs.TestLaws.{MapPasses}
use Rattle.stream_laws.proofs.PassedLemmas.{Passed, passed}
use Rattle.region_swap.specs.Laws.{HeldTells}
use Rattle.region_swap.specs.Telling.{told_by}

some_told : (o : Option L1Dyn) (s : FrameShape) → option_map told_shape o ≡ Some s → is_some o ≡ true
some_told None s e = none_some s e
some_told (Some d) s e = refl

-- how many blocks of each PLP
pub from_told : (o : Option L1Dyn) (s : FrameShape) → option_map told_shape o ≡ Some s
    → option_map_or (λ (d : L1Dyn). (told_shape d).counts) o [] ≡ s.counts
from_told None s e = none_some s e
from_told (Some d) s e = ap (λ (t : FrameShape). t.counts) (same_Some (told_shape d) s e)

pub held_tells : MapPasses → HeldTells
held_tells map_test c n view f plan h =
    let p : Passed c n h.packets = passed c h.past n h.packets h.pass in
    let same : f.dynamic ≡ p.l1.first.dynamic =
    h.shows.dynamic_is ∙ ap (λ (o : Option L1Parts). option_map_or (λ l1. l1.dynamic) o []) p.l1.is in
    let told : option_map told_shape (told_by c f.dynamic) ≡ Some p.l1.shape =
    ap (λ (bits : List Bool). option_map told_shape (told_by c bits)) same ∙ p.l1.told in
    let fits = (map_test c p.l1.shape plan).0 p.l1.map in
    let counts = from_told (told_by c f.dynamic) p.l1.shape told in
    record {
      reads = some_told (told_by c f.dynamic) p.l1.shape told;
      few = λ plp lt. (let few = fits.counts plp lt in omega (
        arith,
        few,
        ap (λ (l : List ℕ). slice_index l plp)
            counts,
      ));
    }
