-- A swapper takes packets, begins frames, gives units and passes on.
use Rattle.std.proofs.Common.{◌≡◌, ℕ, ◌+◌, ◌-◌, ◌*◌, ◌<◌, Bool, true, false, cond, List, [], ◌∷◌, ◌++◌, Option, Some}
use Rattle.std.proofs.Common.{None, length, map, is_some, replicate, refl, ap, sym, subst, ◌∙◌, arith, append-nil}
use Rattle.std.specs.Prelude.{slice_set}
use Rattle.std.proofs.lemmas.Grind.{flat_map-append}
use Rattle.std.proofs.lemmas.List.{map-append}
use Rattle.terms.specs.Bits.{bits_of}
use Rattle.gateway_core.proofs.InputsLemmas.{cont_next}
use Rattle.gateway_core.proofs.HoldsLemmas.{cont_packet, cont_end}
use Rattle.plp_config.specs.Capacity.{IsPlan}
use Rattle.plp_config.specs.SlotTime.{slots_by}
use Rattle.plp_config.specs.declared.config.Config.{Config}
use Rattle.linked_pool.specs.Pool.{State}
use Rattle.ts_packet.specs.Null.{null_packet}
use Rattle.t2mi_packet.specs.declared.packet.Body.{Body}
use Rattle.t2mi_stream.specs.PiperStandsFor.{PiperStandsFor, is_finished}
use Rattle.frame_writer.specs.Carried.{of_frame}
use Rattle.frame_writer.specs.Flowing.{Flows, rest_of}
use Rattle.frame_writer.specs.declared.flow.Flow.{Flow}
use Rattle.frame_writer.specs.declared.flow.Outlet.{Outlet}
use Rattle.frame_writer.proofs.CarriedLemmas.{carries_more}
use Rattle.site_frame.specs.declared.reading.RecordView.{RecordView}
use Rattle.frame_writer.specs.Bodies.{pool_bodies}
use Rattle.frame_writer.specs.declared.frame.PoolFrame.{PoolFrame}
use Rattle.stream_laws.specs.Remade.{NumberedView, frame_pairs, remade_bodies, view_bodies}
use Rattle.gateway_core.specs.InputSoFar.{Told, with_packet, at_end, in_next, Continues}
use Rattle.gateway_core.specs.IsFed.{IsFed, wanted}
use Rattle.gateway_core.specs.declared.input.Input.{Input}
use Rattle.region_swap.specs.Held.{IsHeld}
use Rattle.region_swap.specs.Laws.{HeldIsSwapped}
use Rattle.region_swap.specs.Left.{own_list, number_of}
use Rattle.region_swap.specs.Making.{IsMade}
use Rattle.region_swap.specs.RegionFed.{GivesFrame, RegionStandsFor, region_told, sent_in}
use Rattle.region_swap.specs.StandsFor.{wants_by, Swaps, SwapperStandsFor, wants_of}
use Rattle.region_swap.specs.Swapped.{swapped, swapped_frame, swapped_view}
use Rattle.region_swap.specs.declared.place.SwapPlace.{SwapPlace}
use Rattle.region_swap.specs.declared.region.Region.{Region}
use Rattle.region_swap.specs.declared.swapper.Swapper.{Swapper}
use Rattle.region_swap.proofs.RegionLemmas.{still}

-- ---- frames

-- one frame more
pub bodies_push : (c : Config) (plp : ℕ) (input : List (List ℕ)) (frames : List NumberedView) (f : NumberedView)
    → remade_bodies c (swapped c plp input (frames ++ f ∷ [])) ≡ remade_bodies c (swapped c plp input frames)
    ++ frame_pairs c (swapped_frame c plp input f)
bodies_push c plp input frames f =
    ap (remade_bodies c) (map-append (swapped_frame c plp input) frames (f ∷ []))
    ∙ flat_map-append (frame_pairs c) (swapped c plp input frames) (swapped_frame c plp input f ∷ [])
    ∙ ap (λ (l : List (ℕ × Body)). remade_bodies c (swapped c plp input frames) ++ l)
    (append-nil (frame_pairs c (swapped_frame c plp input f)))

-- its packets follow when nothing is left of the frame before
pub begun : (c : Config) (plp : ℕ) (old new : Outlet) (frames : List NumberedView) (f : NumberedView)
    (input : List (List ℕ)) (m n k : ℕ)
    (gone left rest : List Body) (given : ℕ) → gone ≡ []
    → Flows old c m gone (remade_bodies c (swapped c plp input frames)) given → n ≡ f.number
    → left ≡ view_bodies c f.number (swapped_view c plp input f.number f.view)
    → ((all : List (ℕ × Body)) (given : ℕ) → Flows old c n left all given → Flows new c n rest all given) → k ≡ n
    → Flows new c k rest (remade_bodies c (swapped c plp input (frames ++ f ∷ []))) given
begun c plp old new frames f input m n k gone left rest given none h number is feeds same =
    let before : List (ℕ × Body) = remade_bodies c (swapped c plp input frames) in
    let bodies : List Body = view_bodies c f.number (swapped_view c plp input f.number f.view) in
    let all : List (ℕ × Body) = remade_bodies c (swapped c plp input (frames ++ f ∷ [])) in
    let more : Flows old c f.number bodies (before ++ of_frame f.number bodies) given =
    carries_more (PiperStandsFor old.piper) (is_finished old.piper) (rest_of old) old.packet_count c
    m f.number gone bodies before given none h in
    rw same (feeds all given (rw (number, is, bodies_push c plp input frames f) more))

-- ---- what is wanted

wants_as : (ended : Bool) (packets slots due slot : ℕ) (total : Option ℕ) → total ≡ cond ended (Some packets) None
    → due ≡ slots
    → (ended ≡ false → slot ≡ packets) → cond (is_some total) 0 (due - slot) ≡ cond ended 0 (slots - packets)
wants_as true packets slots due slot total t d s = ap (λ (o : Option ℕ). cond {A = ℕ} (is_some o) 0 (due - slot)) t
wants_as false packets slots due slot total t d s =
    ap (λ (o : Option ℕ). cond {A = ℕ} (is_some o) 0 (due - slot)) t ∙ (let e = s refl in omega (arith, d, e))

pub wanted_is : (i : Input) (c : Config) (plp : ℕ) (t : Told) (early : List (List Bool)) → IsFed i c plp t early
    → wanted i ≡ wants_by c plp t
wanted_is i c plp t early h =
    wants_as t.ended (length t.packets) (slots_by c plp (t.frame * c.ticks)) i.due i.slot i.total h.total_is h.due_is
    (λ off. h.slot_is ∙ ap length (h.given ∙ ap (λ (k : ℕ). t.packets ++ replicate k null_packet) (h.still off)
    ∙ append-nil t.packets))

-- what is wanted is told by what it stands for
pub wants_is : (c : Config) (plp : ℕ) (r : Region) (flow : Flow) (place : SwapPlace) (number : ℕ) (b : Bool)
    (t : Told) (left : List Body)
    (frames : List NumberedView) (given : ℕ) → Swaps c plp r flow place number b t left frames given
    → cond b 0 (wanted r.input) ≡ wants_by c plp t
wants_is c plp r flow place number true t left frames given h = sym (h.offered refl)
wants_is c plp r flow place number false t left frames given h = wanted_is r.input c plp t _ h.supplied.fed

pub record NotBegun (b : Bool) (n : ℕ) : Type 0 where
  pub off : b ≡ false
  pub some : 0 < n

pub not_begun : (b : Bool) (n : ℕ) → 0 < cond b 0 n → NotBegun b n
not_begun true n lt = absurd (omega (arith, lt))
not_begun false n lt = record { off = refl; some = lt }

-- ---- packets, and the end

module _ (c : Config) (plp : ℕ) (r q : Region) (flow : Flow) (place : SwapPlace) (number : ℕ) (t : Told)
    (left : List Body)
    (frames : List NumberedView) (given : ℕ) where
  pub swaps_offer : (b : Bool) (packet : List ℕ) → b ≡ false → 0 < wanted r.input
      → ((t : Told) → RegionStandsFor r c plp t → RegionStandsFor q c plp (with_packet t packet))
      → Swaps c plp r flow place number b t left frames given → Swaps c plp q flow place number b (with_packet t packet)
      left frames given
  swaps_offer true packet off some fed h = absurd (let z : true ≡ false = off in cc)
  swaps_offer false packet off some fed h = record {
    supplied = fed t h.supplied;
    number_is = h.number_is;
    offered = λ on. absurd (let z : false ≡ true = on in cc);
    flows = λ input more. h.flows input (cont_packet t packet input (still r.input c plp t _ some h.supplied.fed) more);
  }

  told_end : (b : Bool) → at_end (region_told b t) ≡ region_told b (at_end t)
  told_end true = refl
  told_end false = refl

  pub swaps_end : (b : Bool) → ((t : Told) → RegionStandsFor r c plp t → RegionStandsFor q c plp (at_end t))
      → Swaps c plp r flow place number b t left frames given → Swaps c plp q flow place number b (at_end t)
      left frames given
  swaps_end b fed h = record {
    supplied = subst (RegionStandsFor q c plp) (told_end b) (fed (region_told b t) h.supplied);
    number_is = h.number_is;
    offered = λ on. refl;
    flows = λ input more. h.flows input (cont_end t input more);
  }

  -- ---- the next frame

  pub swaps_pass : (b : Bool) → ((t : Told) → RegionStandsFor r c plp (region_told b t)
      → RegionStandsFor q c plp (in_next t))
      → Swaps c plp r flow place number b t left frames given
      → Swaps c plp q flow place (number + 1) false (in_next t) left frames given
  swaps_pass b fed h = record {
    supplied = fed t h.supplied;
    number_is = ap (λ (n : ℕ). n + 1) h.number_is;
    offered = λ on. absurd (let z : false ≡ true = on in cc);
    flows = λ input more. h.flows input (cont_next t input more);
  }

-- ---- units

-- with the flow that gave some, or another that goes on as it did
pub swaps_flow : (c : Config) (plp : ℕ) (r : Region) (old new : Flow) (place now : SwapPlace) (number : ℕ)
    (b : Bool) (t : Told)
    (left rest : List Body) (frames : List NumberedView) (given next : ℕ)
    → ((all : List (ℕ × Body)) → Flows old.outlet c (number_of place) left all given
    → Flows new.outlet c (number_of now) rest all next)
    → Swaps c plp r old place number b t left frames given → Swaps c plp r new now number b t rest frames next
swaps_flow c plp r old new place now number b t left rest frames given next goes h = record {
  supplied = h.supplied;
  number_is = h.number_is;
  offered = h.offered;
  flows = λ input more. goes (remade_bodies c (swapped c plp input frames)) (h.flows input more);
}

-- ---- a frame is begun

pub swaps_begin : (c : Config) (plp : ℕ) (r q : Region) (old new : Flow) (place now : SwapPlace) (number n : ℕ)
    (b : Bool)
    (t : Told) (frames : List NumberedView) (f : NumberedView) (given : ℕ) (bodies rest : List Body) → f.number ≡ number
    → b ≡ false → cond b 0 (wanted r.input) ≡ 0
    → ((t : Told) → RegionStandsFor r c plp t → RegionStandsFor q c plp (in_next t))
    → ((input : List (List ℕ)) → Continues t input → bodies ≡ view_bodies c f.number
    (swapped_view c plp input f.number f.view))
    → n ≡ f.number → number_of now ≡ n
    → ((all : List (ℕ × Body)) (given : ℕ) → Flows old.outlet c n bodies all given
    → Flows new.outlet c n rest all given)
    → Swaps c plp r old place number b t [] frames given → Swaps c plp q new now number true t rest (frames ++ f ∷ [])
    given
swaps_begin c plp r q old new place now number n true t frames f given bodies rest is off none fed made
    same stays feeds h =
    absurd (let z : true ≡ false = off in cc)
swaps_begin c plp r q old new place now number n false t frames f given bodies rest is off none fed made
    same stays feeds h = record {
      supplied = fed t h.supplied;
      number_is = h.number_is;
      offered = λ on. sym (wants_is c plp r old place number false t [] frames given h) ∙ none;
      flows = λ input more.
          begun c plp old.outlet new.outlet frames f input (number_of place) n (number_of now) [] bodies rest given refl
          (h.flows input more) same (made input more) feeds stays;
    }

own_bits : (b : Bool) (pool : State) (plp : ℕ) → map bits_of (own_list b pool plp) ≡ sent_in b pool plp
own_bits true pool plp = refl
own_bits false pool plp = refl

-- what its packets carry
pub begin_made : HeldIsSwapped → (c : Config) (plp : ℕ) (r q : Region) (dynamic : List Bool) (flow : Flow)
    (place : SwapPlace)
    (number : ℕ) (b : Bool) (t : Told) (left : List Body) (frames : List NumberedView) (given : ℕ) (view : RecordView)
    (f : PoolFrame)
    (input : List (List ℕ)) → IsPlan c → plp < length c.plps → b ≡ false → IsHeld c number view f
    → ((t : Told) → RegionStandsFor r c plp t → (input : List (List ℕ)) → Continues t input
    → GivesFrame q c plp t.frame input)
    → IsMade c number plp q.count f.dynamic dynamic → Swaps c plp r flow place number b t left frames given
    → Continues t input
    → pool_bodies c number f.pre f.conf dynamic (slice_set f.blocks.now.lists plp (own_list q.sends q.blocks plp))
    ≡ view_bodies c number (swapped_view c plp input number view)
begin_made law c plp r q dynamic flow place number true t left frames given view f input plan inside
    off held gives made h more =
    absurd (let z : true ≡ false = off in cc)
begin_made law c plp r q dynamic flow place number false t left frames given view f input plan inside
    off held gives made h more =
    let g : GivesFrame q c plp number input = rw h.number_is (gives t h.supplied input more) in
    law c plp number view f input dynamic (own_list q.sends q.blocks plp) plan inside held
    (rw g.count_is at made) (own_bits q.sends q.blocks plp ∙ g.blocks)

-- ---- for who holds a swapper

pub wants_told : (s : Swapper) (c : Config) (plp : ℕ) (t : Told) (left : List Body) (frames : List NumberedView)
    (given : ℕ)
    → SwapperStandsFor s c plp t left frames given → wants_of s ≡ wants_by c plp t
unfolding SwapperStandsFor
wants_told s c plp t left frames given h =
    rw (sym h.0, sym h.1)
    (wants_is s.plan.now s.list s.region s.flow s.place s.number s.begun t left frames given h.2)
