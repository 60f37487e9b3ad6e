-- Units go out of a flow as long as there is room.
use Rattle.std.proofs.Common.{◌≡◌, ◌≢◌, ℕ, ◌+◌, ◌*◌, ◌<◌, ◌≤◌, true, false, List, [], ◌∷◌, ◌++◌, length, drop, take}
use Rattle.std.proofs.Common.{Some, refl, ap, sym, subst, ◌∙◌, arith, append-nil, append_assoc, length-append}
use Rattle.std.specs.Prelude.{slice_get}
use Rattle.std.proofs.lemmas.Bool.{true≢false}
use Rattle.std.proofs.lemmas.List.{drop_at, drop-drop, length-take-le, take-append-le}
use Rattle.std.proofs.Math.Seq.{take-append-add}
use Rattle.std.proofs.lemmas.Slice.{take-put_mid_below}
use borrow.Rule.Slice.PartMut.{put_mid, post_of}
use Rattle.terms.proofs.ListLemmas.{drop_some}
use Rattle.terms.specs.Lists.{IsPrefix}
use Rattle.plp_config.specs.declared.config.Config.{Config}
use Rattle.ts_packet.specs.TsFile.{joined}
use Rattle.ts_packet.specs.declared.sizes.TheConstants.{SIZE}
use Rattle.t2mi_packet.specs.declared.packet.Body.{Body}
use Rattle.t2mi_stream.specs.Complete.{complete_units}
use Rattle.t2mi_stream.specs.Pipe.{pipe}
use Rattle.frame_writer.specs.Flowing.{Flows, bytes_bound}
use Rattle.frame_writer.specs.FramePackets.{packets_from}
use Rattle.frame_writer.specs.declared.flow.Flow.{Flow}
use Rattle.frame_writer.specs.Units.{Gives, GivesAll, HasCaughtUp}

-- ---- lists

-- what stands behind the first of a list
pub front_then : {X : Type 0} (xs ys zs : List X) → IsPrefix xs zs → IsPrefix ys (drop (length xs) zs)
    → IsPrefix (xs ++ ys) zs
front_then xs ys zs p q =
    let rest : p.0 ≡ ys ++ q.0 = sym (drop_at xs p.0 (length xs) refl) ∙ ap (drop (length xs)) (sym p.1) ∙ q.1 in
    (q.0, p.1 ∙ ap (λ l. xs ++ l) rest ∙ sym (append_assoc xs ys q.0))

-- the bytes of a piece stand behind those before it
pub piece_taken : (xs ys : List ℕ) (len k count : ℕ) → len ≤ length xs → count ≤ length ys
    → take (len + count) (put_mid len k xs ys) ≡ take len xs ++ take count ys
piece_taken xs ys len k count inside few =
    ap (λ (n : ℕ). take (n + count) (put_mid len k xs ys)) (sym (length-take-le len xs inside))
    ∙ take-append-add (take len xs) (ys ++ post_of len k xs) count
    ∙ ap (λ (l : List ℕ). take len xs ++ l) (take-append-le count ys (post_of len k xs) few)

-- ---- a chain of units

pub gives_none : (c : Config) (flow : Flow) (n : ℕ) (left : List Body) → Gives c flow flow n left left []
gives_none c flow n left = record {
  flows = λ all given h. subst (λ (k : ℕ). Flows flow.outlet c n left all k) (omega arith) h;
  next = λ all given h more over. (drop given (pipe c.pid (packets_from c 0 all ++ more)), refl);
  complete = λ off some. absurd (some refl);
  finished = refl;
  less = omega arith;
}

pub gives_one : (c : Config) (old new : Flow) (n k : ℕ) (before now : List Body) (unit : List ℕ) → k ≡ n
    → ((all : List (ℕ × Body)) (given : ℕ) → Flows old.outlet c n before all given → (more : List (List ℕ))
    → (old.finished ≡ true → more ≡ [])
    → slice_get (pipe c.pid (packets_from c 0 all ++ more)) given ≡ Some unit)
    → ((all : List (ℕ × Body)) (given : ℕ) → Flows old.outlet c n before all given
    → Flows new.outlet c k now all (given + 1))
    → (old.finished ≡ false → (all : List (ℕ × Body)) (given : ℕ) → Flows old.outlet c n before all given
    → given < length (complete_units c.pid (packets_from c 0 all)))
    → new.finished ≡ old.finished → bytes_bound new.outlet now < bytes_bound old.outlet before
    → Gives c old new n before now (unit ∷ [])
gives_one c old new n k before now unit number next flows complete finished less = record {
  flows = λ all given h. subst (λ (j : ℕ). Flows new.outlet c j now all (given + 1)) number (flows all given h);
  next = λ all given h more over.
      let p : List (List ℕ) = pipe c.pid (packets_from c 0 all ++ more) in
      (drop (given + 1) p, drop_some p given unit (next all given h more over));
  complete = λ off some all given h. let l = complete off all given h in omega (arith, l);
  finished = finished;
  less = omega (arith, less);
}

pub gives_then : (c : Config) (old mid new : Flow) (n : ℕ) (before then now : List Body) (us vs : List (List ℕ))
    → Gives c old mid n before then us → Gives c mid new n then now vs → Gives c old new n before now (us ++ vs)
gives_then c old mid new n before then now us vs g h =
    let size : length (us ++ vs) ≡ length us + length vs = length-append us vs in
    record {
      flows = λ all given f.
          subst (λ (k : ℕ). Flows new.outlet c n now all k) (omega (arith, size))
          (h.flows all (given + length us) (g.flows all given f));
      next = λ all given f more over.
          let p : List (List ℕ) = pipe c.pid (packets_from c 0 all ++ more) in
          front_then us vs (drop given p) (g.next all given f more over)
          (subst (IsPrefix vs) (sym (drop-drop (length us) given p))
          (h.next all (given + length us) (g.flows all given f) more (λ on. over (sym g.finished ∙ on))));
      complete = λ off some all given f. go given _ vs (λ e. h.complete (g.finished ∙ off) e all (given + length us)
          (g.flows all given f))
          (λ e. g.complete off e all given f) some;
      finished = h.finished ∙ g.finished;
      less = (let a = g.less in let b = h.less in omega (arith, a, b, size));
    }
  where
    go : (m k : ℕ) (vs : List (List ℕ)) → (vs ≢ [] → m + length us + length vs ≤ k) → (us ≢ [] → m + length us ≤ k)
        → us ++ vs ≢ []
        → m + length (us ++ vs) ≤ k
    go m k [] later first some =
        let f = first (λ e. some (append-nil us ∙ e)) in let s = ap length (append-nil us) in omega (arith, f, s)
    go m k (v ∷ vs) later first some =
        let l = later (λ e. absurd (let z = ap length e in omega (arith, z))) in omega
        (arith, l, length-append us (v ∷ vs))

-- it ends since there is no room
pub ends_full : (c : Config) (old new : Flow) (n : ℕ) (before now : List Body) (out : List ℕ) (len : ℕ)
    (units : List (List ℕ))
    → len ≤ length out → 0 < len → take len out ≡ joined units → len ≡ SIZE * length units
    → Gives c old new n before now units
    → GivesAll c old new n before now true (take len out)
ends_full c old new n before now out len units inside some bytes count gives = record {
  units = units;
  bytes_are = bytes;
  size = length-take-le len out inside ∙ count;
  gives = gives;
  some = λ _ none. (let z = ap length none in absurd (omega (arith, count, z, some)));
  caught = λ off. absurd (true≢false off);
}

-- or since no more is complete: what was given before stands in front
pub ends_behind : (c : Config) (old new : Flow) (n : ℕ) (before now : List Body) (xs ys : List ℕ) (len k : ℕ)
    (units : List (List ℕ))
    → len ≤ length xs → take len xs ≡ joined units → len ≡ SIZE * length units → Gives c old new n before now units
    → HasCaughtUp c new n now → GivesAll c old new n before now false (take len (put_mid len k xs ys))
ends_behind c old new n before now xs ys len k units inside bytes count gives caught =
    let same = take-put_mid_below len k xs ys len (omega arith) inside in
    record {
      units = units;
      bytes_are = same ∙ bytes;
      size = ap length same ∙ length-take-le len xs inside ∙ count;
      gives = gives;
      some = λ e. absurd (true≢false (sym e));
      caught = λ _. caught;
    }
