-- The test of an L1-current says whether it is the configuration's and the frame's.
use Rattle.std.proofs.Common.{◌≡◌, ℕ, ◌%◌, ◌==◌, ◌&&◌, Bool, true, false, List, [], ◌∷◌, map, length, Option, Some}
use Rattle.std.proofs.Common.{None, Ok, Err, refl, ap, sym, subst, ◌∙◌, arith, append-nil}
use Rattle.std.specs.Prelude.{is_some, unwrap_or, nat_eq}
use Rattle.std.specs.Cmp.Lexicographic.{pointwise, pointwise_decides, bytes_decides}
use Rattle.std.proofs.lemmas.Bool.{and_from, and_parts, eqb-true, eq-eqb, ne_eqb, cond-false, false≢true}
use Rattle.std.proofs.lemmas.List.{length-map}
use Rattle.plp_config.specs.declared.config.Config.{Config}
use Rattle.plp_config.specs.declared.plp.Plp.{Plp}
use Rattle.l1_signal.specs.Fields.{Row, values, Reading}
use Rattle.l1_signal.specs.L1Configurable.{conf_first_rows, conf_more_rows, conf_plp_rows, conf_back_rows, conf_plp_at}
use Rattle.l1_signal.specs.L1Configurable.{conf_at, conf_read, info_size, ConfSpells}
use Rattle.l1_signal.specs.L1Dynamic.{dyn_read, DynSpells}
use Rattle.l1_signal.specs.L1Of.{pre_of, conf_plp_of, conf_of}
use Rattle.l1_signal.specs.L1Pre.{pre_rows, pre_at, pre_reading, PreSpells}
use Rattle.l1_signal.specs.Laws.{PreReadBack, PreReadSpelled, ConfReadBack, ConfReadSpelled, DynReadBack}
use Rattle.l1_signal.specs.Laws.{DynReadSpelled}
use Rattle.l1_signal.specs.declared.conf.L1Conf.{L1Conf}
use Rattle.l1_signal.specs.declared.conf_plp.ConfPlp.{ConfPlp}
use Rattle.l1_signal.specs.declared.dyn_plp.DynPlp.{DynPlp}
use Rattle.l1_signal.specs.declared.dynamic.L1Dyn.{L1Dyn}
use Rattle.l1_signal.specs.declared.pre.L1Pre.{L1Pre}
use Rattle.frame_groups.specs.Carried.{L1Parts}
use Rattle.frame_groups.specs.TestLaws.{IsOfFrame, PreValues, ConfTold, PartsTold}
use Rattle.frame_groups.specs.Tests.{read_whole, same_told, pre_agrees, same_conf, conf_agrees, dyn_agrees}
use Rattle.frame_groups.specs.Tests.{read_dynamic, parts_agree}

-- what is read whole
read_pair : {A : Type 0} (y : A) (rest : List Bool) (x : A) → read_whole (Ok (y, rest)) ≡ Some x
    → ◌≡◌ {A = Reading A} (Ok (y, rest)) (Ok (x, []))
read_pair y [] x e = ap (λ (z : _). Ok (z, [])) (ap (λ (o : Option _). unwrap_or o x) e)
read_pair {A = A} y (b ∷ rest) x e =
    let some : length (b ∷ rest) ≡ 0 → ⊥ = λ z. omega (arith, z) in
    absurd (false≢true
    (ap is_some (sym (cond-false {A = Option A} (length (b ∷ rest) == 0) (Some y) None
    (ne_eqb (length (b ∷ rest)) 0 some))
    ∙ e)))

read_some : {A : Type 0} (r : Reading A) (x : A) → read_whole r ≡ Some x → r ≡ Ok (x, [])
read_some (Ok r) x e = read_pair r.0 r.1 x e
read_some (Err f) x e = absurd (false≢true (ap is_some e))

-- numbers are the same
numbers_equal : (xs ys : List ℕ) → pointwise nat_eq xs ys ≡ true → xs ≡ ys
numbers_equal xs ys e = (bytes_decides xs ys).0 e

numbers_same : (xs ys : List ℕ) → xs ≡ ys → pointwise nat_eq xs ys ≡ true
numbers_same xs ys e = (bytes_decides xs ys).1 e

told_self : {A : Type 0} (rows : List (Row A)) (x : A) → same_told rows x x ≡ true
told_self rows x = numbers_same (values rows x []) (values rows x []) refl

-- the values of the rows tell all of an L1-pre, and of a configurable part
pub same_pre : PreValues
same_pre x y = (
  (λ e. ap pre_at (numbers_equal (values pre_rows x []) (values pre_rows y []) e)),
  (λ e. subst (λ (z : L1Pre). same_told pre_rows x z ≡ true) e (told_self pre_rows x)),
)

same_plp : (x y : ConfPlp) → (same_told conf_plp_rows x y ≡ true → x ≡ y) × (x ≡ y → same_told conf_plp_rows x y ≡ true)
same_plp x y = (
  (λ e. ap conf_plp_at (numbers_equal (values conf_plp_rows x []) (values conf_plp_rows y []) e)),
  (λ e. subst (λ (z : ConfPlp). same_told conf_plp_rows x z ≡ true) e (told_self conf_plp_rows x)),
)

conf_with : (a b d e g h : List ℕ) (x y : List ConfPlp) → a ≡ b → d ≡ e → x ≡ y → g ≡ h
    → conf_at a d x g ≡ conf_at b e y h
conf_with a b d e g h x y p q r s = rw (p, q, r, s) refl

conf_equal : (x y : L1Conf) → same_conf x y ≡ true → x ≡ y
conf_equal x y e =
    let one =
    and_parts (same_told conf_first_rows x y && same_told conf_more_rows x y && pointwise
    (same_told conf_plp_rows) x.plps y.plps) (same_told conf_back_rows x y) e in
    let two = and_parts (same_told conf_first_rows x y && same_told conf_more_rows x y)
    (pointwise (same_told conf_plp_rows) x.plps y.plps) one.0 in
    let three = and_parts (same_told conf_first_rows x y) (same_told conf_more_rows x y) two.0 in
    conf_with (values conf_first_rows x []) (values conf_first_rows y []) (values conf_more_rows x [])
    (values conf_more_rows y []) (values conf_back_rows x []) (values conf_back_rows y []) x.plps y.plps
    (numbers_equal (values conf_first_rows x []) (values conf_first_rows y []) three.0)
    (numbers_equal (values conf_more_rows x []) (values conf_more_rows y []) three.1)
    ((pointwise_decides same_plp x.plps y.plps).0 two.1)
    (numbers_equal (values conf_back_rows x []) (values conf_back_rows y []) one.1)

conf_self : (x : L1Conf) → same_conf x x ≡ true
conf_self x =
    and_from (same_told conf_first_rows x x && same_told conf_more_rows x x && pointwise (same_told conf_plp_rows)
    x.plps x.plps)
    (same_told conf_back_rows x x)
    (and_from (same_told conf_first_rows x x && same_told conf_more_rows x x)
    (pointwise (same_told conf_plp_rows) x.plps x.plps)
    (and_from (same_told conf_first_rows x x) (same_told conf_more_rows x x) (told_self conf_first_rows x)
    (told_self conf_more_rows x)) ((pointwise_decides same_plp x.plps x.plps).1 refl))
    (told_self conf_back_rows x)

-- what the tests of the parts say of what is read
pre_told : (c : Config) (o : Option L1Pre) → pre_agrees c o ≡ true → o ≡ Some (pre_of c)
pre_told c None e = absurd (false≢true e)
pre_told c (Some pre) e = ap (λ (p : L1Pre). Some p) ((same_pre pre (pre_of c)).0 e)

conf_told : (c : Config) (o : Option L1Conf) → conf_agrees c o ≡ true → o ≡ Some (conf_of c)
conf_told c None e = absurd (false≢true e)
conf_told c (Some conf) e = ap (λ (x : L1Conf). Some x) (conf_equal conf (conf_of c) e)

record DynTold (c : Config) (n : ℕ) (o : Option L1Dyn) : Type 0 where
  pub dynamic : L1Dyn
  pub is : o ≡ Some dynamic
  pub frame : dynamic.frame_idx ≡ n % c.frames
  pub ids : map (λ plp. plp.plp_id) dynamic.plps ≡ map (λ plp. plp.id) c.plps

dyn_is_told : (c : Config) (n : ℕ) (o : Option L1Dyn) → dyn_agrees c n o ≡ true → DynTold c n o
dyn_is_told c n None e = absurd (false≢true e)
dyn_is_told c n (Some dynamic) e =
    let ids : List ℕ = map (λ (plp : DynPlp). plp.plp_id) dynamic.plps in
    let own : List ℕ = map (λ (plp : Plp). plp.id) c.plps in
    let p = and_parts (dynamic.frame_idx == n % c.frames) (pointwise nat_eq ids own) e in
    record {
      dynamic = dynamic;
      is = refl;
      frame = eqb-true dynamic.frame_idx (n % c.frames) p.0;
      ids = numbers_equal ids own p.1;
    }

module _ (pre_back : PreReadBack) (pre_spelled : PreReadSpelled) (conf_back : ConfReadBack)
    (conf_spelled : ConfReadSpelled)
    (dyn_back : DynReadBack) (dyn_spelled : DynReadSpelled) (c : Config) where
  pre_from : (bits : List Bool) → pre_agrees c (read_whole (pre_reading false bits)) ≡ true → PreSpells (pre_of c) bits
  pre_from bits e =
      let is =
      pre_spelled false bits (pre_of c) []
      (read_some (pre_reading false bits) (pre_of c) (pre_told c (read_whole (pre_reading false bits)) e)) in
      let here : bits ≡ is.front = is.whole ∙ append-nil is.front in
      subst (λ (l : List Bool). PreSpells (pre_of c) l) (sym here) is.spells

  pre_to : (bits : List Bool) → PreSpells (pre_of c) bits → pre_agrees c (read_whole (pre_reading false bits)) ≡ true
  pre_to bits s =
      ap (λ r. pre_agrees c (read_whole r)) (ap (pre_reading false) (sym (append-nil bits))
      ∙ pre_back false (pre_of c) bits [] s)
      ∙ told_self pre_rows (pre_of c)

  own_size : length (conf_of c).plps ≡ length c.plps
  unfolding conf_of
  own_size = length-map c.plps conf_plp_of

  conf_from : (bits : List Bool) → conf_agrees c (read_whole (conf_read (info_size (length c.plps)) bits)) ≡ true
      → ConfSpells (conf_of c) bits
  conf_from bits e =
      let size : ℕ = info_size (length c.plps) in
      let is =
      conf_spelled size bits (conf_of c) []
      (read_some (conf_read size bits) (conf_of c) (conf_told c (read_whole (conf_read size bits)) e)) in
      let here : bits ≡ is.front = is.whole ∙ append-nil is.front in
      subst (λ (l : List Bool). ConfSpells (conf_of c) l) (sym here) is.spells

  conf_to : (bits : List Bool) → ConfSpells (conf_of c) bits
      → conf_agrees c (read_whole (conf_read (info_size (length c.plps)) bits)) ≡ true
  conf_to bits s =
      ap (λ r. conf_agrees c (read_whole r))
      (ap (λ (k : ℕ). conf_read (info_size k) bits) (sym own_size)
      ∙ ap (conf_read (info_size (length (conf_of c).plps)))
      (sym (append-nil bits)) ∙ conf_back (conf_of c) bits [] s) ∙ conf_self (conf_of c)

  dyn_to : (n : ℕ) (dynamic : L1Dyn) (l1 : L1Parts) → DynSpells dynamic l1.dynamic → dynamic.frame_idx ≡ n % c.frames
      → map (λ (plp : DynPlp). plp.plp_id) dynamic.plps ≡ map (λ (plp : Plp). plp.id) c.plps
      → dyn_agrees c n (read_dynamic c l1) ≡ true
  dyn_to n dynamic l1 s frame ids =
      let a = length-map dynamic.plps (λ (plp : DynPlp). plp.plp_id) in
      let b = length-map c.plps (λ (plp : Plp). plp.id) in
      let size : length dynamic.plps ≡ length c.plps = sym a ∙ ap length ids ∙ b in
      ap (λ r. dyn_agrees c n (read_whole r)) (ap (λ (k : ℕ). dyn_read k l1.dynamic) (sym size)
      ∙ ap (dyn_read (length dynamic.plps)) (sym (append-nil l1.dynamic)) ∙ dyn_back dynamic l1.dynamic [] s)
      ∙ and_from (dynamic.frame_idx == n % c.frames)
      (pointwise nat_eq (map (λ (plp : DynPlp). plp.plp_id) dynamic.plps) (map (λ (plp : Plp). plp.id) c.plps))
      (eq-eqb dynamic.frame_idx (n % c.frames) frame)
      (numbers_same (map (λ (plp : DynPlp). plp.plp_id) dynamic.plps) (map (λ (plp : Plp). plp.id) c.plps) ids)

  told_both : (n : ℕ) (l1 : L1Parts) → (parts_agree c n l1 ≡ true → IsOfFrame c n l1)
      × (IsOfFrame c n l1 → parts_agree c n l1 ≡ true)
  unfolding parts_agree
  told_both n l1 =
      let pre : Bool = pre_agrees c (read_whole (pre_reading false l1.pre)) in
      let conf : Bool = conf_agrees c (read_whole (conf_read (info_size (length c.plps)) l1.conf)) in
      let dyn : Bool = dyn_agrees c n (read_dynamic c l1) in (
        (λ e.
            let first = and_parts (pre && conf) dyn e in
            let second = and_parts pre conf first.0 in
            let d = dyn_is_told c n (read_dynamic c l1) first.1 in
            let is =
            dyn_spelled (length c.plps) l1.dynamic d.dynamic []
            (read_some (dyn_read (length c.plps) l1.dynamic) d.dynamic d.is) in
            let here : l1.dynamic ≡ is.front = is.whole ∙ append-nil is.front in
            record {
              pre = pre_from l1.pre second.0;
              conf = conf_from l1.conf second.1;
              dynamic = d.dynamic;
              spells = subst (λ (l : List Bool). DynSpells d.dynamic l) (sym here) is.spells;
              frame = d.frame;
              ids = d.ids;
            }),
        (λ is. and_from (pre && conf) dyn (and_from pre conf (pre_to l1.pre is.pre) (conf_to l1.conf is.conf))
            (dyn_to n is.dynamic l1 is.spells is.frame is.ids)),
      )

module _ (pre_back : PreReadBack) (pre_spelled : PreReadSpelled) (conf_back : ConfReadBack)
    (conf_spelled : ConfReadSpelled)
    (dyn_back : DynReadBack) (dyn_spelled : DynReadSpelled) where
  pub conf_is_told : ConfTold
  conf_is_told c bits = grind (arith, conf_from, conf_to)

  pub parts_told : PartsTold
  parts_told c n l1 = told_both pre_back pre_spelled conf_back conf_spelled dyn_back dyn_spelled c n l1
