-- Parts written one after another.
use Rattle.std.proofs.Common.{◌≡◌, ℕ, ◌+◌, ◌<◌, ◌≤◌, Bool, List, [], ◌++◌, length, drop, get_or, refl, ap, sym, subst}
use Rattle.std.proofs.Common.{◌∙◌}
use Rattle.std.proofs.Common.{append_assoc, append-nil}
use Rattle.std.specs.Prelude.{Result, Ok, Err, OnOk, IfErr}
use Rattle.std.specs.List.{flat_map}
use Rattle.std.proofs.lemmas.List.{drop_more, drop_all}
use Rattle.bit_slice.specs.declared.sink.SinkFault.{SinkFault}
use Rattle.bit_slice.specs.Sink.{State, Puts, Stops}
use Rattle.bit_slice.specs.Laws.{PutsJoin, StopsEarly, StopsLater}
use Rattle.bit_slice.proofs.WriterLemmas.{puts_none}

-- The first i of several were put.
pub record ArePut {A : Type 0} (spell : A → List Bool) (xs : List A) (i : ℕ) (old new : State) : Type 0 where
  pub front : List Bool
  pub puts : Puts old new front
  pub whole : flat_map spell xs ≡ front ++ flat_map spell (drop i xs)

-- x is what the list has at place i
split : {A : Type 0} (spell : A → List Bool) (xs : List A) (i : ℕ) (x : A) → i < length xs → x ≡ get_or xs i x
    → flat_map spell (drop i xs) ≡ spell x ++ flat_map spell (drop (i + 1) xs)
split spell xs i x lt at = ap (flat_map spell) (drop_more xs i x lt)
    ∙ ap (λ (y : _). spell y ++ flat_map spell (drop (i + 1) xs)) (sym at)

pub begun : {A : Type 0} (spell : A → List Bool) (xs : List A) (s : State) → ArePut spell xs 0 s s
begun spell xs s = record { front = []; puts = puts_none s; whole = refl }

pub one_put : {A : Type 0} → PutsJoin → (spell : A → List Bool) (xs : List A) (i : ℕ) (x : A) (old mid new : State)
    → ArePut spell xs i old mid → i < length xs → x ≡ get_or xs i x → Puts mid new (spell x)
    → ArePut spell xs (i + 1) old new
one_put join spell xs i x old mid new h lt at p = record {
  front = h.front ++ spell x;
  puts = join old mid new h.front (spell x) h.puts p;
  whole = h.whole ∙ ap (λ (l : List Bool). h.front ++ l) (split spell xs i x lt at)
      ∙ sym (append_assoc h.front (spell x) (flat_map spell (drop (i + 1) xs)));
}

pub all_put : {A : Type 0} (spell : A → List Bool) (xs : List A) (i : ℕ) (old new : State) → ArePut spell xs i old new
    → length xs ≤ i → Puts old new (flat_map spell xs)
all_put spell xs i old new h le =
    let e : flat_map spell xs ≡ h.front = h.whole ∙ ap (λ (l : List _). h.front ++ flat_map spell l) (drop_all i xs le)
    ∙ append-nil h.front in
    subst (Puts old new) (sym e) h.puts

pub one_stops : {A : Type 0} → StopsEarly → StopsLater → (spell : A → List Bool) (xs : List A) (i : ℕ)
    (x : A) (fault : SinkFault)
    (old mid new : State) → ArePut spell xs i old mid → i < length xs → x ≡ get_or xs i x
    → Stops mid new (spell x) fault
    → Stops old new (flat_map spell xs) fault
one_stops early later spell xs i x fault old mid new h lt at s =
    rw (h.whole, split spell xs i x lt at)
    (later old mid new h.front (spell x ++ flat_map spell (drop (i + 1) xs)) fault h.puts
    (early mid new (spell x) (flat_map spell (drop (i + 1) xs)) fault s))

-- the last part, behind what was put
pub last_puts : {T : Type 0} → PutsJoin → (a b c : State) (front more : List Bool) (r : Result T SinkFault)
    → Puts a b front
    → OnOk r (Puts b c more) → OnOk r (Puts a c (front ++ more))
last_puts join a b c front more (Ok x) puts rest = join a b c front more puts rest
last_puts join a b c front more (Err e) puts rest = tt

pub last_stops : {T : Type 0} → StopsLater → (a b c : State) (front more : List Bool) (r : Result T SinkFault)
    → Puts a b front
    → IfErr r (Stops b c more) → IfErr r (Stops a c (front ++ more))
last_stops later a b c front more (Ok x) puts stops = tt
last_stops later a b c front more (Err e) puts stops = later a b c front more e puts stops
