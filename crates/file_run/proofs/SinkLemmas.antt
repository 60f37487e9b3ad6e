-- What goes into a file and what is said, alike.
use Rattle.std.proofs.Common.{◌≡◌, ◌≢◌, ℕ, ◌+◌, true, false, List, [], ◌++◌, Option, Some, None, is_some, refl, ap, sym}
use Rattle.std.proofs.Common.{subst, ◌∙◌, arith}
use Rattle.std.specs.Prelude.{IfSome, IsSome, slice_index_or, option_map, unwrap_or}
use Rattle.std.specs.FinMap.{get}
use Rattle.ports.specs.Desk.{State, Held, Files, IsApart, with_empty, out_name, left_of, written_of, bytes_of}
use Rattle.file_run.specs.DeskLaws.{AppendsNone, AppendsThen, CreatesEmpty}
use Rattle.file_run.specs.Writing.{OnlyOut}
use Rattle.file_run.proofs.SayLemmas.{grows_same, grows_then, says_none, says_then}
use Rattle.file_run.specs.Running.{HasOut, SaysOut}
use Rattle.file_run.specs.Sink.{Sink, Into, Aloud, creates, out_of, IsOther, Begins, Puts}
use Rattle.file_run.specs.declared.output.OpenOutput.{OpenOutput}
use Rattle.file_run.specs.declared.output.OpenOutput.TheVariants.{File, Standard}

-- options
pub some_is : {A : Type 0} (o : Option A) (P : A → Type 0) → ((x : A) → o ≡ Some x → P x) → IfSome o P
some_is None P f = tt
some_is (Some x) P f = f x refl

pub of_some : {A : Type 0} (o : Option A) (x : A) (P : A → Type 0) → o ≡ Some x → IfSome o P → P x
of_some {A = A} o x P e h = subst (λ (p : Option A). IfSome p P) e h

pub some_at : {A : Type 0} (o : Option A) (x : A) (P : A → Type 0) → o ≡ Some x → P x → IfSome o P
some_at {A = A} o x P e h = subst (λ (p : Option A). IfSome p P) (sym e) h

-- ---- bytes that go out

pub puts_none : AppendsNone → (out : OpenOutput) (s : State) → Puts out s s []
puts_none law (File handle) s = law s handle
puts_none law Standard s = says_none s

pub puts_then : AppendsThen → (out : OpenOutput) (a b c : State) (x y : List ℕ) → Puts out a b x → Puts out b c y
    → Puts out a c (x ++ y)
puts_then law (File handle) a b c x y p q = law a b c handle x y p q
puts_then law Standard a b c x y p q = says_then a b c x y p q

-- What stays of a desk whatever goes out.
pub record Stays (old new : State) : Type 0 where
  pub opened : new.opened ≡ old.opened
  pub ended : new.ended ≡ old.ended
  pub created : new.created ≡ old.created
  pub untold : old.held ≡ None → new.held ≡ None

pub puts_stay : (out : OpenOutput) (old new : State) (bytes : List ℕ) → Puts out old new bytes → Stays old new
puts_stay (File handle) old new bytes a = record {
  opened = a.opened;
  ended = a.ended;
  created = a.created;
  untold = λ none. subst (λ (o : Option Held). OnlyOut handle o new.held) none a.held;
}
puts_stay Standard old new bytes s = record {
  opened = s.opened;
  ended = s.ended;
  created = s.created;
  untold = λ none. s.held ∙ none;
}

-- Standard output grew by no more.
pub said_kept : (sink : Sink) (a b c : Option (List (List ℕ))) (bytes : List ℕ) → SaysOut sink a b bytes → c ≡ b
    → SaysOut sink a c bytes
said_kept sink a b c bytes s e = subst (λ (said : Option (List (List ℕ))). SaysOut sink a said bytes) (sym e) s

pub said_none : (sink : Sink) (a b : Option (List (List ℕ))) → b ≡ a → SaysOut sink a b []
said_none (Into name) a b e = e
said_none Aloud a b e = grows_same a b e

pub said_on : (sink : Sink) (created : ℕ) (a : Option (List (List ℕ))) (old new : State) (bytes front : List ℕ)
    → SaysOut sink a old.said bytes → Puts (out_of sink created) old new front
    → SaysOut sink a new.said (bytes ++ front)
said_on (Into name) created a old new bytes front s p = p.said ∙ s
said_on Aloud created a old new bytes front s p = grows_then a old.said new.said bytes front s p.grew

-- ---- what the desk holds then, if it tells

pub record HoldsOn (sink : Sink) (created : ℕ) (h was : Held) (new : State) (bytes : List ℕ) : Type 0 where
  pub is : Held
  pub held : new.held ≡ Some is
  pub names : is.names ≡ was.names
  pub has : HasOut sink created h is bytes

written_at : (s : State) (k : Held) (out : ℕ) → s.held ≡ Some k
    → written_of s out ≡ Some (bytes_of k.files (out_name k out))
written_at s k out e = ap (option_map (λ h. bytes_of h.files (out_name h out))) e

-- what is there
there_is : (o : Option (List ℕ)) (bytes : List ℕ) → IsSome o → unwrap_or o [] ≡ bytes → o ≡ Some bytes
there_is None bytes some e = absurd (let z : false ≡ true = some in cc)
there_is (Some x) bytes some e = ap Some e

-- what is held after bytes went out
pub holds_on : (sink : Sink) (created : ℕ) (h was : Held) (old new : State) (bytes front : List ℕ) → old.held ≡ Some was
    → HasOut sink created h was bytes → Puts (out_of sink created) old new front
    → HoldsOn sink created h was new (bytes ++ front)
holds_on (Into name) out h was old new bytes front held has a =
    let only : OnlyOut out (Some was) new.held = subst (λ (o : Option Held). OnlyOut out o new.held) held a.held in
    let k : Held = only.0 in
    let named : out_name k out ≡ name = ap (λ (l : List (List ℕ)). slice_index_or l out []) only.3 ∙ has.0 in
    let before : bytes_of was.files (out_name was out) ≡ bytes = ap (bytes_of was.files) has.0
    ∙ ap (λ (o : Option (List ℕ)). unwrap_or o []) has.1 in
    let now : Some (bytes_of k.files (out_name k out)) ≡ Some (bytes_of was.files (out_name was out) ++ front) =
    sym (written_at new k out only.1) ∙ a.behind ∙ ap (option_map (λ written. written ++ front))
    (written_at old was out held) in
    let is_bytes : bytes_of k.files (out_name k out) ≡ bytes_of was.files (out_name was out) ++ front = cc in
    let all : bytes_of k.files name ≡ bytes ++ front = ap (bytes_of k.files) (sym named) ∙ is_bytes
    ∙ ap (λ (l : List ℕ). l ++ front) before in
    let there : IsSome (get was.files (out_name was out)) = ap is_some (ap (get was.files) has.0 ∙ has.1) in
    let present : IsSome (get k.files name) =
    subst (λ (file : List ℕ). IsSome (get k.files file)) named
    (of_some new.held k (λ h. IsSome (get h.files (out_name h out))) only.1
    (a.there (some_at old.held was (λ h. IsSome (get h.files (out_name h out))) held there))) in
    record {
      is = k;
      held = only.1;
      names = only.2;
      has = (
        named,
        there_is (get k.files name) (bytes ++ front) present all,
        λ other differ. only.4 other (λ e. differ (e ∙ has.0)) ∙ has.2 other differ,
      );
    }
holds_on Aloud created h was old new bytes front held has s =
    record { is = was; held = s.held ∙ held; names = refl; has = has }

-- A handle of another file has left what it had.
pub left_on : (sink : Sink) (created : ℕ) (h was : Held) (old new : State) (bytes front name : List ℕ) (handle : ℕ)
    → old.held ≡ Some was → HasOut sink created h was bytes → slice_index_or was.names handle [] ≡ name
    → IsOther sink name
    → Puts (out_of sink created) old new front → left_of new handle ≡ left_of old handle
left_on (Into file) out h was old new bytes front name handle held has named apart a =
    a.others handle (subst (λ (o : Option Held). IfSome o (λ h. IsApart o handle (out_name h out))) (sym held)
    (λ e. apart (sym named ∙ e ∙ has.0)))
left_on Aloud created h was old new bytes front name handle held has named apart s = rw (s.held, s.opened) refl

-- ---- the output is begun

pub record BeginsAt (sink : Sink) (old new : State) (out : OpenOutput) : Type 0 where
  pub is : out ≡ out_of sink old.created
  pub opened : new.opened ≡ old.opened
  pub ended : new.ended ≡ old.ended
  pub created : new.created ≡ old.created + creates sink
  pub said : new.said ≡ old.said
  pub untold : old.held ≡ None → new.held ≡ None

pub begins_at : (sink : Sink) (old new : State) (out : OpenOutput) → Begins sink old new out → BeginsAt sink old new out
begins_at (Into name) old new out (handle, c, is) = record {
  is = is ∙ ap File c.number;
  opened = c.opened;
  ended = c.ended;
  created = c.created;
  said = c.said;
  untold = λ none. c.held ∙ ap (option_map (with_empty name)) none;
}
begins_at Aloud old new out (same, is) = record {
  is = is;
  opened = ap (λ (s : State). s.opened) same;
  ended = ap (λ (s : State). s.ended) same;
  created = (let e = ap (λ (s : State). s.created) same in omega (arith, e));
  said = ap (λ (s : State). s.said) same;
  untold = λ none. ap (λ (s : State). s.held) same ∙ none;
}

pub holds_first : CreatesEmpty → (sink : Sink) (h was : Held) (old new : State) (out : OpenOutput) → old.held ≡ Some was
    → was.files ≡ h.files → Begins sink old new out → HoldsOn sink old.created h was new []
holds_first law (Into name) h was old new out held same (handle, c, is) =
    let k = law old new name handle was c held in
    record {
      is = k.0;
      held = k.1;
      names = k.2.names;
      has = (
        ap (out_name k.0) (sym c.number) ∙ of_some new.held k.0 (λ h. out_name h handle ≡ name) k.1 c.named,
        k.2.there,
        λ other differ. k.2.others other differ ∙ ap (λ (f : Files). get f other) same,
      );
    }
holds_first law Aloud h was old new out held same (stays, is) =
    record { is = was; held = ap (λ (s : State). s.held) stays ∙ held; names = refl; has = same }

pub left_first : (sink : Sink) (was : Held) (old new : State) (out : OpenOutput) (name : List ℕ) (handle : ℕ)
    → old.held ≡ Some was
    → slice_index_or was.names handle [] ≡ name → IsOther sink name → Begins sink old new out
    → left_of new handle ≡ left_of old handle
left_first (Into file) was old new out name handle held named apart (made, c, is) =
    c.others handle (some_at old.held was (λ h. slice_index_or h.names handle [] ≢ file) held
    (λ e. apart (sym named ∙ e)))
left_first Aloud was old new out name handle held named apart (stays, is) = ap (λ (s : State). left_of s handle) stays
