-- Bytes that are said, one call behind another.
use Rattle.std.proofs.Common.{◌≡◌, ◌≢◌, ℕ, List, [], ◌∷◌, ◌++◌, Option, refl, ap, sym, subst, ◌∙◌, append-nil}
use Rattle.std.specs.Prelude.{option_map}
use Rattle.std.specs.List.{concat}
use Rattle.std.proofs.lemmas.List.Elements.{All-nil, All-append, All-cons}
use Rattle.std.proofs.lemmas.List.Folds.{concat-append}
use Rattle.terms.proofs.OptionLemmas.{append-none, append_twice}
use Rattle.ports.specs.Desk.{State, Keeps, Says}
use Rattle.file_run.specs.Saying.{Grows, SaysBytes, SaysPage}

-- ---- what standard output grew by

pub grows_none : (said : Option (List (List ℕ))) → Grows said said []
grows_none said = record { texts = []; said = append-none said; joined = refl; some = All-nil (λ text. text ≢ []) }

pub grows_then : (a b c : Option (List (List ℕ))) (x y : List ℕ) → Grows a b x → Grows b c y → Grows a c (x ++ y)
grows_then a b c x y p q = record {
  texts = p.texts ++ q.texts;
  said = q.said ∙ ap (option_map (λ said. said ++ q.texts)) p.said ∙ append_twice a p.texts q.texts;
  joined = concat-append p.texts q.texts ∙ ap (λ (l : List ℕ). l ++ concat q.texts) p.joined
      ∙ ap (λ (l : List ℕ). x ++ l) q.joined;
  some = All-append (λ text. text ≢ []) p.texts q.texts p.some q.some;
}

pub grows_one : (old new : State) (text : List ℕ) → text ≢ [] → Says old new text → Grows old.said new.said text
grows_one old new text some s = record {
  texts = text ∷ [];
  said = s.said;
  joined = append-nil text;
  some = All-cons (λ text. text ≢ []) text [] some (All-nil (λ text. text ≢ []));
}

-- by as much as is the same
pub grows_as : (a b : Option (List (List ℕ))) (x y : List ℕ) → x ≡ y → Grows a b x → Grows a b y
grows_as a b x y e g = subst (Grows a b) e g

-- and nothing more was said
pub grows_kept : (a b c : Option (List (List ℕ))) (x : List ℕ) → Grows a b x → c ≡ b → Grows a c x
grows_kept a b c x g e = subst (λ (said : Option (List (List ℕ))). Grows a said x) (sym e) g

pub grows_same : (a b : Option (List (List ℕ))) → b ≡ a → Grows a b []
grows_same a b e = grows_kept a a b [] (grows_none a) e

-- ---- what was said

pub says_none : (s : State) → SaysBytes s s []
says_none s = record { held = refl; grew = grows_none s.said; opened = refl; ended = refl; created = refl }

pub says_then : (a b c : State) (x y : List ℕ) → SaysBytes a b x → SaysBytes b c y → SaysBytes a c (x ++ y)
says_then a b c x y p q = record {
  held = q.held ∙ p.held;
  grew = grows_then a.said b.said c.said x y p.grew q.grew;
  opened = q.opened ∙ p.opened;
  ended = q.ended ∙ p.ended;
  created = q.created ∙ p.created;
}

pub says_kept : (a b c : State) (x : List ℕ) → SaysBytes a b x → Keeps b c → SaysBytes a c x
says_kept a b c x p k = record {
  held = k.held ∙ p.held;
  grew = grows_kept a.said b.said c.said x p.grew k.said;
  opened = k.opened ∙ p.opened;
  ended = k.ended ∙ p.ended;
  created = k.created ∙ p.created;
}

pub says_one : (old new : State) (text : List ℕ) → text ≢ [] → Says old new text → SaysBytes old new text
says_one old new text some s = record {
  held = s.held;
  grew = grows_one old new text some s;
  opened = s.opened;
  ended = s.ended;
  created = s.created;
}

-- a page is said
pub says_page : (old new : State) (page : List ℕ) → SaysPage old new page → SaysBytes old new page
says_page old new [] k = says_kept old old new [] (says_none old) k
says_page old new (byte ∷ bytes) s = says_one old new (byte ∷ bytes) (λ e. cc) s
