-- Runs that read a configuration, step by step.
use Rattle.std.proofs.Common.{◌≡◌, ◌⊎◌, ℕ, ◌<◌, ◌≤◌, min, inl, inr, ⊎_elim, List, [], ◌++◌, length, Option}
use Rattle.std.proofs.Common.{Some, None, ap, sym, subst, ◌∙◌, arith, append-nil, length-append}
use Rattle.std.specs.Prelude.{IfSome, IsSome, IfOk, IfErr, Result, option_map, option_and_then}
use Rattle.std.specs.FinMap.{get}
use Rattle.std.proofs.lemmas.Option.{IfSome_then}
use Rattle.std.proofs.lemmas.Result.{IfOk-weaker, IfErr-weaker}
use Rattle.std.proofs.Math.Seq.{get_or-append_seam, set-append_seam}
use Rattle.terms.proofs.OptionLemmas.{was_some}
use Rattle.ports.specs.declared.counts.Counts.{Counts}
use Rattle.ports.specs.declared.fault.FaultKind.TheVariants.{Reading}
use Rattle.ports.specs.Counts.{Rose, MayFailReading, first_of}
use Rattle.ports.specs.Desk.{State, Held, SameCounts, Opens, bytes_of, left_of}
use Rattle.file_run.specs.Faults.{ReadsFail}
use Rattle.plp_config.specs.Rules.{AllRules}
use Rattle.plp_config.specs.declared.config.Config.{Config}
use Rattle.config_text.specs.ConfigText.{Spells, Refuses, RefusesLength, RefusesEnd, RefusesAt}
use Rattle.config_text.specs.declared.fault.TextWhy.{TextWhy}
use Rattle.file_run.specs.declared.config_stop.ConfigCause.{ConfigCause}
use Rattle.file_run.specs.declared.config_stop.ConfigCause.TheVariants.{Text, Rule}
use Rattle.file_run.specs.declared.config_stop.ConfigStop.{ConfigStop}
use Rattle.file_run.specs.declared.config_stop.ConfigStop.TheVariants.{Refused, OutOfMemory}
use Rattle.file_run.specs.ConfigFile.{ReadsText, FailsToRead, IsCause, Gives, GivesNone}
use Rattle.file_run.specs.Opening.{Opened}
use Rattle.file_run.specs.Ahead.{ReadsAhead, IsAtEnd}
use Rattle.file_run.specs.TextReading.{RefusesText, IsFront}

front_of : (before after : Option (List ℕ)) (text : List ℕ) → option_map (λ l. text ++ l) after ≡ option_map
    (λ l. [] ++ l) before
    → IfSome after (λ l. l ≡ []) ⊎ (length text ≡ 65537) → IfSome before (λ file. IsFront file text)
front_of None after text e end = tt
front_of (Some file) None text e end = cc
front_of (Some file) (Some left) text e end = let whole : text ++ left ≡ file = cc in
    record { left = left; whole = sym whole; end = end }

front_length : (file text : List ℕ) → IsFront file text → length text ≤ 65537 → length text ≡ min (length file) 65537
front_length file text f few = grind (arith, length-append)

-- the file that was opened was read so far
moved_by : (old mid new : State) (name : List ℕ) (handle : ℕ) (text : List ℕ) → Opens old mid name handle
    → ReadsAhead mid new handle [] text → Opened old new name (length text)
moved_by old mid new name handle text o r = grind (arith, get_or-append_seam, set-append_seam)

-- what is left of a file that is there
told : (held : Option Held) (name : List ℕ) (left : Option (List ℕ)) (P : List ℕ → Type 0)
    → left ≡ option_and_then (λ h. get h.files name) held → IfSome held (λ h. IsSome (get h.files name)) → IfSome left P
    → IfSome held (λ h. P (bytes_of h.files name))
told None name left P e present h = tt
told (Some k) name left P e present h =
    let there : left ≡ Some (bytes_of k.files name) = e ∙ was_some (get k.files name) [] present in
    rw there at h

-- a text was read to its end, or as far as it is read
pub text_read : (old mid new : State) (name : List ℕ) (handle : ℕ) (text : List ℕ) → Opens old mid name handle
    → SameCounts old mid → ReadsAhead mid new handle [] text → SameCounts mid new →
    length text ≤ 65537 → IsAtEnd new handle ⊎ (length text ≡ 65537) → ReadsText old new name
    × IfSome old.held (λ held. IsFront (bytes_of held.files name) text)
text_read old mid new name handle text o counts r calm few end =
    let front = told old.held name (left_of mid handle) (λ file. IsFront file text) o.left o.present
    (front_of (left_of mid handle) (left_of new handle) text r.next end) in (
      record {
        given = length text;
        opened = moved_by old mid new name handle text o r;
        few = few;
        all = IfSome_then old.held front (λ held f. front_length (bytes_of held.files name) text f few);
        said = r.said ∙ o.said;
        counts = calm ∙ counts;
      },
      front,
    )

pub text_not_read : (old mid new : State) (name : List ℕ) (handle : ℕ) (text : List ℕ) → Opens old mid name handle
    → SameCounts old mid → ReadsAhead mid new handle [] text → length text < 65537 →
    ReadsFail old new → FailsToRead old new name
text_not_read old mid new name handle text o counts r few rose = record {
  way = inr (length text, moved_by old mid new name handle text o r, few, r.said ∙ o.said);
  counts = rose;
}

-- a front that is not too long is the whole file
whole_file : (file text : List ℕ) → IsFront file text → length text ≤ 65536 → text ≡ file
whole_file file text f fits = grind (arith, append-nil)

spelled_file : (file text : List ℕ) (c : Config) → IsFront file text → Spells text c → Spells file c
spelled_file file text c f s = subst (λ (t : List ℕ). Spells t c) (whole_file file text f s.fits) s

refused_file : (file text : List ℕ) (line : ℕ) (why : TextWhy) → IsFront file text → Refuses text line why
    → Refuses file line why
refused_file file text line why f r =
    ⊎_elim
    (λ (long : RefusesLength text line why).
    let more : 65536 < length file = omega (arith, ap length f.whole, length-append text f.left, long.long) in
    inl (record { long = more; at = long.at; reason = long.reason }))
    (λ (rest : RefusesEnd text line why ⊎ RefusesAt text line why).
    ⊎_elim
    (λ (e : RefusesEnd text line why).
    inr (inl (subst (λ (t : List ℕ). RefusesEnd t line why) (whole_file file text f e.fits) e)))
    (λ (e : RefusesAt text line why). inr
    (inr (subst (λ (t : List ℕ). RefusesAt t line why) (whole_file file text f e.fits) e)))
    rest)
    r

cause_file : (file text : List ℕ) (cause : ConfigCause) → IsFront file text → IsCause text cause → IsCause file cause
cause_file file text (Text line why) f r = refused_file file text line why f r
cause_file file text (Rule rule plp) f r = (r.0, spelled_file file text r.0 f r.1, r.2)

-- the text that was read gives a configuration
pub gives : (old new : State) (name text : List ℕ) (c : Config) → ReadsText old new name
    → IfSome old.held (λ held. IsFront (bytes_of held.files name) text) → Spells text c × AllRules c
    → Gives old new name c
gives old new name text c r f s = grind (arith, IfSome_then, spelled_file)

-- or it gives none
pub gives_none : (old new : State) (name text : List ℕ) (outcome : ConfigStop) → ReadsText old new name
    → IfSome old.held (λ held. IsFront (bytes_of held.files name) text) → RefusesText text outcome
    → GivesNone old new name outcome
gives_none old new name text (Refused cause) r f s =
    (r, IfSome_then old.held f (λ held x. cause_file (bytes_of held.files name) text cause x s))
gives_none old new name text OutOfMemory r f s = inr r
gives_none old new name text other r f s = absurd s

-- The file of a name was opened, and its front was read. Then the configuration of the text is that of the file, or
-- there is none.
pub record ReadsFront (old new : State) (name bytes : List ℕ) : Type 0 where
  pub reads : ReadsText old new name
  pub front : IfSome old.held (λ held. IsFront (bytes_of held.files name) bytes)

pub front_read : (old mid new : State) (name : List ℕ) (handle : ℕ) (waiting text bytes : List ℕ) → waiting ≡ []
    → bytes ≡ text
    → Opens old mid name handle → SameCounts old mid →
    ReadsAhead mid new handle waiting text → SameCounts mid new → length text ≤ 65537 → IsAtEnd new handle
    ⊎ (length text ≡ 65537)
    → ReadsFront old new name bytes
front_read old mid new name handle waiting text bytes none same o counts r calm few end =
    let x = text_read old mid new name handle text o counts (subst (λ (w : List ℕ). ReadsAhead mid new handle w text)
    none r) calm
    few end in
    record {
      reads = x.0;
      front = subst (λ (t : List ℕ). IfSome old.held (λ held. IsFront (bytes_of held.files name) t))
          (sym same) x.1;
    }

pub front_not_read : (old mid new : State) (name : List ℕ) (handle : ℕ) (waiting text : List ℕ) → waiting ≡ []
    → Opens old mid name handle → SameCounts old mid → ReadsAhead mid new handle waiting text →
    length text < 65537 → ReadsFail old new → FailsToRead old new name
front_not_read old mid new name handle waiting text none o counts r few rose = grind (arith, text_not_read)

-- a reading that failed
pub reading_fails : {T E : Type 0} (old mid new : State) (result : Result T E) → SameCounts old mid
    → MayFailReading mid.counts new.counts result → Rose mid.counts.reads new.counts.reads
    → new.counts.first ≡ first_of mid.counts.first Reading → ReadsFail old new
reading_fails old mid new result calm m rose first = record {
  rose = subst (λ (k : Counts). Rose k.reads new.counts.reads) calm rose;
  first = subst (λ (k : Counts). new.counts.first ≡ first_of k.first Reading) calm first;
  later = subst (λ (k : Counts). k.reads ≤ new.counts.reads) calm m.later;
  others = subst (λ (k : Counts). new.counts ≡ record k { reads = new.counts.reads; first = new.counts.first })
      calm m.others;
}

pub config_ok : (old new : State) (name bytes : List ℕ) (result : Result Config ConfigStop)
    → ReadsFront old new name bytes
    → IfOk result (λ c. Spells bytes c × AllRules c) → IfOk result (Gives old new name)
config_ok old new name bytes result x ok = IfOk-weaker result (λ c. Spells bytes c × AllRules c) (Gives old new name)
    (λ c s. gives old new name bytes c x.reads x.front s) ok

pub config_err : (old new : State) (name bytes : List ℕ) (result : Result Config ConfigStop)
    → ReadsFront old new name bytes
    → IfErr result (RefusesText bytes) → IfErr result (GivesNone old new name)
config_err old new name bytes result x err = IfErr-weaker result (RefusesText bytes) (GivesNone old new name)
    (λ outcome s. gives_none old new name bytes outcome x.reads x.front s) err
