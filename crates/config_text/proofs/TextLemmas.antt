-- Texts that are read, and texts that are refused.
use Rattle.std.proofs.Common.{ℕ, suc, ◌≡◌, ◌≢◌, ◌≤◌, ◌+◌, ◌∷◌, ◌++◌, ◌∙◌, ◌⊎◌, List, [], Bool, true, false, length}
use Rattle.std.proofs.Common.{take, ap, sym}
use Rattle.std.proofs.Common.{subst, arith, refl, inl, inr, append_assoc, append-nil, length-append, cond, not, ◌==◌}
use Rattle.std.specs.Prelude.{Result, Ok, Err, IfOk, IfErr}
use Rattle.std.specs.List.{slice_split}
use Rattle.std.specs.Str.Lines.{lines, lines_of_parts}
use Rattle.std.proofs.lemmas.Bool.{cases_eq, cond-true, cond-false}
use Rattle.std.proofs.lemmas.List.{take_all}
use Rattle.std.proofs.lemmas.List.Elements.{filter-append}
use Rattle.std.proofs.lemmas.List.Splits.{length-slice_split}
use Rattle.std.proofs.lemmas.List.Sums.{count_by-le-length}
use Rattle.plp_config.specs.declared.config.Config.{Config}
use Rattle.config_text.specs.ConfigText.{is_skipped, kept, ReadsLine, ReadsLines, RefusesLine, RefusesAt, Refuses}
use Rattle.config_text.specs.ConfigText.{CausesFault}
use Rattle.config_text.specs.ConfigText.{version_of, version_in, Spells}
use Rattle.config_text.specs.Rows.{rows_of}
use Rattle.config_text.specs.Drafts.{Takes, Stands, RefusesDue}
use Rattle.config_text.specs.declared.fault.TextWhy.{TextWhy}
use Rattle.config_text.specs.declared.fault.TextFault.{TextFault}
use Rattle.config_text.specs.declared.fault.TextFault.TheVariants.{Refused, OutOfMemory}
use Rattle.config_text.proofs.DraftLemmas.{length-rows_of}
use Rattle.config_text.proofs.LineLemmas.{version_read, reads_first, refuses_first, line_not, line_refused_once}
use Rattle.config_text.proofs.LineLemmas.{lines_once, lines_count, lines_more, lines_at}
use Rattle.config_text.proofs.RowLemmas.{config_once}

-- a list that is parted at two of its elements
parted : (a b c d : List (List ℕ)) (l k : List ℕ) → a ++ l ∷ c ≡ b ++ k ∷ d
    → ((a ≡ b) × (l ≡ k)) ⊎ (((m : List (List ℕ)) × (b ≡ a ++ l ∷ m)) ⊎ ((m : List (List ℕ)) × (a ≡ b ++ k ∷ m)))
parted [] [] c d l k e = inl (refl, let same : l ∷ c ≡ k ∷ d = e in cc)
parted [] (x ∷ b) c d l k e = let same : l ∷ c ≡ x ∷ (b ++ k ∷ d) = e in
    inr (inl (b, let first : l ≡ x = cc in ap (λ (y : List ℕ). y ∷ b) (sym first)))
parted (x ∷ a) [] c d l k e = let same : x ∷ (a ++ l ∷ c) ≡ k ∷ d = e in
    inr (inr (a, let first : x ≡ k = cc in ap (λ (y : List ℕ). y ∷ a) first))
parted (x ∷ a) (y ∷ b) c d l k e =
    let same : x ∷ (a ++ l ∷ c) ≡ y ∷ (b ++ k ∷ d) = e in
    let first : x ≡ y = cc in
    let rest : a ++ l ∷ c ≡ b ++ k ∷ d = cc in
    elim (parted a b c d l k rest) [
      | inl both ↦ inl (let front : a ≡ b = both.0 in cc, both.1)
      | inr (inl more) ↦
          inr (inl (
            more.0,
            let are : b ≡ a ++ l ∷ more.0 = more.1 in ap (λ (z : List ℕ). z ∷ b) (sym first)
                ∙ ap (λ (z : List (List ℕ)). x ∷ z) are,
          ))
      | inr (inr more) ↦
          inr (inr (
            more.0,
            let are : a ≡ b ++ k ∷ more.0 = more.1 in ap (λ (z : List ℕ). z ∷ a) first
                ∙ ap (λ (z : List (List ℕ)). y ∷ z) are,
          ))
    ]

-- a line that is kept or skipped
pub kept-cons : (line : List ℕ) (after : List (List ℕ)) → is_skipped line ≡ false
    → kept (line ∷ after) ≡ line ∷ kept after
kept-cons line after stays = cond-true (not (is_skipped line)) (line ∷ kept after) (kept after) (ap not stays)

pub kept-skip : (line : List ℕ) (after : List (List ℕ)) → is_skipped line ≡ true → kept (line ∷ after) ≡ kept after
kept-skip line after skips = cond-false (not (is_skipped line)) (line ∷ kept after) (kept after) (ap not skips)

pub kept-append : (before after : List (List ℕ)) → kept (before ++ after) ≡ kept before ++ kept after
kept-append before after = filter-append (λ line. not (is_skipped line)) before after

pub kept-parted : (before after : List (List ℕ)) (line : List ℕ) → is_skipped line ≡ false
    → kept (before ++ line ∷ after)
    ≡ kept before ++ line ∷ kept after
kept-parted before after line stays = kept-append before (line ∷ after) ∙ ap (λ (l : List (List ℕ)). kept before ++ l)
    (kept-cons line after stays)

-- a line that is kept among lines that are read is read if it is due
reads_at : (v : ℕ) (all before after rows : List (List ℕ)) (line : List ℕ) → all ≡ before ++ line ∷ after
    → is_skipped line ≡ false
    → ReadsLines v 0 (kept all) rows
    → (row : List ℕ) × ReadsLine v (length (kept before)) line row
reads_at v all before after rows line are stays reads =
    let parts : kept all ≡ kept before ++ line ∷ kept after = ap kept are ∙ kept-parted before after line stays in
    let found : (row : List ℕ) × ReadsLine v (0 + length (kept before)) line row =
    lines_at v 0 (kept before) (kept after) rows line (subst (λ (l : List (List ℕ)). ReadsLines v 0 l rows)
    parts reads) in
    let e : 0 + length (kept before) ≡ length (kept before) = omega arith in
    (found.0, subst (λ (d : ℕ). ReadsLine v d line found.0) e found.1)

-- lines that are all read have none that is refused
reads_not : (text : List ℕ) (rows : List (List ℕ)) (number : ℕ) (why : TextWhy)
    → ReadsLines (version_in text) 0 (kept (lines text)) rows
    → RefusesAt text number why → ⊥
reads_not text rows number why reads at =
    let found : (row : List ℕ) × ReadsLine (version_in text) (length (kept at.before)) at.line row =
    reads_at (version_in text) (lines text) at.before at.after rows at.line at.are at.stays reads in
    line_not (version_in text) (length (kept at.before)) at.line found.0 why found.1 at.refuses

-- no line that is refused stands before another
not_before : (v : ℕ) (before other m : List (List ℕ)) (line rest : List ℕ) (rows : List (List ℕ)) (why : TextWhy)
    → other ≡ before ++ line ∷ m → is_skipped line ≡ false
    → ReadsLines v 0 (kept other) rows → RefusesLine v (length (kept before)) line why → ⊥
not_before v before other m line rest rows why are stays reads refuses =
    let found : (row : List ℕ) × ReadsLine v (length (kept before)) line row = reads_at v other before
    m rows line are stays reads in
    line_not v (length (kept before)) line found.0 why found.1 refuses

at_once : (text : List ℕ) (m n : ℕ) (why other : TextWhy) → RefusesAt text m why → RefusesAt text n other
    → (m ≡ n) × (why ≡ other)
at_once text m n why other a b =
    elim (parted a.before b.before a.after b.after a.line b.line (sym a.are ∙ b.are)) [
      | inl same ↦
          let front : a.before ≡ b.before = same.0 in
          let here : RefusesLine (version_in text) (length (kept b.before)) b.line why =
          subst (λ (l : List ℕ). RefusesLine (version_in text) (length (kept b.before)) l why) same.1
          (subst (λ (l : List (List ℕ)). RefusesLine (version_in text) (length (kept l)) a.line why)
          front a.refuses) in (
            omega (arith, a.at, b.at, ap length front),
            line_refused_once (version_in text) (length (kept b.before))
                b.line why other here b.refuses,
          )
      | inr (inl more) ↦ absurd (not_before (version_in text) a.before b.before more.0 a.line [] b.rows
          why more.1 a.stays b.reads a.refuses)
      | inr (inr more) ↦ absurd (not_before (version_in text) b.before a.before more.0 b.line [] a.rows
          other more.1 b.stays a.reads b.refuses)
    ]

-- a text has one refusal
pub text_refused_once : (text : List ℕ) (m n : ℕ) (why other : TextWhy) → Refuses text m why → Refuses text n other
    → (m ≡ n) × (why ≡ other)
text_refused_once text m n why other (inl a) (inl b) = (a.at ∙ sym b.at, a.reason ∙ sym b.reason)
text_refused_once text m n why other (inl a) (inr (inl b)) = absurd (omega (arith, a.long, b.fits))
text_refused_once text m n why other (inl a) (inr (inr b)) = absurd (omega (arith, a.long, b.fits))
text_refused_once text m n why other (inr (inl a)) (inl b) = absurd (omega (arith, a.fits, b.long))
text_refused_once text m n why other (inr (inl a)) (inr (inl b)) = (a.at ∙ sym b.at, a.reason ∙ sym b.reason)
text_refused_once text m n why other (inr (inl a)) (inr (inr b)) = absurd (reads_not text a.rows n other a.reads b)
text_refused_once text m n why other (inr (inr a)) (inl b) = absurd (omega (arith, a.fits, b.long))
text_refused_once text m n why other (inr (inr a)) (inr (inl b)) = absurd (reads_not text b.rows m why b.reads a)
text_refused_once text m n why other (inr (inr a)) (inr (inr b)) = at_once text m n why other a b

-- a text that spells a configuration is not refused
pub text_not_refused : (text : List ℕ) (c : Config) (number : ℕ) (why : TextWhy) → Spells text c
    → Refuses text number why → ⊥
text_not_refused text c number why spells (inl a) = omega (arith, spells.fits, a.long)
text_not_refused text c number why spells (inr (inl a)) =
    omega (
      arith,
      a.few,
      lines_count (version_in text) 0 (kept (lines text)) (rows_of (version_in text) c)
          spells.reads,
      length-rows_of (version_in text) c,
    )
text_not_refused text c number why spells (inr (inr a)) = reads_not text (rows_of (version_in text) c)
    number why spells.reads a

-- a text spells one configuration
pub text_spelled_once : (text : List ℕ) (c d : Config) → Spells text c → Spells text d → c ≡ d
text_spelled_once text c d one two =
    config_once (version_in text) c d (lines_once (version_in text) 0 (kept (lines text)) (rows_of (version_in text) c)
    (rows_of (version_in text) d) one.reads two.reads)

-- what a reader answers that is right each time it answers
pub read_every : (text : List ℕ) (c : Config) (result : Result Config TextFault) → IfOk result (Spells text)
    → IfErr result (CausesFault text) → Spells text c
    → (result ≡ Ok c) ⊎ (result ≡ Err OutOfMemory)
read_every text c (Ok d) ok err spells =
    let same : d ≡ c = text_spelled_once text d c ok spells in
    inl (cc)
read_every text c (Err (Refused line why)) ok err spells = absurd (text_not_refused text c line why spells err)
read_every text c (Err OutOfMemory) ok err spells = inr refl

pub read_refused : (text : List ℕ) (line : ℕ) (why : TextWhy) (result : Result Config TextFault)
    → IfOk result (Spells text)
    → IfErr result (CausesFault text) → Refuses text line why
    → (result ≡ Err (Refused line why)) ⊎ (result ≡ Err OutOfMemory)
read_refused text line why (Ok d) ok err refuses = absurd (text_not_refused text d line why ok refuses)
read_refused text line why (Err (Refused other reason)) ok err refuses =
    let same : (other ≡ line) × (reason ≡ why) = text_refused_once text other line reason why err refuses in
    let line_is : other ≡ line = same.0 in
    let why_is : reason ≡ why = same.1 in
    inl (cc)
read_refused text line why (Err OutOfMemory) ok err refuses = inr refl

-- ---- the lines up to some place

length-lines_of_parts : (parts : List (List ℕ)) → length (lines_of_parts parts) ≤ length parts
length-lines_of_parts [] = omega arith
length-lines_of_parts (x ∷ []) = last (length x == 0)
  where
    last : (empty : Bool) → length (cond {A = List (List ℕ)} empty [] (x ∷ [])) ≤ 1
    last true = omega arith
    last false = omega arith
length-lines_of_parts (x ∷ y ∷ more) = omega (arith, length-lines_of_parts (y ∷ more))

length-lines : (text : List ℕ) → length (lines text) ≤ length text + 1
length-lines text =
    omega (
      arith,
      length-lines_of_parts (slice_split (λ b. b == 10) text),
      length-slice_split (λ b. b == 10) text,
      count_by-le-length (λ b. b == 10) text,
    )

pub stands_first : (text : List ℕ) (left : List (List ℕ)) (version : ℕ) (config : Config) → length text ≤ 65536
    → left ≡ lines text
    → length config.plps ≡ 0 → Stands text left 0 0 version config
stands_first text left version config fits are plps = record {
  before = [];
  are = sym are;
  counted = refl;
  kept_count = refl;
  reads = tt;
  told = λ some. absurd (some refl);
  plps = omega arith;
  small = omega (arith, ap length are, length-lines text);
  order = omega arith;
}

pub stands_skipped : (text : List ℕ) (old left : List (List ℕ)) (line : List ℕ) (number due version : ℕ)
    (config : Config)
    → Stands text old number due version config → old ≡ line ∷ left → is_skipped line ≡ true
    → Stands text left (number + 1) due version config
stands_skipped text old left line number due version config stands split skips =
    let same : kept (stands.before ++ line ∷ []) ≡ kept stands.before =
    kept-append stands.before (line ∷ []) ∙ ap (λ (l : List (List ℕ)). kept stands.before ++ l)
    (kept-skip line [] skips)
    ∙ append-nil (kept stands.before) in
    record {
      before = stands.before ++ line ∷ [];
      are = stands.are ∙ ap (λ (l : List (List ℕ)). stands.before ++ l) split
          ∙ sym (append_assoc stands.before (line ∷ []) left);
      counted = omega (arith, stands.counted, length-append stands.before (line ∷ []));
      kept_count = stands.kept_count ∙ ap length (sym same);
      reads = subst (λ (l : List (List ℕ)). ReadsLines (version_in text) 0 l
          (take due (rows_of (version_in text) config))) (sym same) stands.reads;
      told = stands.told;
      plps = stands.plps;
      small = omega (arith, stands.small, ap length split);
      order = omega (arith, stands.order);
    }

-- the line that is due is read in the version of the text
read_here : (text : List ℕ) (before : List (List ℕ)) (left : List (List ℕ)) (line row : List ℕ) (due version : ℕ)
    → lines text ≡ before ++ line ∷ left → is_skipped line ≡ false → due ≡ length (kept before)
    → (due ≢ 0 → version ≡ version_in text) → ReadsLine version due line row
    → ReadsLine (version_in text) due line row × (due ≡ 0 → row ≡ version_in text ∷ [])
read_here text before left line row due version are stays count told reads = elim (cases_eq due 0) [
  | inl first ↦
      let none : kept before ≡ [] = no_lines (kept before) (omega (arith, count, first)) in
      let all : kept (lines text) ≡ line ∷ kept left =
      ap kept are ∙ kept-parted before left line stays ∙ ap (λ (l : List (List ℕ)). l ++ line ∷ kept left) none in
      let here : ReadsLine version 0 line row = subst (λ (d : ℕ). ReadsLine version d line row) first reads in
      let is : row ≡ version_in text ∷ [] =
      version_read version line row (kept left) here ∙ ap (λ (l : List (List ℕ)). version_of l ∷ []) (sym all) in (
        subst (λ (d : ℕ). ReadsLine (version_in text) d line row) (sym first)
            (reads_first version (version_in text) line row here),
        λ e. is,
      )
  | inr later ↦ (subst (λ (v : ℕ). ReadsLine v due line row) (told later) reads, λ e. absurd (later e))
]
  where
    no_lines : (ls : List (List ℕ)) → length ls ≡ 0 → ls ≡ []
    no_lines [] e = refl
    no_lines (l ∷ ls) e = absurd (omega arith)

pub stands_taken : (text : List ℕ) (before left : List (List ℕ)) (line : List ℕ) (number due version told : ℕ)
    (old new : Config)
    → Stands text before number due version old → before ≡ line ∷ left → is_skipped line ≡ false
    → Takes version due line old new told
    → Stands text left (number + 1) (due + 1) told new
stands_taken text before left line number due version told old new stands split stays takes =
    let v : ℕ = version_in text in
    let are : lines text ≡ stands.before ++ line ∷ left =
    stands.are ∙ ap (λ (l : List (List ℕ)). stands.before ++ l) split in
    let read = read_here text stands.before left line takes.row due version are stays stands.kept_count
    stands.told takes.reads in
    let puts = takes.puts (version_in text) read.1 in
    let more : kept (stands.before ++ line ∷ []) ≡ kept stands.before ++ line ∷ [] = kept-parted stands.before
    [] line stays in
    let here : ReadsLine (version_in text) (0 + length (kept stands.before)) line takes.row =
    (let e : due ≡ 0 + length (kept stands.before) = omega (arith, stands.kept_count) in
    subst (λ (d : ℕ). ReadsLine (version_in text) d line takes.row) e read.0) in
    let reads : ReadsLines (version_in text) 0 (kept stands.before ++ line ∷ [])
    (take due (rows_of (version_in text) old) ++ takes.row ∷ []) =
    lines_more (version_in text) 0 (kept stands.before) (take due (rows_of (version_in text) old)) line
    takes.row stands.reads
    here in
    let next : suc due ≡ due + 1 = omega arith in
    let rows : take due (rows_of (version_in text) old) ++ takes.row ∷ [] ≡ take (due + 1)
    (rows_of (version_in text) new) =
    sym puts.rows ∙ ap (λ (n : ℕ). take n (rows_of (version_in text) new)) next in
    record {
      before = stands.before ++ line ∷ [];
      are = are ∙ sym (append_assoc stands.before (line ∷ []) left);
      counted = omega (arith, stands.counted, length-append stands.before (line ∷ []));
      kept_count = omega (arith, stands.kept_count, ap length more, length-append (kept stands.before) (line ∷ []));
      reads = subst (λ (l : List (List ℕ)). ReadsLines (version_in text) 0 l
          (take (due + 1) (rows_of (version_in text) new)))
          (sym more)
          (subst (λ (r : List (List ℕ)). ReadsLines (version_in text) 0 (kept stands.before ++ line ∷ []) r)
          rows reads);
      told = λ some. elim (cases_eq due 0) [
        | inl first ↦
            let both : told ∷ [] ≡ version_in text ∷ [] = sym (takes.first first) ∙ read.1 first in cc
        | inr later ↦ takes.later later ∙ stands.told later
      ];
      plps = omega (arith, puts.plps);
      small = omega (arith, stands.small, ap length split);
      order = omega (arith, stands.order);
    }

pub stands_refused : (text : List ℕ) (old left : List (List ℕ)) (line : List ℕ) (number due version : ℕ)
    (config : Config) (why : TextWhy)
    → length text ≤ 65536 → Stands text old number due version config → old ≡ line ∷ left → is_skipped line ≡ false
    → RefusesLine version due line why → Refuses text (number + 1) why
stands_refused text old left line number due version config why fits stands split stays refuses =
    let here : RefusesLine (version_in text) due line why = elim (cases_eq due 0) [
      | inl first ↦ subst (λ (d : ℕ). RefusesLine (version_in text) d line why) (sym first)
          (refuses_first version (version_in text) line why (subst (λ (d : ℕ). RefusesLine version d line why)
          first refuses))
      | inr later ↦ subst (λ (v : ℕ). RefusesLine v due line why) (stands.told later) refuses
    ] in
    inr (inr record {
      fits = fits;
      before = stands.before;
      line = line;
      after = left;
      are = stands.are ∙ ap (λ (l : List (List ℕ)). stands.before ++ l) split;
      stays = stays;
      rows = take due (rows_of (version_in text) config);
      reads = stands.reads;
      refuses = subst (λ (d : ℕ). RefusesLine (version_in text) d line why) stands.kept_count here;
      at = ap (λ (n : ℕ). n + 1) stands.counted;
    })

all_before : (text : List ℕ) (number due version : ℕ) (config : Config) (stands : Stands text [] number
    due version config)
    → lines text ≡ stands.before
all_before text number due version config stands = stands.are ∙ append-nil stands.before

pub stands_whole : (text : List ℕ) (number due version : ℕ) (config : Config) → length text ≤ 65536
    → Stands text [] number due version config
    → 8 ≤ due → Spells text config
stands_whole text number due version config fits stands enough =
    let all : lines text ≡ stands.before = all_before text number due version config stands in
    let rows : take due (rows_of (version_in text) config) ≡ rows_of (version_in text) config =
    take_all due (rows_of (version_in text) config)
    (omega (arith, length-rows_of (version_in text) config, stands.plps)) in
    record {
      fits = fits;
      reads = subst (λ (l : List (List ℕ)). ReadsLines (version_in text) 0 (kept l) (rows_of (version_in text) config))
          (sym all)
          (subst (λ (r : List (List ℕ)). ReadsLines (version_in text) 0 (kept stands.before) r) rows stands.reads);
    }

-- the fault of a line is the fault of its text
pub stands_fault : (text : List ℕ) (old left : List (List ℕ)) (line : List ℕ) (number due version : ℕ) (config : Config)
    (fault : TextFault)
    → length text ≤ 65536 → Stands text old number due version config → old ≡ line ∷ left → is_skipped line ≡ false
    → RefusesDue version due line (number + 1) fault → CausesFault text fault
stands_fault text old left line number due version config (Refused told why) fits stands split stays refuses =
    subst (λ (n : ℕ). Refuses text n why) (sym refuses.0)
    (stands_refused text old left line number due version config why fits stands split stays refuses.1)
stands_fault text old left line number due version config OutOfMemory fits stands split stays refuses = tt
