-- What a feed stands for, step by step.
use Rattle.std.proofs.Common.{◌≡◌, ℕ, ◌+◌, ◌<◌, ◌≤◌, Bool, true, false, List, [], ◌∷◌, ◌++◌, length, drop, refl, ap}
use Rattle.std.proofs.Common.{sym, subst}
use Rattle.std.proofs.Common.{take, take-append-drop, ◌≢◌, ◌∙◌, inl, inr, arith, append-nil, length-append}
use Rattle.std.specs.Prelude.{Result, Ok}
use Rattle.site_frame.specs.Laws.{NoRefusal}
use Rattle.site_frame.specs.Record.{head_len}
use Rattle.site_frame.specs.RecordFile.{AreRecords, Announces, IsBegun, EndsWithin}
use Rattle.site_frame.specs.Whole.{BeginsWith, Follow, Refuses, RefusesHead}
use Rattle.site_frame.specs.declared.fault.RecordWhy.{RecordWhy}
use Rattle.site_frame.specs.declared.fault.RecordWhy.TheVariants as why
use Rattle.site_frame.specs.declared.reading.RecordView.{RecordView}
use Rattle.site_frame.specs.Behind.{StandsRefused, Behind}
use Rattle.site_frame.specs.FeedLaws.{Lacks, NoneWaits}
use Rattle.site_frame.specs.FeedStandsFor.{RecordFeedStandsFor}
use Rattle.site_frame.specs.declared.coming.Coming.{Coming}
use Rattle.site_frame.specs.declared.coming.Coming.TheVariants.{Head, Rest, Whole, Refused, NoRoom, Finished}
use Rattle.site_frame.specs.declared.feed.RecordFeed.{RecordFeed}
use Rattle.site_frame.proofs.RecordFileLemmas.{records_on, records_more, announces_head, announces_on, none_left}
use Rattle.site_frame.proofs.RecordFileLemmas.{whole_len}
use Rattle.site_frame.proofs.RecordFrontLemmas.{refused_whole, short_refused, cut_refused}

-- what stands behind the records, by what comes next
behind_at : (f : RecordFeed) (views : List RecordView) (came : List ℕ) (ended : Bool) (p : Coming) → f.coming ≡ p
    → (s : RecordFeedStandsFor f views came ended) → Behind p f.head f.bytes.items f.left s.rest ended
behind_at f views came ended p is s =
    subst (λ (q : Coming). Behind q f.head f.bytes.items f.left s.rest ended) is s.behind

-- ---- behind a head

pub no_room : (head : List ℕ) (rest : ℕ) → length head ≡ head_len → Follow head rest
    → (length head ≡ head_len) × ((len : ℕ) × Announces head len)
no_room head rest size f = (size, (rest, announces_head head rest size f))

pub begun : (head : List ℕ) (rest : ℕ) → length head ≡ head_len → Follow head rest → IsBegun head rest
begun head rest size f =
    record { len = rest; announces = announces_head head rest size f; lacks = omega (arith, size) }

pub refused_head : (head : List ℕ) (why : RecordWhy) → length head ≡ head_len → RefusesHead head why
    → StandsRefused why 0 head false
refused_head head why size r = record {
  refuses = λ more end. (
    (λ e. let n = ap length e in let sum = length-append head more in absurd (omega (arith, n, sum, size))),
    r more,
  );
  within = inl (omega (arith, size));
  none = inl refl;
}

-- ---- bytes come

-- behind the same records
more_stands : (f g : RecordFeed) (views : List RecordView) (came piece : List ℕ) (ended : Bool)
    (s : RecordFeedStandsFor f views came ended)
    → g.at ≡ f.at + length piece → g.count ≡ f.count → Behind g.coming g.head g.bytes.items g.left (s.rest ++ piece)
    ended
    → RecordFeedStandsFor g views (came ++ piece) ended
more_stands f g views came piece ended s at count behind = grind (arith, records_on, length-append)

-- bytes of a head, but not all
pub head_part : (f g : RecordFeed) (views : List RecordView) (came piece : List ℕ) (ended : Bool) → f.coming ≡ Head
    → g.coming ≡ f.coming → g.at ≡ f.at + length piece → g.count ≡ f.count → g.head ≡ f.head ++ piece
    → g.left + length piece ≡ f.left → RecordFeedStandsFor f views came ended
    → RecordFeedStandsFor g views (came ++ piece) ended
head_part f g views came piece ended heads same at count head left s =
    let b = behind_at f views came ended Head heads s in
    let lacks = b.1 in
    more_stands f g views came piece ended s at count
    (subst (λ (p : Coming). Behind p g.head g.bytes.items g.left (s.rest ++ piece) ended) (sym (same ∙ heads)) (
      ap (λ (l : List ℕ). l ++ piece) b.0 ∙ sym head,
      (let sum = length-append s.rest piece in omega (arith, sum, lacks, left)),
      b.2,
    ))

-- the last of them
pub head_whole : (f g : RecordFeed) (views : List RecordView) (came piece whole : List ℕ) (ended : Bool)
    → f.coming ≡ Head
    → g.at ≡ f.at + length piece → g.count ≡ f.count → g.head ≡ [] → whole ≡ f.head ++ piece
    → Behind g.coming [] g.bytes.items g.left whole false → RecordFeedStandsFor f views came ended
    → RecordFeedStandsFor g views (came ++ piece) ended
head_whole f g views came piece whole ended heads at count none is behind s =
    let b = behind_at f views came ended Head heads s in
    let all : whole ≡ s.rest ++ piece = is ∙ ap (λ (l : List ℕ). l ++ piece) (sym b.0) in
    more_stands f g views came piece ended s at count
    (subst (λ (e : Bool). Behind g.coming g.head g.bytes.items g.left (s.rest ++ piece) e) (sym b.2)
    (subst (λ (l : List ℕ). Behind g.coming l g.bytes.items g.left (s.rest ++ piece) false) (sym none)
    (subst (λ (l : List ℕ). Behind g.coming [] g.bytes.items g.left l false) all behind)))

begun_more : (rest piece : List ℕ) (left now : ℕ) → IsBegun rest left → now + length piece ≡ left
    → IsBegun (rest ++ piece) now
begun_more rest piece left now b is = grind (arith, announces_on, length-append)

-- bytes of a rest, but not all
pub rest_part : (f g : RecordFeed) (views : List RecordView) (came piece : List ℕ) (ended : Bool) → f.coming ≡ Rest
    → g.coming ≡ f.coming → g.at ≡ f.at + length piece → g.count ≡ f.count → g.bytes.items ≡ f.bytes.items ++ piece
    → g.left + length piece ≡ f.left → RecordFeedStandsFor f views came ended
    → RecordFeedStandsFor g views (came ++ piece) ended
rest_part f g views came piece ended rests same at count bytes left s =
    let b = behind_at f views came ended Rest rests s in
    more_stands f g views came piece ended s at count
    (subst (λ (p : Coming). Behind p g.head g.bytes.items g.left (s.rest ++ piece) ended) (sym (same ∙ rests))
    (ap (λ (l : List ℕ). l ++ piece) b.0 ∙ sym bytes, begun_more s.rest piece f.left g.left b.1 left, b.2))

-- the last of them
pub rest_whole : (f g : RecordFeed) (views : List RecordView) (came piece : List ℕ) (ended : Bool) → f.coming ≡ Rest
    → g.coming ≡ Whole → g.at ≡ f.at + length piece → g.count ≡ f.count → g.bytes.items ≡ f.bytes.items ++ piece
    → length piece ≡ f.left → RecordFeedStandsFor f views came ended → RecordFeedStandsFor g views (came ++ piece) ended
rest_whole f g views came piece ended rests comes at count bytes all s =
    let b = behind_at f views came ended Rest rests s in
    more_stands f g views came piece ended s at count
    (subst (λ (p : Coming). Behind p g.head g.bytes.items g.left (s.rest ++ piece) ended) (sym comes) (
      ap (λ (l : List ℕ). l ++ piece) b.0 ∙ sym bytes,
      begun_more s.rest piece f.left 0 b.1 (omega (arith, all)),
      b.2,
    ))

-- ---- a record is whole

pub accepted : (f g : RecordFeed) (views : List RecordView) (came : List ℕ) (ended : Bool) (view : RecordView) (len : ℕ)
    → f.coming ≡ Whole → g.coming ≡ Head → g.at ≡ f.at → g.count ≡ f.count + 1 → g.head ≡ [] → g.left ≡ head_len
    → RecordFeedStandsFor f views came ended
    → BeginsWith f.bytes.items view len → RecordFeedStandsFor g (views ++ view ∷ []) came ended
accepted f g views came ended view len whole comes at count none left s begins =
    let b = behind_at f views came ended Whole whole s in
    let here : BeginsWith s.rest view len = subst (λ (l : List ℕ). BeginsWith l view len) (sym b.0) begins in
    let lacks = b.1.lacks in
    let nothing : drop len s.rest ≡ [] =
    none_left s.rest view len b.1.len b.1.announces (omega (arith, lacks)) here in
    record {
      rest = [];
      records = subst (λ (l : List ℕ). AreRecords came (views ++ view ∷ []) l) nothing
          (records_more came s.rest views view len s.records here);
      size = at ∙ s.size;
      number = (let n = s.number in let sum = length-append views (view ∷ []) in omega (arith, count, n, sum));
      behind = subst (λ (p : Coming). Behind p g.head g.bytes.items g.left [] ended) (sym comes)
          (sym none, (let n = left in omega (arith, n)), b.2);
    }

pub refused : (f g : RecordFeed) (views : List RecordView) (came : List ℕ) (ended : Bool) (why : RecordWhy)
    → f.coming ≡ Whole → g.coming ≡ Refused why → g.at ≡ f.at → g.count ≡ f.count → g.left ≡ 0
    → Refuses f.bytes.items why → RecordFeedStandsFor f views came ended → RecordFeedStandsFor g views came ended
refused f g views came ended why whole comes at count none refuses s =
    let b = behind_at f views came ended Whole whole s in
    let lacks = b.1.lacks in
    let size : length s.rest ≡ head_len + b.1.len = omega (arith, lacks) in
    let here : Refuses s.rest why = subst (λ (l : List ℕ). Refuses l why) (sym b.0) refuses in
    record {
      rest = s.rest;
      records = s.records;
      size = at ∙ s.size;
      number = count ∙ s.number;
      behind = subst (λ (p : Coming). Behind p g.head g.bytes.items g.left s.rest ended) (sym comes) (record {
        refuses = λ more end. (
          (λ e. let n = ap length e in let sum = length-append s.rest more in absurd (omega (arith, n, sum, size))),
          refused_whole s.rest more b.1.len why b.1.announces size here,
        );
        within = inr (b.1.len, b.1.announces, omega (arith, size));
        none = inl none;
      });
    }

-- ---- the file ends

-- behind what is refused then
ends_refused : (rest : List ℕ) (left : ℕ) (why : RecordWhy) → 0 < length rest → Refuses rest why
    → EndsWithin rest (length rest)
    → StandsRefused why left rest true
ends_refused rest left why some refuses within = grind (arith, append-nil)

end_stands : (f g : RecordFeed) (views : List RecordView) (came : List ℕ) (ended : Bool)
    (s : RecordFeedStandsFor f views came ended)
    → g.at ≡ f.at → g.count ≡ f.count → Behind g.coming g.head g.bytes.items g.left s.rest true
    → RecordFeedStandsFor g views came true
end_stands f g views came ended s at count behind = grind arith

-- within the rest of a record
pub ends_in_rest : (f g : RecordFeed) (views : List RecordView) (came : List ℕ) (ended : Bool) → f.coming ≡ Rest
    → 0 < f.left
    → g.coming ≡ Refused why.Length → g.at ≡ f.at → g.count ≡ f.count → RecordFeedStandsFor f views came ended
    → RecordFeedStandsFor g views came true
ends_in_rest f g views came ended rests some comes at count s =
    let b = behind_at f views came ended Rest rests s in
    let lacks = b.1.lacks in
    let long = b.1.announces.0 in
    end_stands f g views came ended s at count
    (subst (λ (p : Coming). Behind p g.head g.bytes.items g.left s.rest true) (sym comes)
    (ends_refused s.rest g.left why.Length (omega (arith, long))
    (cut_refused s.rest b.1.len b.1.announces (omega (arith, lacks, some)))
    (inr (b.1.len, b.1.announces, omega (arith, lacks)))))

-- ---- what is read

abbrev Read : Type 0
Read = Result (RecordView × ℕ) RecordWhy

abbrev pub is_read : RecordView → Result RecordView RecordWhy
is_read view = Ok view

-- what was read of the same bytes is the same record
pub same_view : (v w : RecordView) (n m : ℕ) (a b : Read) → a ≡ Ok (v, n) → b ≡ Ok (w, m) → a ≡ b → v ≡ w
same_view v w n m a b is other same = grind arith

-- ---- laws

pub within : (rest more : List ℕ) (left count : ℕ) → Lacks rest left → count ≤ left
    → EndsWithin (rest ++ more) (length rest + count)
within rest more left count (inl head) few = inl (omega (arith, head, few))
within rest more left count (inr b) few =
    inr (b.len, announces_on rest more b.len b.announces, (let l = b.lacks in omega (arith, l, few)))

-- what is refused begins with no record
not_begun : NoRefusal → (rest : List ℕ) (view : RecordView) (len : ℕ) (why : RecordWhy) → Refuses rest why
    → ¬ (BeginsWith rest view len)
not_begun never rest view len why r b =
    never view (take len rest) (drop len rest) why b.spells
    (subst (λ (l : List ℕ). Refuses l why) (sym (take-append-drop len rest)) r)

-- nor do fewer bytes than a record has
not_whole : (rest : List ℕ) (view : RecordView) (len left : ℕ) → IsBegun rest left → 0 < left
    → ¬ (BeginsWith rest view len)
not_whole rest view len left begun some b =
    let size = whole_len rest view len begun.len begun.announces b in
    let lacks = begun.lacks in
    let inside = b.inside in
    absurd (omega (arith, size, lacks, inside, some))

none_behind : NoRefusal → (f : RecordFeed) (ended : Bool) (rest : List ℕ) (p : Coming) → f.coming ≡ p
    → p ≢ Whole → p ≢ NoRoom
    → Behind p f.head f.bytes.items f.left rest ended → (view : RecordView) (len : ℕ) → ¬ (BeginsWith rest view len)
none_behind never f ended rest Head is seen room b view len =
    let some = (f.lacks is).0 in
    let lacks = b.1 in
    not_begun never rest view len why.Head (short_refused rest (omega (arith, some, lacks)))
none_behind never f ended rest Rest is seen room b view len = not_whole rest view len f.left b.1 (f.room is).0
none_behind never f ended rest Whole is seen room b view len = absurd (seen refl)
none_behind never f ended rest (Refused w) is seen room b view len =
    not_begun never rest view len w
    (subst (λ (l : List ℕ). Refuses l w) (append-nil rest) ((b.refuses [] (λ e. refl)).1))
none_behind never f ended rest NoRoom is seen room b view len = absurd (room refl)
none_behind never f ended rest Finished is seen room b view len =
    not_begun never rest view len why.Head (short_refused rest (let none = ap length b.0 in omega (arith, none)))

pub none_waits : NoRefusal → NoneWaits
none_waits never f views came ended s seen room view len =
    none_behind never f ended s.rest f.coming refl seen room s.behind view len
