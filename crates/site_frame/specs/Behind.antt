-- What stands behind the records of a file, of the bytes that came of it.
use Rattle.std.specs.Prelude.{◌≡◌, ◌⊎◌, ℕ, ◌+◌, Bool, true, false, List, [], ◌++◌, length}
use Rattle.site_frame.specs.Record.{head_len}
use Rattle.site_frame.specs.RecordFile.{IsNoRecord, Announces, IsBegun, EndsWithin}
use Rattle.site_frame.specs.Whole.{greatest_rest}
use Rattle.site_frame.specs.declared.fault.RecordWhy.{RecordWhy}
use Rattle.site_frame.specs.declared.coming.Coming.{Coming}
use Rattle.site_frame.specs.declared.coming.Coming.TheVariants.{Head, Rest, Whole, Refused, NoRoom, Finished}

-- the bytes of the greatest record
abbrev pub greatest_record : ℕ
greatest_record = head_len + greatest_rest

-- No record begins with these bytes, whatever follows them, if the file has not ended. They are no more than a head, or
-- than the record of which the head stands there; and no more bytes are lacking, unless the file has ended.
pub record StandsRefused (why : RecordWhy) (left : ℕ) (rest : List ℕ) (ended : Bool) : Type 0 where
  pub refuses : (more : List ℕ) → (ended ≡ true → more ≡ []) → IsNoRecord (rest ++ more) why
  pub within : EndsWithin rest (length rest)
  pub none : (left ≡ 0) ⊎ (ended ≡ true)

-- by what comes next: what came of a head, or of a record whose head came; a record that is whole; what is refused; a
-- head, for whose record there is no memory; or nothing, and the end
abbrev pub Behind : Coming → List ℕ → List ℕ → ℕ → List ℕ → Bool → Type 0
Behind Head head bytes left rest ended = (rest ≡ head) × (length rest + left ≡ head_len) × (ended ≡ false)
Behind Rest head bytes left rest ended = (rest ≡ bytes) × IsBegun rest left × (ended ≡ false)
Behind Whole head bytes left rest ended = (rest ≡ bytes) × IsBegun rest 0 × (ended ≡ false)
Behind (Refused why) head bytes left rest ended = StandsRefused why left rest ended
Behind NoRoom head bytes left rest ended = (length rest ≡ head_len) × ((len : ℕ) × Announces rest len)
Behind Finished head bytes left rest ended = (rest ≡ []) × (ended ≡ true)
