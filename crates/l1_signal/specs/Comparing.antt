-- What a configurable part is compared by. No public clause cites this module.
use Rattle.std.specs.Prelude.{ℕ, Bool, List, [], ◌∷◌, slice_index, Ok}
use Rattle.l1_signal.specs.declared.conf.L1Conf.{L1Conf}
use Rattle.l1_signal.specs.Fields.{Reading, after, values_of}
use Rattle.l1_signal.specs.L1Configurable.{conf_first, conf_more, conf_back}

-- what is told before the PLPs
abbrev pub front_told : L1Conf → List ℕ
front_told conf = conf.sub_slices_per_frame ∷ conf.num_plp ∷ conf.num_aux ∷ conf.rf_idx ∷ conf.frequency ∷ []

abbrev pub front_of : List ℕ → List ℕ → List ℕ
front_of first more = slice_index first 0 ∷ slice_index first 1 ∷ slice_index more 0 ∷ slice_index more
    2 ∷ slice_index more 3
    ∷ []

unfoldable pub front_read : List Bool → Reading (List ℕ)
front_read bits =
    after (values_of conf_first bits) (λ first b. after (values_of conf_more b) (λ more c. Ok (front_of first more, c)))

-- and behind them
unfoldable pub back_read : List Bool → Reading ℕ
back_read bits = after (values_of conf_back bits) (λ back rest. Ok (slice_index back 0, rest))
