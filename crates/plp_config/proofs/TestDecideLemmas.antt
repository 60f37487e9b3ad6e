-- Every test of the capacity is decided, so a configuration passes all or lacks something.
use Rattle.std.proofs.Common.{◌≡◌, ℕ, ◌+◌, ◌-◌, ◌*◌, ◌%◌, true, false, length, Some, None, refl, ap, subst, ◌∙◌, inl}
use Rattle.std.proofs.Common.{inr, arith}
use Rattle.std.proofs.Math.Decide.{dec_le, ℕ_discrete}
use Rattle.terms.proofs.DecisionLemmas.{first_failure, decide_below}
use Rattle.plp_config.proofs.CapacityLemmas.{test_at, test_at-test_number, test_number-test_at, test_number-range}
use Rattle.plp_config.specs.Capacity.{Test, Throughput, CellCount, EvenParts, CellAddresses, RecordLength, test_number}
use Rattle.plp_config.specs.Capacity.{is_of_plps}
use Rattle.plp_config.specs.Capacity.{need_of, supply_of, block_cells, up_bytes, capacity, cell_need, block_parts}
use Rattle.plp_config.specs.Capacity.{longest_rest}
use Rattle.plp_config.specs.Capacity.{PlaceFits, TestHolds, TestsBelow, Lacks}
use Rattle.plp_config.specs.FirstFailure.{HoldsBelow}
use Rattle.plp_config.specs.Laws.{TestsDecided}
use Rattle.plp_config.specs.SlotTime.{num, den, epoch_ticks}
use Rattle.plp_config.specs.declared.config.Config.{Config}
use Rattle.plp_config.specs.declared.capacity.CapacityFault.{CapacityFault}
use Rattle.plp_config.specs.declared.config.TheConstants.{GREATEST_REST, MOST_CELLS}

decide_place : (test : Test) (c : Config) (plp : ℕ) → Dec (PlaceFits test c plp)
decide_place Throughput c plp = dec_le (up_bytes c plp * epoch_ticks c plp * den c plp) (capacity c plp * num c)
decide_place EvenParts c plp = ℕ_discrete (block_cells c plp % block_parts c plp) 0
decide_place CellCount c plp = yes tt
decide_place CellAddresses c plp = yes tt
decide_place RecordLength c plp = yes tt

decide_test : (test : Test) (c : Config) → Dec (TestHolds test c)
decide_test Throughput c = decide_below _ (decide_place Throughput c) (length c.plps)
decide_test CellCount c = dec_le (cell_need c) c.cells
decide_test EvenParts c = decide_below _ (decide_place EvenParts c) (length c.plps)
decide_test CellAddresses c = dec_le c.cells MOST_CELLS
decide_test RecordLength c = dec_le (longest_rest c) GREATEST_REST

abbrev Lacking : Config → Type 0
Lacking c = (fault : CapacityFault) × Lacks c fault

-- the refusal for a test of the frame
lacks_frame : (c : Config) (test : Test) → is_of_plps test ≡ false → ¬ (TestHolds test c)
    → TestsBelow (test_number test) c
    → Lacking c
lacks_frame c test whole fails lower = (
  record { test = test_number test; plp = None; need = need_of test c 0; have = supply_of test c 0 },
  record {
    test = test;
    number = refl;
    fails = fails;
    lower = lower;
    place = rw whole refl;
    need = refl;
    supply = refl;
  },
)

-- the refusal for a test of single PLPs
lacks_plp : (c : Config) (test : Test) → is_of_plps test ≡ true
    → (HoldsBelow (PlaceFits test c) (length c.plps) → TestHolds test c)
    → ¬ (TestHolds test c) → TestsBelow (test_number test) c → Lacking c
lacks_plp c test single parts fails lower =
    elim (first_failure (PlaceFits test c) (decide_place test c) (length c.plps)) [
      | inl all ↦ absurd (fails (parts all))
      | inr found ↦ (
        record {
          test = test_number test;
          plp = Some found.0;
          need = need_of test c found.0;
          have = supply_of
              test c found.0;
        },
        record {
          test = test;
          number = refl;
          fails = fails;
          lower = lower;
          place = rw single (record { inside = found.1; fails = found.2; before = found.3 });
          need = refl;
          supply = refl;
        },
      )
    ]

lacks_by : (c : Config) (test : Test) → ¬ (TestHolds test c) → TestsBelow (test_number test) c → Lacking c
lacks_by c Throughput fails lower = lacks_plp c Throughput refl (λ h. h) fails lower
lacks_by c CellCount fails lower = lacks_frame c CellCount refl fails lower
lacks_by c EvenParts fails lower = lacks_plp c EvenParts refl (λ h. h) fails lower
lacks_by c CellAddresses fails lower = lacks_frame c CellAddresses refl fails lower
lacks_by c RecordLength fails lower = lacks_frame c RecordLength refl fails lower

-- the test at a place holds
abbrev HoldsAt : Config → ℕ → Type 0
HoldsAt c place = TestHolds (test_at (place + 1)) c

-- what is so at the place of a test is so of the test
holds_of : (c : Config) (test : Test) → HoldsAt c (test_number test - 1) → TestHolds test c
holds_of c test h =
    let number : test_number test - 1 + 1 ≡ test_number test = omega (arith, test_number-range test) in
    subst (λ (t : Test). TestHolds t c) (ap test_at number ∙ test_at-test_number test) h

pub tests_decided : TestsDecided
tests_decided c =
    elim (first_failure (HoldsAt c) (λ place. decide_test (test_at (place + 1)) c) 5) [
      | inl all ↦ inl (λ test. holds_of c test (all (test_number test - 1) (omega (arith, test_number-range test))))
      | inr found ↦
          let number : test_number (test_at (found.0 + 1)) ≡ found.0 + 1 = test_number-test_at found.0 found.1 in
          inr (lacks_by c (test_at (found.0 + 1)) found.2
          (λ other lt.
          holds_of c other (found.3 (test_number other - 1) (omega (arith, lt, number, test_number-range other)))))
    ]
