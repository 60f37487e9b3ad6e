use Rattle.std.proofs.Common.{arith}
use Rattle.std.proofs.lemmas.Bool.Decides.{nat_tests}
use Rattle.plp_config.proofs.network_rules.has_l1_fields.Goals as goal

pub returns : goal.returns
returns c = rw c.all.ensures (
  λ h. record {
    bwt_ext = grind (arith, nat_tests);
    s2 = grind (arith, nat_tests);
    s2_even = grind (arith, nat_tests);
    guard = grind (arith, nat_tests);
    papr = grind (arith, nat_tests);
    l1_mod = grind (arith, nat_tests);
    l1_cod = grind (arith, nat_tests);
    l1_fec = grind (arith, nat_tests);
    post_size = grind (arith, nat_tests);
    pilot = grind (arith, nat_tests);
    symbols = grind (arith, nat_tests);
    regen = grind (arith, nat_tests);
  },
  λ fits. grind (arith, nat_tests),
)
