use Rattle.std.proofs.Common.{arith}
use Rattle.bit_slice.proofs.PrbsLemmas.{byte_is, register_is}
use Rattle.bit_slice.proofs.prbs.Prbs.next_byte.Goals as goal

pub returns-clause-byte : goal.returns-clause-byte
returns-clause-byte c = λ given h. byte_is given c.args.self.now.register h.register

pub returns-clause-stands : goal.returns-clause-stands
returns-clause-stands c = λ given h. record {
  register = register_is given c.args.self.now.register (omega arith)
      h.register;
}
