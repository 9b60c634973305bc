-- The instructions by their codes, for claims that have a line for each of them. A new instruction is a constructor here, and a line there.
use Rattle.std.specs.Prelude.{ℕ, zero, suc, ◌<◌}
use Rattle.std.proofs.Common.{arith}
use Rattle.mnemonics.specs.Table as code

pub data Instruction : ℕ → Type 0 where
  PU : Instruction code.PU
  PD : Instruction code.PD
  PA : Instruction code.PA
  PR : Instruction code.PR
  IN : Instruction code.IN
  DF : Instruction code.DF
  EP : Instruction code.EP
  IP : Instruction code.IP
  SC : Instruction code.SC
  IW : Instruction code.IW
  RO : Instruction code.RO
  SP : Instruction code.SP
  PM : Instruction code.PM
  CI : Instruction code.CI
  EA : Instruction code.EA
  ER : Instruction code.ER
  AA : Instruction code.AA
  AR : Instruction code.AR
  OA : Instruction code.OA
  OP : Instruction code.OP
  OW : Instruction code.OW
  OH : Instruction code.OH
  OE : Instruction code.OE

-- every code of the table is one of them
pub instruction : (op : ℕ) → op < code.rows → Instruction op
instruction zero h = PU
instruction (suc zero) h = PD
instruction (suc (suc zero)) h = PA
instruction (suc (suc (suc zero))) h = PR
instruction (suc (suc (suc (suc zero)))) h = IN
instruction (suc (suc (suc (suc (suc zero))))) h = DF
instruction (suc (suc (suc (suc (suc (suc zero)))))) h = EP
instruction (suc (suc (suc (suc (suc (suc (suc zero))))))) h = IP
instruction (suc (suc (suc (suc (suc (suc (suc (suc zero)))))))) h = SC
instruction (suc (suc (suc (suc (suc (suc (suc (suc (suc zero))))))))) h = IW
instruction (suc (suc (suc (suc (suc (suc (suc (suc (suc (suc zero)))))))))) h = RO
instruction (suc (suc (suc (suc (suc (suc (suc (suc (suc (suc (suc zero))))))))))) h = SP
instruction (suc (suc (suc (suc (suc (suc (suc (suc (suc (suc (suc (suc zero)))))))))))) h = PM
instruction (suc (suc (suc (suc (suc (suc (suc (suc (suc (suc (suc (suc (suc zero))))))))))))) h = CI
instruction (suc (suc (suc (suc (suc (suc (suc (suc (suc (suc (suc (suc (suc (suc zero)))))))))))))) h = EA
instruction (suc (suc (suc (suc (suc (suc (suc (suc (suc (suc (suc (suc (suc (suc (suc zero))))))))))))))) h = ER
instruction (suc (suc (suc (suc (suc (suc (suc (suc (suc (suc (suc (suc (suc (suc (suc (suc zero)))))))))))))))) h = AA
instruction (suc (suc (suc (suc (suc (suc (suc (suc (suc (suc (suc (suc (suc (suc (suc (suc (suc zero))))))))))))))))) h = AR
instruction (suc (suc (suc (suc (suc (suc (suc (suc (suc (suc (suc (suc (suc (suc (suc (suc (suc (suc zero)))))))))))))))))) h = OA
instruction (suc (suc (suc (suc (suc (suc (suc (suc (suc (suc (suc (suc (suc (suc (suc (suc (suc (suc (suc zero))))))))))))))))))) h = OP
instruction (suc (suc (suc (suc (suc (suc (suc (suc (suc (suc (suc (suc (suc (suc (suc (suc (suc (suc (suc (suc zero)))))))))))))))))))) h = OW
instruction (suc (suc (suc (suc (suc (suc (suc (suc (suc (suc (suc (suc (suc (suc (suc (suc (suc (suc (suc (suc (suc zero))))))))))))))))))))) h = OH
instruction (suc (suc (suc (suc (suc (suc (suc (suc (suc (suc (suc (suc (suc (suc (suc (suc (suc (suc (suc (suc (suc (suc zero)))))))))))))))))))))) h = OE
instruction (suc (suc (suc (suc (suc (suc (suc (suc (suc (suc (suc (suc (suc (suc (suc (suc (suc (suc (suc (suc (suc (suc (suc op))))))))))))))))))))))) h = absurd (omega arith)
