-- A line with two operands has its form.
use Rattle.std.proofs.Common.{◌≡◌, Bool, true, false, ◌&&◌, Some, refl}
use Rattle.model.specs.Lines.{is_operand}
use Rattle.reader.specs.declared.token.Token.{Token}
use Rattle.reader.specs.declared.token.Token.TheVariants.{Operand, Other}
use Rattle.reader.specs.declared.token.Operand.{Operand as OwnOperand}
use Rattle.reader.specs.declared.token.Operand.TheVariants.{Word, Number, Negative, Earlier}
use Rattle.reader.specs.Seen.{kind_in, operand_in}

pub operand_fits : (t : Token) (o : OwnOperand) → operand_in t ≡ Some o → is_operand (kind_in t) ≡ true
operand_fits (Operand (Word w)) o e = refl
operand_fits (Operand (Number w)) o e = refl
operand_fits (Operand (Negative w)) o e = refl
operand_fits (Operand (Earlier w)) o e = refl
operand_fits (Other p) o e = cc

pub all_five : (a b c d e : Bool) → (a && b) ≡ true → c ≡ true → d ≡ true → e ≡ true → (a && (b && (c && (d && (e && true))))) ≡ true
all_five true true true true true p q r s = refl
all_five true true true true false p q r s = s
all_five true true true false e p q r s = r
all_five true true false d e p q r s = q
all_five true false c d e p q r s = p
all_five false b c d e p q r s = p
