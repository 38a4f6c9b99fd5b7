-- What is printed for a code is what a text says for it. Assumes nothing.
use Rattle.std.proofs.Common.{◌≡◌, Some, refl}
use Rattle.model.specs.declared.Code.{Code}
use Rattle.model.specs.declared.Code.TheVariants.{Load, Store, Add, Sub, Mul, Move}
use Rattle.model.specs.Shapes.{code_of}
use Rattle.model.specs.Printed.{code_word}

pub read_back : (c : Code) → code_of (code_word c) ≡ Some c
read_back Load = refl
read_back Store = refl
read_back Add = refl
read_back Sub = refl
read_back Mul = refl
read_back Move = refl
