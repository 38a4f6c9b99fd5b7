-- The words for codes and layers, as texts and answers write them.
use Rattle.std.specs.Prelude.{ℕ, List, codes}
use Rattle.model.specs.declared.Code.{Code}
use Rattle.model.specs.declared.Code.TheVariants.{Load, Store, Add, Sub, Mul, Move}
use Rattle.model.specs.declared.Layer.{Layer}
use Rattle.model.specs.declared.Layer.TheVariants.{Text, Graph, Plan, Code as CodeLayer}

abbrev pub code_word : Code → List ℕ
code_word Load = codes "load"
code_word Store = codes "store"
code_word Add = codes "add"
code_word Sub = codes "sub"
code_word Mul = codes "mul"
code_word Move = codes "move"

abbrev pub layer_word : Layer → List ℕ
layer_word Text = codes "text"
layer_word Graph = codes "graph"
layer_word Plan = codes "plan"
layer_word CodeLayer = codes "code"
