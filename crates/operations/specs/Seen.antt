-- The operations of the code as the definitions have them.
use Rattle.std.specs.Prelude.{◌≡◌, Option, Some, None}
use Rattle.model.specs.Loop.{Operation, load, store, binary, move}
use Rattle.operations.specs.declared.operation.Cell.{Cell}
use Rattle.operations.specs.declared.operation.Operation.{Operation as OwnOperation}
use Rattle.operations.specs.declared.operation.Operation.TheVariants.{Load, Store, Binary, Move}

-- Each operand as f sees it.
abbrev pub seen : {A B : Type 0} → (A → B) → OwnOperation A → Operation B
seen f (Load c) = load c.stride c.offset
seen f (Store a c) = store (f a) c.stride c.offset
seen f (Binary o a b) = binary o (f a) (f b)
seen f (Move a) = move (f a)

abbrev pub cell_in : {A : Type 0} → OwnOperation A → Option Cell
cell_in (Load c) = Some c
cell_in (Store a c) = Some c
cell_in (Binary o a b) = None
cell_in (Move a) = None

-- P of each operand.
abbrev pub EachOwn : {A : Type 0} → (A → Type 0) → OwnOperation A → Type 0
EachOwn P (Load c) = Unit {0}
EachOwn P (Store a c) = P a
EachOwn P (Binary o a b) = P a × P b
EachOwn P (Move a) = P a

-- The same operation, each operand turned into one that R allows.
abbrev pub Turned : {A B : Type 0} → (A → B → Type 0) → OwnOperation A → OwnOperation B → Type 0
Turned R (Load c) t = t ≡ Load c
Turned {B = B} R (Store a c) t = (x : B) × R a x × t ≡ Store x c
Turned {B = B} R (Binary o a b) t = (x : B) × R a x × (y : B) × R b y × t ≡ Binary o x y
Turned {B = B} R (Move a) t = (x : B) × R a x × t ≡ Move x
