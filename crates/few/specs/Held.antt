-- The items of a list of few, and what a push does.
use Rattle.std.specs.Prelude.{◌≡◌, ℕ, ◌<◌, List, [], ◌∷◌, ◌++◌, length, take, Ok, Err, Result}
use Rattle.few.specs.declared.list.Few.{Few}
use Rattle.few.specs.declared.list.Full.{Full}

abbrev pub held : {T : Type 0} {N : ℕ} → Few T N → List T
held f = take f.len f.items

-- Behind the others, or, where there are n, nothing.
abbrev pub Pushed : {T : Type 0} → ℕ → List T → T → Result Unit Full → List T → Type 0
Pushed n old x (Ok _) new = (length old < n) × (new ≡ old ++ x ∷ [])
Pushed n old x (Err _) new = (length old ≡ n) × (new ≡ old)
