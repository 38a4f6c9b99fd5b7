-- What a buffer holds of a text.
use Rattle.std.specs.Prelude.{ℕ, Bool, true, false, cond, List, [], ◌++◌, length, drop, Some, None, Option, nat_le}
use Rattle.script.specs.Escapes.{put}

abbrev pub length_in : Option (List ℕ) → Option ℕ
length_in None = None
length_in (Some t) = Some (length t)

-- the length of a text that a buffer of so many bytes has room for
abbrev pub fitting : ℕ → Option (List ℕ) → Option ℕ
fitting room None = None
fitting room (Some t) = cond (nat_le (length t) room) (Some (length t)) None

-- a buffer with a text at its front, if there is one and it has room
abbrev pub filled : List ℕ → Option (List ℕ) → List ℕ
filled out None = out
filled out (Some t) = cond (nat_le (length t) (length out)) (t ++ drop (length t) out) out

-- a text by its next byte, if there is one, and the rest
abbrev pub told : Option (Option ℕ) → Option (List ℕ) → Option (List ℕ)
told None rest = None
told (Some None) rest = Some []
told (Some (Some b)) rest = put b rest

abbrev pub is_byte : Option (Option ℕ) → Bool
is_byte None = false
is_byte (Some None) = false
is_byte (Some (Some b)) = true
