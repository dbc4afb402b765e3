-- Texts in quotes, for rows that are worked by hand.
-- Assumes nothing.
use Rattle.std.specs.Prelude.{List, [], ◌∷◌, ℕ}
use Prim.Native.Char.{code}
use Prim.Native.String.{String, [] as nothing, ◌∷◌ as ◌then◌}

-- The bytes of a text of ASCII characters.
abbrev pub bytes_of : String → List ℕ
bytes_of nothing = []
bytes_of (c then s) = code c ∷ bytes_of s
