-- Lines and fields of a text, which is a list of bytes (document 01, 'The sheet'): "Lines end with byte 10; fields are parted
-- by one byte 9." The next line of a text is what stands before its first byte 10, and the next field of a line what stands
-- before its first byte 9.
-- Assumes nothing.
use Rattle.std.specs.Prelude.{Bool, true, false, cond, List, [], ◌∷◌, ℕ, suc, eqb, leb, ltb, length, take, drop, Option, Some, None}

-- How many bytes stand before the first byte b; all of them where there is none.
unfoldable pub before : ℕ → List ℕ → ℕ
before b [] = 0
before b (c ∷ t) = cond (eqb c b) 0 (suc (before b t))

-- The bytes before the first byte b.
unfoldable pub until : ℕ → List ℕ → List ℕ
until b t = take (before b t) t

-- The bytes after the first byte b.
unfoldable pub beyond : ℕ → List ℕ → List ℕ
beyond b t = drop (suc (before b t)) t

-- A byte b is ahead.
unfoldable pub ahead : ℕ → List ℕ → Bool
ahead b t = ltb (before b t) (length t)

-- The next line of a text: the bytes before its first byte 10, where there is one.
unfoldable pub next_line : List ℕ → Option (List ℕ)
next_line t = cond (ahead 10 t) (Some (until 10 t)) None

-- How many bytes b there are: a line has one field more than it has bytes 9.
unfoldable pub count : ℕ → List ℕ → ℕ
count b [] = 0
count b (c ∷ t) = cond (eqb c b) (suc (count b t)) (count b t)

-- Every byte lies in a range, both ends included.
unfoldable pub all : ℕ → ℕ → List ℕ → Bool
all lo hi [] = true
all lo hi (b ∷ t) = cond (leb lo b) (cond (leb b hi) (all lo hi t) false) false
