-- These definitions say which bytes a file has, by what they represent.
use Rattle.std.specs.Prelude.{◌≡◌, ◌≢◌, ◌⊎◌, ℕ, ◌<◌, ◌≤◌, ◌^◌, List, [], ◌∷◌, ◌++◌, length, codes}
use Rattle.byteorder.specs.Endian.{little_bytes}

-- `magic` is what a file begins with after its first gate.
unfoldable pub magic : List ℕ
magic = codes "ASHOST01"

-- `four_bytes n` is a length, with the lowest byte first.
unfoldable pub four_bytes : ℕ → List ℕ
four_bytes n = little_bytes 4 n

-- `eight_bytes n` is the number of a generation, with the lowest byte first.
unfoldable pub eight_bytes : ℕ → List ℕ
eight_bytes n = little_bytes 8 n

-- `mark generation` is the magic and the number of the generation.
unfoldable pub mark : ℕ → List ℕ
mark generation = magic ++ eight_bytes generation

-- `block body` is the length of the body in four bytes, and the body.
unfoldable pub block : List ℕ → List ℕ
block body = four_bytes (length body) ++ body

-- `mark_size` is how many bytes a mark has: the magic and the number of the generation.
abbrev pub mark_size : ℕ
mark_size = 16

-- `prefix_size` is how many bytes a file has before the length of its image: a gate and the mark.
abbrev pub prefix_size : ℕ
prefix_size = 17

-- `header_size` is how many bytes a file has before its image: a gate, the mark and the length of the image.
abbrev pub header_size : ℕ
header_size = 21

-- An image and the body of a record have fewer bytes than `length_limit`. A length that is not below it is damage.
abbrev pub length_limit : ℕ
length_limit = 2 ^ 28

-- `records bodies` are the blocks of the bodies, each after an open gate.
unfoldable pub records : List (List ℕ) → List ℕ
records [] = []
records (body ∷ bodies) = 1 ∷ (block body ++ records bodies)

-- `committed_bytes generation image bodies` is all of a file that counts, up to the gate after its last open record.
unfoldable pub committed_bytes : ℕ → List ℕ → List (List ℕ) → List ℕ
committed_bytes generation image bodies = 1 ∷ (mark generation ++ (block image ++ records bodies))

-- Each body is shorter than the limit.
abbrev pub AreShort : List (List ℕ) → Type 0
AreShort [] = Unit {0}
AreShort (body ∷ bodies) = (length body < length_limit) × AreShort bodies

-- The number of the generation fits eight bytes, and the image and each body are shorter than the limit.
pub record FieldsFit (generation : ℕ) (image : List ℕ) (bodies : List (List ℕ)) : Type 0 where
  pub numbered : generation < 2 ^ 64
  pub image_short : length image < length_limit
  pub bodies_short : AreShort bodies

-- This is a file of the generation, with this image and these records; the gate after the last of them is not 1, and
-- anything may follow it.
pub record IsFile (generation : ℕ) (image : List ℕ) (bodies : List (List ℕ)) (file : List ℕ) : Type 0 where
  pub gate : ℕ
  pub after : List ℕ
  pub shut : gate ≢ 1
  pub bytes : file ≡ committed_bytes generation image bodies ++ gate ∷ after
  pub fits : FieldsFit generation image bodies

-- The first gate is 1, and something follows it.
abbrev pub IsOpen : List ℕ → Type 0
IsOpen [] = ⊥
IsOpen (gate ∷ []) = ⊥
IsOpen (gate ∷ second ∷ rest) = gate ≡ 1

-- The first gate is not 1, or nothing follows it.
abbrev pub IsClosed : List ℕ → Type 0
IsClosed [] = Unit {0}
IsClosed (gate ∷ []) = Unit {0}
IsClosed (gate ∷ second ∷ rest) = gate ≢ 1

-- The first gate is 0.
abbrev pub IsShut : List ℕ → Type 0
IsShut [] = ⊥
IsShut (gate ∷ rest) = gate ≡ 0

-- The file is open, and has the magic and this generation.
pub record HasMark (generation : ℕ) (file : List ℕ) : Type 0 where
  pub rest : List ℕ
  pub bytes : file ≡ 1 ∷ (mark generation ++ rest)
  pub numbered : generation < 2 ^ 64

-- The length is cut short, or it is not below the limit, or what it is the length of is cut short, or the gate after
-- that.
abbrev pub IsDamaged : List ℕ → Type 0
IsDamaged rest =
    (length rest < 4)
    ⊎ ((n : ℕ) × (more : List ℕ) × (n < 2 ^ 32) × (rest ≡ four_bytes n ++ more)
    × ((length_limit ≤ n) ⊎ (length more ≤ n)))

-- The file is open, and it has no magic and generation.
abbrev pub LacksMark : List ℕ → Type 0
LacksMark file = IsOpen file × ((generation : ℕ) → HasMark generation file → ⊥)

-- An open file is damaged, as this offset says: 0 if its image is, else the gate before the record that is.
abbrev pub IsDamagedAt : ℕ → List ℕ → Type 0
IsDamagedAt at file =
    ((generation : ℕ) × (rest : List ℕ) × (file ≡ 1 ∷ (mark generation ++ rest)) × IsDamaged rest × (at ≡ 0))
    ⊎ ((generation : ℕ) × (image : List ℕ) × (bodies : List (List ℕ)) × (rest : List ℕ)
    × FieldsFit generation image bodies
    × (file ≡ committed_bytes generation image bodies ++ 1 ∷ rest) × IsDamaged rest
    × (at ≡ length (committed_bytes generation image bodies)))
